use Rattle.std.proofs.Common.{rules, ◌≡◌, ◌+◌, ◌-◌, ◌/◌, [], Some, slice_index_or, ℕ, ◌∷◌, ◌++◌, List, sym, ap, ◌∙◌, subst, arith}
use Rattle.std.proofs.lemmas.Option.{get_or_from_slice_get}
use Rattle.vd_disk.specs.Disk.{DiskSeen}
use Rattle.journal_layout.specs.Log.{HasHead}
use Rattle.journal_layout.specs.Recovery.{log_start}
use Rattle.journal_list.specs.Lists.{AreThose, IsHeaded}
use Rattle.journal_list.proofs.Those.{those_skip, those_more}
use Rattle.journal_list.proofs.unused.unused_sectors.Goals as goal
use Rattle.journal_list.proofs.unused.unused_sectors.Goals.{then-is_headed+in_ok-push, else-is_headed}

pub loop-place-preserved : goal.loop-place-preserved
loop-place-preserved g c = record {
  seen = search rules;
  from = omega (arith, c.loop-place.invariant.from);
  few = elim c.if-is_headed.branch [
    | then-is_headed+in_ok-push w ↦ search rules
    | else-is_headed w ↦ search rules
  ];
  those = λ x told.
      let live = c.args.live.now in
      let start = log_start live in
      let p = c.loop-place.place in
      let low = start + (c.args.records + 29) / 30 in
      let then : (g.D.Disk.seen c.loop-place.disk).told ≡ Some x = ap (λ (d : DiskSeen). d.told) c.loop-place.invariant.seen ∙ told in
      let read : c.read.new.out ≡ slice_index_or x (start + p) [] =
      sym (get_or_from_slice_get x c.log_sector-at.result c.read.new.out [] (c.in_ok-read.ensures.gives x then)) ∙ ap (λ n. slice_index_or x n []) c.log_sector-at.ensures.value in
      let place : (start + p) - start ≡ p = omega arith in
      let next : (start + p) + 1 ≡ start + (p + 1) = omega arith in
      let so_far = c.loop-place.invariant.those x told in
      subst (λ n. AreThose (IsHeaded x live) low n c.if-is_headed.unused.items) next
      (elim c.if-is_headed.branch [
        | then-is_headed+in_ok-push w ↦
            let headed : HasHead live.version live.epoch p c.read.new.out = c.is_headed.ensures.0 (search rules) in
            let fits : IsHeaded x live (start + p) =
            subst (λ n. HasHead live.version live.epoch n (slice_index_or x (start + p) [])) (sym place) (subst (λ (s : List ℕ). HasHead live.version live.epoch p s) read headed) in
            let is : c.loop-place.unused.items ++ (start + p) ∷ [] ≡ c.if-is_headed.unused.items = search rules in
            subst (AreThose (IsHeaded x live) low ((start + p) + 1)) is
            (those_more (IsHeaded x live) low (start + p) c.loop-place.unused.items (omega (arith, c.loop-place.invariant.from)) fits so_far)
        | else-is_headed w ↦
            let none = λ (fits : IsHeaded x live (start + p)).
            let headed = c.is_headed.ensures.1 (subst (λ (s : List ℕ). HasHead live.version live.epoch p s) (sym read) (subst (λ n. HasHead live.version live.epoch n (slice_index_or x (start + p) [])) place fits)) in
            let wrong : ⊥ = search rules in wrong in
            let is : c.loop-place.unused.items ≡ c.if-is_headed.unused.items = search rules in
            subst (AreThose (IsHeaded x live) low ((start + p) + 1)) is
            (those_skip (IsHeaded x live) low (start + p) c.loop-place.unused.items none so_far)
      ]);
}

pub returns-clause-unused : goal.returns-clause-unused
returns-clause-unused g c = λ x told.
    let live = c.args.live.now in
    let end : c.loop-place.place ≡ live.log_sectors = omega (arith, c.loop-place.invariant.from) in
    subst (λ n. AreThose (IsHeaded x live) (log_start live + (c.args.records + 29) / 30) (log_start live + n) c.loop-place.unused.items) end (c.loop-place.invariant.those x told)
