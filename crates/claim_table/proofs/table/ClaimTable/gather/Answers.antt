use Rattle.std.proofs.Common.{arith, sym, ap, subst, ◌∙◌, ◌≡◌, List, [], ◌∷◌, ◌++◌, map, append_assoc, Some}
use Rattle.std.proofs.lemmas.List.Elements.{All-pop}
use Rattle.claim_table.specs.Views.{parts}
use Rattle.claim_table.specs.Closings.{Gathered}
use Rattle.claim_table.specs.Seats.{view_of, IsIdle}
use Rattle.claim_table.specs.declared.table.ClaimSeat.{ClaimSeat}
use Rattle.claim_table.specs.declared.view.View.{View}
use Rattle.claim_table.proofs.LastState.{gathered_more, gathered_one, no_parts, all_back, parts_add}
use Rattle.claim_table.proofs.table.ClaimTable.gather.Goals as goal

pub unreachable-requires : goal.unreachable-requires
unreachable-requires g c = omega (arith, c.in_default.ensures.cases.0, c.requires.all, c.args.self.now.seats, no_parts c.args.seats.items (omega (arith, c.in_default.ensures.cases.0)))

pub loop-other-init : goal.loop-other-init
loop-other-init g c =
    let rest : List ClaimSeat = c.pop.new.self.items in
    let popped : ClaimSeat = c.in-Some.all in
    let is : c.args.seats.items ≡ rest ++ popped ∷ [] = c.in-Some.ensures.items in
    let idle = All-pop (IsIdle c.args.self.now) c.args.seats.items rest (Some popped) is c.requires.idle in
    record { idle = idle.1; left = idle.0; back = popped ∷ []; split = is; gathered = gathered_one (view_of popped) }

pub loop-other-preserved : goal.loop-other-preserved
loop-other-preserved g c =
    let i = c.loop-other.invariant in
    let rest : List ClaimSeat = c.pop-in-loop-other.new.self.items in
    let popped : ClaimSeat = c.in-Some-pop.other in
    let is : c.loop-other.seats.items ≡ rest ++ popped ∷ [] = c.in-Some-pop.ensures.items in
    let idle = All-pop (IsIdle c.args.self.now) c.loop-other.seats.items rest (Some popped) is i.left in
    let view = c.join.ensures.joined in
    let G : View → Type 0 = Gathered (map view_of (popped ∷ i.back)) in
    record {
      idle = (c.join.ensures.of, ap (λ v. v.held) view ∙ i.idle.1, ap (λ v. v.loan) view ∙ i.idle.2);
      left = idle.0;
      back = popped ∷ i.back;
      split = i.split ∙ (ap (λ (xs : List ClaimSeat). xs ++ i.back) is ∙ append_assoc rest (popped ∷ []) i.back);
      gathered = subst G (sym view) (gathered_more (map view_of i.back) (view_of c.loop-other.all) (view_of popped) i.gathered);
    }

pub returns-clause-all : goal.returns-clause-all
returns-clause-all g c =
    let i = c.loop-other.invariant in
    let G : List ClaimSeat → Type 0 = λ xs. Gathered (map view_of xs) (view_of c.loop-other.all) in
    subst G (all_back c.args.seats.items c.loop-other.seats.items i.back i.split (omega (arith, c.in_default-pop.ensures.cases.0))) i.gathered

pub returns-clause-whole : goal.returns-clause-whole
returns-clause-whole g c =
    let i = c.loop-other.invariant in
    let G : List ClaimSeat → Type 0 = λ xs. Gathered (map view_of xs) (view_of c.loop-other.all) in
    let gathered = subst G (all_back c.args.seats.items c.loop-other.seats.items i.back i.split (omega (arith, c.in_default-pop.ensures.cases.0))) i.gathered in
    let all = gathered.sums parts parts_add ∙ c.requires.all in
    (all, omega (arith, all, c.args.self.now.seats))
