use Rattle.std.proofs.Common.{◌≡◌, rules, refl, sym, ap, ◌∙◌, None, List, ℕ}
use Rattle.vd_yard.specs.Out.{AtDisk, AtPasses}
use Rattle.vd_yard.specs.Kept.{kept_at}
use Rattle.std.specs.Prelude.{Some}
use Rattle.vd_yard.specs.MemYard.{disks_in}
use Rattle.vd_yard.specs.PathMap.{map_of}
use Rattle.vd_yard.specs.Ledger.{ledger_out}
use Rattle.vd_yard.proofs.Came.{still_willing, never_refused}
use Rattle.vd_yard.proofs.Opened.{opened_other, opened_here, disk_not_there, found_some}
use Rattle.vd_yard.proofs.Seen.{disk_told, disk_found}
use Rattle.vd_yard.proofs.memory.MemYardYard.disk.Goals as goal

pub returns-then-is_next_refused-clause-opens : goal.returns-then-is_next_refused-clause-opens
returns-then-is_next_refused-clause-opens c = record {
  later = search rules;
  failed = search rules;
  kept = search rules;
  taken = search rules;
  not_taken = search rules;
  counts = search rules;
  tells = search rules;
  willing = still_willing _ _ _ c.is_next_refused.ensures.counted;
  files = λ kind path there. there;
  disks = search rules;
  contents = search rules;
}

pub returns-then-is_next_refused-clause-willing : goal.returns-then-is_next_refused-clause-willing
returns-then-is_next_refused-clause-willing c = λ willing there failed. never_refused c.args.path.now c.args.self.now.refusals c.is_next_refused.result c.is_next_refused.ensures.answer c.if-is_next_refused.true willing

pub returns-in_default-clause-opens : goal.returns-in_default-clause-opens
returns-in_default-clause-opens c = record {
  later = search rules;
  failed = search rules;
  kept = search rules;
  taken = search rules;
  not_taken = search rules;
  counts = search rules;
  tells = search rules;
  willing = still_willing _ _ _ c.is_next_refused.ensures.counted;
  files = λ kind path there. there;
  disks = search rules;
  contents = search rules;
}

pub returns-in_default-clause-willing : goal.returns-in_default-clause-willing
returns-in_default-clause-willing c = λ willing there failed.
    let d = c.args.self.now in
    let none : kept_at (disks_in (map_of d.disks)) c.args.path.now ≡ None =
    ap (λ (q : List ℕ). kept_at (disks_in (map_of d.disks)) q) (sym c.as_bytes.ensures) ∙ c.in_default.ensures in
    disk_not_there (map_of d.files) (map_of d.disks) (map_of d.contents) c.args.path.now none there

pub returns-in_default-copy-clause-opens : goal.returns-in_default-copy-clause-opens
returns-in_default-copy-clause-opens c = record {
  later = search rules;
  failed = search rules;
  kept = search rules;
  taken = search rules;
  not_taken = search rules;
  counts = search rules;
  tells = search rules;
  willing = still_willing _ _ _ c.is_next_refused.ensures.counted;
  files = λ kind path there. there;
  disks = search rules;
  contents = search rules;
}

pub invariant_of-self-2 : goal.invariant_of-self-2
invariant_of-self-2 c =
    let d = c.args.self.now in
    record {
      disks_there = opened_here AtDisk c.args.path.now (ledger_out d.ledger) (ledger_out c.open.new.self) (map_of d.disks) c.open.result c.open.ensures.out c.open.ensures.err (found_some c.as_bytes.result.now c.args.path.now (map_of d.disks) (Some c.in-Some.disk.now) c.as_bytes.ensures c.in-Some.ensures) d.disks_there;
      contents_there = opened_other AtPasses AtDisk c.args.path.now (ledger_out d.ledger) (ledger_out c.open.new.self) (map_of d.contents) c.open.result c.open.ensures.out c.open.ensures.err refl d.contents_there;
    }

pub returns-in-Ok-open-clause-opens : goal.returns-in-Ok-open-clause-opens
returns-in-Ok-open-clause-opens c = record {
  later = search rules;
  failed = search rules;
  kept = search rules;
  taken = search rules;
  not_taken = search rules;
  counts = search rules;
  tells = search rules;
  willing = still_willing _ _ _ c.is_next_refused.ensures.counted;
  files = λ kind path there. there;
  disks = search rules;
  contents = search rules;
}

pub returns-in-Ok-open-clause-told : goal.returns-in-Ok-open-clause-told
returns-in-Ok-open-clause-told c = λ kept is.
    c.in-Ok.ensures.seen ∙ disk_told (map_of c.args.self.now.disks) c.args.path.now c.as_bytes.result.now c.in-Some.disk.now kept c.as_bytes.ensures c.in-Some.ensures is

pub returns-in-Err-clause-opens : goal.returns-in-Err-clause-opens
returns-in-Err-clause-opens c = record {
  later = search rules;
  failed = search rules;
  kept = search rules;
  taken = search rules;
  not_taken = search rules;
  counts = search rules;
  tells = search rules;
  willing = still_willing _ _ _ c.is_next_refused.ensures.counted;
  files = λ kind path there. there;
  disks = search rules;
  contents = search rules;
}

pub returns-in-Ok-open-clause-absent : goal.returns-in-Ok-open-clause-absent
returns-in-Ok-open-clause-absent c = λ keeps none.
    absurd (disk_found (map_of c.args.self.now.disks) c.args.path.now c.as_bytes.result.now c.in-Some.disk.now c.as_bytes.ensures c.in-Some.ensures none)
