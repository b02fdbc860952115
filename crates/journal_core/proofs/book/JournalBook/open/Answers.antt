use Rattle.std.proofs.Common.{Vec, ◌≡◌, ◌-◌, ℕ, false, length, sym, subst}
use Rattle.std.specs.declared.alloc.Global.{Global}
use Rattle.std.proofs.lemmas.Grind.{merely}
use Rattle.key_state.specs.declared.entry.Entry.{Entry}
use Rattle.key_state.specs.Entries.{AreEntries}
use Rattle.journal_core.proofs.Opened.{keeps_opened}
use Rattle.journal_layout.specs.declared.live.Live.{Live}
use Rattle.journal_core.specs.Keeps.{Keeps, first_live, first_story, new_memory}
use Rattle.journal_core.specs.Opening.{Opens}
use Rattle.journal_core.proofs.book.JournalBook.open.Goals as goal

pub invariant_of-result-clause-kept_valid : goal.invariant_of-result-clause-kept_valid
invariant_of-result-clause-kept_valid g c = subst (λ (v : Vec Entry Global). AreEntries v.items) (sym c.of-kept.ensures) c.requires.valid

pub invariant_of-result-clause-keeps : goal.invariant_of-result-clause-keeps
invariant_of-result-clause-keeps g c =
    let met = g.met.D.Disk in
    let disk = g.D.Disk.seen c.args.disk in
    let at = length disk.moments - 1 in
    let new = new_memory c.args.live c.args.entries.items c.blank.result at in
    let kept = keeps_opened c.args.live c.args.entries.items c.blank.result disk c.requires.version c.requires.limits c.requires.one_each c.blank.ensures c.requires.room (met.is_tale c.args.disk) c.requires.fits in
    let one : Keeps disk (record new { kept = c.of-kept.result.value.items }) (first_story c.args.entries.items) = subst (λ (v : Vec Entry Global). Keeps disk (record new { kept = v.items }) (first_story c.args.entries.items)) (sym c.of-kept.ensures) kept in
    let two : Keeps disk (record new { kept = c.of-kept.result.value.items; first_entries = c.of-first_entries.result.value.items }) (first_story c.args.entries.items) =
    subst (λ (v : Vec Entry Global). Keeps disk (record new { kept = c.of-kept.result.value.items; first_entries = v.items }) (first_story c.args.entries.items)) (sym c.of-first_entries.ensures) one in
    let three : Keeps disk (record new { kept = c.of-kept.result.value.items; first_entries = c.of-first_entries.result.value.items; first_epoch = c.of-first_epoch.result.value }) (first_story c.args.entries.items) =
    subst (λ (n : ℕ). Keeps disk (record new { kept = c.of-kept.result.value.items; first_entries = c.of-first_entries.result.value.items; first_epoch = n }) (first_story c.args.entries.items)) (sym c.of-first_epoch.ensures) two in
    merely (
      first_story c.args.entries.items,
      subst (λ (d : g.row.D.Denot). Keeps disk (record new {
        kept = c.of-kept.result.value.items;
        first_entries = c.of-first_entries.result.value.items;
        first_epoch = c.of-first_epoch.result.value;
        start = length (g.D.Disk.seen d).moments - 1;
      }) (first_story c.args.entries.items))
          (sym c.of-opened.ensures) three,
    )

pub returns-clause-memory : goal.returns-clause-memory
returns-clause-memory g c = λ i. record {
  live = c.args.live;
  entries = c.args.entries.items;
  sector = c.blank.ensures i;
  place = 0;
  count = 0;
  records = 0;
  written = 0;
  synced = 0;
  stopped = false;
  ends = 0;
  clears = 0;
  asked = false;
  kept = (c.of-kept.ensures i).items;
  start = length (g.D.Disk.seen (c.of-opened.ensures i)).moments - 1;
  first_epoch = c.of-first_epoch.ensures i;
  first_entries = (c.of-first_entries.ensures i).items;
}

pub invariant_of-result-clause-opening : goal.invariant_of-result-clause-opening
invariant_of-result-clause-opening g c =
    let began = g.D.Disk.seen c.args.began.value in
    let live = c.args.live in
    let epoch = c.of-first_epoch.result.value in
    let one : Opens live c.args.entries.items began.told began.moments (g.D.Disk.seen c.of-opened.result.value).moments =
    subst (λ (d : g.row.D.Denot). Opens live c.args.entries.items began.told began.moments (g.D.Disk.seen d).moments) (sym c.of-opened.ensures) c.requires.opening in
    let two : Opens live c.of-first_entries.result.value.items began.told began.moments (g.D.Disk.seen c.of-opened.result.value).moments =
    subst (λ (v : Vec Entry Global). Opens live v.items began.told began.moments (g.D.Disk.seen c.of-opened.result.value).moments) (sym c.of-first_entries.ensures) one in
    let same : live ≡ first_live live epoch = λ i. record { version = c.requires.version i; epoch = sym c.of-first_epoch.ensures i; id = live.id; log_sectors = live.log_sectors } in
    merely (subst (λ (l : Live). Opens l c.of-first_entries.result.value.items began.told began.moments (g.D.Disk.seen c.of-opened.result.value).moments) same two)
