-- A journal that is refused isn't recovered.
use Rattle.std.proofs.Common.{◌≡◌, IsTrue, ap}
use Rattle.std.specs.Prelude.{Some, None, Ok}
use Rattle.vd_disk.specs.Disk.{DiskSeen, Sectors}
use Rattle.vd_yard.specs.Kept.{kept_at}
use Rattle.vd_yard.specs.Yard.{YardSeen}
use Rattle.plan_types.specs.declared.store.StorePlan.{StorePlan}
use Rattle.journal_layout.specs.Recovery.{GivesOnce, Recovers}
use Rattle.journal_recover.specs.Answers.{Answers}
use Rattle.journal_recover.specs.declared.found.Recovered.{Recovered}
use Rattle.still_store.specs.Recovery.{JournalRefused, journal_missing, journal_refused, outcome_status}

pub never_recovered : (a : YardSeen) (store : StorePlan) (got : Recovered) → GivesOnce → (IsTrue a.tells.keeps_disks → kept_at a.disks store.journal ≡ None → ⊥)
    → ((disk : DiskSeen) → kept_at a.disks store.journal ≡ Some disk → (sectors : Sectors) → disk.told ≡ Some sectors → Answers sectors store.id (Ok got)) → JournalRefused a store → ⊥
never_recovered a store got once gone answers (journal_missing keeps none) = gone keeps none
never_recovered a store got once gone answers (journal_refused disk sectors outcome kept told gives bad) =
    let found = answers disk kept sectors told in
    let same : outcome ≡ Recovers got.live found.0 got.entries.items = once sectors store.id outcome _ gives found.2 in
    bad (ap outcome_status same)
