-- What follows from what verified stores leave.
use Rattle.std.specs.Prelude.{◌≡◌, List, count_by}
use Rattle.std.specs.List.{AllZip}
use Rattle.vd_base.specs.declared.geometry.StoreId.{StoreId}
use Rattle.vd_arm.specs.Arm.{PassSeen}
use Rattle.vd_yard.specs.Yard.{YardSeen}
use Rattle.plan_types.specs.declared.store.StorePlan.{StorePlan}
use Rattle.key_state.specs.declared.entry.Entry.{Entry}
use Rattle.journal_recover.specs.declared.found.Recovered.{Recovered}
use Rattle.recover_run.specs.declared.look.Look.{Look}
use Rattle.recover_run.specs.Looks.{AreLooks, is_unread, settled_from}
use Rattle.still_plan.specs.Stores.{AllVerify}
use Rattle.plan_verified.specs.Stores.{FitsTold, FitWhereRead, LeaveStores, StoreSeen}

-- Verified stores are verified as those of a command that ends with that.
abbrev pub VerifyAsStill : Type 0
VerifyAsStill =
    (old new : YardSeen) (stores : List StorePlan) (found : List Recovered) (seen : List (List Look)) (left : List StoreSeen)
    → LeaveStores old new stores found seen left → AllVerify old new stores found seen

-- Where each block was readable, all that the passes tell fits the entries that are left.
abbrev pub FitWhereAllRead : Type 0
FitWhereAllRead =
    (id : StoreId) (passes : List PassSeen) (looks : List Look) (settled : List Entry)
    → count_by is_unread looks ≡ 0 → FitWhereRead id passes looks settled → AllZip (FitsTold id) passes settled

-- Where it fitted the entries before, it fits those that are left.
abbrev pub FitAsBefore : Type 0
FitAsBefore =
    (id : StoreId) (entries : List Entry) (passes : List PassSeen) (looks : List Look)
    → AreLooks id entries passes looks → FitWhereRead id passes looks (settled_from entries looks)
    → AllZip (FitsTold id) passes entries → AllZip (FitsTold id) passes (settled_from entries looks)
