-- Laws by which a command stands on what opening and closing journals promise.
use Rattle.std.specs.Prelude.{◌≡◌, ◌⊎◌, ℕ, ◌+◌, ◌≤◌, IsTrue, List, ◌++◌, length, Option, Some}
use Rattle.key_state.specs.declared.seen.BookSeen.{BookSeen}
use Rattle.vd_disk.specs.Disk.{DiskSeen, IsAtRest, IsImageAt, Rests, Sectors, longer}
use Rattle.plan_types.specs.Valid.{AreDifferent, paths_of}
use Rattle.plan_types.specs.declared.store.StorePlan.{StorePlan}
use Rattle.vd_yard.specs.Kept.{Kept}
use Rattle.vd_yard.specs.Out.{Kind, Out, one_more}
use Rattle.vd_yard.specs.Yard.{YardSeen}
use Rattle.run_report.specs.declared.status.Status.{Status}
use Rattle.run_report.specs.declared.status.Status.TheVariants as status
use Rattle.plan_journals.specs.Open.{AllFollow, AreFrom, AreOpenedNow, AreStartsOf, IsHanded, Start, out_besides}
use Rattle.plan_journals.specs.Growth.{ClosedWell, Journaled}
use Rattle.plan_journals.specs.Closing.{AreJournalsApart, IsClosingStatus, WentWell, after_closing}

-- Books follow themselves, and those that follow followers follow.
abbrev pub FollowThemselves : Type 0
FollowThemselves = (books : List BookSeen) → AllFollow books books

abbrev pub FollowOn : Type 0
FollowOn = (first next last : List BookSeen) → AllFollow first next → AllFollow next last → AllFollow first last

-- Books that follow theirs were opened as those were, over what those were.
abbrev pub FollowersAreFrom : Type 0
FollowersAreFrom = (kept : Kept DiskSeen) (stores : List StorePlan) (starts : List Start) (olds news : List BookSeen) → AllFollow olds news
    → AreFrom kept stores starts olds → AreFrom kept stores starts news

-- Journals that were opened just now over what the yard handed out were opened over what it keeps.
abbrev pub OpenedAreFrom : Type 0
OpenedAreFrom = (yard : YardSeen) (stores : List StorePlan) (starts : List Start) (books : List BookSeen) → AreStartsOf stores starts → AreOpenedNow yard starts books
    → IsTrue yard.tells.keeps_disks → AreFrom yard.disks stores starts books

-- Where the paths of stores and of their journals differ, no two stores have one journal.
abbrev pub ApartByPaths : Type 0
ApartByPaths = (stores : List StorePlan) → AreDifferent (paths_of stores) → AreJournalsApart stores

-- A disk that was kept at rest is at rest as it is handed out; and each image until then is what it read as, or that with zeros behind.
abbrev pub HandedAtRest : Type 0
HandedAtRest = (kept handed : DiskSeen) → IsHanded (Some kept) handed → Rests kept → Rests handed

abbrev pub HandedReads : Type 0
HandedReads = (kept handed : DiskSeen) → IsHanded (Some kept) handed → (sectors : Sectors) → IsAtRest kept.moments sectors → (m : ℕ) (image : Sectors) → length kept.moments ≤ m + 1 → IsImageAt handed.moments m image
    → (image ≡ sectors) ⊎ (image ≡ longer handed.sectors sectors)

-- What is out with some stores' journals and then with others' is out with all; and in which order they went out doesn't matter.
abbrev pub OutInTurn : Type 0
OutInTurn = (out : Out) (first rest : List StorePlan) → out_besides out (first ++ rest) ≡ out_besides (out_besides out first) rest

abbrev pub OutInAnyOrder : Type 0
OutInAnyOrder = (out : Out) (kind : Kind) (path : List ℕ) (stores : List StorePlan) → out_besides (one_more out kind path) stores ≡ one_more (out_besides out stores) kind path

-- With a status of 0, 1 or 2 behind it closing was good; and 7 stood before, or came with closing.
abbrev pub WellBehindClosing : Type 0
WellBehindClosing = (before closing : Status) → IsClosingStatus closing → WentWell (after_closing before closing) → closing ≡ status.Good

abbrev pub FaultBehindClosing : Type 0
FaultBehindClosing = (before closing : Status) → IsClosingStatus closing → after_closing before closing ≡ status.Journal → (before ≡ status.Journal) ⊎ (closing ≡ status.Journal)

-- A journal that stands closed keeps the history of its book in every image since its opening ended.
abbrev pub ClosedIsJournaled : Type 0
ClosedIsJournaled = (start : Start) (kept : Option DiskSeen) (b : BookSeen) (disk : DiskSeen) → ClosedWell start kept b disk → Journaled start kept disk
