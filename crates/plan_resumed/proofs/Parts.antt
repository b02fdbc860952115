-- A command that goes on with verified stores, put together of what its parts did.
use Rattle.std.proofs.Common.{◌≡◌, ◌∙◌, refl, sym, ap, subst, arith, ℕ, ◌-◌, ◌^◌, ◌≤◌, min, ◌++◌, true, IsTrue, List, [], ◌∷◌, length, map, take}
use Rattle.vd_arm.specs.Arm.{PassSeen}
use Rattle.vd_disk.specs.Disk.{DiskSeen}
use Rattle.vd_disk.specs.declared.disk.Disk.{Ghosts}
use Rattle.vd_yard.specs.Contents.{told_bytes}
use Rattle.vd_yard.specs.Counts.{Counts, arm_faults}
use Rattle.vd_yard.specs.Kept.{Kept, keep_at, kept_at}
use Rattle.vd_yard.specs.Yard.{Tells, YardSeen}
use Rattle.plan_types.specs.Valid.{IsPlan}
use Rattle.plan_types.specs.declared.plan.Plan.{Plan}
use Rattle.plan_types.specs.declared.store.StorePlan.{StorePlan}
use Rattle.key_state.specs.declared.seen.BookSeen.{BookSeen}
use Rattle.slave_worker.specs.Hands.{HandSeen}
use Rattle.run_report.specs.Says.{Printing, Says, says_none, says_then}
use Rattle.run_report.specs.declared.status.Status.{Status}
use Rattle.run_report.specs.declared.status.Status.TheVariants as status
use Rattle.journal_core.specs.Book.{seen_of}
use Rattle.journal_core.specs.declared.book.JournalBook.{JournalBook}
use Rattle.plan_verified.specs.Back.{StoresBack, kept_after}
use Rattle.plan_verified.specs.Stores.{StoreSeen, passes_of}
use Rattle.plan_journals.specs.Closing.{AllEnded, AreJournalsApart, IsClosingStatus, after_refusal, ends_text}
use Rattle.plan_journals.specs.Growth.{ChangesOnlyJournals, LeavesRest, SomeRose, stays}
use Rattle.plan_journals.specs.Open.{AllFollow, AreFrom, Held, Start, held_of, seen_held}
use Rattle.plan_journals.proofs.Books.{paths_apart}
use Rattle.plan_reopened.specs.Reopening.{AllReopened, AreOpenedOn, ReopeningEnds, starts_text}
use Rattle.plan_hands.specs.Stores.{AreStores}
use Rattle.plan_runs.specs.Stages.{Stage, stage}
use Rattle.plan_runs.proofs.Faults.{never_falls}
use Rattle.plan_runs.proofs.Runs.{runs_counts}
use Rattle.plan_journaled.specs.Over.{RunsClosed, books_of}
use Rattle.plan_resumed.specs.Going.{ClosedUnused, GivenBack, LeavesYard, WentOn, not_begun, stopped, unseated, went_on}
use Rattle.plan_resumed.specs.Seating.{emptied, with_passes}
use Rattle.plan_resumed.proofs.Ending.{leaves_quiet, refuses, refuses_badly}
use Rattle.plan_resumed.proofs.Seats.{seated_books}

pub along : {A B : Type 0} {x y : A} {u v : B} (P : A → B → Type 0) → x ≡ y → u ≡ v → P x u → P y v
along {x} {y} {u} {v} P e f p = subst (λ z. P y z) f (subst (λ z. P z u) e p)

pub told_after : (a b : YardSeen) → b.tells ≡ a.tells → IsTrue a.tells.keeps_disks → IsTrue b.tells.keeps_disks
told_after a b same told = subst (λ (t : Tells). IsTrue t.keeps_disks) (sym same) told

pub told_before : (a b : YardSeen) → b.tells ≡ a.tells → IsTrue b.tells.keeps_disks → IsTrue a.tells.keeps_disks
told_before a b same told = subst (λ (t : Tells). IsTrue t.keeps_disks) same told

pub held_books : {D : Type 0} {G : Ghosts D} (books : List (JournalBook D G)) → map seen_held (map held_of books) ≡ map seen_of books
held_books [] = refl
held_books (book ∷ books) = ap (λ (l : List BookSeen). seen_of book ∷ l) (held_books books)

-- Where there was no book before, all that are there were opened on these disks.
pub all_opened_on : (disks : List DiskSeen) (was books : List BookSeen) → was ≡ [] → (more : List BookSeen) × (books ≡ was ++ more) × AreOpenedOn disks more → AreOpenedOn disks books
all_opened_on disks was books none (more, is, on) = subst (AreOpenedOn disks) (sym (is ∙ ap (λ (h : List BookSeen). h ++ more) none)) on

-- Stores of a valid plan have journals of their own.
pub plan_apart : (plan : Plan) (stores : List StorePlan) → IsPlan plan → stores ≡ plan.stores → AreJournalsApart stores
plan_apart plan stores valid all = subst AreJournalsApart (sym all) (paths_apart plan.stores valid.paths)

pub rest_same : (a : YardSeen) → LeavesRest a a
rest_same a = record {
  tells = refl;
  later = omega arith;
  counts = refl;
  contents = refl;
  willing = λ w. w;
  files = λ kind path there. there;
}

-- ---- passes that went back once their entries were taken
kept_emptied : (yard : YardSeen) (stores : List StorePlan) (left : List StoreSeen) (kept : Kept (List ℕ)) → kept_after yard stores (map emptied left) kept ≡ kept_after yard stores left kept
kept_emptied yard [] [] kept = refl
kept_emptied yard [] (l ∷ left) kept = refl
kept_emptied yard (store ∷ stores) [] kept = refl
kept_emptied yard (store ∷ stores) (l ∷ left) kept =
    ap (λ (k : Kept (List ℕ)). keep_at yard.tells.keeps_contents k store.path (told_bytes (passes_of l))) (kept_emptied yard stores left kept)

pub back_emptied : (plan : Plan) (stores : List StorePlan) (left now : List StoreSeen) (a b : YardSeen) → stores ≡ plan.stores → now ≡ map emptied left → StoresBack stores now a b → StoresBack plan.stores left a b
back_emptied plan stores left now a b all is back =
    let there : StoresBack plan.stores (map emptied left) a b = subst (λ (l : List StorePlan). StoresBack l (map emptied left) a b) all (subst (λ (s : List StoreSeen). StoresBack stores s a b) is back) in
    record {
      faults = there.faults;
      out = there.out;
      tells = there.tells;
      counts = there.counts;
      disks = there.disks;
      contents = there.contents ∙ kept_emptied a plan.stores left a.contents;
      willing = there.willing;
      files = there.files;
    }

pub back_along : (plan : Plan) (stores : List StorePlan) (left now : List StoreSeen) (a b : YardSeen) → stores ≡ plan.stores → now ≡ left → StoresBack stores now a b → StoresBack plan.stores left a b
back_along plan stores left now a b all is back =
    subst (λ (l : List StorePlan). StoresBack l left a b) all (subst (λ (s : List StoreSeen). StoresBack stores s a b) is back)

-- ---- journals that were closed without a run
pub unused_grown : (plan : Plan) (stores : List StorePlan) (starts : List Start) (a b d e : YardSeen) (books : List BookSeen) → stores ≡ plan.stores → b.tells ≡ a.tells → d.tells ≡ b.tells → d.disks ≡ b.disks → (IsTrue a.tells.keeps_disks → AreFrom a.disks plan.stores starts books) → ChangesOnlyJournals starts a.disks b.disks
    → ((s : List Start) (first : Kept DiskSeen) → (IsTrue d.tells.keeps_disks → AreFrom first stores s books) → ChangesOnlyJournals s first d.disks → ChangesOnlyJournals s first e.disks) → ChangesOnlyJournals starts a.disks e.disks
unused_grown plan stores starts a b d e books all tells then disks from grown closes =
    closes starts a.disks (λ told. subst (λ (l : List StorePlan). AreFrom a.disks l starts books) (sym all) (from (told_before a d (then ∙ tells) told)))
    (subst (λ (k : Kept DiskSeen). ChangesOnlyJournals starts a.disks k) (sym disks) grown)

abbrev pub closed_unused : (plan : Plan) (stores : List StorePlan) (left : List StoreSeen) (books : List BookSeen) (opened back : YardSeen) (said : Printing) (after : Stage) (held : List Held) (closing : Status) → stores ≡ plan.stores → StoresBack plan.stores left opened back → map seen_held held ≡ books
    → AllEnded back after.yard stores held said after.printing closing → IsClosingStatus closing → LeavesRest back after.yard → after.yard.faults ≡ back.faults → ClosedUnused plan left books opened said after
closed_unused plan stores left books opened back said after held closing all passes same ended answers rest faults = record {
  back = back;
  passes = passes;
  held = held;
  same = same;
  closing = closing;
  ended = subst (λ (l : List StorePlan). AllEnded back after.yard l held said after.printing closing) all ended;
  answers = answers;
  rest = rest;
  faults = faults;
}

pub unused_leaves : (plan : Plan) (left : List StoreSeen) (books : List BookSeen) (a opened : YardSeen) (said : Printing) (after : Stage) (result : Status) → LeavesRest a opened → opened.faults ≡ a.faults → ClosedUnused plan left books opened said after → refuses result ≡ true → LeavesYard a after.yard result
unused_leaves plan left books a opened said after result leaves faults unused is =
    leaves_quiet a after.yard result (unused.rest.tells ∙ unused.passes.tells ∙ leaves.tells) (λ w. unused.rest.willing (unused.passes.willing (leaves.willing w))) (λ kind path there. unused.rest.files kind path (unused.passes.files kind path (leaves.files kind path there)))
    (unused.rest.counts ∙ unused.passes.counts ∙ leaves.counts) (unused.faults ∙ unused.passes.faults ∙ faults) is

-- ---- the runs
-- There are as many books that follow.
as_many_follow : (olds news : List BookSeen) → AllFollow olds news → length news ≡ length olds
as_many_follow [] [] follow = refl
as_many_follow [] (new ∷ news) follow = absurd follow
as_many_follow (old ∷ olds) [] follow = absurd follow
as_many_follow (old ∷ olds) (new ∷ news) follow = let rest = as_many_follow olds news follow.1 in omega (arith, rest)

module _ {P B : Type 0} (pass_seen : P → PassSeen) (book_seen : B → BookSeen) (plan : Plan) where
  -- No count of arms' faults falls.
  pub arms_over : (before after : Stage) (result : Status) → (text : List ℕ) × RunsClosed pass_seen book_seen plan before after text result → (path : List ℕ) → min (arm_faults before.yard.counts path) (2 ^ 64 - 1) ≤ arm_faults after.yard.counts path
  arms_over before after result (text, closed) path =
      let arms = runs_counts pass_seen book_seen plan plan.runs before closed.last closed.runs_text closed.work closed.made in
      let last : arm_faults after.yard.counts path ≡ arm_faults closed.last.yard.counts path = ap (λ (k : Counts). arm_faults k path) (closed.rest.counts ∙ closed.passes.counts) in
      omega (arith, never_falls arms.0 before.yard.counts path, ap (λ (k : Counts). arm_faults k path) arms.1, last)

  module _ (disks : List DiskSeen) (starts : List Start) (left : List StoreSeen) (before after : Stage) (result : Status) where
    abbrev Went : Type 0
    Went = WentOn pass_seen book_seen plan disks starts left before after result

    -- memory ran out before the first opening
    pub went_not : GivenBack plan left before after → after.clock ≡ before.clock → result ≡ status.NoMemory → Went
    went_not given clock is =
        let has : refuses result ≡ true = ap refuses is in
        record {
          text = [];
          does = not_begun given clock refl is;
          says = subst (λ (p : Printing). Says before.printing p []) (sym given.printing) (says_none before.printing);
          leaves = leaves_quiet before.yard after.yard result (given.rest.tells ∙ given.passes.tells) (λ w. given.rest.willing (given.passes.willing w)) (λ kind path there. given.rest.files kind path (given.passes.files kind path there)) (given.rest.counts ∙ given.passes.counts) (given.faults ∙ given.passes.faults) has;
          grows = λ path. stays (given.disks path ∙ ap (λ (k : Kept DiskSeen). kept_at k path) given.passes.disks);
          whole = λ well told. absurd (refuses_badly result has well);
          journal_fault = λ so told. absurd (let no : status.NoMemory ≡ status.Journal = sym is ∙ so in cc);
        }

    -- an opening stopped
    pub went_stopped : (books : List BookSeen) (opened : YardSeen) (said : Printing) (why : Status) → ReopeningEnds before.yard opened plan.stores starts [] books before.printing said why → AreOpenedOn disks books → LeavesRest before.yard opened → opened.faults ≡ before.yard.faults → (unused : ClosedUnused plan left books opened said after) → after.clock ≡ before.clock
        → result ≡ after_refusal why unused.closing → refuses result ≡ true → ChangesOnlyJournals starts before.yard.disks after.yard.disks → (result ≡ status.Journal → IsTrue before.yard.tells.keeps_disks → SomeRose plan.stores before.yard.disks after.yard.disks) → Went
    went_stopped books opened said why stops on leaves faults unused clock is has grows rose =
        let lines = starts_text (take stops.place starts) ++ stops.text in
        record {
          text = lines ++ ends_text plan.stores unused.ended.ends;
          does = stopped books opened said why stops on leaves faults unused clock refl is;
          says = says_then before.printing said after.printing lines (ends_text plan.stores unused.ended.ends) stops.said unused.ended.said;
          leaves = unused_leaves plan left books before.yard opened said after result leaves faults unused has;
          grows = grows;
          whole = λ well told. absurd (refuses_badly result has well);
          journal_fault = rose;
        }

    -- memory ran out before the first run
    pub went_unseated : (books : List BookSeen) (said : Printing) → AllReopened before.yard before.yard starts [] books before.printing said → AreOpenedOn disks books → (unused : ClosedUnused plan left books before.yard said after) → after.clock ≡ before.clock → result ≡ status.NoMemory → ChangesOnlyJournals starts before.yard.disks after.yard.disks → Went
    went_unseated books said opens on unused clock is grows =
        let has : refuses result ≡ true = ap refuses is in
        record {
          text = starts_text starts ++ ends_text plan.stores unused.ended.ends;
          does = unseated books said opens on unused clock refl is;
          says = says_then before.printing said after.printing (starts_text starts) (ends_text plan.stores unused.ended.ends) opens.said unused.ended.said;
          leaves = unused_leaves plan left books before.yard before.yard said after result (rest_same before.yard) refl unused has;
          grows = grows;
          whole = λ well told. absurd (refuses_badly result has well);
          journal_fault = λ so told. absurd (let no : status.NoMemory ≡ status.Journal = sym is ∙ so in cc);
        }

    -- the runs were made
    pub went_ran : (books : List BookSeen) (said : Printing) (hands : List HandSeen) → IsPlan plan → AllReopened before.yard before.yard starts [] books before.printing said → AreOpenedOn disks books → AreStores plan (with_passes left books) → hands ≡ with_passes left books → length left ≡ length books → length books ≡ length plan.stores
        → (rest : List ℕ) × RunsClosed pass_seen book_seen plan (stage hands before.yard before.clock 0 said) after rest result → LeavesYard before.yard after.yard result → ChangesOnlyJournals starts before.yard.disks after.yard.disks
        → (IsTrue before.yard.tells.keeps_disks → AreFrom before.yard.disks plan.stores starts (books_of hands)) → (result ≡ status.Journal → IsTrue before.yard.tells.keeps_disks → SomeRose plan.stores before.yard.disks after.yard.disks) → Went
    went_ran books said hands valid opens on seated its as_many all (rest, closed) leaves grows from rose =
        let same : books_of hands ≡ books = ap books_of its ∙ seated_books 0 left books as_many in
        let many = as_many_follow (books_of hands) (books_of closed.last.hands) closed.follow in
        record {
          text = starts_text starts ++ rest;
          does = went_on books said opens on seated rest (subst (λ (l : List HandSeen). RunsClosed pass_seen book_seen plan (stage l before.yard before.clock 0 said) after rest result) its closed) refl;
          says = says_then before.printing said after.printing (starts_text starts) rest opens.said closed.says;
          leaves = leaves;
          grows = grows;
          whole = λ well told. record {
            books = books_of closed.last.hands;
            one_each = many ∙ ap length same ∙ all;
            closed = closed.whole starts before.yard.disks well told (paths_apart plan.stores valid.paths) (from told);
          };
          journal_fault = rose;
        }
