-- Runs over open journals, put together of what the runs, the passes' return and closing did.
use Rattle.std.proofs.Common.{◌≡◌, ◌∙◌, refl, sym, ap, subst, arith, inl, inr, ℕ, true, ◌++◌, IsTrue, List, [], ◌∷◌, length, map, take, Some, slice_get, IsSome}
use Rattle.std.proofs.lemmas.List.{length-map, take_all}
use Rattle.vd_arm.specs.Arm.{PassSeen}
use Rattle.vd_disk.specs.Disk.{DiskSeen}
use Rattle.vd_disk.specs.declared.disk.Disk.{Ghosts}
use Rattle.vd_yard.specs.Kept.{Kept}
use Rattle.vd_yard.specs.Out.{Out}
use Rattle.vd_yard.specs.Yard.{Tells, YardSeen}
use Rattle.plan_types.specs.declared.plan.Plan.{Plan}
use Rattle.plan_types.specs.declared.run.RunPlan.{RunPlan}
use Rattle.plan_types.specs.declared.store.StorePlan.{StorePlan}
use Rattle.key_state.specs.declared.seen.BookSeen.{BookSeen}
use Rattle.slave_worker.specs.Hands.{HandSeen, hand_seen}
use Rattle.slave_worker.specs.declared.hand.StoreHand.{StoreHand}
use Rattle.run_report.specs.Says.{says_then}
use Rattle.run_report.specs.declared.status.Status.{Status}
use Rattle.run_report.specs.declared.status.Status.TheVariants as status
use Rattle.journal_core.specs.Book.{seen_of}
use Rattle.journal_core.specs.declared.book.JournalBook.{JournalBook}
use Rattle.plan_hands.specs.Openings.{PassesBack, passes_out}
use Rattle.plan_hands.specs.Stores.{AreStores}
use Rattle.plan_hands.proofs.Outs.{passes_out_cancel}
use Rattle.plan_journals.specs.Closing.{AllEnded, AreJournalsApart, IsClosingStatus, WentWell, after_closing, ends_text}
use Rattle.plan_journals.specs.Growth.{AreKeptClosed, LeavesRest}
use Rattle.plan_journals.specs.Open.{AllFollow, AreFrom, Held, Start, held_of, out_besides, seen_held}
use Rattle.plan_journals.proofs.Books.{follow_from}
use Rattle.plan_journals.proofs.Closings.{either_journal, well_behind}
use Rattle.plan_runs.specs.Stages.{RunsMade, Stage}
use Rattle.plan_runs.proofs.Ended.{of_runs}
use Rattle.plan_journaled.specs.Over.{RunsClosed, books_of}
use Rattle.plan_journaled.proofs.Ending.{runs_end}
use Rattle.plan_journaled.proofs.Following.{books_follow}
use Rattle.plan_journaled.proofs.Saying.{runs_say}
use Rattle.plan_journaled.proofs.Stopping.{SomeStopped, runs_stopped}

-- What is seen of open journals, and of the books of hands.
pub held_books : {D : Type 0} {G : Ghosts D} (books : List (JournalBook D G)) → map seen_held (map held_of books) ≡ map seen_of books
held_books [] = refl
held_books (book ∷ books) = ap (λ (l : List BookSeen). seen_of book ∷ l) (held_books books)

module _ {P B : Type 0} (pass_seen : P → PassSeen) (book_seen : B → BookSeen) where
  hand_books : (hands : List (StoreHand P B)) → map book_seen (map (λ (hand : StoreHand P B). hand.book) hands) ≡ books_of (map (hand_seen pass_seen book_seen) hands)
  hand_books [] = refl
  hand_books (hand ∷ hands) = ap (λ (l : List BookSeen). book_seen hand.book ∷ l) (hand_books hands)

  pub left_books : (old new : List B) (hands : List (StoreHand P B)) → old ≡ [] → new ≡ old ++ map (λ (hand : StoreHand P B). hand.book) hands → map book_seen new ≡ books_of (map (hand_seen pass_seen book_seen) hands)
  left_books old new hands none is =
      ap (map book_seen) (is ∙ ap (λ (l : List B). l ++ map (λ (hand : StoreHand P B). hand.book) hands) none) ∙ hand_books hands

  -- The runs of the plan, by the names that they have there.
  pub runs_of_plan : (plan : Plan) (runs : List RunPlan) (before last : Stage) (work : Status) → runs ≡ plan.runs → (text : List ℕ) × RunsMade pass_seen book_seen plan runs before last text work → (text : List ℕ) × RunsMade pass_seen book_seen plan plan.runs before last text work
  runs_of_plan plan runs before last work all (text, made) = (text, subst (λ (l : List RunPlan). RunsMade pass_seen book_seen plan l before last text work) all made)

-- As many books as hands.
pub length_left : {P B : Type 0} (old new : List B) (hands : List (StoreHand P B)) → old ≡ [] → new ≡ old ++ map (λ (hand : StoreHand P B). hand.book) hands → length new ≡ length hands
length_left {P} {B} old new hands none is =
    ap length (is ∙ ap (λ (l : List B). l ++ map (λ (hand : StoreHand P B). hand.book) hands) none) ∙ length-map hands (λ (hand : StoreHand P B). hand.book)

-- What a yard tells stays.
pub tells_before : (a b : YardSeen) → b.tells ≡ a.tells → IsTrue b.tells.keeps_disks → IsTrue a.tells.keeps_disks
tells_before a b same told = subst (λ (t : Tells). IsTrue t.keeps_disks) same told

pub tells_after : (a b : YardSeen) → b.tells ≡ a.tells → IsTrue a.tells.keeps_disks → IsTrue b.tells.keeps_disks
tells_after a b same told = subst (λ (t : Tells). IsTrue t.keeps_disks) (sym same) told

-- What the journals were opened over, as they are closed.
pub closed_from : (first : Kept DiskSeen) (plan : Plan) (stores : List StorePlan) (starts : List Start) (olds news books : List BookSeen) → stores ≡ plan.stores → books ≡ news → AllFollow olds news → AreFrom first plan.stores starts olds → AreFrom first stores starts books
closed_from first plan stores starts olds news books all same follow from =
    subst (λ (l : List StorePlan). AreFrom first l starts books) (sym all)
    (subst (λ (l : List BookSeen). AreFrom first plan.stores starts l) (sym same) (follow_from first plan.stores starts olds news follow from))

module _ {P B : Type 0} (pass_seen : P → PassSeen) (book_seen : B → BookSeen) (plan : Plan) where
  pub runs_closed : (before last after : Stage) (work closing result : Status) (back : YardSeen) (held : List Held) (books : List BookSeen) (stores : List StorePlan) → stores ≡ plan.stores → AreStores plan before.hands
      → (text : List ℕ) × RunsMade pass_seen book_seen plan plan.runs before last text work → last.yard.tells ≡ before.yard.tells → PassesBack plan last.hands last.yard back
      → map seen_held held ≡ books → books ≡ books_of last.hands → AllEnded back after.yard stores held last.printing after.printing closing → after.clock ≡ last.clock
      → IsClosingStatus closing → LeavesRest back after.yard → after.yard.faults ≡ back.faults → result ≡ after_closing work closing
      → ((starts : List Start) (first : Kept DiskSeen) → closing ≡ status.Good → IsTrue back.tells.keeps_disks → AreJournalsApart stores → AreFrom first stores starts books → AreKeptClosed first after.yard.disks starts books)
      → (text : List ℕ) × RunsClosed pass_seen book_seen plan before after text result
  runs_closed before last after work closing result back held books stores all seated ran told passes same its ended clock answers rest faults is closes =
      let follow = books_follow pass_seen book_seen plan before last ran.0 work seated.places ran.1 in
      let ends : AllEnded back after.yard plan.stores held last.printing after.printing closing = subst (λ (l : List StorePlan). AllEnded back after.yard l held last.printing after.printing closing) all ended in
      let tells : back.tells ≡ before.yard.tells = passes.tells ∙ told in (
        ran.0 ++ ends_text plan.stores ends.ends,
        record {
          last = last;
          runs_text = ran.0;
          work = work;
          made = ran.1;
          back = back;
          passes = passes;
          held = held;
          same = same ∙ its;
          follow = follow;
          closing = closing;
          ended = ends;
          answers = answers;
          rest = rest;
          faults = faults;
          clock = clock;
          texts = refl;
          says = says_then before.printing last.printing after.printing ran.0 (ends_text plan.stores ends.ends) (runs_say pass_seen book_seen plan plan.runs before last ran.0 work ran.1) ends.said;
          is = is;
          whole = λ starts first well keeps apart from.
              subst (λ (l : List BookSeen). AreKeptClosed first after.yard.disks starts l) its
              (closes starts first (well_behind work closing answers (subst WentWell is well)) (subst (λ (t : Tells). IsTrue t.keeps_disks) (sym tells) keeps)
              (subst AreJournalsApart (sym all) apart) (closed_from first plan stores starts (books_of before.hands) (books_of last.hands) books all its follow from));
        },
      )

  pub follows_over : (before last : Stage) (work : Status) → AreStores plan before.hands → (text : List ℕ) × RunsMade pass_seen book_seen plan plan.runs before last text work → AllFollow (books_of before.hands) (books_of last.hands)
  follows_over before last work seated ran = books_follow pass_seen book_seen plan before last ran.0 work seated.places ran.1

  pub stopped_over : (before last : Stage) (work : Status) (books : List BookSeen) → books ≡ books_of last.hands → (text : List ℕ) × RunsMade pass_seen book_seen plan plan.runs before last text work → work ≡ status.Journal → SomeStopped books
  stopped_over before last work books its ran is = subst SomeStopped (sym its) (runs_stopped pass_seen book_seen plan plan.runs before last ran.0 work ran.1 is)

  pub ends_over : (before last : Stage) (work : Status) → (text : List ℕ) × RunsMade pass_seen book_seen plan plan.runs before last text work → of_runs work ≡ true
  ends_over before last work ran = runs_end pass_seen book_seen plan plan.runs before last ran.0 work ran.1

-- Where the command ends by a failed journal, closing said so: one that failed before is stopped.
pub closing_failed : (work closing result : Status) (books : List BookSeen) → IsClosingStatus closing → result ≡ after_closing work closing → result ≡ status.Journal → (work ≡ status.Journal → SomeStopped books)
    → ((place : ℕ) (b : BookSeen) → slice_get books place ≡ Some b → IsSome b.stopped → closing ≡ status.Good → ⊥) → closing ≡ status.Journal
closing_failed work closing result books answers is failed stopped never = elim (either_journal work closing answers (sym is ∙ failed)) [
  | inl before ↦ elim answers [
    | inl good ↦ let one = stopped before in absurd (never one.place one.book one.there one.stopped good)
    | inr (inl now) ↦ now
    | inr (inr memory) ↦ absurd (let so : status.NoMemory ≡ status.Journal = sym (ap (after_closing work) memory) ∙ sym is ∙ failed in cc)
  ]
  | inr now ↦ now
]

-- The passes went back: the journals are out besides what was.
pub journals_left : (plan : Plan) (hands last : List HandSeen) (before out mid back : Out) → out ≡ passes_out plan hands (out_besides before plan.stores) → (out ≡ passes_out plan hands (out_besides before plan.stores) → mid ≡ passes_out plan last (out_besides before plan.stores))
    → mid ≡ passes_out plan last back → back ≡ out_besides before plan.stores
journals_left plan hands last before out mid back is ran left = passes_out_cancel plan last back (out_besides before plan.stores) (sym left ∙ ran is)

-- The disks of all journals are out besides what was.
pub all_out : (before out : Out) (plan : Plan) (stores : List StorePlan) (n : ℕ) → stores ≡ plan.stores → n ≡ length plan.stores → out ≡ out_besides before plan.stores → out ≡ out_besides before (take n stores)
all_out before out plan stores n all long is = is ∙ ap (out_besides before) (sym (ap (take n) all ∙ take_all n plan.stores (omega (arith, long))))
