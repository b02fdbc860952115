-- What runs over open journals leave: the bytes that are kept of each store fit its closed journal.
use Rattle.std.proofs.Common.{◌≡◌, ◌∙◌, refl, sym, ap, subst, arith, inl, inr, ℕ, zero, suc, Bool, true, IsTrue, List, [], ◌∷◌}
use Rattle.std.specs.Prelude.{◌≢◌, Some, slice_get}
use Rattle.std.proofs.Math.Logic.{∥∥₁_map}
use Rattle.std.proofs.lemmas.Option.{none-some, same_Some, slice_get_cases, slice_get_within}
use Rattle.vd_base.specs.declared.geometry.StoreId.{StoreId}
use Rattle.vd_arm.specs.Arm.{PassSeen}
use Rattle.vd_disk.specs.Disk.{DiskSeen}
use Rattle.vd_yard.specs.Kept.{Kept, kept_at}
use Rattle.vd_yard.specs.Out.{AtArm}
use Rattle.vd_yard.specs.Yard.{Tells, YardSeen}
use Rattle.plan_types.specs.Valid.{IsPlan}
use Rattle.plan_types.specs.declared.plan.Plan.{Plan}
use Rattle.plan_types.specs.declared.store.StorePlan.{StorePlan}
use Rattle.key_state.specs.declared.seen.BookSeen.{BookSeen}
use Rattle.slave_worker.specs.Hands.{HandSeen}
use Rattle.journal_layout.specs.Recovery.{Gives, Recovers}
use Rattle.run_report.specs.declared.status.Status.{Status}
use Rattle.run_report.specs.declared.status.Status.TheVariants as status
use Rattle.run_totals.specs.Sentences.{ArmsAreSure}
use Rattle.run_totals.proofs.Lists.{get_map}
use Rattle.plan_hands.specs.Stores.{AreStores, book_of}
use Rattle.plan_journals.specs.Closing.{IsClosingStatus, WentWell, after_closing, after_refusal}
use Rattle.plan_journals.specs.Growth.{AreKeptClosed, IsKeptClosed}
use Rattle.plan_journals.specs.Open.{AreStartsOf, IsStartOf, Start}
use Rattle.plan_runs.specs.Stages.{Stage}
use Rattle.plan_runs.proofs.Parted.{as_many}
use Rattle.plan_journaled.proofs.Ending.{refused_same, same_before}
use Rattle.plan_journaled.specs.Laws.{ClosedRecovers}
use Rattle.plan_journaled.specs.Over.{RunsClosed, books_of}
use Rattle.plan_totals.specs.Made.{PlanRuns, StoreOf}
use Rattle.plan_totals.specs.Sentences.{ContentsStay, DataFits, FittingStaysSo, HandFits, NoneIsCorrupt, StoresStay, SureArmsDontFail, UnwrittenFit}
use Rattle.plan_kept.specs.Fits.{KeptFits}
use Rattle.plan_kept.proofs.Back.{back_fits}

pub true_of : (b : Bool) → IsTrue b → b ≡ true
true_of b is = is

pub told_on : (a b : Tells) → b ≡ a → IsTrue a.keeps_contents → IsTrue b.keeps_contents
told_on a b same told = subst (λ (t : Tells). IsTrue t.keeps_contents) (sym same) told

pub sure_on : (a b : YardSeen) (stores : List StorePlan) → b.tells ≡ a.tells → ArmsAreSure a stores → ArmsAreSure b stores
sure_on a b stores same sure place store at = subst (λ (t : Tells). IsTrue (t.sure AtArm store.path)) (sym same) (sure place store at)

-- There is a hand at each place.
pub seat_there : (plan : Plan) (hands : List HandSeen) → AreStores plan hands → (place : ℕ) (store : StorePlan) → slice_get plan.stores place ≡ Some store → (hand : HandSeen) × (slice_get hands place ≡ Some hand)
seat_there plan hands stores place store at = elim ((slice_get_cases hands place).1) [
  | inl found ↦ (found.0, found.2)
  | inr past ↦ absurd (omega (arith, past.0, slice_get_within plan.stores place store at, as_many plan hands stores))
]

-- the journal that stands closed at a place, and how it was opened
pub record ClosedAt (first now : Kept DiskSeen) (store : StorePlan) (b : BookSeen) : Type 0 where
  pub start : Start
  pub its : IsStartOf store start
  pub closed : IsKeptClosed first now start b

pub closed_at : (first now : Kept DiskSeen) (stores : List StorePlan) (starts : List Start) (books : List BookSeen) → AreStartsOf stores starts → AreKeptClosed first now starts books
    → (i : ℕ) (store : StorePlan) (b : BookSeen) → slice_get stores i ≡ Some store → slice_get books i ≡ Some b → ClosedAt first now store b
closed_at first now stores starts [] are kept i store b at there = absurd (none-some b there)
closed_at first now stores [] (x ∷ books) are kept i store b at there = absurd kept
closed_at first now [] (start ∷ starts) (x ∷ books) are kept i store b at there = absurd are
closed_at first now (s ∷ stores) (start ∷ starts) (x ∷ books) are kept zero store b at there = record {
  start = start;
  its = subst (λ (t : StorePlan). IsStartOf t start) (same_Some s store at) are.0;
  closed = subst (λ (c : BookSeen). IsKeptClosed first now start c) (same_Some x b there) kept.0;
}
closed_at first now (s ∷ stores) (start ∷ starts) (x ∷ books) are kept (suc i) store b at there = closed_at first now stores starts books are.1 kept.1 i store b at there

-- what is known of all runs of a plan, and of closed journals
pub record Laws {P B : Type 0} (pass_seen : P → PassSeen) (book_seen : B → BookSeen) : Type 0 where
  pub stores : StoresStay pass_seen book_seen
  pub contents : ContentsStay pass_seen book_seen
  pub fits : FittingStaysSo pass_seen book_seen
  pub clean : NoneIsCorrupt pass_seen book_seen
  pub unwritten : UnwrittenFit
  pub sure : SureArmsDontFail pass_seen book_seen

module _ {P B : Type 0} (pass_seen : P → PassSeen) (book_seen : B → BookSeen) (laws : Laws pass_seen book_seen) (recovers : ClosedRecovers) (plan : Plan) (valid : IsPlan plan) (before after : Stage) (text : List ℕ) (result : Status)
    (closed : RunsClosed pass_seen book_seen plan before after text result) (stores : AreStores plan before.hands)
  where
    abbrev all : PlanRuns pass_seen book_seen
    all = record { plan = plan; before = before; last = closed.last; text = closed.runs_text; result = closed.work; valid = valid; stores = stores; runs = closed.made }

    module _ (tells : IsTrue before.yard.tells.keeps_contents) (place : ℕ) (store : StorePlan) (hand : HandSeen) (at : slice_get plan.stores place ≡ Some store) (went : slice_get before.hands place ≡ Some hand) (fit : HandFits before.yard.contents store hand) where
      -- the hand as it came back
      back : (h : HandSeen) × (slice_get closed.last.hands place ≡ Some h)
      back = elim ((slice_get_cases closed.last.hands place).1) [
        | inl found ↦ (found.0, found.2)
        | inr past ↦ absurd (omega (arith, past.0, slice_get_within before.hands place hand went, as_many plan before.hands stores, as_many plan closed.last.hands (laws.stores all)))
      ]

      data_fits : DataFits after.yard.contents store (book_of back.0).now
      data_fits =
          let its : StoreOf pass_seen book_seen all = record { place = place; store = store; hand = hand; back = back.0; its_store = at; went_in = went; came_back = back.1 } in
          let told : IsTrue closed.last.yard.tells.keeps_contents = told_on before.yard.tells closed.last.yard.tells (laws.contents all).1 tells in
          let stays : HandFits closed.last.yard.contents store back.0 = (laws.fits all its tells fit).0 in
          let kept = back_fits plan valid closed.last.hands (laws.stores all) closed.last.yard closed.back closed.passes (true_of closed.last.yard.tells.keeps_contents told) place back.0 store back.1 at stays in
          subst (λ (k : Kept (List ℕ)). DataFits k store (book_of back.0).now) (sym closed.rest.contents) kept

      pub kept_fits : (starts : List Start) (first : Kept DiskSeen) → AreStartsOf plan.stores starts → AreKeptClosed first after.yard.disks starts (books_of closed.last.hands) → KeptFits after.yard store
      kept_fits starts first are stand =
          let b : BookSeen = book_of back.0 in
          let one = closed_at first after.yard.disks plan.stores starts (books_of closed.last.hands) are stand place store b at (get_map book_of closed.last.hands place back.0 back.1) in
          record {
            disk = one.closed.disk;
            kept = ap (kept_at after.yard.disks) (sym one.its.its_path) ∙ one.closed.kept;
            fits = λ sectors told.
                ∥∥₁_map (recovers one.start (kept_at first one.start.journal) b one.closed.disk one.closed.well sectors told) (λ each. λ image left.
                let gives = each image left in
                record {
                  live = gives.live;
                  records = gives.records;
                  entries = b.now;
                  gives = subst (λ (i : StoreId). Gives image i (Recovers gives.live gives.records b.now)) one.its.its_id gives.gives;
                  fits = data_fits;
                });
          }

-- ---- which status a command ends with
pub well_not_journal : (this : Status) → WentWell this → this ≢ status.Journal
well_not_journal this well is = subst WentWell is well

pub well_not_memory : (this : Status) → WentWell this → this ≢ status.NoMemory
well_not_memory this well is = subst WentWell is well

pub memory_not : (this result : Status) → WentWell this → result ≡ status.NoMemory → result ≢ this
memory_not this result well is other = well_not_memory this well (sym other ∙ is)

pub closing_not : (this work closing : Status) → WentWell this → IsClosingStatus closing → work ≢ this → after_closing work closing ≢ this
closing_not this work closing well answers not is =
    not (same_before this work closing (after_closing work closing) (well_not_journal this well) (well_not_memory this well) answers refl is)

pub refusal_not : (this why closing : Status) → WentWell this → IsClosingStatus closing → why ≢ this → after_refusal why closing ≢ this
refusal_not this why closing well answers not is = not (refused_same this why closing (after_refusal why closing) (well_not_memory this well) answers refl is)

pub refusal_unwell : (why closing : Status) → IsClosingStatus closing → (WentWell why → ⊥) → WentWell (after_refusal why closing) → ⊥
refusal_unwell why closing (inl good) not well = not (subst (λ (c : Status). WentWell (after_refusal why c)) good well)
refusal_unwell why closing (inr (inl failed)) not well = not (subst (λ (c : Status). WentWell (after_refusal why c)) failed well)
refusal_unwell why closing (inr (inr memory)) not well = absurd (subst (λ (c : Status). WentWell (after_refusal why c)) memory well)
