-- Runs without journals, and over new ones: none of their blocks counts as written at first, so whatever is kept fits.
use Rattle.std.proofs.Common.{◌≡◌, ◌∙◌, refl, sym, ap, subst, ℕ, zero, suc, ◌+◌, IsTrue, List, [], ◌∷◌, length, map, replicate}
use Rattle.std.specs.Prelude.{◌≢◌, Some, slice_get}
use Rattle.std.specs.List.{range_with_len, zip}
use Rattle.std.proofs.lemmas.List.{get_or-replicate}
use Rattle.std.proofs.lemmas.Option.{none-some, same_Some}
use Rattle.vd_arm.specs.Arm.{PassSeen}
use Rattle.vd_yard.specs.Kept.{Kept}
use Rattle.vd_yard.specs.Yard.{Tells, YardSeen}
use Rattle.plan_types.specs.declared.store.StorePlan.{StorePlan}
use Rattle.key_state.specs.Entries.{entry_at}
use Rattle.key_state.specs.declared.entry.Entry.{Entry}
use Rattle.key_state.specs.declared.entry.Entry.TheVariants.{Bad, Settled}
use Rattle.key_state.specs.declared.seen.BookSeen.{BookSeen}
use Rattle.slave_worker.specs.Hands.{HandSeen}
use Rattle.run_report.specs.declared.status.Status.{Status}
use Rattle.run_report.specs.declared.status.Status.TheVariants as status
use Rattle.run_totals.specs.Sentences.{ArmsAreSure}
use Rattle.plan_hands.specs.Stores.{AreStores, book_of, passes_of, with_books}
use Rattle.plan_journals.specs.Closing.{WentWell}
use Rattle.plan_journals.specs.Open.{AreMade, AreStartsOf, new_starts}
use Rattle.plan_journals.specs.Opening.{OpenStop}
use Rattle.plan_journals.specs.Opening as opening
use Rattle.plan_journals.proofs.Books.{made_from, paths_apart}
use Rattle.plan_journaled.specs.Journaled as journaled
use Rattle.plan_journaled.specs.Laws.{ClosedRecovers}
use Rattle.plan_journaled.proofs.Anew.{are_seated, from_anew}
use Rattle.plan_runs.specs.Quiet as quietly
use Rattle.plan_runs.specs.Quiet.{unwritten}
use Rattle.plan_runs.specs.Stages.{stage}
use Rattle.plan_runs.proofs.Quieted as quieted
use Rattle.plan_totals.specs.Made.{PlanRuns}
use Rattle.plan_totals.specs.Sentences.{AllFit, HandFits, UnwrittenFit, UnwrittenPlansFit}
use Rattle.plan_kept.specs.Laws.{NewDataFits, NewIsSound, NewIsSure, QuietIsSound, QuietIsSure}
use Rattle.plan_kept.proofs.Fitting.{Laws, closing_not, kept_fits, memory_not, refusal_not, refusal_unwell, seat_there, sure_on, told_on}

abbrev pub seated : ℕ → List BookSeen → List HandSeen
seated a books = map (λ (one : ℕ × BookSeen). (one.0, [], one.1)) (zip (range_with_len a (length books)) books)

-- A hand of books alone has no open passes, and the book of its place.
pub hand_at : (a : ℕ) (books : List BookSeen) (i : ℕ) (hand : HandSeen) → slice_get (seated a books) i ≡ Some hand → (passes_of hand ≡ []) × (slice_get books i ≡ Some (book_of hand))
hand_at a [] i hand is = absurd (none-some hand is)
hand_at a (b ∷ books) zero hand is =
    let same : (a, [], b) ≡ hand = same_Some (a, [], b) hand is in
    (sym (ap (λ (h : HandSeen). passes_of h) same), ap (λ (h : HandSeen). Some (book_of h)) same)
hand_at a (b ∷ books) (suc i) hand is = hand_at (a + 1) books i hand is

none_at : (block : ℕ) (pass : PassSeen) (passes : List PassSeen) → passes ≡ [] → slice_get passes block ≡ Some pass → ⊥
none_at block pass passes none there = none-some pass (subst (λ (l : List PassSeen). slice_get l block ≡ Some pass) none there)

-- A new journal's book has no written block.
made_known : (yard : YardSeen) (logs : ℕ) (stores : List StorePlan) (books : List BookSeen) → AreMade yard logs stores books
    → (i : ℕ) (store : StorePlan) (b : BookSeen) → slice_get stores i ≡ Some store → slice_get books i ≡ Some b → b.now ≡ replicate store.id.geometry.blocks (Settled 0)
made_known yard logs stores [] are i store b there its = absurd (none-some b its)
made_known yard logs [] (c ∷ books) are i store b there its = absurd (none-some store there)
made_known yard logs (x ∷ stores) (c ∷ books) are zero store b there its =
    sym (ap (λ (y : BookSeen). y.now) (same_Some c b its)) ∙ are.0.fresh.now ∙ ap (λ (s : StorePlan). replicate s.id.geometry.blocks (Settled 0)) (same_Some x store there)
made_known yard logs (x ∷ stores) (c ∷ books) are (suc i) store b there its = made_known yard logs stores books are.1 i store b there its

new_starts_are : (logs : ℕ) (stores : List StorePlan) → AreStartsOf stores (new_starts logs stores)
new_starts_are logs [] = tt
new_starts_are logs (store ∷ stores) = (record { its_path = refl; its_id = refl }, new_starts_are logs stores)

-- So whatever is kept fits.
new_fits : UnwrittenFit → (contents : Kept (List ℕ)) (yard : YardSeen) (logs : ℕ) (stores : List StorePlan) (books : List BookSeen) → AreMade yard logs stores books
    → (i : ℕ) (store : StorePlan) (hand : HandSeen) → slice_get stores i ≡ Some store → slice_get (with_books books) i ≡ Some hand → HandFits contents store hand
new_fits fits contents yard logs stores books are i store hand there at =
    let seat = hand_at 0 books i hand at in
    let now = made_known yard logs stores books are i store (book_of hand) there seat.1 in (
      λ block pass is. absurd (none_at block pass (passes_of hand) seat.0 is),
      λ none. fits contents store hand (λ block within. ap (λ (l : List Entry). entry_at l block) now ∙ get_or-replicate store.id.geometry.blocks block (Settled 0) Bad within),
    )

stop_unwell : (old new : YardSeen) (store : StorePlan) (opens : ℕ) (text : List ℕ) (result : Status) → OpenStop old new store opens text result → WentWell result → ⊥
stop_unwell old new store opens text result (opening.unopened r w d o t s) well = subst WentWell s well
stop_unwell old new store opens text result (opening.unmade r f o t s) well = subst WentWell s well
stop_unwell old new store opens text result (opening.memory_out o t s) well = subst WentWell s well

module _ {P B : Type 0} (pass_seen : P → PassSeen) (book_seen : B → BookSeen) (laws : Laws pass_seen book_seen) where
  pub quiet_is_sound : UnwrittenPlansFit pass_seen book_seen → QuietIsSound pass_seen book_seen
  quiet_is_sound fit plan before after text result valid tells (quietly.all_made last runs hands back clock printing) =
      let stores : AreStores plan before.hands = subst (λ (l : List HandSeen). AreStores plan l) (sym hands) (quieted.are_seated plan) in
      let all : PlanRuns pass_seen book_seen = record { plan = plan; before = before; last = last; text = text; result = result; valid = valid; stores = stores; runs = runs } in
      laws.clean all tells (fit all hands)
  quiet_is_sound fit plan before after text result valid tells (quietly.none_made yard clock printing none memory) = (tt, memory_not status.Corrupt result tt memory)

  pub new_is_sound : NewIsSound pass_seen book_seen
  new_is_sound plan before after text result valid tells (journaled.ran books opened said all_open rest closed texts) =
      let logs = plan.journal_sectors in
      let are : AreMade before.yard logs plan.stores books = subst (λ (l : List BookSeen). AreMade before.yard logs plan.stores l) (sym all_open.opens.books) all_open.opens.made in
      let stores : AreStores plan (with_books books) = are_seated plan before.yard logs books (ap length all_open.opens.books ∙ all_open.opens.one_each) are in
      let all : PlanRuns pass_seen book_seen = record { plan = plan; before = stage (with_books books) opened before.clock 0 said; last = closed.last; text = closed.runs_text; result = closed.work; valid = valid; stores = stores; runs = closed.made } in
      let fit : AllFit pass_seen book_seen all = λ its. new_fits laws.unwritten opened.contents before.yard logs plan.stores books are its.place its.store its.hand its.its_store its.went_in in
      let clean = laws.clean all (told_on before.yard.tells opened.tells all_open.leaves.tells tells) fit in
      (clean.0, subst (λ (s : Status). s ≢ status.Corrupt) (sym closed.is) (closing_not status.Corrupt closed.work closed.closing tt closed.answers clean.1))
  new_is_sound plan before after text result valid tells (journaled.unseated books opened said all_open unused clock texts memory) = (tt, memory_not status.Corrupt result tt memory)
  new_is_sound plan before after text result valid tells (journaled.stopped books opened said why stops leaves unused clock texts is) =
      let not = λ (e : why ≡ status.Corrupt). stop_unwell _ _ _ _ _ why stops.stop (subst WentWell (sym e) tt) in
      (tt, subst (λ (s : Status). s ≢ status.Corrupt) (sym is) (refusal_not status.Corrupt why unused.closing tt unused.answers not))

  -- ---- over sure arms
  pub quiet_is_sure : QuietIsSure pass_seen book_seen
  quiet_is_sure plan before after text result valid sure (quietly.all_made last runs hands back clock printing) =
      let stores : AreStores plan before.hands = subst (λ (l : List HandSeen). AreStores plan l) (sym hands) (quieted.are_seated plan) in
      let all : PlanRuns pass_seen book_seen = record { plan = plan; before = before; last = last; text = text; result = result; valid = valid; stores = stores; runs = runs } in
      (laws.sure all sure).1
  quiet_is_sure plan before after text result valid sure (quietly.none_made yard clock printing none memory) = memory_not status.Device result tt memory

  pub new_is_sure : NewIsSure pass_seen book_seen
  new_is_sure plan before after text result valid sure (journaled.ran books opened said all_open rest closed texts) =
      let logs = plan.journal_sectors in
      let are : AreMade before.yard logs plan.stores books = subst (λ (l : List BookSeen). AreMade before.yard logs plan.stores l) (sym all_open.opens.books) all_open.opens.made in
      let stores : AreStores plan (with_books books) = are_seated plan before.yard logs books (ap length all_open.opens.books ∙ all_open.opens.one_each) are in
      let all : PlanRuns pass_seen book_seen = record { plan = plan; before = stage (with_books books) opened before.clock 0 said; last = closed.last; text = closed.runs_text; result = closed.work; valid = valid; stores = stores; runs = closed.made } in
      let still : ArmsAreSure opened plan.stores = sure_on before.yard opened plan.stores all_open.leaves.tells sure in
      subst (λ (s : Status). s ≢ status.Device) (sym closed.is) (closing_not status.Device closed.work closed.closing tt closed.answers (laws.sure all still).1)
  new_is_sure plan before after text result valid sure (journaled.unseated books opened said all_open unused clock texts memory) = memory_not status.Device result tt memory
  new_is_sure plan before after text result valid sure (journaled.stopped books opened said why stops leaves unused clock texts is) =
      let not = λ (e : why ≡ status.Device). stop_unwell _ _ _ _ _ why stops.stop (subst WentWell (sym e) tt) in
      subst (λ (s : Status). s ≢ status.Device) (sym is) (refusal_not status.Device why unused.closing tt unused.answers not)

  pub new_data_fits : ClosedRecovers → NewDataFits pass_seen book_seen
  new_data_fits recovers plan before after text result valid (journaled.ran books opened said all_open rest closed texts) well disks tells place store at =
      let logs = plan.journal_sectors in
      let are : AreMade before.yard logs plan.stores books = subst (λ (l : List BookSeen). AreMade before.yard logs plan.stores l) (sym all_open.opens.books) all_open.opens.made in
      let long : length books ≡ length plan.stores = ap length all_open.opens.books ∙ all_open.opens.one_each in
      let stores : AreStores plan (with_books books) = are_seated plan before.yard logs books long are in
      let from = from_anew plan plan.stores refl before.yard opened logs books (made_from before.yard logs plan.stores books are) (with_books books) refl disks in
      let still : IsTrue opened.tells.keeps_disks = subst (λ (t : Tells). IsTrue t.keeps_disks) (sym all_open.leaves.tells) disks in
      let stand = closed.whole (new_starts logs plan.stores) before.yard.disks well still (paths_apart plan.stores valid.paths) from in
      let hand = seat_there plan (with_books books) stores place store at in
      kept_fits pass_seen book_seen laws recovers plan valid (stage (with_books books) opened before.clock 0 said) after rest result closed stores (told_on before.yard.tells opened.tells all_open.leaves.tells tells) place store hand.0 at hand.1
      (new_fits laws.unwritten opened.contents before.yard logs plan.stores books are place store hand.0 at hand.1)
      (new_starts logs plan.stores) before.yard.disks (new_starts_are logs plan.stores) stand
  new_data_fits recovers plan before after text result valid (journaled.unseated books opened said all_open unused clock texts memory) well disks tells place store at = absurd (subst WentWell memory well)
  new_data_fits recovers plan before after text result valid (journaled.stopped books opened said why stops leaves unused clock texts is) well disks tells place store at =
      absurd (refusal_unwell why unused.closing unused.answers (stop_unwell _ _ _ _ _ why stops.stop) (subst WentWell is well))
