-- Where runs end because a journal failed, the book of one of their stores is stopped behind them.
use Rattle.std.proofs.Common.{◌≡◌, ◌∙◌, sym, ap, inl, inr, ℕ, zero, suc, Bool, true, false, cond, List, [], ◌∷◌, map, Option, Some, None, slice_get, IsSome, refl}
use Rattle.std.specs.List.{filter}
use Rattle.std.proofs.lemmas.Option.{none-some}
use Rattle.vd_arm.specs.Arm.{PassSeen}
use Rattle.plan_types.specs.declared.plan.Plan.{Plan}
use Rattle.plan_types.specs.declared.run.RunPlan.{RunPlan}
use Rattle.key_state.specs.declared.seen.BookSeen.{BookSeen}
use Rattle.slave_worker.specs.Hands.{HandSeen, hand_seen, works_in}
use Rattle.slave_worker.specs.declared.did.WorkEnd.{WorkEnd}
use Rattle.slave_worker.specs.declared.hand.RunAnswer.{RunAnswer}
use Rattle.run_report.specs.declared.status.Status.{Status}
use Rattle.run_report.specs.declared.status.Status.TheVariants as status
use Rattle.plan_hands.specs.Stores.{book_of, place_of}
use Rattle.run_totals.proofs.Lists.{get_map}
use Rattle.plan_runs.specs.Books.{book_end_of, book_status, books_status, met_end, stands}
use Rattle.plan_runs.specs.Stages.{OneRun, RunMade, RunsMade, Stage, is_last, made, made_status, not_opened, not_started, said_in_part}
use Rattle.plan_runs.specs.Statuses.{tallies_status}
use Rattle.plan_runs.proofs.Devices.{fault_has}
use Rattle.plan_runs.proofs.Ended.{tallies_has, worse_either}

-- One of these books is stopped.
pub record SomeStopped (books : List BookSeen) : Type 0 where
  pub place : ℕ
  pub book : BookSeen
  pub there : slice_get books place ≡ Some book
  pub stopped : IsSome book.stopped

abbrev not_journal : Status → Bool
not_journal status.Journal = false
not_journal _ = true

no_journal : (s : Status) → not_journal s ≡ true → s ≡ status.Journal → ⊥
no_journal s is so = let no : false ≡ true = sym (ap not_journal so) ∙ is in cc

-- What passes a filter was there.
kept_was : {A : Type 0} (p : A → Bool) (xs : List A) (i : ℕ) (x : A) → slice_get (filter p xs) i ≡ Some x → (j : ℕ) × (slice_get xs j ≡ Some x)
kept_was p [] i x at = absurd (none-some x at)
kept_was {A} p (y ∷ ys) i x at = behind (p y) i at (λ k is. kept_was p ys k x is)
  where
    behind : (b : Bool) (k : ℕ) → slice_get (cond b (y ∷ filter p ys) (filter p ys)) k ≡ Some x → ((n : ℕ) → slice_get (filter p ys) n ≡ Some x → (j : ℕ) × (slice_get ys j ≡ Some x)) → (j : ℕ) × (slice_get (y ∷ ys) j ≡ Some x)
    behind true zero is later = (0, is)
    behind true (suc k) is later = let rest = later k is in (suc rest.0, rest.1)
    behind false k is later = let rest = later k is in (suc rest.0, rest.1)

stopped_where : (stopped : Option ℕ) (met : Bool) → book_status (stands stopped met) ≡ status.Journal → IsSome stopped
stopped_where (Some records) met is = refl
stopped_where None true is = absurd (no_journal status.EpochEnd refl is)
stopped_where None false is = absurd (no_journal status.Good refl is)

-- A book of these hands failed.
stopped_hand : (run : RunPlan) (ends : List WorkEnd) (hands : List HandSeen) → books_status run ends hands ≡ status.Journal → (i : ℕ) × (hand : HandSeen) × (slice_get hands i ≡ Some hand) × IsSome (book_of hand).stopped
stopped_hand run ends [] is = absurd (no_journal status.Good refl is)
stopped_hand run ends (hand ∷ hands) is =
    elim (worse_either (book_status (book_end_of run ends hand)) (books_status run ends hands)) [
      | inl first ↦ (0, hand, refl, stopped_where (book_of hand).stopped (met_end (place_of hand) run.workers ends) (sym first ∙ is))
      | inr rest ↦
          let more = stopped_hand run ends hands (sym rest ∙ is) in
          (suc more.0, more.1, more.2, more.3)
    ]

module _ {P B : Type 0} (pass_seen : P → PassSeen) (book_seen : B → BookSeen) (plan : Plan) where
  module _ (run : RunPlan) where
    run_stopped : (before after : Stage) (answer : RunAnswer P B) → RunMade pass_seen book_seen plan run before after answer → made_status pass_seen book_seen run answer ≡ status.Journal → SomeStopped (map book_of after.hands)
    run_stopped before after answer m is =
        let hands : List HandSeen = map (hand_seen pass_seen book_seen) answer.hands.items in
        let books = books_status run answer.ends.items hands in
        let tallies = tallies_status answer.tallies.items in
        elim (worse_either books tallies) [
          | inl first ↦
              let found = stopped_hand run answer.ends.items hands (sym first ∙ is) in
              let kept = kept_was (λ (hand : HandSeen). works_in run (place_of hand)) after.hands found.0 found.1 (ap (λ (l : List HandSeen). slice_get l found.0) m.joins.its ∙ found.2) in
              record {
                place = kept.0;
                book = book_of found.1;
                there = get_map book_of after.hands kept.0 found.1 kept.1;
                stopped = found.3;
              }
          | inr rest ↦ absurd (no_journal tallies (tallies_has not_journal answer.tallies.items refl refl refl) (sym rest ∙ is))
        ]

    one_stopped : (before after : Stage) (text : List ℕ) (result : Status) → OneRun pass_seen book_seen plan run before after text result → result ≡ status.Journal → SomeStopped (map book_of after.hands)
    one_stopped before after text result (made answer m is_text is) so = run_stopped before after answer m (sym is ∙ so)
    one_stopped before after text result (said_in_part n answer m is_text is) so = absurd (no_journal status.NoMemory refl (sym is ∙ so))
    one_stopped before after text result (not_started ready why is_ready none told) so = absurd (no_journal result (fault_has not_journal plan why text result refl refl told) so)
    one_stopped before after text result (not_opened why stops told) so = absurd (no_journal result (fault_has not_journal plan why text result refl refl told) so)

  goes_on_without : (one : Status) → is_last one ≡ false → one ≡ status.Journal → ⊥
  goes_on_without one last is = let no : true ≡ false = sym (ap is_last is) ∙ last in cc

  -- The status of a failed journal comes only from the last run, behind which a book is stopped.
  pub runs_stopped : (runs : List RunPlan) (before after : Stage) (text : List ℕ) (result : Status) → RunsMade pass_seen book_seen plan runs before after text result → result ≡ status.Journal → SomeStopped (map book_of after.hands)
  runs_stopped [] before after text result (same, is_text, is) so = absurd (no_journal status.Good refl (sym is ∙ so))
  runs_stopped (run ∷ runs) before after text result (inl (limit, same, is_text, is)) so = absurd (no_journal status.Good refl (sym is ∙ so))
  runs_stopped (run ∷ runs) before after text result (inr (inl (few, says, last))) so = one_stopped run before after text result says.one so
  runs_stopped (run ∷ runs) before after text result (inr (inr (few, between, first, rest, one, others, says, last, more, is_text, is))) so =
      elim (worse_either one others) [
        | inl same ↦ absurd (goes_on_without one last (sym same ∙ sym is ∙ so))
        | inr same ↦ runs_stopped runs between after rest others more (sym same ∙ sym is ∙ so)
      ]
