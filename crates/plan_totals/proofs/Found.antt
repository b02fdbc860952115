-- The status of runs that others follow is what their tallies say.
use Rattle.std.proofs.Common.{◌≡◌, ◌∙◌, refl, sym, ap, inl, inr, ℕ, Bool, true, false, List, [], ◌∷◌, ◌++◌, append-nil, map}
use Rattle.std.specs.Prelude.{◌||◌, if◌then◌else◌, nat_lt}
use Rattle.std.specs.List.{list_any}
use Rattle.std.proofs.lemmas.Grind.{flat_map-append}
use Rattle.std.proofs.lemmas.List.Folds.{list_any-append}
use Rattle.vd_arm.specs.Arm.{PassSeen}
use Rattle.plan_types.specs.declared.plan.Plan.{Plan}
use Rattle.plan_types.specs.declared.run.RunPlan.{RunPlan}
use Rattle.key_state.specs.declared.seen.BookSeen.{BookSeen}
use Rattle.worker_tally.specs.Tallies.{Tallied}
use Rattle.slave_worker.specs.Hands.{hand_seen}
use Rattle.run_report.specs.declared.status.Status.{Status}
use Rattle.run_report.specs.declared.status.Status.TheVariants as status
use Rattle.plan_runs.specs.Books.{books_status}
use Rattle.plan_runs.specs.Stages.{OneRun, RunsMade, Stage, is_last, made, not_opened, not_started, said_in_part}
use Rattle.plan_runs.specs.Statuses.{tallies_status, worse}
use Rattle.plan_runs.proofs.Devices.{fault_has}
use Rattle.plan_runs.proofs.Ended.{OfBooks, of_books}
use Rattle.plan_totals.specs.Made.{MadeRun, all_made, made_in, tallies_of}
use Rattle.plan_totals.proofs.Books.{last_worse}

abbrev has_fault : Tallied → Bool
has_fault tally = nat_lt 0 tally.numbers.faults

abbrev has_corrupt : Tallied → Bool
has_corrupt tally = nat_lt 0 tally.numbers.corrupt

-- what is said where some tally has faults, and where some has a corrupt block
abbrev said : Bool → Bool → Status
said faults corrupt = if faults then status.Device else if corrupt then status.Corrupt else status.Good

said_worse : (a b c d : Bool) → said (a || c) (b || d) ≡ worse (said a b) (said c d)
said_worse true b true d = refl
said_worse true b false true = refl
said_worse true b false false = refl
said_worse false true true d = refl
said_worse false false true d = refl
said_worse false true false true = refl
said_worse false true false false = refl
said_worse false false false true = refl
said_worse false false false false = refl

said_alone : (a b : Bool) → worse status.Good (said a b) ≡ said a b
said_alone true b = refl
said_alone false true = refl
said_alone false false = refl

tallies_append : (xs ys : List Tallied) → tallies_status (xs ++ ys) ≡ worse (tallies_status xs) (tallies_status ys)
tallies_append xs ys =
    ap (λ (b : Bool). said b (list_any has_corrupt (xs ++ ys))) (list_any-append has_fault xs ys)
    ∙ ap (λ (b : Bool). said (list_any has_fault xs || list_any has_fault ys) b) (list_any-append has_corrupt xs ys)
    ∙ said_worse (list_any has_fault xs) (list_any has_corrupt xs) (list_any has_fault ys) (list_any has_corrupt ys)

good_books : (s : Status) → OfBooks s → is_last s ≡ false → s ≡ status.Good
good_books s (inl is) never = is
good_books s (inr (inl is)) never = absurd (let so : true ≡ false = sym (ap is_last is) ∙ never in cc)
good_books s (inr (inr is)) never = absurd (let so : true ≡ false = sym (ap is_last is) ∙ never in cc)

module _ {P B : Type 0} (pass_seen : P → PassSeen) (book_seen : B → BookSeen) (plan : Plan) where
  one_found : (run : RunPlan) (before after : Stage) (text : List ℕ) (result : Status) (one : OneRun pass_seen book_seen plan run before after text result) → is_last result ≡ false
      → result ≡ tallies_status (tallies_of (made_in pass_seen book_seen plan run before after text result one))
  one_found run before after text result (made answer m is_text is) never =
      let books : Status = books_status run answer.ends.items (map (hand_seen pass_seen book_seen) answer.hands.items) in
      let tallies : List Tallied = answer.tallies.items in
      let good = good_books books (of_books run answer.ends.items (map (hand_seen pass_seen book_seen) answer.hands.items)) (last_worse books (tallies_status tallies) (sym (ap is_last is) ∙ never)).0 in
      is ∙ ap (λ (s : Status). worse s (tallies_status tallies)) good ∙ said_alone (list_any has_fault tallies) (list_any has_corrupt tallies) ∙ ap tallies_status (sym (append-nil tallies))
  one_found run before after text result (said_in_part n answer m is_text is) never = absurd (let so : true ≡ false = sym (ap is_last is) ∙ never in cc)
  one_found run before after text result (not_started ready why is_ready none told) never = absurd (let so : true ≡ false = sym (fault_has is_last plan why text result refl refl told) ∙ never in cc)
  one_found run before after text result (not_opened why none told) never = absurd (let so : true ≡ false = sym (fault_has is_last plan why text result refl refl told) ∙ never in cc)

  pub status_found : (runs : List RunPlan) (before after : Stage) (text : List ℕ) (result : Status) (them : RunsMade pass_seen book_seen plan runs before after text result) → is_last result ≡ false
      → result ≡ tallies_status (tallies_of (all_made pass_seen book_seen plan runs before after text result them))
  status_found [] before after text result (same, is_text, is) never = is
  status_found (run ∷ runs) before after text result (inl (limit, same, is_text, is)) never = is
  status_found (run ∷ runs) before after text result (inr (inl (few, says, last))) never = absurd (let so : true ≡ false = sym last ∙ never in cc)
  status_found (run ∷ runs) before after text result (inr (inr (few, between, first, rest, one, others, says, last, then_made, is_text, is))) never =
      let now = made_in pass_seen book_seen plan run before between first one says.one in
      let later = all_made pass_seen book_seen plan runs between after rest others then_made in
      let one_is = one_found run before between first one says.one last in
      let others_are = status_found runs between after rest others then_made (last_worse one others (sym (ap is_last is) ∙ never)).1 in
      is ∙ ap (λ (s : Status). worse s others) one_is ∙ ap (λ (s : Status). worse (tallies_status (tallies_of now)) s) others_are ∙ sym (tallies_append (tallies_of now) (tallies_of later))
      ∙ ap tallies_status (sym (flat_map-append (λ (o : MadeRun). o.tallies) now later))
