-- What is said line by line, and the status that goes with it.
use Rattle.std.proofs.Common.{◌≡◌, ◌∙◌, refl, sym, ap, subst, inl, inr, ℕ, min, List, [], ◌++◌, length, take, Option, Some, Result, Ok, Err, IfOk}
use Rattle.std.proofs.lemmas.List.{append-nil}
use Rattle.vd_outside.specs.declared.text.NoMemory.{NoMemory}
use Rattle.plan_types.specs.declared.run.RunPlan.{RunPlan}
use Rattle.plan_types.specs.declared.store.StorePlan.{StorePlan}
use Rattle.slave_worker.specs.Hands.{HandSeen}
use Rattle.slave_worker.specs.declared.did.WorkEnd.{WorkEnd}
use Rattle.run_report.specs.Lines.{epoch_end_text, journal_fault_text}
use Rattle.run_report.specs.Says.{Printing, Says, SaysFront, front_here, says_along, says_front, says_none, says_then, take_within, then_front}
use Rattle.run_report.specs.declared.status.Status.{Status}
use Rattle.run_report.specs.declared.status.Status.TheVariants as status
use Rattle.still_plan.specs.Lines.{SaysLine, SaysOr}
use Rattle.plan_runs.specs.Books.{SaysAll, book_line, book_status, books_status, books_text}
use Rattle.plan_runs.specs.Statuses.{worse}
use Rattle.plan_runs.specs.declared.books.BookEnd.{BookEnd}
use Rattle.plan_runs.specs.declared.books.BookEnd.TheVariants as book_end

abbrev SaysBook : Option StorePlan → BookEnd → Status → Printing → Printing → Type 0
SaysBook store how result a b = SaysOr (book_line store how) (book_status how) result a b

says_or : (line : Result (List ℕ) NoMemory) (want : List ℕ) (with result : Status) (a b : Printing) → IfOk line (λ l. l ≡ want) → SaysLine line with result a b → SaysOr want with result a b
says_or (Ok line) want with result a b e p = inl (p.0, says_along a b line want e p.1)
says_or (Err e) want with result a b is p = inr p

module _ (found : Option StorePlan) (store : StorePlan) (is : found ≡ Some store) (how : BookEnd) (a b : Printing) where
  pub says_well : how ≡ book_end.Well → SaysBook found how status.Good a a
  says_well well =
      subst (λ (h : BookEnd). SaysBook found h status.Good a a) (sym well)
      (subst (λ (s : Option StorePlan). SaysBook s book_end.Well status.Good a a) (sym is) (inl (refl, says_none a)))

  pub says_failed : (records : ℕ) (line : Result (List ℕ) NoMemory) (result : Status) → how ≡ book_end.Failed records → IfOk line (λ l. l ≡ journal_fault_text store.id.name records) → SaysLine line status.Journal result a b → SaysBook found how result a b
  says_failed records line result failed made said =
      subst (λ (h : BookEnd). SaysBook found h result a b) (sym failed)
      (subst (λ (s : Option StorePlan). SaysBook s (book_end.Failed records) result a b) (sym is) (says_or line (journal_fault_text store.id.name records) status.Journal result a b made said))

  pub says_over : (line : Result (List ℕ) NoMemory) (result : Status) → how ≡ book_end.EpochOver → IfOk line (λ l. l ≡ epoch_end_text store.id.name) → SaysLine line status.EpochEnd result a b → SaysBook found how result a b
  says_over line result over made said =
      subst (λ (h : BookEnd). SaysBook found h result a b) (sym over)
      (subst (λ (s : Option StorePlan). SaysBook s book_end.EpochOver result a b) (sym is) (says_or line (epoch_end_text store.id.name) status.EpochEnd result a b made said))

all_front : (a b : Printing) (text : List ℕ) → Says a b text → SaysFront a b text
all_front a b text said = subst (λ (l : List ℕ). SaysFront a b l) (append-nil text) (front_here a b text [] said)

front_longer : (a b : Printing) (text more : List ℕ) → SaysFront a b text → SaysFront a b (text ++ more)
front_longer a b text more (says_front n said) = says_front (min n (length text)) (says_along a b (take n text) (take (min n (length text)) (text ++ more)) (sym (take_within text more n)) said)

-- Memory ran out in the first line.
pub ends_first : (line rest : List ℕ) (with all first : Status) (a b : Printing) → SaysOr line with first a b → SaysAll (line ++ rest) all status.NoMemory a b
ends_first line rest with all first a b (inl said) = inr (refl, front_here a b line rest said.1)
ends_first line rest with all first a b (inr said) = inr (refl, front_here a b [] (line ++ rest) said.1)

-- It ran out in a later one.
pub ends_later : (line rest : List ℕ) (with later all first second : Status) (a b c : Printing) → (first ≡ status.NoMemory → ⊥) → SaysOr line with first a b → SaysAll rest later second b c → SaysAll (line ++ rest) all status.NoMemory a c
ends_later line rest with later all first second a b c made (inr said) after = absurd (made said.0)
ends_later line rest with later all first second a b c made (inl said) (inl after) = inr (refl, then_front a b c line rest said.1 (all_front b c rest after.1))
ends_later line rest with later all first second a b c made (inl said) (inr after) = inr (refl, then_front a b c line rest said.1 after.1)

pub both_said : (line rest : List ℕ) (with later first second result : Status) (a b c : Printing) → (first ≡ status.NoMemory → ⊥) → (second ≡ status.NoMemory → ⊥) → result ≡ worse first second → SaysOr line with first a b → SaysAll rest later second b c → SaysAll (line ++ rest) (worse with later) result a c
both_said line rest with later first second result a b c made also is (inr said) after = absurd (made said.0)
both_said line rest with later first second result a b c made also is (inl said) (inr after) = absurd (also after.0)
both_said line rest with later first second result a b c made also is (inl said) (inl after) =
    inl (is ∙ ap (λ (s : Status). worse s second) said.0 ∙ ap (λ (s : Status). worse with s) after.0, says_then a b c line rest said.1 after.1)

-- of the books of these hands, as they stand
pub of_hands : (stores : List StorePlan) (run : RunPlan) (ends : List WorkEnd) (hands other : List HandSeen) (result : Status) (a b : Printing) → hands ≡ other → SaysAll (books_text stores run ends other) (books_status run ends other) result a b → SaysAll (books_text stores run ends hands) (books_status run ends hands) result a b
of_hands stores run ends hands other result a b same said = subst (λ (l : List HandSeen). SaysAll (books_text stores run ends l) (books_status run ends l) result a b) (sym same) said

pub none_said : (a : Printing) → SaysAll [] status.Good status.Good a a
none_said a = inl (refl, says_none a)

-- What a run prints comes first.
pub ran_front : (run books : List ℕ) (all : Status) (a b : Printing) → SaysFront a b run → SaysAll (run ++ books) all status.NoMemory a b
ran_front run books all a b said = inr (refl, front_longer a b run books said)

pub ran_later : (run books : List ℕ) (with all second : Status) (a b c : Printing) → Says a b run → SaysAll books with second b c → SaysAll (run ++ books) all status.NoMemory a c
ran_later run books with all second a b c said (inl after) = inr (refl, then_front a b c run books said (all_front b c books after.1))
ran_later run books with all second a b c said (inr after) = inr (refl, then_front a b c run books said after.1)

pub ran_said : (run books : List ℕ) (with second tallies result : Status) (a b c : Printing) → (second ≡ status.NoMemory → ⊥) → result ≡ worse second tallies → Says a b run → SaysAll books with second b c → SaysAll (run ++ books) (worse with tallies) result a c
ran_said run books with second tallies result a b c made is said (inr after) = absurd (made after.0)
ran_said run books with second tallies result a b c made is said (inl after) =
    inl (is ∙ ap (λ (s : Status). worse s tallies) after.0, says_then a b c run books said after.1)
