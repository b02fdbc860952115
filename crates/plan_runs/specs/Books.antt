-- What is said of the books of a run's stores once it has ended.
use Rattle.std.specs.Prelude.{◌≡◌, ◌⊎◌, ℕ, ◌==◌, ◌&&◌, ◌++◌, Bool, true, false, List, [], ◌∷◌, Option, Some, None, slice_get}
use Rattle.std.specs.List.{list_any, zip}
use Rattle.plan_types.specs.declared.run.RunPlan.{RunPlan}
use Rattle.plan_types.specs.declared.run.WorkerPlan.{WorkerPlan}
use Rattle.plan_types.specs.declared.store.StorePlan.{StorePlan}
use Rattle.key_state.specs.declared.fault.BookFault.TheVariants.{EpochEnd, Failed, Stopped}
use Rattle.worker_tally.specs.Tallies.{Tallied}
use Rattle.slave_worker.specs.Hands.{HandSeen}
use Rattle.slave_worker.specs.declared.did.WorkEnd.{WorkEnd}
use Rattle.slave_worker.specs.declared.did.WorkEnd.TheVariants as work_end
use Rattle.run_report.specs.Lines.{epoch_end_text, journal_fault_text}
use Rattle.run_report.specs.Runs.{run_text}
use Rattle.run_report.specs.Says.{Printing, Says, SaysFront}
use Rattle.run_report.specs.declared.status.Status.{Status}
use Rattle.run_report.specs.declared.status.Status.TheVariants as status
use Rattle.plan_hands.specs.Stores.{book_of, place_of}
use Rattle.plan_runs.specs.Statuses.{tallies_status, worse}
use Rattle.plan_runs.specs.declared.books.BookEnd.{BookEnd}
use Rattle.plan_runs.specs.declared.books.BookEnd.TheVariants as book_end

abbrev pub is_epoch_end : WorkEnd → Bool
is_epoch_end (work_end.Book (EpochEnd epoch)) = true
is_epoch_end (work_end.Book Failed) = false
is_epoch_end (work_end.Book (Stopped records)) = false
is_epoch_end work_end.TurnsMade = false
is_epoch_end (work_end.TimeUp last) = false
is_epoch_end (work_end.ErrorLimit seen) = false

-- whether a worker of the store at a place was refused by a book at the end of the last epoch
abbrev pub met_end : ℕ → List WorkerPlan → List WorkEnd → Bool
met_end store workers ends = list_any (λ (one : WorkerPlan × WorkEnd). one.0.store == store && is_epoch_end one.1) (zip workers ends)

-- how a book stands, by the records that it had when it was stopped and by what its workers met
abbrev pub stands : Option ℕ → Bool → BookEnd
stands (Some records) met = book_end.Failed records
stands None true = book_end.EpochOver
stands None false = book_end.Well

abbrev pub book_end_of : RunPlan → List WorkEnd → HandSeen → BookEnd
book_end_of run ends hand = stands (book_of hand).stopped (met_end (place_of hand) run.workers ends)

abbrev pub book_line : Option StorePlan → BookEnd → List ℕ
book_line None how = []
book_line (Some store) book_end.Well = []
book_line (Some store) (book_end.Failed records) = journal_fault_text store.id.name records
book_line (Some store) book_end.EpochOver = epoch_end_text store.id.name

-- the line of each store of a run whose book failed or is at the end of its last epoch, store by store
abbrev pub books_text : List StorePlan → RunPlan → List WorkEnd → List HandSeen → List ℕ
books_text stores run ends [] = []
books_text stores run ends (hand ∷ hands) =
    book_line (slice_get stores (place_of hand)) (book_end_of run ends hand) ++ books_text stores run ends hands

abbrev pub book_status : BookEnd → Status
book_status book_end.Well = status.Good
book_status (book_end.Failed records) = status.Journal
book_status book_end.EpochOver = status.EpochEnd

abbrev pub books_status : RunPlan → List WorkEnd → List HandSeen → Status
books_status run ends [] = status.Good
books_status run ends (hand ∷ hands) = worse (book_status (book_end_of run ends hand)) (books_status run ends hands)

-- what is said once a run has ended whose stores came back so, and the status that goes with it
abbrev pub ran_text : List StorePlan → RunPlan → List Tallied → List WorkEnd → List HandSeen → List ℕ
ran_text stores run tallies ends hands = run_text stores run tallies ++ books_text stores run ends hands

abbrev pub ran_status : RunPlan → List Tallied → List WorkEnd → List HandSeen → Status
ran_status run tallies ends hands = worse (books_status run ends hands) (tallies_status tallies)

-- All of it was said, and the status is the one that goes with it; or memory ran out, and a front of it was said.
abbrev pub SaysAll : List ℕ → Status → Status → Printing → Printing → Type 0
SaysAll text with result before now = ((result ≡ with) × Says before now text) ⊎ ((result ≡ status.NoMemory) × SaysFront before now text)
