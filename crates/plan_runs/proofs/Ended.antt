-- Which statuses runs end with.
use Rattle.std.proofs.Common.{◌≡◌, ◌∙◌, refl, sym, ap, subst, inl, inr, ◌⊎◌, ℕ, Bool, true, false, List, [], ◌∷◌}
use Rattle.std.specs.Prelude.{◌≢◌, nat_lt, if◌then◌else◌}
use Rattle.std.specs.List.{list_any}
use Rattle.plan_types.specs.declared.run.RunPlan.{RunPlan}
use Rattle.worker_tally.specs.Tallies.{Tallied}
use Rattle.slave_worker.specs.Hands.{HandSeen}
use Rattle.slave_worker.specs.declared.did.WorkEnd.{WorkEnd}
use Rattle.run_report.specs.declared.status.Status.{Status}
use Rattle.run_report.specs.declared.status.Status.TheVariants as status
use Rattle.plan_runs.specs.Books.{book_end_of, book_status, books_status}
use Rattle.plan_runs.specs.Stages.{is_last}
use Rattle.plan_runs.specs.Statuses.{tallies_status, weight_of, worse}
use Rattle.plan_runs.specs.declared.books.BookEnd.{BookEnd}
use Rattle.plan_runs.specs.declared.books.BookEnd.TheVariants as book_end

-- The worse of two is one of them.
either : (b : Bool) (x y : Status) → ((if b then y else x) ≡ x) ⊎ ((if b then y else x) ≡ y)
either true x y = inr refl
either false x y = inl refl

pub worse_either : (first rest : Status) → (worse first rest ≡ first) ⊎ (worse first rest ≡ rest)
worse_either first rest = either (nat_lt (weight_of first) (weight_of rest)) first rest

pub worse_has : (p : Status → Bool) (first rest : Status) → p first ≡ true → p rest ≡ true → p (worse first rest) ≡ true
worse_has p first rest one two = elim (worse_either first rest) [
  | inl is ↦ ap p is ∙ one
  | inr is ↦ ap p is ∙ two
]

-- What books say: nothing, that one is at its end, or that one failed.
abbrev pub OfBooks : Status → Type 0
OfBooks s = (s ≡ status.Good) ⊎ (s ≡ status.EpochEnd) ⊎ (s ≡ status.Journal)

of_book : (how : BookEnd) → OfBooks (book_status how)
of_book book_end.Well = inl refl
of_book (book_end.Failed records) = inr (inr refl)
of_book book_end.EpochOver = inr (inl refl)

pub of_books : (run : RunPlan) (ends : List WorkEnd) (hands : List HandSeen) → OfBooks (books_status run ends hands)
of_books run ends [] = inl refl
of_books run ends (hand ∷ hands) =
    let one = book_status (book_end_of run ends hand) in
    let rest = books_status run ends hands in
    elim (worse_either one rest) [
      | inl is ↦ subst OfBooks (sym is) (of_book (book_end_of run ends hand))
      | inr is ↦ subst OfBooks (sym is) (of_books run ends hands)
    ]

-- What tallies say, where no device failed and where one did.
pub device_failed : (tallies : List Tallied) (b : Bool) → list_any (λ (tally : Tallied). nat_lt 0 tally.numbers.faults) tallies ≡ b → tallies_status tallies ≡ status.Device → b ≡ true
device_failed tallies true is device = refl
device_failed tallies false is device =
    let other : (c : Bool) → (if c then status.Corrupt else status.Good) ≡ status.Device → false ≡ true = λ c so. not_device c so in
    other (list_any (λ (tally : Tallied). nat_lt 0 tally.numbers.corrupt) tallies)
    (sym (ap (λ (b : Bool). if b then status.Device else if list_any (λ (tally : Tallied). nat_lt 0 tally.numbers.corrupt) tallies then status.Corrupt else status.Good) is) ∙ device)
  where
    not_device : (c : Bool) → (if c then status.Corrupt else status.Good) ≡ status.Device → false ≡ true
    not_device true so = absurd cc
    not_device false so = absurd cc

pub device_told : (tallies : List Tallied) → list_any (λ (tally : Tallied). nat_lt 0 tally.numbers.faults) tallies ≡ true → tallies_status tallies ≡ status.Device
device_told tallies is =
    ap (λ (b : Bool). if b then status.Device else if list_any (λ (tally : Tallied). nat_lt 0 tally.numbers.corrupt) tallies then status.Corrupt else status.Good) is

-- The worse of both is that a device failed where the tallies say so and no book says more.
pub device_by_tallies : (books tallies : Status) → OfBooks books → worse books tallies ≡ status.Device → tallies ≡ status.Device
device_by_tallies books tallies (inl is) device = elim (worse_either books tallies) [
  | inl same ↦ absurd (let so : status.Good ≡ status.Device = sym is ∙ sym same ∙ device in cc)
  | inr same ↦ sym same ∙ device
]
device_by_tallies books tallies (inr (inl is)) device = elim (worse_either books tallies) [
  | inl same ↦ absurd (let so : status.EpochEnd ≡ status.Device = sym is ∙ sym same ∙ device in cc)
  | inr same ↦ sym same ∙ device
]
device_by_tallies books tallies (inr (inr is)) device = elim (worse_either books tallies) [
  | inl same ↦ absurd (let so : status.Journal ≡ status.Device = sym is ∙ sym same ∙ device in cc)
  | inr same ↦ sym same ∙ device
]

pub no_device : (books tallies : Status) → OfBooks books → worse books tallies ≢ status.Device → worse books tallies ≢ status.EpochEnd → worse books tallies ≢ status.Journal → tallies ≢ status.Device
no_device books tallies (inl is) device epoch journal told =
    device (ap (λ (s : Status). worse s tallies) is ∙ ap (λ (s : Status). worse status.Good s) told)
no_device books tallies (inr (inl is)) device epoch journal told =
    epoch (ap (λ (s : Status). worse s tallies) is ∙ ap (λ (s : Status). worse status.EpochEnd s) told)
no_device books tallies (inr (inr is)) device epoch journal told =
    journal (ap (λ (s : Status). worse s tallies) is ∙ ap (λ (s : Status). worse status.Journal s) told)

-- the statuses that runs can end with, and those that runs without journals can
abbrev pub of_runs : Status → Bool
of_runs status.Good = true
of_runs status.Corrupt = true
of_runs status.Device = true
of_runs status.EpochEnd = true
of_runs status.Journal = true
of_runs status.Yard = true
of_runs status.NoMemory = true
of_runs _ = false

abbrev pub of_quiet_runs : Status → Bool
of_quiet_runs status.Good = true
of_quiet_runs status.Corrupt = true
of_quiet_runs status.Device = true
of_quiet_runs status.Yard = true
of_quiet_runs status.NoMemory = true
of_quiet_runs _ = false

pub tallies_has : (p : Status → Bool) (tallies : List Tallied) → p status.Good ≡ true → p status.Corrupt ≡ true → p status.Device ≡ true → p (tallies_status tallies) ≡ true
tallies_has p tallies good corrupt device =
    pick (list_any (λ (tally : Tallied). nat_lt 0 tally.numbers.faults) tallies) (list_any (λ (tally : Tallied). nat_lt 0 tally.numbers.corrupt) tallies)
  where
    pick : (a b : Bool) → p (if a then status.Device else if b then status.Corrupt else status.Good) ≡ true
    pick true b = device
    pick false true = corrupt
    pick false false = good

pub books_has : (p : Status → Bool) (books : Status) → OfBooks books → p status.Good ≡ true → p status.EpochEnd ≡ true → p status.Journal ≡ true → p books ≡ true
books_has p books (inl is) good epoch journal = ap p is ∙ good
books_has p books (inr (inl is)) good epoch journal = ap p is ∙ epoch
books_has p books (inr (inr is)) good epoch journal = ap p is ∙ journal

-- A status that others follow.
abbrev pub GoesOn : Status → Type 0
GoesOn s = (s ≡ status.Good) ⊎ (s ≡ status.Corrupt) ⊎ (s ≡ status.Device)

pub goes_on : (s : Status) → is_last s ≡ false → of_runs s ≡ true → GoesOn s
goes_on status.Good last is = inl refl
goes_on status.Corrupt last is = inr (inl refl)
goes_on status.Device last is = inr (inr refl)
goes_on status.EpochEnd last is = absurd (let so : true ≡ false = last in cc)
goes_on status.Journal last is = absurd (let so : true ≡ false = last in cc)
goes_on status.Yard last is = absurd (let so : true ≡ false = last in cc)
goes_on status.NoMemory last is = absurd (let so : true ≡ false = last in cc)
goes_on status.Parameter last is = absurd (let so : false ≡ true = is in cc)
goes_on status.Source last is = absurd (let so : false ≡ true = is in cc)
goes_on status.Usage last is = absurd (let so : false ≡ true = is in cc)
goes_on status.Sink last is = absurd (let so : false ≡ true = is in cc)
goes_on status.NoJournal last is = absurd (let so : false ≡ true = is in cc)
goes_on status.Damaged last is = absurd (let so : false ≡ true = is in cc)
goes_on status.Mismatch last is = absurd (let so : false ≡ true = is in cc)

-- One that ends a command at once wins over those that others follow.
pub ends_at_once : (first rest : Status) → GoesOn first → weight_of rest ≡ 5 → worse first rest ≡ rest
ends_at_once first rest (inl is) heavy = ap (λ (s : Status). worse s rest) is ∙ ap (λ (n : ℕ). if nat_lt 0 n then rest else status.Good) heavy
ends_at_once first rest (inr (inl is)) heavy = ap (λ (s : Status). worse s rest) is ∙ ap (λ (n : ℕ). if nat_lt 1 n then rest else status.Corrupt) heavy
ends_at_once first rest (inr (inr is)) heavy = ap (λ (s : Status). worse s rest) is ∙ ap (λ (n : ℕ). if nat_lt 2 n then rest else status.Device) heavy
