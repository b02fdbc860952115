-- The rule of the word: it is the errors from before and the notes of all seats, and each count up to it was answered to one note.
use Rattle.std.specs.Prelude.{◌≡◌, ℕ, ◌+◌, ◌-◌, ◌*◌, ◌^◌, ◌<◌, ◌≤◌, List, [], ◌∷◌, ◌++◌, length, slice_index}
use mathlib.Core.Option.{some}
use lib.ListN.{get_elem?}
use Rattle.atomic_table.specs.Table.{State, Me, Step}
use Rattle.error_limit.specs.Sums.{total, times, EachOnce}
use Rattle.error_limit.specs.declared.rule.Noted.{Noted}
use Rattle.error_limit.specs.declared.rule.Start.{Start}

-- what is seen of a seat: its parts, and what its notes answered
abbrev pub seat : ℕ → List ℕ → Start → Noted
seat parts answers made = record { parts = parts; answers = answers; made = made }

abbrev pub notes : Noted → ℕ
notes view = length view.answers

-- the newest answer, 0 before the first
abbrev pub newest : List ℕ → ℕ
newest [] = 0
newest (x ∷ xs) = x

-- how often the view was answered this number
abbrev pub heard : ℕ → Noted → ℕ
heard n view = times n view.answers

abbrev pub parts : Noted → ℕ
parts view = view.parts

-- A seat noted at most 2 ^ 32 times for each part.
pub record Fits (start : Start) (view : Noted) : Type 0 where
  pub few : notes view ≤ view.parts * 2 ^ 32
  pub made : 0 < view.parts → view.made ≡ start

-- The word is the errors from before and all notes, each count up to it was answered to one note, and the seats have all parts.
pub record Counted {S : Type 0} (start : Start) (s : State S Noted) : Type 0 where
  pub wide : length s.words ≡ 1
  pub exact : slice_index s.words 0 ≡ start.before + total notes s.views
  pub once : EachOnce start.before (slice_index s.words 0) (λ n. total (heard n) s.views)
  pub whole : total parts s.views ≡ start.seats
  pub small : (start.before < 2 ^ 32) × (start.seats ≤ 65536)
  pub each : (j : ℕ) (view : Noted) → get_elem? s.views j ≡ some view → Fits start view

-- the first seat has every part
abbrev pub first : Start → Noted
first start = seat start.seats [] start

-- the view after a note that found this count
abbrev pub noted : Noted → ℕ → Noted
noted view found = seat view.parts ((found + 1) ∷ view.answers) view.made

-- What a note tells, of the seat before, the count found and the seat after.
pub record Tells {S : Type 0} (before : Me S Noted) (found : ℕ) (after : Me S Noted) : Type 0 where
  pub after_is : after ≡ (noted before.0 found, before.1)
  pub later : newest before.0.answers ≤ found
  pub own : before.0.made.before + notes before.0 ≤ found
  pub alone : before.0.parts ≡ before.0.made.seats → found ≡ before.0.made.before + notes before.0
  pub room : found + 1 < 2 ^ 64

abbrev pub answers : {S : Type 0} → Step S → Me S Noted → ℕ → Me S Noted → Type 0
answers st before found after = Tells before found after

-- one part goes to a new seat
abbrev pub cut_left : Noted → Noted
cut_left view = seat (view.parts - 1) view.answers view.made

abbrev pub cut_right : Noted → Noted
cut_right view = seat 1 [] view.made

-- two seats in one
abbrev pub both : Noted → Noted → Noted
both view other = seat (view.parts + other.parts) (view.answers ++ other.answers) view.made

abbrev pub spent : Noted
spent = seat 0 [] (record { before = 0; seats = 0 })
