-- What contracts see of the word and of its seats.
use Rattle.std.specs.Prelude.{◌≡◌, ℕ, ◌≤◌, List, [], length, sum_by}
use Rattle.error_limit.specs.Sums.{times, EachOnce}
use Rattle.error_limit.specs.Rule.{newest}
use Rattle.error_limit.specs.declared.word.ErrorSeat.{ErrorSeat}
use Rattle.error_limit.specs.declared.word.ErrorWord.{ErrorWord}

-- the errors from before, and how many seats the word was made with
abbrev pub before_of : ErrorWord → ℕ
before_of word = word.table.shared.key.before

abbrev pub seats_of : ErrorWord → ℕ
seats_of word = word.table.shared.key.seats

-- what the notes of a seat answered, the newest first
abbrev pub answers_of : ErrorSeat → List ℕ
answers_of seat = seat.seat.me.0.answers

-- how often a seat noted, and what its last note answered, 0 before the first
abbrev pub notes_of : ErrorSeat → ℕ
notes_of seat = length (answers_of seat)

abbrev pub last_of : ErrorSeat → ℕ
last_of seat = newest (answers_of seat)

-- The seat is one of the word's.
abbrev pub IsSeatOf : ErrorWord → ErrorSeat → Type 0
IsSeatOf word seat = (seat.seat.table_id ≡ word.table.shared.table_id) × (seat.seat.me.0.made ≡ word.table.shared.key)

-- It is one that has noted nothing.
abbrev pub IsNew : ErrorWord → ErrorSeat → Type 0
IsNew word seat = IsSeatOf word seat × (answers_of seat ≡ [])

-- The count isn't below what the seat was answered.
abbrev pub Lasts : ℕ → ErrorSeat → Type 0
Lasts count seat = last_of seat ≤ count

-- how often a seat was answered this number
abbrev pub times_of : ℕ → ErrorSeat → ℕ
times_of n seat = times n (answers_of seat)

-- Over these seats, each number above `before` up to `count` was answered exactly once, and no other was answered.
abbrev pub AnsweredOnce : ℕ → ℕ → List ErrorSeat → Type 0
AnsweredOnce before count seats = EachOnce before count (λ n. sum_by (times_of n) seats)
