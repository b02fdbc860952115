use Rattle.std.proofs.Common.{arith, ℕ, ◌≡◌, ◌<◌, List, [], ◌∷◌, All, sum_by, get_or}
use Rattle.std.specs.Slots.{slots_items}
use Rattle.error_limit.specs.Seats.{answers_of, times_of, Lasts}
use Rattle.error_limit.specs.declared.word.ErrorSeat.{ErrorSeat}
use Rattle.std.proofs.lemmas.List.Elements.{All-cons, All-nil}
use Rattle.std.proofs.lemmas.List.Sums.{sum_by-cons}
use Rattle.error_limit.proofs.Steps.{ends, at_get, newest_in}
use Rattle.error_limit.proofs.word.ErrorWord.close.Goals as goal

-- no seat's newest answer is above the count where no answer is
lasts : (count : ℕ) (seats : List ErrorSeat) → ((n : ℕ) → count < n → sum_by (times_of n) seats ≡ 0) → All (Lasts count) seats
lasts count [] none_above = All-nil (Lasts count)
lasts count (s ∷ seats) none_above = All-cons (Lasts count) s seats
    (newest_in (answers_of s) count (λ n above. omega (arith, none_above n above, sum_by-cons (times_of n) s seats)))
    (lasts count seats (λ n above. omega (arith, none_above n above, sum_by-cons (times_of n) s seats)))

pub free-requires : goal.free-requires
free-requires c = λ k low. absurd (omega (arith, c.close_with-closed.ensures.counts.1, c.args.self.one.1))

pub returns-clause-sum : goal.returns-clause-sum
returns-clause-sum c =
    let t = ends _ (slots_items c.close_with-closed.result.words) _ _ _ c.close_with-closed.ensures.values.2 c.gather-seat.ensures.all.1 in
    let word : get_or (slots_items c.close_with-closed.result.words) 0 0 ≡ c.word-count.result = at_get _ 0 _ c.word-count.ensures in
    omega (arith, t.0, c.gather-seat.ensures.notes)

pub returns-clause-once : goal.returns-clause-once
returns-clause-once c =
    let t = ends _ (slots_items c.close_with-closed.result.words) _ _ _ c.close_with-closed.ensures.values.2 c.gather-seat.ensures.all.1 in
    let word : get_or (slots_items c.close_with-closed.result.words) 0 0 ≡ c.word-count.result = at_get _ 0 _ c.word-count.ensures in
    let each = t.1 in
    record {
      once = λ n low high. omega (arith, each.once n low (omega arith), c.gather-seat.ensures.answers n);
      not_below = λ n low. omega (arith, each.not_below n low, c.gather-seat.ensures.answers n);
      not_above = λ n high. omega (arith, each.not_above n (omega arith), c.gather-seat.ensures.answers n);
    }

pub returns-clause-last : goal.returns-clause-last
returns-clause-last c = lasts c.word-count.result c.args.seats.items (returns-clause-once c).not_above
