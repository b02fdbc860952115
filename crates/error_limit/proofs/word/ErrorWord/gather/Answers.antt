use Rattle.std.proofs.Common.{arith, ap, ◌∙◌, ◌≡◌, ◌+◌, List, [], ◌∷◌, ◌++◌, length, sum_by, length-append, Some}
use Rattle.std.proofs.lemmas.List.Elements.{All-pop}
use Rattle.std.proofs.lemmas.List.Sums.{sum_by_push}
use Rattle.error_limit.specs.Sums.{is, times}
use Rattle.error_limit.specs.Seats.{IsSeatOf, notes_of, times_of}
use Rattle.error_limit.specs.declared.word.ErrorSeat.{ErrorSeat}
use Rattle.error_limit.proofs.Sums.{total-append}
use Rattle.error_limit.proofs.Steps.{joins}
use Rattle.error_limit.proofs.word.ErrorWord.gather.Goals as goal

pub unreachable-requires : goal.unreachable-requires
unreachable-requires c = omega (arith, c.in_default.ensures.cases.0, c.requires.all, c.args.self.now.some)

pub loop-seat-init : goal.loop-seat-init
loop-seat-init c =
    let rest : List ErrorSeat = c.pop.new.self.items in
    let popped : ErrorSeat = c.in-Some.field-0 in
    let is_rest : c.args.seats.items ≡ rest ++ popped ∷ [] = c.in-Some.ensures.items in
    let all = All-pop (IsSeatOf c.args.self.now) c.args.seats.items rest (Some popped) is_rest c.requires.of in
    let long : length c.args.seats.items ≡ length rest + 1 = ap length is_rest ∙ length-append rest (popped ∷ []) in
    let sum : sum_by notes_of c.args.seats.items ≡ sum_by notes_of rest + notes_of popped = ap (sum_by notes_of) is_rest ∙ sum_by_push notes_of rest popped in
    record {
      of = all.1.0;
      parts = omega (arith, popped.one, c.requires.all);
      some_part = omega (arith, popped.one);
      notes = omega arith;
      answers = λ n. omega (arith, ap (sum_by (times_of n)) is_rest ∙ sum_by_push (times_of n) rest popped);
      left = all.0;
    }

pub join_seat-requires : goal.join_seat-requires
join_seat-requires c =
    let i = c.loop-seat.invariant in
    let popped : ErrorSeat = c.in-Some-pop.field-0 in
    let all = All-pop (IsSeatOf c.args.self.now) c.loop-seat.seats.items c.pop-in-loop-seat.new.self.items (Some popped) c.in-Some-pop.ensures.items i.left in
    (i.of, all.1.0, popped.rests, omega (arith, c.args.self.now.one.0), joins _ _ _ _ _ i.some_part)

pub loop-seat-preserved : goal.loop-seat-preserved
loop-seat-preserved c =
    let i = c.loop-seat.invariant in
    let rest : List ErrorSeat = c.pop-in-loop-seat.new.self.items in
    let popped : ErrorSeat = c.in-Some-pop.field-0 in
    let is_rest : c.loop-seat.seats.items ≡ rest ++ popped ∷ [] = c.in-Some-pop.ensures.items in
    let all = All-pop (IsSeatOf c.args.self.now) c.loop-seat.seats.items rest (Some popped) is_rest i.left in
    let long : length c.loop-seat.seats.items ≡ length rest + 1 = ap length is_rest ∙ length-append rest (popped ∷ []) in
    let sum : sum_by notes_of c.loop-seat.seats.items ≡ sum_by notes_of rest + notes_of popped = ap (sum_by notes_of) is_rest ∙ sum_by_push notes_of rest popped in
    let view = ap (λ m. m.0) c.join_seat.ensures.2 in
    let parts = ap (λ v. v.parts) view in
    let answers = ap (λ v. v.answers) view in
    let notes = ap length answers ∙ length-append c.loop-seat.all.me.0.answers popped.seat.me.0.answers in
    record {
      of = c.join_seat.ensures.0 ∙ i.of;
      parts = omega (arith, parts, i.parts, popped.one);
      some_part = omega (arith, parts, i.some_part);
      notes = omega (arith, notes, i.notes);
      answers = λ n. omega (arith, i.answers n, ap (times n) answers ∙ total-append (is n) c.loop-seat.all.me.0.answers popped.seat.me.0.answers, ap (sum_by (times_of n)) is_rest ∙ sum_by_push (times_of n) rest popped);
      left = all.0;
    }
