use Rattle.std.proofs.Common.{◌≡◌, ◌∙◌, refl, sym, ap, arith, List, ◌++◌, length, map}
use Rattle.std.specs.Vec.{vec_capacity}
use Rattle.slave_worker.specs.declared.hand.StoreHand.{StoreHand}
use Rattle.plan_hands.proofs.Lists.{long_last, moved}
use Rattle.plan_hands.proofs.Seats.{long_with, seats}
use Rattle.plan_hands.proofs.seating.+seat.Goals as goal

pub push_reserved-requires : goal.push_reserved-requires
push_reserved-requires g t c =
    let mid = c.seat.new.hands in
    let long = long_with g.P.Pass.seen g.B.Book.seen c.args.hands.now.items mid.items c.pop.new.self.items c.seat.ensures.hands in
    let one = long_last (λ (book : g.row.B.Denot). book) c.args.books.now.items c.pop.new.self.items c.in-Some.book c.in-Some.ensures.items in
    let same : vec_capacity mid ≡ vec_capacity c.args.hands.now = c.seat.ensures.rooms.1 in
    omega (arith, long, one, same, mid.ok.0, c.requires.room)

pub returns-clause-hands : goal.returns-clause-hands
returns-clause-hands g t c =
    let rest = c.pop.new.self.items in
    let place : c.len-store.result ≡ length rest = omega (arith, c.len-store.ensures, c.pop.new.self.ok.0) in
    seats g.P.Pass.seen g.B.Book.seen c.args.hands.now.items c.seat.new.hands.items c.push_reserved.new.self.items c.args.books.now.items rest c.in-Some.book _ c.seat.ensures.hands c.push_reserved.ensures.items c.in-Some.ensures.items
    place c.new.ensures.items refl

pub returns-clause-same : goal.returns-clause-same
returns-clause-same g t c =
    let book_of = λ (hand : StoreHand g.row.P.Denot g.row.B.Denot). hand.book in
    moved book_of c.args.hands.now.items c.seat.new.hands.items c.push_reserved.new.self.items _ c.pop.new.self.items c.seat.ensures.same c.push_reserved.ensures.items
    ∙ ap (λ (l : List g.row.B.Denot). map book_of c.args.hands.now.items ++ l) (sym c.in-Some.ensures.items)
