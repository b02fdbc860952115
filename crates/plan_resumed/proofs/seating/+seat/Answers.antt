use Rattle.std.proofs.Common.{◌≡◌, refl, arith, length}
use Rattle.std.specs.Vec.{vec_capacity}
use Rattle.plan_hands.proofs.Lists.{long_last}
use Rattle.plan_resumed.proofs.Seats.{long_hands, seats}
use Rattle.plan_resumed.proofs.seating.+seat.Goals as goal

pub push_reserved-requires : goal.push_reserved-requires
push_reserved-requires g t c =
    let mid = c.seat.new.hands in
    let books = c.pop.new.self.items in
    let stores = c.pop-2.new.self.items in
    let one = long_last (λ (book : g.row.B.Denot). book) c.args.books.now.items books c.in-Some.book c.in-Some.ensures.items in
    let other = long_last (λ (store : _). store) c.args.verified.now.items stores c.in-Some-pop.store c.in-Some-pop.ensures.items in
    let many : length stores ≡ length books = omega (arith, one, other, c.requires.as_many) in
    let long = long_hands g.P.Pass.seen g.B.Book.seen c.args.hands.now.items mid.items stores books many c.seat.ensures.hands in
    let same : vec_capacity mid ≡ vec_capacity c.args.hands.now = c.seat.ensures.rooms.1 in
    omega (arith, long, one, same, mid.ok.0, c.requires.room)

pub returns-clause-hands : goal.returns-clause-hands
returns-clause-hands g t c =
    let books = c.pop.new.self.items in
    let stores = c.pop-2.new.self.items in
    let one = long_last (λ (book : g.row.B.Denot). book) c.args.books.now.items books c.in-Some.book c.in-Some.ensures.items in
    let other = long_last (λ (store : _). store) c.args.verified.now.items stores c.in-Some-pop.store c.in-Some-pop.ensures.items in
    let many : length stores ≡ length books = omega (arith, one, other, c.requires.as_many) in
    let place : c.len-place.result ≡ length books = omega (arith, c.len-place.ensures, c.pop.new.self.ok.0) in
    seats g.P.Pass.seen g.B.Book.seen c.args.hands.now.items c.seat.new.hands.items c.push_reserved.new.self.items c.args.verified.now.items stores c.in-Some-pop.store c.args.books.now.items books c.in-Some.book _
    c.seat.ensures.hands c.push_reserved.ensures.items c.in-Some-pop.ensures.items c.in-Some.ensures.items many place refl refl
