use Rattle.std.proofs.Common.{rules, arith, ap, sym, ◌∙◌, ◌≡◌, ◌+◌, false, get_or, ℕ, List}
use mathlib.Core.Option.{some, some-injective}
use lib.ListN.{get_elem?}
use Rattle.std.specs.Slots.{slots_items, slots_len}
use Rattle.claim_table.specs.Firsts.{first_of}
use Rattle.claim_table.specs.Rule.{made_of}
use Rattle.claim_table.specs.declared.view.View.{View}
use Rattle.claim_table.specs.declared.view.Made.{Made}
use Rattle.claim_table.specs.declared.slot.Slot.{Slot}
use Rattle.claim_table.specs.declared.slot.Slot.TheVariants as slot
use Rattle.claim_table.proofs.Taking.{none_left}
use Rattle.claim_table.proofs.LastState.{lying, returned, shelf_same, has_some}
use Rattle.claim_table.proofs.table.ClaimTable.close_with.Goals as goal

pub take_passes-room-requires-clause-passes : goal.take_passes-room-requires-clause-passes
take_passes-room-requires-clause-passes g c =
    let v : View = first_of c.args.seat.badge.views in
    let made : Made = made_of {P = g.row.P.Denot} {B = g.row.B.Denot} g.P.Pass.seen g.B.Book.seen c.args.self.table.shared.key in
    let t = lying {P = g.row.P.Denot} {B = g.row.B.Denot} g.P.Pass.seen g.B.Book.seen made (slots_items c.close_with-closed.result.words) (slots_items c.close_with-closed.result.slots) c.into_seat.result.id v c.into_seat.result.me.0 c.close_with-closed.ensures.values.2
    (ap first_of c.into_seat.ensures.2) (c.requires.idle.1, c.requires.idle.2, c.requires.all.0, c.requires.all.1) in
    let n = c.args.self.store in
    λ k low. let p = t.passes k (omega arith) in (p.0, p.1)

pub unreachable-requires : goal.unreachable-requires
unreachable-requires g c =
    let v : View = first_of c.args.seat.badge.views in
    let made : Made = made_of {P = g.row.P.Denot} {B = g.row.B.Denot} g.P.Pass.seen g.B.Book.seen c.args.self.table.shared.key in
    let t = lying {P = g.row.P.Denot} {B = g.row.B.Denot} g.P.Pass.seen g.B.Book.seen made (slots_items c.close_with-closed.result.words) (slots_items c.close_with-closed.result.slots) c.into_seat.result.id v c.into_seat.result.me.0 c.close_with-closed.ensures.values.2
    (ap first_of c.into_seat.ensures.2) (c.requires.idle.1, c.requires.idle.2, c.requires.all.0, c.requires.all.1) in
    let x = t.home in
    let here : get_elem? (slots_items c.close_with-closed.result.slots) c.args.self.blocks ≡ some (slot.Book x.1) = ap (λ (k : ℕ). get_elem? (slots_items c.close_with-closed.result.slots) k) (sym c.args.self.store) ∙ x.2 in
    c.in_default.not-Book x.1 (some-injective c.take.result (slot.Book x.1) (sym c.take.ensures.value ∙ (ap (λ (xs : List (Slot g.row.P.Denot g.row.B.Denot)). get_elem? xs c.args.self.blocks) c.take_passes-room.ensures.slots.0 ∙ here)))

pub free-requires : goal.free-requires
free-requires g c = λ k low. ap (λ fs. get_or fs k false) c.take.ensures.others.1 ∙ none_left _ c.args.self.blocks c.take_passes-room.ensures.left k (let len : slots_len c.take.new.self.slots ≡ c.args.self.blocks + 1 = search rules in omega arith)

pub take-book-requires : goal.take-book-requires
take-book-requires g c =
    let v : View = first_of c.args.seat.badge.views in
    let made : Made = made_of {P = g.row.P.Denot} {B = g.row.B.Denot} g.P.Pass.seen g.B.Book.seen c.args.self.table.shared.key in
    let t = lying {P = g.row.P.Denot} {B = g.row.B.Denot} g.P.Pass.seen g.B.Book.seen made (slots_items c.close_with-closed.result.words) (slots_items c.close_with-closed.result.slots) c.into_seat.result.id v c.into_seat.result.me.0 c.close_with-closed.ensures.values.2
    (ap first_of c.into_seat.ensures.2) (c.requires.idle.1, c.requires.idle.2, c.requires.all.0, c.requires.all.1) in
    let x = t.home in
    let here : get_elem? (slots_items c.close_with-closed.result.slots) c.args.self.blocks ≡ some (slot.Book x.1) = ap (λ (k : ℕ). get_elem? (slots_items c.close_with-closed.result.slots) k) (sym c.args.self.store) ∙ x.2 in
    let there : get_elem? (slots_items c.close_with-closed.result.slots) c.args.self.blocks ≡ some (slot.Book c.in-Book.shelf) = ap (λ (xs : List (Slot g.row.P.Denot g.row.B.Denot)). get_elem? xs c.args.self.blocks) (sym c.take_passes-room.ensures.slots.0) ∙ (c.take.ensures.value ∙ ap some c.in-Book.is) in
    has_some x.1 c.in-Book.shelf x.0 (shelf_same {P = g.row.P.Denot} x.1 c.in-Book.shelf (some-injective (slot.Book x.1) (slot.Book c.in-Book.shelf) (sym here ∙ there))) x.3

pub returns-clause-returned : goal.returns-clause-returned
returns-clause-returned g c =
    let v : View = first_of c.args.seat.badge.views in
    let made : Made = made_of {P = g.row.P.Denot} {B = g.row.B.Denot} g.P.Pass.seen g.B.Book.seen c.args.self.table.shared.key in
    let t = lying {P = g.row.P.Denot} {B = g.row.B.Denot} g.P.Pass.seen g.B.Book.seen made (slots_items c.close_with-closed.result.words) (slots_items c.close_with-closed.result.slots) c.into_seat.result.id v c.into_seat.result.me.0 c.close_with-closed.ensures.values.2
    (ap first_of c.into_seat.ensures.2) (c.requires.idle.1, c.requires.idle.2, c.requires.all.0, c.requires.all.1) in
    let there : get_elem? (slots_items c.close_with-closed.result.slots) c.args.self.blocks ≡ some (slot.Book c.in-Book.shelf) = ap (λ (xs : List (Slot g.row.P.Denot g.row.B.Denot)). get_elem? xs c.args.self.blocks) (sym c.take_passes-room.ensures.slots.0) ∙ (c.take.ensures.value ∙ ap some c.in-Book.is) in
    returned {P = g.row.P.Denot} {B = g.row.B.Denot} g.P.Pass.seen g.B.Book.seen made c.args.self.blocks (slots_items c.close_with-closed.result.slots) v c.take_passes-room.result.items c.in-Book.shelf c.take-book.result c.args.self.store t
    c.take_passes-room.ensures.many there c.take-book.ensures c.take_passes-room.ensures.each
