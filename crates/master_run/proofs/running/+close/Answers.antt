use Rattle.std.proofs.Common.{rules, ◌≡◌, ◌<◌, refl, length, slice_get, Some}
use Rattle.std.proofs.lemmas.Option.{slice_get_read}
use Rattle.master_run.specs.Posts.{Closed}
use Rattle.master_run.specs.declared.crew.Crew.{Crew}
use Rattle.master_run.proofs.Turned.{back_more, crew_out, crew_room, crews_gave, crews_left, crews_out, crews_room, last_is}
use Rattle.master_run.proofs.running.+close.Goals as goal

pub close-requires-clause-out : goal.close-requires-clause-out
close-requires-clause-out g t c κs within =
    let stores = c.args.plan.now.stores in
    let below : c.in-Some.crew.place < length stores = last_is (λ (crew : Crew _ _ _ _). crew.place < length stores) c.args.crews.now.items c.pop.new.self.items c.in-Some.crew c.in-Some.ensures.items c.requires.stores in
    let at : slice_get stores c.in-Some.crew.place ≡ Some c.index-as_slice-crew.result = slice_get_read stores (length stores) c.in-Some.crew.place c.index-as_slice-crew.result refl below (search rules) in
    crew_out c.args.plan.now c.args.crews.now.items c.pop.new.self.items c.in-Some.crew c.index-as_slice-crew.result c.in-Some.ensures.items at (g.Y.Yard.seen c.args.yard.now) c.requires.out

pub close-requires-2-clause-out : goal.close-requires-2-clause-out
close-requires-2-clause-out g t c κs within =
    let stores = c.args.plan.now.stores in
    let below : c.in-Some.crew.place < length stores = last_is (λ (crew : Crew _ _ _ _). crew.place < length stores) c.args.crews.now.items c.pop.new.self.items c.in-Some.crew c.in-Some.ensures.items c.requires.stores in
    let at : slice_get stores c.in-Some.crew.place ≡ Some c.index-as_slice-crew.result = slice_get_read stores (length stores) c.in-Some.crew.place c.index-as_slice-crew.result refl below (search rules) in
    crews_out c.args.plan.now c.args.crews.now.items c.pop.new.self.items c.in-Some.crew c.index-as_slice-crew.result c.in-Some.ensures.items at g.Y.Arm.Arm.seen (g.Y.Yard.seen c.args.yard.now) (g.Y.Yard.seen c.close.new.yard) c.requires.out c.close.ensures.arms

pub returns-clause-back : goal.returns-clause-back
returns-clause-back g t c =
    back_more (Closed g.Y.Arm.Pass.Pass.seen g.B.Book.seen) c.args.crews.now.items c.pop.new.self.items c.in-Some.crew c.args.hands.now.items c.push_reserved.new.self.items c.close-2.new.hands.items c.close.result c.in-Some.ensures.items c.push_reserved.ensures.items c.close.ensures.closed c.close-2.ensures.back

pub returns-clause-arms : goal.returns-clause-arms
returns-clause-arms g t c =
    let stores = c.args.plan.now.stores in
    let below : c.in-Some.crew.place < length stores = last_is (λ (crew : Crew _ _ _ _). crew.place < length stores) c.args.crews.now.items c.pop.new.self.items c.in-Some.crew c.in-Some.ensures.items c.requires.stores in
    let at : slice_get stores c.in-Some.crew.place ≡ Some c.index-as_slice-crew.result = slice_get_read stores (length stores) c.in-Some.crew.place c.index-as_slice-crew.result refl below (search rules) in
    crews_gave c.args.plan.now c.args.crews.now.items c.pop.new.self.items c.in-Some.crew c.index-as_slice-crew.result c.in-Some.ensures.items at g.Y.Arm.Arm.seen (g.Y.Yard.seen c.args.yard.now) (g.Y.Yard.seen c.close.new.yard) (g.Y.Yard.seen c.close-2.new.yard) c.close.ensures.arms c.close-2.ensures.arms

pub close-requires-clause-left : goal.close-requires-clause-left
close-requires-clause-left g t c κs within =
    let stores = c.args.plan.now.stores in
    let below : c.in-Some.crew.place < length stores = last_is (λ (crew : Crew _ _ _ _). crew.place < length stores) c.args.crews.now.items c.pop.new.self.items c.in-Some.crew c.in-Some.ensures.items c.requires.stores in
    let at : slice_get stores c.in-Some.crew.place ≡ Some c.index-as_slice-crew.result = slice_get_read stores (length stores) c.in-Some.crew.place c.index-as_slice-crew.result refl below (search rules) in
    crew_room c.args.plan.now c.args.crews.now.items c.pop.new.self.items c.in-Some.crew c.index-as_slice-crew.result c.in-Some.ensures.items at c.args.left.now c.requires.left

pub close-requires-2-clause-left : goal.close-requires-2-clause-left
close-requires-2-clause-left g t c κs within =
    let stores = c.args.plan.now.stores in
    let below : c.in-Some.crew.place < length stores = last_is (λ (crew : Crew _ _ _ _). crew.place < length stores) c.args.crews.now.items c.pop.new.self.items c.in-Some.crew c.in-Some.ensures.items c.requires.stores in
    let at : slice_get stores c.in-Some.crew.place ≡ Some c.index-as_slice-crew.result = slice_get_read stores (length stores) c.in-Some.crew.place c.index-as_slice-crew.result refl below (search rules) in
    crews_room c.args.plan.now c.args.crews.now.items c.pop.new.self.items c.in-Some.crew c.index-as_slice-crew.result c.in-Some.ensures.items at c.args.left.now c.close.new.left c.requires.left c.close.ensures.left

pub returns-clause-left : goal.returns-clause-left
returns-clause-left g t c =
    let stores = c.args.plan.now.stores in
    let below : c.in-Some.crew.place < length stores = last_is (λ (crew : Crew _ _ _ _). crew.place < length stores) c.args.crews.now.items c.pop.new.self.items c.in-Some.crew c.in-Some.ensures.items c.requires.stores in
    let at : slice_get stores c.in-Some.crew.place ≡ Some c.index-as_slice-crew.result = slice_get_read stores (length stores) c.in-Some.crew.place c.index-as_slice-crew.result refl below (search rules) in
    crews_left c.args.plan.now c.args.crews.now.items c.pop.new.self.items c.in-Some.crew c.index-as_slice-crew.result c.in-Some.ensures.items at c.args.left.now c.close.new.left c.close-2.new.left c.close.ensures.left c.close-2.ensures.left
