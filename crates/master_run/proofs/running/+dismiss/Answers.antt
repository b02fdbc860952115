use Rattle.std.proofs.Common.{rules, ◌≡◌, ◌<◌, refl, length, slice_get, Some}
use Rattle.std.proofs.lemmas.Option.{slice_get_read}
use Rattle.master_run.specs.Posts.{IsUndone}
use Rattle.master_run.specs.declared.crew.Crew.{Crew}
use Rattle.master_run.proofs.Turned.{back_more, crew_out, crews_gave, crews_out, last_is}
use Rattle.master_run.proofs.running.+dismiss.Goals as goal

pub dismiss-requires-clause-out : goal.dismiss-requires-clause-out
dismiss-requires-clause-out g t c κs within =
    let stores = c.args.plan.now.stores in
    let below : c.in-Some.crew.place < length stores = last_is (λ (crew : Crew _ _ _ _). crew.place < length stores) c.args.crews.now.items c.pop.new.self.items c.in-Some.crew c.in-Some.ensures.items c.requires.stores in
    let at : slice_get stores c.in-Some.crew.place ≡ Some c.index-as_slice-crew.result = slice_get_read stores (length stores) c.in-Some.crew.place c.index-as_slice-crew.result refl below (search rules) in
    crew_out c.args.plan.now c.args.crews.now.items c.pop.new.self.items c.in-Some.crew c.index-as_slice-crew.result c.in-Some.ensures.items at (g.Y.Yard.seen c.args.yard.now) c.requires.out

pub dismiss-requires-2-clause-out : goal.dismiss-requires-2-clause-out
dismiss-requires-2-clause-out g t c κs within =
    let stores = c.args.plan.now.stores in
    let below : c.in-Some.crew.place < length stores = last_is (λ (crew : Crew _ _ _ _). crew.place < length stores) c.args.crews.now.items c.pop.new.self.items c.in-Some.crew c.in-Some.ensures.items c.requires.stores in
    let at : slice_get stores c.in-Some.crew.place ≡ Some c.index-as_slice-crew.result = slice_get_read stores (length stores) c.in-Some.crew.place c.index-as_slice-crew.result refl below (search rules) in
    crews_out c.args.plan.now c.args.crews.now.items c.pop.new.self.items c.in-Some.crew c.index-as_slice-crew.result c.in-Some.ensures.items at g.Y.Arm.Arm.seen (g.Y.Yard.seen c.args.yard.now) (g.Y.Yard.seen c.dismiss.new.yard) c.requires.out c.dismiss.ensures.arms

pub returns-clause-back : goal.returns-clause-back
returns-clause-back g t c =
    back_more (IsUndone g.Y.Arm.Pass.Pass.seen g.B.Book.seen) c.args.crews.now.items c.pop.new.self.items c.in-Some.crew c.args.hands.now.items c.push_reserved.new.self.items c.dismiss-2.new.hands.items c.dismiss.result c.in-Some.ensures.items c.push_reserved.ensures.items c.dismiss.ensures.undone c.dismiss-2.ensures.back

pub returns-clause-arms : goal.returns-clause-arms
returns-clause-arms g t c =
    let stores = c.args.plan.now.stores in
    let below : c.in-Some.crew.place < length stores = last_is (λ (crew : Crew _ _ _ _). crew.place < length stores) c.args.crews.now.items c.pop.new.self.items c.in-Some.crew c.in-Some.ensures.items c.requires.stores in
    let at : slice_get stores c.in-Some.crew.place ≡ Some c.index-as_slice-crew.result = slice_get_read stores (length stores) c.in-Some.crew.place c.index-as_slice-crew.result refl below (search rules) in
    crews_gave c.args.plan.now c.args.crews.now.items c.pop.new.self.items c.in-Some.crew c.index-as_slice-crew.result c.in-Some.ensures.items at g.Y.Arm.Arm.seen (g.Y.Yard.seen c.args.yard.now) (g.Y.Yard.seen c.dismiss.new.yard) (g.Y.Yard.seen c.dismiss-2.new.yard) c.dismiss.ensures.arms c.dismiss-2.ensures.arms
