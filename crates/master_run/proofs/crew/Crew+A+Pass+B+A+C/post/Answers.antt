use Rattle.std.proofs.Common.{ap, refl, arith, [], ◌∷◌, Err, Some}
use Rattle.std.proofs.lemmas.List.Elements.{All-cons, All-nil, All-pop}
use Rattle.error_limit.specs.Seats.{IsNew as IsNewErrorSeat}
use Rattle.slave_worker.specs.declared.did.WorkEnd.TheVariants.{TurnsMade}
use Rattle.vd_yard.specs.Out.{AtArm}
use Rattle.master_run.proofs.Manning.{more_none}
use Rattle.master_run.specs.Posts.{IsReady}
use Rattle.master_run.specs.declared.post.Post.{Post}
use Rattle.master_run.proofs.Opening.{cause_failed, opened_same, took_none, took_not, took_one}
use Rattle.master_run.proofs.Posting.{arm_fresh, more_one}
use Rattle.master_run.proofs.crew.Crew+A+Pass+B+A+C.post.Goals as goal

pub returns-in_default-clause-more : goal.returns-in_default-clause-more
returns-in_default-clause-more g c =
    let old = g.Y.Yard.seen c.args.yard.now in
    ([], more_none g.A.Pass.Pass.seen g.B.Book.seen g.A.Arm.seen (old.tells.sure AtArm c.args.store.now.path) c.args.self.now c.requires.spare.1, tt, omega arith, took_none old, λ word new. (All-nil _, new))

pub returns-in-Err-Failed-clause-more : goal.returns-in-Err-Failed-clause-more
returns-in-Err-Failed-clause-more g c =
    let old = g.Y.Yard.seen c.args.yard.now in
    let opens = c.in-Err-Failed.ensures.opens in
    ([], more_none g.A.Pass.Pass.seen g.B.Book.seen g.A.Arm.seen (old.tells.sure AtArm c.args.store.now.path) c.args.self.now c.requires.spare.1, tt, omega arith, took_not old (g.Y.Yard.seen c.arm.new.self) (opened_same c.args.store.now.path old (g.Y.Yard.seen c.arm.new.self) _ opens) opens.not_taken opens.counts, λ word new. (All-nil _, new))

pub returns-in-Err-Failed-clause-cause : goal.returns-in-Err-Failed-clause-cause
returns-in-Err-Failed-clause-cause g c =
    let is = ap Err c.in-Err-Failed.field-0-is in
    cause_failed (g.Y.Yard.seen c.args.yard.now) (g.Y.Yard.seen c.arm.new.self) c.args.self.now.place (c.in-Err-Failed.ensures.opens.failed is) (λ willing. c.in-Err-Failed.ensures.willing willing is)

pub returns-in-Err-NoMemory-clause-more : goal.returns-in-Err-NoMemory-clause-more
returns-in-Err-NoMemory-clause-more g c =
    let old = g.Y.Yard.seen c.args.yard.now in
    let opens = c.in-Err-NoMemory.ensures.opens in
    ([], more_none g.A.Pass.Pass.seen g.B.Book.seen g.A.Arm.seen (old.tells.sure AtArm c.args.store.now.path) c.args.self.now c.requires.spare.1, tt, omega arith, took_not old (g.Y.Yard.seen c.arm.new.self) (opened_same c.args.store.now.path old (g.Y.Yard.seen c.arm.new.self) _ opens) opens.not_taken opens.counts, λ word new. (All-nil _, new))

pub returns-clause-more : goal.returns-clause-more
returns-clause-more g c =
    let old = g.Y.Yard.seen c.args.yard.now in
    let sure = old.tells.sure AtArm c.args.store.now.path in
    let opened = c.in-Ok-arm.ensures in
    let fit = c.in-Ok.ensures in
    let fresh = arm_fresh (g.A.Arm.seen c.in-Ok-arm.arm) sure opened.fresh opened.none_read opened.none_written opened.sure in
    let post : Post g.row.A-Pass.Denot g.row.A.Denot g.row.C.Denot = record {
      worker = c.args.worker.now;
      seat = c.in-Some-Some.seat;
      error_seat = c.in-Some-Some.error_seat;
      arm = c.in-Ok-arm.arm;
      clock = c.twin.result;
      draw = c.in-Ok.outfit.draw;
      buf = c.in-Ok.outfit.buf;
      tally = c.in-Ok.outfit.tally;
      room = Some c.in-Ok.outfit.room;
      end = TurnsMade;
    } in
    let more = more_one g.A.Pass.Pass.seen g.B.Book.seen g.A.Arm.seen sure c.args.self.now (record { place = c.args.self.now.place; table = c.args.self.now.table; posts = c.push_reserved.new.self; spare = c.pop.new.self }) post refl refl c.push_reserved.ensures.items c.in-Some-Some.ensures.items c.requires.spare.1 fresh c.push_reserved.ensures.capacity c.pop.ensures.capacity in (
      post ∷ [],
      more,
      refl,
      omega (arith, c.in-Some-Some.ensures'.len),
      took_one c.args.store.now.path old (g.Y.Yard.seen c.arm.new.self) (opened_same c.args.store.now.path old (g.Y.Yard.seen c.arm.new.self) _ opened.opens) opened.opens.taken opened.opens.counts,
      λ word new.
          let split = All-pop (IsNewErrorSeat word) c.args.error_seats.now.items c.pop-2.new.self.items (Some c.in-Some-Some.error_seat) c.in-Some-Some.ensures'.items new in (
            All-cons (IsReady g.A.Pass.Pass.seen g.B.Book.seen g.A.Arm.seen c.args.plan.now c.args.run.now c.args.self.now.place c.args.store.now.id sure word c.args.self.now.table) post [] (record {
              worker = c.requires.of.worker_number;
              at_place = c.requires.place;
              seat = more.new 0 post (omega arith);
              error_seat = split.1;
              arm = fresh;
              draw = fit.draw;
              tally = fit.tally;
              rows = fit.rows;
              findings = fit.findings;
              bytes = fit.bytes;
              room = (c.in-Ok.outfit.room, refl, fit.room);
            }) (All-nil _),
            split.0,
          ),
    )
