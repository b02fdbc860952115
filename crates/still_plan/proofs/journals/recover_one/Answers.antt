use Rattle.still_plan.proofs.Sayings.{stop_said, stop_unrecovered}
use Rattle.still_plan.proofs.journals.recover_one.Goals as goal

pub returns-in-Err-clause-stops : goal.returns-in-Err-clause-stops
returns-in-Err-clause-stops g c =
    stop_said _ _ c.args.store.now c.in-Ok.found c.in-Err.status _ _
    (record {
      gives = λ disk kept sectors told. c.in-Ok.ensures.recovers disk kept sectors told;
      there = λ k n. c.in-Ok.ensures.absent k n;
      usable = c.in-Ok.ensures.usable;
      fit = record { one_each = c.in-Ok.ensures.one_each; valid = c.in-Ok.ensures.valid };
    })
    c.in-Err.ensures.why
    (λ e. c.in-Err.ensures.unsaid (cc e))
    (λ e. (c.in-Err.ensures.failed (cc e)).1)

pub returns-in-Err-Refused-clause-stops : goal.returns-in-Err-Refused-clause-stops
returns-in-Err-Refused-clause-stops g c =
    stop_unrecovered _ _ c.args.store.now c.in-Err-Refused.fault _ _ _ c.refuse.ensures
    (record {
      gives = λ disk k sectors t. rw c.in-Err-Refused.field-0-is at (c.in-Err-Refused.ensures.recovers disk k sectors t);
      there = λ k n. c.in-Err-Refused.ensures.absent_refused k n _ (cc c.in-Err-Refused.field-0-is);
      rose = λ e k disk now p q. c.in-Err-Refused.ensures.disk_fault (cc (e, c.in-Err-Refused.field-0-is)) k disk now p q;
      unsure = λ e disk k s l. c.in-Err-Refused.ensures.sure disk k s l (cc (e, c.in-Err-Refused.field-0-is));
    })
