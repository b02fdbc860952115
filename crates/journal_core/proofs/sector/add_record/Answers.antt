use Rattle.journal_core.proofs.Sectors.{hand_more}
use Rattle.journal_core.proofs.sector.add_record.Goals as goal

pub returns : goal.returns
returns c past long below hand =
    hand_more c.args.live.now past c.args.place c.args.count c.args.made.now c.args.sector.now c.put_log_head.new.sector c.put_record.new.sector c.requires.version c.requires.room long below c.requires.spelled
    c.put_log_head.ensures.head c.put_log_head.ensures.rest c.put_record.ensures.bytes c.put_record.ensures.read_back hand
