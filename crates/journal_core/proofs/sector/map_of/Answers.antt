use Rattle.std.proofs.Common.{◌+◌, ◌*◌, sym, subst}
use Rattle.key_state.specs.Entries.{IsEntry}
use Rattle.journal_core.specs.Parts.{slot_at}
use Rattle.journal_core.proofs.Sectors.{entries_more, slot_valid}
use Rattle.journal_core.proofs.sector.map_of.Goals as goal

pub put_entry-requires-clause-valid : goal.put_entry-requires-clause-valid
put_entry-requires-clause-valid c = subst IsEntry (sym c.entry_or_none.ensures) (slot_valid c.args.entries.now _ c.requires.valid)

pub loop-j-preserved : goal.loop-j-preserved
loop-j-preserved c =
    entries_more c.loop-j.sector c.put_entry.new.sector (λ m. slot_at c.args.entries.now (256 * c.args.i + m)) c.loop-j.j c.entry_or_none.result c.entry_or_none.ensures
    c.put_entry.ensures.bytes c.put_entry.ensures.read_back c.loop-j.invariant
