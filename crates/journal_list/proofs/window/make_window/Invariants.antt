use Rattle.std.proofs.Common.{◌≡◌, length, take}
use Rattle.journal_list.specs.Audits.{AreLegalIn, AreValidIn, Shows, made_of}
use Rattle.journal_list.proofs.window.make_window.Given as goal

abbrev pub invariant-loop-i : goal.invariant-loop-i
invariant-loop-i l = record {
  long : length l.window ≡ length l.initial.window;
  valid : AreValidIn l.low l.high l.window;
  legal : AreLegalIn l.base (made_of l.records) l.low l.high l.i;
  shows : Shows l.base (take l.i (made_of l.records)) l.low l.high l.window;
}
