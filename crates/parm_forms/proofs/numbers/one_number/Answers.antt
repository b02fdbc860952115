use Rattle.std.proofs.Common.{arith, length, ◌≡◌}
use Rattle.parm_lex.specs.Spans.{bytes_of}
use Rattle.parm_forms.specs.Items.{number_item}
use Rattle.parm_forms.proofs.Each.{one_is_each}
use Rattle.parm_forms.proofs.numbers.one_number.Goals as goal

pub returns-in-len1 : goal.returns-in-len1
returns-in-len1 c =
    let single : length c.args.items.now ≡ 1 = omega (arith, c.in-len1) in
    rw (one_is_each (number_item c.args.form) (bytes_of c.args.bytes.now) c.args.items.now single) c.numbers.ensures
