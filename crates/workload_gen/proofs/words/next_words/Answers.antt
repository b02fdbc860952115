-- The answers of `next_words`.
use Rattle.std.proofs.Common.{sym}
use Rattle.rand_pcg.specs.Lcg.{Lcg}
use Rattle.workload_gen.proofs.Generators.{behind_none, step_to}
use Rattle.workload_gen.proofs.words.next_words.Goals as goal

pub returns : goal.returns
returns c =
    let g : Lcg = c.args.generator.now in
    let share = step_to g g 0 c.next_word-share.result c.next_word-share.new.self (sym (behind_none g)) c.next_word-share.ensures in
    let read = step_to g c.next_word-share.new.self 1 c.next_word-read.result c.next_word-read.new.self share.1 c.next_word-read.ensures in
    let random = step_to g c.next_word-read.new.self 2 c.next_word-random.result c.next_word-random.new.self read.1 c.next_word-random.ensures in
    let block = step_to g c.next_word-random.new.self 3 c.next_word-block.result c.next_word-block.new.self random.1 c.next_word-block.ensures in
    record { share = share.0; read = read.0; random = random.0; block = block.0; rest = block.1 }
