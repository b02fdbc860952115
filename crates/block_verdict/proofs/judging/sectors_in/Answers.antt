use Rattle.std.proofs.Common.{◌/◌, ◌∙◌, [], ap, length, slice_index_or}
use Rattle.block_verdict.proofs.Chunks.{sector_at}
use Rattle.block_verdict.proofs.judging.sectors_in.Goals as goal

pub returns-clause-each : goal.returns-clause-each
returns-clause-each c i le = ap (λ sectors. slice_index_or sectors i []) c.as_chunks.ensures.front ∙ sector_at (length c.args.bytes.now / 512) c.args.bytes.now i le
