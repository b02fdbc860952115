-- The answers of `leaf`.
use Rattle.std.proofs.Common.{◌≡◌, ℕ, ◌+◌, List, ◌++◌, IfOk, subst, codes}
use Rattle.std.specs.String.{string_bytes}
use Rattle.anchor_tree.proofs.Padded.{padded_is}
use Rattle.anchor_tree.proofs.names.leaf.Goals as goal

pub returns : goal.returns
returns c =
    let written = rw c.laid_out.ensures at c.format.ensures.ok in
    subst (λ (digits : List ℕ). IfOk c.format.result (λ text. string_bytes text ≡ codes "/vdb_f" ++ (digits ++ codes ".file"))) (padded_is (c.args.n + 1)) written
