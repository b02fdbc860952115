use Rattle.std.proofs.Common.{◌≡◌, ◌≤◌, All, take}
use Rattle.master_run.proofs.post.greatest_transfer.Given as goal

abbrev pub invariant-loop-share : goal.invariant-loop-share
invariant-loop-share l = All (λ share. share.store ≡ l.store → share.xfersize ≤ l.greatest) (take l.share-index l.shares)
