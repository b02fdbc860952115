use Rattle.std.proofs.Common.{◌≡◌, ℕ, List, [], slice_index_or, subst, arith}
use Rattle.vd_base.specs.Geometry.{sectors_of, address_of}
use Rattle.sector_stamp.specs.Block.{sector_of}
use Rattle.block_verdict.specs.Fits.{FitsAt}
use Rattle.block_verdict.specs.Held.{IsHeld}
use Rattle.key_state.specs.declared.entry.Entry.TheVariants.{Settled, Pending}
use Rattle.block_verdict.proofs.Passes.{FitBelow, one_more, told_more, not_told}
use Rattle.block_verdict.proofs.judging.pending.Goals as goal

pub loop-i-preserved : goal.loop-i-preserved
loop-i-preserved c =
    let store = c.args.store.now in
    let block = c.args.block.0 in
    let bytes = c.args.bytes.now in
    let i = c.loop-i.i in
    let here = c.in-Ok.here in
    let sector : slice_index_or c.sectors_in-sectors.result.now i [] ≡ sector_of bytes i = c.sectors_in-sectors.ensures.each i (omega arith) in
    let read : IsHeld store.name c.address-address.result c.args.old c.args.new (sector_of bytes i) here = subst (λ (s : List ℕ). IsHeld store.name c.address-address.result c.args.old c.args.new s here) sector c.in-Ok.ensures.held in
    let held : IsHeld store.name (address_of store.geometry block i) c.args.old c.args.new (sector_of bytes i) here = subst (λ (a : ℕ). IsHeld store.name a c.args.old c.args.new (sector_of bytes i) here) c.address-address.ensures.value read in
    record {
      old = told_more (FitsAt store block (Settled c.args.old) bytes) i c.loop-i.held.old here.old c.both-held.result.old c.loop-i.invariant.old held.as_old c.both-held.ensures.old;
      new = told_more (FitsAt store block (Settled c.args.new) bytes) i c.loop-i.held.new here.new c.both-held.result.new c.loop-i.invariant.new held.as_new c.both-held.ensures.new;
      either = one_more (FitsAt store block (Pending c.args.old c.args.new) bytes) i c.loop-i.invariant.either held.either;
    }

pub returns-then-held-2 : goal.returns-then-held-2
returns-then-held-2 c =
    let e : c.loop-i.i ≡ sectors_of c.args.store.now.geometry = omega arith in
    let old : FitBelow c.args.store.now c.args.block.0 (Settled c.args.old) c.args.bytes.now c.loop-i.i = c.loop-i.invariant.old.0 c.if-held-2.true in (
      subst (λ (n : ℕ). FitBelow c.args.store.now c.args.block.0 (Settled c.args.old) c.args.bytes.now n) e old,
      (λ all. not_told c.loop-i.held.new c.if-held.false (c.loop-i.invariant.new.1 (λ i le. all i (omega arith)))),
    )

pub returns-else-held-2 : goal.returns-else-held-2
returns-else-held-2 c =
    let e : c.loop-i.i ≡ sectors_of c.args.store.now.geometry = omega arith in (
      subst (λ (n : ℕ). FitBelow c.args.store.now c.args.block.0 (Pending c.args.old c.args.new) c.args.bytes.now n) e c.loop-i.invariant.either,
      (λ all. not_told c.loop-i.held.old c.if-held-2.false (c.loop-i.invariant.old.1 (λ i le. all i (omega arith)))),
      (λ all. not_told c.loop-i.held.new c.if-held.false (c.loop-i.invariant.new.1 (λ i le. all i (omega arith)))),
    )
