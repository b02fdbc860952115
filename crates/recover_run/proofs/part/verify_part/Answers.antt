use Rattle.std.proofs.Common.{◌≡◌, ◌<◌, ℕ, length, map, arith, rules, ap, ◌∙◌, [], ◌∷◌, ◌++◌}
use Rattle.std.proofs.lemmas.List.{length-map}
use Rattle.recover_run.proofs.Looking.{verifies_none, verifies_more, called_none, called_then, valid_at, block_at, size_at, mapped_at}
use Rattle.recover_run.proofs.part.verify_part.Goals as goal

in_passes : (i n m : ℕ) → i < n → m ≡ n → i < m
in_passes i n m p e = omega arith

pub loop-i-init : goal.loop-i-init
loop-i-init g c = record {
  done = ([], rw (c.reserve.ensures.items, c.reserve-2.ensures.items) (verifies_none c.args.store.now c.args.first c.args.found.now.items c.args.settled.now.items), called_none (g.A.Arm.seen c.args.arm.now));
  few = omega arith;
  found_room = search rules;
  settled_room = search rules;
}

pub look-seen-requires-clause-valid : goal.look-seen-requires-clause-valid
look-seen-requires-clause-valid g c κs room = valid_at c.args.entries.now c.loop-i.i c.index-entries-i.result c.requires.valid c.loop-i-test.true c.index-entries-i.is

pub look-seen-requires-clause-block : goal.look-seen-requires-clause-block
look-seen-requires-clause-block g c κs room =
    let within = in_passes c.loop-i.i (length c.args.entries.now) (length c.args.passes.now) c.loop-i-test.true c.requires.as_many in
    let e = block_at g.A.Pass.Pass.seen c.args.first c.args.store.now.geometry c.args.passes.now c.loop-i.i c.index-passes-i.result c.requires.part within c.index-passes-i.is in
    omega (arith, e)

pub look-seen-requires-clause-size : goal.look-seen-requires-clause-size
look-seen-requires-clause-size g c κs room =
    let within = in_passes c.loop-i.i (length c.args.entries.now) (length c.args.passes.now) c.loop-i-test.true c.requires.as_many in
    size_at g.A.Pass.Pass.seen c.args.first c.args.store.now.geometry c.args.passes.now c.loop-i.i c.index-passes-i.result c.requires.part within c.index-passes-i.is

pub loop-i-preserved : goal.loop-i-preserved
loop-i-preserved g c =
    let so_far = c.loop-i.invariant.done in
    let within = in_passes c.loop-i.i (length c.args.entries.now) (length c.args.passes.now) c.loop-i-test.true c.requires.as_many in
    let seen = g.A.Pass.Pass.seen in
    let passes = map seen c.args.passes.now in
    let in_seen : c.loop-i.i < length passes = in_passes c.loop-i.i (length c.args.passes.now) (length passes) within (length-map c.args.passes.now seen) in
    let block = block_at seen c.args.first c.args.store.now.geometry c.args.passes.now c.loop-i.i c.index-passes-i.result c.requires.part within c.index-passes-i.is in
    record {
      done = (
        so_far.0 ++ c.look-seen.result ∷ [],
        verifies_more c.args.store.now c.args.first c.loop-i.i c.args.entries.now passes so_far.0 c.index-entries-i.result (seen c.index-passes-i.result) c.look-seen.result _ _ _ _ _ _ _ _ c.loop-i-test.true in_seen c.index-entries-i.is (mapped_at seen c.args.passes.now c.loop-i.i c.index-passes-i.result within c.index-passes-i.is) c.look-seen.ensures.looks c.note.ensures.items (c.push_reserved.ensures.items ∙ ap (λ x. c.loop-i.settled.items ++ x ∷ []) c.settled_of.ensures) c.count_of-many.ensures so_far.1,
        called_then so_far.0 (c.look-seen.result ∷ []) _ _ _ so_far.2 c.look-seen.ensures.called,
      );
      few = search rules;
      found_room = search rules;
      settled_room = search rules;
    }
