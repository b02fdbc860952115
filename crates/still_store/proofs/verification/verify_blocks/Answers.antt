use Rattle.std.proofs.Common.{◌≡◌, ◌+◌, ◌≤◌, ◌++◌, [], length, map, refl, sym, ◌∙◌, arith, rules}
use Rattle.std.proofs.lemmas.List.{length-map}
use Rattle.run_report.specs.Says.{says_along, says_then, says_none}
use Rattle.recover_run.proofs.Looking.{no_looks, called_none, called_then, looks_as_many}
use Rattle.still_store.proofs.Pieces.{piece_part, looked_then, counted_then, lines_then, nothing_counted, no_lines, small_sum, none_settled, settled_then}
use Rattle.still_store.specs.Verification.{stops_calling}
use Rattle.still_store.proofs.Ends.{ends_here, stops_none}
use Rattle.still_store.proofs.verification.verify_blocks.Goals as goal

pub loop-at-init : goal.loop-at-init
loop-at-init g c = record {
  within = omega arith;
  room = c.requires.size;
  collects = refl;
  done = (
    [],
    no_looks c.args.store.now,
    nothing_counted _ refl refl refl refl refl,
    called_none (g.A.Arm.seen c.args.arm.now),
    says_along _ _ _ _ (no_lines c.args.store.now) (says_none _),
    λ collected. c.requires.none ∙ none_settled,
  );
  stops = λ failed. stops_none _ _ _ _ _ _;
}

pub verify_piece-requires-clause-part : goal.verify_piece-requires-clause-part
verify_piece-requires-clause-part g c κs room =
    let seen = g.A.Pass.Pass.seen in
    let many : length (map seen c.args.passes.now) ≡ length c.args.entries.now = c.requires.blocks.as_many ∙ sym c.requires.one_each in
    let le : c.loop-at.at ≤ c.min-end.result = omega arith in
    let within : c.min-end.result ≤ length c.args.passes.now = omega (arith, many, length-map c.args.passes.now seen) in
    piece_part seen c.args.store.now.geometry c.args.passes.now c.loop-at.at c.min-end.result le within c.requires.blocks

pub add-requires : goal.add-requires
add-requires g c =
    let d = c.loop-at.invariant.done in
    let v = c.in_ok-more.ensures.looks in
    let le : c.loop-at.at ≤ c.min-end.result = omega arith in
    let within : c.min-end.result ≤ length c.args.entries.now = omega arith in
    small_sum c.args.entries.now c.loop-at.at c.min-end.result d.0 v.0 _ _ le within (search rules)
    (looks_as_many c.args.store.now _ _ d.0 d.1) (looks_as_many c.args.store.now _ _ v.0 v.1) d.2 v.2

pub loop-at-preserved : goal.loop-at-preserved
loop-at-preserved g c =
    let d = c.loop-at.invariant.done in
    let v = c.in_ok-more.ensures.looks in
    let le : c.loop-at.at ≤ c.min-end.result = omega arith in
    let near : c.min-end.result ≤ c.loop-at.at + 1024 = omega arith in
    let within : c.min-end.result ≤ length c.args.entries.now = omega arith in
    record {
      within = within;
      room = c.verify_piece.ensures.size;
      collects = c.verify_piece.ensures.collects ∙ c.loop-at.invariant.collects;
      done = (
        d.0 ++ v.0,
        looked_then g.A.Pass.Pass.seen c.args.store.now c.args.entries.now c.args.passes.now c.loop-at.at c.min-end.result d.0 v.0 le d.1 v.1,
        counted_then c.args.entries.now c.loop-at.at c.min-end.result d.0 v.0 _ _ _ le d.2 v.2 c.add.ensures,
        called_then d.0 v.0 _ _ _ d.3 v.3,
        says_along _ _ _ _ (lines_then c.args.store.now c.args.entries.now c.loop-at.at c.min-end.result d.0 v.0 le c.loop-at.invariant.within (looks_as_many c.args.store.now _ _ d.0 d.1)) (says_then _ _ _ _ _ d.4 v.4),
        settled_then _ _ c.args.entries.now c.loop-at.at c.min-end.result d.0 v.0 _ _ c.loop-at.invariant.collects le (looks_as_many c.args.store.now _ _ d.0 d.1) d.5 v.5,
      );
      stops = λ failed. stops_calling c.min-end.result (d.0 ++ v.0)
          (looked_then g.A.Pass.Pass.seen c.args.store.now c.args.entries.now c.args.passes.now c.loop-at.at c.min-end.result d.0 v.0 le d.1 v.1)
          (called_then d.0 v.0 _ _ _ d.3 v.3)
          (ends_here c.args.store.now c.args.entries.now c.loop-at.at c.min-end.result d.0 v.0 _ _ _ _ le near within (looks_as_many c.args.store.now _ _ d.0 d.1) (looks_as_many c.args.store.now _ _ v.0 v.1) (search rules) d.4 v.4);
    }
