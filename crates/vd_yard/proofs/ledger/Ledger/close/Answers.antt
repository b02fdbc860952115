use Rattle.std.proofs.Common.{◌≡◌, ◌∙◌, ap, List, ℕ, refl, sym, true}
use Rattle.std.proofs.lemmas.Option.{get_or_from_slice_get}
use Rattle.vd_yard.specs.declared.ledger.Opening.{Opening}
use Rattle.vd_yard.specs.Ledger.{is_such, kind_of}
use Rattle.vd_yard.proofs.Openings.{closed_counts}
use Rattle.vd_yard.proofs.ledger.Ledger.close.Goals as goal

pub returns-clause-counts : goal.returns-clause-counts
returns-clause-counts c =
    let os = c.args.self.now.openings.items in
    let found = c.in-Some.ensures.found in
    let opening = c.index_mut-opening.result.now in
    let same : opening ≡ found.0 = c.index_mut-opening.ensures.value ∙ get_or_from_slice_get os c.in-Some.at found.0 opening found.1 in
    let such : is_such (kind_of c.args.thing) c.args.path.now found.0 ≡ true =
    ap (λ (q : List ℕ). is_such (kind_of c.args.thing) q found.0) (sym c.as_bytes.ensures) ∙ found.2 in
    closed_counts os c.in-Some.at found.0 _ c.args.thing c.args.path.now c.args.faults c.args.reads c.args.writes found.1 such refl
    (ap (λ (o : Opening). o.path) same) (ap (λ (o : Opening). o.thing) same) refl refl refl
