use Rattle.std.proofs.Common.{◌≡◌, ◌∙◌, ap, sym, List, ℕ, Some}
use Rattle.vd_yard.specs.Held.{bytes_held}
use Rattle.vd_yard.specs.Kept.{kept_at, kept_at_kept_of}
use Rattle.vd_yard.specs.PathMap.{map_of}
use Rattle.vd_yard.proofs.Opened.{match_on}
use Rattle.vd_yard.proofs.memory.MemYard.bytes_at.Goals as goal

pub returns-in_ok-bytes-in-Some : goal.returns-in_ok-bytes-in-Some
returns-in_ok-bytes-in-Some c =
    let contents = map_of c.args.self.now.contents in
    let path = c.args.path.now in
    let here = kept_at_kept_of (λ q. bytes_held (kept_at contents q)) path in
    let there : kept_at contents path ≡ Some c.in-Some.held.now = ap (λ (q : List ℕ). kept_at contents q) (sym c.as_bytes.ensures) ∙ c.in-Some.ensures in
    match_on _ _ _ _ c.in_ok-bytes-in-Some.field-0
    (λ none. here ∙ ap bytes_held there ∙ none)
    (λ bytes held. here ∙ ap bytes_held there ∙ held)
    c.in_ok-bytes-in-Some.ensures

pub returns-in-None : goal.returns-in-None
returns-in-None c =
    let contents = map_of c.args.self.now.contents in
    kept_at_kept_of (λ q. bytes_held (kept_at contents q)) c.args.path.now
    ∙ ap bytes_held (ap (λ (q : List ℕ). kept_at contents q) (sym c.as_bytes.ensures) ∙ c.in-None.ensures)
