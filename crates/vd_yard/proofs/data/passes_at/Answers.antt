use Rattle.std.proofs.Common.{◌≡◌, ◌∙◌, ap, sym, List, [], ℕ, Some, None, map, subst}
use Rattle.std.specs.Prelude.{IfOk, unwrap_or}
use Rattle.vd_arm.specs.MemArm.{mem_pass_seen}
use Rattle.vd_yard.specs.Contents.{TellFile}
use Rattle.vd_yard.specs.Held.{held_file, bytes_held, bytes_in}
use Rattle.vd_yard.specs.Kept.{kept_at, kept_at_kept_of, bytes_at}
use Rattle.vd_yard.specs.PathMap.{map_of}
use Rattle.vd_yard.proofs.data.passes_at.Goals as goal

pub returns-in-Some-clause-tell : goal.returns-in-Some-clause-tell
returns-in-Some-clause-tell c =
    let kept = map_of c.args.contents.now in
    let path = c.args.path.now in
    let found : kept_at kept path ≡ Some c.in-Some.held.now = ap (λ (q : List ℕ). kept_at kept q) (sym c.as_bytes.ensures) ∙ c.in-Some.ensures in
    let file : bytes_at (bytes_in kept) path ≡ held_file c.in-Some.held.now =
    ap (λ o. unwrap_or o []) (kept_at_kept_of (λ q. bytes_held (kept_at kept q)) path ∙ ap bytes_held found) in
    subst (λ (bytes : List ℕ). IfOk c.passes.result (λ passes. TellFile c.args.geometry.now bytes (map mem_pass_seen passes.items))) (sym file) c.passes.ensures.tell

pub returns-in-None-clause-tell : goal.returns-in-None-clause-tell
returns-in-None-clause-tell c =
    let kept = map_of c.args.contents.now in
    let path = c.args.path.now in
    let found : kept_at kept path ≡ None = ap (λ (q : List ℕ). kept_at kept q) (sym c.as_bytes.ensures) ∙ c.in-None.ensures in
    let file : bytes_at (bytes_in kept) path ≡ [] =
    ap (λ o. unwrap_or o []) (kept_at_kept_of (λ q. bytes_held (kept_at kept q)) path ∙ ap bytes_held found) in
    subst (λ (bytes : List ℕ). IfOk c.passes-in-None.result (λ passes. TellFile c.args.geometry.now bytes (map mem_pass_seen passes.items))) (sym file) c.passes-in-None.ensures.tell
