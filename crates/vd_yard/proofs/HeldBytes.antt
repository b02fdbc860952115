-- The bytes that are kept once an entry is put.
use Rattle.std.proofs.Common.{◌≡◌, ℕ, Bool, true, false, cond, List, Option, Some, None, refl, sym, ◌∙◌, ap}
use Rattle.std.specs.Str.{bytes_eq}
use Rattle.std.proofs.lemmas.Slice.Eq.{bytes_eq-Decides}
use Rattle.vd_yard.specs.declared.data.Held.{Held}
use Rattle.vd_yard.specs.Held.{held_bytes, bytes_held, bytes_in}
use Rattle.vd_yard.specs.Kept.{Kept, kept_at, keep_at, keep_at_by, keep_at_cond, kept_of_same}

bytes_cond : (b : Bool) (h : Held) (bytes : List ℕ) (o : Option Held) → held_bytes h ≡ Some bytes → bytes_held (cond b (Some h) o) ≡ cond b (Some bytes) (bytes_held o)
bytes_cond true h bytes o e = e
bytes_cond false h bytes o e = refl

pub bytes_kept : (contents : Kept Held) (path : List ℕ) (held : Held) (bytes : List ℕ) → held_bytes held ≡ Some bytes →
    bytes_in (keep_at true contents path held) ≡ keep_at true (bytes_in contents) path bytes
bytes_kept contents path held bytes e =
    keep_at_by (λ q. bytes_held (kept_at contents q)) (λ q. bytes_held (kept_at (keep_at true contents path held) q)) path bytes (λ q.
    ap bytes_held (keep_at_cond contents path held q) ∙ bytes_cond (bytes_eq path q) held bytes (kept_at contents q) e)

none_cond : (b : Bool) (h : Held) (o : Option Held) → held_bytes h ≡ None → (b ≡ true → o ≡ None) → bytes_held (cond b (Some h) o) ≡ bytes_held o
none_cond true h o e none = e ∙ sym (ap bytes_held (none refl))
none_cond false h o e none = refl

-- an entry without bytes, where there is none
pub bytes_made : (contents : Kept Held) (path : List ℕ) (held : Held) → held_bytes held ≡ None → kept_at contents path ≡ None →
    bytes_in (keep_at true contents path held) ≡ bytes_in contents
bytes_made contents path held e none =
    kept_of_same (λ q. bytes_held (kept_at contents q)) (λ q. bytes_held (kept_at (keep_at true contents path held) q)) (λ q.
    ap bytes_held (keep_at_cond contents path held q)
    ∙ none_cond (bytes_eq path q) held (kept_at contents q) e (λ same.
    ap (λ (p : List ℕ). kept_at contents p) (sym ((bytes_eq-Decides path q).0 same)) ∙ none))
