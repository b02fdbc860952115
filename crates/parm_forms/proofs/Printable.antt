-- Printable bytes are text.
use Rattle.std.proofs.Common.{get_or, zero, suc, ◌≡◌, ℕ, ◌<◌, List, [], ◌∷◌, Bool, true, false, ◌&&◌, arith, refl}
use Rattle.std.specs.List.{list_all}
use Rattle.std.specs.Str.{IsUtf8}
use Rattle.std.proofs.lemmas.Bool.Decides.{nat_tests}
use Rattle.std.proofs.lemmas.Str.{IsUtf8-from_ascii}
use Rattle.parm_lex.specs.Bytes.{is_printable}

and_both : (a b : Bool) → (a && b) ≡ true → (a ≡ true) × (b ≡ true)
and_both true b e = (refl, e)
and_both false b e = cc

is_small : (byte : ℕ) → is_printable byte ≡ true → byte < 128
is_small byte e = grind (arith, nat_tests)

are_small : (bytes : List ℕ) → list_all is_printable bytes ≡ true → (i : ℕ) → get_or bytes i 0 < 128
are_small [] e i = omega arith
are_small (byte ∷ bytes) e zero = is_small byte (and_both _ _ e).0
are_small (byte ∷ bytes) e (suc i) = are_small bytes (and_both _ _ e).1 i

pub printable_utf8 : (bytes : List ℕ) → list_all is_printable bytes ≡ true → IsUtf8 bytes
printable_utf8 bytes e = IsUtf8-from_ascii bytes (are_small bytes e)
