-- How reading ends after a failed write.
use Rattle.std.proofs.Common.{◌≡◌, ◌+◌, ◌-◌, ◌≤◌, ℕ, Bool, true, false, List, [], ◌++◌, length, take, refl, sym, ◌∙◌, subst, arith}
use Rattle.std.specs.Prelude.{slice_range}
use Rattle.std.proofs.lemmas.List.{take_at, take_all, length-append}
use Rattle.vd_base.specs.declared.geometry.StoreId.{StoreId}
use Rattle.vd_arm.specs.Arm.{PassSeen, ArmSeen}
use Rattle.key_state.specs.declared.entry.Entry.{Entry}
use Rattle.recover_run.specs.declared.look.Look.{Look}
use Rattle.recover_run.specs.Looks.{AreLooks}
use Rattle.recover_run.specs.Part.{Called}
use Rattle.recover_run.proofs.Looking.{no_looks, called_none, looks_as_many}
use Rattle.run_report.specs.Says.{Says, Printing, says_then}
use Rattle.still_store.proofs.Pieces.{long_front, length_piece}
use Rattle.still_store.specs.Verification.{lines_of, EndsWithPiece, none_looked, piece_in_hand, StopsCalling, stops_calling}

-- One more piece was looked at, behind blocks whose lines went out whole.
pub ends_here : (id : StoreId) (entries : List Entry) (a b : ℕ) (looks more : List Look) (p q r : Printing) (text : List ℕ) → a ≤ b → b ≤ a + 1024 → b ≤ length entries → length looks ≡ length (take a entries) → length more ≡ length (slice_range entries a b) → q.failed ≡ false → Says p q (lines_of id (take a entries) looks) → Says q r text
    → EndsWithPiece id entries (looks ++ more) p r
ends_here id entries a b looks more p q r text le short within many few off before after =
    let front_long : length (take a entries) ≡ a = long_front entries a (omega (arith, le, within)) in
    let piece_long : length (slice_range entries a b) ≡ b - a = length_piece entries a b le within in
    let near : length (looks ++ more) ≤ a + 1024 = omega (arith, length-append looks more, many, few, front_long, piece_long, short) in
    let front : take a (looks ++ more) ≡ looks = take_at looks more a (many ∙ front_long) in
    piece_in_hand a text q near (subst (λ (ls : List Look). Says p q (lines_of id (take a entries) ls)) (sym front) before) off after

-- nothing was looked at
pub stops_none : (id : StoreId) (entries : List Entry) (passes : List PassSeen) (arm : ArmSeen) (p q : Printing) → StopsCalling id entries passes arm arm p q
stops_none id entries passes arm p q = stops_calling 0 [] (no_looks id) (called_none arm) (none_looked refl)

ends_then : (id : StoreId) (entries : List Entry) (looks : List Look) (p q r : Printing) (line : List ℕ) → Says q r line → EndsWithPiece id entries looks p q → EndsWithPiece id entries looks p r
ends_then id entries looks p q r line say (none_looked e) = none_looked e
ends_then id entries looks p q r line say (piece_in_hand whole rest between near before off after) = piece_in_hand whole (rest ++ line) between near before off (says_then between q r rest line after say)

stops_then : (id : StoreId) (entries : List Entry) (passes : List PassSeen) (a b : ArmSeen) (p q r : Printing) (line : List ℕ) → Says q r line → StopsCalling id entries passes a b p q → StopsCalling id entries passes a b p r
stops_then id entries passes a b p q r line say (stops_calling n looks looked called ends) = stops_calling n looks looked called (ends_then id entries looks p q r line say ends)

-- The lines of all blocks went out whole.
stops_last : (id : StoreId) (entries : List Entry) (passes : List PassSeen) (looks : List Look) (a b : ArmSeen) (p q r : Printing) (line : List ℕ) → length passes ≡ length entries → AreLooks id entries passes looks → Called looks a b → Says p q (lines_of id entries looks) → q.failed ≡ false → Says q r line
    → StopsCalling id entries passes a b p r
stops_last id entries passes looks a b p q r line many looked called before off after =
    let same = looks_as_many id entries passes looks looked in
    let all : take (length entries) entries ≡ entries = take_all (length entries) entries (omega arith) in
    let each : take (length entries) passes ≡ passes = take_all (length entries) passes (omega (arith, many)) in
    let every : take (length entries) looks ≡ looks = take_all (length entries) looks (omega (arith, same)) in
    let said : Says p q (lines_of id (take (length entries) entries) (take (length entries) looks)) = rw (all, every) before in
    stops_calling (length entries) looks (rw (all, each) looked) called (piece_in_hand (length entries) line q (omega (arith, same)) said off after)

-- The line that ends a verification is said behind its blocks.
pub stops_with_line : (id : StoreId) (entries : List Entry) (passes : List PassSeen) (looks : List Look) (a b : ArmSeen) (p q r : Printing) (line : List ℕ) (failed : Bool) → q.failed ≡ failed → length passes ≡ length entries → (q.failed ≡ true → StopsCalling id entries passes a b p q)
    → AreLooks id entries passes looks → Called looks a b → Says p q (lines_of id entries looks) → Says q r line → StopsCalling id entries passes a b p r
stops_with_line id entries passes looks a b p q r line true e many stops looked called before after = stops_then id entries passes a b p q r line after (stops e)
stops_with_line id entries passes looks a b p q r line false e many stops looked called before after = stops_last id entries passes looks a b p q r line many looked called before e after
