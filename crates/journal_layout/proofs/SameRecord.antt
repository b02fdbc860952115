-- A place of a log sector has at most one record, and a place of a map sector at most one entry.
use Rattle.std.proofs.Common.{◌≡◌, ◌≤◌, ℕ, List, arith, get_or, sym, ap, ◌∙◌}
use Rattle.key_state.specs.Entries.{first_of}
use Rattle.key_state.specs.declared.entry.Entry.{Entry}
use Rattle.key_state.specs.declared.entry.Entry.TheVariants.{Settled, Pending, Bad}
use Rattle.key_state.specs.declared.record.Record.{Record}
use Rattle.key_state.specs.declared.record.Record.TheVariants.{Begin, End, Bad as BadRecord, BeginRun, EndRun, Clear}
use Rattle.journal_layout.specs.Log.{HasCount, IsRecordOf, kind_bytes}
use Rattle.journal_layout.specs.Map.{IsEntryOf, HasKeys, entry_bytes}
use Rattle.journal_layout.proofs.SameGate.{same_four, same_two}

byte : (xs ys : List ℕ) (i : ℕ) → xs ≡ ys → get_or xs i 0 ≡ get_or ys i 0
byte xs ys i same = ap (λ (l : List ℕ). get_or l i 0) same

same_kind : (a b : Record) → kind_bytes a ≡ kind_bytes b → first_of a ≡ first_of b → a ≡ b
same_kind (Begin x o n) (Begin y p q) kind first =
    let old = byte _ _ 1 kind in
    let new = byte _ _ 2 kind in
    λ i. Begin (record { 0 = first i }) (old i) (new i)
same_kind (End x k) (End y l) kind first = let key = byte _ _ 2 kind in λ i. End (record { 0 = first i }) (key i)
same_kind (BadRecord x) (BadRecord y) kind first = λ i. BadRecord (record { 0 = first i })
same_kind (BeginRun x m) (BeginRun y n) kind first = let many = byte _ _ 3 kind in λ i. BeginRun (record { 0 = first i }) (many i)
same_kind (EndRun x m) (EndRun y n) kind first = let many = byte _ _ 3 kind in λ i. EndRun (record { 0 = first i }) (many i)
same_kind (Clear x m) (Clear y n) kind first = let many = byte _ _ 3 kind in λ i. Clear (record { 0 = first i }) (many i)
same_kind a b kind first = cc

pub same_record : (version blocks : ℕ) (sector : List ℕ) (index : ℕ) (a b : Record) → blocks ≤ 16777216 → IsRecordOf version blocks sector index a → IsRecordOf version blocks sector index b → a ≡ b
same_record version blocks sector index a b few is_a is_b =
    same_kind a b (sym is_a.kind ∙ is_b.kind) (same_four (first_of a) (first_of b) (omega (arith, few, is_a.is_below)) (omega (arith, few, is_b.is_below)) (sym is_a.block ∙ is_b.block))

pub same_count : (version epoch place : ℕ) (sector : List ℕ) (m n : ℕ) → HasCount version epoch place sector m → HasCount version epoch place sector n → m ≡ n
same_count version epoch place sector m n is_m is_n = same_two m n (omega (arith, is_m.most)) (omega (arith, is_n.most)) (sym is_m.counts ∙ is_n.counts)

same_bytes : (a b : Entry) → HasKeys a → HasKeys b → entry_bytes a ≡ entry_bytes b → a ≡ b
same_bytes (Settled k) (Settled l) keys_a keys_b same = ap Settled (byte _ _ 0 same)
same_bytes (Pending o n) (Pending p q) keys_a keys_b same = let old = byte _ _ 0 same in let new = byte _ _ 1 same in λ i. Pending (old i) (new i)
same_bytes Bad Bad keys_a keys_b same = λ i. Bad
same_bytes (Settled k) (Pending p q) keys_a keys_b same = let none : 0 ≡ q = byte _ _ 1 same in absurd (omega (arith, none, keys_b.1))
same_bytes (Settled k) Bad keys_a keys_b same = cc
same_bytes (Pending o n) (Settled l) keys_a keys_b same = let none : n ≡ 0 = byte _ _ 1 same in absurd (omega (arith, none, keys_a.1))
same_bytes (Pending o n) Bad keys_a keys_b same = let high : n ≡ 255 = byte _ _ 1 same in absurd (omega (arith, high, keys_a.1, keys_a.0))
same_bytes Bad (Settled l) keys_a keys_b same = cc
same_bytes Bad (Pending p q) keys_a keys_b same = let high : 255 ≡ q = byte _ _ 1 same in absurd (omega (arith, high, keys_b.1, keys_b.0))

pub same_entry : (sector : List ℕ) (index : ℕ) (a b : Entry) → IsEntryOf sector index a → IsEntryOf sector index b → a ≡ b
same_entry sector index a b is_a is_b = same_bytes a b is_a.keys is_b.keys (sym is_a.bytes ∙ is_b.bytes)
