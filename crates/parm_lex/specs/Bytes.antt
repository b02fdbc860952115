-- Kinds of bytes, and how many of a kind stand in front.
use Rattle.std.specs.Prelude.{ℕ, List, [], ◌∷◌, Bool, true, nat_eq, nat_le, ◌&&◌, ◌||◌, ◌-◌, if◌then◌else◌, not, length, take, drop, slice_index}
use Rattle.std.specs.List.{position_or_len}

-- a space or a tab
abbrev pub is_blank : ℕ → Bool
is_blank byte = nat_eq byte 32 || nat_eq byte 9

abbrev pub is_printable : ℕ → Bool
is_printable byte = nat_le 32 byte && nat_le byte 126

-- a byte of a quoted item: any printable one but the quote
abbrev pub is_inside : ℕ → Bool
is_inside byte = is_printable byte && not (nat_eq byte 34)

-- a byte of a bare item: no quote, blank, comma or parenthesis
abbrev pub is_bare : ℕ → Bool
is_bare byte = is_inside byte && not (nat_eq byte 32) && not (nat_eq byte 44) && not (nat_eq byte 40) && not (nat_eq byte 41)

-- a byte of a word: a letter, a digit or _
abbrev pub is_word : ℕ → Bool
is_word byte = (nat_le 97 byte && nat_le byte 122) || (nat_le 65 byte && nat_le byte 90) || (nat_le 48 byte && nat_le byte 57) || nat_eq byte 95

-- how many bytes of a kind stand in front
abbrev pub bare_len : List ℕ → ℕ
bare_len bytes = position_or_len (λ byte. not (is_bare byte)) bytes

abbrev pub inside_len : List ℕ → ℕ
inside_len bytes = position_or_len (λ byte. not (is_inside byte)) bytes

abbrev pub word_len : List ℕ → ℕ
word_len bytes = position_or_len (λ byte. not (is_word byte)) bytes

-- what stands behind the blanks in front
unfoldable pub blanks_off : List ℕ → List ℕ
blanks_off bytes = drop (position_or_len (λ byte. not (is_blank byte)) bytes) bytes

-- how many bytes stand before the first LF
abbrev pub line_len : List ℕ → ℕ
line_len bytes = position_or_len (λ byte. nat_eq byte 10) bytes

-- a line without the CR at its end
unfoldable pub cr_off : List ℕ → List ℕ
cr_off line = if nat_eq (slice_index line (length line - 1)) 13 then take (length line - 1) line else line

-- a line that is skipped, from its first byte that is no blank
abbrev pub is_skipped : List ℕ → Bool
is_skipped [] = true
is_skipped (byte ∷ rest) = nat_eq byte 35 || nat_eq byte 42 || nat_eq byte 47
