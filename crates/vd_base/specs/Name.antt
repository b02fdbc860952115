-- Names of stores, and the eight bytes in which they are kept.
use Rattle.std.specs.Prelude.{ℕ, ◌-◌, Bool, ◌&&◌, ◌||◌, ◌==◌, nat_le, List, ◌++◌, length, replicate}
use Rattle.std.specs.List.{before_first, list_all}
use Rattle.std.specs.Str.{bytes_eq}

-- a letter, a digit or an underscore
abbrev pub is_name_byte : ℕ → Bool
is_name_byte b = (nat_le 97 b && nat_le b 122) || (nat_le 65 b && nat_le b 90) || (nat_le 48 b && nat_le b 57) || (b == 95)

-- one to eight of them
abbrev pub is_store_name : List ℕ → Bool
is_store_name text = nat_le 1 (length text) && nat_le (length text) 8 && list_all is_name_byte text

-- the name and then zeros, eight bytes in all
abbrev pub padded : List ℕ → List ℕ
padded text = text ++ replicate (8 - length text) 0

-- the text of eight bytes: those before the first zero
abbrev pub name_text : List ℕ → List ℕ
name_text bytes = before_first (λ b. b == 0) bytes

-- the eight bytes of a store's name
abbrev pub is_padded_name : List ℕ → Bool
is_padded_name bytes = is_store_name (name_text bytes) && bytes_eq (padded (name_text bytes)) bytes
