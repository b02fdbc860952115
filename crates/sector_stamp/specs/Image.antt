-- The image of a sector, for the eight padded bytes of its store's name, the byte at which it begins there, and a key.
use Rattle.std.specs.Prelude.{◌≡◌, ◌⊎◌, ℕ, ◌^◌, ◌<◌, List, [], ◌∷◌, length, slice_range, fold, bit_xor}
use Rattle.std.specs.Int.{to_be_bytes, w64}
use Rattle.lfsr_pattern.specs.Pattern.{AreBytes, IsPattern, seed_of}
use Rattle.sector_stamp.specs.declared.part.Part.{Part}
use Rattle.sector_stamp.specs.declared.part.Part.TheVariants.{Name, Address, Key, Pattern}

abbrev pub HasName : List ℕ → List ℕ → Type 0
HasName name sector = slice_range sector 20 28 ≡ name

abbrev pub HasAddress : ℕ → List ℕ → Type 0
HasAddress address sector = slice_range sector 0 8 ≡ to_be_bytes w64 address

-- the exclusive or of the eight bytes of the address and of the key
abbrev pub check_of : ℕ → ℕ → ℕ
check_of address key = fold bit_xor key (to_be_bytes w64 address)

abbrev pub HasKey : ℕ → ℕ → List ℕ → Type 0
HasKey address key sector = slice_range sector 16 18 ≡ key ∷ check_of address key ∷ []

-- the rest: zeros, and from byte 32 on the pattern of the address and key
pub record HasPattern (address key : ℕ) (sector : List ℕ) : Type 0 where
  pub behind_address : slice_range sector 8 16 ≡ 0 ∷ 0 ∷ 0 ∷ 0 ∷ 0 ∷ 0 ∷ 0 ∷ 0 ∷ []
  pub behind_key : slice_range sector 18 20 ≡ 0 ∷ 0 ∷ []
  pub behind_name : slice_range sector 28 32 ≡ 0 ∷ 0 ∷ 0 ∷ 0 ∷ []
  pub pattern : IsPattern (seed_of address key) (slice_range sector 32 512)

-- the 32 bytes of an image before the pattern
pub record IsHead (name : List ℕ) (address key : ℕ) (head : List ℕ) : Type 0 where
  pub size : length head ≡ 32
  pub named : HasName name head
  pub addressed : HasAddress address head
  pub keyed : HasKey address key head
  pub behind_address : slice_range head 8 16 ≡ 0 ∷ 0 ∷ 0 ∷ 0 ∷ 0 ∷ 0 ∷ 0 ∷ 0 ∷ []
  pub behind_key : slice_range head 18 20 ≡ 0 ∷ 0 ∷ []
  pub behind_name : slice_range head 28 32 ≡ 0 ∷ 0 ∷ 0 ∷ 0 ∷ []

-- the 512 bytes of a sector that was written with a key
pub record IsImage (name : List ℕ) (address key : ℕ) (sector : List ℕ) : Type 0 where
  pub size : length sector ≡ 512
  pub named : HasName name sector
  pub addressed : HasAddress address sector
  pub keyed : HasKey address key sector
  pub patterned : HasPattern address key sector

-- the first part, in this order, whose bytes are not the image's
abbrev pub IsFirstDifference : Part → List ℕ → ℕ → ℕ → List ℕ → Type 0
IsFirstDifference Name name address key sector = HasName name sector → ⊥
IsFirstDifference Address name address key sector = HasName name sector × (HasAddress address sector → ⊥)
IsFirstDifference Key name address key sector = HasName name sector × HasAddress address sector × (HasKey address key sector → ⊥)
IsFirstDifference Pattern name address key sector =
    HasName name sector × HasAddress address sector × HasKey address key sector × (HasPattern address key sector → ⊥)

-- A sector matches key 0 always, and another key where it is its image.
abbrev pub Matches : List ℕ → ℕ → ℕ → List ℕ → Type 0
Matches name address key sector = (key ≡ 0) ⊎ IsImage name address key sector

-- Two sectors that are the image of one name, address and key are equal.
abbrev pub HasOneImage : Type 0
HasOneImage =
    (name : List ℕ) (address key : ℕ) (xs ys : List ℕ) → AreBytes xs → AreBytes ys → IsImage name address key xs → IsImage name address key ys → xs ≡ ys

-- A sector is the image of one name, address and key at most.
abbrev pub ImagesTellApart : Type 0
ImagesTellApart =
    (name name' : List ℕ) (address address' key key' : ℕ) (sector : List ℕ)
    → address < 2 ^ 64 → address' < 2 ^ 64 → IsImage name address key sector → IsImage name' address' key' sector
    → (name ≡ name') × (address ≡ address') × (key ≡ key')

-- A sector has one first difference from an image at most.
abbrev pub HasOneFirstDifference : Type 0
HasOneFirstDifference =
    (part other : Part) (name : List ℕ) (address key : ℕ) (sector : List ℕ)
    → IsFirstDifference part name address key sector → IsFirstDifference other name address key sector → part ≡ other
