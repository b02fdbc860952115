-- What a yard in memory keeps of a store's data.
use Rattle.std.specs.Prelude.{ℕ, List, [], map, Option, Some, None, unwrap_or}
use Rattle.vd_arm.specs.MemArm.{mem_pass_seen}
use Rattle.vd_yard.specs.Contents.{told_bytes}
use Rattle.vd_yard.specs.Kept.{Kept, kept_at, kept_of}
use Rattle.vd_yard.specs.declared.data.Held.{Held}
use Rattle.vd_yard.specs.declared.data.Held.TheVariants as held

abbrev pub held_bytes : Held → Option (List ℕ)
held_bytes held.Nothing = None
held_bytes (held.Flat bytes) = Some bytes.items
held_bytes (held.Passes passes) = Some (told_bytes (map mem_pass_seen passes.items))

-- the bytes of its file: none where nothing is kept yet
abbrev pub held_file : Held → List ℕ
held_file kept = unwrap_or (held_bytes kept) []

-- the bytes of an entry, where there are any
abbrev pub bytes_held : Option Held → Option (List ℕ)
bytes_held None = None
bytes_held (Some held) = held_bytes held

-- the bytes that are kept, path by path
abbrev pub bytes_in : Kept Held → Kept (List ℕ)
bytes_in contents = kept_of (λ path. bytes_held (kept_at contents path))
