-- The records of a log with their places, and what a sink keeps of them.
use Rattle.std.specs.Prelude.{◌≡◌, ℕ, ◌+◌, ◌/◌, ◌%◌, List, [], ◌∷◌, ◌++◌, length, Option, Some, None}
use Rattle.key_state.specs.declared.record.Record.{Record}
use Rattle.journal_layout.specs.Recovery.{log_start}
use Rattle.journal_layout.specs.declared.live.Live.{Live}

-- a record with its sector and its place there
abbrev pub Placed : Type 0
Placed = ℕ × ℕ × Record

-- the records from number n of a log on, thirty a sector
abbrev pub placed_from : ℕ → ℕ → List Record → List Placed
placed_from start n [] = []
placed_from start n (made ∷ records) = (start + n / 30, n % 30, made) ∷ placed_from start (n + 1) records

-- the records of a log
abbrev pub placed : Live → List Record → List Placed
placed live records = placed_from (log_start live) 0 records

-- what a sink keeps once these are handed on
abbrev pub grown : Option (List Placed) → List Placed → Option (List Placed)
grown None added = None
grown (Some kept) added = Some (kept ++ added)

-- So many records were handed on.
abbrev pub HandsMany : ℕ → Option (List Placed) → Option (List Placed) → Type 0
HandsMany n before after = (added : List Placed) × (length added ≡ n) × (after ≡ grown before added)

-- The records from number n on were handed on.
abbrev pub HandsOn : Live → ℕ → List Record → Option (List Placed) → Option (List Placed) → Type 0
HandsOn live n added before after = after ≡ grown before (placed_from (log_start live) n added)
