-- How a journal keeps its parts: beside them each block's entry now.
use Rattle.std.specs.Prelude.{◌≡◌, ◌<◌, ◌≤◌, ◌^◌, ℕ, length}
use Rattle.key_state.specs.Entries.{state}
use Rattle.interleave_core.specs.declared.journal.Journal.TheInside.{Inside}
use Rattle.interleave_core.specs.Journal.{Ledger, entry_in}

abbrev pub ledger_of : Inside → Ledger
ledger_of j = record { base = j.base.items; records = j.records.items; synced = j.synced }

pub record IsCurrent (j : Inside) : Type 0 where
  pub small : length j.base.items < 2 ^ 32
  pub sizes : length j.current.items ≡ length j.base.items
  pub each : (b : ℕ) → b < length j.base.items → entry_in j.current.items b ≡ state j.base.items j.records.items b
  pub synced : j.synced ≤ length j.records.items
