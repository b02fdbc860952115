-- That a fact on entries has one proof at most, which a type that keeps it needs.
use Rattle.std.specs.Prelude.{◌≡◌, ℕ}
use Rattle.std.proofs.Props.{props}
use Rattle.key_state.specs.declared.entry.Entry.{Entry}
use Rattle.key_state.specs.declared.entry.Entry.TheVariants.{Settled, Pending, Bad}
use Rattle.key_state.specs.Entries.{IsEntry, AreEntries}

pub is_entry_prop : (entry : Entry) → IsProp (IsEntry entry)
is_entry_prop (Settled key) = hlevel props
is_entry_prop (Pending old new) = hlevel props
is_entry_prop Bad = hlevel props
