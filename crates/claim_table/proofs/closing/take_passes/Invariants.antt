use Rattle.std.proofs.Common.{◌≡◌, ℕ, ◌<◌, ◌≤◌, length, false, true}
use Rattle.std.specs.Prelude.{slice_index_or}
use Rattle.std.specs.Vec.{vec_capacity}
use Rattle.std.specs.Slots.{slots_items, slots_filled, slots_len}
use mathlib.Core.Option.{some}
use lib.ListN.{get_elem?}
use Rattle.claim_table.specs.declared.slot.Slot.TheVariants as slot
use Rattle.claim_table.proofs.closing.take_passes.Given as goal

abbrev pub invariant-loop-block : goal.invariant-loop-block
invariant-loop-block g l = record {
  items : slots_items l.closed.slots ≡ slots_items l.initial.closed.slots;
  len : slots_len l.closed.slots ≡ slots_len l.initial.closed.slots;
  full : (k : ℕ) → l.block ≤ k → k < slots_len l.closed.slots → slice_index_or (slots_filled l.closed.slots) k false ≡ true;
  gone : (k : ℕ) → k < l.block → slice_index_or (slots_filled l.closed.slots) k false ≡ false;
  many : length l.room.items ≡ l.block;
  room : l.blocks ≤ vec_capacity l.room;
  list : vec_capacity l.room ≡ vec_capacity l.initial.room;
  each : (k : ℕ) → k < l.block → (p : _) × (get_elem? l.room.items k ≡ some p) × (get_elem? (slots_items l.initial.closed.slots) k ≡ some (slot.Pass p));
}
