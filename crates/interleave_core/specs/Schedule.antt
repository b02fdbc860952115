-- A schedule that is drawn from a number: which events it asks for, and what it counts.
use Rattle.std.specs.Prelude.{sum_by, ◌≡◌, ◌⊎◌, ℕ, zero, suc, ◌+◌, ◌-◌, ◌/◌, ◌%◌, ◌==◌, ◌||◌, if◌then◌else◌, nat_lt, Bool, true, false, length, Option, None, Some}
use Rattle.std.specs.List.{range_with_len}
use Rattle.rand_pcg.specs.Lcg.{Lcg, started, increment_of}
use Rattle.rand_pcg.specs.Pcg.{pcg32, multiplier_64}
use Rattle.key_state.specs.declared.entry.Entry.{Entry}
use Rattle.key_state.specs.declared.entry.Entry.TheVariants.{Settled, Pending, Bad}
use Rattle.interleave_core.specs.declared.event.Event.{Event}
use Rattle.interleave_core.specs.declared.event.Event.TheVariants as event
use Rattle.interleave_core.specs.declared.hold.Stage.{Stage}
use Rattle.interleave_core.specs.declared.hold.Stage.TheVariants.{Free, Claimed, Queued, Writing, Acked, Done}
use Rattle.interleave_core.specs.declared.summary.Summary.{Summary}
use Rattle.interleave_core.specs.Event.{Enabled, Changes}
use Rattle.interleave_core.specs.World.{World, first_world, hold_of, entry_of, key_of}

-- the generator that a number starts, on stream 0
abbrev pub seeded : ℕ → Lcg
seeded n = started 64 multiplier_64 n (increment_of 64 0)

-- three words, and the generator after them
pub record Draw : Type 0 where
  pub x : ℕ
  pub y : ℕ
  pub z : ℕ
  pub rest : Lcg

abbrev pub draw : Lcg → Draw
draw g =
    let first = pcg32 g in
    let second = pcg32 first.1 in
    let third = pcg32 second.1 in
    record { x = first.0; y = second.0; z = third.0; rest = third.1 }

abbrev pub is_free : Stage → Bool
is_free Free = true
is_free Claimed = false
is_free Queued = false
is_free Writing = false
is_free Acked = false
is_free Done = false

-- The event that three words ask for, where it isn't a stop: the worker is y mod 4, the kind goes by x mod 16.
abbrev pub asked : World → ℕ → ℕ → ℕ → Option Event
asked w x y z =
    let worker = y % 4 in
    let hold = hold_of w worker in
    let kind = x % 16 in
    if nat_lt kind 2 then (if is_free hold.stage then Some (event.Claim worker (record { 0 = z % 64 })) else None)
    else if nat_lt kind 4 then Some (event.Begin worker)
    else if kind == 4 then Some event.Sync
    else if nat_lt kind 10 then (if is_free hold.stage then None else Some (event.Write worker hold.first (z % 8)))
    else if kind == 10 then Some (event.Ack worker)
    else if kind == 11 then Some (event.End worker)
    else if nat_lt kind 14 then Some (event.Release worker)
    else if kind == 14 then (if z % 64 == 0 then Some (event.Fault worker) else Some (event.Ack worker))
    else if z % 256 == 0 then Some event.Turnover
    else Some (event.End worker)

-- The words ask for a stop, which keeps so many records.
abbrev pub IsStop : ℕ → ℕ → Type 0
IsStop x z = (x % 16 ≡ 15) × (z % 256 ≡ 1)

abbrev pub keep_of : World → ℕ → ℕ
keep_of w z = w.synced + z / 256 % (length w.records - w.synced + 1)

-- whether a sector with this key matches another, and whether it fits an entry
abbrev pub matches : ℕ → ℕ → Bool
matches sector key = (key == 0) || (sector == key)

abbrev pub fits : Entry → ℕ → Bool
fits (Settled key) sector = matches sector key
fits (Pending old new) sector = matches sector old || matches sector new
fits Bad sector = true

-- how many sectors don't fit: of one sector, of a block, and of all blocks
abbrev pub wrong_at : World → ℕ → ℕ → ℕ
wrong_at w b s = if fits (entry_of w b) (key_of w b s) then 0 else 1

abbrev pub wrong_in : World → ℕ → ℕ
wrong_in w b = sum_by (wrong_at w b) (range_with_len 0 w.sectors)

abbrev pub wrong_of : World → ℕ
wrong_of w = sum_by (wrong_in w) (range_with_len 0 (length w.base))

-- how many operations an event ends
abbrev pub ends_by : Event → ℕ
ends_by (event.End a) = 1
ends_by (event.Claim a b) = 0
ends_by (event.Begin a) = 0
ends_by event.Sync = 0
ends_by (event.Write a b s) = 0
ends_by (event.Ack a) = 0
ends_by (event.Fault a) = 0
ends_by (event.Bad a b) = 0
ends_by (event.Clear a) = 0
ends_by (event.Release a) = 0
ends_by event.Turnover = 0
ends_by (event.Stop keep) = 0
ends_by event.Recover = 0

-- One step that asks for an event or for none. It is idle where the event isn't enabled.
abbrev pub Tries : World → Option Event → World → Summary → Summary → Type 0
Tries w None new before after = (new ≡ w) × (after ≡ record before { idle = before.idle + 1 })
Tries w (Some e) new before after =
    (Enabled w e × Changes w e new × (after ≡ record before { taken = before.taken + 1; ends = before.ends + ends_by e }))
    ⊎ ((Enabled w e → ⊥) × (new ≡ w) × (after ≡ record before { idle = before.idle + 1 }))

-- A stop and the recovery after it, and between them the sectors that don't fit.
abbrev pub Stops : World → ℕ → World → Summary → Summary → Type 0
Stops w keep new before after =
    ((mid : World) × Enabled w (event.Stop keep) × Changes w (event.Stop keep) mid × Changes mid event.Recover new
    × (after ≡ record before { taken = before.taken + 1; stops = before.stops + 1; wrong = before.wrong + wrong_of mid }))
    ⊎ ((Enabled w (event.Stop keep) → ⊥) × (new ≡ w) × (after ≡ record before { idle = before.idle + 1 }))

-- one step
abbrev pub Turn : World → ℕ → ℕ → ℕ → World → Summary → Summary → Type 0
Turn w x y z new before after =
    (IsStop x z × Stops w (keep_of w z) new before after) ⊎ ((IsStop x z → ⊥) × Tries w (asked w x y z) new before after)

-- so many steps
abbrev pub Turns : ℕ → World → Lcg → Summary → World → Summary → Type 0
Turns zero w g before new after = (new ≡ w) × (after ≡ before)
Turns (suc n) w g before new after =
    (mid : World) × (counts : Summary) × Turn w (draw g).x (draw g).y (draw g).z mid before counts × Turns n mid (draw g).rest counts new after

abbrev pub no_counts : Summary
no_counts = record { taken = 0; idle = 0; ends = 0; stops = 0; wrong = 0 }

-- the counts of the schedule of n: n steps over 64 blocks of 8 sectors and 4 workers
abbrev pub Simulates : ℕ → Summary → Type 0
Simulates n counts = (new : World) × Turns n (first_world 64 8 4) (seeded n) no_counts new counts
