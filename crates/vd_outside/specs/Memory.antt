-- What contracts see of a source, a sink and a clock in memory beyond what every other tells: which calls fail, and what time it is.
use Rattle.std.specs.Prelude.{ℕ, ◌+◌, ◌-◌, ◌^◌, ◌==◌, min, Bool, List}
use Rattle.std.specs.List.{list_any}
use Rattle.vd_outside.specs.declared.memory.MemSource.{MemSource}
use Rattle.vd_outside.specs.declared.memory.MemSink.{MemSink}
use Rattle.vd_outside.specs.declared.clock.MemClock.{MemClock}

-- the numbers of the calls that fail, and how many calls were made
pub record Calls : Type 0 where
  pub failing : List ℕ
  pub made : ℕ

-- The next call fails where its number is listed.
abbrev pub fails_now : Calls → Bool
fails_now calls = list_any (λ number. number == calls.made) calls.failing

-- one call was made
abbrev pub one_more : Calls → Calls
one_more calls = record { failing = calls.failing; made = min (calls.made + 1) (2 ^ 64 - 1) }

abbrev pub reads_of : MemSource → Calls
reads_of source = record { failing = source.failing.items; made = source.calls }

abbrev pub writes_of : MemSink → Calls
writes_of sink = record { failing = sink.failing.items; made = sink.calls }

-- what time it is, and by how much a look moves it
pub record Ticks : Type 0 where
  pub time : ℕ
  pub step : ℕ

abbrev pub ticks_of : MemClock → Ticks
ticks_of clock = record { time = clock.time; step = clock.step }

-- a look goes on by the step, up to the greatest u64
abbrev pub next_tick : Ticks → Ticks
next_tick ticks = record { time = min (ticks.time + ticks.step) (2 ^ 64 - 1); step = ticks.step }
