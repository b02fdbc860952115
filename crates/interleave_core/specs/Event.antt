-- Which events may happen, and what each changes.
use Rattle.std.specs.Prelude.{⊤, ◌≡◌, ◌≢◌, ◌⊎◌, ℕ, ◌+◌, ◌-◌, ◌*◌, ◌<◌, ◌≤◌, ◌==◌, if◌then◌else◌, Bool, true, false, List, [], ◌∷◌, ◌++◌, length, take, drop, replicate, slice_set}
use Rattle.vd_base.specs.declared.geometry.BlockNo.{BlockNo}
use Rattle.vd_base.specs.Key.{next}
use Rattle.key_state.specs.declared.entry.Entry.{Entry}
use Rattle.key_state.specs.declared.entry.Entry.TheVariants.{Settled, Pending, Bad}
use Rattle.key_state.specs.declared.record.Record.{Record}
use Rattle.key_state.specs.declared.record.Record.TheVariants as record_of
use Rattle.key_state.specs.Entries.{IsPending, records_of, states, entry_at}
use Rattle.interleave_core.specs.declared.event.Event.{Event}
use Rattle.interleave_core.specs.declared.event.Event.TheVariants as event
use Rattle.interleave_core.specs.declared.hold.Stage.{Stage}
use Rattle.interleave_core.specs.declared.hold.Stage.TheVariants.{Free, Claimed, Queued, Writing, Acked, Done}
use Rattle.interleave_core.specs.declared.hold.Hold.{Hold}
use Rattle.interleave_core.specs.Fits.{Settles}
use Rattle.interleave_core.specs.World.{World, no_hold, hold_of, Lists, entry_of, place, key_of, is_written}

-- The machine runs, and the worker is there with its operation at such a stage.
abbrev pub IsAt : World → ℕ → (Stage → Type 0) → Type 0
IsAt w a stages = (w.stopped ≡ false) × (a < length w.holds) × stages (hold_of w a).stage

abbrev pub IsClaimed : Stage → Type 0
IsClaimed stage = stage ≡ Claimed

abbrev pub IsAcked : Stage → Type 0
IsAcked stage = stage ≡ Acked

-- A write may follow.
abbrev pub IsOpen : Stage → Type 0
IsOpen stage = (stage ≡ Queued) ⊎ (stage ≡ Writing)

-- A write may fail.
abbrev pub MayFail : Stage → Type 0
MayFail stage = (stage ≡ Queued) ⊎ (stage ≡ Writing) ⊎ (stage ≡ Acked)

-- No write is under way.
abbrev pub IsLoose : Stage → Type 0
IsLoose stage = (stage ≡ Claimed) ⊎ (stage ≡ Done)

-- The block is the hold's first one, or the next one of a list that isn't full.
abbrev pub MayAdd : Hold → BlockNo → Type 0
MayAdd hold block = (hold.stage ≡ Free) ⊎ ((hold.stage ≡ Claimed) × (hold.many < 64) × (block.0 ≡ hold.first.0 + hold.many))

abbrev pub with_block : Hold → BlockNo → Hold
with_block hold block = record { stage = Claimed; first = if hold.many == 0 then block else hold.first; many = hold.many + 1 }

-- The last block leaves the list.
abbrev pub fewer : Hold → Hold
fewer hold = record hold { stage = if hold.many == 1 then Free else hold.stage; many = hold.many - 1 }

-- Another worker holds the block.
abbrev pub IsBusy : World → ℕ → ℕ → Type 0
IsBusy w a block = (c : ℕ) × (c ≢ a) × Lists (hold_of w c) block

-- the holds, one of them at another stage
abbrev pub at_stage : World → ℕ → Stage → List Hold
at_stage w a stage = slice_set w.holds a (record (hold_of w a) { stage = stage })

abbrev pub IsSettled : Entry → Type 0
IsSettled entry = (key : ℕ) × (entry ≡ Settled key)

-- Some listed block is settled.
abbrev pub SomeSettled : (ℕ → Entry) → Hold → Type 0
SomeSettled entry hold = (b : ℕ) × Lists hold b × IsSettled (entry b)

-- The key with which a pending block is written.
abbrev pub pending_key : Entry → ℕ
pending_key (Settled key) = 0
pending_key (Pending old new) = new
pending_key Bad = 0

abbrev pub settled_key : Entry → ℕ
settled_key (Settled key) = key
settled_key (Pending old new) = old
settled_key Bad = 0

-- the records that begin and that end the writing of a list
abbrev pub begin_record : (ℕ → Entry) → Hold → Record
begin_record entry hold =
    if hold.many == 1 then record_of.Begin hold.first (settled_key (entry hold.first.0)) (next (settled_key (entry hold.first.0)))
    else record_of.BeginRun hold.first hold.many

abbrev pub end_record : (ℕ → Entry) → Hold → Record
end_record entry hold = if hold.many == 1 then record_of.End hold.first (pending_key (entry hold.first.0)) else record_of.EndRun hold.first hold.many

-- the marks of written sectors, those of the listed blocks taken away
abbrev pub unwritten : World → Hold → List Bool
unwritten w hold =
    let from = hold.first.0 * w.sectors in
    let many = hold.many * w.sectors in
    take from w.written ++ (replicate many false ++ drop (from + many) w.written)

-- The block is pending by the base and the synced records: its entry is pending, and none of the unsynced records is its own.
abbrev pub IsSafe : Entry → List Record → ℕ → Type 0
IsSafe entry unsynced block = IsPending entry × (records_of block unsynced ≡ [])

-- Each sector of each listed block was written.
abbrev pub IsAllWritten : World → Hold → Type 0
IsAllWritten w hold = (b s : ℕ) → Lists hold b → s < w.sectors → is_written w b s ≡ true

-- The event may happen.
abbrev pub Enabled : World → Event → Type 0
Enabled w (event.Claim a b) = (w.stopped ≡ false) × (a < length w.holds) × (b.0 < length w.base) × (entry_of w b.0 ≢ Bad) × MayAdd (hold_of w a) b
Enabled w (event.Begin a) = IsAt w a IsClaimed
Enabled w event.Sync = w.stopped ≡ false
Enabled w (event.Write a b s) =
    IsAt w a IsOpen × Lists (hold_of w a) b.0 × (s < w.sectors) × ((c : ℕ) → Lists (hold_of w a) c → IsSafe (entry_of w c) (drop w.synced w.records) c)
Enabled w (event.Ack a) = IsAt w a (λ stage. stage ≡ Writing) × IsAllWritten w (hold_of w a)
Enabled w (event.Fault a) = IsAt w a MayFail
Enabled w (event.End a) = IsAt w a IsAcked
Enabled w (event.Bad a b) = IsAt w a IsLoose × Lists (hold_of w a) b.0 × (entry_of w b.0 ≢ Bad)
Enabled w (event.Clear a) = IsAt w a IsClaimed
Enabled w (event.Release a) = IsAt w a IsLoose
Enabled w event.Turnover = w.stopped ≡ false
Enabled w (event.Stop keep) = (w.stopped ≡ false) × (w.synced ≤ keep) × (keep ≤ length w.records)
Enabled w event.Recover = w.stopped ≡ true

-- What an event makes of a world.
abbrev pub Changes : World → Event → World → Type 0
Changes w (event.Claim a b) new =
    (IsBusy w a b.0 × (new ≡ w)) ⊎ ((IsBusy w a b.0 → ⊥) × (new ≡ record w { holds = slice_set w.holds a (with_block (hold_of w a) b) }))
Changes w (event.Begin a) new =
    (SomeSettled (entry_of w) (hold_of w a)
    × (new ≡ record w { records = w.records ++ begin_record (entry_of w) (hold_of w a) ∷ []; holds = at_stage w a Queued; written = unwritten w (hold_of w a) }))
    ⊎ ((SomeSettled (entry_of w) (hold_of w a) → ⊥) × (new ≡ record w { holds = at_stage w a Queued; written = unwritten w (hold_of w a) }))
Changes w event.Sync new = new ≡ record w { synced = length w.records }
Changes w (event.Write a b s) new = new ≡ record w {
  holds = at_stage w a Writing;
  keys = slice_set w.keys (place w b.0 s) (pending_key (entry_of w b.0));
  written = slice_set w.written (place w b.0 s) true;
}
Changes w (event.Ack a) new = new ≡ record w { holds = at_stage w a Acked }
Changes w (event.Fault a) new = new ≡ record w { holds = at_stage w a Done }
Changes w (event.End a) new = new ≡ record w { records = w.records ++ end_record (entry_of w) (hold_of w a) ∷ []; holds = at_stage w a Done }
Changes w (event.Bad a b) new = new ≡ record w { records = w.records ++ record_of.Bad b ∷ []; holds = at_stage w a Done }
Changes w (event.Clear a) new =
    new ≡ record w { records = w.records ++ record_of.Clear (hold_of w a).first (hold_of w a).many ∷ []; holds = at_stage w a Done }
Changes w (event.Release a) new = new ≡ record w { holds = slice_set w.holds a (fewer (hold_of w a)) }
Changes w event.Turnover new = new ≡ record w { base = states w.base w.records; records = []; synced = 0 }
Changes w (event.Stop keep) new =
    new ≡ record w { records = take keep w.records; holds = replicate (length w.holds) no_hold; stopped = true }
Changes w event.Recover new =
    (new ≡ record w { base = new.base; records = []; synced = 0; stopped = false }) × (length new.base ≡ length w.base)
    × ((b : ℕ) → b < length w.base → Settles (key_of w b) w.sectors (entry_of w b) (entry_at new.base b))

-- The event appends a record, for which it takes memory. A beginning does where some listed block is settled.
abbrev pub Appends : World → Event → Type 0
Appends w (event.Begin a) = SomeSettled (entry_of w) (hold_of w a)
Appends w (event.End a) = ⊤
Appends w (event.Bad a b) = ⊤
Appends w (event.Clear a) = ⊤
Appends w (event.Claim a b) = ⊥
Appends w event.Sync = ⊥
Appends w (event.Write a b s) = ⊥
Appends w (event.Ack a) = ⊥
Appends w (event.Fault a) = ⊥
Appends w (event.Release a) = ⊥
Appends w event.Turnover = ⊥
Appends w (event.Stop keep) = ⊥
Appends w event.Recover = ⊥

-- One event: its change where it may happen, else nothing.
abbrev pub Step : World → Event → World → Type 0
Step w e new = (Enabled w e × Changes w e new) ⊎ ((Enabled w e → ⊥) × (new ≡ w))

-- a list of events
abbrev pub Run : World → List Event → World → Type 0
Run w [] new = new ≡ w
Run w (e ∷ events) new = (mid : World) × Step w e mid × Run mid events new

-- What a call for an event answers: true where it may happen, and then its change; false where it may not, and then nothing changes.
abbrev pub Does : World → Event → Bool → World → Type 0
Does w e true new = Enabled w e × Changes w e new
Does w e false new = (Enabled w e → ⊥) × (new ≡ w)
