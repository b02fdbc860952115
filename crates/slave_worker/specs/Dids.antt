-- What one turn did: its numbers and lists, and the rules that it follows.
use Rattle.std.specs.Prelude.{⊤, ◌≡◌, ◌≢◌, ◌⊎◌, ℕ, ◌+◌, ◌<◌, ◌≤◌, ◌==◌, Bool, true, false, cond, List, [], ◌∷◌, ◌++◌, drop, length, map, reverse, take, Option, Some, None, IsSome}
use Rattle.std.specs.List.{list_any}
use Rattle.vd_base.specs.Geometry.{sectors_of}
use Rattle.vd_base.specs.declared.geometry.StoreId.{StoreId}
use Rattle.key_state.specs.Books.{used}
use Rattle.key_state.specs.Entries.{begun, ended, entry_at}
use Rattle.key_state.specs.declared.entry.Entry.{Entry}
use Rattle.key_state.specs.declared.entry.Entry.TheVariants.{Bad}
use Rattle.key_state.specs.declared.fault.BookFault.{BookFault}
use Rattle.block_verdict.specs.declared.finding.Finding.{Finding}
use Rattle.block_verdict.specs.declared.finding.Finding.TheVariants.{Corrupt, ReadFault, WriteFault}
use Rattle.claim_table.specs.Runs.{CanBeHad}
use Rattle.claim_table.specs.Seats.{IsBusyIn, IsFreeIn}
use Rattle.claim_table.specs.Sums.{Each}
use Rattle.claim_table.specs.Views.{try}
use Rattle.claim_table.specs.declared.view.Answer.TheVariants as answer
use Rattle.claim_table.specs.declared.view.Try.{Try}
use Rattle.key_state.specs.declared.seen.BookSeen.{BookSeen}
use Rattle.seat_ops.specs.Holds.{HasFault, falling}
use Rattle.worker_tally.specs.Dones.{corrupt_in, corrupt_of, ended_put, fault, fault_put, good, is_refused, unended_put, has_called}
use Rattle.worker_tally.specs.declared.done.Done.{Done}
use Rattle.worker_tally.specs.declared.done.Look.{Look}
use Rattle.worker_tally.specs.declared.done.Look.TheVariants as look
use Rattle.worker_tally.specs.declared.done.Put.{Put}
use Rattle.worker_tally.specs.declared.done.Put.TheVariants as put
use Rattle.worker_tally.specs.declared.done.Refusal.{Refusal}
use Rattle.worker_tally.specs.declared.done.Refusal.TheVariants as refusal
use Rattle.workload_gen.specs.declared.turn.Turn.{Turn}
use Rattle.slave_worker.specs.declared.did.Did.{Did}
use Rattle.slave_worker.specs.declared.did.Rules.{Rules}

-- The claims of blocks from the first on, made after others, the newest first: of those that were had with these entries, and then of
-- the one that was refused.
abbrev pub AreTries : ℕ → List Entry → Option Refusal → List Try → List Try → Type 0
AreTries first [] None tries others = tries ≡ others
AreTries first [] (Some refusal.Busy) tries others = (word : ℕ) × IsBusyIn word first × (tries ≡ try first word answer.Busy ∷ others)
AreTries first [] (Some refusal.Bad) tries others = (word : ℕ) × IsFreeIn word first Bad × (tries ≡ try first word answer.Bad ∷ others)
AreTries first (entry ∷ had) refused tries others = (word : ℕ) × IsFreeIn word first entry × AreTries (first + 1) had refused tries (try first word (answer.Claimed entry) ∷ others)

-- whether some block has an entry other than settled at 0
abbrev pub some_used : List Entry → Bool
some_used had = list_any (λ entry. used entry == 1) had

-- a corrupt block of the store, with the entry that it had
abbrev pub IsCorruptAt : StoreId → ℕ → Entry → Finding → Type 0
IsCorruptAt store block had (Corrupt at entry sector part) = (at.0 ≡ block) × (entry ≡ had) × (entry ≢ Bad) × (sector < sectors_of store.geometry)
IsCorruptAt store block had _ = ⊥

-- Corrupt blocks among those from the first on, which have these entries, in rising order.
abbrev pub AreCorrupt : StoreId → ℕ → List Entry → List Finding → Type 0
AreCorrupt store first entries [] = ⊤
AreCorrupt store first entries (finding ∷ findings) =
    (k : ℕ)
    × (k < length entries)
    × IsCorruptAt store (first + k) (entry_at entries k) finding
    × AreCorrupt store (first + k + 1) (drop (k + 1) entries) findings

abbrev pub block_of : Finding → ℕ
block_of (Corrupt block entry sector part) = block.0
block_of (ReadFault block) = block.0
block_of (WriteFault block) = block.0
block_of _ = 0

-- The blocks made bad, the newest first, are the first so many of the corrupt ones.
abbrev pub AreSpoilt : List Finding → ℕ → List ℕ → Type 0
AreSpoilt corrupt many spoilt = (many ≤ length corrupt) × (spoilt ≡ reverse (map block_of (take many corrupt)))

-- What a turn does with blocks that it had with these entries.
pub record FollowsRules (rules : Rules) (had : List Entry) (done : Done) : Type 0 where
  -- a read turn reads them, and writes nothing
  pub read : done.read ≡ true → (good done.first + fault done.first ≡ 1) × (done.put ≡ put.Skipped) × (done.again ≡ look.Skipped)
  -- a write turn reads them first where one of them was written before, unless the plan says otherwise
  pub preread : done.read ≡ false → good done.first + fault done.first ≡ cond rules.preread (cond (some_used had) 1 0) 0
  -- it writes nothing after a fault or a corrupt block, and else writes
  pub stops : 0 < fault done.first + corrupt_in done.first → done.put ≡ put.Skipped
  pub writes : done.read ≡ false → fault done.first + corrupt_in done.first ≡ 0 → done.put ≢ put.Skipped
  -- what was written is read again where the plan says so, unless the book refused the end
  pub reread : good done.again + fault done.again + cond rules.reread (unended_put done.put) 0 ≡ cond rules.reread (ended_put done.put) 0
  -- only one of both reads reports
  pub few : corrupt_in done.first + corrupt_in done.again ≤ done.many

-- the entries with which the blocks were judged that the turn reported: those that it had, or, after a write, those behind it
abbrev pub judged_as : List Entry → Done → List Entry
judged_as had done = cond (corrupt_in done.again == 0) had (map ended (map begun had))

-- how often the book was used up to there: it is used to begin, to confirm and to end a write
abbrev pub IsUsesOf : Put → ℕ → Type 0
IsUsesOf put.Skipped uses = uses ≡ 0
IsUsesOf put.Refused uses = (uses ≡ 1) ⊎ (uses ≡ 2)
IsUsesOf put.Fault uses = uses ≡ 2
IsUsesOf (put.Unended appended) uses = uses ≡ 3
IsUsesOf put.Ended uses = uses ≡ 3

-- The newest book that was given back isn't stopped where no fault was answered; else it is shut and agrees with the fault.
abbrev pub AgreesWith : Option BookFault → List BookSeen → Type 0
AgreesWith None [] = ⊤
AgreesWith None (book ∷ books) = book.stopped ≡ None
AgreesWith (Some fault) [] = ⊥
AgreesWith (Some fault) (book ∷ books) = (book.shut ≡ true) × HasFault book fault

-- A turn that had all its blocks.
pub record HadAll (rules : Rules) (store : StoreId) (did : Did) : Type 0 where
  pub all : length did.had ≡ did.turn.many
  pub many : did.done.many ≡ did.turn.many
  pub reads : did.done.read ≡ did.turn.read
  pub follows : FollowsRules rules did.had did.done
  pub corrupt : AreCorrupt store did.turn.block.0 (judged_as did.had did.done) did.corrupt
  pub as_many : length did.corrupt ≡ corrupt_of did.done
  -- each corrupt block is reported and made bad, up to the first whose record the book refuses
  pub spoilt : (bad : ℕ) × AreSpoilt did.corrupt bad did.spoilt × (length did.corrupt ≤ bad + 1) × (did.fault ≡ None → bad ≡ length did.corrupt)
  -- the book is used for the write, and once for each block that is to be bad
  pub uses : (uses : ℕ) × IsUsesOf did.done.put uses × (length did.gave ≡ uses + length did.corrupt)
  pub agrees : AgreesWith did.fault did.gave
  pub refused : is_refused did.done.put ≡ true → IsSome did.fault
  -- a fault is answered only where the write or a record of a corrupt block was refused
  pub cause : IsSome did.fault → (is_refused did.done.put ≡ true) ⊎ (0 < length did.corrupt)

-- One that had not: it reported nothing, made nothing bad and didn't use the book.
pub record WasRefused (did : Did) : Type 0 where
  pub fewer : length did.had < did.turn.many
  pub nothing : did.corrupt ≡ []
  pub none_bad : did.spoilt ≡ []
  pub no_use : did.gave ≡ []
  pub no_fault : did.fault ≡ None

-- a turn over 1 to 64 blocks of the store
pub record IsTurnOf (store : StoreId) (turn : Turn) : Type 0 where
  pub some : 1 ≤ turn.many
  pub few : turn.many ≤ 64
  pub inside : turn.block.0 + turn.many ≤ store.geometry.blocks

-- the rules of one turn
pub record IsTurn (rules : Rules) (store : StoreId) (did : Did) : Type 0 where
  pub inside : IsTurnOf store did.turn
  pub claims : AreTries did.turn.block.0 did.had did.refusal did.mine []
  pub can_be : Each CanBeHad did.had
  pub had : did.refusal ≡ None → HadAll rules store did
  pub away : IsSome did.refusal → WasRefused did

-- a number and a list that count only where nothing was refused
abbrev pub where_none : Option Refusal → ℕ → ℕ
where_none None n = n
where_none (Some refused) n = 0

abbrev pub found_where_none : Option Refusal → List Finding → List Finding
found_where_none None found = found
found_where_none (Some refused) found = []

-- a number that counts for a turn that had its blocks
abbrev pub where_had : (Done → ℕ) → Did → ℕ
where_had count did = where_none did.refusal (count did.done)

-- the failed call of the device
abbrev pub fault_found : ℕ → Done → List Finding
fault_found block done =
    cond (fault done.first + fault done.again == 0)
    (cond (fault_put done.put == 0) [] (WriteFault (record { 0 = block }) ∷ []))
    (ReadFault (record { 0 = block }) ∷ [])

-- its findings, in the order in which they were made
abbrev pub found_of : Did → List Finding
found_of did = found_where_none did.refusal (fault_found did.turn.block.0 did.done ++ did.corrupt)

-- the blocks whose write it ended, the newest first
abbrev pub wrote_of : Did → List ℕ
wrote_of did = cond (where_had (λ done. ended_put done.put) did == 0) [] (falling did.turn.block.0 did.turn.many)

-- how often it looked at the clock
abbrev pub looks_of : Did → ℕ
looks_of did = where_had (λ done. cond (has_called done) 2 0) did

-- Where it called its device, both readings of the clock round its calls gave this time.
abbrev pub TimedAt : ℕ → Done → Type 0
TimedAt time done = has_called done ≡ true → (done.timed.before ≡ time) × (done.timed.after ≡ time)

-- what was done, whenever it was
abbrev pub done_of : ℕ → Bool → Look → Put → Look → Done
done_of many read first how again = record { many = many; read = read; first = first; put = how; again = again; timed = record { before = 0; after = 0 } }

-- the first of two faults
abbrev pub first_fault : Option BookFault → Option BookFault → Option BookFault
first_fault (Some fault) other = Some fault
first_fault None other = other

-- The turn had all its blocks, with these entries, and did this with them.
pub record IsDidOf (did : Did) (drawn : Turn) (entries : List Entry) (made : Done) (answered : Option BookFault) : Type 0 where
  pub turn : did.turn ≡ drawn
  pub had : did.had ≡ entries
  pub refusal : did.refusal ≡ None
  pub done : did.done ≡ made
  pub fault : did.fault ≡ answered
