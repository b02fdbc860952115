-- A run of blocks as contracts see it, and what a book has of its blocks.
use Rattle.std.specs.Prelude.{⊤, ◌≡◌, ◌≢◌, ℕ, ◌+◌, ◌<◌, ◌≤◌, Bool, true, false, List, [], ◌∷◌, length}
use Rattle.std.specs.List.{list_any}
use Rattle.vd_base.specs.Key.{next}
use Rattle.key_state.specs.Entries.{IsPending}
use Rattle.key_state.specs.declared.entry.Entry.{Entry}
use Rattle.key_state.specs.declared.entry.Entry.TheVariants.{Settled, Pending, Bad}
use Rattle.key_state.specs.declared.seen.BookSeen.{BookSeen}
use Rattle.claim_table.specs.Views.{now_at, synced_at}
use Rattle.claim_table.specs.declared.run.Run.{Run}

-- the number of its first block, and the entry and the pass of each
pub record HeldRun (P : Type 0) : Type 0 where
  pub first : ℕ
  pub entries : List Entry
  pub passes : List P

abbrev pub held_run : {P : Type 0} → Run P → HeldRun P
held_run run = record { first = run.first.0; entries = run.entries.items; passes = run.passes.items }

-- The block is one of these many from the first on.
abbrev pub IsIn : ℕ → ℕ → ℕ → Type 0
IsIn first many block = (first ≤ block) × (block < first + many)

-- In the book, the blocks from the first on have these entries.
abbrev pub AreNow : BookSeen → ℕ → List Entry → Type 0
AreNow book first [] = ⊤
AreNow book first (entry ∷ entries) = (now_at book first ≡ entry) × AreNow book (first + 1) entries

-- So they have, and all are blocks of the book.
pub record HasRun (book : BookSeen) (first : ℕ) (entries : List Entry) : Type 0 where
  pub within : first + length entries ≤ length book.now
  pub each : AreNow book first entries

-- The blocks from the first on have these pending entries, and no stop can take them back.
abbrev pub AreSafe : BookSeen → ℕ → List Entry → Type 0
AreSafe book first [] = ⊤
AreSafe book first (entry ∷ entries) = IsPending entry × (now_at book first ≡ entry) × (synced_at book first ≡ entry) × AreSafe book (first + 1) entries

-- the entry of a block that can be worked on
abbrev pub IsLive : Entry → Type 0
IsLive entry = entry ≢ Bad

-- the entry of a block whose write was begun
abbrev pub IsBegun : Entry → Type 0
IsBegun (Settled key) = ⊥
IsBegun (Pending old new) = new ≡ next old
IsBegun Bad = ⊥

abbrev pub is_settled : Entry → Bool
is_settled (Settled key) = true
is_settled (Pending old new) = false
is_settled Bad = false

-- whether some block is settled, so that a write of the run has something to begin
abbrev pub some_settled : List Entry → Bool
some_settled entries = list_any is_settled entries
