-- A seat that holds one run of blocks, and what an operation on these changes in its view.
use Rattle.std.specs.Prelude.{◌≡◌, ℕ, zero, suc, ◌+◌, ◌≤◌, true, cond, List, [], ◌∷◌, ◌++◌, length, None, Some, IsSome, IsTrue}
use Rattle.key_state.specs.Entries.{IsEntry}
use Rattle.key_state.specs.declared.entry.Entry.{Entry}
use Rattle.key_state.specs.declared.fault.BookFault.{BookFault}
use Rattle.key_state.specs.declared.fault.BookFault.TheVariants.{Failed, Stopped, EpochEnd}
use Rattle.key_state.specs.declared.seen.BookSeen.{BookSeen}
use Rattle.claim_table.specs.Sums.{Each}
use Rattle.claim_table.specs.Books.{Lends}
use Rattle.claim_table.specs.Views.{blocks_of}
use Rattle.claim_table.specs.Runs.{AreNewest}
use Rattle.claim_table.specs.declared.view.View.{View}

-- The seat holds just the blocks from the first on, which have these entries in the book, and doesn't have the book.
pub record HoldsRun (view : View) (first : ℕ) (entries : List Entry) : Type 0 where
  pub held : AreNewest first entries view.held []
  pub loan : view.loan ≡ None
  pub within : first + length entries ≤ blocks_of view.made
  pub valid : Each IsEntry entries

-- these many blocks from the first on, the last one first
abbrev pub falling : ℕ → ℕ → List ℕ
falling first zero = []
falling first (suc many) = (first + many) ∷ falling first many

-- By one use of the book the seat ended the writes of these blocks and made those others bad. It gave back one book more. Nothing else
-- that it knows differs, but the blocks that it holds.
pub record UsedBook (before after : View) (ended bad : List ℕ) : Type 0 where
  pub mine : after.mine ≡ before.mine
  pub wrote : after.wrote ≡ ended ++ before.wrote
  pub cleared : after.cleared ≡ before.cleared
  pub spoilt : after.spoilt ≡ bad ++ before.spoilt
  pub gave : (book : BookSeen) × (after.gave ≡ book ∷ before.gave) × (after.shut ≡ cond before.shut true book.shut)
  pub parts : after.parts ≡ before.parts
  pub made : after.made ≡ before.made

-- The book's state agrees with this fault.
abbrev pub HasFault : BookSeen → BookFault → Type 0
HasFault book Failed = IsSome book.stopped
HasFault book (Stopped records) = book.stopped ≡ Some records
HasFault book (EpochEnd epoch) = (book.stopped ≡ None) × (epoch ≡ book.epoch)

-- The book that the seat gave back last is shut, and its state agrees with this fault.
abbrev pub GaveShut : View → BookFault → Type 0
GaveShut view fault = (book : BookSeen) × (others : List BookSeen) × (view.gave ≡ book ∷ others) × (book.shut ≡ true) × HasFault book fault

-- A stop can't take back the pending entry of any block that it holds.
abbrev pub AreSafeItems : View → Type 0
AreSafeItems view = Each (λ i. IsTrue i.safe) view.held

-- One use of the book by a seat: it was lent as the first and given back as the second, of which this holds.
abbrev pub UsedAs : (BookSeen → BookSeen → Type 0) → View → View → Type 0
UsedAs Holds before after = (lent : BookSeen) × (given : BookSeen) × Lends before lent × (after.gave ≡ given ∷ before.gave) × Holds lent given
