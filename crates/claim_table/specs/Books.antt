-- What a book that is lent to a seat has to do with the seat's view, and what it may have become when it comes back.
use Rattle.std.specs.Prelude.{◌≡◌, ◌⊎◌, ℕ, ◌+◌, ◌%◌, ◌^◌, ◌<◌, true, List, ◌∷◌, length}
use Rattle.key_state.specs.Entries.{IsPending}
use Rattle.key_state.specs.Books.{Follows}
use Rattle.key_state.specs.declared.entry.Entry.TheVariants.{Bad}
use Rattle.key_state.specs.declared.seen.BookSeen.{BookSeen}
use Rattle.claim_table.specs.Sums.{total, Each, Among}
use Rattle.claim_table.specs.Views.{at, bad_at, blocks_of, parts_in, now_at, synced_at, those, has_ended, has_cleared}
use Rattle.claim_table.specs.declared.view.Item.{Item}
use Rattle.claim_table.specs.declared.view.View.{View}

-- What a seat with this view knows of the book that it gets, which follows each that it, or a seat joined to it, gave back. One with all
-- parts gets the book that the table was made with, or one of those.
pub record Lends (view : View) (book : BookSeen) : Type 0 where
  pub owned : Each (λ i. now_at book i.block ≡ i.own) view.held
  pub safe : Each (λ i. i.safe ≡ true → IsPending i.own × (synced_at book i.block ≡ i.own)) view.held
  pub sized : length book.now ≡ blocks_of view.made
  pub follows : Follows view.made.book book
  pub after : Each (λ old. Follows old book) view.gave
  pub shut : view.shut ≡ true → book.shut ≡ true
  pub bad : (block : ℕ) → 0 < bad_at block view → now_at book block ≡ Bad
  pub alone : view.parts ≡ parts_in view.made → Among book (view.made.book ∷ view.gave)

-- A block's synced entry is as it was, or the one that the book has now.
abbrev pub SyncedAtOrNow : BookSeen → BookSeen → ℕ → Type 0
SyncedAtOrNow g f block = (synced_at f block ≡ synced_at g block) ⊎ (synced_at f block ≡ now_at f block)

-- A seat that holds these blocks may give back as f the book that was lent to it as g.
pub record MayGive (held : List Item) (g f : BookSeen) : Type 0 where
  pub follows : Follows g f
  pub others : (block : ℕ) → total (at block) held ≡ 0 → now_at f block ≡ now_at g block
  pub stays : (block : ℕ) → now_at g block ≡ Bad → now_at f block ≡ Bad
  pub synced : (block : ℕ) → total (at block) held ≡ 0 → SyncedAtOrNow g f block
  pub ends : f.ends ≡ (g.ends + length (those has_ended f held)) % 2 ^ 64
  pub clears : f.clears ≡ (g.clears + length (those has_cleared f held)) % 2 ^ 64
