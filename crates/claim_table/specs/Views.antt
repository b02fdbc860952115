-- Words on what a seat knows, and how each step changes it.
use Rattle.std.specs.Prelude.{⊤, ◌≡◌, ℕ, ◌+◌, ◌-◌, ◌*◌, ◌/◌, ◌%◌, ◌^◌, ◌<◌, Bool, true, false, cond, ◌==◌, ◌&&◌, List, [], ◌∷◌, ◌++◌, map, Option, Some, None}
use Rattle.key_state.specs.Entries.{entry_at}
use Rattle.key_state.specs.Books.{used}
use Rattle.key_state.specs.declared.entry.Entry.{Entry}
use Rattle.key_state.specs.declared.entry.Entry.TheVariants.{Settled, Pending, Bad}
use Rattle.key_state.specs.declared.seen.BookSeen.{BookSeen}
use Rattle.claim_table.specs.Codes.{code_of}
use Rattle.claim_table.specs.Lanes.{lane}
use Rattle.claim_table.specs.Sums.{total, Each}
use Rattle.claim_table.specs.declared.view.Item.{Item}
use Rattle.claim_table.specs.declared.view.Answer.{Answer}
use Rattle.claim_table.specs.declared.view.Answer.TheVariants as answer
use Rattle.claim_table.specs.declared.view.Try.{Try}
use Rattle.claim_table.specs.declared.view.Made.{Made}
use Rattle.claim_table.specs.declared.view.View.{View}

-- how many blocks the store has
abbrev pub blocks_of : Made → ℕ
blocks_of made = made.store.geometry.blocks

-- all parts of the right to close the table
abbrev pub parts_in : Made → ℕ
parts_in made = made.seats * 2 ^ 32

-- a block's entry in a book, and the one that a stop can't take back
abbrev pub now_at : BookSeen → ℕ → Entry
now_at book block = entry_at book.now block

abbrev pub synced_at : BookSeen → ℕ → Entry
synced_at book block = entry_at book.synced block

abbrev pub item : ℕ → Entry → Entry → Bool → Item
item block was own safe = record { block = block; was = was; own = own; safe = safe }

abbrev pub try : ℕ → ℕ → Answer → Try
try block word answer = record { block = block; word = word; answer = answer }

-- the answer to a claim of a block that isn't busy
abbrev pub answer_of : Entry → Answer
answer_of Bad = answer.Bad
answer_of entry = answer.Claimed entry

abbrev pub is_busy : Answer → ℕ
is_busy answer.Busy = 1
is_busy _ = 0

abbrev pub is_bad : Answer → ℕ
is_bad answer.Bad = 1
is_bad _ = 0

-- how often a block stands in a list of items, and how often a view holds it
abbrev pub at : ℕ → Item → ℕ
at block i = cond (i.block == block) 1 0

abbrev pub holds : ℕ → View → ℕ
holds block view = total (at block) view.held

-- how often the view was answered that the block is busy, something else, or that it is bad
abbrev pub refused : ℕ → Try → ℕ
refused block t = cond (t.block == block) (is_busy t.answer) 0

abbrev pub answered : ℕ → Try → ℕ
answered block t = cond (t.block == block) (cond (is_busy t.answer == 0) 1 0) 0

abbrev pub found_bad : ℕ → Try → ℕ
found_bad block t = cond (t.block == block) (is_bad t.answer) 0

abbrev pub busy_at : ℕ → View → ℕ
busy_at block view = total (refused block) view.mine

abbrev pub other_at : ℕ → View → ℕ
other_at block view = total (answered block) view.mine

abbrev pub bad_at : ℕ → View → ℕ
bad_at block view = total (found_bad block) view.mine

-- one for a busy answer whose word has this code of an entry for the block, and for another answer with an entry of this code
abbrev pub busy_with : ℕ → ℕ → ℕ → Answer → ℕ
busy_with block code word answer.Busy = cond (lane word (block % 4) == code + 2 ^ 15) 1 0
busy_with block code word _ = 0

abbrev pub other_with : ℕ → Answer → ℕ
other_with code (answer.Claimed entry) = cond (code_of entry == code) 1 0
other_with code answer.Busy = 0
other_with code answer.Bad = cond (code_of Bad == code) 1 0

abbrev pub refused_as : ℕ → ℕ → Try → ℕ
refused_as block code t = cond (t.block == block) (busy_with block code t.word t.answer) 0

abbrev pub answered_as : ℕ → ℕ → Try → ℕ
answered_as block code t = cond (t.block == block) (other_with code t.answer) 0

-- how often the view met the block busy with an entry of this code, and how often it was answered that entry
abbrev pub busy_as : ℕ → ℕ → View → ℕ
busy_as block code view = total (refused_as block code) view.mine

abbrev pub other_as : ℕ → ℕ → View → ℕ
other_as block code view = total (answered_as block code) view.mine

abbrev pub parts : View → ℕ
parts view = view.parts

-- one for an entry that is bad
abbrev pub bad : Entry → ℕ
bad Bad = 1
bad _ = 0

abbrev pub lent : Option BookSeen → ℕ
lent None = 0
lent (Some book) = 1

abbrev pub has_loan : View → ℕ
has_loan view = lent view.loan

-- all books that seats with these views gave back
abbrev pub gave_by : List View → List BookSeen
gave_by [] = []
gave_by (view ∷ views) = view.gave ++ gave_by views

-- Where the seat has the book, it has this entry of the block.
abbrev pub LentAs : View → ℕ → Entry → Type 0
LentAs view block entry = (book : BookSeen) → view.loan ≡ Some book → now_at book block ≡ entry

-- Each block is above those claimed before it.
abbrev pub IsFalling : List Item → Type 0
IsFalling [] = ⊤
IsFalling (i ∷ held) = Each (λ j. j.block < i.block) held × IsFalling held

-- a seat that has so many parts and nothing else
abbrev pub fresh : Made → ℕ → View
fresh made many = record {
  held = [];
  loan = None;
  mine = [];
  wrote = [];
  cleared = [];
  spoilt = [];
  gave = [];
  shut = false;
  parts = many;
  spent = false;
  hand = 0;
  made = made;
}

abbrev pub start : Made → View
start made = fresh made (parts_in made)

-- the view after a claim that was had or met a bad block in this word, and after one that met a busy one
abbrev pub claimed : View → ℕ → ℕ → Entry → View
claimed view block word entry = record view { held = item block entry entry false ∷ view.held; mine = try block word (answer_of entry) ∷ view.mine }

abbrev pub turned_away : View → ℕ → ℕ → View
turned_away view block word = record view { mine = try block word answer.Busy ∷ view.mine }

-- after a release, with these blocks left
abbrev pub released : View → List Item → View
released view left = record view { held = left }

abbrev pub met_bad : View → ℕ → ℕ → View
met_bad view block word = released (claimed view block word Bad) view.held

abbrev pub with_hand : View → ℕ → View
with_hand view hand = record view { hand = hand }

abbrev pub with_loan : View → BookSeen → View
with_loan view book = record view { loan = Some book }

-- A pending entry that is synced.
abbrev pub is_safe : Entry → Entry → Bool
is_safe (Pending old new) (Pending synced_old synced_new) = (old == synced_old) && (new == synced_new)
is_safe _ _ = false

-- what a loan made of a block's entry: its write was ended, it was cleared, it was made bad
abbrev pub has_ended : Entry → Entry → Bool
has_ended (Pending old new) (Settled key) = key == new
has_ended _ _ = false

abbrev pub has_cleared : Entry → Entry → Bool
has_cleared before (Settled key) = (used before == 1) && (key == 0)
has_cleared _ _ = false

abbrev pub has_spoilt : Entry → Entry → Bool
has_spoilt Bad _ = false
has_spoilt _ Bad = true
has_spoilt _ _ = false

-- the held blocks whose entry passes a test of what it was and what the book brings
abbrev pub those : (Entry → Entry → Bool) → BookSeen → List Item → List ℕ
those test book [] = []
those test book (i ∷ held) = cond (test i.own (now_at book i.block)) (i.block ∷ those test book held) (those test book held)

abbrev pub brought : BookSeen → Item → Item
brought book i = item i.block i.was (now_at book i.block) (is_safe (now_at book i.block) (synced_at book i.block))

-- after the book was given back
abbrev pub given : View → BookSeen → View
given view book = record view {
  held = map (brought book) view.held;
  loan = None;
  wrote = those has_ended book view.held ++ view.wrote;
  cleared = those has_cleared book view.held ++ view.cleared;
  spoilt = those has_spoilt book view.held ++ view.spoilt;
  gave = book ∷ view.gave;
  shut = cond view.shut true book.shut;
  hand = 0;
}

-- some parts go to a new seat
abbrev pub less : View → ℕ → View
less view many = record view { parts = view.parts - many }

abbrev pub halved : View → View
halved view = less view (view.parts / 2)

abbrev pub other_half : View → View
other_half view = fresh view.made (view.parts / 2)

abbrev pub without_seat : View → View
without_seat view = less view (2 ^ 32)

abbrev pub one_seat : View → View
one_seat view = fresh view.made (2 ^ 32)

-- two seats in one
abbrev pub joined : View → View → View
joined view other = record view {
  mine = other.mine ++ view.mine;
  wrote = other.wrote ++ view.wrote;
  cleared = other.cleared ++ view.cleared;
  spoilt = other.spoilt ++ view.spoilt;
  gave = other.gave ++ view.gave;
  shut = cond view.shut true other.shut;
  parts = view.parts + other.parts;
}

abbrev pub nothing_made : Made
nothing_made = record {
  store = record { name = []; geometry = record { blocks = 0; block_size = 0 } };
  seats = 0;
  book = record {
    origin = record { began = []; opened = []; told = None; faults = 0; id = None; log_sectors = 0; epoch = 0; entries = []; turned_over = false };
    epoch = 0;
    faults = 0;
    stopped = None;
    shut = false;
    now = [];
    synced = [];
    ends = 0;
    clears = 0;
  };
  told = [];
}

-- what is left of a seat that was joined to another
abbrev pub done : View
done = record (fresh nothing_made 0) { spent = true }
