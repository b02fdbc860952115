-- What a book has of the blocks of a run.
use Rattle.std.proofs.Common.{◌≡◌, ℕ, ◌+◌, ◌<◌, ◌≤◌, true, false, List, [], ◌∷◌, ◌++◌, length, map, refl, sym, ap, subst, ◌∙◌, inl, inr, arith}
use Rattle.std.proofs.lemmas.Bool.{cases_eq}
use Rattle.key_state.specs.Entries.{IsEntry, entry_at, begun, ended}
use Rattle.key_state.specs.Books.{IsBook}
use Rattle.key_state.specs.declared.entry.Entry.{Entry}
use Rattle.key_state.specs.declared.entry.Entry.TheVariants.{Settled, Pending, Bad}
use Rattle.key_state.specs.declared.seen.BookSeen.{BookSeen}
use Rattle.claim_table.specs.Sums.{Each}
use Rattle.claim_table.specs.Views.{now_at}
use Rattle.block_ops.specs.Runs.{AreNow, AreSafe, HasRun, IsLive, IsBegun, some_settled}

-- what holds of each entry holds of each block's entry in the book
pub now_of : (P : Entry → Type 0) (book : BookSeen) (first : ℕ) (entries : List Entry) → AreNow book first entries → Each P entries → (block : ℕ) → first ≤ block → block < first + length entries → P (now_at book block)
now_of P book first [] h p block low high = absurd (omega (arith, low, high))
now_of P book first (e ∷ es) h p block low high = elim (cases_eq block first) [
  | inl same ↦ subst P (sym (ap (now_at book) same ∙ h.0)) p.0
  | inr other ↦ now_of P book (first + 1) es h.1 p.1 block (omega (arith, low, other)) (omega (arith, high))
]

valid_from : (book : BookSeen) → IsBook book → (first : ℕ) (entries : List Entry) → first + length entries ≤ length book.now → AreNow book first entries → Each IsEntry entries
valid_from book is first [] within h = tt
valid_from book is first (e ∷ es) within h = (subst IsEntry h.0 (is.valid first (omega (arith, within))), valid_from book is (first + 1) es (omega (arith, within)) h.1)

pub are_valid : (book : BookSeen) (first : ℕ) (entries : List Entry) → IsBook book → HasRun book first entries → Each IsEntry entries
are_valid book first entries is has = valid_from book is first entries has.within has.each

-- A book has one list of entries for these many blocks.
pub one_now : (book : BookSeen) (first : ℕ) (xs ys : List Entry) → length xs ≡ length ys → AreNow book first xs → AreNow book first ys → xs ≡ ys
one_now book first [] [] many h k = refl
one_now book first [] (y ∷ ys) many h k = absurd (omega (arith, many))
one_now book first (x ∷ xs) [] many h k = absurd (omega (arith, many))
one_now book first (x ∷ xs) (y ∷ ys) many h k =
    let rest : xs ≡ ys = one_now book (first + 1) xs ys (omega (arith, many)) h.1 k.1 in
    ap (λ (z : Entry). z ∷ xs) (sym h.0 ∙ k.0) ∙ ap (λ (zs : List Entry). y ∷ zs) rest

-- one more block behind the last
pub now_more : (book : BookSeen) (first : ℕ) (xs : List Entry) (e : Entry) → AreNow book first xs → now_at book (first + length xs) ≡ e → AreNow book first (xs ++ e ∷ [])
now_more book first [] e h is = (ap (now_at book) (omega arith) ∙ is, tt)
now_more book first (x ∷ xs) e h is = (h.0, now_more book (first + 1) xs e h.1 (ap (now_at book) (omega arith) ∙ is))

-- in a book that has the same entries now
pub now_in : (one other : BookSeen) (first : ℕ) (xs : List Entry) → other.now ≡ one.now → AreNow one first xs → AreNow other first xs
now_in one other first [] same h = tt
now_in one other first (x ∷ xs) same h = (ap (λ (es : List Entry). entry_at es first) same ∙ h.0, now_in one other (first + 1) xs same h.1)

pub still_has : (one other : BookSeen) (first : ℕ) (xs : List Entry) → other.now ≡ one.now → HasRun one first xs → HasRun other first xs
still_has one other first xs same has = record {
  within = omega (arith, has.within, ap (λ (es : List Entry). length es) same);
  each = now_in one other first xs same has.each;
}

-- Where all is synced, a run whose writes were begun is safe.
pub all_safe : (book : BookSeen) (first : ℕ) (xs : List Entry) → book.synced ≡ book.now → AreNow book first xs → Each IsBegun xs → AreSafe book first xs
all_safe book first [] synced h b = tt
all_safe book first (Settled key ∷ xs) synced h b = absurd b.0
all_safe book first (Pending old new ∷ xs) synced h b =
    ((old, new, refl), h.0, ap (λ (es : List Entry). entry_at es first) synced ∙ h.0, all_safe book (first + 1) xs synced h.1 b.1)
all_safe book first (Bad ∷ xs) synced h b = absurd b.0

-- A live entry, after its write began.
pub begun_each : (xs : List Entry) → Each IsLive xs → Each IsEntry xs → Each IsBegun (map begun xs)
begun_each [] live valid = tt
begun_each (Settled key ∷ xs) live valid = (refl, begun_each xs live.1 valid.1)
begun_each (Pending old new ∷ xs) live valid = (valid.0, begun_each xs live.1 valid.1)
begun_each (Bad ∷ xs) live valid = absurd (live.0 refl)

-- Where none is settled, the write of each was begun before.
pub begun_before : (xs : List Entry) → some_settled xs ≡ false → Each IsLive xs → map begun xs ≡ xs
begun_before [] none live = refl
begun_before (Settled key ∷ xs) none live = absurd (let no : true ≡ false = none in cc)
begun_before (Pending old new ∷ xs) none live = ap (λ (zs : List Entry). Pending old new ∷ zs) (begun_before xs none live.1)
begun_before (Bad ∷ xs) none live = absurd (live.0 refl)

pub length_begun : (xs : List Entry) → length (map begun xs) ≡ length xs
length_begun [] = refl
length_begun (x ∷ xs) = omega (arith, length_begun xs)

pub length_ended : (xs : List Entry) → length (map ended xs) ≡ length xs
length_ended [] = refl
length_ended (x ∷ xs) = omega (arith, length_ended xs)

pub begun_already : (xs : List Entry) → some_settled xs ≡ false → Each IsLive xs → Each IsEntry xs → Each IsBegun xs
begun_already [] none live valid = tt
begun_already (Settled key ∷ xs) none live valid = absurd (let no : true ≡ false = none in cc)
begun_already (Pending old new ∷ xs) none live valid = (valid.0, begun_already xs none live.1 valid.1)
begun_already (Bad ∷ xs) none live valid = absurd (live.0 refl)
