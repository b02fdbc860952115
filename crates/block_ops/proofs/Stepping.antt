-- What a step of a run's write leaves: passes that fit, and the run with the book's entries.
use Rattle.std.proofs.Common.{◌≡◌, ℕ, zero, suc, ◌+◌, ◌<◌, ◌≤◌, List, [], ◌∷◌, length, map, refl, sym, ap, subst, ◌∙◌, inl, inr, ◌⊎◌, arith, slice_set, Option, Some, None}
use Rattle.vd_base.specs.declared.geometry.BlockNo.{BlockNo}
use Rattle.vd_base.specs.declared.geometry.StoreId.{StoreId}
use Rattle.vd_arm.specs.Arm.{PassSeen}
use Rattle.key_state.specs.Entries.{IsLegalOn, entry_at, begun, ended, first_of, many_of}
use Rattle.key_state.specs.Books.{IsBook, Appended, Kept}
use Rattle.key_state.specs.declared.entry.Entry.{Entry}
use Rattle.key_state.specs.declared.entry.Entry.TheVariants.{Settled, Pending, Bad}
use Rattle.key_state.specs.declared.record.Record.{Record}
use Rattle.key_state.specs.declared.record.Record.TheVariants.{Bad as BadRecord}
use Rattle.key_state.specs.declared.seen.BookSeen.{BookSeen}
use Rattle.block_verdict.specs.Fits.{BytesFit}
use Rattle.claim_table.specs.Views.{now_at}
use Rattle.claim_table.specs.Passes.{ToldFits, IsPassFor}
use Rattle.claim_table.specs.Runs.{ArePassesFor}
use Rattle.claim_table.specs.declared.view.Made.{Made}
use Rattle.block_ops.specs.Runs.{AreNow, HasRun, IsLive}
use Rattle.block_ops.specs.Acts.{Acted, ended_among}
use Rattle.block_ops.proofs.Acting.{LeadsTo, acted_by, acted_kept, none_ended}

-- Bytes that fit the one entry fit the other.
abbrev pub Loosens : Entry → Entry → Type 0
Loosens from to = (store : StoreId) (block : ℕ) (bytes : List ℕ) → BytesFit store block from bytes → BytesFit store block to bytes

told_fits : (store : StoreId) (block : ℕ) (from to : Entry) (told : Option (List ℕ)) → Loosens from to → ToldFits store block from told → ToldFits store block to told
told_fits store block from to None looser fits = fits
told_fits store block from to (Some bytes) looser fits = looser store block bytes fits

loosened : (made : Made) (block : ℕ) (from to : Entry) (pass : PassSeen) → Loosens from to → IsPassFor made block from pass → IsPassFor made block to pass
loosened made block from to pass looser is = record {
  of = is.of;
  sized = is.sized;
  fits = λ fitted. told_fits made.store block from to pass.told looser (is.fits fitted);
}

-- So it is entry by entry.
abbrev pub AllLoosen : List Entry → List Entry → Type 0
AllLoosen [] [] = Unit {0}
AllLoosen [] (to ∷ tos) = ⊥
AllLoosen (from ∷ froms) [] = ⊥
AllLoosen (from ∷ froms) (to ∷ tos) = Loosens from to × AllLoosen froms tos

pub passes_fit : {P : Type 0} (pass_seen : P → PassSeen) (made : Made) (first : ℕ) (froms tos : List Entry) (passes : List P) → AllLoosen froms tos → ArePassesFor pass_seen made first froms passes → ArePassesFor pass_seen made first tos passes
passes_fit pass_seen made first [] [] passes looser fits = fits
passes_fit pass_seen made first [] (to ∷ tos) passes looser fits = absurd looser
passes_fit pass_seen made first (from ∷ froms) [] passes looser fits = absurd looser
passes_fit pass_seen made first (from ∷ froms) (to ∷ tos) [] looser fits = absurd fits
passes_fit pass_seen made first (from ∷ froms) (to ∷ tos) (pass ∷ passes) looser fits = (
  loosened made first from to (pass_seen pass) looser.0 fits.0,
  passes_fit pass_seen made (first + 1) froms tos passes looser.1 fits.1,
)

pub all_same : (xs : List Entry) → AllLoosen xs xs
all_same [] = tt
all_same (x ∷ xs) = ((λ store block bytes fits. fits), all_same xs)

pub all_begun : (xs : List Entry) → AllLoosen xs (map begun xs)
all_begun [] = tt
all_begun (Settled key ∷ xs) = ((λ store block bytes fits i low. inl (fits i low)), all_begun xs)
all_begun (Pending old new ∷ xs) = ((λ store block bytes fits. fits), all_begun xs)
all_begun (Bad ∷ xs) = ((λ store block bytes fits. fits), all_begun xs)

pub all_pending : (xs : List Entry) → AllLoosen (map ended xs) xs
all_pending [] = tt
all_pending (Settled key ∷ xs) = ((λ store block bytes fits. fits), all_pending xs)
all_pending (Pending old new ∷ xs) = ((λ store block bytes fits i low. inr (fits i low)), all_pending xs)
all_pending (Bad ∷ xs) = ((λ store block bytes fits. fits), all_pending xs)

pub all_spoilt : (xs : List Entry) (at : ℕ) → AllLoosen xs (slice_set xs at Bad)
all_spoilt [] at = tt
all_spoilt (x ∷ xs) zero = ((λ store block bytes fits i low. tt), all_same xs)
all_spoilt (x ∷ xs) (suc at) = ((λ store block bytes fits. fits), all_spoilt xs at)

-- A block that is made bad.
leads_none : (made : Record) (first : ℕ) (xs : List Entry) → first_of made + many_of made ≤ first → LeadsTo made first xs xs
leads_none made first [] past = tt
leads_none made first (x ∷ xs) past = (
  (λ named. absurd (omega (arith, named.1, past))),
  (λ apart. refl),
  leads_none made (first + 1) xs (omega (arith, past)),
)

leads_bad : (block : BlockNo) (first : ℕ) (xs : List Entry) (at : ℕ) → block.0 ≡ first + at → LeadsTo (BadRecord block) first xs (slice_set xs at Bad)
leads_bad block first [] at is = tt
leads_bad block first (x ∷ xs) zero is = (
  (λ named. refl),
  (λ apart. absurd (apart (omega (arith, is), omega (arith, is)))),
  leads_none (BadRecord block) (first + 1) xs (omega (arith, is)),
)
leads_bad block first (x ∷ xs) (suc at) is = (
  (λ named. absurd (omega (arith, named.0, is))),
  (λ apart. refl),
  leads_bad block (first + 1) xs at (omega (arith, is)),
)

none_ended_bad : (xs : List Entry) (at : ℕ) → ended_among xs (slice_set xs at Bad) ≡ 0
none_ended_bad [] at = refl
none_ended_bad (Settled key ∷ xs) zero = omega (arith, none_ended xs)
none_ended_bad (Pending old new ∷ xs) zero = omega (arith, none_ended xs)
none_ended_bad (Bad ∷ xs) zero = omega (arith, none_ended xs)
none_ended_bad (Settled key ∷ xs) (suc at) = omega (arith, none_ended_bad xs at)
none_ended_bad (Pending old new ∷ xs) (suc at) = omega (arith, none_ended_bad xs at)
none_ended_bad (Bad ∷ xs) (suc at) = omega (arith, none_ended_bad xs at)

pub acted_bad : (block : BlockNo) (first : ℕ) (was : List Entry) (at : ℕ) (g f : BookSeen) → block.0 ≡ first + at → at < length was → IsBook g → IsBook f → HasRun g first was → Appended (BadRecord block) g f → Acted first was (slice_set was at Bad) g f
acted_bad block first was at g f is inside book_g book_f has so =
    acted_by (BadRecord block) first was (slice_set was at Bad) g f book_g book_f has
    (leads_bad block first was at is) (λ other named. (omega (arith, named.0, is), omega (arith, named.1, is, inside))) (sym (none_ended_bad was at)) refl so

-- the entry of one block of a run
now_in_run : (book : BookSeen) (first : ℕ) (xs : List Entry) (at : ℕ) → at < length xs → AreNow book first xs → now_at book (first + at) ≡ entry_at xs at
now_in_run book first [] at inside h = absurd (omega (arith, inside))
now_in_run book first (x ∷ xs) zero inside h = ap (now_at book) (omega arith) ∙ h.0
now_in_run book first (x ∷ xs) (suc at) inside h = ap (now_at book) (omega arith) ∙ now_in_run book (first + 1) xs at (omega (arith, inside)) h.1

pub legal_bad : (block : BlockNo) (first : ℕ) (was : List Entry) (at : ℕ) (g : BookSeen) → block.0 ≡ first + at → at < length was → HasRun g first was → IsLive (entry_at was at) → IsLegalOn g.now (BadRecord block)
legal_bad block first was at g is inside has live = λ other named.
    let same : other ≡ first + at = omega (arith, named.0, named.1, is) in
    let here : now_at g other ≡ entry_at was at = ap (now_at g) same ∙ now_in_run g first was at inside has.each in
    (omega (arith, same, inside, has.within), (Bad, ((λ bad. live (sym here ∙ bad)), refl)))

-- The passes fit the entries that the book has after a call.
pub still_fit : {P : Type 0} (pass_seen : P → PassSeen) (made : Made) (first : ℕ) (was now after : List Entry) (passes left : List P)
    → after ≡ now → left ≡ passes → AllLoosen was now → ArePassesFor pass_seen made first was passes → ArePassesFor pass_seen made first after left
still_fit {P} pass_seen made first was now after passes left is same looser fits =
    let Fit : List Entry → List P → Type 0 = ArePassesFor pass_seen made first in
    subst (λ (entries : List Entry). Fit entries left) (sym is) (subst (λ (those : List P). Fit now those) (sym same) (passes_fit pass_seen made first was now passes looser fits))

-- What a run has where its entries are those of the book, after the block at one place was made bad, and after a call that may have done so.
module _ (first : BlockNo) (was items : List Entry) (at : ℕ) (g f : BookSeen) where
  pub made_bad : at < length was → IsBook g → IsBook f → HasRun g first.0 was → ((xs : List Entry) → length xs ≡ length was → AreNow f first.0 xs → items ≡ xs)
      → Appended (BadRecord (record { 0 = first.0 + at })) g f → (items ≡ slice_set was at Bad) × Acted first.0 was items g f
  made_bad inside book_g book_f has exact so =
      let Left : List Entry → Type 0 = λ xs. Acted first.0 was xs g f in
      let acted : Left (slice_set was at Bad) = acted_bad (record { 0 = first.0 + at }) first.0 was at g f refl inside book_g book_f has so in
      let now : items ≡ slice_set was at Bad = exact (slice_set was at Bad) acted.as_many acted.mine.each in
      (now, subst Left (sym now) acted)

  pub made_bad_or_kept : at < length was → IsBook g → IsBook f → HasRun g first.0 was → ((xs : List Entry) → length xs ≡ length was → AreNow f first.0 xs → items ≡ xs)
      → Appended (BadRecord (record { 0 = first.0 + at })) g f ⊎ Kept g f → ((items ≡ was) ⊎ (items ≡ slice_set was at Bad)) × Acted first.0 was items g f
  made_bad_or_kept inside book_g book_f has exact (inl so) = let bad = made_bad inside book_g book_f has exact so in (inr bad.0, bad.1)
  made_bad_or_kept inside book_g book_f has exact (inr kept) =
      let Left : List Entry → Type 0 = λ xs. Acted first.0 was xs g f in
      let acted : Left was = acted_kept first.0 was g f book_g book_f has kept in
      let now : items ≡ was = exact was refl acted.mine.each in
      (inl now, subst Left (sym now) acted)
