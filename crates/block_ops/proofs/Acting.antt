-- Records, and what they do to a run of blocks and to the book.
use Rattle.std.proofs.Common.{◌≡◌, ℕ, ◌+◌, ◌%◌, ◌^◌, ◌≤◌, Bool, cond, true, eqb, List, [], ◌∷◌, length, map, refl, sym, ap, ◌∙◌, inl, inr, ◌⊎◌, arith}
use Rattle.std.proofs.lemmas.Bool.{cases_lt}
use Rattle.vd_base.specs.Key.{next}
use Rattle.vd_base.specs.declared.geometry.BlockNo.{BlockNo}
use Rattle.key_state.specs.Entries.{Names, IsLegalAt, IsLegalOn, leaves, entry_at, begun, ended, ends_of, first_of, many_of}
use Rattle.key_state.specs.Books.{IsBook, Steps, Appended, Kept, clears_of, follows_same}
use Rattle.key_state.specs.declared.entry.Entry.{Entry}
use Rattle.key_state.specs.declared.entry.Entry.TheVariants.{Settled, Pending, Bad}
use Rattle.key_state.specs.declared.record.Record.{Record}
use Rattle.key_state.specs.declared.record.Record.TheVariants.{BeginRun, EndRun}
use Rattle.key_state.specs.declared.seen.BookSeen.{BookSeen}
use Rattle.claim_table.specs.Sums.{Each}
use Rattle.claim_table.specs.Views.{now_at, has_ended}
use Rattle.block_ops.specs.Runs.{AreNow, HasRun, IsIn, IsLive, IsBegun}
use Rattle.block_ops.specs.Acts.{Acted, ended_among}
use Rattle.block_ops.proofs.RunParts.{now_of, are_valid, still_has}

-- A record takes the entries of a run to others, block by block.
abbrev pub LeadsTo : Record → ℕ → List Entry → List Entry → Type 0
LeadsTo made first [] [] = Unit {0}
LeadsTo made first [] (after ∷ now) = ⊥
LeadsTo made first (before ∷ was) [] = ⊥
LeadsTo made first (before ∷ was) (after ∷ now) =
    (Names made first → after ≡ leaves made before)
    × ((Names made first → ⊥) → after ≡ before)
    × LeadsTo made (first + 1) was now

-- It names no block that isn't of the run.
abbrev pub NamesOf : Record → ℕ → ℕ → Type 0
NamesOf made first many = (block : ℕ) → Names made block → IsIn first many block

names_or : (made : Record) (block : ℕ) → Names made block ⊎ (Names made block → ⊥)
names_or made block = elim (cases_lt block (first_of made)) [
  | inl low ↦ inr (λ n. absurd (omega (arith, low, n.0)))
  | inr high ↦ elim (cases_lt block (first_of made + many_of made)) [
    | inl inside ↦ inl (high, inside)
    | inr out ↦ inr (λ n. absurd (omega (arith, out, n.1)))
  ]
]

leads_many : (made : Record) (first : ℕ) (was now : List Entry) → LeadsTo made first was now → length now ≡ length was
leads_many made first [] [] l = refl
leads_many made first [] (d ∷ now) l = absurd l
leads_many made first (e ∷ was) [] l = absurd l
leads_many made first (e ∷ was) (d ∷ now) l = omega (arith, leads_many made (first + 1) was now l.2)

now_after : (made : Record) (g f : BookSeen) → Steps made g.now f.now → (first : ℕ) (was now : List Entry) → AreNow g first was → LeadsTo made first was now → AreNow f first now
now_after made g f so first [] [] h l = tt
now_after made g f so first [] (d ∷ now) h l = absurd l
now_after made g f so first (e ∷ was) [] h l = absurd l
now_after made g f so first (e ∷ was) (d ∷ now) h l =
    let here : now_at f first ≡ d = elim (names_or made first) [
      | inl named ↦ so.named first named ∙ ap (leaves made) h.0 ∙ sym (l.0 named)
      | inr apart ↦ so.others first apart ∙ h.0 ∙ sym (l.1 apart)
    ] in
    (here, now_after made g f so (first + 1) was now h.1 l.2)

-- a record that was appended
pub acted_by : (made : Record) (first : ℕ) (was now : List Entry) (g f : BookSeen) → IsBook g → IsBook f → HasRun g first was → LeadsTo made first was now → NamesOf made first (length was) → ends_of made ≡ ended_among was now → clears_of g.now made ≡ 0 → Appended made g f → Acted first was now g f
acted_by made first was now g f book_g book_f has leads names ends none so =
    let many : length now ≡ length was = leads_many made first was now leads in
    let mine : HasRun f first now = record {
      within = omega (arith, has.within, many, so.steps.sized);
      each = now_after made g f so.steps first was now has.each leads;
    } in
    record {
      follows = so.follows;
      as_many = many;
      mine = mine;
      valid = are_valid f first now book_f mine;
      others = λ block out. so.steps.others block (λ n. out (names block n));
      synced = so.synced;
      ends = so.ends ∙ ap (λ (n : ℕ). (g.ends + n) % 2 ^ 64) ends;
      clears = omega (arith, so.clears, none, book_g.clears_range);
    }

-- no block was ended whose entry is as it was
pub none_ended : (was : List Entry) → ended_among was was ≡ 0
none_ended [] = refl
none_ended (Settled key ∷ was) = omega (arith, none_ended was)
none_ended (Pending old new ∷ was) = omega (arith, none_ended was)
none_ended (Bad ∷ was) = omega (arith, none_ended was)

-- no record was appended
pub acted_kept : (first : ℕ) (was : List Entry) (g f : BookSeen) → IsBook g → IsBook f → HasRun g first was → Kept g f → Acted first was was g f
acted_kept first was g f book_g book_f has so =
    let mine : HasRun f first was = still_has g f first was so.now has in
    record {
      follows = so.follows;
      as_many = refl;
      mine = mine;
      valid = are_valid f first was book_f mine;
      others = λ block out. ap (λ (es : List Entry). entry_at es block) so.now;
      synced = so.synced;
      ends = omega (arith, so.ends, none_ended was, book_g.ends_range);
      clears = so.clears;
    }

kept_same : (g : BookSeen) → Kept g g
kept_same g = record { follows = follows_same g; now = refl; synced = inl refl; ends = refl; clears = refl }

-- nothing happened
pub acted_none : (first : ℕ) (was : List Entry) (g : BookSeen) → IsBook g → HasRun g first was → Acted first was was g g
acted_none first was g book has = acted_kept first was g g book book has (kept_same g)

-- A beginning: what it leaves, what it counts, and where it is legal.
none_ended_begun : (was : List Entry) → ended_among was (map begun was) ≡ 0
none_ended_begun [] = refl
none_ended_begun (Settled key ∷ was) = omega (arith, none_ended_begun was)
none_ended_begun (Pending old new ∷ was) = omega (arith, none_ended_begun was)
none_ended_begun (Bad ∷ was) = omega (arith, none_ended_begun was)

leads_run : (made : Record) (leaving : Entry → Entry) → ((e : Entry) → leaves made e ≡ leaving e) → (first : ℕ) (was : List Entry) → first_of made ≤ first → first + length was ≤ first_of made + many_of made → LeadsTo made first was (map leaving was)
leads_run made leaving same first [] low high = tt
leads_run made leaving same first (e ∷ was) low high = (
  (λ n. sym (same e)),
  (λ no. absurd (no (low, omega (arith, high)))),
  leads_run made leaving same (first + 1) was (omega (arith, low)) (omega (arith, high)),
)

pub acted_begin_run : (first : BlockNo) (many : ℕ) (was : List Entry) (g f : BookSeen) → many ≡ length was → IsBook g → IsBook f → HasRun g first.0 was → Appended (BeginRun first many) g f → Acted first.0 was (map begun was) g f
acted_begin_run first many was g f is book_g book_f has so =
    acted_by (BeginRun first many) first.0 was (map begun was) g f book_g book_f has
    (leads_run (BeginRun first many) begun (λ e. refl) first.0 was (omega arith) (omega (arith, is))) (λ block n. (n.0, omega (arith, n.1, is))) (sym (none_ended_begun was)) refl so

begins_at : (first : BlockNo) (many : ℕ) (xs : List Entry) → Each IsLive xs → Each (λ e. IsLegalAt e (BeginRun first many)) xs
begins_at first many [] live = tt
begins_at first many (Settled key ∷ xs) live = ((Pending key (next key), inl (key, refl, refl)), begins_at first many xs live.1)
begins_at first many (Pending old new ∷ xs) live = ((Pending old new, inr ((old, new, refl), refl)), begins_at first many xs live.1)
begins_at first many (Bad ∷ xs) live = absurd (live.0 refl)

-- a record of these blocks is legal where it is at each of their entries
legal_at : (made : Record) (first : ℕ) (was : List Entry) (g : BookSeen) → NamesOf made first (length was) → HasRun g first was → Each (λ e. IsLegalAt e made) was → IsLegalOn g.now made
legal_at made first was g names has legal =
    λ block n. let inside = names block n in
    (omega (arith, has.within, inside.1), now_of (λ e. IsLegalAt e made) g first was has.each legal block inside.0 inside.1)

pub legal_begin_run : (first : BlockNo) (many : ℕ) (was : List Entry) (g : BookSeen) → many ≡ length was → HasRun g first.0 was → Each IsLive was → IsLegalOn g.now (BeginRun first many)
legal_begin_run first many was g is has live = legal_at (BeginRun first many) first.0 was g (λ block n. (n.0, omega (arith, n.1, is))) has (begins_at first many was live)

-- An end.
eqb_same : (n : ℕ) → eqb n n ≡ true
eqb_same n = grind arith

abbrev one_where : Bool → ℕ
one_where test = cond test 1 0

all_ended : (was : List Entry) → Each IsBegun was → length was ≡ ended_among was (map ended was)
all_ended [] b = refl
all_ended (Settled key ∷ was) b = absurd b.0
all_ended (Pending old new ∷ was) b =
    let here : one_where (has_ended (Pending old new) (Settled new)) ≡ one_where true = ap one_where (eqb_same new) in
    omega (arith, here, all_ended was b.1)
all_ended (Bad ∷ was) b = absurd b.0

pub acted_end_run : (first : BlockNo) (many : ℕ) (was : List Entry) (g f : BookSeen) → many ≡ length was → IsBook g → IsBook f → HasRun g first.0 was → Each IsBegun was → Appended (EndRun first many) g f → Acted first.0 was (map ended was) g f
acted_end_run first many was g f is book_g book_f has b so =
    acted_by (EndRun first many) first.0 was (map ended was) g f book_g book_f has
    (leads_run (EndRun first many) ended (λ e. refl) first.0 was (omega arith) (omega (arith, is))) (λ block n. (n.0, omega (arith, n.1, is))) (is ∙ all_ended was b) refl so

ends_at : (first : BlockNo) (many : ℕ) (xs : List Entry) → Each IsBegun xs → Each (λ e. IsLegalAt e (EndRun first many)) xs
ends_at first many [] b = tt
ends_at first many (Settled key ∷ xs) b = absurd b.0
ends_at first many (Pending old new ∷ xs) b = ((Settled new, (old, new, refl, refl)), ends_at first many xs b.1)
ends_at first many (Bad ∷ xs) b = absurd b.0

pub legal_end_run : (first : BlockNo) (many : ℕ) (was : List Entry) (g : BookSeen) → many ≡ length was → HasRun g first.0 was → Each IsBegun was → IsLegalOn g.now (EndRun first many)
legal_end_run first many was g is has b = legal_at (EndRun first many) first.0 was g (λ block n. (n.0, omega (arith, n.1, is))) has (ends_at first many was b)
