-- A store verified piece by piece.
use Rattle.std.proofs.Common.{◌≡◌, ℕ, zero, suc, ◌+◌, ◌-◌, ◌^◌, ◌<◌, ◌≤◌, Bool, IsTrue, List, [], ◌∷◌, ◌++◌, length, take, drop, map, get_or, refl, sym, ◌∙◌, ap, subst, arith, append_assoc, min}
use Rattle.std.specs.Prelude.{count_by, Some, slice_get, slice_range, cond}
use Rattle.std.proofs.lemmas.List.{take_more, take_all, append-nil, get_or-take, get_or-drop, length-take-le, length-drop, length-map, length-append, take-map, drop-map}
use Rattle.std.proofs.Math.Seq.{take-add}
use Rattle.std.proofs.lemmas.Option.{slice_get_within, get_or_from_slice_get, slice_get-get_or}
use Rattle.std.proofs.lemmas.List.Sums.{count_by-le-length, sum_by-append}
use Rattle.vd_base.specs.Geometry.{Shape}
use Rattle.vd_base.specs.declared.geometry.BlockNo.{BlockNo}
use Rattle.vd_base.specs.declared.geometry.StoreId.{StoreId}
use Rattle.vd_arm.specs.Arm.{PassSeen}
use Rattle.vd_yard.specs.Contents.{AreBlocks}
use Rattle.key_state.specs.declared.entry.Entry.{Entry}
use Rattle.key_state.specs.declared.entry.Entry.TheVariants as entry
use Rattle.key_state.specs.Entries.{IsEntry, AreEntries}
use Rattle.block_verdict.specs.declared.finding.Finding.{Finding}
use Rattle.block_verdict.specs.declared.outcome.Verdict.TheVariants as verdict
use Rattle.recover_run.specs.declared.look.Look.{Look}
use Rattle.recover_run.specs.declared.look.Look.TheVariants as look
use Rattle.recover_run.specs.Looks.{AreLooks, LooksAt, findings_from, block_findings, settled_from, is_seen, is_unread, is_corrupt}
use Rattle.recover_run.specs.Part.{ArePart, Verifies}
use Rattle.recover_run.proofs.Looking.{count-append, no_looks, no_findings, looks_append, findings_append, settled_append}
use Rattle.run_report.specs.declared.finding.Verified.{Verified}
use Rattle.run_report.specs.Findings.{finding_text, IsPrintable}
use Rattle.run_report.specs.Says.{Says, Printing, says_along, says_none}
use Rattle.still_store.specs.Looking.{carried}
use Rattle.still_store.specs.Findings.{are_corrupt, are_unread, plus, AreSmall}
use Rattle.still_store.specs.Verification.{findings_text, counted_of, lines_of, is_pending, is_bad}

-- ---- texts
pub text_append : (id : StoreId) (xs ys : List Finding) → findings_text id (xs ++ ys) ≡ findings_text id xs ++ findings_text id ys
text_append id [] ys = refl
text_append id (x ∷ xs) ys = ap (λ t. finding_text id x ++ t) (text_append id xs ys) ∙ sym (append_assoc (finding_text id x) (findings_text id xs) (findings_text id ys))

pub text_more : (id : StoreId) (xs : List Finding) (i : ℕ) (x : Finding) → i < length xs → x ≡ get_or xs i x → findings_text id (take (i + 1) xs) ≡ findings_text id (take i xs) ++ finding_text id x
text_more id xs i x within is =
    ap (findings_text id) (take_more xs i x within ∙ ap (λ y. take i xs ++ y ∷ []) (sym is))
    ∙ (text_append id (take i xs) (x ∷ []) ∙ ap (λ t. findings_text id (take i xs) ++ t) (append-nil (finding_text id x)))

-- ---- counts
counts_append : (p : Finding → Bool) (xs ys : List Finding) → count_by p (xs ++ ys) ≡ count_by p xs + count_by p ys
counts_append p xs ys = sum_by-append (λ x. cond (p x) 1 0) xs ys

entries_append : (p : Entry → Bool) (xs ys : List Entry) → count_by p (xs ++ ys) ≡ count_by p xs + count_by p ys
entries_append p xs ys = sum_by-append (λ x. cond (p x) 1 0) xs ys

corrupt_here : (block : BlockNo) (known : Entry) (seen : Look) → count_by are_corrupt (block_findings block known seen) ≡ count_by is_corrupt (seen ∷ [])
corrupt_here block known look.Skipped = refl
corrupt_here block known look.Unread = refl
corrupt_here block known (look.Sees (verdict.Corrupt sector part)) = refl
corrupt_here block (entry.Settled key) (look.Sees verdict.Clean) = refl
corrupt_here block (entry.Settled key) (look.Sees verdict.Old) = refl
corrupt_here block (entry.Settled key) (look.Sees verdict.New) = refl
corrupt_here block (entry.Settled key) (look.Sees verdict.Mixed) = refl
corrupt_here block (entry.Pending old new) (look.Sees verdict.Clean) = refl
corrupt_here block (entry.Pending old new) (look.Sees verdict.Old) = refl
corrupt_here block (entry.Pending old new) (look.Sees verdict.New) = refl
corrupt_here block (entry.Pending old new) (look.Sees verdict.Mixed) = refl
corrupt_here block entry.Bad (look.Sees verdict.Clean) = refl
corrupt_here block entry.Bad (look.Sees verdict.Old) = refl
corrupt_here block entry.Bad (look.Sees verdict.New) = refl
corrupt_here block entry.Bad (look.Sees verdict.Mixed) = refl

unread_here : (block : BlockNo) (known : Entry) (seen : Look) → count_by are_unread (block_findings block known seen) ≡ count_by is_unread (seen ∷ [])
unread_here block known look.Skipped = refl
unread_here block known look.Unread = refl
unread_here block known (look.Sees (verdict.Corrupt sector part)) = refl
unread_here block (entry.Settled key) (look.Sees verdict.Clean) = refl
unread_here block (entry.Settled key) (look.Sees verdict.Old) = refl
unread_here block (entry.Settled key) (look.Sees verdict.New) = refl
unread_here block (entry.Settled key) (look.Sees verdict.Mixed) = refl
unread_here block (entry.Pending old new) (look.Sees verdict.Clean) = refl
unread_here block (entry.Pending old new) (look.Sees verdict.Old) = refl
unread_here block (entry.Pending old new) (look.Sees verdict.New) = refl
unread_here block (entry.Pending old new) (look.Sees verdict.Mixed) = refl
unread_here block entry.Bad (look.Sees verdict.Clean) = refl
unread_here block entry.Bad (look.Sees verdict.Old) = refl
unread_here block entry.Bad (look.Sees verdict.New) = refl
unread_here block entry.Bad (look.Sees verdict.Mixed) = refl

findings_cons : (first : ℕ) (known : Entry) (entries : List Entry) (seen : Look) (looks : List Look) → findings_from first (known ∷ entries) (seen ∷ looks) ≡ block_findings (record { 0 = first }) known seen ++ findings_from (first + 1) entries looks
unfolding findings_from
findings_cons first known entries seen looks = refl

findings_none : (first : ℕ) → findings_from first [] [] ≡ []
unfolding findings_from
findings_none first = refl

counted_findings : (p : Finding → Bool) (q : Look → Bool) → ((block : BlockNo) (known : Entry) (seen : Look) → count_by p (block_findings block known seen) ≡ count_by q (seen ∷ [])) → (first : ℕ) (entries : List Entry) (looks : List Look) → length looks ≡ length entries → count_by p (findings_from first entries looks) ≡ count_by q looks
counted_findings p q here first [] [] e = ap (count_by p) (findings_none first)
counted_findings p q here first (k ∷ entries) (l ∷ looks) e =
    let same : length looks ≡ length entries = omega (arith, e) in
    ap (count_by p) (findings_cons first k entries l looks)
    ∙ (counts_append p (block_findings (record { 0 = first }) k l) (findings_from (first + 1) entries looks)
    ∙ (ap (λ n. n + count_by p (findings_from (first + 1) entries looks)) (here (record { 0 = first }) k l)
    ∙ (ap (λ n. count_by q (l ∷ []) + n) (counted_findings p q here (first + 1) entries looks same) ∙ sym (count-append q (l ∷ []) looks))))
counted_findings p q here first [] (l ∷ looks) e = absurd (omega (arith, e))
counted_findings p q here first (k ∷ entries) [] e = absurd (omega (arith, e))

pub corrupt_counted : (first : ℕ) (entries : List Entry) (looks : List Look) → length looks ≡ length entries → count_by are_corrupt (findings_from first entries looks) ≡ count_by is_corrupt looks
corrupt_counted first entries looks e = counted_findings are_corrupt is_corrupt corrupt_here first entries looks e

pub unread_counted : (first : ℕ) (entries : List Entry) (looks : List Look) → length looks ≡ length entries → count_by are_unread (findings_from first entries looks) ≡ count_by is_unread looks
unread_counted first entries looks e = counted_findings are_unread is_unread unread_here first entries looks e

same_counts : (a b : Verified) → a.blocks ≡ b.blocks → a.corrupt ≡ b.corrupt → a.pending ≡ b.pending → a.bad ≡ b.bad → a.faults ≡ b.faults → a ≡ b
same_counts a b p q r s t = λ i. record { blocks = p i; corrupt = q i; pending = r i; bad = s i; faults = t i }

pub counted_append : (entries more_entries : List Entry) (looks more : List Look) → counted_of (entries ++ more_entries) (looks ++ more) ≡ plus (counted_of entries looks) (counted_of more_entries more)
unfolding counted_of
counted_append entries es looks ls =
    same_counts (counted_of (entries ++ es) (looks ++ ls)) (plus (counted_of entries looks) (counted_of es ls))
    (count-append is_seen looks ls) (count-append is_corrupt looks ls) (entries_append is_pending entries es) (entries_append is_bad entries es) (count-append is_unread looks ls)

pub counted_is : (entries : List Entry) (looks : List Look) (c : Verified) → c.blocks ≡ count_by is_seen looks → c.corrupt ≡ count_by is_corrupt looks → c.pending ≡ count_by is_pending entries → c.bad ≡ count_by is_bad entries → c.faults ≡ count_by is_unread looks → c ≡ counted_of entries looks
unfolding counted_of
counted_is entries looks c p q r s t = same_counts c (counted_of entries looks) p q r s t

pub counted_faults : (entries : List Entry) (looks : List Look) → (counted_of entries looks).faults ≡ count_by is_unread looks
unfolding counted_of
counted_faults entries looks = refl

pub counted_small : (entries : List Entry) (looks : List Look) (n : ℕ) → length entries ≡ n → length looks ≡ n → AreSmall (counted_of entries looks) n
unfolding counted_of
counted_small entries looks n e l = record {
  seen = omega (arith, count_by-le-length is_seen looks, l);
  corrupt = omega (arith, count_by-le-length is_corrupt looks, l);
  pending = omega (arith, count_by-le-length is_pending entries, e);
  bad = omega (arith, count_by-le-length is_bad entries, e);
  faults = omega (arith, count_by-le-length is_unread looks, l);
}

-- ---- pieces of lists
pub length_piece : {A : Type 0} (xs : List A) (a b : ℕ) → a ≤ b → b ≤ length xs → length (slice_range xs a b) ≡ b - a
length_piece xs a b p q =
    let room : b - a ≤ length (drop a xs) = omega (arith, length-drop a xs, p, q) in
    length-take-le (b - a) (drop a xs) room

pub piece_at : {A : Type 0} (xs : List A) (a b i : ℕ) (d : A) → i < b - a → get_or (slice_range xs a b) i d ≡ get_or xs (a + i) d
piece_at xs a b i d within = get_or-take (b - a) (drop a xs) i d within ∙ get_or-drop a xs i d

pub piece_behind : {A : Type 0} (xs : List A) (a b : ℕ) → a ≤ b → take b xs ≡ take a xs ++ slice_range xs a b
piece_behind xs a b p =
    let whole : b ≡ a + (b - a) = omega arith in
    ap (λ n. take n xs) whole ∙ take-add a (b - a) xs

pub map_piece : {A B : Type 0} (f : A → B) (xs : List A) (a b : ℕ) → map f (slice_range xs a b) ≡ slice_range (map f xs) a b
map_piece f xs a b = sym (ap (take (b - a)) (drop-map f a xs) ∙ take-map f (b - a) (drop a xs))

pub piece_valid : (entries : List Entry) (a b : ℕ) → a ≤ b → b ≤ length entries → AreEntries entries → AreEntries (slice_range entries a b)
piece_valid entries a b p q valid i within =
    let long = length_piece entries a b p q in
    let less : i < b - a = omega (arith, long, within) in
    subst IsEntry (sym (piece_at entries a b i entry.Bad less)) (valid (a + i) (omega arith))

slice_get_piece : {A : Type 0} (xs : List A) (a b i : ℕ) (x : A) → a ≤ b → b ≤ length xs → slice_get (slice_range xs a b) i ≡ Some x → slice_get xs (a + i) ≡ Some x
slice_get_piece xs a b i x p q is =
    let long = length_piece xs a b p q in
    let inside = slice_get_within (slice_range xs a b) i x is in
    let less : i < b - a = omega (arith, long, inside) in
    let below : a + i < length xs = omega arith in
    slice_get-get_or xs (a + i) x below
    ∙ ap (λ (y : _). Some y) (sym (piece_at xs a b i x less) ∙ get_or_from_slice_get (slice_range xs a b) i x x is)

pub piece_part : {A : Type 0} (seen : A → PassSeen) (shape : Shape) (passes : List A) (a b : ℕ) → a ≤ b → b ≤ length passes → AreBlocks shape (map seen passes) → ArePart a shape (map seen (slice_range passes a b))
piece_part seen shape passes a b p q blocks =
    let r : b ≤ length (map seen passes) = omega (arith, length-map passes seen, q) in
    rw (map_piece seen passes a b) (record {
      blocks = λ i pass is. blocks.blocks (a + i) pass (slice_get_piece (map seen passes) a b i pass p r is);
      sizes = λ i pass is. blocks.sizes (a + i) pass (slice_get_piece (map seen passes) a b i pass p r is);
    })

-- ---- findings that have a line
AllPrintable : StoreId → List Finding → Type 0
AllPrintable id [] = Unit {0}
AllPrintable id (f ∷ fs) = IsPrintable id f × AllPrintable id fs

printable_append : (id : StoreId) (xs ys : List Finding) → AllPrintable id xs → AllPrintable id ys → AllPrintable id (xs ++ ys)
unfolding AllPrintable
printable_append id [] ys p q = q
printable_append id (x ∷ xs) ys p q = (p.0, printable_append id xs ys p.1 q)

printable_here : (id : StoreId) (number : ℕ) (known : Entry) (pass : PassSeen) (seen : Look) → number < id.geometry.blocks → LooksAt id pass known seen → AllPrintable id (block_findings (record { 0 = number }) known seen)
unfolding AllPrintable
printable_here id number known pass look.Skipped within p = tt
printable_here id number known pass look.Unread within p = (tt, tt)
printable_here id number (entry.Settled key) pass (look.Sees (verdict.Corrupt sector part)) within p = ((within, p.1.2.in_block), tt)
printable_here id number (entry.Pending old new) pass (look.Sees (verdict.Corrupt sector part)) within p = ((within, p.1.2.in_block), tt)
printable_here id number entry.Bad pass (look.Sees (verdict.Corrupt sector part)) within p = absurd p.1.2
printable_here id number (entry.Settled key) pass (look.Sees verdict.Clean) within p = tt
printable_here id number (entry.Settled key) pass (look.Sees verdict.Old) within p = tt
printable_here id number (entry.Settled key) pass (look.Sees verdict.New) within p = tt
printable_here id number (entry.Settled key) pass (look.Sees verdict.Mixed) within p = tt
printable_here id number (entry.Pending old new) pass (look.Sees verdict.Clean) within p = (tt, tt)
printable_here id number (entry.Pending old new) pass (look.Sees verdict.Old) within p = (tt, tt)
printable_here id number (entry.Pending old new) pass (look.Sees verdict.New) within p = (tt, tt)
printable_here id number (entry.Pending old new) pass (look.Sees verdict.Mixed) within p = (tt, tt)
printable_here id number entry.Bad pass (look.Sees verdict.Clean) within p = tt
printable_here id number entry.Bad pass (look.Sees verdict.Old) within p = tt
printable_here id number entry.Bad pass (look.Sees verdict.New) within p = tt
printable_here id number entry.Bad pass (look.Sees verdict.Mixed) within p = tt

none_printable : (id : StoreId) → AllPrintable id []
unfolding AllPrintable
none_printable id = tt

all_printable : (id : StoreId) (first : ℕ) (entries : List Entry) (passes : List PassSeen) (looks : List Look) → first + length entries ≤ id.geometry.blocks → AreLooks id entries passes looks → AllPrintable id (findings_from first entries looks)
unfolding AreLooks
all_printable id first [] [] [] within p = subst (AllPrintable id) (sym (findings_none first)) (none_printable id)
all_printable id first (k ∷ entries) (x ∷ passes) (l ∷ looks) within p =
    let rest : first + 1 + length entries ≤ id.geometry.blocks = omega (arith, within) in
    let here : first < id.geometry.blocks = omega (arith, within) in
    subst (AllPrintable id) (sym (findings_cons first k entries l looks))
    (printable_append id (block_findings (record { 0 = first }) k l) (findings_from (first + 1) entries looks)
    (printable_here id first k x l here p.0) (all_printable id (first + 1) entries passes looks rest p.1))
all_printable id first [] [] (l ∷ looks) within p = absurd p
all_printable id first [] (x ∷ passes) looks within p = absurd p
all_printable id first (k ∷ entries) [] looks within p = absurd p
all_printable id first (k ∷ entries) (x ∷ passes) [] within p = absurd p

printable_at : (id : StoreId) (fs : List Finding) (i : ℕ) (d : Finding) → AllPrintable id fs → i < length fs → IsPrintable id (get_or fs i d)
unfolding AllPrintable
printable_at id [] i d p within = absurd (omega (arith, within))
printable_at id (f ∷ fs) zero d p within = p.0
printable_at id (f ∷ fs) (suc i) d p within = printable_at id fs i d p.1 (omega (arith, within))

pub printable : (id : StoreId) (first : ℕ) (entries : List Entry) (passes : List PassSeen) (looks : List Look) (fs : List Finding) → fs ≡ findings_from first entries looks → first + length entries ≤ id.geometry.blocks → AreLooks id entries passes looks → (i : ℕ) (f : Finding) → slice_get fs i ≡ Some f → IsPrintable id f
printable id first entries passes looks fs e within p i f is =
    let all : AllPrintable id fs = subst (AllPrintable id) (sym e) (all_printable id first entries passes looks within p) in
    subst (IsPrintable id) (get_or_from_slice_get fs i f f is) (printable_at id fs i f all (slice_get_within fs i f is))

one_at_most : (block : BlockNo) (known : Entry) (seen : Look) → length (block_findings block known seen) ≤ 1
one_at_most block known look.Skipped = omega arith
one_at_most block known look.Unread = omega arith
one_at_most block known (look.Sees (verdict.Corrupt sector part)) = omega arith
one_at_most block (entry.Settled key) (look.Sees verdict.Clean) = omega arith
one_at_most block (entry.Settled key) (look.Sees verdict.Old) = omega arith
one_at_most block (entry.Settled key) (look.Sees verdict.New) = omega arith
one_at_most block (entry.Settled key) (look.Sees verdict.Mixed) = omega arith
one_at_most block (entry.Pending old new) (look.Sees verdict.Clean) = omega arith
one_at_most block (entry.Pending old new) (look.Sees verdict.Old) = omega arith
one_at_most block (entry.Pending old new) (look.Sees verdict.New) = omega arith
one_at_most block (entry.Pending old new) (look.Sees verdict.Mixed) = omega arith
one_at_most block entry.Bad (look.Sees verdict.Clean) = omega arith
one_at_most block entry.Bad (look.Sees verdict.Old) = omega arith
one_at_most block entry.Bad (look.Sees verdict.New) = omega arith
one_at_most block entry.Bad (look.Sees verdict.Mixed) = omega arith

findings_past : (first : ℕ) (looks : List Look) → findings_from first [] looks ≡ []
unfolding findings_from
findings_past first [] = refl
findings_past first (l ∷ looks) = refl

pub few_findings : (first : ℕ) (entries : List Entry) (looks : List Look) → length (findings_from first entries looks) ≤ length entries
few_findings first [] [] = omega (arith, ap length (findings_none first))
few_findings first (k ∷ entries) (l ∷ looks) =
    let here = one_at_most (record { 0 = first }) k l in
    let rest = few_findings (first + 1) entries looks in
    let both : length (findings_from first (k ∷ entries) (l ∷ looks)) ≡ length (block_findings (record { 0 = first }) k l) + length (findings_from (first + 1) entries looks) = ap length (findings_cons first k entries l looks) ∙ length-append (block_findings (record { 0 = first }) k l) (findings_from (first + 1) entries looks) in
    omega (arith, here, rest, both)
few_findings first [] (l ∷ looks) = omega (arith, ap length (findings_past first (l ∷ looks)))
few_findings first (k ∷ entries) [] = omega (arith, ap length (no_findings first (k ∷ entries)))

pub found_is : (id : StoreId) (first : ℕ) (entries : List Entry) (passes : List PassSeen) (looks : List Look) (before now : List Finding) (s t : List Entry) (many : ℕ) → Verifies id first entries passes looks before now s t many → before ≡ [] → now ≡ findings_from first entries looks
found_is id first entries passes looks before now s t many v e = v.found ∙ ap (λ b. b ++ findings_from first entries looks) e

-- ---- one piece behind the pieces before it
pub long_front : {A : Type 0} (xs : List A) (a : ℕ) → a ≤ length xs → length (take a xs) ≡ a
long_front xs a p = length-take-le a xs p

pub looked_then : {A : Type 0} (seen : A → PassSeen) (id : StoreId) (entries : List Entry) (passes : List A) (a b : ℕ) (looks more : List Look) → a ≤ b → AreLooks id (take a entries) (take a (map seen passes)) looks → AreLooks id (slice_range entries a b) (map seen (slice_range passes a b)) more → AreLooks id (take b entries) (take b (map seen passes)) (looks ++ more)
looked_then seen id entries passes a b looks more le p q =
    let there : AreLooks id (slice_range entries a b) (slice_range (map seen passes) a b) more = subst (λ (ps : List PassSeen). AreLooks id (slice_range entries a b) ps more) (map_piece seen passes a b) q in
    let both : AreLooks id (take a entries ++ slice_range entries a b) (take a (map seen passes) ++ slice_range (map seen passes) a b) (looks ++ more) = looks_append id (take a entries) (slice_range entries a b) (take a (map seen passes)) (slice_range (map seen passes) a b) looks more p there in
    let half : AreLooks id (take b entries) (take a (map seen passes) ++ slice_range (map seen passes) a b) (looks ++ more) = subst (λ (es : List Entry). AreLooks id es (take a (map seen passes) ++ slice_range (map seen passes) a b) (looks ++ more)) (sym (piece_behind entries a b le)) both in
    subst (λ (ps : List PassSeen). AreLooks id (take b entries) ps (looks ++ more)) (sym (piece_behind (map seen passes) a b le)) half

pub counted_then : (entries : List Entry) (a b : ℕ) (looks more : List Look) (total part sum : Verified) → a ≤ b → total ≡ counted_of (take a entries) looks → part ≡ counted_of (slice_range entries a b) more → sum ≡ plus total part → sum ≡ counted_of (take b entries) (looks ++ more)
counted_then entries a b looks more total part sum le p q r =
    r ∙ (ap (λ (t : Verified). plus t part) p ∙ (ap (λ (t : Verified). plus (counted_of (take a entries) looks) t) q
    ∙ (sym (counted_append (take a entries) (slice_range entries a b) looks more) ∙ ap (λ (es : List Entry). counted_of es (looks ++ more)) (sym (piece_behind entries a b le)))))

pub lines_then : (id : StoreId) (entries : List Entry) (a b : ℕ) (looks more : List Look) → a ≤ b → a ≤ length entries → length looks ≡ length (take a entries) → lines_of id (take a entries) looks ++ findings_text id (findings_from a (slice_range entries a b) more) ≡ lines_of id (take b entries) (looks ++ more)
lines_then id entries a b looks more le within many =
    let long = long_front entries a within in
    let from : 0 + length (take a entries) ≡ a = omega (arith, long) in
    sym (text_append id (findings_from 0 (take a entries) looks) (findings_from a (slice_range entries a b) more))
    ∙ (ap (λ n. findings_text id (findings_from 0 (take a entries) looks ++ findings_from n (slice_range entries a b) more)) (sym from)
    ∙ (ap (findings_text id) (sym (findings_append 0 (take a entries) (slice_range entries a b) looks more many))
    ∙ ap (λ (es : List Entry). lines_of id es (looks ++ more)) (sym (piece_behind entries a b le))))

pub nothing_counted : (c : Verified) → c.blocks ≡ 0 → c.corrupt ≡ 0 → c.pending ≡ 0 → c.bad ≡ 0 → c.faults ≡ 0 → c ≡ counted_of [] []
unfolding counted_of
nothing_counted c p q r s t = same_counts c (counted_of [] []) p q r s t

pub no_lines : (id : StoreId) → [] ≡ lines_of id [] []
no_lines id = ap (findings_text id) (sym (findings_none 0))

pub small_sum : (entries : List Entry) (a b : ℕ) (looks more : List Look) (total part : Verified) → a ≤ b → b ≤ length entries → length entries ≤ 16777216 → length looks ≡ length (take a entries) → length more ≡ length (slice_range entries a b) → total ≡ counted_of (take a entries) looks → part ≡ counted_of (slice_range entries a b) more → (n : ℕ) × (m : ℕ) × AreSmall total n × AreSmall part m × (n + m < 2 ^ 64)
small_sum entries a b looks more total part le within few many most p q =
    let long = long_front entries a (omega arith) in
    let piece = length_piece entries a b le within in (
      a,
      b - a,
      subst (λ (t : Verified). AreSmall t a) (sym p) (counted_small (take a entries) looks a long (many ∙ long)),
      subst (λ (t : Verified). AreSmall t (b - a)) (sym q) (counted_small (slice_range entries a b) more (b - a) piece (most ∙ piece)),
      omega arith,
    )

-- ---- how far a verification came
pub front_none : {A : Type 0} (seen : A → PassSeen) (id : StoreId) (entries : List Entry) (passes : List A) (f : ℕ) (a : Printing) → (n : ℕ) × (looks : List Look) × AreLooks id (take n entries) (take n (map seen passes)) looks × (min (f + count_by is_unread looks) (2 ^ 64 - 1) ≤ f) × Says a a (lines_of id (take n entries) looks)
front_none seen id entries passes f a = (0, [], no_looks id, omega arith, says_along a a _ _ (no_lines id) (says_none a))

pub front_all : {A : Type 0} (seen : A → PassSeen) (id : StoreId) (entries : List Entry) (passes : List A) (looks : List Look) (f g : ℕ) (a b : Printing) → length (map seen passes) ≡ length entries → AreLooks id entries (map seen passes) looks → min (f + count_by is_unread looks) (2 ^ 64 - 1) ≤ g → Says a b (lines_of id entries looks) → (n : ℕ) × (looks : List Look) × AreLooks id (take n entries) (take n (map seen passes)) looks × (min (f + count_by is_unread looks) (2 ^ 64 - 1) ≤ g) × Says a b (lines_of id (take n entries) looks)
front_all seen id entries passes looks f g a b many p r q =
    let all : take (length entries) entries ≡ entries = take_all (length entries) entries (omega arith) in
    let each : take (length entries) (map seen passes) ≡ map seen passes = take_all (length entries) (map seen passes) (omega (arith, many)) in
    (length entries, looks, rw (all, each) p, r, subst (λ (es : List Entry). Says a b (lines_of id es looks)) (sym all) q)

-- ---- settled entries
pub none_settled : [] ≡ settled_from [] []
unfolding settled_from
none_settled = refl

carried_all : (collects : Bool) (entries : List Entry) → IsTrue collects → carried collects entries ≡ entries
carried_all collects entries e = ap (λ (b : Bool). carried b entries) e

pub settled_then : (collects here : Bool) (entries : List Entry) (a b : ℕ) (looks more : List Look) (before now : List Entry) → here ≡ collects → a ≤ b → length looks ≡ length (take a entries) → (IsTrue collects → before ≡ settled_from (take a entries) looks) → now ≡ carried here before ++ settled_from (slice_range entries a b) more
    → IsTrue collects → now ≡ settled_from (take b entries) (looks ++ more)
settled_then collects here entries a b looks more before now same le many p q collected =
    q
    ∙ (ap (λ (es : List Entry). es ++ settled_from (slice_range entries a b) more) (carried_all here before (same ∙ collected) ∙ p collected)
    ∙ (sym (settled_append (take a entries) (slice_range entries a b) looks more many)
    ∙ ap (λ (es : List Entry). settled_from es (looks ++ more)) (sym (piece_behind entries a b le))))
