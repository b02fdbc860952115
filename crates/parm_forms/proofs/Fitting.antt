-- What is read fits its form.
use Rattle.std.proofs.Common.{◌≡◌, ℕ, ◌*◌, ◌-◌, ◌%◌, ◌^◌, ◌≤◌, inl, inr, List, [], ◌∷◌, Bool, true, false, ◌&&◌, ◌||◌, codes, cond, nat_le, nat_eq, All, IsTrue, Option, Some, None, Ok, Err, Result, length, refl, sym, ◌∙◌, subst, arith}
use Rattle.std.specs.List.{AllByRecursion, list_any}
use Rattle.std.specs.Str.{bytes_eq}
use Rattle.std.proofs.lemmas.Bool.Decides.{nat_tests}
use Rattle.std.proofs.lemmas.List.Elements.{All-from_recursion}
use Rattle.std.proofs.lemmas.Slice.Eq.{bytes_eq-Decides}
use Rattle.vd_base.specs.Name.{is_store_name}
use Rattle.parm_value.specs.Values.{scaled, second_parts, size_parts, spelled_number}
use Rattle.parm_forms.specs.Fits.{ArePairs, AreSizes, Fits, IsBlockSize, IsCount, IsFrom, IsOneOf, IsSize, OneNumber, OneText, SomeNumbers, SomeTexts}
use Rattle.parm_forms.specs.Forms.{◌>>=◌, block_size, chosen, count, each, is_other_name, is_pattern, kept_if, mapped, number, number_or_fault, one, path, pattern, rate, seconds, seek_percent, size, size_pairs, sizes, some, value_of, valued, word, words_of}
use Rattle.parm_forms.specs.declared.fault.ParmKind.{ParmKind}
use Rattle.parm_forms.specs.declared.fault.ParmKind.TheVariants.{OutOfRange}
use Rattle.parm_value.specs.declared.fault.ValueFault.TheVariants as value
use Rattle.parm_forms.specs.declared.choice.Choice.{Choice}
use Rattle.parm_forms.specs.declared.form.Form.{Form}
use Rattle.parm_forms.specs.declared.form.Form.TheVariants as form
use Rattle.parm_forms.specs.declared.value.Value.{Value}
use Rattle.parm_forms.specs.declared.value.Value.TheVariants.{Numbers, Texts}

-- each answer of a reader is so
abbrev Answers : {A : Type 0} → (List ℕ → Result A ParmKind) → (A → Type 0) → Type 0
Answers {A} read P = (item : List ℕ) (x : A) → read item ≡ Ok x → P x

pub ok_same : {A : Type 0} {x y : A} → ◌≡◌ {A = Result A ParmKind} (Ok x) (Ok y) → x ≡ y
ok_same e = cc

joined : {A : Type 0} (P : A → Type 0) (r : Result A ParmKind) (rest : Result (List A) ParmKind) (xs : List A) → ((x : A) → r ≡ Ok x → P x) → ((ys : List A) → rest ≡ Ok ys → AllByRecursion P ys) → (r >>= λ x. rest >>= λ ys. Ok (x ∷ ys)) ≡ Ok xs → AllByRecursion P xs
joined P (Ok x) (Ok ys) xs first others e = subst (AllByRecursion P) (ok_same e) (first x refl, others ys refl)
joined P (Ok x) (Err kind) xs first others e = absurd (cc)
joined P (Err kind) rest xs first others e = absurd (cc)

each_so : {A : Type 0} (read : List ℕ → Result A ParmKind) (P : A → Type 0) → Answers read P → (items : List (List ℕ)) (xs : List A) → each read items ≡ Ok xs → AllByRecursion P xs
each_so read P so [] xs e = subst (AllByRecursion P) (ok_same e) tt
each_so read P so (item ∷ items) xs e =
    joined P (read item) (each read items) xs (so item) (each_so read P so items) e

single : {A : Type 0} (P : A → Type 0) (r : Result A ParmKind) (xs : List A) → ((x : A) → r ≡ Ok x → P x) → (r >>= λ x. Ok (x ∷ [])) ≡ Ok xs → (x : A) × (x ∷ [] ≡ xs) × P x
single P (Ok x) xs so e = (x, ok_same e, so x refl)
single P (Err kind) xs so e = absurd (cc)

one_so : {A : Type 0} (read : List ℕ → Result A ParmKind) (P : A → Type 0) → Answers read P → (items : List (List ℕ)) (xs : List A) → one read items ≡ Ok xs → (x : A) × (x ∷ [] ≡ xs) × P x
one_so read P so [] xs e = absurd (cc)
one_so read P so (item ∷ []) xs e = single P (read item) xs (so item) e
one_so read P so (item ∷ more ∷ items) xs e = absurd (cc)

longer : {A : Type 0} (r : Result A ParmKind) (rest : Result (List A) ParmKind) (xs : List A) → (r >>= λ x. rest >>= λ ys. Ok (x ∷ ys)) ≡ Ok xs → (x : A) × (ys : List A) × (x ∷ ys ≡ xs)
longer (Ok x) (Ok ys) xs e = (x, ys, ok_same e)
longer (Ok x) (Err kind) xs e = absurd (cc)
longer (Err kind) rest xs e = absurd (cc)

some_so : {A : Type 0} (read : List ℕ → Result A ParmKind) (P : A → Type 0) → Answers read P → (items : List (List ℕ)) (xs : List A) → some read items ≡ Ok xs → (x : A) × (ys : List A) × (x ∷ ys ≡ xs) × All P (x ∷ ys)
some_so read P so [] xs e = absurd (cc)
some_so read P so (item ∷ items) xs e =
    let l = longer (read item) (each read items) xs e in
    let all = each_so read P so (item ∷ items) xs e in
    (l.0, l.1, l.2, All-from_recursion P (l.0 ∷ l.1) (subst (AllByRecursion P) (sym l.2) all))

pub mapped_so : {A : Type 0} (make : A → Value) (Q : Value → Type 0) (r : Result A ParmKind) (value : Value) → ((x : A) → r ≡ Ok x → Q (make x)) → mapped make r ≡ Ok value → Q value
mapped_so make Q (Ok x) value so e = subst Q (ok_same e) (so x refl)
mapped_so make Q (Err kind) value so e = absurd (cc)

one_number : (read : List ℕ → Result ℕ ParmKind) (P : ℕ → Type 0) → Answers read P → (items : List (List ℕ)) (value : Value) → mapped Numbers (one read items) ≡ Ok value → OneNumber P value
one_number read P so items value e =
    mapped_so Numbers (OneNumber P) (one read items) value (λ xs is. let o = one_so read P so items xs is in subst (λ ys. OneNumber P (Numbers ys)) o.1 o.2) e

one_text : (read : List ℕ → Result (List ℕ) ParmKind) (P : List ℕ → Type 0) → Answers read P → (items : List (List ℕ)) (value : Value) → mapped Texts (one read items) ≡ Ok value → OneText P value
one_text read P so items value e =
    mapped_so Texts (OneText P) (one read items) value (λ xs is. let o = one_so read P so items xs is in subst (λ ys. OneText P (Texts ys)) o.1 o.2) e

some_numbers : (read : List ℕ → Result ℕ ParmKind) (P : ℕ → Type 0) → Answers read P → (items : List (List ℕ)) (value : Value) → mapped Numbers (some read items) ≡ Ok value → SomeNumbers P value
some_numbers read P so items value e =
    mapped_so Numbers (SomeNumbers P) (some read items) value (λ xs is. let o = some_so read P so items xs is in subst (λ ys. SomeNumbers P (Numbers ys)) o.2 o.3) e

some_texts : (read : List ℕ → Result (List ℕ) ParmKind) (P : List ℕ → Type 0) → Answers read P → (items : List (List ℕ)) (value : Value) → mapped Texts (some read items) ≡ Ok value → SomeTexts P value
some_texts read P so items value e =
    mapped_so Texts (SomeTexts P) (some read items) value (λ xs is. let o = some_so read P so items xs is in subst (λ ys. SomeTexts P (Texts ys)) o.2 o.3) e

pub and_both : (a b : Bool) → (a && b) ≡ true → (a ≡ true) × (b ≡ true)
and_both true b e = (refl, e)
and_both false b e = absurd (cc)

pub tested : (least greatest n : ℕ) → (nat_le least n && nat_le n greatest) ≡ true → IsFrom least greatest n
tested least greatest n e =
    let both = and_both (nat_le least n) (nat_le n greatest) e in
    record { at_least = grind (arith, nat_tests, both.0); at_most = grind (arith, nat_tests, both.1) }

kept : (b : Bool) (m n : ℕ) → ◌≡◌ {A = Result ℕ ParmKind} (cond b (Ok m) (Err OutOfRange)) (Ok n) → (b ≡ true) × (m ≡ n)
kept true m n e = (refl, ok_same e)
kept false m n e = absurd (cc)

value_kept : (b : Bool) (m n : ℕ) → valued (cond b (Ok m) (Err value.OutOfRange)) ≡ Ok n → (b ≡ true) × (m ≡ n)
value_kept true m n e = (refl, ok_same e)
value_kept false m n e = absurd (cc)

within_fits : (b : Bool) (least greatest m n : ℕ) → b ≡ (nat_le least m && nat_le m greatest) → valued (cond b (Ok m) (Err value.OutOfRange)) ≡ Ok n → IsFrom least greatest n
within_fits b least greatest m n is e =
    let k = value_kept b m n e in
    subst (IsFrom least greatest) k.1 (tested least greatest m (sym is ∙ k.0))

scaled_fits : (unit least greatest : ℕ) (spelled : Option ℕ) (n : ℕ) → valued (scaled unit least greatest spelled) ≡ Ok n → IsFrom least greatest n
scaled_fits unit least greatest None n e = absurd (cc)
scaled_fits unit least greatest (Some m) n e = within_fits (nat_le least (m * unit) && nat_le (m * unit) greatest) least greatest (m * unit) n refl e

number_fits : (least greatest : ℕ) → Answers (number least greatest) (IsFrom least greatest)
number_fits least greatest item n e = scaled_fits 1 least greatest (spelled_number item) n e

size_fits : Answers size IsSize
size_fits item n e = scaled_fits (size_parts item).1 1 (2 ^ 63 - 1) (spelled_number (size_parts item).0) n e

seconds_fit : Answers seconds (IsFrom 1 8640000)
seconds_fit item n e = scaled_fits (second_parts item).1 1 8640000 (spelled_number (second_parts item).0) n e

block_fits : (n : ℕ) → IsSize n → (nat_le n 1048576 && nat_eq (n % 512) 0) ≡ true → IsBlockSize n
block_fits n sized e =
    let both = and_both (nat_le n 1048576) (nat_eq (n % 512) 0) e in
    let most : n ≤ 1048576 = grind (arith, nat_tests, both.0) in
    let multiple : n % 512 ≡ 0 = grind (arith, nat_tests, both.1) in
    let one = sized.at_least in
    record { range = record { at_least = omega (arith, multiple, one); at_most = most }; whole = multiple }

block_size_of : (r : Result ℕ ParmKind) (n : ℕ) → ((m : ℕ) → r ≡ Ok m → IsSize m) → (r >>= λ m. cond (nat_le m 1048576 && nat_eq (m % 512) 0) (Ok m) (Err OutOfRange)) ≡ Ok n → IsBlockSize n
block_size_of (Ok m) n so e =
    let k = kept (nat_le m 1048576 && nat_eq (m % 512) 0) m n e in
    subst IsBlockSize k.1 (block_fits m (so m refl) k.0)
block_size_of (Err kind) n so e = absurd (cc)

block_size_fits : Answers block_size IsBlockSize
block_size_fits item n e = block_size_of (size item) n (size_fits item) e

number_or_fault_fits : (least greatest : ℕ) (spelled : Option ℕ) (n : ℕ) → number_or_fault least greatest spelled ≡ Ok n → IsFrom least greatest n
number_or_fault_fits least greatest None n e = absurd (cc)
number_or_fault_fits least greatest (Some m) n e =
    let k = kept (nat_le least m && nat_le m greatest) m n e in
    subst (IsFrom least greatest) k.1 (tested least greatest m k.0)

word_or_number : (b : Bool) (m most n : ℕ) (r : Result ℕ ParmKind) → m ≤ most → ((n : ℕ) → r ≡ Ok n → n ≤ most) → cond b (Ok m) r ≡ Ok n → n ≤ most
word_or_number true m most n r small so e = subst (λ k. k ≤ most) (ok_same e) small
word_or_number false m most n r small so e = so n e

rate_fits : Answers rate (IsFrom 0 10000000)
rate_fits item n e = record {
  at_least = omega arith;
  at_most = word_or_number (bytes_eq item (codes "max")) 0 10000000 n (number_or_fault 1 10000000 (spelled_number item)) (omega arith)
      (λ k is. (number_or_fault_fits 1 10000000 (spelled_number item) k is).at_most) e;
}

percent_fits : Answers seek_percent (IsFrom 0 100)
percent_fits item n e = record {
  at_least = omega arith;
  at_most = word_or_number (bytes_eq item (codes "random") || bytes_eq item (codes "rand")) 100 100 n _ (omega arith)
      (λ k is. word_or_number (bytes_eq item (codes "sequential") || bytes_eq item (codes "seq")) 0 100 k (number_or_fault 0 100 (spelled_number item)) (omega arith)
      (λ j has. (number_or_fault_fits 0 100 (spelled_number item) j has).at_most) is) e;
}

kept_text : (kind : ParmKind) (b : Bool) (item text : List ℕ) → kept_if kind b item ≡ Ok text → (b ≡ true) × (item ≡ text)
kept_text kind true item text e = (refl, ok_same e)
kept_text kind false item text e = absurd (cc)

path_fits : Answers path (λ text. IsFrom 1 1024 (length text))
path_fits item text e =
    let k = kept_text _ _ item text e in
    subst (λ t. IsFrom 1 1024 (length t)) k.1 (tested 1 1024 (length item) k.0)

any_word : Answers word (λ text. Unit {0})
any_word item text e = tt

first_or : (b others : Bool) (word : List ℕ) (words : List (List ℕ)) (text : List ℕ) → b ≡ bytes_eq word text → (others ≡ true → IsOneOf words text) → (b || others) ≡ true → IsOneOf (word ∷ words) text
first_or true others word words text is rest e = inl (sym ((bytes_eq-Decides word text).0 (sym is)))
first_or false others word words text is rest e = inr (rest e)

pub one_of : (words : List (List ℕ)) (text : List ℕ) → list_any (λ word. bytes_eq word text) words ≡ true → IsOneOf words text
one_of [] text e = absurd (cc)
one_of (word ∷ words) text e = first_or (bytes_eq word text) (list_any (λ word. bytes_eq word text) words) word words text refl (one_of words text) e

chosen_fits : (choice : Choice) → Answers (chosen choice) (IsOneOf (words_of choice))
chosen_fits choice item text e =
    let k = kept_text _ _ item text e in
    subst (IsOneOf (words_of choice)) k.1 (one_of (words_of choice) item k.0)

pattern_fits : (is_name : List ℕ → Bool) → Answers (pattern is_name) (λ text. IsTrue (is_pattern is_name text))
pattern_fits is_name item text e =
    let k = kept_text _ _ item text e in
    subst (λ t. IsTrue (is_pattern is_name t)) k.1 k.0

pair_of : (r q : Result ℕ ParmKind) (P Q : ℕ → Type 0) (xs : List ℕ) → ((n : ℕ) → r ≡ Ok n → P n) → ((n : ℕ) → q ≡ Ok n → Q n) → (r >>= λ n. q >>= λ m. Ok (n ∷ m ∷ [])) ≡ Ok xs → (n : ℕ) × (m : ℕ) × (n ∷ m ∷ [] ≡ xs) × P n × Q m
pair_of (Ok n) (Ok m) P Q xs p q e = (n, m, ok_same e, p n refl, q m refl)
pair_of (Ok n) (Err kind) P Q xs p q e = absurd (cc)
pair_of (Err kind) q P Q xs p s e = absurd (cc)

count_fits : (items : List (List ℕ)) (xs : List ℕ) → count items ≡ Ok xs → IsCount (Numbers xs)
count_fits [] xs e = absurd (cc)
count_fits (first ∷ []) xs e = absurd (cc)
count_fits (first ∷ many ∷ []) xs e =
    let p = pair_of (number 0 100000 first) (number 1 64 many) (IsFrom 0 100000) (IsFrom 1 64) xs (number_fits 0 100000 first) (number_fits 1 64 many) e in
    subst (λ ys. IsCount (Numbers ys)) p.2 (p.3.at_most, p.4)
count_fits (first ∷ many ∷ more ∷ items) xs e = absurd (cc)

triple_of : (r q : Result ℕ ParmKind) (rest : Result (List ℕ) ParmKind) (xs : List ℕ) → ((n : ℕ) → r ≡ Ok n → IsSize n) → ((n : ℕ) → q ≡ Ok n → IsFrom 0 100 n) → ((ys : List ℕ) → rest ≡ Ok ys → ArePairs ys) → (r >>= λ n. q >>= λ m. rest >>= λ ys. Ok (n ∷ m ∷ ys)) ≡ Ok xs → (n : ℕ) × (m : ℕ) × (ys : List ℕ) × (n ∷ m ∷ ys ≡ xs) × ArePairs (n ∷ m ∷ ys)
triple_of (Ok n) (Ok m) (Ok ys) xs p q s e = (n, m, ys, ok_same e, (p n refl, (q m refl).at_most, s ys refl))
triple_of (Ok n) (Ok m) (Err kind) xs p q s e = absurd (cc)
triple_of (Ok n) (Err kind) rest xs p q s e = absurd (cc)
triple_of (Err kind) q rest xs p t s e = absurd (cc)

pairs_fit : (items : List (List ℕ)) (xs : List ℕ) → size_pairs items ≡ Ok xs → ArePairs xs
pairs_fit [] xs e = subst ArePairs (ok_same e) tt
pairs_fit (item ∷ []) xs e = absurd (cc)
pairs_fit (item ∷ percent ∷ items) xs e =
    let t = triple_of (size item) (number 0 100 percent) (size_pairs items) xs (size_fits item) (number_fits 0 100 percent) (pairs_fit items) e in
    subst ArePairs t.3 t.4

paired : (item percent : List ℕ) (items : List (List ℕ)) (xs : List ℕ) → size_pairs (item ∷ percent ∷ items) ≡ Ok xs → AreSizes (Numbers xs)
paired item percent items xs e =
    let t = triple_of (size item) (number 0 100 percent) (size_pairs items) xs (size_fits item) (number_fits 0 100 percent) (pairs_fit items) e in
    subst (λ ys. AreSizes (Numbers ys)) t.3 t.4

pub either_count : (b : Bool) (r : Result (List ℕ) ParmKind) (kind : ParmKind) (xs : List ℕ) → cond b r (Err kind) ≡ Ok xs → r ≡ Ok xs
either_count true r kind xs e = e
either_count false r kind xs e = absurd (cc)

sizes_fit : (items : List (List ℕ)) (xs : List ℕ) → sizes items ≡ Ok xs → AreSizes (Numbers xs)
sizes_fit [] xs e = absurd (cc)
sizes_fit (item ∷ []) xs e =
    let o = one_so size IsSize size_fits (item ∷ []) xs e in
    subst (λ ys. AreSizes (Numbers ys)) o.1 o.2
sizes_fit (item ∷ percent ∷ items) xs e = paired item percent items xs (either_count (nat_eq (length items % 2) 0) _ _ xs e)

pub values_fit : (form : Form) (items : List (List ℕ)) (value : Value) → value_of form items ≡ Ok value → Fits form value
unfolding value_of
values_fit (form.Number least greatest) items value e = one_number (number least greatest) (IsFrom least greatest) (number_fits least greatest) items value e
values_fit (form.Numbers least greatest) items value e = some_numbers (number least greatest) (IsFrom least greatest) (number_fits least greatest) items value e
values_fit form.Size items value e = one_number size IsSize size_fits items value e
values_fit form.Sizes items value e = mapped_so Numbers AreSizes (sizes items) value (sizes_fit items) e
values_fit form.BlockSize items value e = one_number block_size IsBlockSize block_size_fits items value e
values_fit form.BlockSizes items value e = some_numbers block_size IsBlockSize block_size_fits items value e
values_fit form.Seconds items value e = one_number seconds (IsFrom 1 8640000) seconds_fit items value e
values_fit form.Rate items value e = one_number rate (IsFrom 0 10000000) rate_fits items value e
values_fit form.SeekPercent items value e = one_number seek_percent (IsFrom 0 100) percent_fits items value e
values_fit form.Path items value e = one_text path (λ text. IsFrom 1 1024 (length text)) path_fits items value e
values_fit form.Word items value e = one_text word (λ text. Unit {0}) any_word items value e
values_fit form.Words items value e = some_texts word (λ text. Unit {0}) any_word items value e
values_fit (form.Choice choice) items value e = one_text (chosen choice) (IsOneOf (words_of choice)) (chosen_fits choice) items value e
values_fit (form.Choices choice) items value e = some_texts (chosen choice) (IsOneOf (words_of choice)) (chosen_fits choice) items value e
values_fit form.StorePatterns items value e = some_texts (pattern is_store_name) (λ text. IsTrue (is_pattern is_store_name text)) (pattern_fits is_store_name) items value e
values_fit form.Patterns items value e = some_texts (pattern is_other_name) (λ text. IsTrue (is_pattern is_other_name text)) (pattern_fits is_other_name) items value e
values_fit form.Count items value e = mapped_so Numbers IsCount (count items) value (count_fits items) e
