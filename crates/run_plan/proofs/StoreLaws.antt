-- The stores of a plan beside their definitions: names and paths.
use Rattle.std.proofs.Common.{◌≡◌, ℕ, suc, arith, List, [], ◌∷◌, ◌++◌, Bool, true, false, cond, All, AllPairs, Option, Some, None, Result, Ok, Err, map, ap, refl, sym, subst, ◌∙◌, append_assoc, append-nil}
use Rattle.std.specs.Prelude.{◌||◌, is_none}
use Rattle.std.specs.List.{flat_map, list_any}
use Rattle.std.specs.Str.{bytes_eq}
use Rattle.std.proofs.lemmas.Grind.{flat_map-append}
use Rattle.std.proofs.lemmas.List.{map-append}
use Rattle.std.proofs.lemmas.List.Concat.{flat_map_single}
use Rattle.std.proofs.lemmas.List.Elements.{All-cons, All-head, All-nil, All-push, All-tail}
use Rattle.std.proofs.lemmas.List.Kept.{AllPairs-cons}
use Rattle.std.proofs.lemmas.List.Quantifiers.{all_pairs_push}
use Rattle.std.proofs.lemmas.Slice.Eq.{bytes_eq-Decides}
use Rattle.parm_records.specs.Ranges.{IsSd}
use Rattle.parm_records.specs.declared.stores.SdDef.{SdDef}
use Rattle.plan_types.specs.Valid.{AreDifferent, paths_of}
use Rattle.plan_types.specs.declared.store.StorePlan.{StorePlan}
use Rattle.vd_base.proofs.Names.{text_of_padded}
use Rattle.vd_base.specs.Name.{name_text, padded}
use Rattle.run_plan.specs.declared.fault.PlanFault.{PlanFault}
use Rattle.run_plan.specs.declared.fault.PlanKind.{PlanKind}
use Rattle.run_plan.specs.declared.fault.PlanKind.TheVariants.{PathMissing, PathTaken, SizeMissing}
use Rattle.run_plan.specs.declared.runs.Draft.{Draft}
use Rattle.run_plan.specs.Outcomes.{◌>>=◌, at_line, first_fault, in_turn, or_next, unless}
use Rattle.run_plan.specs.Plans.{stores_fault}
use Rattle.run_plan.specs.Sizes.{store_at}
use Rattle.run_plan.specs.Stores.{has_path, is_taken, store_kind, text_or_empty}

-- one item more, whatever its step gave
after : {A B C : Type 0} (step : List B → A → Result (List B) PlanFault) (f : List B → List C) (g : A → List C) → ((xs ys : List B) → f (xs ++ ys) ≡ f xs ++ f ys) → ((done : List B) (x : A) (ys : List B) → step done x ≡ Ok ys → f ys ≡ g x) → (done : List B) (x : A) (xs : List A) (zs : List B) → ((next : List B) → in_turn step next xs ≡ Ok zs → f zs ≡ f next ++ flat_map g xs) → (r : Result (List B) PlanFault) → step done x ≡ r → (r >>= λ more. in_turn step (done ++ more) xs) ≡ Ok zs → f zs ≡ f done ++ (g x ++ flat_map g xs)
after step f g joins each done x xs zs rest (Ok more) is e =
    rest (done ++ more) e ∙ ap (λ l. l ++ flat_map g xs) (joins done more ∙ ap (λ l. f done ++ l) (each done x more is)) ∙ append_assoc (f done) (g x) (flat_map g xs)
after step f g joins each done x xs zs rest (Err fault) is e = absurd (cc)

-- what a step gives is seen as what it is taken from
pub in_turn_map : {A B C : Type 0} (step : List B → A → Result (List B) PlanFault) (f : List B → List C) (g : A → List C) → ((xs ys : List B) → f (xs ++ ys) ≡ f xs ++ f ys) → ((done : List B) (x : A) (ys : List B) → step done x ≡ Ok ys → f ys ≡ g x) → (done : List B) (xs : List A) (zs : List B) → in_turn step done xs ≡ Ok zs → f zs ≡ f done ++ flat_map g xs
in_turn_map step f g joins each done [] zs e = let same : zs ≡ done = cc in ap f same ∙ sym (append-nil (f done))
in_turn_map step f g joins each done (x ∷ xs) zs e =
    after step f g joins each done x xs zs (λ next h. in_turn_map step f g joins each next xs zs h) (step done x) refl e

only : (line : ℕ) (kind : Option PlanKind) (store : StorePlan) (ys : List StorePlan) → unless line kind (Ok (store ∷ [])) ≡ Ok ys → ys ≡ store ∷ []
only line None store ys e = cc
only line (Some kind) store ys e = absurd (cc)

abbrev names_of : List StorePlan → List (List ℕ)
names_of stores = map (λ store. store.id.name) stores

pub names_are : (drafts : List Draft) (sds : List SdDef) (stores : List StorePlan) → in_turn (store_at drafts) [] sds ≡ Ok stores → names_of stores ≡ map (λ d. padded d.name) sds
names_are drafts sds stores e =
    in_turn_map (store_at drafts) names_of (λ d. padded d.name ∷ []) (λ xs ys. map-append (λ (store : StorePlan). store.id.name) xs ys)
    (λ done d ys h. ap names_of (only d.line _ _ ys h)) [] sds stores e ∙
    flat_map_single (λ (d : SdDef). padded d.name) sds

abbrev pub paths_in : List SdDef → List (List ℕ)
paths_in sds = flat_map (λ d. text_or_empty d.lun ∷ d.journal ∷ []) sds

pub paths_are : (drafts : List Draft) (sds : List SdDef) (stores : List StorePlan) → in_turn (store_at drafts) [] sds ≡ Ok stores → paths_of stores ≡ paths_in sds
paths_are drafts sds stores e =
    in_turn_map (store_at drafts) paths_of (λ d. text_or_empty d.lun ∷ d.journal ∷ [])
    (λ xs ys. flat_map-append (λ (store : StorePlan). store.path ∷ store.journal ∷ []) xs ys)
    (λ done d ys h. ap paths_of (only d.line _ _ ys h)) [] sds stores e

pub threads_are : (drafts : List Draft) (sds : List SdDef) (stores : List StorePlan) → in_turn (store_at drafts) [] sds ≡ Ok stores → map (λ (store : StorePlan). store.threads) stores ≡ map (λ (d : SdDef). d.threads) sds
threads_are drafts sds stores e =
    in_turn_map (store_at drafts) (map (λ (store : StorePlan). store.threads)) (λ (d : SdDef). d.threads ∷ [])
    (λ xs ys. map-append (λ (store : StorePlan). store.threads) xs ys)
    (λ done d ys h. ap (map (λ (store : StorePlan). store.threads)) (only d.line _ _ ys h)) [] sds stores e ∙
    flat_map_single (λ (d : SdDef). d.threads) sds

differ : (a b : List ℕ) → bytes_eq a b ≡ false → a ≡ b → ⊥
differ a b unlike same = let yes = (bytes_eq-Decides a b).1 same in absurd (cc)

left_no : (a b : Bool) → (a || b) ≡ false → a ≡ false
left_no true b e = absurd (cc)
left_no false b e = refl

right_no : (a b : Bool) → (a || b) ≡ false → b ≡ false
right_no true b e = absurd (cc)
right_no false b e = e

-- no earlier path is this one
others : (both : SdDef → Bool) (path : List ℕ) → ((e : SdDef) → both e ≡ false → has_path e path ≡ false) → (before : List SdDef) → list_any both before ≡ false → All (λ p. p ≡ path → ⊥) (paths_in before)
others both path one [] fails = All-nil (λ p. p ≡ path → ⊥)
others both path one (e ∷ before) fails =
    let here = one e (left_no (both e) (list_any both before) fails) in
    All-cons (λ p. p ≡ path → ⊥) (text_or_empty e.lun) (e.journal ∷ paths_in before) (differ (text_or_empty e.lun) path (left_no _ _ here))
    (All-cons (λ p. p ≡ path → ⊥) e.journal (paths_in before) (differ e.journal path (right_no _ _ here))
    (others both path one before (right_no (both e) (list_any both before) fails)))

third : (a b c : Bool) → cond a (Some PathMissing) (cond b (Some SizeMissing) (cond c (Some PathTaken) None)) ≡ None → c ≡ false
third true b c e = absurd (cc)
third false true c e = absurd (cc)
third false false true e = absurd (cc)
third false false false e = refl

-- two paths more
pub paths_pushed : (before : List SdDef) (d : SdDef) → store_kind before d ≡ None → AreDifferent (paths_in before) → AreDifferent (paths_in (before ++ d ∷ []))
paths_pushed before d e apart =
    let path = text_or_empty d.lun in
    let R : List ℕ → List ℕ → Type 0 = λ a b. a ≡ b → ⊥ in
    let both : SdDef → Bool = λ s. has_path s path || has_path s d.journal in
    let free : is_taken before d ≡ false = third (is_none d.lun) (is_none d.size) (is_taken before d) e in
    let none : list_any both before ≡ false = right_no (bytes_eq path d.journal) (list_any both before) free in
    let own : path ≡ d.journal → ⊥ = differ path d.journal (left_no (bytes_eq path d.journal) (list_any both before) free) in
    let first = all_pairs_push R (paths_in before) path apart (λ k x h. others both path (λ s fails. left_no _ _ fails) before none k x h) in
    let second = all_pairs_push R (paths_in before ++ path ∷ []) d.journal first
    (λ k x h. All-push (λ p. p ≡ d.journal → ⊥) (paths_in before) path (others both d.journal (λ s fails. right_no _ _ fails) before none) own k x h) in
    subst (AllPairs R) (append_assoc (paths_in before) (path ∷ []) (d.journal ∷ []) ∙ sym (flat_map-append (λ (s : SdDef). text_or_empty s.lun ∷ s.journal ∷ []) before (d ∷ []))) second

first_none : (a b : Option PlanFault) → or_next a b ≡ None → a ≡ None
first_none (Some fault) b e = absurd (cc)
first_none None b e = refl

next_none : (a b : Option PlanFault) → or_next a b ≡ None → b ≡ None
next_none (Some fault) b e = absurd (cc)
next_none None b e = e

kind_none : (line : ℕ) (kind : Option PlanKind) → at_line line kind ≡ None → kind ≡ None
kind_none line (Some kind) e = absurd (cc)
kind_none line None e = refl

paths_apart : (before sds : List SdDef) → first_fault (λ earlier d. at_line d.line (store_kind earlier d)) before sds ≡ None → AreDifferent (paths_in before) → AreDifferent (paths_in (before ++ sds))
paths_apart before [] e apart = subst (λ ds. AreDifferent (paths_in ds)) (sym (append-nil before)) apart
paths_apart before (d ∷ sds) e apart =
    let now = paths_pushed before d (kind_none d.line (store_kind before d) (first_none (at_line d.line (store_kind before d)) _ e)) apart in
    subst (λ ds. AreDifferent (paths_in ds)) (append_assoc before (d ∷ []) sds)
    (paths_apart (before ++ d ∷ []) sds (next_none (at_line d.line (store_kind before d)) _ e) now)

-- the paths of stores without a fault
pub paths_differ : (sds : List SdDef) → stores_fault sds ≡ None → AreDifferent (paths_in sds)
paths_differ sds e = paths_apart [] sds e (λ i j d h k. absurd (omega arith))

pub stores_none : (a b c d : Option PlanFault) → or_next a (or_next b (or_next c d)) ≡ None → c ≡ None
stores_none a b c d e = first_none c d (next_none b (or_next c d) (next_none a (or_next b (or_next c d)) e))

pub runs_none : (a b c : Option PlanFault) → or_next a (or_next b c) ≡ None → b ≡ None
runs_none a b c e = first_none b c (next_none a (or_next b c) e)

same_name : (a b : SdDef) → IsSd a → IsSd b → padded a.name ≡ padded b.name → a.name ≡ b.name
same_name a b is it same = sym (text_of_padded a.name is.name) ∙ ap name_text same ∙ text_of_padded b.name it.name

head_apart : (sd : SdDef) (sds : List SdDef) → IsSd sd → All IsSd sds → All (λ (b : List ℕ). sd.name ≡ b → ⊥) (map (λ d. d.name) sds) → All (λ (b : List ℕ). padded sd.name ≡ b → ⊥) (map (λ d. padded d.name) sds)
head_apart sd [] is all apart = All-nil (λ (b : List ℕ). padded sd.name ≡ b → ⊥)
head_apart sd (d ∷ ds) is all apart =
    All-cons (λ (b : List ℕ). padded sd.name ≡ b → ⊥) (padded d.name) (map (λ e. padded e.name) ds)
    (λ same. All-head (λ (b : List ℕ). sd.name ≡ b → ⊥) d.name (map (λ e. e.name) ds) apart (same_name sd d is (All-head IsSd d ds all) same))
    (head_apart sd ds is (All-tail IsSd d ds all) (All-tail (λ (b : List ℕ). sd.name ≡ b → ⊥) d.name (map (λ e. e.name) ds) apart))

-- names of eight bytes differ as the names do
pub names_differ : (sds : List SdDef) → All IsSd sds → AreDifferent (map (λ d. d.name) sds) → AreDifferent (map (λ d. padded d.name) sds)
names_differ [] all apart = λ i j d h k. absurd (omega arith)
names_differ (sd ∷ sds) all apart =
    AllPairs-cons (λ (a b : List ℕ). a ≡ b → ⊥) (padded sd.name) (map (λ d. padded d.name) sds)
    (head_apart sd sds (All-head IsSd sd sds all) (All-tail IsSd sd sds all) (λ k d h. apart 0 (suc k) d (omega arith) (omega arith)))
    (names_differ sds (All-tail IsSd sd sds all) (λ i j d h k. apart (suc i) (suc j) d (omega arith) (omega arith)))
