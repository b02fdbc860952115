-- The shares of runs within their ranges.
use Rattle.std.proofs.Common.{◌≡◌, inl, inr, ℕ, zero, suc, List, [], ◌∷◌, ◌++◌, ◌+◌, ◌-◌, ◌*◌, ◌/◌, ◌%◌, ◌<◌, ◌≤◌, Bool, true, false, cond, All, Option, Some, None, IfSome, Result, Ok, Err, filter, get_or, length, slice_get, ap, refl, sym, subst, ◌∙◌, arith}
use Rattle.std.specs.Prelude.{◌==◌, ◌||◌, nat_le, nat_lt, not, position}
use Rattle.std.proofs.lemmas.Bool.{cases_lt, eqb-false, eqb-true, leb-true, lt-ltb}
use Rattle.std.proofs.Math.Nat.{mul-le-mul_left, mul-one, mul-zero, mul_comm, zero-mod}
use Rattle.std.specs.List.{list_any, range_with_len}
use Rattle.std.proofs.lemmas.List.Elements.{All-append, All-cons, All-filter, All-get_or, All-head, All-map, All-nil, All-tail, All-weaker}
use Rattle.std.proofs.lemmas.List.{length-map}
use Rattle.std.proofs.lemmas.List.FromFn.{length-map-range_with_len}
use Rattle.parm_records.specs.Ranges.{IsBlockSize, IsFrom, IsWd}
use Rattle.parm_records.specs.declared.stores.WdDef.{WdDef}
use Rattle.wildcards.specs.Selection.{fits, fits_some, nothing_at, places_of}
use Rattle.run_plan.specs.declared.fault.PlanFault.{PlanFault}
use Rattle.run_plan.specs.declared.fault.PlanKind.{PlanKind}
use Rattle.run_plan.specs.declared.workloads.Workload.{Workload}
use Rattle.run_plan.specs.Hosts.{selected, selection_kind}
use Rattle.run_plan.specs.Outcomes.{◌>>=◌, in_turn, unless}
use Rattle.run_plan.specs.Weights.{given, have_weights, open_many, shared_out, skew_kind, weights_at, weights_of}
use Rattle.run_plan.specs.Workloads.{workload_at, workload_of}
use Rattle.parm_records.specs.declared.runs.RdDef.{RdDef}
use Rattle.run_plan.specs.declared.runs.Pick.{Pick}
use Rattle.run_plan.specs.declared.runs.Work.{Work}
use Rattle.run_plan.specs.Runs.{format_kind, pick_of, picks_at, picks_of, skew_of, skews_of, wanted_kind}
use Rattle.run_plan.proofs.DraftLaws.{get_is}
use Rattle.run_plan.proofs.Lists.{filter_short}

-- what each item gives is within its ranges, and so all
after_all : {A B : Type 0} (step : List B → A → Result (List B) PlanFault) (Q : B → Type 0) (done : List B) (x : A) (xs : List A) (zs : List B) → ((ys : List B) → step done x ≡ Ok ys → All Q ys) → All Q done → ((next : List B) → All Q next → in_turn step next xs ≡ Ok zs → All Q zs) → (r : Result (List B) PlanFault) → step done x ≡ r → (r >>= λ more. in_turn step (done ++ more) xs) ≡ Ok zs → All Q zs
after_all step Q done x xs zs each all rest (Ok more) is e = rest (done ++ more) (All-append Q done more all (each more is)) e
after_all step Q done x xs zs each all rest (Err fault) is e = absurd (cc)

pub in_turn_all : {A B : Type 0} (step : List B → A → Result (List B) PlanFault) (P : A → Type 0) (Q : B → Type 0) → ((done : List B) (x : A) (ys : List B) → P x → step done x ≡ Ok ys → All Q ys) → (done : List B) (xs : List A) (zs : List B) → All P xs → All Q done → in_turn step done xs ≡ Ok zs → All Q zs
in_turn_all step P Q each done [] zs ps all e = let same : done ≡ zs = cc in subst (All Q) same all
in_turn_all step P Q each done (x ∷ xs) zs ps all e =
    after_all step Q done x xs zs (λ ys h. each done x ys (All-head P x xs ps) h) all
    (λ next h g. in_turn_all step P Q each next xs zs (All-tail P x xs ps) h g) (step done x) refl e

-- places that are selected
pub record AreSelected (names : List (List ℕ)) (places : List ℕ) : Type 0 where
  pub within : All (λ place. place < length names) places
  pub some : 0 < length places
  pub few : length places ≤ length names

pub range_within : (a n most : ℕ) → a + n ≤ most → All (λ place. place < most) (range_with_len a n)
range_within a zero most h = All-nil (λ place. place < most)
range_within a (suc n) most h = All-cons (λ place. place < most) a (range_with_len (a + 1) n) (omega arith) (range_within (a + 1) n most (omega arith))

longer : (b : Bool) (x : ℕ) (xs : List ℕ) → 0 < length xs → 0 < length (cond b (x ∷ xs) xs)
longer true x xs h = omega arith
longer false x xs h = h

some_from : (p : ℕ → Bool) (a n k : ℕ) → k < n → p (a + k) ≡ true → 0 < length (filter p (range_with_len a n))
some_from p a zero k h e = absurd (omega arith)
some_from p a (suc n) zero h e =
    let at : a + zero ≡ a = omega arith in
    let here : p a ≡ true = ap p (sym at) ∙ e in
    subst (λ b. 0 < length (cond b (a ∷ filter p (range_with_len (a + 1) n)) (filter p (range_with_len (a + 1) n)))) (sym here) (omega arith)
some_from p a (suc n) (suc k) h e =
    let at : a + suc k ≡ a + 1 + k = omega arith in
    longer (p a) a (filter p (range_with_len (a + 1) n)) (some_from p (a + 1) n k (omega arith) (ap p (sym at) ∙ e))

any_here : (f : List ℕ → Bool) (name : List ℕ) (names : List (List ℕ)) (b : Bool) → f name ≡ b → (b || list_any f names) ≡ true → (list_any f names ≡ true → (k : ℕ) × (k < length names) × (f (get_or names k []) ≡ true)) → (k : ℕ) × (k < length (name ∷ names)) × (f (get_or (name ∷ names) k []) ≡ true)
any_here f name names true is e rest = (0, omega arith, is)
any_here f name names false is e rest = let found = rest e in (suc found.0, omega (arith, found.1), found.2)

any_at : (f : List ℕ → Bool) (names : List (List ℕ)) → list_any f names ≡ true → (k : ℕ) × (k < length names) × (f (get_or names k []) ≡ true)
any_at f [] e = absurd (cc)
any_at f (name ∷ names) e = any_here f name names (f name) refl e (λ h. any_at f names h)

at_none : (p : List ℕ → Bool) (pattern : List ℕ) (patterns : List (List ℕ)) → false ≡ p pattern → position (λ x. not (p x)) (pattern ∷ patterns) ≡ None → ⊥
at_none p pattern patterns is e =
    let here : nat_lt 0 (suc (length patterns)) ≡ true = lt-ltb 0 (suc (length patterns)) (omega arith) in
    let found : position (λ x. not (p x)) (pattern ∷ patterns) ≡ Some 0 = rw (sym is) (ap (λ b. cond b (Some 0) None) here) in
    absurd (cc)

first_fits : (p : List ℕ → Bool) (pattern : List ℕ) (patterns : List (List ℕ)) (b : Bool) → b ≡ p pattern → position (λ x. not (p x)) (pattern ∷ patterns) ≡ None → b ≡ true
first_fits p pattern patterns true is e = refl
first_fits p pattern patterns false is e = absurd (at_none p pattern patterns is e)

either : (b c : Bool) → b ≡ true → (b || c) ≡ true
either true c e = refl
either false c e = absurd (cc)

places_some : (patterns names : List (List ℕ)) → nothing_at patterns names ≡ None → 0 < length (places_of patterns names)
places_some [] names e = absurd (cc)
places_some (pattern ∷ patterns) names e =
    let test : List ℕ → Bool = λ x. list_any (λ name. fits x name) names in
    let found = any_at (fits pattern) names (first_fits test pattern patterns (test pattern) refl e) in
    some_from (λ place. fits_some (pattern ∷ patterns) (get_or names place [])) 0 (length names) found.0 found.1
    (let at : 0 + found.0 ≡ found.0 = omega arith in
    ap (λ k. fits_some (pattern ∷ patterns) (get_or names k [])) at ∙ either (fits pattern (get_or names found.0 [])) (fits_some patterns (get_or names found.0 [])) found.2)

unless_none : {A : Type 0} (line : ℕ) (o : Option ℕ) (x y : A) → unless line (selection_kind o) (Ok x) ≡ Ok y → (o ≡ None) × (x ≡ y)
unless_none line None x y e = (refl, cc)
unless_none line (Some place) x y e = absurd (cc)

pub selected_are : (line : ℕ) (patterns names : List (List ℕ)) (places : List ℕ) → selected line patterns names ≡ Ok places → AreSelected names places
selected_are line patterns names places e =
    let h = unless_none line (nothing_at patterns names) (places_of patterns names) places e in
    let p : ℕ → Bool = λ place. fits_some patterns (get_or names place []) in
    subst (AreSelected names) h.1 (record {
      within = All-filter p (λ place. place < length names) (range_with_len 0 (length names)) (range_within 0 (length names) (length names) (omega arith));
      some = places_some patterns names h.0;
      few = filter_short p (length names);
    })

-- a workload within its ranges
pub record IsWorkload (many : ℕ) (w : Workload) : Type 0 where
  pub xfersize : IsBlockSize w.xfersize
  pub rdpct : w.rdpct ≤ 100
  pub seekpct : w.seekpct ≤ 100
  pub skew : IfSome w.skew (λ n. IsFrom 1 100 n)
  pub stores : All (λ store. store < many) w.stores
  pub some : 0 < length w.stores
  pub few : length w.stores ≤ many

picked : {A : Type 0} (r : Result (List ℕ) PlanFault) (next : List ℕ → Result A PlanFault) (y : A) → (r >>= next) ≡ Ok y → (places : List ℕ) × (r ≡ Ok places) × (next places ≡ Ok y)
picked (Ok places) next y e = (places, refl, e)
picked (Err fault) next y e = absurd (cc)

workload_is : (stores hosts : List (List ℕ)) (d : WdDef) (ws : List Workload) → IsWd d → workload_at stores hosts [] d ≡ Ok ws → All (IsWorkload (length stores)) ws
workload_is stores hosts d ws is e =
    let one = picked (selected d.line d.sd stores) _ ws e in
    let two = picked (selected d.line d.host hosts) _ ws one.2 in
    let same : workload_of d one.0 ∷ [] ≡ ws = cc (two.2) in
    let are = selected_are d.line d.sd stores one.0 one.1 in
    subst (All (IsWorkload (length stores))) same
    (All-cons (IsWorkload (length stores)) (workload_of d one.0) []
    (record { xfersize = is.xfersize; rdpct = is.rdpct; seekpct = is.seekpct; skew = is.skew; stores = are.within; some = are.some; few = are.few })
    (All-nil (IsWorkload (length stores))))

pub workloads_are : (stores hosts : List (List ℕ)) (wds : List WdDef) (ws : List Workload) → All IsWd wds → in_turn (workload_at stores hosts) [] wds ≡ Ok ws → All (IsWorkload (length stores)) ws
workloads_are stores hosts wds ws all e =
    in_turn_all (workload_at stores hosts) IsWd (IsWorkload (length stores)) (λ done d ys is h. workload_is stores hosts d ys is h) [] wds ws all (All-nil (IsWorkload (length stores))) e

-- the weights of workloads: one for each, 1 to 100
pub record AreWeights (count : ℕ) (weights : List ℕ) : Type 0 where
  pub all : All (IsFrom 1 100) weights
  pub many : length weights ≡ count

shared_length : (each more : ℕ) (skews : List (Option ℕ)) → length (shared_out each more skews) ≡ length skews
shared_length each more [] = refl
shared_length each more (Some skew ∷ skews) = ap suc (shared_length each more skews)
shared_length each zero (None ∷ skews) = ap suc (shared_length each zero skews)
shared_length each (suc more) (None ∷ skews) = ap suc (shared_length each more skews)

shared_are : (each more : ℕ) (skews : List (Option ℕ)) → All (λ skew. IfSome skew (λ n. IsFrom 1 100 n)) skews → (0 < open_many skews → 1 ≤ each) → (0 < open_many skews → each ≤ 100) → (0 < more → each + 1 ≤ 100) → All (IsFrom 1 100) (shared_out each more skews)
shared_are each more [] all least most one = All-nil (IsFrom 1 100)
shared_are each more (Some skew ∷ skews) all least most one =
    All-cons (IsFrom 1 100) skew (shared_out each more skews) (All-head (λ s. IfSome s (λ n. IsFrom 1 100 n)) (Some skew) skews all)
    (shared_are each more skews (All-tail (λ s. IfSome s (λ n. IsFrom 1 100 n)) (Some skew) skews all) least most one)
shared_are each zero (None ∷ skews) all least most one =
    All-cons (IsFrom 1 100) each (shared_out each zero skews) (record { at_least = least (omega arith); at_most = most (omega arith) })
    (shared_are each zero skews (All-tail (λ s. IfSome s (λ n. IsFrom 1 100 n)) None skews all) (λ h. least (omega arith)) (λ h. most (omega arith)) one)
shared_are each (suc more) (None ∷ skews) all least most one =
    All-cons (IsFrom 1 100) (each + 1) (shared_out each more skews) (record { at_least = omega arith; at_most = one (omega arith) })
    (shared_are each more skews (All-tail (λ s. IfSome s (λ n. IsFrom 1 100 n)) None skews all) (λ h. least (omega arith)) (λ h. most (omega arith)) (λ h. one (omega arith)))

part_some : (rest many : ℕ) → 0 < many → many ≤ rest → 1 ≤ rest / many
part_some rest many some enough =
    elim (cases_lt (rest / many) 1) [
      | inl h ↦
          let none : rest / many ≡ 0 = omega arith in
          let nothing : many * (rest / many) ≡ 0 = ap (λ q. many * q) none ∙ mul-zero many in
          let whole : many * (rest / many) + rest % many ≡ rest = omega arith in
          let less : rest % many < many = omega arith in
          absurd (omega arith)
      | inr h ↦ h
    ]

-- a rest that is divided among so many, each of which gets something
parts : (rest many : ℕ) → 0 < many → many ≤ rest → rest ≤ 100 → (1 ≤ rest / many) × (rest / many ≤ 100) × (0 < rest % many → rest / many + 1 ≤ 100)
parts rest many some enough most =
    let q = rest / many in
    let whole : many * q + rest % many ≡ rest = omega arith in
    let wide : q * 1 ≤ q * many = mul-le-mul_left q some in
    let one : q * 1 ≡ q = mul-one q in
    let turned : q * many ≡ many * q = mul_comm q many in
    (part_some rest many some enough, omega arith, λ h. omega arith)

not_zero : (n : ℕ) → (n ≡ 0 → ⊥) → 0 < n
not_zero zero h = absurd (h refl)
not_zero (suc n) h = omega arith

weights_made : (skews : List (Option ℕ)) (b : Bool) → b ≡ (open_many skews == 0) → All (λ skew. IfSome skew (λ n. IsFrom 1 100 n)) skews → cond b (given skews == 100) (nat_le (given skews + open_many skews) 100) ≡ true → AreWeights (length skews) (weights_of skews)
weights_made skews true none all e =
    let full : given skews ≡ 100 = eqb-true (given skews) 100 e in
    let nothing : 100 - given skews ≡ 0 = omega arith in
    let over : (100 - given skews) % open_many skews ≡ 0 = ap (λ n. n % open_many skews) nothing ∙ zero-mod (open_many skews) in
    let zero_open : open_many skews ≡ 0 = eqb-true (open_many skews) 0 (sym none) in
    record {
      all = shared_are ((100 - given skews) / open_many skews) ((100 - given skews) % open_many skews) skews all (λ h. absurd (omega arith)) (λ h. absurd (omega arith)) (λ h. absurd (omega arith));
      many = shared_length ((100 - given skews) / open_many skews) ((100 - given skews) % open_many skews) skews;
    }
weights_made skews false some all e =
    let few : given skews + open_many skews ≤ 100 = leb-true (given skews + open_many skews) 100 e in
    let open_some : 0 < open_many skews = not_zero (open_many skews) (eqb-false (open_many skews) 0 (sym some)) in
    let p = parts (100 - given skews) (open_many skews) open_some (omega arith) (omega arith) in
    record {
      all = shared_are ((100 - given skews) / open_many skews) ((100 - given skews) % open_many skews) skews all (λ h. p.0) (λ h. p.1) p.2;
      many = shared_length ((100 - given skews) / open_many skews) ((100 - given skews) % open_many skews) skews;
    }

pub unless_ok : {A : Type 0} (line : ℕ) (kind : Option PlanKind) (r : Result A PlanFault) (y : A) → unless line kind r ≡ Ok y → (kind ≡ None) × (r ≡ Ok y)
unless_ok line None r y e = (refl, e)
unless_ok line (Some kind) r y e = absurd (cc)

skew_none : (b : Bool) → skew_kind b ≡ None → b ≡ true
skew_none true e = refl
skew_none false e = absurd (cc)

pub weights_are : (line : ℕ) (skews : List (Option ℕ)) (weights : List ℕ) → All (λ skew. IfSome skew (λ n. IsFrom 1 100 n)) skews → weights_at line skews ≡ Ok weights → AreWeights (length skews) weights
weights_are line skews weights all e =
    let h = unless_ok line (skew_kind (have_weights skews)) (Ok (weights_of skews)) weights e in
    let same : weights_of skews ≡ weights = cc (h.1) in
    subst (AreWeights (length skews)) same (weights_made skews (open_many skews == 0) refl all (skew_none (have_weights skews) h.0))

-- a workload of a run definition, with its weight
pub record IsPick (many : ℕ) (pick : Pick) : Type 0 where
  pub place : pick.place < many
  pub weight : IsFrom 1 100 pick.weight

picks_made : (many : ℕ) (places weights : List ℕ) → All (λ place. place < many) places → AreWeights (length places) weights → All (IsPick many) (picks_of places weights)
picks_made many places weights within are =
    All-map (IsPick many) (pick_of places weights) (range_with_len 0 (length places))
    (All-weaker (λ i. i < length places) (λ i. IsPick many (pick_of places weights i))
    (λ i h. record {
      place = All-get_or (λ place. place < many) places i 0 h within;
      weight = All-get_or (IsFrom 1 100) weights i 0 (let same = are.many in omega arith) are.all;
    })
    (range_with_len 0 (length places)) (range_within 0 (length places) (length places) (omega arith)))

skew_is : (many : ℕ) (o : Option Workload) → IfSome o (IsWorkload many) → IfSome (skew_of o) (λ n. IsFrom 1 100 n)
skew_is many (Some w) h = h.skew
skew_is many None h = tt

skews_are : (many : ℕ) (workloads : List Workload) → All (IsWorkload many) workloads → (places : List ℕ) → All (λ skew. IfSome skew (λ n. IsFrom 1 100 n)) (skews_of workloads places)
skews_are many workloads all [] = All-nil (λ skew. IfSome skew (λ n. IsFrom 1 100 n))
skews_are many workloads all (place ∷ places) =
    All-cons (λ skew. IfSome skew (λ n. IsFrom 1 100 n)) (skew_of (slice_get workloads place)) (skews_of workloads places)
    (skew_is many (slice_get workloads place) (get_is (IsWorkload many) workloads place all)) (skews_are many workloads all places)

-- the workloads of a run definition
pub record ArePicks (many : ℕ) (picks : List Pick) : Type 0 where
  pub all : All (IsPick many) picks
  pub some : 0 < length picks
  pub few : length picks ≤ many

pub picks_are : (many : ℕ) (work : Work) (d : RdDef) (picks : List Pick) → All (IsWorkload many) work.workloads → length work.names ≡ length work.workloads → picks_at work d ≡ Ok picks → ArePicks (length work.workloads) picks
picks_are many work d picks all named e =
    let one = picked (unless d.line (wanted_kind d) (selected d.line d.wd work.names)) _ picks e in
    let two = picked (unless d.line (format_kind d) (weights_at d.line (skews_of work.workloads one.0))) _ picks one.2 in
    let chosen = selected_are d.line d.wd work.names one.0 (unless_ok d.line (wanted_kind d) _ one.0 one.1).1 in
    let weights = weights_are d.line (skews_of work.workloads one.0) two.0 (skews_are many work.workloads all one.0) (unless_ok d.line (format_kind d) _ two.0 two.1).1 in
    let same : picks_of one.0 two.0 ≡ picks = cc (two.2) in
    let count : length (skews_of work.workloads one.0) ≡ length one.0 = length-map one.0 (λ place. skew_of (slice_get work.workloads place)) in
    let long : length (picks_of one.0 two.0) ≡ length one.0 = length-map-range_with_len (pick_of one.0 two.0) 0 (length one.0) in
    let some = chosen.some in
    let few = chosen.few in
    subst (ArePicks (length work.workloads)) same (record {
      all = picks_made (length work.workloads) one.0 two.0 (subst (λ n. All (λ place. place < n) one.0) named chosen.within) (subst (λ n. AreWeights n two.0) count weights);
      some = omega arith;
      few = omega arith;
    })
