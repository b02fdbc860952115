-- Whether some run of the loops has too many workers, from the values of one loop.
use Rattle.std.proofs.Common.{◌≡◌, inl, inr, ℕ, List, [], ◌∷◌, ◌<◌, Bool, true, false, cond, All, Option, Some, None, length, map, ap, refl, sym, subst, ◌∙◌, arith}
use Rattle.std.specs.Prelude.{◌||◌, codes, nat_lt}
use Rattle.std.specs.List.{flat_map, list_any}
use Rattle.std.specs.Str.{bytes_eq}
use Rattle.std.proofs.lemmas.List.Elements.{All-head, All-tail}
use Rattle.std.proofs.lemmas.List.Folds.{list_any-append}
use Rattle.parm_records.specs.Ranges.{HasLoop}
use Rattle.parm_records.specs.declared.runs.RdDef.{RdDef}
use Rattle.run_plan.specs.Loops.{as_defined, settings_of, values_of}
use Rattle.run_plan.specs.Runs.{is_crowded, workers_many}
use Rattle.run_plan.specs.declared.loops.Settings.{Settings}
use Rattle.run_plan.proofs.Lists.{list_any_map}

or_false : (b : Bool) → (b || false) ≡ b
or_false true = refl
or_false false = refl

or_self : (b : Bool) → (b || b) ≡ b
or_self true = refl
or_self false = refl

any_flat : {A B : Type 0} (p : B → Bool) (f : A → List B) (xs : List A) → list_any p (flat_map f xs) ≡ list_any (λ x. list_any p (f x)) xs
any_flat p f [] = refl
any_flat p f (x ∷ xs) = list_any-append p (f x) (flat_map f xs) ∙ ap (λ b. list_any p (f x) || b) (any_flat p f xs)

any_all : {A : Type 0} (p q : A → Bool) → ((x : A) → p x ≡ q x) → (xs : List A) → list_any p xs ≡ list_any q xs
any_all p q same [] = refl
any_all p q same (x ∷ xs) = ap (λ b. b || list_any p xs) (same x) ∙ ap (λ b. q x || b) (any_all p q same xs)

-- one answer for all of some items
any_same : {A : Type 0} (p : A → Bool) (b : Bool) → ((x : A) → p x ≡ b) → (xs : List A) → 0 < length xs → list_any p xs ≡ b
any_same p b same [] h = absurd (omega arith)
any_same p b same (x ∷ []) h = ap (λ c. c || false) (same x) ∙ or_false b
any_same p b same (x ∷ y ∷ ys) h =
    ap (λ c. c || list_any p (y ∷ ys)) (same x) ∙ ap (λ c. b || c) (any_same p b same (y ∷ ys) (omega arith)) ∙ or_self b

-- what the loops make of the workers of a store: each value of that loop, or what stood there
abbrev choices : Bool → List ℕ → Option ℕ → List (Option ℕ)
choices b values own = cond b (map (λ value. Some value) values) (own ∷ [])

by_value : (q : Option ℕ → Bool) (e : Bool) (values : List ℕ) → 0 < length values → list_any (λ value. list_any q (choices e values (Some value))) values ≡ list_any q (map (λ value. Some value) values)
by_value q true values h = any_same (λ value. list_any q (map (λ v. Some v) values)) (list_any q (map (λ v. Some v) values)) (λ value. refl) values h
by_value q false values h = any_all (λ value. q (Some value) || false) (λ value. q (Some value)) (λ value. or_false (q (Some value))) values ∙ sym (list_any_map q (λ value. Some value) values)

looped : (q : Option ℕ → Bool) (d : RdDef) (words : List (List ℕ)) (b c e : Bool) (s : Settings) → ((t : Settings) → list_any (λ u. q u.threads) (settings_of d words t) ≡ list_any q (choices e d.forthreads t.threads)) → 0 < length (cond b d.forthreads (cond c d.forxfersize d.forrdpct)) → list_any (λ u. q u.threads) (flat_map (λ value. settings_of d words (cond b (record s { threads = Some value }) (cond c (record s { xfersize = Some value }) (record s { rdpct = Some value })))) (cond b d.forthreads (cond c d.forxfersize d.forrdpct))) ≡ list_any q (choices (b || e) d.forthreads s.threads)
looped q d words true c e s each h =
    any_flat (λ (u : Settings). q u.threads) (λ value. settings_of d words (record s { threads = Some value })) d.forthreads ∙
    any_all _ (λ value. list_any q (choices e d.forthreads (Some value))) (λ value. each (record s { threads = Some value })) d.forthreads ∙
    by_value q e d.forthreads h
looped q d words false true e s each h =
    any_flat (λ (u : Settings). q u.threads) (λ value. settings_of d words (record s { xfersize = Some value })) d.forxfersize ∙
    any_same _ (list_any q (choices e d.forthreads s.threads)) (λ value. each (record s { xfersize = Some value })) d.forxfersize h
looped q d words false false e s each h =
    any_flat (λ (u : Settings). q u.threads) (λ value. settings_of d words (record s { rdpct = Some value })) d.forrdpct ∙
    any_same _ (list_any q (choices e d.forthreads s.threads)) (λ value. each (record s { rdpct = Some value })) d.forrdpct h

pub has_values : (d : RdDef) (word : List ℕ) → HasLoop d word → 0 < length (values_of d word)
has_values d word (inl h) = subst (λ w. 0 < length (values_of d w)) (sym h.0) h.1
has_values d word (inr (inl h)) = subst (λ w. 0 < length (values_of d w)) (sym h.0) h.1
has_values d word (inr (inr h)) = subst (λ w. 0 < length (values_of d w)) (sym h.0) h.1

any_threads : (q : Option ℕ → Bool) (d : RdDef) (words : List (List ℕ)) → All (HasLoop d) words → (s : Settings) → list_any (λ u. q u.threads) (settings_of d words s) ≡ list_any q (choices (list_any (λ word. bytes_eq word (codes "forthreads")) words) d.forthreads s.threads)
any_threads q d [] all s = refl
any_threads q d (word ∷ words) all s =
    looped q d words (bytes_eq word (codes "forthreads")) (bytes_eq word (codes "forxfersize")) (list_any (λ w. bytes_eq w (codes "forthreads")) words) s
    (λ t. any_threads q d words (All-tail (HasLoop d) word words all) t) (has_values d word (All-head (HasLoop d) word words all))

chosen_true : (q : Option ℕ → Bool) (b : Bool) (values : List ℕ) (own : Option ℕ) → b ≡ true → list_any q (choices b values own) ≡ list_any (λ value. q (Some value)) values
chosen_true q true values own e = list_any_map q (λ value. Some value) values
chosen_true q false values own e = absurd (cc)

chosen_false : (q : Option ℕ → Bool) (b : Bool) (values : List ℕ) (own : Option ℕ) → b ≡ false → list_any q (choices b values own) ≡ q own
chosen_false q true values own e = absurd (cc)
chosen_false q false values own e = or_false (q own)

-- some value of the loop over workers
pub crowded : (threads stores : List ℕ) (d : RdDef) (words : List (List ℕ)) (values : List ℕ) (b r : Bool) → All (HasLoop d) d.loops → words ≡ d.loops → values ≡ d.forthreads → b ≡ list_any (λ word. bytes_eq word (codes "forthreads")) words → b ≡ true → r ≡ list_any (λ value. nat_lt 512 (workers_many threads stores (Some value))) values → r ≡ is_crowded threads stores d
crowded threads stores d words values b r all same_words same_values test chosen is =
    let any_word : List (List ℕ) → Bool = list_any (λ word. bytes_eq word (codes "forthreads")) in
    let q : Option ℕ → Bool = λ choice. nat_lt 512 (workers_many threads stores choice) in
    is ∙ ap (list_any (λ value. nat_lt 512 (workers_many threads stores (Some value)))) same_values ∙
    sym (chosen_true q (any_word d.loops) d.forthreads None (sym (test ∙ ap any_word same_words) ∙ chosen)) ∙
    sym (any_threads q d d.loops all as_defined)

-- without that loop, the stores' own workers
pub uncrowded : (threads stores : List ℕ) (d : RdDef) (words : List (List ℕ)) (b r : Bool) → All (HasLoop d) d.loops → words ≡ d.loops → b ≡ list_any (λ word. bytes_eq word (codes "forthreads")) words → b ≡ false → r ≡ nat_lt 512 (workers_many threads stores None) → r ≡ is_crowded threads stores d
uncrowded threads stores d words b r all same_words test chosen is =
    let any_word : List (List ℕ) → Bool = list_any (λ word. bytes_eq word (codes "forthreads")) in
    let q : Option ℕ → Bool = λ choice. nat_lt 512 (workers_many threads stores choice) in
    is ∙ sym (chosen_false q (any_word d.loops) d.forthreads None (sym (test ∙ ap any_word same_words) ∙ chosen)) ∙
    sym (any_threads q d d.loops all as_defined)
