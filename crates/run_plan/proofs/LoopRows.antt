-- A run definition with two loops.
use Rattle.std.proofs.Common.{◌≡◌, inl, inr, ℕ, zero, suc, cond, Result, Ok, is_ok, ◌∙◌, List, [], ◌∷◌, All, AllPairs, Contains, length, ap, sym, subst, refl, arith}
use Rattle.std.specs.Prelude.{codes}
use Rattle.std.proofs.lemmas.List.Elements.{All-cons, All-contains_itself, All-head, All-nil, All-same, All-tail}
use Rattle.parm_records.specs.Ranges.{HasLoop, IsBlockSize, IsFrom, IsRd}
use Rattle.parm_records.specs.declared.runs.RdDef.{RdDef}

abbrev pub words : List (List ℕ)
words = codes "forxfersize" ∷ codes "forthreads" ∷ []

threads_are : All (IsFrom 1 256) (1 ∷ 2 ∷ [])
threads_are =
    All-cons (IsFrom 1 256) 1 (2 ∷ []) (record { at_least = omega arith; at_most = omega arith })
    (All-cons (IsFrom 1 256) 2 [] (record { at_least = omega arith; at_most = omega arith }) (All-nil (IsFrom 1 256)))

sizes_are : All IsBlockSize (4096 ∷ 8192 ∷ [])
sizes_are =
    All-cons IsBlockSize 4096 (8192 ∷ []) (record { range = record { at_least = omega arith; at_most = omega arith }; whole = refl })
    (All-cons IsBlockSize 8192 [] (record { range = record { at_least = omega arith; at_most = omega arith }; whole = refl }) (All-nil IsBlockSize))

is_word : (d : RdDef) (word : List ℕ) → d.forrdpct ≡ [] → HasLoop d word → Contains words word
is_word d word none (inl h) = subst (Contains words) (sym h.0) (All-head (Contains words) (codes "forthreads") [] (All-tail (Contains words) (codes "forxfersize") (codes "forthreads" ∷ []) (All-contains_itself words)))
is_word d word none (inr (inl h)) = subst (Contains words) (sym h.0) (All-head (Contains words) (codes "forxfersize") (codes "forthreads" ∷ []) (All-contains_itself words))
is_word d word none (inr (inr h)) = absurd (omega (arith, h.1, ap length none))

apart : AllPairs (λ (a b : List ℕ). a ≡ b → ⊥) words
apart zero zero d h k e = absurd (omega arith)
apart zero (suc zero) d h k e = absurd (omega (arith, ap length e))
apart zero (suc (suc j)) d h k e = absurd (omega arith)
apart (suc i) j d h k e = absurd (omega arith)

pub pushed : {A T E : Type 0} (r : Result T E) (x : T) (items more same : List A) → r ≡ Ok x → items ≡ cond (is_ok r) more same → items ≡ more
pushed r x items more same e h = h ∙ ap (λ q. cond (is_ok q) more same) e

pub two_loops : (r : RdDef) (threads sizes : List ℕ) (loops : List (List ℕ)) → IsRd r → r.forrdpct ≡ [] → threads ≡ 1 ∷ 2 ∷ [] → sizes ≡ 4096 ∷ 8192 ∷ [] → loops ≡ words → IsRd (record r { forthreads = threads; forxfersize = sizes; loops = loops })
two_loops r threads sizes loops is percents these_threads these_sizes these_loops =
    let d : RdDef = record r { forthreads = threads; forxfersize = sizes; loops = loops } in
    record {
      elapsed = is.elapsed;
      interval = is.interval;
      iorate = is.iorate;
      fwdrate = is.fwdrate;
      turns = is.turns;
      forthreads = All-same (IsFrom 1 256) threads (1 ∷ 2 ∷ []) these_threads threads_are;
      forxfersize = All-same IsBlockSize sizes (4096 ∷ 8192 ∷ []) these_sizes sizes_are;
      forrdpct = is.forrdpct;
      few_workloads = is.few_workloads;
      few_file_workloads = is.few_file_workloads;
      few_threads = omega (arith, ap length these_threads);
      few_sizes = omega (arith, ap length these_sizes);
      few_percents = is.few_percents;
      loops =
          All-same (HasLoop d) loops words these_loops
          (All-cons (HasLoop d) (codes "forxfersize") (codes "forthreads" ∷ []) (inr (inl (refl, omega (arith, ap length these_sizes))))
          (All-cons (HasLoop d) (codes "forthreads") [] (inl (refl, omega (arith, ap length these_threads))) (All-nil (HasLoop d))));
      every_loop = λ word h. subst (λ ws. Contains ws word) (sym these_loops) (is_word d word percents h);
      loop_once = subst (AllPairs (λ (a b : List ℕ). a ≡ b → ⊥)) (sym these_loops) apart;
    }
