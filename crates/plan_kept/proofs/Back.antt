-- What is kept of each store once the open passes of all hands went back.
use Rattle.std.proofs.Common.{◌≡◌, ◌∙◌, refl, sym, ap, subst, arith, inl, inr, ℕ, zero, suc, true, List, [], ◌∷◌, length}
use Rattle.std.specs.Prelude.{Option, Some, slice_get, unwrap_or}
use Rattle.std.specs.List.{range_with_len}
use Rattle.std.proofs.lemmas.Option.{none-some, same_Some}
use Rattle.vd_arm.specs.Arm.{PassSeen}
use Rattle.vd_yard.specs.Contents.{file_block, told_bytes}
use Rattle.vd_yard.specs.Kept.{Kept, bytes_at, keep_at_here, keep_at_other, kept_at}
use Rattle.vd_yard.specs.Yard.{YardSeen}
use Rattle.plan_types.specs.Valid.{IsPlan}
use Rattle.plan_types.specs.declared.plan.Plan.{Plan}
use Rattle.plan_types.specs.declared.store.StorePlan.{StorePlan}
use Rattle.key_state.specs.Entries.{entry_at}
use Rattle.block_verdict.specs.Fits.{BytesFit}
use Rattle.claim_table.specs.Sums.{Each}
use Rattle.slave_worker.specs.Hands.{HandSeen}
use Rattle.run_totals.proofs.Lists.{all_at, all_from, each_of_all, get_map}
use Rattle.run_totals.proofs.Stores.{one_path}
use Rattle.plan_hands.specs.Openings.{PassesBack, data_path, kept_after, one_kept}
use Rattle.plan_hands.specs.Stores.{AreStores, IsHandAt, book_of, passes_of, place_of}
use Rattle.plan_totals.specs.Sentences.{FileFits, HandFits}
use Rattle.plan_totals.proofs.Zips.{range_at}
use Rattle.plan_kept.proofs.Blocks.{told_fit}

module _ (plan : Plan) (yard : YardSeen) where
  abbrev path_of : HandSeen → List ℕ
  path_of hand = data_path (slice_get plan.stores (place_of hand))

  one_other : (path q : List ℕ) (passes : List PassSeen) (kept : Kept (List ℕ)) → (q ≡ path → ⊥) → kept_at (one_kept path passes kept yard) q ≡ kept_at kept q
  one_other path q [] kept apart = refl
  one_other path q (pass ∷ passes) kept apart = keep_at_other yard.tells.keeps_contents kept path (told_bytes (pass ∷ passes)) q apart

  all_other : (q : List ℕ) (hands : List HandSeen) (kept : Kept (List ℕ)) → Each (λ (hand : HandSeen). q ≡ path_of hand → ⊥) hands → kept_at (kept_after plan yard hands kept) q ≡ kept_at kept q
  all_other q [] kept apart = refl
  all_other q (hand ∷ hands) kept apart = all_other q hands (one_kept (path_of hand) (passes_of hand) kept yard) apart.1 ∙ one_other (path_of hand) q (passes_of hand) kept apart.0

  -- what stands at a path where these passes went back
  abbrev stands : List PassSeen → Option (List ℕ) → Option (List ℕ)
  stands [] was = was
  stands (pass ∷ passes) was = Some (told_bytes (pass ∷ passes))

  one_here : (path : List ℕ) (passes : List PassSeen) (kept : Kept (List ℕ)) → yard.tells.keeps_contents ≡ true → kept_at (one_kept path passes kept yard) path ≡ stands passes (kept_at kept path)
  one_here path [] kept tells = refl
  one_here path (pass ∷ passes) kept tells = keep_at_here yard.tells.keeps_contents kept path (told_bytes (pass ∷ passes)) tells

  abbrev Apart : HandSeen → List HandSeen → ℕ → Type 0
  Apart hand hands i = (j : ℕ) (other : HandSeen) → slice_get hands j ≡ Some other → (j ≡ i → ⊥) → path_of hand ≡ path_of other → ⊥

  all_here : (hands : List HandSeen) (i : ℕ) (hand : HandSeen) (kept : Kept (List ℕ)) → yard.tells.keeps_contents ≡ true → slice_get hands i ≡ Some hand → Apart hand hands i
      → kept_at (kept_after plan yard hands kept) (path_of hand) ≡ stands (passes_of hand) (kept_at kept (path_of hand))
  all_here [] i hand kept tells at apart = absurd (none-some hand at)
  all_here (x ∷ hands) zero hand kept tells at apart =
      let same : x ≡ hand = same_Some x hand at in
      let others = each_of_all (λ (other : HandSeen). path_of hand ≡ path_of other → ⊥) hands
      (all_from (λ (other : HandSeen). path_of hand ≡ path_of other → ⊥) hands (λ j other there. apart (suc j) other there (λ is. absurd (omega (arith, is))))) in
      all_other (path_of hand) hands (one_kept (path_of x) (passes_of x) kept yard) others
      ∙ ap (λ (h : HandSeen). kept_at (one_kept (path_of h) (passes_of h) kept yard) (path_of hand)) same
      ∙ one_here (path_of hand) (passes_of hand) kept tells
  all_here (x ∷ hands) (suc i) hand kept tells at apart =
      let first = one_other (path_of x) (path_of hand) (passes_of x) kept (apart 0 x refl (λ is. absurd (omega (arith, is)))) in
      all_here hands i hand (one_kept (path_of x) (passes_of x) kept yard) tells at (λ j other there less. apart (suc j) other there (λ is. less (omega (arith, is))))
      ∙ ap (stands (passes_of hand)) first

-- The bytes that are kept of a store fit its book, once all passes of a valid plan's stores went back, where those of its hand did.
module _ (plan : Plan) (valid : IsPlan plan) (hands : List HandSeen) (stores : AreStores plan hands) where
  place_at : (i : ℕ) (hand : HandSeen) → slice_get hands i ≡ Some hand → place_of hand ≡ i
  place_at i hand at =
      let its : slice_get (range_with_len 0 (length plan.stores)) i ≡ Some (place_of hand) = ap (λ (l : List ℕ). slice_get l i) (sym stores.places) ∙ get_map place_of hands i hand at in
      omega (arith, range_at 0 (length plan.stores) i (place_of hand) its)

  its_path : (i : ℕ) (hand : HandSeen) (store : StorePlan) → slice_get hands i ≡ Some hand → slice_get plan.stores i ≡ Some store → data_path (slice_get plan.stores (place_of hand)) ≡ store.path
  its_path i hand store at there = ap (λ (n : ℕ). data_path (slice_get plan.stores n)) (place_at i hand at) ∙ ap data_path there

  of_hand : (i : ℕ) (hand : HandSeen) → slice_get hands i ≡ Some hand → (store : StorePlan) × (slice_get plan.stores i ≡ Some store)
  of_hand i hand at =
      let is : IsHandAt plan hand = all_at (IsHandAt plan) hands i hand stores.each at in
      (is.its.0, ap (λ (n : ℕ). slice_get plan.stores n) (sym (place_at i hand at)) ∙ is.its.1)

  -- As many passes as blocks, where they are open.
  as_many : (i : ℕ) (hand : HandSeen) (store : StorePlan) → slice_get hands i ≡ Some hand → slice_get plan.stores i ≡ Some store → (passes_of hand ≡ [] → ⊥) → length (passes_of hand) ≡ store.id.geometry.blocks
  as_many i hand store at there some =
      let is : IsHandAt plan hand = all_at (IsHandAt plan) hands i hand stores.each at in
      let its : is.its.0 ≡ store = same_Some is.its.0 store (sym is.its.1 ∙ ap (λ (n : ℕ). slice_get plan.stores n) (place_at i hand at) ∙ there) in
      elim is.its.2.0 [
        | inl none ↦ absurd (some none)
        | inr passes ↦ passes.many ∙ ap (λ (s : StorePlan). s.id.geometry.blocks) its
      ]

  module _ (old new : YardSeen) (back : PassesBack plan hands old new) (tells : old.tells.keeps_contents ≡ true) where
    kept_here : (i : ℕ) (hand : HandSeen) (store : StorePlan) → slice_get hands i ≡ Some hand → slice_get plan.stores i ≡ Some store → kept_at new.contents store.path ≡ stands plan old (passes_of hand) (kept_at old.contents store.path)
    kept_here i hand store at there =
        let path = its_path i hand store at there in
        let here = all_here plan old hands i hand old.contents tells at (λ j other there_too less same.
        let its = of_hand j other there_too in
        let one : store.path ≡ its.0.path = sym path ∙ same ∙ its_path j other its.0 there_too its.1 in
        less (sym (one_path plan.stores valid.paths i j store its.0 there its.1 one))) in
        ap (λ (k : Kept (List ℕ)). kept_at k store.path) back.contents
        ∙ subst (λ (p : List ℕ). kept_at (kept_after plan old hands old.contents) p ≡ stands plan old (passes_of hand) (kept_at old.contents p)) path here

    back_by : (i : ℕ) (hand : HandSeen) (store : StorePlan) (passes : List PassSeen) → passes_of hand ≡ passes → slice_get hands i ≡ Some hand → slice_get plan.stores i ≡ Some store → HandFits old.contents store hand → FileFits new.contents store hand
    back_by i hand store [] is at there fit block within =
        let same : bytes_at new.contents store.path ≡ bytes_at old.contents store.path =
        ap (λ (o : Option (List ℕ)). unwrap_or o []) (kept_here i hand store at there ∙ ap (λ (l : List PassSeen). stands plan old l (kept_at old.contents store.path)) is) in
        subst (λ (l : List ℕ). BytesFit store.id block (entry_at (book_of hand).now block) (file_block store.id.geometry.block_size block l)) (sym same) (fit.1 is block within)
    back_by i hand store (pass ∷ passes) is at there fit block within =
        let some : passes_of hand ≡ [] → ⊥ = λ none. absurd (let so : pass ∷ passes ≡ [] = sym is ∙ none in cc) in
        let same : bytes_at new.contents store.path ≡ told_bytes (passes_of hand) =
        ap (λ (o : Option (List ℕ)). unwrap_or o []) (kept_here i hand store at there ∙ ap (λ (l : List PassSeen). stands plan old l (kept_at old.contents store.path)) is) ∙ ap told_bytes (sym is) in
        subst (λ (l : List ℕ). BytesFit store.id block (entry_at (book_of hand).now block) (file_block store.id.geometry.block_size block l)) (sym same)
        (told_fit store.id (book_of hand).now (passes_of hand) fit.0 block (omega (arith, within, as_many i hand store at there some)))

    pub back_fits : (i : ℕ) (hand : HandSeen) (store : StorePlan) → slice_get hands i ≡ Some hand → slice_get plan.stores i ≡ Some store → HandFits old.contents store hand → FileFits new.contents store hand
    back_fits i hand store at there fit = back_by i hand store (passes_of hand) refl at there fit
