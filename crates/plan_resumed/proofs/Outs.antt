-- What is out while stores are verified and their journals open.
use Rattle.std.proofs.Common.{◌≡◌, ◌∙◌, refl, sym, ap, subst, arith, ℕ, ◌+◌, ◌<◌, List, [], ◌∷◌, length, take, Some, slice_get, suc}
use Rattle.std.proofs.lemmas.List.{take_all}
use Rattle.vd_arm.specs.Arm.{PassSeen}
use Rattle.vd_yard.specs.Out.{AtPasses, Out, one_more, one_more_cancel}
use Rattle.vd_yard.specs.Yard.{YardSeen}
use Rattle.plan_types.specs.Valid.{IsPlan}
use Rattle.plan_types.specs.declared.plan.Plan.{Plan}
use Rattle.plan_types.specs.declared.store.StorePlan.{StorePlan}
use Rattle.key_state.specs.declared.seen.BookSeen.{BookSeen}
use Rattle.plan_hands.specs.Openings.{data_path, one_out, passes_out}
use Rattle.plan_journals.specs.Open.{JournalsAreOut, Start, journals_are_out, out_besides}
use Rattle.plan_journals.proofs.Closings.{out_in_any_order}
use Rattle.plan_reopened.specs.Reopening.{StandReopened}
use Rattle.plan_runs.proofs.Opened.{some_blocks}
use Rattle.plan_verified.specs.Back.{StoresBack}
use Rattle.plan_verified.specs.Stores.{StoreSeen, passes_of, stores_out}
use Rattle.plan_resumed.specs.Going.{VerifiedAreOut}
use Rattle.plan_resumed.specs.Seating.{ArePassed, seated_from, with_passes}

-- Passes and disks are out in any order; what is out besides passes is known by all that is out.
stores_out_besides : (stores others : List StorePlan) (out : Out) → stores_out stores (out_besides out others) ≡ out_besides (stores_out stores out) others
stores_out_besides [] others out = refl
stores_out_besides (store ∷ stores) others out =
    ap (λ (o : Out). one_more o AtPasses store.path) (stores_out_besides stores others out) ∙ sym (out_in_any_order (stores_out stores out) AtPasses store.path others)

stores_out_cancel : (stores : List StorePlan) (a b : Out) → stores_out stores a ≡ stores_out stores b → a ≡ b
stores_out_cancel [] a b is = is
stores_out_cancel (store ∷ stores) a b is = stores_out_cancel stores a b (one_more_cancel (stores_out stores a) (stores_out stores b) AtPasses store.path is)

-- The disks are out, as they are recovered, and then the passes.
pub looked_out : (stores : List StorePlan) (plan : Plan) (before mid out : Out) → stores ≡ plan.stores → mid ≡ out_besides before stores → out ≡ stores_out stores mid → VerifiedAreOut plan before out
looked_out stores plan before mid out all recovered looked =
    subst (λ (l : List StorePlan). out ≡ stores_out l (out_besides before l)) all (looked ∙ ap (stores_out stores) recovered)

module _ (plan : Plan) (stores : List StorePlan) (all : stores ≡ plan.stores) (before : Out) (a : YardSeen) (is : VerifiedAreOut plan before a.out) where
  here : a.out ≡ stores_out stores (out_besides before stores)
  here = subst (λ (l : List StorePlan). a.out ≡ stores_out l (out_besides before l)) (sym all) is

  pub journals_out : JournalsAreOut a.out stores
  journals_out = journals_are_out (stores_out stores before) (here ∙ stores_out_besides stores stores before)

  -- The passes went back: the disks are out.
  pub disks_out : (left : List StoreSeen) (d : YardSeen) (n : ℕ) → StoresBack stores left a d → n ≡ length stores → d.out ≡ out_besides before (take n stores)
  disks_out left d n back many =
      stores_out_cancel stores d.out (out_besides before stores) (sym back.out ∙ here) ∙ ap (out_besides before) (sym (take_all n stores (omega (arith, many))))

  module _ (b : YardSeen) (starts : List Start) (many : ℕ) (books : List BookSeen) (stands : StandReopened a b stores starts many books) where
    pub open_out : b.out ≡ stores_out stores (out_besides before (take many stores))
    open_out = stands.out (stores_out stores before) (here ∙ stores_out_besides stores stores before) ∙ sym (stores_out_besides stores (take many stores) before)

    pub left_out : (left : List StoreSeen) (d : YardSeen) → StoresBack stores left b d → d.out ≡ out_besides before (take many stores)
    left_out left d back = stores_out_cancel stores d.out (out_besides before (take many stores)) (sym back.out ∙ open_out)

-- The passes in hands are those of the stores.
one_is_out : (path : List ℕ) (passes : List PassSeen) (out : Out) → 0 < length passes → one_out path passes out ≡ one_more out AtPasses path
one_is_out path [] out some = absurd (omega (arith, some))
one_is_out path (pass ∷ passes) out some = refl

module _ (plan : Plan) (valid : IsPlan plan) where
  seated_out : (n : ℕ) (stores : List StorePlan) (left : List StoreSeen) (books : List BookSeen) (out : Out) → ArePassed stores left → length left ≡ length books → ((i : ℕ) (store : StorePlan) → slice_get stores i ≡ Some store → slice_get plan.stores (n + i) ≡ Some store)
      → passes_out plan (seated_from n left books) out ≡ stores_out stores out
  seated_out n [] [] [] out passed many at = refl
  seated_out n [] [] (b ∷ books) out passed many at = refl
  seated_out n [] (l ∷ left) books out passed many at = absurd passed
  seated_out n (store ∷ stores) [] books out passed many at = absurd passed
  seated_out n (store ∷ stores) (l ∷ left) [] out passed many at = absurd (omega (arith, many))
  seated_out n (store ∷ stores) (l ∷ left) (b ∷ books) out passed many at =
      let same : n ≡ n + 0 = omega arith in
      let first : slice_get plan.stores n ≡ Some store = ap (λ (k : ℕ). slice_get plan.stores k) same ∙ at 0 store refl in
      let some : 0 < length (passes_of l) = omega (arith, passed.0.as_many, some_blocks plan valid n store first) in
      let rest = seated_out (n + 1) stores left books out passed.1 (omega (arith, many)) (λ i other is. let next : n + 1 + i ≡ n + suc i = omega arith in ap (λ (k : ℕ). slice_get plan.stores k) next ∙ at (suc i) other is) in
      ap (λ (o : _). one_out (data_path o) (passes_of l) (passes_out plan (seated_from (n + 1) left books) out)) first
      ∙ one_is_out store.path (passes_of l) (passes_out plan (seated_from (n + 1) left books) out) some
      ∙ ap (λ (o : Out). one_more o AtPasses store.path) rest

  pub hands_out : (left : List StoreSeen) (books : List BookSeen) (out : Out) → ArePassed plan.stores left → length left ≡ length books → passes_out plan (with_passes left books) out ≡ stores_out plan.stores out
  hands_out left books out passed many =
      seated_out 0 plan.stores left books out passed many (λ i store is. let same : 0 + i ≡ i = omega arith in ap (λ (k : ℕ). slice_get plan.stores k) same ∙ is)
