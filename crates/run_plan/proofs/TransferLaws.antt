-- The transfers of shares beside the blocks of their stores.
use Rattle.std.proofs.Common.{◌≡◌, inl, inr, ℕ, zero, suc, List, [], ◌∷◌, ◌++◌, ◌+◌, ◌*◌, ◌/◌, ◌%◌, ◌<◌, ◌≤◌, Bool, true, false, cond, All, Option, Some, None, IfSome, Ok, filter, get_or, length, map, slice_get, ap, refl, sym, subst, ◌∙◌, arith}
use Rattle.std.specs.Prelude.{◌==◌, ◌||◌, ◌&&◌, nat_le, nat_lt, not}
use Rattle.std.specs.List.{list_all, list_any}
use Rattle.std.proofs.Math.Nat.{mul-zero}
use Rattle.std.proofs.lemmas.Bool.{cases_lt, eqb-false, eqb-true, leb-true, ltb-false}
use Rattle.std.proofs.lemmas.List.Elements.{All-cons, All-head, All-nil, All-tail}
use Rattle.parm_records.specs.Ranges.{IsBlockSize}
use Rattle.parm_records.specs.declared.stores.SdDef.{SdDef}
use Rattle.plan_types.specs.Valid.{IsShare, IsTransferOf, blocks_of}
use Rattle.plan_types.specs.declared.run.Share.{Share}
use Rattle.plan_types.specs.declared.store.StorePlan.{StorePlan}
use Rattle.run_plan.specs.declared.fault.PlanKind.TheVariants.{BlocksMany, SizeSmall, TransferNotMultiple}
use Rattle.run_plan.specs.declared.runs.Draft.{Draft}
use Rattle.run_plan.specs.Drafts.{IsDraft}
use Rattle.run_plan.specs.Outcomes.{in_turn}
use Rattle.run_plan.specs.Sizes.{block_size_of, blocks_in, is_whole, size_kind, sizes_in, store_at, store_of, transfers_of}
use Rattle.run_plan.proofs.BlockSizes.{transfers_are}
use Rattle.run_plan.proofs.ReadyLaws.{IsPart, none_any, split}
use Rattle.run_plan.proofs.ShareLaws.{unless_ok}

left_yes : (a b : Bool) → (a && b) ≡ true → a ≡ true
left_yes true b e = refl
left_yes false b e = absurd (cc)

right_yes : (a b : Bool) → (a && b) ≡ true → b ≡ true
right_yes true b e = e
right_yes false b e = absurd (cc)

right_none : (a b : Bool) → (a || b) ≡ false → b ≡ false
right_none true b e = absurd (cc)
right_none false b e = e

all_true : {A : Type 0} (p : A → Bool) (xs : List A) → list_all p xs ≡ true → All (λ x. p x ≡ true) xs
all_true p [] e = All-nil (λ x. p x ≡ true)
all_true p (x ∷ xs) e = All-cons (λ y. p y ≡ true) x xs (left_yes (p x) (list_all p xs) e) (all_true p xs (right_yes (p x) (list_all p xs) e))

sizes_none : (a b c : Bool) → cond (not a) (Some TransferNotMultiple) (cond b (Some SizeSmall) (cond c (Some BlocksMany) None)) ≡ None → (a ≡ true) × (b ≡ false)
sizes_none true true c e = absurd (cc)
sizes_none true false c e = (refl, refl)
sizes_none false b c e = absurd (cc)

some_part : (t bs : ℕ) → 0 < t → t % bs ≡ 0 → 1 ≤ t / bs
some_part t bs some whole =
    elim (cases_lt (t / bs) 1) [
      | inl h ↦
          let none : t / bs ≡ 0 = omega arith in
          let nothing : bs * (t / bs) ≡ 0 = ap (λ q. bs * q) none ∙ mul-zero bs in
          let sum : bs * (t / bs) + t % bs ≡ t = omega arith in
          absurd (omega arith)
      | inr h ↦ h
    ]

transfer_is : (store : StorePlan) (t : ℕ) → is_whole store.id.geometry.block_size t ≡ true → nat_lt store.id.geometry.blocks (t / store.id.geometry.block_size) ≡ false → IsBlockSize t → IsTransferOf store t
transfer_is store t whole below is =
    let bs = store.id.geometry.block_size in
    let multiple = eqb-true (t % bs) 0 (left_yes (t % bs == 0) (nat_le (t / bs) 64) whole) in
    record {
      whole = multiple;
      many = record { at_least = some_part t bs (omega (arith, is.range.at_least)) multiple; at_most = leb-true (t / bs) 64 (right_yes (t % bs == 0) (nat_le (t / bs) 64) whole) };
      within = ltb-false store.id.geometry.blocks (t / bs) below;
    }

sized : (before blocks bs : ℕ) (transfers : List ℕ) (d : SdDef) → size_kind before blocks bs transfers ≡ None → All IsBlockSize transfers → All (IsTransferOf (store_of d blocks bs)) transfers
sized before blocks bs transfers d e all =
    let small = blocks == 0 || list_any (λ transfer. nat_lt blocks (transfer / bs)) transfers in
    let h = sizes_none (list_all (is_whole bs) transfers) small (nat_lt 16777216 (before + blocks)) e in
    let whole = all_true (is_whole bs) transfers h.0 in
    let below = none_any (λ transfer. nat_lt blocks (transfer / bs)) transfers (right_none (blocks == 0) _ h.1) in
    λ k x inside. transfer_is (store_of d blocks bs) (get_or transfers k x) (whole k x inside) (below k x inside) (all k x inside)

-- each store, from a place on, with the transfers of its place
abbrev AllFit : List Draft → ℕ → List StorePlan → Type 0
AllFit drafts n [] = Unit {0}
AllFit drafts n (store ∷ stores) = All (IsTransferOf store) (transfers_of n drafts) × AllFit drafts (n + 1) stores

fit_push : (drafts : List Draft) (n : ℕ) (done : List StorePlan) (store : StorePlan) → AllFit drafts n done → All (IsTransferOf store) (transfers_of (n + length done) drafts) → AllFit drafts n (done ++ store ∷ [])
fit_push drafts n [] store fits here = let e : n + 0 ≡ n = omega arith in (subst (λ m. All (IsTransferOf store) (transfers_of m drafts)) e here, tt)
fit_push drafts n (first ∷ done) store fits here =
    let e : n + suc (length done) ≡ n + 1 + length done = omega arith in
    (fits.0, fit_push drafts (n + 1) done store fits.1 (subst (λ m. All (IsTransferOf store) (transfers_of m drafts)) e here))

fit_at : (drafts : List Draft) (n : ℕ) (stores : List StorePlan) → AllFit drafts n stores → (k : ℕ) → IfSome (slice_get stores k) (λ store. All (IsTransferOf store) (transfers_of (n + k) drafts))
fit_at drafts n [] fits k = tt
fit_at drafts n (store ∷ stores) fits zero = let e : n ≡ n + 0 = omega arith in subst (λ m. All (IsTransferOf store) (transfers_of m drafts)) e fits.0
fit_at drafts n (store ∷ stores) fits (suc k) =
    let e : n + 1 + k ≡ n + suc k = omega arith in
    subst (λ m. IfSome (slice_get stores k) (λ s. All (IsTransferOf s) (transfers_of m drafts))) e (fit_at drafts (n + 1) stores fits.1 k)

store_fits : (drafts : List Draft) → All IsDraft drafts → (done : List StorePlan) (d : SdDef) (ys : List StorePlan) → AllFit drafts 0 done → store_at drafts done d ≡ Ok ys → AllFit drafts 0 (done ++ ys)
store_fits drafts all done d ys fits e =
    let transfers = transfers_of (length done) drafts in
    let bs = block_size_of d transfers in
    let blocks = blocks_in d bs in
    let h = unless_ok d.line (size_kind (blocks_of done) blocks bs transfers) (Ok (store_of d blocks bs ∷ [])) ys e in
    let same : store_of d blocks bs ∷ [] ≡ ys = cc (h.1) in
    let zero_more : 0 + length done ≡ length done = omega arith in
    subst (λ more. AllFit drafts 0 (done ++ more)) same
    (fit_push drafts 0 done (store_of d blocks bs) fits
    (subst (λ n. All (IsTransferOf (store_of d blocks bs)) (transfers_of n drafts)) (sym zero_more)
    (sized (blocks_of done) blocks bs transfers d h.0 (transfers_are (length done) drafts all))))

stores_fit : (drafts : List Draft) → All IsDraft drafts → (done : List StorePlan) (sds : List SdDef) (zs : List StorePlan) → AllFit drafts 0 done → in_turn (store_at drafts) done sds ≡ Ok zs → AllFit drafts 0 zs
stores_fit drafts all done [] zs fits e = let same : done ≡ zs = cc in subst (AllFit drafts 0) same fits
stores_fit drafts all done (d ∷ sds) zs fits e =
    let one = split (store_at drafts done d) _ zs e in
    stores_fit drafts all (done ++ one.0) sds zs (store_fits drafts all done d one.0 fits one.1) one.2

front : {A : Type 0} (Q : A → Type 0) (xs ys : List A) → All Q (xs ++ ys) → All Q xs
front Q [] ys all = All-nil Q
front Q (x ∷ xs) ys all = All-cons Q x xs (All-head Q x (xs ++ ys) all) (front Q xs ys (All-tail Q x (xs ++ ys) all))

back : {A : Type 0} (Q : A → Type 0) (xs ys : List A) → All Q (xs ++ ys) → All Q ys
back Q [] ys all = all
back Q (x ∷ xs) ys all = back Q xs ys (All-tail Q x (xs ++ ys) all)

one_size : (Q : ℕ → Type 0) (store : ℕ) (share : Share) (shares : List Share) (b : Bool) → b ≡ (share.store == store) → All Q (map (λ (s : Share). s.xfersize) (cond b (share ∷ filter (λ (s : Share). s.store == store) shares) (filter (λ (s : Share). s.store == store) shares))) → (All Q (sizes_in store shares) → All (λ (s : Share). s.store ≡ store → Q s.xfersize) shares) → All (λ (s : Share). s.store ≡ store → Q s.xfersize) (share ∷ shares)
one_size Q store share shares true is all rest =
    All-cons (λ (s : Share). s.store ≡ store → Q s.xfersize) share shares
    (λ same. All-head Q share.xfersize (sizes_in store shares) all) (rest (All-tail Q share.xfersize (sizes_in store shares) all))
one_size Q store share shares false is all rest =
    All-cons (λ (s : Share). s.store ≡ store → Q s.xfersize) share shares
    (λ same. absurd (eqb-false share.store store (sym is) same)) (rest all)

from_sizes : (Q : ℕ → Type 0) (store : ℕ) (shares : List Share) → All Q (sizes_in store shares) → All (λ (share : Share). share.store ≡ store → Q share.xfersize) shares
from_sizes Q store [] all = All-nil (λ (share : Share). share.store ≡ store → Q share.xfersize)
from_sizes Q store (share ∷ shares) all = one_size Q store share shares (share.store == store) refl all (λ h. from_sizes Q store shares h)

from_flat : (Q : ℕ → Type 0) (store : ℕ) (drafts : List Draft) → All Q (transfers_of store drafts) → All (λ (draft : Draft). All (λ (share : Share). share.store ≡ store → Q share.xfersize) draft.run.shares) drafts
from_flat Q store [] all = All-nil (λ (draft : Draft). All (λ (share : Share). share.store ≡ store → Q share.xfersize) draft.run.shares)
from_flat Q store (draft ∷ drafts) all =
    All-cons (λ (x : Draft). All (λ (share : Share). share.store ≡ store → Q share.xfersize) x.run.shares) draft drafts
    (from_sizes Q store draft.run.shares (front Q (sizes_in store draft.run.shares) (transfers_of store drafts) all))
    (from_flat Q store drafts (back Q (sizes_in store draft.run.shares) (transfers_of store drafts) all))

at_store : (o : Option StorePlan) (store : ℕ) (drafts : List Draft) → IfSome o (λ s. All (IsTransferOf s) (transfers_of store drafts)) → All (λ (draft : Draft). All (λ (share : Share). share.store ≡ store → IfSome o (λ s. IsTransferOf s share.xfersize)) draft.run.shares) drafts
at_store (Some s) store drafts h = from_flat (IsTransferOf s) store drafts h
at_store None store drafts h = λ i d inside j x within same. tt

-- each share's transfer fits its store
pub shares_fit : (drafts : List Draft) (sds : List SdDef) (stores : List StorePlan) → All IsDraft drafts → in_turn (store_at drafts) [] sds ≡ Ok stores → All (λ (draft : Draft). All (λ (share : Share). IfSome (slice_get stores share.store) (λ s. IsTransferOf s share.xfersize)) draft.run.shares) drafts
shares_fit drafts sds stores all e =
    let fits = stores_fit drafts all [] sds stores tt e in
    λ i d inside j x within.
    let share = get_or (get_or drafts i d).run.shares j x in
    let zero_more : 0 + share.store ≡ share.store = omega arith in
    at_store (slice_get stores share.store) share.store drafts
    (subst (λ n. IfSome (slice_get stores share.store) (λ s. All (IsTransferOf s) (transfers_of n drafts))) zero_more (fit_at drafts 0 stores fits share.store))
    i d inside j x within refl

-- the shares of a run in a plan
pub shares_are : (stores : List StorePlan) (shares : List Share) → All (IsPart (length stores)) shares → All (λ (share : Share). IfSome (slice_get stores share.store) (λ s. IsTransferOf s share.xfersize)) shares → All (IsShare stores) shares
shares_are stores shares parts fits =
    λ i d inside.
    let part = parts i d inside in
    let few = part.xfersize.range.at_most in
    record { store = part.store; transfer = fits i d inside; xfersize = few; rdpct = part.rdpct; seekpct = part.seekpct; weight = record { at_least = part.weight.at_least; at_most = part.weight.at_most } }
