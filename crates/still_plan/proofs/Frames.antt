-- What stores, one behind the other, leave as it was.
use Rattle.std.proofs.Common.{◌≡◌, ℕ, suc, List, [], ◌∷◌, refl, sym, ◌∙◌, ap, subst, arith}
use Rattle.std.specs.Prelude.{All, map, unwrap_or, Option}
use Rattle.std.proofs.lemmas.List.Elements.{All-nil, All-cons, All-head, All-tail, All-map, All-contains}
use Rattle.vd_yard.specs.Kept.{Kept, kept_at, bytes_at}
use Rattle.vd_yard.specs.Contents.{file_block}
use Rattle.vd_yard.specs.Counts.{Counts, arm_faults, good_reads, good_writes}
use Rattle.vd_yard.specs.Yard.{YardSeen}
use Rattle.plan_types.specs.declared.store.StorePlan.{StorePlan}
use Rattle.still_store.specs.Frame.{BlocksStay, Keeps}
use Rattle.still_plan.specs.Frame.{AreApart, CountsStay, HasItsBlocks, IsPathOf, StoresStay}

pub keeps_same : (a b : YardSeen) → b ≡ a → Keeps a b
keeps_same a b e = subst (λ (y : YardSeen). Keeps a y) (sym e) (record {
  out = refl;
  tells = refl;
  later = omega arith;
  sources = λ path. omega arith;
  arms = λ path. omega arith;
  writes = λ path. omega arith;
  willing = λ w. w;
  files = λ kind path t. t;
})

pub keeps_then : (a b c : YardSeen) → Keeps a b → Keeps b c → Keeps a c
keeps_then a b c p q = record {
  out = q.out ∙ p.out;
  tells = q.tells ∙ p.tells;
  later = omega (arith, p.later, q.later);
  sources = λ path. omega (arith, p.sources path, q.sources path);
  arms = λ path. omega (arith, p.arms path, q.arms path);
  writes = λ path. omega (arith, p.writes path, q.writes path);
  willing = λ w. q.willing (p.willing w);
  files = λ kind path t. q.files kind path (p.files kind path t);
}

pub counts_same : (a b : YardSeen) (path : List ℕ) → b.counts ≡ a.counts → CountsStay a b path
counts_same a b path e = record { faults = ap (λ (c : Counts). arm_faults c path) e; reads = ap (λ (c : Counts). good_reads c path) e; writes = ap (λ (c : Counts). good_writes c path) e }

pub counts_then : (a b c : YardSeen) (path : List ℕ) → CountsStay a b path → CountsStay b c path → CountsStay a c path
counts_then a b c path p q = record { faults = q.faults ∙ p.faults; reads = q.reads ∙ p.reads; writes = q.writes ∙ p.writes }

-- ---- stores whose paths differ
unfoldable pub Differs : StorePlan → StorePlan → Type 0
Differs first store = first.path ≡ store.path → ⊥

pub apart_first : (first : StorePlan) (stores : List StorePlan) → AreApart (first ∷ stores) → All (Differs first) stores
unfolding Differs
apart_first first stores apart k d within = apart 0 (suc k) d (omega arith) (omega (arith, within))

pub apart_rest : (first : StorePlan) (stores : List StorePlan) → AreApart (first ∷ stores) → AreApart stores
apart_rest first stores apart i j d less within = apart (suc i) (suc j) d (omega (arith, less)) (omega (arith, within))

pub not_among : (first : StorePlan) (stores : List StorePlan) → All (Differs first) stores → IsPathOf stores first.path → ⊥
unfolding Differs
not_among first stores apart among =
    All-contains (λ (path : List ℕ). first.path ≡ path → ⊥) (map (λ (store : StorePlan). store.path) stores) first.path
    (All-map (λ (path : List ℕ). first.path ≡ path → ⊥) (λ (store : StorePlan). store.path) stores apart) among refl

pub among_first : (first : StorePlan) (stores : List StorePlan) (path : List ℕ) → path ≡ first.path → IsPathOf (first ∷ stores) path
among_first first stores path e = (0, omega arith, sym e)

pub among_rest : (first : StorePlan) (stores : List StorePlan) (path : List ℕ) → IsPathOf stores path → IsPathOf (first ∷ stores) path
among_rest first stores path (k, within, e) = (suc k, omega (arith, within), e)

-- ---- data
all_same : (stores : List StorePlan) (old new : Kept (List ℕ)) → new ≡ old → All (HasItsBlocks old new) stores
all_same [] old new e = All-nil (HasItsBlocks old new)
all_same (store ∷ stores) old new e =
    All-cons (HasItsBlocks old new) store stores
    (λ block within. ap (λ (k : Kept (List ℕ)). file_block store.id.geometry.block_size block (bytes_at k store.path)) e) (all_same stores old new e)

pub stores_same : (stores : List StorePlan) (old new : Kept (List ℕ)) → new ≡ old → StoresStay stores old new
stores_same stores old new e = record { blocks = all_same stores old new e; others = λ path other. ap (λ (k : Kept (List ℕ)). kept_at k path) e }

bytes_same : (a b : Kept (List ℕ)) (path : List ℕ) → kept_at b path ≡ kept_at a path → bytes_at b path ≡ bytes_at a path
bytes_same a b path e = ap (λ (o : Option (List ℕ)). unwrap_or o []) e

blocks_before : (a b c : Kept (List ℕ)) (store : StorePlan) → kept_at b store.path ≡ kept_at a store.path → HasItsBlocks b c store → HasItsBlocks a c store
blocks_before a b c store same p block within =
    p block within ∙ ap (λ (l : List ℕ). file_block store.id.geometry.block_size block l) (bytes_same a b store.path same)

all_before : (a b c : Kept (List ℕ)) (first : StorePlan) (stores : List StorePlan) → BlocksStay first a b → All (Differs first) stores → All (HasItsBlocks b c) stores → All (HasItsBlocks a c) stores
unfolding Differs
all_before a b c first [] stay apart p = All-nil (HasItsBlocks a c)
all_before a b c first (store ∷ stores) stay apart p =
    All-cons (HasItsBlocks a c) store stores
    (blocks_before a b c store (stay.others store.path (λ e. All-head (Differs first) store stores apart (sym e))) (All-head (HasItsBlocks b c) store stores p))
    (all_before a b c first stores stay (All-tail (Differs first) store stores apart) (All-tail (HasItsBlocks b c) store stores p))

pub stores_then : (a b c : Kept (List ℕ)) (first : StorePlan) (stores : List StorePlan) → AreApart (first ∷ stores) → BlocksStay first a b → StoresStay stores b c → StoresStay (first ∷ stores) a c
stores_then a b c first stores apart stay rest =
    let others = apart_first first stores apart in record {
      blocks = All-cons (HasItsBlocks a c) first stores
          (λ block within.
          ap (λ (l : List ℕ). file_block first.id.geometry.block_size block l) (bytes_same b c first.path (rest.others first.path (not_among first stores others)))
          ∙ stay.blocks block within)
          (all_before a b c first stores stay others rest.blocks);
      others = λ path other. rest.others path (λ among. other (among_rest first stores path among)) ∙ stay.others path (λ e. other (among_first first stores path e));
    }
