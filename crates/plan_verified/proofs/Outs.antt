-- What is out besides the passes of stores.
use Rattle.std.proofs.Common.{◌≡◌, ℕ, ◌≤◌, List, [], ◌∷◌, ◌++◌, refl, sym, ◌∙◌, ap, arith}
use Rattle.plan_types.specs.declared.store.StorePlan.{StorePlan}
use Rattle.vd_yard.specs.Out.{AtPasses, Out, one_more, one_more_cancel, one_more_here, one_more_swap, out_at}
use Rattle.plan_verified.specs.Stores.{stores_out}

-- The order doesn't matter.
pub stores_out_one : (stores : List StorePlan) (path : List ℕ) (out : Out) → stores_out stores (one_more out AtPasses path) ≡ one_more (stores_out stores out) AtPasses path
stores_out_one [] path out = refl
stores_out_one (store ∷ stores) path out =
    ap (λ (o : Out). one_more o AtPasses store.path) (stores_out_one stores path out) ∙ one_more_swap (stores_out stores out) AtPasses AtPasses path store.path

pub stores_out_append : (stores others : List StorePlan) (out : Out) → stores_out (stores ++ others) out ≡ stores_out stores (stores_out others out)
stores_out_append [] others out = refl
stores_out_append (store ∷ stores) others out = ap (λ (o : Out). one_more o AtPasses store.path) (stores_out_append stores others out)

-- One store's passes are taken, then those of the others.
pub taken_then : (stores : List StorePlan) (store : StorePlan) (rest : List StorePlan) (a b c : Out) → stores ≡ store ∷ rest → b ≡ one_more a AtPasses store.path → c ≡ stores_out rest b → c ≡ stores_out stores a
taken_then stores store rest a b c e one more =
    more ∙ (ap (stores_out rest) one ∙ (stores_out_one rest store.path a ∙ ap (λ (s : List StorePlan). stores_out s a) (sym e)))

-- What was taken went back.
pub taken_back : (path : List ℕ) (a b c d : Out) → b ≡ one_more a AtPasses path → c ≡ b → c ≡ one_more d AtPasses path → d ≡ a
taken_back path a b c d one same back = one_more_cancel d a AtPasses path (sym back ∙ (same ∙ one))

-- It is out as long as the others didn't change that.
pub still_out : (path : List ℕ) (a b c : Out) → b ≡ one_more a AtPasses path → c ≡ b → 1 ≤ out_at c AtPasses path
still_out path a b c one same =
    let here = ap (λ (o : Out). out_at o AtPasses path) (same ∙ one) ∙ one_more_here a AtPasses path in
    omega (arith, here)
