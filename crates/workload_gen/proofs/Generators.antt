-- Words behind words.
use Rattle.std.proofs.Common.{◌≡◌, ℕ, zero, suc, ◌+◌, refl, ap, ◌∙◌, add-one, suc-add, zero-add}
use Rattle.rand_pcg.specs.Lcg.{Lcg, next_state, state_after}
use Rattle.rand_pcg.specs.Pcg.{multiplier_64, pcg32}
use Rattle.workload_gen.specs.Words.{behind_words, word_at}

-- a step after n steps is a step before them
step_after : (w m p n s : ℕ) → next_state w m p (state_after w m p n s) ≡ state_after w m p n (next_state w m p s)
unfolding state_after
step_after w m p zero s = refl
step_after w m p (suc n) s = step_after w m p n (next_state w m p s)

-- one step more
one_more : (w m p n s : ℕ) → next_state w m p (state_after w m p n s) ≡ state_after w m p (n + 1) s
unfolding state_after
one_more w m p n s = rw add-one (step_after w m p n s)

-- so many steps more
steps_more : (w m p n k s : ℕ) → state_after w m p k (state_after w m p n s) ≡ state_after w m p (n + k) s
unfolding state_after
steps_more w m p zero k s = rw zero-add refl
steps_more w m p (suc n) k s = rw suc-add (steps_more w m p n k (next_state w m p s))

no_steps : (w m p s : ℕ) → state_after w m p 0 s ≡ s
unfolding state_after
no_steps w m p s = refl

abbrev from_state : Lcg → ℕ → Lcg
from_state g s = record g { state = s }

-- no words leave a generator as it is
pub behind_none : (g : Lcg) → behind_words g 0 ≡ g
behind_none g = ap (from_state g) (no_steps 64 multiplier_64 g.increment g.state)

-- the generator that a word leaves
pub behind_one : (g : Lcg) (n : ℕ) → (pcg32 (behind_words g n)).1 ≡ behind_words g (n + 1)
behind_one g n = ap (from_state g) (one_more 64 multiplier_64 g.increment n g.state)

-- words behind words
pub behind_more : (g : Lcg) (n k : ℕ) → behind_words (behind_words g n) k ≡ behind_words g (n + k)
behind_more g n k = ap (from_state g) (steps_more 64 multiplier_64 g.increment n k g.state)

pub word_more : (g : Lcg) (n k : ℕ) → word_at (behind_words g n) k ≡ word_at g (n + k)
word_more g n k = ap (λ (h : Lcg). (pcg32 h).0) (behind_more g n k)

-- a word and the generator that it leaves, behind n words
pub step_to : (g h : Lcg) (n x : ℕ) (k : Lcg) → h ≡ behind_words g n → (x, k) ≡ pcg32 h → (x ≡ word_at g n) × (k ≡ behind_words g (n + 1))
step_to g h n x k is_h is =
    let at : (x, k) ≡ pcg32 (behind_words g n) = is ∙ ap pcg32 is_h in
    (ap (λ (p : ℕ × Lcg). p.0) at, ap (λ (p : ℕ × Lcg). p.1) at ∙ behind_one g n)
