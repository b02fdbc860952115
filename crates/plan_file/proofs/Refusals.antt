-- A line that refuses a file.
use Rattle.std.proofs.Common.{◌≡◌, ap, List, Result, Ok, Err, IfOk, sym, subst, ℕ}
use Rattle.vd_outside.specs.declared.text.NoMemory.{NoMemory}
use Rattle.plan_types.specs.declared.plan.Plan.{Plan}
use Rattle.plan_file.specs.Files.{Gives, PlansTo, Stops, refused_by}
use Rattle.plan_file.specs.declared.file.Unplanned.{Unplanned}

pub refuses : (bytes text : List ℕ) (line : Result (List ℕ) NoMemory) (answer : Unplanned) → answer ≡ refused_by line → IfOk line (λ l. l ≡ text) → ((made : Result Plan (List ℕ)) → made ≡ Err text → PlansTo bytes made) → Gives bytes (Err answer)
refuses bytes text (Ok l) answer is same plans = subst (λ a. Gives bytes (Err a)) (sym is) (plans (Err l) (ap (λ t. Err t) same))
refuses bytes text (Err e) answer is same plans = subst (λ a. Gives bytes (Err a)) (sym is) tt

pub stops : (A : Type 0) (bytes text : List ℕ) (line : Result (List ℕ) NoMemory) (answer : Unplanned) → answer ≡ refused_by line → IfOk line (λ l. l ≡ text) → ((made : Result Plan (List ℕ)) → made ≡ Err text → PlansTo bytes made) → Stops {A = A} bytes (Err answer)
stops A bytes text (Ok l) answer is same plans = subst (λ a. Stops {A = A} bytes (Err a)) (sym is) (plans (Err l) (ap (λ t. Err t) same))
stops A bytes text (Err e) answer is same plans = subst (λ a. Stops {A = A} bytes (Err a)) (sym is) tt

-- the same text of a line, where its word is another name of the same
pub worded : (line : Result (List ℕ) NoMemory) (text_of : List ℕ → List ℕ) (word why : List ℕ) → word ≡ why → IfOk line (λ l. l ≡ text_of word) → IfOk line (λ l. l ≡ text_of why)
worded line text_of word why is h = subst (λ w. IfOk line (λ l. l ≡ text_of w)) is h
