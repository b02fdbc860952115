-- What words without a parameter file come to.
use Rattle.std.proofs.Common.{◌≡◌, ℕ, List, [], true, false, refl, sym, ◌∙◌, subst, Result, Ok, Err, IfOk}
use Rattle.std.specs.Prelude.{Some, None, ◌≢◌}
use Rattle.vd_outside.specs.declared.text.NoMemory.{NoMemory}
use Rattle.interleave_core.specs.declared.summary.Summary.{Summary}
use Rattle.interleave_core.specs.Schedule.{Simulates}
use Rattle.run_report.specs.declared.status.Status.{Status}
use Rattle.run_report.specs.declared.status.Status.TheVariants as status
use Rattle.run_report.specs.Lines.{usage_text}
use Rattle.run_report.specs.Simulation.{simulation_text}
use Rattle.run_report.specs.Says.{Printing, Says, says_along}
use Rattle.still_plan.specs.Lines.{SaysLine}
use Rattle.vdbench_top.specs.Simulation.{simulated, IsSimulated, counted, too_little_memory, SaidOfWords, no_command, schedule}
use Rattle.run_report.specs.Status.{last_text}
use Rattle.vdbench_top.specs.Still.{Ends}
use Rattle.vdbench_top.specs.Words.{steps_of}
use Rattle.vdbench_top.proofs.Tellings.{ends_by}

pub simulated_by : (n : ℕ) (counts : Summary) (line : Result (List ℕ) NoMemory) (result : Status) (a b : Printing) → Simulates n counts → IfOk line (λ l. l ≡ simulation_text (simulated n counts)) → SaysLine line status.Good result a b → (text : List ℕ) × Says a b text × IsSimulated n text result
simulated_by n counts (Ok line) result a b s e p = (line, p.1, counted counts s e p.0)
simulated_by n counts (Err f) result a b s e p = ([], p.1, too_little_memory refl p.0)

some_none : (n : ℕ) → Some n ≡ None → ⊥
some_none n e = cc

same_some : (m n : ℕ) → Some m ≡ Some n → m ≡ n
same_some m n e = cc

pub said_usage : (words : List (List ℕ)) (text : List ℕ) (result : Status) → SaidOfWords words text result → steps_of words ≡ None → (text ≡ usage_text) × (result ≡ status.Usage)
said_usage words text result (no_command e t r) none = (t, r)
said_usage words text result (schedule n e s) none = absurd (some_none n (sym e ∙ none))

pub said_steps : (words : List (List ℕ)) (text : List ℕ) (result : Status) (n : ℕ) → SaidOfWords words text result → steps_of words ≡ Some n → IsSimulated n text result
said_steps words text result n (no_command e t r) is = absurd (some_none n (sym is ∙ e))
said_steps words text result n (schedule m e s) is = subst (λ (k : ℕ). IsSimulated k text result) (same_some m n (sym e ∙ is)) s

-- a schedule ends well or for want of memory
pub not_this : (n : ℕ) (text : List ℕ) (result other : Status) → IsSimulated n text result → status.Good ≢ other → status.NoMemory ≢ other → result ≡ other → ⊥
not_this n text result other (counted counts s e r) g m is = g (sym r ∙ is)
not_this n text result other (too_little_memory e r) g m is = m (sym r ∙ is)

usage_no_sink : status.Usage ≡ status.Sink → ⊥
usage_no_sink e = cc

pub ends_usage : (a b c : Printing) (text : List ℕ) (said result : Status) → text ≡ usage_text → said ≡ status.Usage → Says a b text → Says b c (last_text said) → (c.failed ≡ true → result ≡ status.Sink) → (c.failed ≡ false → result ≡ said) → Ends usage_text status.Usage result a.taken c.taken
ends_usage a b c text said result t s p q f g =
    subst (λ (x : Status). Ends usage_text x result a.taken c.taken) s
    (ends_by a b c usage_text said result (says_along a b text usage_text t p) q f g (λ e. absurd (usage_no_sink (sym s ∙ e))))
