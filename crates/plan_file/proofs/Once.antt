-- A file has one outcome.
use Rattle.std.proofs.Common.{◌≡◌, ℕ, List, Result, Ok, Err, ap, refl, sym, ◌∙◌}
use Rattle.parm_lex.specs.Lines.{FileAt, FilesAreRead, FilesAreReadOnce}
use Rattle.parm_lex.specs.declared.fault.LexFault.{LexFault}
use Rattle.parm_lex.specs.declared.line.ParmLine.{ParmLine}
use Rattle.parm_records.specs.Ranges.{Defs}
use Rattle.parm_defs.specs.File.{Read, read_of}
use Rattle.parm_defs.specs.Laws.{RecordsShowAll, ShownTells}
use Rattle.parm_defs.specs.Records.{shown}
use Rattle.parm_defs.specs.declared.fault.ParmFault.{ParmFault}
use Rattle.plan_types.specs.declared.plan.Plan.{Plan}
use Rattle.run_plan.specs.Plans.{plan_at}
use Rattle.run_plan.specs.declared.fault.PlanFault.{PlanFault}
use Rattle.run_report.specs.Plans.{parameter_column_text, parameter_text}
use Rattle.plan_file.specs.Files.{AlwaysPlans, PlansOnce, PlansTo, planned, undefined, unread, without_plan}
use Rattle.plan_file.specs.Words.{defs_word, lex_word, plan_word}

abbrev same_result : {A F : Type 0} → Result A F → Result A F → Type 0
same_result a b = a ≡ b

ok_same : {A F : Type 0} {x y : A} → same_result {A = A} {F = F} (Ok x) (Ok y) → x ≡ y
ok_same h = cc

err_same : {A F : Type 0} {f g : F} → same_result {A = A} {F = F} (Err f) (Err g) → f ≡ g
err_same h = cc

err_no_ok : {A F : Type 0} {f : F} {y : A} → same_result {A = A} {F = F} (Err f) (Ok y) → ⊥
err_no_ok h = cc

abbrev unread_line : LexFault → Result Plan (List ℕ)
unread_line fault = Err (parameter_column_text fault.line fault.column (lex_word fault.why))

abbrev undefined_line : ParmFault → Result Plan (List ℕ)
undefined_line fault = Err (parameter_text fault.line (defs_word fault.kind))

abbrev unplanned_line : PlanFault → Result Plan (List ℕ)
unplanned_line fault = Err (parameter_text fault.line (plan_word fault.kind))

-- what is read of a file's lines is one
reads : FilesAreReadOnce → (bytes : List ℕ) (l m : List ParmLine) (x y : Result Read ParmFault) → FileAt bytes (Ok l) → FileAt bytes (Ok m) → read_of bytes l ≡ x → read_of bytes m ≡ y → x ≡ y
reads once bytes l m x y p q h k = sym h ∙ ap (read_of bytes) (ok_same (once bytes (Ok l) (Ok m) p q)) ∙ k

-- and so is the plan
plans : FilesAreReadOnce → ShownTells → (bytes : List ℕ) (l m : List ParmLine) (c d : Defs) (x y : Result Plan PlanFault) → FileAt bytes (Ok l) → FileAt bytes (Ok m) → read_of bytes l ≡ Ok (shown c) → read_of bytes m ≡ Ok (shown d) → plan_at c ≡ x → plan_at d ≡ y → x ≡ y
plans once tells bytes l m c d x y p q h k v w = sym v ∙ ap plan_at (tells c d (ok_same (reads once bytes l m (Ok (shown c)) (Ok (shown d)) p q h k))) ∙ w

pub plans_once : FilesAreReadOnce → ShownTells → PlansOnce
plans_once once tells bytes a b (unread f p e) (unread g q k) = e ∙ ap unread_line (err_same (once bytes (Err f) (Err g) p q)) ∙ sym k
plans_once once tells bytes a b (unread f p e) (undefined m g q i k) = absurd (err_no_ok (once bytes (Err f) (Ok m) p q))
plans_once once tells bytes a b (unread f p e) (without_plan m d g q i w k) = absurd (err_no_ok (once bytes (Err f) (Ok m) p q))
plans_once once tells bytes a b (unread f p e) (planned m d plan q i w k) = absurd (err_no_ok (once bytes (Err f) (Ok m) p q))
plans_once once tells bytes a b (undefined l f p h e) (unread g q k) = absurd (err_no_ok (once bytes (Err g) (Ok l) q p))
plans_once once tells bytes a b (undefined l f p h e) (undefined m g q i k) = e ∙ ap undefined_line (err_same (reads once bytes l m (Err f) (Err g) p q h i)) ∙ sym k
plans_once once tells bytes a b (undefined l f p h e) (without_plan m d g q i w k) = absurd (err_no_ok (reads once bytes l m (Err f) (Ok (shown d)) p q h i))
plans_once once tells bytes a b (undefined l f p h e) (planned m d plan q i w k) = absurd (err_no_ok (reads once bytes l m (Err f) (Ok (shown d)) p q h i))
plans_once once tells bytes a b (without_plan l c f p h v e) (unread g q k) = absurd (err_no_ok (once bytes (Err g) (Ok l) q p))
plans_once once tells bytes a b (without_plan l c f p h v e) (undefined m g q i k) = absurd (err_no_ok (reads once bytes m l (Err g) (Ok (shown c)) q p i h))
plans_once once tells bytes a b (without_plan l c f p h v e) (without_plan m d g q i w k) = e ∙ ap unplanned_line (err_same (plans once tells bytes l m c d (Err f) (Err g) p q h i v w)) ∙ sym k
plans_once once tells bytes a b (without_plan l c f p h v e) (planned m d plan q i w k) = absurd (err_no_ok (plans once tells bytes l m c d (Err f) (Ok plan) p q h i v w))
plans_once once tells bytes a b (planned l c plan p h v e) (unread g q k) = absurd (err_no_ok (once bytes (Err g) (Ok l) q p))
plans_once once tells bytes a b (planned l c plan p h v e) (undefined m g q i k) = absurd (err_no_ok (reads once bytes m l (Err g) (Ok (shown c)) q p i h))
plans_once once tells bytes a b (planned l c plan p h v e) (without_plan m d g q i w k) = absurd (err_no_ok (plans once tells bytes m l d c (Err g) (Ok plan) q p i h w v))
plans_once once tells bytes a b (planned l c plan p h v e) (planned m d other q i w k) = e ∙ plan_is (ok_same (plans once tells bytes l m c d (Ok plan) (Ok other) p q h i v w)) ∙ sym k
  where
    plan_is : plan ≡ other → same_result {A = Plan} {F = List ℕ} (Ok plan) (Ok other)
    plan_is same = ap Ok same

of_plan : (bytes : List ℕ) (lines : List ParmLine) (d : Defs) (x : Result Plan PlanFault) → FileAt bytes (Ok lines) → read_of bytes lines ≡ Ok (shown d) → plan_at d ≡ x → (made : Result Plan (List ℕ)) × PlansTo bytes made
of_plan bytes lines d (Err fault) p h v = (unplanned_line fault, without_plan lines d fault p h v refl)
of_plan bytes lines d (Ok plan) p h v = (Ok plan, planned lines d plan p h v refl)

of_lines : RecordsShowAll → (bytes : List ℕ) (lines : List ParmLine) (x : Result Read ParmFault) → FileAt bytes (Ok lines) → read_of bytes lines ≡ x → (made : Result Plan (List ℕ)) × PlansTo bytes made
of_lines all bytes lines (Err fault) p h = (undefined_line fault, undefined lines fault p h refl)
of_lines all bytes lines (Ok read) p h = let records = all bytes lines read h in of_plan bytes lines records.0 (plan_at records.0) p (h ∙ ap Ok records.1) refl

of_file : RecordsShowAll → (bytes : List ℕ) (x : Result (List ParmLine) LexFault) → FileAt bytes x → (made : Result Plan (List ℕ)) × PlansTo bytes made
of_file all bytes (Err fault) p = (unread_line fault, unread fault p refl)
of_file all bytes (Ok lines) p = of_lines all bytes lines (read_of bytes lines) p refl

pub always_plans : FilesAreRead → RecordsShowAll → AlwaysPlans
always_plans some all bytes = let read = some bytes in of_file all bytes read.0 read.1
