-- What a look at a run finds, block by block.
use Rattle.std.proofs.Common.{◌≡◌, ℕ, suc, ◌+◌, ◌<◌, ◌≤◌, List, [], ◌∷◌, drop, length, map, refl, ap, subst, ◌∙◌, arith, slice_get, Some}
use Rattle.vd_base.specs.Geometry.{sectors_of}
use Rattle.vd_base.specs.declared.geometry.StoreId.{StoreId}
use Rattle.vd_arm.specs.Arm.{PassSeen}
use Rattle.key_state.specs.Entries.{entry_at}
use Rattle.key_state.specs.declared.entry.Entry.{Entry}
use Rattle.key_state.specs.declared.entry.Entry.TheVariants.{Settled, Pending, Bad}
use Rattle.block_verdict.specs.Verdicts.{IsVerdict, IsCorrupt}
use Rattle.block_verdict.specs.declared.finding.Finding.{Finding}
use Rattle.block_verdict.specs.declared.outcome.Verdict.{Verdict}
use Rattle.block_verdict.specs.declared.outcome.Verdict.TheVariants.{Clean, Old, New, Mixed, Corrupt}
use Rattle.claim_table.specs.Sums.{Each}
use Rattle.claim_table.specs.Runs.{ArePassesFor}
use Rattle.claim_table.specs.declared.view.Made.{Made}
use Rattle.block_ops.specs.Runs.{IsLive}
use Rattle.block_ops.specs.Transfers.{ArePassesOf, AreVerdicts, NoneCorrupt}
use Rattle.block_ops.proofs.BlockParts.{pass_at}
use Rattle.slave_worker.specs.Dids.{AreCorrupt, IsCorruptAt}
use Rattle.slave_worker.specs.Looks.{corrupt_run, finding_of}

-- the passes of a claimed run are those of its blocks
pub passes_of : {P : Type 0} (pass_seen : P → PassSeen) (made : Made) (store : StoreId) (first : ℕ) (entries : List Entry) (passes : List P) → made.store ≡ store → ArePassesFor pass_seen made first entries passes → ArePassesOf store first (map pass_seen passes)
passes_of pass_seen made store first entries passes same are = λ i pass at.
    let is = pass_at pass_seen made first entries passes i pass are at in
    (is.of, is.sized ∙ ap (λ (s : StoreId). s.geometry.block_size) same)

-- A corrupt verdict names a sector of the block.
abbrev pub IsInBlock : StoreId → Verdict → Type 0
IsInBlock store (Corrupt sector part) = sector < sectors_of store.geometry
IsInBlock store Clean = Unit {0}
IsInBlock store Old = Unit {0}
IsInBlock store New = Unit {0}
IsInBlock store Mixed = Unit {0}

in_block : (store : StoreId) (block : ℕ) (entry : Entry) (bytes : List ℕ) (verdict : Verdict) → IsVerdict store block entry bytes verdict → IsInBlock store verdict
in_block store block (Settled key) bytes (Corrupt sector part) is = is.in_block
in_block store block (Pending old new) bytes (Corrupt sector part) is = is.in_block
in_block store block Bad bytes (Corrupt sector part) is = absurd is
in_block store block entry bytes Clean is = tt
in_block store block entry bytes Old is = tt
in_block store block entry bytes New is = tt
in_block store block entry bytes Mixed is = tt

-- So do the first so many.
abbrev pub AreInBlocks : StoreId → ℕ → List Verdict → Type 0
AreInBlocks store many verdicts = (i : ℕ) (verdict : Verdict) → i < many → slice_get verdicts i ≡ Some verdict → IsInBlock store verdict

pub in_blocks : (store : StoreId) (first : ℕ) (entries : List Entry) (bytes : List ℕ) (verdicts : List Verdict) → AreVerdicts store first entries bytes verdicts → AreInBlocks store (length entries) verdicts
in_blocks store first entries bytes verdicts are = λ i verdict within at. in_block store _ _ _ verdict (are i verdict within at)

-- corrupt blocks behind the first one of a run
corrupt_behind : (store : StoreId) (first : ℕ) (entry : Entry) (entries : List Entry) (findings : List Finding) → AreCorrupt store (first + 1) entries findings → AreCorrupt store first (entry ∷ entries) findings
corrupt_behind store first entry entries [] are = tt
corrupt_behind store first entry entries (finding ∷ findings) are =
    let k : ℕ = are.0 in
    let here : first + 1 + k ≡ first + suc k = omega arith in
    let next : first + 1 + k + 1 ≡ first + suc k + 1 = omega arith in
    let more : suc (k + 1) ≡ suc k + 1 = omega arith in
    let rest : drop (k + 1) entries ≡ drop (suc k + 1) (entry ∷ entries) = ap (λ (n : ℕ). drop n (entry ∷ entries)) more in (
      suc k,
      omega (arith, are.1),
      subst (λ (n : ℕ). IsCorruptAt store n (entry_at entries k) finding) here are.2,
      subst (λ (es : List Entry). AreCorrupt store (first + suc k + 1) es findings) rest (subst (λ (n : ℕ). AreCorrupt store n (drop (k + 1) entries) findings) next are.3),
    )

corrupt_more : (store : StoreId) (first : ℕ) (entry : Entry) (entries : List Entry) (verdict : Verdict) (findings : List Finding) → IsLive entry → IsInBlock store verdict → AreCorrupt store (first + 1) entries findings → AreCorrupt store first (entry ∷ entries) (finding_of first entry verdict findings)
corrupt_more store first entry entries (Corrupt sector part) findings live inside are =
    let here : first ≡ first + 0 = omega arith in
    let next : first + 1 ≡ first + 0 + 1 = omega arith in
    (0, omega arith, (here, refl, live, inside), subst (λ (n : ℕ). AreCorrupt store n entries findings) next are)
corrupt_more store first entry entries Clean findings live inside are = corrupt_behind store first entry entries findings are
corrupt_more store first entry entries Old findings live inside are = corrupt_behind store first entry entries findings are
corrupt_more store first entry entries New findings live inside are = corrupt_behind store first entry entries findings are
corrupt_more store first entry entries Mixed findings live inside are = corrupt_behind store first entry entries findings are

-- what is found in a run are corrupt blocks of it
pub corrupt_found : (store : StoreId) (first : ℕ) (entries : List Entry) (verdicts : List Verdict) → Each IsLive entries → AreInBlocks store (length entries) verdicts → AreCorrupt store first entries (corrupt_run first entries verdicts)
corrupt_found store first [] verdicts live inside = tt
corrupt_found store first (entry ∷ entries) [] live inside = tt
corrupt_found store first (entry ∷ entries) (verdict ∷ verdicts) live inside =
    corrupt_more store first entry entries verdict (corrupt_run (first + 1) entries verdicts) live.0 (inside 0 verdict (omega arith) refl)
    (corrupt_found store (first + 1) entries verdicts live.1 (λ i other within at. inside (suc i) other (omega (arith, within)) at))

-- nothing is found where no verdict is corrupt
found_none : (first : ℕ) (entry : Entry) (verdict : Verdict) (findings : List Finding) → (IsCorrupt verdict → ⊥) → findings ≡ [] → finding_of first entry verdict findings ≡ []
found_none first entry (Corrupt sector part) findings sound none = absurd (sound tt)
found_none first entry Clean findings sound none = none
found_none first entry Old findings sound none = none
found_none first entry New findings sound none = none
found_none first entry Mixed findings sound none = none

pub none_found : (first : ℕ) (entries : List Entry) (verdicts : List Verdict) → NoneCorrupt (length entries) verdicts → corrupt_run first entries verdicts ≡ []
none_found first [] verdicts none = refl
none_found first (entry ∷ entries) [] none = refl
none_found first (entry ∷ entries) (verdict ∷ verdicts) none =
    found_none first entry verdict (corrupt_run (first + 1) entries verdicts) (none 0 verdict (omega arith) refl)
    (none_found (first + 1) entries verdicts (λ i other within at. none (suc i) other (omega (arith, within)) at))

-- so none is counted
pub none_counted : (many first : ℕ) (entries others : List Entry) (verdicts : List Verdict) → many ≡ length (corrupt_run first others verdicts) → others ≡ entries → NoneCorrupt (length entries) verdicts → many ≡ 0
none_counted many first entries others verdicts is same none =
    is
    ∙ ap (λ (es : List Entry). length (corrupt_run first es verdicts)) same
    ∙ ap (λ (fs : List Finding). length fs) (none_found first entries verdicts none)

-- no more is found than the run has blocks
few_more : (first : ℕ) (entry : Entry) (verdict : Verdict) (findings : List Finding) → length (finding_of first entry verdict findings) ≤ length findings + 1
few_more first entry (Corrupt sector part) findings = omega arith
few_more first entry Clean findings = omega arith
few_more first entry Old findings = omega arith
few_more first entry New findings = omega arith
few_more first entry Mixed findings = omega arith

pub few_found : (first : ℕ) (entries : List Entry) (verdicts : List Verdict) → length (corrupt_run first entries verdicts) ≤ length entries
few_found first [] verdicts = omega arith
few_found first (entry ∷ entries) [] = omega arith
few_found first (entry ∷ entries) (verdict ∷ verdicts) =
    omega (arith, few_more first entry verdict (corrupt_run (first + 1) entries verdicts), few_found (first + 1) entries verdicts)

-- nothing is found in a run as long, by the same verdicts
none_step : (first : ℕ) (entry other : Entry) (verdict : Verdict) (findings others : List Finding) → finding_of first entry verdict findings ≡ [] → (findings ≡ [] → others ≡ []) → finding_of first other verdict others ≡ []
none_step first entry other (Corrupt sector part) findings others none leads = absurd (let no : finding_of first entry (Corrupt sector part) findings ≡ [] = none in cc)
none_step first entry other Clean findings others none leads = leads none
none_step first entry other Old findings others none leads = leads none
none_step first entry other New findings others none leads = leads none
none_step first entry other Mixed findings others none leads = leads none

pub none_again : (first : ℕ) (entries others : List Entry) (verdicts : List Verdict) → length others ≡ length entries → corrupt_run first entries verdicts ≡ [] → corrupt_run first others verdicts ≡ []
none_again first [] [] verdicts many none = refl
none_again first [] (other ∷ others) verdicts many none = absurd (omega (arith, many))
none_again first (entry ∷ entries) [] verdicts many none = absurd (omega (arith, many))
none_again first (entry ∷ entries) (other ∷ others) [] many none = refl
none_again first (entry ∷ entries) (other ∷ others) (verdict ∷ verdicts) many none =
    none_step first entry other verdict (corrupt_run (first + 1) entries verdicts) (corrupt_run (first + 1) others verdicts) none
    (λ below. none_again (first + 1) entries others verdicts (omega (arith, many)) below)
