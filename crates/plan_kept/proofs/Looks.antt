-- No look at a block is corrupt where its bytes fit.
use Rattle.std.proofs.Common.{◌≡◌, ◌∙◌, refl, sym, ap, subst, arith, ℕ, ◌==◌, Bool, true, false, IsTrue, List, [], ◌∷◌}
use Rattle.std.specs.Prelude.{Some, count_by, if◌then◌else◌}
use Rattle.std.specs.List.{AllZip}
use Rattle.vd_base.specs.declared.geometry.StoreId.{StoreId}
use Rattle.vd_arm.specs.Arm.{PassSeen}
use Rattle.vd_yard.specs.Contents.{file_block}
use Rattle.vd_yard.specs.Kept.{bytes_at}
use Rattle.vd_yard.specs.Yard.{YardSeen}
use Rattle.plan_types.specs.declared.store.StorePlan.{StorePlan}
use Rattle.key_state.specs.declared.entry.Entry.{Entry}
use Rattle.key_state.specs.declared.entry.Entry.TheVariants as entry
use Rattle.block_verdict.specs.Fits.{BytesFit}
use Rattle.block_verdict.specs.Verdicts.{IsVerdict}
use Rattle.block_verdict.specs.declared.outcome.Verdict.{Verdict}
use Rattle.block_verdict.specs.declared.outcome.Verdict.TheVariants as verdict
use Rattle.claim_table.specs.Sums.{Each}
use Rattle.journal_recover.specs.declared.found.Recovered.{Recovered}
use Rattle.recover_run.specs.Looks.{AreLooks, LooksAt, is_corrupt, is_corrupt_verdict, is_unread}
use Rattle.recover_run.specs.declared.look.Look.{Look}
use Rattle.recover_run.specs.declared.look.Look.TheVariants.{Skipped, Unread, Sees}
use Rattle.recover_run.proofs.Looking.{count-append}
use Rattle.run_report.specs.declared.status.Status.TheVariants as status
use Rattle.run_totals.proofs.Lists.{all_from, each_of_all}
use Rattle.still_plan.specs.Journals.{RecoversTo}
use Rattle.still_plan.specs.Stores.{AllVerify, VerifiesAs, all_looks, looks_status}
use Rattle.still_store.specs.Verification.{ArePassesOf}
use Rattle.plan_verified.specs.Stores.{FitsTold, LeaveStores, StoreSeen, passes_of}
use Rattle.plan_totals.specs.Sentences.{DataFits}
use Rattle.plan_kept.proofs.Settled.{fit_passes}

fitting_verdict : (id : StoreId) (block : ℕ) (known : Entry) (bytes : List ℕ) (seen : Verdict) → IsVerdict id block known bytes seen → BytesFit id block known bytes → is_corrupt_verdict seen ≡ false
fitting_verdict id block (entry.Settled key) bytes (verdict.Corrupt sector part) is fit = absurd (is.unfit (fit sector is.in_block))
fitting_verdict id block (entry.Pending old new) bytes (verdict.Corrupt sector part) is fit = absurd (is.unfit (fit sector is.in_block))
fitting_verdict id block entry.Bad bytes (verdict.Corrupt sector part) is fit = absurd is
fitting_verdict id block known bytes verdict.Clean is fit = refl
fitting_verdict id block known bytes verdict.Old is fit = refl
fitting_verdict id block known bytes verdict.New is fit = refl
fitting_verdict id block known bytes verdict.Mixed is fit = refl

-- a pass tells
abbrev pub IsTold : PassSeen → Type 0
IsTold pass = (bytes : List ℕ) × (pass.told ≡ Some bytes)

fitting_look : (id : StoreId) (pass : PassSeen) (known : Entry) (look : Look) → LooksAt id pass known look → IsTold pass → FitsTold id pass known → is_corrupt look ≡ false
fitting_look id pass known Skipped at told fit = refl
fitting_look id pass known Unread at told fit = refl
fitting_look id pass known (Sees seen) at told fit =
    let gave = at.1.1 told.0 told.1 in
    fitting_verdict id pass.block known at.1.0 seen at.1.2 (subst (λ (l : List ℕ). BytesFit id pass.block known l) (sym gave) (fit told.0 told.1))

none_more : (look : Look) (looks : List Look) → is_corrupt look ≡ false → count_by is_corrupt looks ≡ 0 → count_by is_corrupt (look ∷ looks) ≡ 0
none_more Skipped looks not none = none
none_more Unread looks not none = none
none_more (Sees (verdict.Corrupt sector part)) looks not none = absurd (let so : true ≡ false = not in cc)
none_more (Sees verdict.Clean) looks not none = none
none_more (Sees verdict.Old) looks not none = none
none_more (Sees verdict.New) looks not none = none
none_more (Sees verdict.Mixed) looks not none = none

pub none_corrupt : (id : StoreId) (entries : List Entry) (passes : List PassSeen) (looks : List Look) → AreLooks id entries passes looks → Each IsTold passes → AllZip (FitsTold id) passes entries → count_by is_corrupt looks ≡ 0
unfolding AreLooks
none_corrupt id [] [] [] are told fit = refl
none_corrupt id (known ∷ entries) (pass ∷ passes) (look ∷ looks) are told fit =
    none_more look looks (fitting_look id pass known look are.0 told.0 fit.0) (none_corrupt id entries passes looks are.1 told.1 fit.1)
none_corrupt id [] [] (look ∷ looks) are told fit = absurd are
none_corrupt id [] (pass ∷ passes) looks are told fit = absurd are
none_corrupt id (known ∷ entries) [] looks are told fit = absurd are
none_corrupt id (known ∷ entries) (pass ∷ passes) [] are told fit = absurd are

-- The bytes of each store fit what its journal gave.
abbrev pub AllFound : YardSeen → List StorePlan → List Recovered → Type 0
AllFound yard [] [] = Unit {0}
AllFound yard (store ∷ stores) (here ∷ found) = RecoversTo yard store here × DataFits yard.contents store here.entries.items × AllFound yard stores found
AllFound yard stores found = ⊥

-- What the passes of a store tell.
pub told_each : (old : YardSeen) (store : StorePlan) (passes : List PassSeen) → ArePassesOf old store passes → IsTrue old.tells.keeps_contents → Each IsTold passes
told_each old store passes theirs tells =
    each_of_all IsTold passes (all_from IsTold passes (λ i pass at. (file_block store.id.geometry.block_size i (bytes_at old.contents store.path), theirs.told tells i pass at)))

-- So no look at a store whose bytes fit is corrupt; nor is one at any store.
one_clean : (old new : YardSeen) (store : StorePlan) (here : Recovered) (looks : List Look) → IsTrue old.tells.keeps_contents → VerifiesAs old new store here looks → RecoversTo old store here → DataFits old.contents store here.entries.items
    → count_by is_corrupt looks ≡ 0
one_clean old new store here looks tells one recovers fit =
    none_corrupt store.id here.entries.items one.passes looks one.looked (told_each old store one.passes one.theirs tells) (fit_passes old store here one.passes one.theirs tells recovers fit)

pub none_of_all : (old new : YardSeen) (stores : List StorePlan) (found : List Recovered) (seen : List (List Look)) → IsTrue old.tells.keeps_contents → AllVerify old new stores found seen → AllFound old stores found → count_by is_corrupt (all_looks seen) ≡ 0
none_of_all old new [] [] [] tells looked fit = refl
none_of_all old new (store ∷ stores) (here ∷ found) (looks ∷ seen) tells looked fit =
    omega (arith, count-append is_corrupt looks (all_looks seen), one_clean old new store here looks tells looked.0 fit.0 fit.1, none_of_all old new stores found seen tells looked.1 fit.2)
none_of_all old new [] [] (looks ∷ seen) tells looked fit = absurd looked
none_of_all old new [] (here ∷ found) seen tells looked fit = absurd looked
none_of_all old new (store ∷ stores) [] seen tells looked fit = absurd looked
none_of_all old new (store ∷ stores) (here ∷ found) [] tells looked fit = absurd looked

-- what verified stores leave holds the looks at them
pub verify_as : (old new : YardSeen) (stores : List StorePlan) (found : List Recovered) (seen : List (List Look)) (left : List StoreSeen) → LeaveStores old new stores found seen left → AllVerify old new stores found seen
verify_as old new [] [] [] [] leaves = tt
verify_as old new (store ∷ stores) (here ∷ found) (looks ∷ seen) (l ∷ left) leaves =
    (record { passes = passes_of l; theirs = leaves.0.theirs; looked = leaves.0.looked; counts = leaves.0.counts }, verify_as old new stores found seen left leaves.1)
verify_as old new [] [] [] (l ∷ left) leaves = absurd leaves
verify_as old new [] [] (looks ∷ seen) left leaves = absurd leaves
verify_as old new [] (here ∷ found) seen left leaves = absurd leaves
verify_as old new (store ∷ stores) [] seen left leaves = absurd leaves
verify_as old new (store ∷ stores) (here ∷ found) [] left leaves = absurd leaves
verify_as old new (store ∷ stores) (here ∷ found) (looks ∷ seen) [] leaves = absurd leaves

-- Then no status says so.
pub looks_clean : (looks : List Look) → count_by is_corrupt looks ≡ 0 → looks_status looks ≡ status.Corrupt → ⊥
looks_clean looks none is =
    by (count_by is_unread looks == 0)
    (sym (ap (λ (n : ℕ). if count_by is_unread looks == 0 then (if n == 0 then status.Good else status.Corrupt) else status.Device) none) ∙ is)
  where
    by : (b : Bool) → (if b then status.Good else status.Device) ≡ status.Corrupt → ⊥
    by true e = cc
    by false e = cc
