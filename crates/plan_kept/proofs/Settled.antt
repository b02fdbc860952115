-- What the passes of a verified store tell fits the entries that are left.
use Rattle.std.proofs.Common.{◌≡◌, ◌∙◌, refl, sym, subst, arith, inl, inr, ◌⊎◌, ℕ, suc, ◌<◌, IsTrue, List, [], ◌∷◌, length}
use Rattle.std.specs.Prelude.{Option, Some, slice_get}
use Rattle.std.specs.List.{AllZip}
use Rattle.std.proofs.lemmas.Option.{get_or_from_slice_get, same_Some, slice_get_cases, slice_get_within}
use Rattle.vd_base.specs.declared.geometry.StoreId.{StoreId}
use Rattle.vd_arm.specs.Arm.{PassSeen}
use Rattle.vd_yard.specs.Contents.{file_block, length_file_block}
use Rattle.vd_yard.specs.Kept.{bytes_at}
use Rattle.vd_yard.specs.Out.{AtArm}
use Rattle.vd_yard.specs.Yard.{YardSeen}
use Rattle.plan_types.specs.declared.store.StorePlan.{StorePlan}
use Rattle.key_state.specs.Entries.{entry_at}
use Rattle.key_state.specs.declared.entry.Entry.{Entry}
use Rattle.key_state.specs.declared.entry.Entry.TheVariants.{Bad}
use Rattle.block_verdict.specs.Fits.{BytesFit}
use Rattle.journal_recover.specs.declared.found.Recovered.{Recovered}
use Rattle.recover_run.specs.declared.look.Look.{Look}
use Rattle.still_plan.specs.Journals.{RecoversTo}
use Rattle.still_store.specs.Verification.{ArePassesOf}
use Rattle.plan_verified.specs.Laws.{FitAsBefore, FitWhereAllRead}
use Rattle.plan_verified.specs.Stores.{FitsTold, FitWhereRead, LeavesStore, StoreSeen, passes_of, settled_of}
use Rattle.plan_totals.specs.Sentences.{DataFits, TellsFit}
use Rattle.plan_totals.proofs.Zips.{zip_at}

zip_of : {A B : Type 0} (R : A → B → Type 0) (xs : List A) (ys : List B) → length ys ≡ length xs → ((i : ℕ) (x : A) (y : B) → slice_get xs i ≡ Some x → slice_get ys i ≡ Some y → R x y) → AllZip R xs ys
zip_of R [] [] many each = tt
zip_of R [] (y ∷ ys) many each = absurd (omega (arith, many))
zip_of R (x ∷ xs) [] many each = absurd (omega (arith, many))
zip_of R (x ∷ xs) (y ∷ ys) many each = (each 0 x y refl refl, zip_of R xs ys (omega (arith, many)) (λ i a b at there. each (suc i) a b at there))

-- These bytes are those of the pass's block, so what fits there fits the entry.
told_fits : (id : StoreId) (pass : PassSeen) (block : ℕ) (known held : Entry) (told bytes : List ℕ) → pass.block ≡ block → held ≡ known → told ≡ bytes → BytesFit id block held told → BytesFit id pass.block known bytes
told_fits id pass block known held told bytes its entry same fit =
    subst (λ (l : List ℕ). BytesFit id pass.block known l) same
    (subst (λ (e : Entry). BytesFit id pass.block e told) entry (subst (λ (b : ℕ). BytesFit id b held told) (sym its) fit))

-- a block of what is kept
abbrev pub kept_block : YardSeen → StorePlan → ℕ → List ℕ
kept_block yard store block = file_block store.id.geometry.block_size block (bytes_at yard.contents store.path)

-- Where the bytes of a store fit what its journal gave, so does what its passes tell.
pub fit_passes : (old : YardSeen) (store : StorePlan) (here : Recovered) (passes : List PassSeen) → ArePassesOf old store passes → IsTrue old.tells.keeps_contents
    → RecoversTo old store here → DataFits old.contents store here.entries.items → AllZip (FitsTold store.id) passes here.entries.items
fit_passes old store here passes theirs tells recovers fit =
    zip_of (FitsTold store.id) passes here.entries.items (recovers.fit.one_each ∙ sym theirs.blocks.as_many) (λ i pass known at there bytes told.
    let within : i < store.id.geometry.blocks = omega (arith, slice_get_within passes i pass at, theirs.blocks.as_many) in
    told_fits store.id pass i known (entry_at here.entries.items i) (kept_block old store i) bytes (theirs.blocks.blocks i pass at) (get_or_from_slice_get here.entries.items i known Bad there)
    (same_Some (kept_block old store i) bytes (sym (theirs.told tells i pass at) ∙ told)) (fit i within))

module _ (old new : YardSeen) (store : StorePlan) (here : Recovered) (looks : List Look) (left : StoreSeen) (leaves : LeavesStore old new store here looks left) (tells : IsTrue old.tells.keeps_contents) where
  fit_found : RecoversTo old store here → DataFits old.contents store here.entries.items → AllZip (FitsTold store.id) (passes_of left) here.entries.items
  fit_found recovers fit = fit_passes old store here (passes_of left) leaves.theirs tells recovers fit

  all_settled : FitWhereAllRead → FitAsBefore → (RecoversTo old store here × DataFits old.contents store here.entries.items) ⊎ IsTrue (old.tells.sure AtArm store.path) → AllZip (FitsTold store.id) (passes_of left) (settled_of left)
  all_settled readable before (inl fit) =
      let was : FitWhereRead store.id (passes_of left) looks _ = subst (λ (l : List Entry). FitWhereRead store.id (passes_of left) looks l) leaves.settled leaves.fit in
      subst (λ (l : List Entry). AllZip (FitsTold store.id) (passes_of left) l) (sym leaves.settled)
      (before store.id here.entries.items (passes_of left) looks leaves.looked was (fit_found fit.0 fit.1))
  all_settled readable before (inr sure) = readable store.id (passes_of left) looks (settled_of left) (leaves.sure sure) leaves.fit

  pub settled_fit : FitWhereAllRead → FitAsBefore → (RecoversTo old store here × DataFits old.contents store here.entries.items) ⊎ IsTrue (old.tells.sure AtArm store.path)
      → (block : ℕ) (pass : PassSeen) → slice_get (passes_of left) block ≡ Some pass → TellsFit store.id block (entry_at (settled_of left) block) pass.told
  settled_fit readable before fit block pass at =
      let within = slice_get_within (passes_of left) block pass at in
      let told : pass.told ≡ Some (kept_block old store block) = leaves.theirs.told tells block pass at in
      let fits : BytesFit store.id block (entry_at (settled_of left) block) (kept_block old store block) = elim ((slice_get_cases (settled_of left) block).1) [
        | inl found ↦
            let is : entry_at (settled_of left) block ≡ found.0 = get_or_from_slice_get (settled_of left) block found.0 Bad found.2 in
            let one = zip_at (FitsTold store.id) (passes_of left) (settled_of left) block pass found.0 (all_settled readable before fit) at found.2 in
            subst (λ (e : Entry). BytesFit store.id block e (kept_block old store block)) (sym is)
            (subst (λ (b : ℕ). BytesFit store.id b found.0 (kept_block old store block)) (leaves.theirs.blocks.blocks block pass at) (one (kept_block old store block) told))
        | inr past ↦ absurd (omega (arith, within, past.0, leaves.one_each, leaves.theirs.blocks.as_many))
      ] in
      subst (λ (o : Option (List ℕ)). TellsFit store.id block (entry_at (settled_of left) block) o) (sym told)
      (length_file_block store.id.geometry.block_size block (bytes_at old.contents store.path), fits)
