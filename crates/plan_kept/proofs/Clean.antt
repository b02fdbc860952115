-- A still command, and the verification of one that goes on, find no corrupt block where the bytes fit.
use Rattle.std.proofs.Common.{◌≡◌, ◌∙◌, refl, sym, subst, inl, inr, ℕ, zero, suc, IsTrue, List, [], ◌∷◌, take}
use Rattle.std.specs.Prelude.{◌≢◌, Some, slice_get}
use Rattle.std.specs.List.{AllZip}
use Rattle.std.proofs.lemmas.Option.{none-some, same_Some}
use Rattle.vd_arm.specs.Arm.{PassSeen}
use Rattle.vd_yard.specs.Yard.{YardSeen}
use Rattle.plan_types.specs.declared.store.StorePlan.{StorePlan}
use Rattle.key_state.specs.declared.entry.Entry.{Entry}
use Rattle.claim_table.specs.Sums.{Each}
use Rattle.journal_recover.specs.declared.found.Recovered.{Recovered}
use Rattle.run_report.specs.declared.status.Status.{Status}
use Rattle.run_report.specs.declared.status.Status.TheVariants as status
use Rattle.still_plan.specs.Journals.{AllRecover, RecoversTo}
use Rattle.still_plan.specs.Still.{IsStill}
use Rattle.still_plan.specs.Still as still
use Rattle.still_plan.specs.Stores.{StoreStop, StoresEnd}
use Rattle.still_plan.specs.Stores as stores
use Rattle.plan_verified.specs.Stores.{FitsTold}
use Rattle.plan_journals.specs.Closing.{WentWell}
use Rattle.plan_totals.specs.Sentences.{DataFits}
use Rattle.plan_kept.specs.Clean.{StopFindsNone, StoresFindNone}
use Rattle.plan_kept.specs.Fits.{FitsItsJournal}
use Rattle.plan_kept.specs.Laws.{StillIsSound}
use Rattle.plan_kept.proofs.Looks.{AllFound, IsTold, looks_clean, none_corrupt, none_of_all, told_each}
use Rattle.plan_kept.proofs.Settled.{fit_passes}
use Rattle.plan_kept.proofs.Unwell.{journals_unwell}

each_front : (R : PassSeen → Type 0) (n : ℕ) (passes : List PassSeen) → Each R passes → Each R (take n passes)
each_front R zero passes each = tt
each_front R (suc n) [] each = tt
each_front R (suc n) (pass ∷ passes) each = (each.0, each_front R n passes each.1)

zip_front : (R : PassSeen → Entry → Type 0) (n : ℕ) (passes : List PassSeen) (entries : List Entry) → AllZip R passes entries → AllZip R (take n passes) (take n entries)
zip_front R zero passes entries each = tt
zip_front R (suc n) [] [] each = tt
zip_front R (suc n) [] (known ∷ entries) each = absurd each
zip_front R (suc n) (pass ∷ passes) [] each = absurd each
zip_front R (suc n) (pass ∷ passes) (known ∷ entries) each = (each.0, zip_front R n passes entries each.1)

found_front : (yard : YardSeen) (n : ℕ) (all : List StorePlan) (found : List Recovered) → AllFound yard all found → AllFound yard (take n all) (take n found)
found_front yard zero all found each = tt
found_front yard (suc n) [] [] each = tt
found_front yard (suc n) [] (here ∷ found) each = absurd each
found_front yard (suc n) (store ∷ all) [] each = absurd each
found_front yard (suc n) (store ∷ all) (here ∷ found) each = (each.0, each.1, found_front yard n all found each.2)

found_there : (yard : YardSeen) (all : List StorePlan) (found : List Recovered) → AllFound yard all found → (n : ℕ) (store : StorePlan) (here : Recovered) → slice_get all n ≡ Some store → slice_get found n ≡ Some here
    → RecoversTo yard store here × DataFits yard.contents store here.entries.items
found_there yard [] found each n store here at its = absurd (none-some store at)
found_there yard (x ∷ all) [] each n store here at its = absurd each
found_there yard (x ∷ all) (f ∷ found) each zero store here at its =
    subst (λ (s : StorePlan). RecoversTo yard s here × DataFits yard.contents s here.entries.items) (same_Some x store at)
    (subst (λ (r : Recovered). RecoversTo yard x r × DataFits yard.contents x r.entries.items) (same_Some f here its) (each.0, each.1))
found_there yard (x ∷ all) (f ∷ found) each (suc n) store here at its = found_there yard all found each.2 n store here at its

module _ (old new : YardSeen) (tells : IsTrue old.tells.keeps_contents) where
  stop_clean : (store : StorePlan) (here : Recovered) (text : List ℕ) (result : Status) → RecoversTo old store here → DataFits old.contents store here.entries.items
      → (stop : StoreStop old new store here text result) → StopFindsNone old new store here text result stop × (result ≢ status.Corrupt)
  stop_clean store here text result recovers fit (stores.no_data rose willing stay texts is) = (tt, λ e. (let so : status.Yard ≡ status.Corrupt = sym is ∙ e in cc))
  stop_clean store here text result recovers fit (stores.not_begun texts (inl is)) = (tt, λ e. (let so : status.NoMemory ≡ status.Corrupt = sym is ∙ e in cc))
  stop_clean store here text result recovers fit (stores.not_begun texts (inr is)) = (tt, λ e. (let so : status.Sink ≡ status.Corrupt = sym is ∙ e in cc))
  stop_clean store here text result recovers fit (stores.begun n passes looks theirs are rose texts ends) = (
    none_corrupt store.id (take n here.entries.items) (take n passes) looks are (each_front IsTold n passes (told_each old store passes theirs tells))
        (zip_front (FitsTold store.id) n passes here.entries.items (fit_passes old store here passes theirs tells recovers fit)),
    λ e. elim ends [
      | inl is ↦ (let so : status.NoMemory ≡ status.Corrupt = sym is ∙ e in cc)
      | inr is ↦ (let so : status.Sink ≡ status.Corrupt = sym is ∙ e in cc)
    ],
  )

  pub stores_clean : (all : List StorePlan) (found : List Recovered) (text : List ℕ) (result : Status) → AllFound old all found
      → (ends : StoresEnd old new all found text result) → StoresFindNone old new all found text result ends × (result ≢ status.Corrupt)
  stores_clean all found text result fit (stores.all_verified seen looked texts is) =
      let none = none_of_all old new all found seen tells looked fit in
      (none, λ e. looks_clean (stores.all_looks seen) none (sym is ∙ e))
  stores_clean all found text result fit (stores.at_store n seen store here part looked there its stop others texts) =
      let one = found_there old all found fit n store here there its in
      let last = stop_clean store here part result one.0 one.1 stop in
      ((none_of_all old new (take n all) (take n found) seen tells looked (found_front old n all found fit), last.0), last.1)

-- what the journals gave is what each store's bytes fit
found_of : (yard : YardSeen) (all : List StorePlan) (found : List Recovered) → AllRecover yard all found → ((place : ℕ) (store : StorePlan) → slice_get all place ≡ Some store → FitsItsJournal yard store) → AllFound yard all found
found_of yard [] [] each fit = tt
found_of yard [] (here ∷ found) each fit = absurd each
found_of yard (store ∷ all) [] each fit = absurd each
found_of yard (store ∷ all) (here ∷ found) each fit = (each.0, fit 0 store refl here each.0, found_of yard all found each.1 (λ place other at. fit (suc place) other at))

pub still_is_sound : StillIsSound
still_is_sound old new all text result tells fit (still.stops stop unopened) = (tt, λ e. journals_unwell old new all text result stop (subst WentWell (sym e) tt))
still_is_sound old new all text result tells fit (still.ends found part recovered ends texts) = stores_clean old new tells all found part result (found_of old all found recovered fit) ends
