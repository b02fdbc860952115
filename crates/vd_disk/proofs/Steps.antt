-- One step more.
use Rattle.std.proofs.Common.{◌≡◌, List, [], ◌∷◌, ◌++◌, length, take, refl, sym, ap, ◌∙◌, arith, ◌⊎◌, inl, inr, Bool, true, false}
use Rattle.std.proofs.lemmas.List.{take_at, take_all}
use Rattle.vd_disk.specs.declared.memory.Step.{Step}
use Rattle.std.specs.Prelude.{ℕ, ◌<◌, Some}
use Rattle.vd_disk.specs.declared.memory.Step.TheVariants.{Lengthen}
use Rattle.vd_disk.specs.Disk.{Sectors, Table, Extends, present, settled, longer, longer_table, lengthened}
use Rattle.vd_disk.specs.Step.{now_next, now_after, tables_from, table_next}
use Rattle.vd_disk.specs.Tale.{length-longer, now_after-push, tables_after-push}

pub extends_push : (old new : List Table) (table : Table) → new ≡ old ++ table ∷ [] → Extends old new
extends_push old new table is = record { front = ap (λ (l : List Table). take (length old) l) is ∙ take_at old (table ∷ []) (length old) refl }

pub extends_same : (old new : List Table) → new ≡ old → Extends old new
extends_same old new is = record { front = ap (λ (l : List Table). take (length old) l) is ∙ take_all (length old) old (omega arith) }

pub replays_more : (first content : Sectors) (steps new : List Step) (step : Step) → content ≡ now_after first steps → new ≡ steps ++ step ∷ [] →
    now_next content step ≡ now_after first new
replays_more first content steps new step replays pushed =
    ap (λ (s : Sectors). now_next s step) replays
    ∙ sym (now_after-push first steps step)
    ∙ ap (λ (l : List Step). now_after first l) (sym pushed)

pub tables_more : (first : Sectors) (steps new : List Step) (step : Step) → new ≡ steps ++ step ∷ [] →
    tables_from first new ≡ tables_from first steps ++ table_next (present (tables_from first steps)) (now_after first steps) step ∷ []
tables_more first steps new step pushed =
    ap (λ (l : List Step). tables_from first l) pushed ∙ tables_after-push (settled first) first steps step

-- A step was noted, or not.
pub noted_cases : (noted : Bool) (old new : List Step) (step : Step) → (noted ≡ true → new ≡ old ++ step ∷ []) → (noted ≡ false → new ≡ old) →
    (new ≡ old ++ step ∷ []) ⊎ (new ≡ old)
noted_cases true old new step more same = inl (more refl)
noted_cases false old new step more same = inr (same refl)

-- what is seen of a disk that was made longer
pub lengthened_seen : (size : ℕ) (first content more : Sectors) (steps new : List Step) (faults : ℕ) (sure : Bool) → content ≡ now_after first steps → more ≡ longer size content → new ≡ steps ++ Lengthen size ∷ [] → length content < size
    → record { sectors = length more; told = Some more; faults = faults; sure = sure; moments = tables_from first new }
    ≡ lengthened size (record { sectors = length content; told = Some content; faults = faults; sure = sure; moments = tables_from first steps })
lengthened_seen size first content more steps new faults sure replays made pushed less =
    let long : length more ≡ size = ap (λ (s : Sectors). length s) made ∙ length-longer size content ∙ omega arith in
    let moments : tables_from first new ≡ tables_from first steps ++ longer_table size (present (tables_from first steps)) ∷ [] = tables_more first steps new (Lengthen size) pushed in
    λ i. record { sectors = long i; told = Some (made i); faults = faults; sure = sure; moments = moments i }
