-- Laws of verdicts.
use Rattle.std.proofs.Common.{◌≡◌, ℕ, List, refl, subst, arith, inl, inr}
use Rattle.std.proofs.lemmas.Bool.{cases_lt}
use Rattle.vd_base.specs.declared.geometry.StoreId.{StoreId}
use Rattle.key_state.specs.declared.entry.Entry.{Entry}
use Rattle.key_state.specs.declared.entry.Entry.TheVariants.{Settled, Pending, Bad}
use Rattle.sector_stamp.specs.declared.part.Part.{Part}
use Rattle.sector_stamp.proofs.Differences.{one_first_difference}
use Rattle.block_verdict.specs.declared.outcome.Verdict.TheVariants.{Clean, Old, New, Mixed, Corrupt}
use Rattle.block_verdict.specs.Fits.{MatchesAt}
use Rattle.block_verdict.specs.Verdicts.{IsFirstCorrupt, HasOneVerdict, SoundWhereFit, FitAfterSettling, FitsWherePermitted, StampedFits}

pub fit_after_settling : FitAfterSettling
fit_after_settling store block (Settled key) bytes Clean is = is
fit_after_settling store block (Settled key) bytes Old is = absurd is
fit_after_settling store block (Settled key) bytes New is = absurd is
fit_after_settling store block (Settled key) bytes Mixed is = absurd is
fit_after_settling store block (Settled key) bytes (Corrupt sector part) is = λ i le. tt
fit_after_settling store block (Pending old new) bytes Clean is = absurd is
fit_after_settling store block (Pending old new) bytes Old is = is.0
fit_after_settling store block (Pending old new) bytes New is = is
fit_after_settling store block (Pending old new) bytes Mixed is = is.0
fit_after_settling store block (Pending old new) bytes (Corrupt sector part) is = λ i le. tt
fit_after_settling store block Bad bytes Clean is = absurd is
fit_after_settling store block Bad bytes Old is = absurd is
fit_after_settling store block Bad bytes New is = absurd is
fit_after_settling store block Bad bytes Mixed is = absurd is
fit_after_settling store block Bad bytes (Corrupt sector part) is = absurd is

pub sound_where_fit : SoundWhereFit
sound_where_fit store block (Settled key) bytes Clean is = (λ _. is, λ _ c. c)
sound_where_fit store block (Settled key) bytes Old is = absurd is
sound_where_fit store block (Settled key) bytes New is = absurd is
sound_where_fit store block (Settled key) bytes Mixed is = absurd is
sound_where_fit store block (Settled key) bytes (Corrupt sector part) is = (λ not. absurd (not tt), λ fit _. is.unfit (fit sector is.in_block))
sound_where_fit store block (Pending old new) bytes Clean is = absurd is
sound_where_fit store block (Pending old new) bytes Old is = (λ _ i le. inl (is.0 i le), λ _ c. c)
sound_where_fit store block (Pending old new) bytes New is = (λ _ i le. inr (is i le), λ _ c. c)
sound_where_fit store block (Pending old new) bytes Mixed is = (λ _. is.0, λ _ c. c)
sound_where_fit store block (Pending old new) bytes (Corrupt sector part) is = (λ not. absurd (not tt), λ fit _. is.unfit (fit sector is.in_block))
sound_where_fit store block Bad bytes Clean is = absurd is
sound_where_fit store block Bad bytes Old is = absurd is
sound_where_fit store block Bad bytes New is = absurd is
sound_where_fit store block Bad bytes Mixed is = absurd is
sound_where_fit store block Bad bytes (Corrupt sector part) is = absurd is

one_sector : (store : StoreId) (block : ℕ) (entry : Entry) (bytes : List ℕ) (sector other : ℕ) (part part' : Part) → IsFirstCorrupt store block entry bytes sector part → IsFirstCorrupt store block entry bytes other part' → sector ≡ other
one_sector store block entry bytes sector other part part' is so = elim (cases_lt sector other) [
  | inl low ↦ absurd (is.unfit (so.before sector low))
  | inr high ↦ elim (cases_lt other sector) [
    | inl low ↦ absurd (so.unfit (is.before other low))
    | inr high' ↦ omega arith
  ]
]

one_corrupt : (store : StoreId) (block : ℕ) (entry : Entry) (bytes : List ℕ) (sector other : ℕ) (part part' : Part) → IsFirstCorrupt store block entry bytes sector part → IsFirstCorrupt store block entry bytes other part' → Corrupt sector part ≡ Corrupt other part'
one_corrupt store block entry bytes sector other part part' is so =
    let same : sector ≡ other = one_sector store block entry bytes sector other part part' is so in
    let there : IsFirstCorrupt store block entry bytes other part = subst (λ (s : ℕ). IsFirstCorrupt store block entry bytes s part) same is in
    let e : part ≡ part' = one_first_difference part part' _ _ _ _ there.differs so.differs in
    cc

pub one_verdict : HasOneVerdict
one_verdict store block (Settled key) bytes Clean Clean is so = refl
one_verdict store block (Settled key) bytes Clean Old is so = absurd so
one_verdict store block (Settled key) bytes Clean New is so = absurd so
one_verdict store block (Settled key) bytes Clean Mixed is so = absurd so
one_verdict store block (Settled key) bytes Clean (Corrupt other part') is so = absurd (so.unfit (is other so.in_block))
one_verdict store block (Settled key) bytes Old Clean is so = absurd is
one_verdict store block (Settled key) bytes Old Old is so = absurd is
one_verdict store block (Settled key) bytes Old New is so = absurd is
one_verdict store block (Settled key) bytes Old Mixed is so = absurd is
one_verdict store block (Settled key) bytes Old (Corrupt other part') is so = absurd is
one_verdict store block (Settled key) bytes New Clean is so = absurd is
one_verdict store block (Settled key) bytes New Old is so = absurd is
one_verdict store block (Settled key) bytes New New is so = absurd is
one_verdict store block (Settled key) bytes New Mixed is so = absurd is
one_verdict store block (Settled key) bytes New (Corrupt other part') is so = absurd is
one_verdict store block (Settled key) bytes Mixed Clean is so = absurd is
one_verdict store block (Settled key) bytes Mixed Old is so = absurd is
one_verdict store block (Settled key) bytes Mixed New is so = absurd is
one_verdict store block (Settled key) bytes Mixed Mixed is so = absurd is
one_verdict store block (Settled key) bytes Mixed (Corrupt other part') is so = absurd is
one_verdict store block (Settled key) bytes (Corrupt sector part) Clean is so = absurd (is.unfit (so sector is.in_block))
one_verdict store block (Settled key) bytes (Corrupt sector part) Old is so = absurd so
one_verdict store block (Settled key) bytes (Corrupt sector part) New is so = absurd so
one_verdict store block (Settled key) bytes (Corrupt sector part) Mixed is so = absurd so
one_verdict store block (Settled key) bytes (Corrupt sector part) (Corrupt other part') is so = one_corrupt store block (Settled key) bytes sector other part part' is so
one_verdict store block (Pending old new) bytes Clean Clean is so = absurd is
one_verdict store block (Pending old new) bytes Clean Old is so = absurd is
one_verdict store block (Pending old new) bytes Clean New is so = absurd is
one_verdict store block (Pending old new) bytes Clean Mixed is so = absurd is
one_verdict store block (Pending old new) bytes Clean (Corrupt other part') is so = absurd is
one_verdict store block (Pending old new) bytes Old Clean is so = absurd so
one_verdict store block (Pending old new) bytes Old Old is so = refl
one_verdict store block (Pending old new) bytes Old New is so = absurd (is.1 so)
one_verdict store block (Pending old new) bytes Old Mixed is so = absurd (so.1 is.0)
one_verdict store block (Pending old new) bytes Old (Corrupt other part') is so = absurd (so.unfit (inl (is.0 other so.in_block)))
one_verdict store block (Pending old new) bytes New Clean is so = absurd so
one_verdict store block (Pending old new) bytes New Old is so = absurd (so.1 is)
one_verdict store block (Pending old new) bytes New New is so = refl
one_verdict store block (Pending old new) bytes New Mixed is so = absurd (so.2 is)
one_verdict store block (Pending old new) bytes New (Corrupt other part') is so = absurd (so.unfit (inr (is other so.in_block)))
one_verdict store block (Pending old new) bytes Mixed Clean is so = absurd so
one_verdict store block (Pending old new) bytes Mixed Old is so = absurd (is.1 so.0)
one_verdict store block (Pending old new) bytes Mixed New is so = absurd (is.2 so)
one_verdict store block (Pending old new) bytes Mixed Mixed is so = refl
one_verdict store block (Pending old new) bytes Mixed (Corrupt other part') is so = absurd (so.unfit (is.0 other so.in_block))
one_verdict store block (Pending old new) bytes (Corrupt sector part) Clean is so = absurd so
one_verdict store block (Pending old new) bytes (Corrupt sector part) Old is so = absurd (is.unfit (inl (so.0 sector is.in_block)))
one_verdict store block (Pending old new) bytes (Corrupt sector part) New is so = absurd (is.unfit (inr (so sector is.in_block)))
one_verdict store block (Pending old new) bytes (Corrupt sector part) Mixed is so = absurd (is.unfit (so.0 sector is.in_block))
one_verdict store block (Pending old new) bytes (Corrupt sector part) (Corrupt other part') is so = one_corrupt store block (Pending old new) bytes sector other part part' is so
one_verdict store block Bad bytes Clean Clean is so = absurd is
one_verdict store block Bad bytes Clean Old is so = absurd is
one_verdict store block Bad bytes Clean New is so = absurd is
one_verdict store block Bad bytes Clean Mixed is so = absurd is
one_verdict store block Bad bytes Clean (Corrupt other part') is so = absurd is
one_verdict store block Bad bytes Old Clean is so = absurd is
one_verdict store block Bad bytes Old Old is so = absurd is
one_verdict store block Bad bytes Old New is so = absurd is
one_verdict store block Bad bytes Old Mixed is so = absurd is
one_verdict store block Bad bytes Old (Corrupt other part') is so = absurd is
one_verdict store block Bad bytes New Clean is so = absurd is
one_verdict store block Bad bytes New Old is so = absurd is
one_verdict store block Bad bytes New New is so = absurd is
one_verdict store block Bad bytes New Mixed is so = absurd is
one_verdict store block Bad bytes New (Corrupt other part') is so = absurd is
one_verdict store block Bad bytes Mixed Clean is so = absurd is
one_verdict store block Bad bytes Mixed Old is so = absurd is
one_verdict store block Bad bytes Mixed New is so = absurd is
one_verdict store block Bad bytes Mixed Mixed is so = absurd is
one_verdict store block Bad bytes Mixed (Corrupt other part') is so = absurd is
one_verdict store block Bad bytes (Corrupt sector part) Clean is so = absurd is
one_verdict store block Bad bytes (Corrupt sector part) Old is so = absurd is
one_verdict store block Bad bytes (Corrupt sector part) New is so = absurd is
one_verdict store block Bad bytes (Corrupt sector part) Mixed is so = absurd is
one_verdict store block Bad bytes (Corrupt sector part) (Corrupt other part') is so = absurd is

pub fits_where_permitted : FitsWherePermitted
fits_where_permitted store block (Settled key) bytes i live = (
  (λ fits. (key, refl, fits)),
  (λ p. subst (λ (k : ℕ). MatchesAt store block k bytes i) p.1 p.2),
)
fits_where_permitted store block (Pending old new) bytes i live = (
  (λ fits. elim fits [ inl a ↦ (old, inl refl, a) | inr b ↦ (new, inr refl, b) ]),
  (λ p. elim p.1 [
    | inl a ↦ inl (subst (λ (k : ℕ). MatchesAt store block k bytes i) a p.2)
    | inr b ↦ inr (subst (λ (k : ℕ). MatchesAt store block k bytes i) b p.2)
  ]),
)
fits_where_permitted store block Bad bytes i live = absurd (live refl)

pub stamped_fits : StampedFits
stamped_fits store block key bytes stamped i le = inr (stamped i le)
