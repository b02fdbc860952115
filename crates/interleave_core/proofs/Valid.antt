-- The entries of every world are entries.
use Rattle.std.proofs.Common.{◌≡◌, inl, inr, ℕ, ◌<◌, List, [], ◌∷◌, length, take, sym, ap, subst, arith}
use Rattle.std.proofs.lemmas.List.{get_or-replicate, length-replicate}
use Rattle.key_state.specs.declared.entry.Entry.{Entry}
use Rattle.key_state.specs.declared.entry.Entry.TheVariants.{Settled, Pending, Bad}
use Rattle.key_state.specs.Entries.{IsEntry, entry_at, states, IsHistory, AreEntries, EntriesStay}
use Rattle.interleave_core.specs.declared.event.Event.{Event}
use Rattle.interleave_core.specs.declared.event.Event.TheVariants as event
use Rattle.interleave_core.specs.Event.{Changes, Run}
use Rattle.interleave_core.specs.Fits.{Settles}
use Rattle.interleave_core.specs.Sound.{Always, ValidEntries}
use Rattle.interleave_core.specs.World.{World, first_world, entry_of, key_of}
use Rattle.interleave_core.proofs.Always.{good_first}
use Rattle.interleave_core.proofs.Chains.{chain_take, own-take_nil}
use Rattle.interleave_core.proofs.Events.{good_step}
use Rattle.interleave_core.proofs.Good.{Good}
use Rattle.interleave_core.proofs.Kept.{states_at, states_length}

valid_first : (blocks sectors workers : ℕ) → AreEntries (first_world blocks sectors workers).base
valid_first blocks sectors workers = λ b within.
    subst IsEntry (sym (get_or-replicate blocks b (Settled 0) Bad (omega (arith, within, length-replicate blocks (Settled 0))))) tt

-- What sectors confirm of an entry is one.
settles_valid : (key : ℕ → ℕ) (many : ℕ) (e to : Entry) → Settles key many e to → IsEntry e → IsEntry to
settles_valid key many Bad to settles valid = subst IsEntry (sym settles) tt
settles_valid key many (Settled k) to settles valid = elim settles [
  | inl all ↦ subst IsEntry (sym all.1) tt
  | inr bad ↦ subst IsEntry (sym bad.1) tt
]
settles_valid key many (Pending old new) to settles valid = elim settles [
  | inl all ↦ subst IsEntry (sym all.1) tt
  | inr rest ↦ elim rest [
    | inl all ↦ subst IsEntry (sym all.2) tt
    | inr more ↦ elim more [
      | inl mixed ↦ subst IsEntry (sym mixed.3) valid
      | inr bad ↦ subst IsEntry (sym bad.1) tt
    ]
  ]
]

anew_valid : (base old : List Entry) → base ≡ old → AreEntries old → AreEntries base
anew_valid base old same valid = subst AreEntries (sym same) valid

recovered_valid : EntriesStay → (w new : World) → Good w → AreEntries w.base → Changes w event.Recover new → AreEntries new.base
recovered_valid stay w new good valid change = λ b within.
    let inside : b < length w.base = omega (arith, within, change.1) in
    let long : b < length (states w.base w.records) = omega (arith, inside, states_length w.base w.records) in
    let now : IsEntry (entry_of w b) = subst IsEntry (states_at w.base w.records b inside) ((stay w.base w.records).1 valid good.kept.legal b long) in
    settles_valid (key_of w b) w.sectors (entry_of w b) (entry_at new.base b) (change.2 b inside) now

valid_change : EntriesStay → (w new : World) (e : Event) → Good w → AreEntries w.base → Changes w e new → AreEntries new.base
valid_change stay w new (event.Claim a b) good valid change = elim change [
  | inl busy ↦ anew_valid new.base w.base (ap (λ (x : World). x.base) busy.1) valid
  | inr free ↦ anew_valid new.base w.base (ap (λ (x : World). x.base) free.1) valid
]
valid_change stay w new (event.Begin a) good valid change = elim change [
  | inl some ↦ anew_valid new.base w.base (ap (λ (x : World). x.base) some.1) valid
  | inr none ↦ anew_valid new.base w.base (ap (λ (x : World). x.base) none.1) valid
]
valid_change stay w new event.Sync good valid change = anew_valid new.base w.base (ap (λ (x : World). x.base) change) valid
valid_change stay w new (event.Write a b s) good valid change = anew_valid new.base w.base (ap (λ (x : World). x.base) change) valid
valid_change stay w new (event.Ack a) good valid change = anew_valid new.base w.base (ap (λ (x : World). x.base) change) valid
valid_change stay w new (event.Fault a) good valid change = anew_valid new.base w.base (ap (λ (x : World). x.base) change) valid
valid_change stay w new (event.End a) good valid change = anew_valid new.base w.base (ap (λ (x : World). x.base) change) valid
valid_change stay w new (event.Bad a b) good valid change = anew_valid new.base w.base (ap (λ (x : World). x.base) change) valid
valid_change stay w new (event.Clear a) good valid change = anew_valid new.base w.base (ap (λ (x : World). x.base) change) valid
valid_change stay w new (event.Release a) good valid change = anew_valid new.base w.base (ap (λ (x : World). x.base) change) valid
valid_change stay w new event.Turnover good valid change =
    anew_valid new.base (states w.base w.records) (ap (λ (x : World). x.base) change) ((stay w.base w.records).1 valid good.kept.legal)
valid_change stay w new (event.Stop keep) good valid change = anew_valid new.base w.base (ap (λ (x : World). x.base) change) valid
valid_change stay w new event.Recover good valid change = recovered_valid stay w new good valid change

valid_run : EntriesStay → (list : List Event) (w new : World) → Good w → AreEntries w.base → Run w list new → Good new × AreEntries new.base
valid_run stay [] w new good valid run = (subst Good (sym run) good, subst (λ (x : World). AreEntries x.base) (sym run) valid)
valid_run stay (e ∷ list) w new good valid run = elim run.1 [
  | inl on ↦ valid_run stay list run.0 new (good_step w run.0 e good on.0 on.1) (valid_change stay w run.0 e good valid on.1) run.2
  | inr off ↦ valid_run stay list run.0 new (subst Good (sym off.1) good) (subst (λ (x : World). AreEntries x.base) (sym off.1) valid) run.2
]

-- A front of a world's records is legal.
front_legal : (w : World) (count : ℕ) → Good w → IsHistory w.base (take count w.records)
front_legal w count good = record {
  chains = λ b within. chain_take (entry_at w.base b) b count w.records (good.kept.legal.chains b within);
  within = λ b past. own-take_nil b count w.records (good.kept.legal.within b past);
}

pub always_valid : EntriesStay → Always ValidEntries
always_valid stay blocks sectors workers list w run =
    let kept = valid_run stay list (first_world blocks sectors workers) w (good_first blocks sectors workers) (valid_first blocks sectors workers) run in
    λ count. (stay w.base (take count w.records)).1 kept.1 (front_legal w count kept.0)
