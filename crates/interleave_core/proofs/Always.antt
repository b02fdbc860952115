-- Every list of events leaves a new world sound.
use Rattle.std.specs.Prelude.{Result, Ok, Err, IfOk, OnErr}
use Rattle.std.proofs.Common.{◌≡◌, inl, inr, ℕ, ◌*◌, Bool, true, false, List, [], ◌∷◌, length, replicate, refl, sym, ap, ◌∙◌, subst, arith}
use Rattle.std.proofs.lemmas.List.{get_or-replicate, length-replicate}
use Rattle.std.proofs.Math.Seq.{take-nil}
use Rattle.key_state.specs.declared.entry.Entry.{Entry}
use Rattle.key_state.specs.declared.entry.Entry.TheVariants.{Settled, Bad}
use Rattle.key_state.specs.declared.record.Record.{Record}
use Rattle.key_state.specs.Entries.{state, entry_at}
use Rattle.interleave_core.specs.declared.event.Event.{Event}
use Rattle.interleave_core.specs.declared.event.Event.TheVariants as event
use Rattle.interleave_core.specs.Event.{Run, Does}
use Rattle.interleave_core.specs.Fits.{Fits}
use Rattle.interleave_core.specs.Sound.{Sound, Always, SectorsFit, StopsFitting, RecoversAll}
use Rattle.interleave_core.specs.World.{World, first_world, entry_of, key_of, is_written}
use Rattle.interleave_core.proofs.Hands.{hands_free, none_listed}
use Rattle.interleave_core.proofs.Kept.{fits_now, never_bad}
use Rattle.interleave_core.proofs.Good.{Good, sound_of, good_of}
use Rattle.interleave_core.proofs.Events.{good_step}

pub good_first : (blocks sectors workers : ℕ) → Good (first_world blocks sectors workers)
good_first blocks sectors workers = record {
  kept = record {
    synced = omega arith;
    keyed = length-replicate {A = ℕ} (blocks * sectors) 0 ∙ ap (λ k. k * sectors) (sym (length-replicate blocks (Settled 0)));
    marked = length-replicate (blocks * sectors) false ∙ ap (λ k. k * sectors) (sym (length-replicate blocks (Settled 0)));
    legal = record { chains = λ b within. tt; within = λ b past. refl };
    fits = λ count b s low high within in_block.
        let base : entry_at (replicate blocks (Settled 0)) b ≡ Settled 0 = get_or-replicate blocks b (Settled 0) Bad (omega (arith, within, length-replicate blocks (Settled 0))) in
        subst (λ (l : List Record). Fits (state (replicate blocks (Settled 0)) l b) (key_of (first_world blocks sectors workers) b s)) (sym (take-nil count))
        (subst (λ (e : Entry). Fits e (key_of (first_world blocks sectors workers) b s)) (sym base) (inl refl));
  };
  hands = hands_free workers sectors (length (replicate blocks (Settled 0))) (entry_of (first_world blocks sectors workers)) (key_of (first_world blocks sectors workers)) (is_written (first_world blocks sectors workers));
  quiet = λ stopped. none_listed workers;
}

good_run : (list : List Event) (w new : World) → Good w → Run w list new → Good new
good_run [] w new good run = subst Good (sym run) good
good_run (e ∷ list) w new good run = good_run list run.0 new (elim run.1 [
  | inl on ↦ good_step w run.0 e good on.0 on.1
  | inr off ↦ subst Good (sym off.1) good
]) run.2

pub always_good : (blocks sectors workers : ℕ) (list : List Event) (w : World) → Run (first_world blocks sectors workers) list w → Good w
always_good blocks sectors workers list w run = good_run list (first_world blocks sectors workers) w (good_first blocks sectors workers) run

pub always_sound : (blocks sectors workers : ℕ) (list : List Event) (w : World) → Run (first_world blocks sectors workers) list w → Sound w
always_sound blocks sectors workers list w run = sound_of w (always_good blocks sectors workers list w run)

pub always_fits : Always SectorsFit
always_fits blocks sectors workers list w run = fits_now w (always_good blocks sectors workers list w run).kept

-- Where a world stopped, its sectors fit.
pub stopped_fits : Always StopsFitting
stopped_fits blocks sectors workers list w run keep after on changes =
    fits_now after (good_step w after (event.Stop keep) (always_good blocks sectors workers list w run) on changes).kept

-- A recovery makes no entry bad that wasn't.
pub recovers_all : Always RecoversAll
recovers_all blocks sectors workers list w run after on changes b within good =
    never_bad (key_of w b) w.sectors (entry_of w b) (entry_at after.base b) (changes.2 b within)
    (λ s in_block. fits_now w (always_good blocks sectors workers list w run).kept b s within in_block) good

pub first_sound : (blocks sectors workers : ℕ) → Sound (first_world blocks sectors workers)
first_sound blocks sectors workers = sound_of (first_world blocks sectors workers) (good_first blocks sectors workers)

-- What a call for an event leaves.
pub does_sound : (w new : World) (e : Event) (taken : Bool) → Sound w → Does w e taken new → Sound new
does_sound w new e true sound does = sound_of new (good_step w new e (good_of w sound) does.0 does.1)
does_sound w new e false sound does = subst Sound (sym does.1) sound

pub answer_sound : {X : Type 0} (w new : World) (e : Event) (answer : Result Bool X) → Sound w → IfOk answer (λ taken. Does w e taken new) → OnErr answer (new ≡ w) → Sound new
answer_sound w new e (Ok taken) sound ok err = does_sound w new e taken sound ok
answer_sound w new e (Err none) sound ok err = subst Sound (sym err) sound
