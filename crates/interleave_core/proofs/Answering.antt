-- What the parts of an event's code come to.
use Rattle.std.proofs.Common.{◌≡◌, ◌↔◌, ◌<◌, ◌+◌, ◌*◌, Bool, true, false, length, slice_index_or, ℕ, slice_set, List, [], drop, sym, ap, ◌∙◌, subst}
use Rattle.key_state.specs.Entries.{entry_at}
use Rattle.interleave_core.specs.declared.event.Event.TheVariants as event
use Rattle.interleave_core.specs.declared.hold.Hold.{Hold}
use Rattle.interleave_core.specs.Event.{Enabled, Changes, IsOpen, IsSafe, at_stage, pending_key}
use Rattle.interleave_core.specs.Fits.{Settles}
use Rattle.interleave_core.specs.Journal.{Ledger, now_of}
use Rattle.interleave_core.specs.World.{World, Lists, hold_of, entry_of, place}
use Rattle.interleave_core.specs.declared.hold.Stage.TheVariants.{Writing}
use Rattle.vd_base.specs.declared.geometry.BlockNo.{BlockNo}

pub recover_answer : (w : World) (S : ℕ) (old new : Ledger) (holds : List Hold) (keys read : List ℕ) (written : List Bool) (stopped : Bool)
    → record { sectors = S; base = old.base; records = old.records; synced = old.synced; holds = holds; keys = keys; written = written; stopped = stopped } ≡ w
    → stopped ≡ true → read ≡ keys
    → new ≡ record { base = new.base; records = []; synced = 0 } → length new.base ≡ length old.base
    → ((b : ℕ) → b < length old.base → Settles (λ s. slice_index_or read (b * S + s) 0) S (now_of old b) (entry_at new.base b))
    → Enabled w event.Recover × Changes w event.Recover (record { sectors = S; base = new.base; records = new.records; synced = new.synced; holds = holds; keys = keys; written = written; stopped = false })
recover_answer w S old new holds keys read written stopped view is same anew size each =
    subst (λ (x : World). Enabled x event.Recover × Changes x event.Recover (record { sectors = S; base = new.base; records = new.records; synced = new.synced; holds = holds; keys = keys; written = written; stopped = false })) view (
      is,
      (
        ap (λ (x : Ledger). record { sectors = S; base = new.base; records = x.records; synced = x.synced; holds = holds; keys = keys; written = written; stopped = false }) anew,
        size,
        λ b within. subst (λ (l : List ℕ). Settles (λ s. slice_index_or l (b * S + s) 0) S (now_of old b) (entry_at new.base b)) same (each b within),
      ),
    )

-- of a worker whose hold was read
pub write_enabled : (w : World) (a s : ℕ) (b : BlockNo) (h : Hold) (P : Type 0) → (w.stopped ≡ false) × (a < length w.holds) → h ≡ hold_of w a
    → IsOpen h.stage → Lists h b.0 → s < w.sectors
    → (P ↔ ((c : ℕ) → Lists h c → IsSafe (entry_of w c) (drop w.synced w.records) c)) → (P ↔ Enabled w (event.Write a b s))
write_enabled w a s b h P there is opened lists within safe = (
  λ p. (
    (there.0, there.1, subst (λ (g : Hold). IsOpen g.stage) is opened),
    subst (λ (g : Hold). Lists g b.0) is lists,
    within,
    λ c n. safe.0 p c (subst (λ (g : Hold). Lists g c) (sym is) n),
  ),
  λ on. safe.1 (λ c n. on.3 c (subst (λ (g : Hold). Lists g c) is n)),
)

pub write_answer : (w new : World) (a s at key : ℕ) (b : BlockNo) → Enabled w (event.Write a b s) → at ≡ place w b.0 s → key ≡ pending_key (entry_of w b.0)
    → new ≡ record w { holds = at_stage w a Writing; keys = slice_set w.keys at key; written = slice_set w.written at true }
    → Enabled w (event.Write a b s) × Changes w (event.Write a b s) new
write_answer w new a s at key b on is_place is_key is = (
  on,
  is ∙ ap (λ p. record w { holds = at_stage w a Writing; keys = slice_set w.keys p key; written = slice_set w.written p true }) is_place
      ∙ ap (λ k. record w { holds = at_stage w a Writing; keys = slice_set w.keys (place w b.0 s) k; written = slice_set w.written (place w b.0 s) true }) is_key,
)
