-- What the disk of a journal that was opened just now gives.
use Rattle.std.specs.Prelude.{◌≡◌, ℕ, zero, suc, ◌+◌, ◌-◌, ◌≤◌, List, [], ◌∷◌, length, slice_get, unwrap_or, refl, Option, Some, None, IsSome}
use Rattle.std.proofs.Common.{inl, inr, sym, ◌∙◌, ap, subst, arith}
use Rattle.std.proofs.Math.Logic.{∥∥₁_map}
use Rattle.std.proofs.lemmas.Option.{slice_get_within}
use Rattle.vd_base.specs.declared.geometry.StoreId.{StoreId}
use Rattle.vd_disk.specs.Disk.{DiskSeen, IsImage, Sectors, Table, present}
use Rattle.key_state.specs.Entries.{states}
use Rattle.key_state.specs.declared.entry.Entry.{Entry}
use Rattle.key_state.specs.declared.record.Record.{Record}
use Rattle.key_state.specs.declared.seen.BookSeen.{BookSeen}
use Rattle.journal_layout.specs.declared.live.Live.{Live}
use Rattle.journal_layout.specs.Recovery.{Gives, Recovers, journal_end}
use Rattle.journal_core.specs.Calls.{GoesOn, IsOpened}
use Rattle.journal_core.specs.Chapters.{Chapter}
use Rattle.journal_core.specs.History.{Found, HistoryOf, IsFrontOf, IsSince, KeepsOver}
use Rattle.journal_core.specs.Keeps.{HasStory, Memory, Story, first_story}
use Rattle.journal_core.specs.Seen.{stopped_at}
use Rattle.plan_journals.specs.Open.{GivesOpened, Held, Start, live_of, seen_held}

abbrev live_at : StoreId → ℕ → ℕ → Live
live_at id epoch logs = record { version = 2; epoch = epoch; id = id; log_sectors = logs }

found_start : (start : Start) (id : StoreId) (epoch logs : ℕ) (image : Sectors) (is : Found id image) → is.live ≡ live_at id epoch logs → id ≡ start.id → epoch ≡ start.epoch → logs ≡ start.log_sectors → is.base ≡ start.entries → is.records ≡ []
    → states start.entries [] ≡ start.entries → Gives image start.id (Recovers (live_of start) [] start.entries)
found_start start id epoch logs image is live same e l base none still =
    let its_live : is.live ≡ live_of start = live ∙ ap (λ (x : StoreId). live_at x epoch logs) same ∙ ap (λ (n : ℕ). live_at start.id n logs) e ∙ ap (λ (n : ℕ). live_at start.id start.epoch n) l in
    let gives = subst (λ (x : StoreId). Gives image x (Recovers is.live is.records (states is.base is.records))) same is.gives in
    let with_live = subst (λ (x : Live). Gives image start.id (Recovers x is.records (states is.base is.records))) its_live gives in
    let with_base = subst (λ (x : List Entry). Gives image start.id (Recovers (live_of start) is.records (states x is.records))) base with_live in
    let with_records = subst (λ (x : List Record). Gives image start.id (Recovers (live_of start) x (states start.entries x))) none with_base in
    subst (λ (x : List Entry). Gives image start.id (Recovers (live_of start) [] x)) still with_records

only_place : {A : Type 0} (one x : A) (place : ℕ) → slice_get (one ∷ []) place ≡ Some x → (place ≡ 0) × (one ≡ x)
only_place one x zero is = (refl, ap (λ o. unwrap_or o one) is)
only_place one x (suc n) is = let far = slice_get_within (one ∷ []) (suc n) x is in absurd (omega (arith, far))

no_front : (front : List Record) → IsFrontOf front [] → front ≡ []
no_front [] is = refl
no_front (x ∷ xs) is = cc

same_id : (a b : StoreId) (o : Option StoreId) → o ≡ Some a → o ≡ Some b → a ≡ b
same_id a b o e f = ap (λ x. unwrap_or x a) (sym e ∙ f)

not_stopped : (o : Option ℕ) → o ≡ None → IsSome o → ⊥
not_stopped None e is = cc
not_stopped (Some n) e is = cc

-- what is known of a book whose opening ended just now
record Begins (start : Start) (b : BookSeen) (disk : DiskSeen) : Type 0 where
  its_id : b.origin.id ≡ Some start.id
  its_logs : b.origin.log_sectors ≡ start.log_sectors
  its_epoch : b.origin.epoch ≡ start.epoch
  now : b.now ≡ start.entries
  running : b.stopped ≡ None
  ended : b.origin.opened ≡ disk.moments

gives_of : (start : Start) (b : BookSeen) (disk : DiskSeen) (sectors : Sectors) (records least : ℕ) → Begins start b disk → 1 ≤ length disk.moments → disk.told ≡ Some sectors → HistoryOf b (first_story start.entries) records least disk
    → (image : Sectors) → IsImage (present b.origin.opened) image → Gives image start.id (Recovers (live_of start) [] start.entries)
gives_of start b disk sectors records least begins some told h image left =
    let m = length disk.moments - 1 in
    let many : length b.origin.opened ≡ length disk.moments = ap length begins.ended in
    let since : IsSince b disk m image = (omega (arith, many), record { reached = omega (arith, some); left = subst (λ (t : List Table). IsImage (present t) image) begins.ended left }) in
    let one = h.images sectors told in
    let found = one.found m image since in
    elim (one.told m image since found) [
      | inl e ↦
          let here = only_place (record { base = start.entries; past = [] }) e.chapter e.place e.there in
          let place = here.0 in
          let epoch = begins.its_epoch in
          found_start start h.id (b.origin.epoch + e.place) b.origin.log_sectors image found e.live (same_id h.id start.id b.origin.id h.its_id begins.its_id) (omega (arith, place, epoch)) begins.its_logs
          (e.map ∙ sym (ap (λ (c : Chapter). c.base) here.1))
          (no_front found.records (subst (IsFrontOf found.records) (sym (ap (λ (c : Chapter). c.past) here.1)) e.records))
          (sym h.now ∙ begins.now)
      | inr e ↦ absurd (not_stopped b.stopped begins.running e.0)
    ]

gives_opened : (start : Start) (b : BookSeen) (given disk : DiskSeen) (records least : ℕ) → Begins start b disk → b.origin.told ≡ given.told → GoesOn (journal_end (live_of start)) given disk → KeepsOver b (first_story start.entries) records least disk → GivesOpened start b.origin
gives_opened start b given disk records least begins same goes history sectors told =
    let was = sym same ∙ told in
    let still = goes.told sectors was in
    let begun = (goes.tables sectors was).began.1 in
    ∥∥₁_map history (λ h. gives_of start b disk still.0 records least begins (omega (arith, begun)) still.1 h)

-- what recovery gives of a journal, by its law
abbrev pub KeepsStory : Held → Type 0
KeepsStory held = (so_far : Story) → HasStory held.disk held.memory so_far → KeepsOver (seen_held held) so_far held.memory.records held.memory.synced held.disk

pub opened_only : (start : Start) (given : DiskSeen) (held : Held) → IsOpened given held.began held.opened held.disk held.memory (live_of start) start.entries → KeepsStory held → GivesOpened start (seen_held held).origin
opened_only start given held o keeps =
    gives_opened start (seen_held held) given held.disk held.memory.records held.memory.synced (record {
      its_id = ap (λ (b : Memory). Some b.live.id) o.memory;
      its_logs = ap (λ (b : Memory). b.live.log_sectors) o.memory;
      its_epoch = ap (λ (b : Memory). b.first_epoch) o.memory;
      now = ap (λ (b : Memory). b.entries) o.memory;
      running = ap stopped_at o.memory;
      ended = ap (λ (d : DiskSeen). d.moments) o.ended;
    }) (ap (λ (d : DiskSeen). d.told) o.since) o.goes_on (keeps (first_story start.entries) o.story)
