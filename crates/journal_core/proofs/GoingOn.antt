-- A disk that goes on through calls.
use Rattle.std.proofs.Common.{◌≡◌, inl, inr, ⊎_elim, ℕ, ◌+◌, ◌-◌, ◌≤◌, ◌<◌, List, length, replicate, Option, Result, Ok, Err, [], ◌∷◌, ◌++◌, refl, sym, ap, ◌∙◌, subst, arith}
use Rattle.std.proofs.lemmas.List.{length_push}
use Rattle.key_state.specs.declared.entry.Entry.{Entry}
use Rattle.journal_layout.specs.declared.live.Live.{Live}
use Rattle.journal_layout.specs.Recovery.{journal_end, map_start, log_start}
use Rattle.vd_disk.specs.Disk.{DiskSeen, Sectors, Table, WhenTold, IsTale, Writes, Syncs, Leaves, present, settled, written}
use Rattle.journal_core.specs.declared.fault.OpenFault.{OpenFault}
use Rattle.journal_core.specs.Calls.{AddsAtMost, GoesOn, IsOpened, NotMade, NotOpened}
use Rattle.journal_core.specs.Changes.{Changed}
use Rattle.journal_core.specs.Keeps.{Memory, HasStory, HasSome, first_story, new_memory, IsGateAt, next_of}
use Rattle.journal_core.specs.Opening.{Opens}
use Rattle.journal_core.specs.Writes.{InMap, IsZeroIn, Begins, ClearsLog, ClearsBoth, Reopens}
use Rattle.journal_core.proofs.Opened.{opened_story}
use Rattle.journal_core.proofs.Changes.{changed_write, changed_sync, changed_same, changed_then, changed_wider}
use Rattle.journal_core.proofs.Kernel.{map_inside, log_inside}

-- before an end
abbrev Before : ℕ → ℕ → List ℕ → Type 0
Before end i content = i < end

pub goes_same : (end : ℕ) (old new : DiskSeen) → WhenTold old.told (IsTale old.sectors old.moments) → new ≡ record old { faults = new.faults } → old.faults ≤ new.faults → GoesOn end old new
goes_same end old new tale same later = changed_same (Before end) old new tale same later

pub goes_still : (end : ℕ) (disk : DiskSeen) → WhenTold disk.told (IsTale disk.sectors disk.moments) → GoesOn end disk disk
goes_still end disk tale = goes_same end disk disk tale refl (omega arith)

pub goes_as : (end : ℕ) (old new : DiskSeen) → WhenTold old.told (IsTale old.sectors old.moments) → new ≡ old → GoesOn end old new
goes_as end old new tale same = subst (λ (d : DiskSeen). GoesOn end old d) (sym same) (goes_still end old tale)

pub goes_changed : (end : ℕ) (Q : ℕ → List ℕ → Type 0) (old new : DiskSeen) → ((i : ℕ) (content : List ℕ) → Q i content → i < end) → Changed Q old new → GoesOn end old new
goes_changed end Q old new inside changed = changed_wider Q (Before end) old new inside changed

pub goes_then : (end : ℕ) (a b c : DiskSeen) → GoesOn end a b → GoesOn end b c → GoesOn end a c
goes_then end a b c one two = changed_then (Before end) a b c one two

map_before : (live : Live) (i : ℕ) (content : List ℕ) → InMap live i content → i < journal_end live
map_before live i content is =
    let low = is.0 in
    let high = is.1 in
    let at = map_inside live (i - map_start live) (omega (arith, low, high)) in
    omega (arith, at, low)

gate_before : (live : Live) (i : ℕ) (content : List ℕ) → IsGateAt live i content → i < journal_end live
gate_before live i content is = omega (arith, is.0)

log_before : (live : Live) (epoch : ℕ) (told : Option Sectors) (i : ℕ) (content : List ℕ) → ClearsLog live epoch told i content → i < journal_end live
log_before live epoch told i content is =
    let low = is.0.0 in
    let high = is.0.1 in
    let at = log_inside live (i - log_start live) (omega (arith, low, high)) in
    omega (arith, at, low)

logs_before : (live : Live) (told : Option Sectors) (i : ℕ) (content : List ℕ) → ClearsBoth live told i content → i < journal_end live
logs_before live told i content (inl is) = log_before live live.epoch told i content is
logs_before live told i content (inr is) = log_before (next_of live) live.epoch told i content is

pub goes_begins : {E : Type 0} (live : Live) (entries : List Entry) (old new : DiskSeen) (result : Result (Unit {0}) E) → Begins live entries old new result → GoesOn (journal_end live) old new
goes_begins live entries old new result (inl all) =
    goes_then (journal_end live) old all.0 new (goes_changed (journal_end live) (InMap live) old all.0 (map_before live) all.2) (goes_changed (journal_end live) (IsGateAt live) all.0 new (gate_before live) all.4)
goes_begins live entries old new result (inr part) = goes_changed (journal_end live) (InMap live) old new (map_before live) part.0

pub goes_reopens : {E : Type 0} (live : Live) (entries : List Entry) (old new : DiskSeen) (result : Result (Unit {0}) E) → Reopens live entries old new result → GoesOn (journal_end live) old new
goes_reopens live entries old new result (inl all) =
    goes_then (journal_end live) old all.0 new (goes_changed (journal_end live) (ClearsBoth live old.told) old all.0 (logs_before live old.told) all.2) (goes_begins (next_of live) entries all.0 new result all.4)
goes_reopens live entries old new result (inr part) = goes_changed (journal_end live) (ClearsBoth live old.told) old new (logs_before live old.told) part.0

pub goes_write : {E : Type 0} (end at : ℕ) (bytes : List ℕ) (old new : DiskSeen) (result : Result (Unit {0}) E) → at < end → WhenTold old.told (IsTale old.sectors old.moments) → Writes at bytes old new result → Leaves old new → old.faults ≤ new.faults
    → GoesOn end old new
goes_write end at bytes old new result inside tale writes leaves later = changed_write (Before end) old new tale at bytes result inside writes leaves later

pub goes_sync : {E : Type 0} (end : ℕ) (old new : DiskSeen) (result : Result (Unit {0}) E) → WhenTold old.told (IsTale old.sectors old.moments) → Syncs old new result → Leaves old new → old.faults ≤ new.faults → GoesOn end old new
goes_sync end old new result tale syncs leaves later = changed_sync (Before end) old new tale result syncs leaves later

-- the rows of zeros of a new journal, and its gate
pub goes_zeros : (end from to : ℕ) (old new : DiskSeen) → to ≤ end → Changed (IsZeroIn from to) old new → GoesOn end old new
goes_zeros end from to old new inside changed = goes_changed end (IsZeroIn from to) old new (λ i content is. let high = is.1 in omega (arith, high, inside)) changed

pub goes_gate : (live : Live) (old new : DiskSeen) → Changed (IsGateAt live) old new → GoesOn (journal_end live) old new
goes_gate live old new changed = goes_changed (journal_end live) (IsGateAt live) old new (gate_before live) changed

-- how many moments calls add
pub adds_none : (n : ℕ) (disk : DiskSeen) → AddsAtMost n disk disk
adds_none n disk s told = omega arith

pub adds_then : (m n k end : ℕ) (a b c : DiskSeen) → m + n ≤ k → GoesOn end a b → AddsAtMost m a b → AddsAtMost n b c → AddsAtMost k a c
adds_then m n k end a b c sum goes one two s told =
    let mid = goes.told s told in
    omega (arith, sum, one s told, two mid.0 mid.1)

longer_by : (ms ns : List Table) (t : Table) → ns ≡ ms ++ t ∷ [] → length ns ≤ length ms + 1
longer_by ms ns t is = omega (arith, ap (λ (l : List Table). length l) is, length_push ms t)

pub adds_write : {E : Type 0} (at : ℕ) (bytes : List ℕ) (old new : DiskSeen) (result : Result (Unit {0}) E) → Writes at bytes old new result → AddsAtMost 1 old new
adds_write at bytes old new (Ok done) writes s told = longer_by old.moments new.moments (written at bytes (present old.moments)) (writes.may_leave s told)
adds_write at bytes old new (Err e) writes s told =
    ⊎_elim (λ same. omega (arith, ap (λ (l : List Table). length l) same)) (λ more. longer_by old.moments new.moments (written at bytes (present old.moments)) more) writes.failed_leaves

pub adds_sync : {E : Type 0} (old new : DiskSeen) (result : Result (Unit {0}) E) → Syncs old new result → AddsAtMost 1 old new
adds_sync old new (Ok done) syncs s told = longer_by old.moments new.moments (settled s) (syncs.settles s told)
adds_sync old new (Err e) syncs s told = omega (arith, ap (λ (l : List Table). length l) syncs.failed)

-- what an opening leaves, by what it made
pub is_opened : (given began opened disk made : DiskSeen) (b : Memory) (live : Live) (old entries : List Entry) → Opens live entries given.told given.moments made.moments → began ≡ given → opened ≡ made → disk ≡ made
    → made.faults ≡ given.faults → GoesOn (journal_end live) given made → b ≡ new_memory live old (replicate 512 0) (length made.moments - 1) → old ≡ entries → HasSome disk b → IsOpened given began opened disk b live entries
is_opened given began opened disk made b live old entries opens since ended is faults goes memory same some = record {
  opens = subst (λ (d : DiskSeen). Opens live entries given.told given.moments d.moments) (sym is) opens;
  since = since;
  ended = ended ∙ sym is;
  faults = ap (λ (d : DiskSeen). d.faults) is ∙ faults;
  goes_on = subst (λ (d : DiskSeen). GoesOn (journal_end live) given d) (sym is) goes;
  memory = memory ∙ ap (λ (es : List Entry). new_memory live es (replicate 512 0) (length made.moments - 1)) same
      ∙ ap (λ (d : DiskSeen). new_memory live entries (replicate 512 0) (length d.moments - 1)) (sym is);
  story = subst (λ (es : List Entry). HasStory disk b (first_story es)) same (opened_story disk b live old (replicate 512 0) (length made.moments - 1) memory some);
}

pub not_made : (live : Live) (entries : List Entry) (given back left : DiskSeen) (why was : OpenFault) → left ≡ back → why ≡ was → NotMade live entries given back was → NotMade live entries given left why
not_made live entries given back left why was same is not = subst (λ (w : OpenFault). NotMade live entries given left w) (sym is) (subst (λ (d : DiskSeen). NotMade live entries given d was) (sym same) not)

pub not_opened : (live : Live) (entries : List Entry) (given back left : DiskSeen) (why was : OpenFault) → left ≡ back → why ≡ was → NotOpened live entries given back was → NotOpened live entries given left why
not_opened live entries given back left why was same is not = subst (λ (w : OpenFault). NotOpened live entries given left w) (sym is) (subst (λ (d : DiskSeen). NotOpened live entries given d was) (sym same) not)
