-- The laws of open and closed journals, and how books are opened.
use Rattle.std.specs.Prelude.{◌≡◌, ℕ, zero, suc, ◌+◌, ◌*◌, ◌<◌, ◌≤◌, IsTrue, List, [], ◌∷◌, length, take, refl, Option, Some, None, IsSome}
use Rattle.std.proofs.Common.{sym, ◌∙◌, ap, subst, arith, get_or}
use Rattle.std.proofs.Math.Logic.{∥∥₁_elim, ∥∥₁_map}
use Rattle.std.proofs.Math.Bridge.{le_prop}
use Rattle.std.proofs.lemmas.List.{length-take}
use Rattle.key_state.specs.Books.{follows_same, follows_then}
use Rattle.key_state.specs.declared.seen.BookSeen.{BookSeen}
use Rattle.key_state.specs.declared.seen.Origin.{Origin}
use Rattle.vd_disk.specs.Disk.{DiskSeen, Extends, IsTale, Sectors, Table, WhenTold}
use Rattle.journal_core.specs.History.{closed}
use Rattle.plan_types.specs.Valid.{AreDifferent, paths_of}
use Rattle.plan_types.specs.declared.store.StorePlan.{StorePlan}
use Rattle.vd_yard.specs.Kept.{Kept, kept_at}
use Rattle.vd_yard.specs.Yard.{YardSeen}
use Rattle.plan_journals.specs.Open.{AllFollow, AreFrom, AreMade, AreOpenedNow, AreStartsOf, CameFrom, FitsTogether, IsOpenedAs, Start, StillTells, new_starts}
use Rattle.plan_journals.specs.Growth.{ClosedWell, HasHistory, Journaled, was_open}
use Rattle.plan_journals.specs.Closing.{AreJournalsApart}

-- A book that was opened over the same, and whose count of faults is no lower, came from there too.
pub came_later : (kept : Option DiskSeen) (old new : BookSeen) → new.origin ≡ old.origin → old.faults ≤ new.faults → CameFrom kept old → CameFrom kept new
came_later kept old new e later c = record {
  handed = c.handed;
  hands = c.hands;
  its_moments = ap (λ (o : Origin). o.began) e ∙ c.its_moments;
  its_sectors = ap (λ (o : Origin). o.told) e ∙ c.its_sectors;
  its_faults = ap (λ (o : Origin). o.faults) e ∙ c.its_faults;
  grown = subst (λ (o : Origin). Extends c.handed.moments o.opened) (sym e) c.grown;
  later = omega (arith, c.later, later);
}

pub all_follow_same : (books : List BookSeen) → AllFollow books books
all_follow_same [] = tt
all_follow_same (b ∷ books) = (follows_same b, all_follow_same books)

pub all_follow_then : (first next last : List BookSeen) → AllFollow first next → AllFollow next last → AllFollow first last
all_follow_then [] [] [] one two = tt
all_follow_then [] [] (c ∷ last) one two = absurd two
all_follow_then [] (b ∷ next) last one two = absurd one
all_follow_then (a ∷ first) [] last one two = absurd one
all_follow_then (a ∷ first) (b ∷ next) [] one two = absurd two
all_follow_then (a ∷ first) (b ∷ next) (c ∷ last) one two = (follows_then a b c one.0 two.0, all_follow_then first next last one.1 two.1)

-- Books that follow theirs were opened as those were.
pub follow_from : (kept : Kept DiskSeen) (stores : List StorePlan) (starts : List Start) (olds news : List BookSeen) → AllFollow olds news → AreFrom kept stores starts olds → AreFrom kept stores starts news
follow_from kept stores starts [] [] f from = tt
follow_from kept stores starts [] (new ∷ news) f from = absurd f
follow_from kept stores starts (old ∷ olds) [] f from = absurd f
follow_from kept [] starts (old ∷ olds) (new ∷ news) f from = absurd from
follow_from kept (store ∷ stores) [] (old ∷ olds) (new ∷ news) f from = absurd from
follow_from kept (store ∷ stores) (start ∷ starts) (old ∷ olds) (new ∷ news) f from = (
  from.0,
  subst (λ (o : Origin). IsOpenedAs start o) (sym f.0.origin) from.1,
  came_later (kept_at kept store.journal) old new f.0.origin f.0.later from.2,
  follow_from kept stores starts olds news f.1 from.3,
)

-- Journals that were opened just now were opened over what the yard keeps.
pub opened_from : (yard : YardSeen) (stores : List StorePlan) (starts : List Start) (books : List BookSeen) → AreStartsOf stores starts → AreOpenedNow yard starts books → IsTrue yard.tells.keeps_disks → AreFrom yard.disks stores starts books
opened_from yard stores starts [] of now told = tt
opened_from yard [] [] (b ∷ books) of now told = absurd now
opened_from yard [] (start ∷ starts) (b ∷ books) of now told = absurd of
opened_from yard (store ∷ stores) [] (b ∷ books) of now told = absurd of
opened_from yard (store ∷ stores) (start ∷ starts) (b ∷ books) of now told = (
  of.0,
  now.0.opened,
  subst (λ (p : List ℕ). CameFrom (kept_at yard.disks p) b) of.0.its_path (now.0.came told),
  opened_from yard stores starts books of.1 now.1 told,
)

new_of : (logs : ℕ) (stores : List StorePlan) → AreStartsOf stores (new_starts logs stores)
new_of logs [] = tt
new_of logs (store ∷ stores) = (record { its_path = refl; its_id = refl }, new_of logs stores)

pub made_from : (yard : YardSeen) (logs : ℕ) (stores : List StorePlan) (books : List BookSeen) → AreMade yard logs stores books → IsTrue yard.tells.keeps_disks → AreFrom yard.disks stores (new_starts logs stores) books
made_from yard logs stores books m told = opened_from yard stores (new_starts logs stores) books (new_of logs stores) m told

-- ---- a disk that still tells
longer_extends : (old new : List Table) → Extends old new → length old ≤ length new
longer_extends old new e =
    let same : length (take (length old) new) ≡ length old = ap length e.front in
    omega (arith, same, length-take (length old) new)

begun_told : (told : Option Sectors) (size : ℕ) (moments : List Table) → WhenTold told (IsTale size moments) → IsSome told → 1 ≤ length moments
begun_told None size moments tale is = cc
begun_told (Some s) size moments tale is = let begun = (tale s refl).began in omega (arith, begun)

some_told : (told : Option Sectors) (moments : List Table) → 1 ≤ length moments → (told ≡ None → moments ≡ []) → IsSome told
some_told None moments more none = let few : length moments ≡ 0 = ap length (none refl) in absurd (omega (arith, more, few))
some_told (Some s) moments more none = refl

grown_history : (b : BookSeen) (disk : DiskSeen) → HasHistory b disk → length b.origin.opened ≤ length disk.moments
grown_history b disk history = ∥∥₁_elim history le_prop (λ h. longer_extends b.origin.opened disk.moments h.3.earlier)

pub still_tells : (kept : Option DiskSeen) (b : BookSeen) (began disk : DiskSeen) → b.origin.began ≡ began.moments → b.origin.told ≡ began.told → FitsTogether began → FitsTogether disk → CameFrom kept b → HasHistory b disk → StillTells b disk
still_tells kept b began disk same told first last came history = record {
  tells = λ is.
      let begun = begun_told began.told began.sectors began.moments first.tale (subst (λ (t : Option Sectors). IsSome t) told is) in
      let as_many : length b.origin.began ≡ length began.moments = ap length same in
      let handed : length b.origin.began ≡ length came.handed.moments = ap length came.its_moments in
      let opened = longer_extends came.handed.moments b.origin.opened came.grown in
      let grown = grown_history b disk history in
      some_told disk.told disk.moments (omega (arith, begun, as_many, handed, opened, grown)) last.untold;
  fits = last;
}

-- A journal that stands closed keeps the history of its book in every image since its opening ended.
pub closed_is_journaled : (start : Start) (kept : Option DiskSeen) (b : BookSeen) (disk : DiskSeen) → ClosedWell start kept b disk → Journaled start kept disk
closed_is_journaled start kept b disk c =
    let came = came_later kept b (closed b disk) refl (omega (arith, c.faults)) c.came in
    was_open (closed b disk) c.opened came refl (record { tells = c.telling.tells; fits = c.telling.fits }) (∥∥₁_map c.whole (λ h. (h.0, h.1, h.1, h.2)))

many_paths : (stores : List StorePlan) → length (paths_of stores) ≡ 2 * length stores
many_paths [] = refl
many_paths (store ∷ stores) = let rest = many_paths stores in omega (arith, rest)

journal_path : (stores : List StorePlan) (i : ℕ) (d : StorePlan) → i < length stores → get_or (paths_of stores) (i + i + 1) [] ≡ (get_or stores i d).journal
journal_path [] i d within = absurd (omega (arith, within))
journal_path (store ∷ stores) zero d within = refl
journal_path (store ∷ stores) (suc i) d within =
    let far : suc i + suc i + 1 ≡ suc (suc (i + i + 1)) = omega arith in
    ap (λ n. get_or (paths_of (store ∷ stores)) n []) far ∙ journal_path stores i d (omega (arith, within))

-- Where all paths of stores differ, no two have one journal.
pub paths_apart : (stores : List StorePlan) → AreDifferent (paths_of stores) → AreJournalsApart stores
paths_apart stores differ i j d less within same =
    let many = many_paths stores in
    differ (i + i + 1) (j + j + 1) [] (omega (arith, less)) (omega (arith, within, many))
    (journal_path stores i d (omega (arith, less, within)) ∙ same ∙ sym (journal_path stores j d within))
