-- What is there, once an opening was noted or not.
use Rattle.std.proofs.Common.{◌≡◌, ℕ, true, false, List, Option, Some, None, is_some, Result, Ok, Err, rules, arith, refl, sym, ◌∙◌, ap, subst}
use Rattle.std.specs.Prelude.{IsSome, IsTrue, OnOk, OnErr, MatchOption}
use Rattle.vd_disk.specs.declared.memory.MemDisk.{MemDisk}
use Rattle.vd_yard.specs.declared.data.Held.{Held}
use Rattle.vd_yard.specs.declared.source_file.SourceFile.{SourceFile}
use Rattle.vd_yard.specs.Kept.{Kept, kept_at, kept_at_kept_of, keep_at, keep_at_here, keep_at_other, nothing_kept, nothing_kept_at}
use Rattle.vd_yard.specs.MemYard.{disk_seen, disks_in, files_in, sure_at}
use Rattle.vd_yard.specs.ArmPlan.{arms_sure}
use Rattle.vd_yard.specs.SourceFile.{file_sure}
use Rattle.vd_yard.specs.declared.arm_plan.ArmPlan.{ArmPlan}
use Rattle.vd_yard.specs.Out.{Out, Kind, AtSource, AtDisk, AtPasses, AtArm, out_at, one_more, same_kind, nothing_out, nothing_out_at}
use Rattle.vd_yard.specs.There.{AreThere, there_other, there_more, kept_stays}
use Rattle.vd_yard.specs.Yard.{StaysThere, stays_there_by, is_there, is_there_at}

pub opened_other : {A E : Type 0} (kind other : Kind) (path : List ℕ) (old new : Out) (kept : Kept A) (result : Result (Unit {0}) E) →
    OnOk result (new ≡ one_more old other path) → OnErr result (new ≡ old) → same_kind other kind ≡ false → AreThere kind old kept → AreThere kind new kept
opened_other kind other path old new kept (Ok x) ok err apart all = there_other kind other path old new kept ok apart all
opened_other {A} kind other path old new kept (Err e) ok err apart all = subst (λ (o : Out). AreThere kind o kept) (sym err) all

pub opened_here : {A E : Type 0} (kind : Kind) (path : List ℕ) (old new : Out) (kept : Kept A) (result : Result (Unit {0}) E) →
    OnOk result (new ≡ one_more old kind path) → OnErr result (new ≡ old) → IsSome (kept_at kept path) → AreThere kind old kept → AreThere kind new kept
opened_here kind path old new kept (Ok x) ok err found all = there_more kind path old new kept ok found all
opened_here {A} kind path old new kept (Err e) ok err found all = subst (λ (o : Out). AreThere kind o kept) (sym err) all

none_is_not : {A : Type 0} (o : Option A) → o ≡ None → is_some o ≡ true → ⊥
none_is_not None e some = cc
none_is_not (Some x) e some = cc

-- A source or a disk that isn't found isn't told to be there.
pub source_not_there : (files : Kept SourceFile) (disks : Kept (Option MemDisk)) (contents : Kept Held) (path : List ℕ) → kept_at files path ≡ None →
    IsTrue (is_there (files_in files disks contents) AtSource path) → ⊥
source_not_there files disks contents path none there =
    none_is_not (kept_at files path) none (sym (is_there_at (files_in files disks contents) AtSource path) ∙ there)

pub disk_not_there : (files : Kept SourceFile) (disks : Kept (Option MemDisk)) (contents : Kept Held) (path : List ℕ) → kept_at (disks_in disks) path ≡ None →
    IsTrue (is_there (files_in files disks contents) AtDisk path) → ⊥
disk_not_there files disks contents path none there =
    none_is_not (disk_seen (kept_at disks path)) (sym (kept_at_kept_of (λ q. disk_seen (kept_at disks q)) path) ∙ none) (sym (is_there_at (files_in files disks contents) AtDisk path) ∙ there)

-- Files stay, where what is there at each path does.
pub all_stay : (files files' : Kept SourceFile) (disks disks' : Kept (Option MemDisk)) (contents contents' : Kept Held) →
    ((q : List ℕ) → IsSome (kept_at files q) → IsSome (kept_at files' q)) → ((q : List ℕ) → IsSome (disk_seen (kept_at disks q)) → IsSome (disk_seen (kept_at disks' q))) →
    ((q : List ℕ) → IsSome (kept_at contents q) → IsSome (kept_at contents' q)) → StaysThere (files_in files disks contents) (files_in files' disks' contents')
all_stay files files' disks disks' contents contents' file disk held = stays_there_by (files_in files disks contents) (files_in files' disks' contents') (λ kind. stay kind)
  where
    stay : (kind : Kind) (path : List ℕ) → IsTrue ((files_in files disks contents).at kind path) → IsTrue ((files_in files' disks' contents').at kind path)
    stay AtSource path there = file path there
    stay AtDisk path there = disk path there
    stay AtPasses path there = held path there
    stay AtArm path there = held path there

pub files_stay : (files : Kept SourceFile) (disks disks' : Kept (Option MemDisk)) (contents contents' : Kept Held) →
    ((q : List ℕ) → IsSome (disk_seen (kept_at disks q)) → IsSome (disk_seen (kept_at disks' q))) → ((q : List ℕ) → IsSome (kept_at contents q) → IsSome (kept_at contents' q)) →
    StaysThere (files_in files disks contents) (files_in files disks' contents')
files_stay files disks disks' contents contents' disk held = all_stay files files disks disks' contents contents' (λ q there. there) disk held

-- a value that was put stays where it is, and so do the others
pub put_stays : {A : Type 0} (path : List ℕ) (x : A) (kept new : Kept A) → new ≡ keep_at true kept path x → (q : List ℕ) → IsSome (kept_at kept q) → IsSome (kept_at new q)
put_stays {A} path x kept new e q some = subst (λ (k : Kept A). IsSome (kept_at k q)) (sym e) (kept_stays kept path x q some)

pub put_here : {A : Type 0} (path : List ℕ) (x : A) (kept new : Kept A) → new ≡ keep_at true kept path x → kept_at new path ≡ Some x
put_here {A} path x kept new e = ap (λ (k : Kept A). kept_at k path) e ∙ keep_at_here true kept path x refl

pub put_other : {A : Type 0} (path : List ℕ) (x : A) (kept new : Kept A) → new ≡ keep_at true kept path x → (q : List ℕ) → (q ≡ path → ⊥) → kept_at new q ≡ kept_at kept q
put_other {A} path x kept new e q apart = ap (λ (k : Kept A). kept_at k q) e ∙ keep_at_other true kept path x q apart

pub on_ok : {A E : Type 0} (P Q : Type 0) (result : Result A E) → OnOk result P → (P → Q) → OnOk result Q
on_ok P Q (Ok x) p f = f p
on_ok P Q (Err e) p f = search rules

-- a yard whose map was put in, or not
pub put_or_not : {A E : Type 0} (kind : Kind) (out : Out) (path : List ℕ) (x : A) (kept new : Kept A) (result : Result (Unit {0}) E) →
    OnOk result (new ≡ keep_at true kept path x) → OnErr result (new ≡ kept) → AreThere kind out kept → AreThere kind out new
put_or_not kind out path x kept new (Ok u) ok err all = record { each = λ q some. put_stays path x kept new ok q (all.each q some) }
put_or_not {A} kind out path x kept new (Err e) ok err all = subst (λ (k : Kept A). AreThere kind out k) (sym err) all

-- what was found at a path is there
pub found_some : {A : Type 0} (path' path : List ℕ) (kept : Kept A) (x : A) → path' ≡ path → kept_at kept path' ≡ Some x → IsSome (kept_at kept path)
found_some {A} path' path kept x same found = ap (λ (q : List ℕ). is_some (kept_at kept q)) (sym same) ∙ ap is_some found

pub on_err : {A E : Type 0} (P Q : Type 0) (result : Result A E) → OnErr result P → (P → Q) → OnErr result Q
on_err P Q (Ok x) p f = search rules
on_err P Q (Err e) p f = f p

-- nothing is there, since nothing is out
pub none_there : {A : Type 0} (kind : Kind) (out : Out) (kept : Kept A) → out ≡ nothing_out → AreThere kind out kept
none_there kind out kept e = record {
  each = λ q some.
      let none : out_at out kind q ≡ 0 = ap (λ (o : Out). out_at o kind q) e ∙ nothing_out_at kind q in
      absurd (omega (arith, none));
}

pub empty_at : {A : Type 0} (kept : Kept A) → kept ≡ nothing_kept → (q : List ℕ) → kept_at kept q ≡ None
empty_at {A} kept e q = ap (λ (k : Kept A). kept_at k q) e ∙ nothing_kept_at q

pub match_on : {B : Type 0} (P P' : Type 0) (Q Q' : B → Type 0) (o : Option B) → (P → P') → ((x : B) → Q x → Q' x) → MatchOption o P Q → MatchOption o P' Q'
match_on P P' Q Q' None none some m = none m
match_on P P' Q Q' (Some x) none some m = some x m

-- Where no file is there and no calls are listed, each is sure, and no file is told to be there.
pub all_sure : (files : Kept SourceFile) (plans : Kept ArmPlan) → files ≡ nothing_kept → plans ≡ nothing_kept → (kind : Kind) (path : List ℕ) → sure_at files plans kind path ≡ true
all_sure files plans f p AtSource path = ap file_sure (empty_at files f path)
all_sure files plans f p AtDisk path = refl
all_sure files plans f p AtPasses path = refl
all_sure files plans f p AtArm path = ap arms_sure (empty_at plans p path)

pub none_is_there : (files : Kept SourceFile) (disks : Kept (Option MemDisk)) (contents : Kept Held) → files ≡ nothing_kept → disks ≡ nothing_kept → contents ≡ nothing_kept →
    (kind : Kind) (path : List ℕ) → is_there (files_in files disks contents) kind path ≡ false
none_is_there files disks contents f d h kind path = is_there_at (files_in files disks contents) kind path ∙ go kind
  where
    go : (kind : Kind) → (files_in files disks contents).at kind path ≡ false
    go AtSource = ap is_some (empty_at files f path)
    go AtDisk = ap (λ (o : Option (Option MemDisk)). is_some (disk_seen o)) (empty_at disks d path)
    go AtPasses = ap is_some (empty_at contents h path)
    go AtArm = ap is_some (empty_at contents h path)
