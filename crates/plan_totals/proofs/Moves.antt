-- What runs did to the book of a store and to the counts of its path.
use Rattle.std.proofs.Common.{◌≡◌, ◌∙◌, refl, sym, ap, subst, arith, ℕ, ◌+◌, ◌-◌, ◌%◌, ◌^◌, ◌≤◌, min, Bool, true, false, List, [], ◌∷◌, ◌++◌, Some, slice_get}
use Rattle.std.specs.Str.{bytes_eq}
use Rattle.std.proofs.lemmas.Slice.Eq.{bytes_eq-Decides}
use Rattle.vd_arm.specs.Arm.{ArmSeen}
use Rattle.vd_yard.specs.Counts.{Counts, add_arm, arm_faults, arm_faults_here, arm_faults_other, good_reads, good_reads_here, good_reads_other, good_writes, good_writes_here, good_writes_other}
use Rattle.vd_yard.specs.Kept.{Kept}
use Rattle.plan_types.specs.declared.plan.Plan.{Plan}
use Rattle.plan_types.specs.declared.store.StorePlan.{StorePlan}
use Rattle.key_state.specs.Books.{Follows, follows_same, follows_then}
use Rattle.key_state.specs.declared.seen.BookSeen.{BookSeen}
use Rattle.claim_table.specs.Sums.{Each, total}
use Rattle.claim_table.specs.Views.{bad}
use Rattle.slave_worker.specs.Hands.{HandSeen}
use Rattle.master_run.specs.Yards.{IsUnused, counts_with}
use Rattle.run_report.specs.declared.run_sums.Totals.{Totals}
use Rattle.run_totals.proofs.Counts.{path_apart}
use Rattle.plan_hands.specs.Stores.{book_of, passes_of, place_of}
use Rattle.plan_totals.specs.Made.{MadeRun, sum_of, totals_in}
use Rattle.plan_totals.specs.Sentences.{HandFits, RoseBy}
use Rattle.plan_totals.proofs.Zips.{total_append}

-- counts that rise modulo 2^64
pub rose_none : (n : ℕ) → RoseBy 0 n n
rose_none n = record { rise = omega arith; range = λ is. is }

pub rose_as : (many old new : ℕ) → new ≡ (old + many) % 2 ^ 64 → RoseBy many old new
rose_as many old new is = record { rise = omega (arith, is); range = λ under. omega (arith, is) }

pub rose_then : (first next many old mid new : ℕ) → many ≡ first + next → RoseBy first old mid → RoseBy next mid new → RoseBy many old new
rose_then first next many old mid new adds one two = record { rise = omega (arith, adds, one.rise, two.rise); range = λ under. two.range (one.range under) }

pub rose_same : (many old new : ℕ) → many ≡ 0 → new ≡ old → RoseBy many old new
rose_same many old new none is = record { rise = omega (arith, none, is); range = λ under. omega (arith, is, under) }

pub rose_of : (none many old new : ℕ) → none ≡ many → RoseBy none old new → RoseBy many old new
rose_of none many old new is rose = record { rise = omega (arith, is, rose.rise); range = rose.range }

-- The counts of a path stay as they were, but for what wraps.
pub record PathStays (old new : Counts) (path : List ℕ) : Type 0 where
  pub faults : arm_faults new path ≡ arm_faults old path
  pub read : RoseBy 0 (good_reads old path) (good_reads new path)
  pub written : RoseBy 0 (good_writes old path) (good_writes new path)

pub stays_same : (old new : Counts) (path : List ℕ) → new ≡ old → PathStays old new path
stays_same old new path is = record {
  faults = ap (λ (c : Counts). arm_faults c path) is;
  read = rose_same 0 (good_reads old path) (good_reads new path) refl (ap (λ (c : Counts). good_reads c path) is);
  written = rose_same 0 (good_writes old path) (good_writes new path) refl (ap (λ (c : Counts). good_writes c path) is);
}

pub stays_then : (old mid new : Counts) (path : List ℕ) → PathStays old mid path → PathStays mid new path → PathStays old new path
stays_then old mid new path one two = record {
  faults = two.faults ∙ one.faults;
  read = rose_then 0 0 0 (good_reads old path) (good_reads mid path) (good_reads new path) refl one.read two.read;
  written = rose_then 0 0 0 (good_writes old path) (good_writes mid path) (good_writes new path) refl one.written two.written;
}

-- So they do by an arm that wasn't used.
unused_one : (counts : Counts) (at path : List ℕ) (faults reads writes : ℕ) → faults ≡ 0 → reads ≡ 0 → writes ≡ 0 → (b : Bool) → bytes_eq at path ≡ b → PathStays counts (add_arm counts at faults reads writes) path
unused_one counts at path faults reads writes none no_reads no_writes true is =
    subst (λ (p : List ℕ). PathStays counts (add_arm counts at faults reads writes) p) ((bytes_eq-Decides at path).0 is)
    (record {
      faults = omega (arith, none, arm_faults_here counts at faults reads writes);
      read = rose_of reads 0 (good_reads counts at) (good_reads (add_arm counts at faults reads writes) at) no_reads (rose_as reads (good_reads counts at) (good_reads (add_arm counts at faults reads writes) at) (good_reads_here counts at faults reads writes));
      written = rose_of writes 0 (good_writes counts at) (good_writes (add_arm counts at faults reads writes) at) no_writes (rose_as writes (good_writes counts at) (good_writes (add_arm counts at faults reads writes) at) (good_writes_here counts at faults reads writes));
    })
unused_one counts at path faults reads writes none no_reads no_writes false is =
    let apart = path_apart at path is in
    record {
      faults = arm_faults_other counts at faults reads writes path apart;
      read = rose_same 0 (good_reads counts path) (good_reads (add_arm counts at faults reads writes) path) refl (good_reads_other counts at faults reads writes path apart);
      written = rose_same 0 (good_writes counts path) (good_writes (add_arm counts at faults reads writes) path) refl (good_writes_other counts at faults reads writes path apart);
    }

pub unused_stays : (arms : List (List ℕ × ArmSeen)) (counts : Counts) (path : List ℕ) → Each IsUnused arms → PathStays counts (counts_with arms counts) path
unused_stays [] counts path each = stays_same counts counts path refl
unused_stays ((at, arm) ∷ arms) counts path each =
    stays_then counts (add_arm counts at arm.faults arm.good_reads arm.good_writes) (counts_with ((at, arm) ∷ arms) counts) path
    (unused_one counts at path arm.faults arm.good_reads arm.good_writes each.0.0 each.0.1 each.0.2 (bytes_eq at path) refl)
    (unused_stays arms (add_arm counts at arm.faults arm.good_reads arm.good_writes) path each.1)

-- What runs did to a store whose totals add up so: its book, its path's counts and its bad blocks rose by them. Some of it holds only
-- where no book ended the work, and the last where the yard tells what it keeps.
pub record Moved (contents : Kept (List ℕ)) (keeps well : Type 0) (store : StorePlan) (sum : (Totals → ℕ) → ℕ) (old new : Counts) (x y : HandSeen) : Type 0 where
  pub follows : Follows (book_of x) (book_of y)
  pub ended : RoseBy (sum (λ totals. totals.writes)) (book_of x).ends (book_of y).ends
  pub read : RoseBy (sum (λ totals. totals.reads + totals.prereads + totals.rereads)) (good_reads old store.path) (good_reads new store.path)
  pub failed : min (arm_faults old store.path + sum (λ totals. totals.faults)) (2 ^ 64 - 1) ≤ arm_faults new store.path
  pub none_failed : sum (λ totals. totals.faults) ≡ 0 → arm_faults new store.path ≡ arm_faults old store.path
  pub written : well → RoseBy (sum (λ totals. totals.writes)) (good_writes old store.path) (good_writes new store.path)
  pub spoilt : well → total bad (book_of y).now ≡ total bad (book_of x).now + sum (λ totals. totals.corrupt)
  pub fitted : keeps → HandFits contents store x → HandFits contents store y × (sum (λ totals. totals.corrupt) ≡ 0)

-- The totals add up to nothing.
pub record AreNone (sum : (Totals → ℕ) → ℕ) : Type 0 where
  pub writes : sum (λ totals. totals.writes) ≡ 0
  pub reads : sum (λ totals. totals.reads + totals.prereads + totals.rereads) ≡ 0
  pub faults : sum (λ totals. totals.faults) ≡ 0
  pub corrupt : sum (λ totals. totals.corrupt) ≡ 0

module _ (contents : Kept (List ℕ)) (keeps : Type 0) (store : StorePlan) where
  -- A store that no worker called, and whose book is as it was.
  pub moved_none : (well : Type 0) (sum : (Totals → ℕ) → ℕ) (old new : Counts) (x y : HandSeen) → AreNone sum → PathStays old new store.path → book_of y ≡ book_of x → (keeps → HandFits contents store x → HandFits contents store y) → Moved contents keeps well store sum old new x y
  moved_none well sum old new x y none stays book fits = record {
    follows = subst (λ (b : BookSeen). Follows (book_of x) b) (sym book) (follows_same (book_of x));
    ended = rose_same (sum (λ totals. totals.writes)) (book_of x).ends (book_of y).ends (none.writes) (ap (λ (b : BookSeen). b.ends) book);
    read = rose_of 0 (sum (λ totals. totals.reads + totals.prereads + totals.rereads)) (good_reads old store.path) (good_reads new store.path) (sym (none.reads)) stays.read;
    failed = omega (arith, none.faults, stays.faults);
    none_failed = λ is. stays.faults;
    written = λ is. rose_of 0 (sum (λ totals. totals.writes)) (good_writes old store.path) (good_writes new store.path) (sym (none.writes)) stays.written;
    spoilt = λ is. omega (arith, none.corrupt, ap (λ (b : BookSeen). total bad b.now) book);
    fitted = λ tells fit. (fits tells fit, none.corrupt);
  }

  -- Two of them, one after the other.
  pub moved_then : (first_well next_well well : Type 0) (first next sum : (Totals → ℕ) → ℕ) (old mid new : Counts) (x y z : HandSeen) → (well → first_well) → (well → next_well) → ((number : Totals → ℕ) → sum number ≡ first number + next number)
      → Moved contents keeps first_well store first old mid x y → Moved contents keeps next_well store next mid new y z → Moved contents keeps well store sum old new x z
  moved_then first_well next_well well first next sum old mid new x y z is_first is_next adds one two = record {
    follows = follows_then (book_of x) (book_of y) (book_of z) one.follows two.follows;
    ended = rose_then (first (λ totals. totals.writes)) (next (λ totals. totals.writes)) (sum (λ totals. totals.writes)) (book_of x).ends (book_of y).ends (book_of z).ends (adds (λ totals. totals.writes)) one.ended two.ended;
    read =
        rose_then (first (λ totals. totals.reads + totals.prereads + totals.rereads)) (next (λ totals. totals.reads + totals.prereads + totals.rereads)) (sum (λ totals. totals.reads + totals.prereads + totals.rereads))
        (good_reads old store.path) (good_reads mid store.path) (good_reads new store.path) (adds (λ totals. totals.reads + totals.prereads + totals.rereads)) one.read two.read;
    failed = omega (arith, adds (λ totals. totals.faults), one.failed, two.failed);
    none_failed = λ none.
        let none_first : first (λ totals. totals.faults) ≡ 0 = omega (arith, adds (λ totals. totals.faults), none) in
        let none_next : next (λ totals. totals.faults) ≡ 0 = omega (arith, adds (λ totals. totals.faults), none) in
        two.none_failed none_next ∙ one.none_failed none_first;
    written = λ is. rose_then (first (λ totals. totals.writes)) (next (λ totals. totals.writes)) (sum (λ totals. totals.writes)) (good_writes old store.path) (good_writes mid store.path) (good_writes new store.path) (adds (λ totals. totals.writes)) (one.written (is_first is)) (two.written (is_next is));
    spoilt = λ is. omega (arith, adds (λ totals. totals.corrupt), one.spoilt (is_first is), two.spoilt (is_next is));
    fitted = λ tells fit.
        let now = one.fitted tells fit in
        let then = two.fitted tells now.0 in
        (then.0, omega (arith, adds (λ totals. totals.corrupt), now.1, then.1));
  }

-- What these runs did to a hand of the plan.
pub record HandMoved (plan : Plan) (contents : Kept (List ℕ)) (keeps well : Type 0) (runs : List MadeRun) (old new : Counts) (x y : HandSeen) : Type 0 where
  pub place : place_of y ≡ place_of x
  pub moved : (store : StorePlan) → slice_get plan.stores (place_of x) ≡ Some store → Moved contents keeps well store (λ number. sum_of number (place_of x) runs) old new x y

module _ (plan : Plan) (contents : Kept (List ℕ)) (keeps : Type 0) where
  pub hand_none : (well : Type 0) (old new : Counts) (x y : HandSeen) → place_of y ≡ place_of x → book_of y ≡ book_of x → ((store : StorePlan) → slice_get plan.stores (place_of x) ≡ Some store → PathStays old new store.path × (keeps → HandFits contents store x → HandFits contents store y))
      → HandMoved plan contents keeps well [] old new x y
  hand_none well old new x y place book each = record {
    place = place;
    moved = λ store at. moved_none contents keeps store well (λ number. sum_of number (place_of x) []) old new x y (record { writes = refl; reads = refl; faults = refl; corrupt = refl }) (each store at).0 book (each store at).1;
  }

  pub hand_same : (well : Type 0) (old new : Counts) (x : HandSeen) → ((store : StorePlan) → slice_get plan.stores (place_of x) ≡ Some store → PathStays old new store.path) → HandMoved plan contents keeps well [] old new x x
  hand_same well old new x stays = hand_none well old new x x refl refl (λ store at. (stays store at, λ tells fit. fit))

  pub hand_then : (first_well next_well well : Type 0) (first next : List MadeRun) (old mid new : Counts) (x y z : HandSeen) → (well → first_well) → (well → next_well) → HandMoved plan contents keeps first_well first old mid x y → HandMoved plan contents keeps next_well next mid new y z → HandMoved plan contents keeps well (first ++ next) old new x z
  hand_then first_well next_well well first next old mid new x y z is_first is_next one two = record {
    place = two.place ∙ one.place;
    moved = λ store at.
        moved_then contents keeps store first_well next_well well (λ number. sum_of number (place_of x) first) (λ number. sum_of number (place_of y) next) (λ number. sum_of number (place_of x) (first ++ next)) old mid new x y z is_first is_next
        (λ number. total_append (λ (one : MadeRun). number (totals_in (place_of x) one)) first next ∙ ap (λ (n : ℕ). sum_of number (place_of x) first + sum_of number n next) (sym one.place))
        (one.moved store at) (two.moved store (ap (λ (n : ℕ). slice_get plan.stores n) one.place ∙ at));
  }
