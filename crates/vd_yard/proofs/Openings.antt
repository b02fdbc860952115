-- What one more opening, and one that is kept, do to what is out and to the counts.
use Rattle.std.proofs.Common.{zero, suc, ◌≡◌, ℕ, ◌+◌, ◌%◌, ◌^◌, ◌-◌, min, Bool, true, false, cond, List, [], ◌∷◌, ◌++◌, refl, sym, ◌∙◌, ap, arith}
use Rattle.std.specs.Str.{bytes_eq}
use Rattle.std.proofs.lemmas.Slice.Eq.{bytes_eq-Decides}
use Rattle.std.specs.Prelude.{slice_get, ◌&&◌, Some, set}
use Rattle.vd_yard.specs.Out.{Kind, one_at, out_of, one_more, one_more_by, out_at, out_at_out_of, same_kind, AtSource, AtDisk, AtPasses, AtArm, nothing_out, nothing_out_by}
use Rattle.vd_yard.specs.Counts.{counts_of, counts_of_same, add_source_by, add_arm_by, held, no_counts, no_counts_by}
use Rattle.vd_yard.specs.declared.ledger.Thing.{Thing}
use Rattle.vd_yard.specs.declared.ledger.Thing.TheVariants as thing
use Rattle.vd_yard.specs.declared.ledger.Opening.{Opening}
use Rattle.vd_yard.specs.Ledger.{is_such, outs, kind_of, sum_at, counted, counts_in, source_only, arm_only, source_faults_of, arm_faults_of, reads_of, writes_of, kept_counts}

pub none_open : (os : List Opening) → os ≡ [] → out_of (outs os) ≡ nothing_out
none_open os e = ap (λ (l : List Opening). out_of (outs l)) e ∙ nothing_out_by (outs []) (λ k q. refl)

pub none_counted : (os : List Opening) → os ≡ [] → counts_of (counts_in os) ≡ no_counts
none_counted os e = ap (λ (l : List Opening). counts_of (counts_in l)) e ∙ no_counts_by (counts_in []) (λ q. refl)

outs_append : (os : List Opening) (o : Opening) (k : Kind) (q : List ℕ) →
    outs (os ++ o ∷ []) k q ≡ outs os k q + cond o.is_out (one_at (kind_of o.thing) o.path k q) 0
outs_append [] o k q = omega arith
outs_append (p ∷ os) o k q = omega (arith, outs_append os o k q)

outs_push : (os : List Opening) (o : Opening) (k : Kind) (q : List ℕ) → o.is_out ≡ true →
    outs (os ++ o ∷ []) k q ≡ outs os k q + one_at (kind_of o.thing) o.path k q
outs_push os o k q e = outs_append os o k q ∙ ap (λ b. outs os k q + cond b (one_at (kind_of o.thing) o.path k q) 0) e

pub outs_more : (os : List Opening) (o : Opening) → o.is_out ≡ true →
    out_of (outs (os ++ o ∷ [])) ≡ one_more (out_of (outs os)) (kind_of o.thing) o.path
outs_more os o e = one_more_by (outs os) (outs (os ++ o ∷ [])) (kind_of o.thing) o.path (λ k q. outs_push os o k q e)

nothing_here : (b : Bool) (n : ℕ) → n ≡ 0 → cond b n 0 ≡ 0
nothing_here true n e = e
nothing_here false n e = refl

-- an opening that adds nothing
sum_push : (f : Opening → ℕ) (os : List Opening) (o : Opening) (q : List ℕ) → f o ≡ 0 → sum_at f (os ++ o ∷ []) q ≡ sum_at f os q
sum_push f [] o q e = omega (arith, nothing_here (bytes_eq o.path q) (f o) e)
sum_push f (p ∷ os) o q e = omega (arith, sum_push f os o q e)

not_yet : (b : Bool) (n : ℕ) → b ≡ true → cond b 0 n ≡ 0
not_yet true n e = refl
not_yet false n e = cc

same_counts : (os : List Opening) (o : Opening) (q : List ℕ) → o.is_out ≡ true → counts_in (os ++ o ∷ []) q ≡ counts_in os q
same_counts os o q e =
    rw (
      sum_push source_faults_of os o q (not_yet o.is_out _ e),
      sum_push arm_faults_of os o q (not_yet o.is_out _ e),
      sum_push reads_of os o q (not_yet o.is_out _ e),
      sum_push writes_of os o q (not_yet o.is_out _ e),
    ) refl

pub counts_more : (os : List Opening) (o : Opening) → o.is_out ≡ true → counts_of (counts_in (os ++ o ∷ [])) ≡ counts_of (counts_in os)
counts_more os o e = counts_of_same (counts_in os) (counts_in (os ++ o ∷ [])) (λ q. same_counts os o q e)

and_both : (a b : Bool) → (a && b) ≡ true → (a ≡ true) × (b ≡ true)
and_both true b e = (refl, e)
and_both false b e = cc

kinds_equal : (k l : Kind) → same_kind k l ≡ true → k ≡ l
kinds_equal AtSource AtSource e = refl
kinds_equal AtDisk AtDisk e = refl
kinds_equal AtPasses AtPasses e = refl
kinds_equal AtArm AtArm e = refl
kinds_equal AtSource AtDisk e = cc
kinds_equal AtSource AtPasses e = cc
kinds_equal AtSource AtArm e = cc
kinds_equal AtDisk AtSource e = cc
kinds_equal AtDisk AtPasses e = cc
kinds_equal AtDisk AtArm e = cc
kinds_equal AtPasses AtSource e = cc
kinds_equal AtPasses AtDisk e = cc
kinds_equal AtPasses AtArm e = cc
kinds_equal AtArm AtSource e = cc
kinds_equal AtArm AtDisk e = cc
kinds_equal AtArm AtPasses e = cc

not_such : (out same equal : Bool) → (out && same && equal) ≡ false → ◌≡◌ {A = ℕ} (cond out (cond (same && equal) 1 0) 0) 0
not_such true true true e = cc
not_such true true false e = refl
not_such true false equal e = refl
not_such false same equal e = refl

pub outs_next : (os : List Opening) (o : Opening) (k : Kind) (q : List ℕ) → outs os k q ≡ 0 → is_such k q o ≡ false → outs (os ++ o ∷ []) k q ≡ 0
unfolding one_at
outs_next os o k q e other = omega (arith, outs_append os o k q, not_such o.is_out (same_kind (kind_of o.thing) k) (bytes_eq o.path q) other)

pub none_out : (os : List Opening) (k : Kind) (q : List ℕ) → outs os k q ≡ 0 → out_at (out_of (outs os)) k q ≡ 0
none_out os k q e = out_at_out_of (outs os) k q ∙ e

outs_set : (os : List Opening) (i : ℕ) (o o' : Opening) (k : Kind) (q : List ℕ) → slice_get os i ≡ Some o → o.is_out ≡ true → o'.is_out ≡ false →
    outs os k q ≡ outs (set os i o') k q + one_at (kind_of o.thing) o.path k q
outs_set [] i o o' k q e out kept = cc
outs_set (p ∷ os) zero o o' k q e out kept = let same : p ≡ o = cc in rw (same, out, kept) (omega arith)
outs_set (p ∷ os) (suc i) o o' k q e out kept = omega (arith, outs_set os i o o' k q e out kept)

-- what is known of an opening that was found
such_parts : (k : Kind) (q : List ℕ) (o : Opening) → is_such k q o ≡ true → (o.is_out ≡ true) × (kind_of o.thing ≡ k) × (o.path ≡ q)
such_parts k q o it =
    let first = and_both (o.is_out && same_kind (kind_of o.thing) k) (bytes_eq o.path q) it in
    let parts = and_both o.is_out (same_kind (kind_of o.thing) k) first.0 in
    (parts.0, kinds_equal (kind_of o.thing) k parts.1, (bytes_eq-Decides o.path q).0 first.1)

pub closed_one : (os : List Opening) (i : ℕ) (o o' : Opening) (k : Kind) (q : List ℕ) → slice_get os i ≡ Some o → is_such k q o ≡ true → o'.is_out ≡ false →
    out_of (outs os) ≡ one_more (out_of (outs (set os i o'))) k q
closed_one os i o o' k q e it kept =
    let parts = such_parts k q o it in
    rw (sym parts.1, sym parts.2) (one_more_by (outs (set os i o')) (outs os) (kind_of o.thing) o.path (λ l r. outs_set os i o o' l r e parts.0 kept))

sum_set : (f : Opening → ℕ) (os : List Opening) (i : ℕ) (o o' : Opening) (q : List ℕ) → slice_get os i ≡ Some o → o'.path ≡ o.path → f o ≡ 0 →
    sum_at f (set os i o') q ≡ sum_at f os q + cond (bytes_eq o.path q) (f o') 0
sum_set f [] i o o' q e path none = cc
sum_set f (p ∷ os) zero o o' q e path none =
    let same : p ≡ o = cc in
    rw (path, same) (omega (arith, nothing_here (bytes_eq o.path q) (f o) none))
sum_set f (p ∷ os) (suc i) o o' q e path none = omega (arith, sum_set f os i o o' q e path none)

kept_now : (b : Bool) (n : ℕ) → b ≡ false → cond b 0 n ≡ n
kept_now true n e = cc
kept_now false n e = refl

thing_is : (t u : Thing) → kind_of t ≡ kind_of u → t ≡ u
thing_is thing.Source thing.Source e = refl
thing_is thing.Disk thing.Disk e = refl
thing_is thing.Passes thing.Passes e = refl
thing_is thing.Arm thing.Arm e = refl
thing_is thing.Source thing.Disk e = cc
thing_is thing.Source thing.Passes e = cc
thing_is thing.Source thing.Arm e = cc
thing_is thing.Disk thing.Source e = cc
thing_is thing.Disk thing.Passes e = cc
thing_is thing.Disk thing.Arm e = cc
thing_is thing.Passes thing.Source e = cc
thing_is thing.Passes thing.Disk e = cc
thing_is thing.Passes thing.Arm e = cc
thing_is thing.Arm thing.Source e = cc
thing_is thing.Arm thing.Disk e = cc
thing_is thing.Arm thing.Passes e = cc

mod_more : (a b : ℕ) → (a % 2 ^ 64 + b) % 2 ^ 64 ≡ (a + b) % 2 ^ 64
mod_more a b = omega arith

no_more : (b : Bool) (n : ℕ) → n + cond b 0 0 ≡ n
no_more true n = omega arith
no_more false n = omega arith

source_more : (b : Bool) (s a r w n : ℕ) →
    counted (s + cond b n 0) (a + cond b 0 0) (r + cond b 0 0) (w + cond b 0 0)
    ≡ cond b (record (counted s a r w) { source_faults = held (counted s a r w).source_faults n }) (counted s a r w)
source_more true s a r w n =
    let faults : min (s + n) (2 ^ 64 - 1) ≡ held (min s (2 ^ 64 - 1)) n = omega arith in
    let same : a + 0 ≡ a = omega arith in
    let same' : r + 0 ≡ r = omega arith in
    let same'' : w + 0 ≡ w = omega arith in
    rw (same, same', same'', faults) refl
source_more false s a r w n =
    let same : s + 0 ≡ s = omega arith in
    let same' : a + 0 ≡ a = omega arith in
    let same'' : r + 0 ≡ r = omega arith in
    let same3 : w + 0 ≡ w = omega arith in
    rw (same, same', same'', same3) refl

arm_more : (b : Bool) (s a r w n m l : ℕ) →
    counted (s + cond b 0 0) (a + cond b n 0) (r + cond b m 0) (w + cond b l 0)
    ≡ cond b (record {
      source_faults = (counted s a r w).source_faults;
      arm_faults = held (counted s a r w).arm_faults n;
      good_reads = ((counted s a r w).good_reads + m) % 2 ^ 64;
      good_writes = ((counted s a r w).good_writes + l) % 2 ^ 64;
    }) (counted s a r w)
arm_more true s a r w n m l =
    let faults : min (a + n) (2 ^ 64 - 1) ≡ held (min a (2 ^ 64 - 1)) n = omega arith in
    let same : s + 0 ≡ s = omega arith in
    let reads : (r + m) % 2 ^ 64 ≡ (r % 2 ^ 64 + m) % 2 ^ 64 = sym (mod_more r m) in
    let writes : (w + l) % 2 ^ 64 ≡ (w % 2 ^ 64 + l) % 2 ^ 64 = sym (mod_more w l) in
    rw (same, faults, reads, writes) refl
arm_more false s a r w n m l =
    let same : s + 0 ≡ s = omega arith in
    let same' : a + 0 ≡ a = omega arith in
    let same'' : r + 0 ≡ r = omega arith in
    let same3 : w + 0 ≡ w = omega arith in
    rw (same, same', same'', same3) refl

-- what each count of an opening is, once it is kept
counts_set : (os : List Opening) (i : ℕ) (o o' : Opening) (q : List ℕ) → slice_get os i ≡ Some o → o.is_out ≡ true → o'.is_out ≡ false → o'.path ≡ o.path →
    counts_in (set os i o') q ≡ counted
    (sum_at source_faults_of os q + cond (bytes_eq o.path q) (source_only o'.thing o'.faults) 0)
    (sum_at arm_faults_of os q + cond (bytes_eq o.path q) (arm_only o'.thing o'.faults) 0)
    (sum_at reads_of os q + cond (bytes_eq o.path q) (arm_only o'.thing o'.reads) 0)
    (sum_at writes_of os q + cond (bytes_eq o.path q) (arm_only o'.thing o'.writes) 0)
counts_set os i o o' q e out kept path =
    rw (
      sum_set source_faults_of os i o o' q e path (not_yet o.is_out _ out),
      sum_set arm_faults_of os i o o' q e path (not_yet o.is_out _ out),
      sum_set reads_of os i o o' q e path (not_yet o.is_out _ out),
      sum_set writes_of os i o o' q e path (not_yet o.is_out _ out),
      kept,
    ) refl

nothing_more : (b : Bool) (s a r w : ℕ) → counted (s + cond b 0 0) (a + cond b 0 0) (r + cond b 0 0) (w + cond b 0 0) ≡ counted s a r w
nothing_more b s a r w = rw (no_more b s, no_more b a, no_more b r, no_more b w) refl

kept_as : (t : Thing) (os : List Opening) (i : ℕ) (o o' : Opening) (path : List ℕ) (faults reads writes : ℕ) → slice_get os i ≡ Some o → o.is_out ≡ true →
    o.path ≡ path → o'.is_out ≡ false → o'.path ≡ o.path → o'.thing ≡ t → o'.faults ≡ faults → o'.reads ≡ reads → o'.writes ≡ writes →
    counts_of (counts_in (set os i o')) ≡ kept_counts t (counts_of (counts_in os)) path faults reads writes
kept_as thing.Source os i o o' path faults reads writes e out at kept same t f r w =
    add_source_by (counts_in os) (counts_in (set os i o')) path faults (λ q.
    rw (counts_set os i o o' q e out kept same, t, f, at) (source_more (bytes_eq path q) _ _ _ _ faults))
kept_as thing.Disk os i o o' path faults reads writes e out at kept same t f r w =
    counts_of_same (counts_in os) (counts_in (set os i o')) (λ q.
    rw (counts_set os i o o' q e out kept same, t) (nothing_more (bytes_eq o.path q) _ _ _ _))
kept_as thing.Passes os i o o' path faults reads writes e out at kept same t f r w =
    counts_of_same (counts_in os) (counts_in (set os i o')) (λ q.
    rw (counts_set os i o o' q e out kept same, t) (nothing_more (bytes_eq o.path q) _ _ _ _))
kept_as thing.Arm os i o o' path faults reads writes e out at kept same t f r w =
    add_arm_by (counts_in os) (counts_in (set os i o')) path faults reads writes (λ q.
    rw (counts_set os i o o' q e out kept same, t, f, r, w, at) (arm_more (bytes_eq path q) _ _ _ _ faults reads writes))

pub closed_counts : (os : List Opening) (i : ℕ) (o o' : Opening) (t : Thing) (path : List ℕ) (faults reads writes : ℕ) → slice_get os i ≡ Some o →
    is_such (kind_of t) path o ≡ true → o'.is_out ≡ false → o'.path ≡ o.path → o'.thing ≡ o.thing → o'.faults ≡ faults → o'.reads ≡ reads → o'.writes ≡ writes →
    counts_of (counts_in (set os i o')) ≡ kept_counts t (counts_of (counts_in os)) path faults reads writes
closed_counts os i o o' t path faults reads writes e it kept same thing f r w =
    let parts = such_parts (kind_of t) path o it in
    kept_as t os i o o' path faults reads writes e parts.0 parts.2 kept same (thing ∙ thing_is o.thing t parts.1) f r w
