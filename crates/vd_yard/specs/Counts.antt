-- The counts of a path, added up from what was kept there.
use Rattle.std.specs.Prelude.{◌≡◌, ℕ, ◌+◌, ◌%◌, ◌^◌, ◌-◌, ◌≤◌, min, max, Bool, true, false, cond, List, if◌then◌else◌, refl}
use Rattle.std.proofs.Common.{ap, arith, sym}
use Rattle.std.specs.Str.{bytes_eq}
use Rattle.std.proofs.lemmas.Slice.Eq.{bytes_eq-Decides}

pub record PathCounts : Type 0 where
  pub source_faults : ℕ
  pub arm_faults : ℕ
  pub good_reads : ℕ
  pub good_writes : ℕ

-- by path: a finite map whose missing places have zeros
pub record Counts : Type 0 where
  pub at : List ℕ → PathCounts

pub source_faults : Counts → List ℕ → ℕ
source_faults c q = (c.at q).source_faults

pub arm_faults : Counts → List ℕ → ℕ
arm_faults c q = (c.at q).arm_faults

-- a count with n more, held at the greatest u64
abbrev pub held : ℕ → ℕ → ℕ
held count n = max count (min (count + n) (2 ^ 64 - 1))

-- the faults of a source that was kept at this path are added
pub add_source : Counts → List ℕ → ℕ → Counts
add_source c path n = record {
  at = λ q.
      if bytes_eq path q then record (c.at q) { source_faults = held (c.at q).source_faults n } else c.at q;
}

-- those of an arm, and its good calls
pub add_arm : Counts → List ℕ → ℕ → ℕ → ℕ → Counts
add_arm c path faults reads writes = record {
  at = λ q.
      if bytes_eq path q then record {
        source_faults = (c.at q).source_faults;
        arm_faults = held (c.at q).arm_faults faults;
        good_reads = ((c.at q).good_reads + reads) % 2 ^ 64;
        good_writes = ((c.at q).good_writes + writes) % 2 ^ 64;
      } else c.at q;
}

picked : (b : Bool) (c d : PathCounts) → b ≡ true → cond b c d ≡ c
picked true c d e = refl
picked false c d e = cc

pub source_faults_here : (c : Counts) (p : List ℕ) (n : ℕ) → source_faults (add_source c p n) p ≡ held (source_faults c p) n
unfolding source_faults add_source
source_faults_here c p n = ap (λ (r : PathCounts). r.source_faults) (picked (bytes_eq p p) _ _ ((bytes_eq-Decides p p).1 refl))

grows : (b : Bool) (a n : ℕ) → a ≤ cond b (held a n) a
grows true a n = omega arith
grows false a n = omega arith

pick_source : (b : Bool) (c d : PathCounts) → (cond b c d).source_faults ≡ cond b c.source_faults d.source_faults
pick_source true c d = refl
pick_source false c d = refl

pick_arm : (b : Bool) (c d : PathCounts) → (cond b c d).arm_faults ≡ cond b c.arm_faults d.arm_faults
pick_arm true c d = refl
pick_arm false c d = refl

same_cond : (b : Bool) (n : ℕ) → cond b n n ≡ n
same_cond true n = refl
same_cond false n = refl

pub source_faults_grow : (c : Counts) (p : List ℕ) (n : ℕ) (q : List ℕ) → source_faults c q ≤ source_faults (add_source c p n) q
unfolding source_faults add_source
source_faults_grow c p n q = rw (pick_source (bytes_eq p q)) (grows (bytes_eq p q) (c.at q).source_faults n)

none_held : (b : Bool) (c : PathCounts) → (cond b (record c { source_faults = held c.source_faults 0 }) c).source_faults ≡ c.source_faults
none_held true c = omega arith
none_held false c = refl

-- a source without a fault leaves the counts
pub source_faults_none : (c : Counts) (p : List ℕ) (q : List ℕ) → source_faults (add_source c p 0) q ≡ source_faults c q
unfolding source_faults add_source
source_faults_none c p q = none_held (bytes_eq p q) (c.at q)

pub arm_faults_of_source : (c : Counts) (p : List ℕ) (n : ℕ) (q : List ℕ) → arm_faults (add_source c p n) q ≡ arm_faults c q
unfolding arm_faults add_source
arm_faults_of_source c p n q = rw (pick_arm (bytes_eq p q)) (same_cond (bytes_eq p q) _)

pub arm_faults_here : (c : Counts) (p : List ℕ) (f r w : ℕ) → arm_faults (add_arm c p f r w) p ≡ held (arm_faults c p) f
unfolding arm_faults add_arm
arm_faults_here c p f r w = ap (λ (s : PathCounts). s.arm_faults) (picked (bytes_eq p p) _ _ ((bytes_eq-Decides p p).1 refl))

pub arm_faults_grow : (c : Counts) (p : List ℕ) (f r w : ℕ) (q : List ℕ) → arm_faults c q ≤ arm_faults (add_arm c p f r w) q
unfolding arm_faults add_arm
arm_faults_grow c p f r w q = rw (pick_arm (bytes_eq p q)) (grows (bytes_eq p q) (c.at q).arm_faults f)

none_held_arm : (b : Bool) (c : PathCounts) (r w : ℕ) → (cond b (record { source_faults = c.source_faults; arm_faults = held c.arm_faults 0; good_reads = r; good_writes = w }) c).arm_faults ≡ c.arm_faults
none_held_arm true c r w = omega arith
none_held_arm false c r w = refl

-- an arm without a fault leaves the counts of faults
pub arm_faults_none : (c : Counts) (p : List ℕ) (r w : ℕ) (q : List ℕ) → arm_faults (add_arm c p 0 r w) q ≡ arm_faults c q
unfolding arm_faults add_arm
arm_faults_none c p r w q = none_held_arm (bytes_eq p q) (c.at q) _ _

-- another path's counts stay
not_there : (b : Bool) (c d : PathCounts) → (b ≡ true → ⊥) → cond b c d ≡ d
not_there true c d n = absurd (n refl)
not_there false c d n = refl

pub arm_faults_other : (c : Counts) (p : List ℕ) (f r w : ℕ) (q : List ℕ) → (q ≡ p → ⊥) → arm_faults (add_arm c p f r w) q ≡ arm_faults c q
unfolding arm_faults add_arm
arm_faults_other c p f r w q n =
    ap (λ (s : PathCounts). s.arm_faults) (not_there (bytes_eq p q) _ _ (λ e. n (sym ((bytes_eq-Decides p q).0 e))))

pub source_faults_of_arm : (c : Counts) (p : List ℕ) (f r w : ℕ) (q : List ℕ) → source_faults (add_arm c p f r w) q ≡ source_faults c q
unfolding source_faults add_arm
source_faults_of_arm c p f r w q = rw (pick_source (bytes_eq p q)) (same_cond (bytes_eq p q) _)

-- the counts that a function gives
pub counts_of : (List ℕ → PathCounts) → Counts
counts_of f = record { at = f }

pub add_source_by : (f h : List ℕ → PathCounts) (path : List ℕ) (n : ℕ) →
    ((q : List ℕ) → h q ≡ (if bytes_eq path q then record (f q) { source_faults = held (f q).source_faults n } else f q)) →
    counts_of h ≡ add_source (counts_of f) path n
unfolding counts_of add_source
add_source_by f h path n e = λ i. record { at = λ q. e q i }

pub good_writes : Counts → List ℕ → ℕ
good_writes c q = (c.at q).good_writes

pub good_writes_here : (c : Counts) (p : List ℕ) (f r w : ℕ) → good_writes (add_arm c p f r w) p ≡ (good_writes c p + w) % 2 ^ 64
unfolding good_writes add_arm
good_writes_here c p f r w = ap (λ (s : PathCounts). s.good_writes) (picked (bytes_eq p p) _ _ ((bytes_eq-Decides p p).1 refl))

pub good_writes_other : (c : Counts) (p : List ℕ) (f r w : ℕ) (q : List ℕ) → (q ≡ p → ⊥) → good_writes (add_arm c p f r w) q ≡ good_writes c q
unfolding good_writes add_arm
good_writes_other c p f r w q n =
    ap (λ (s : PathCounts). s.good_writes) (not_there (bytes_eq p q) _ _ (λ e. n (sym ((bytes_eq-Decides p q).0 e))))

pub good_reads : Counts → List ℕ → ℕ
good_reads c q = (c.at q).good_reads

pub good_reads_here : (c : Counts) (p : List ℕ) (f r w : ℕ) → good_reads (add_arm c p f r w) p ≡ (good_reads c p + r) % 2 ^ 64
unfolding good_reads add_arm
good_reads_here c p f r w = ap (λ (s : PathCounts). s.good_reads) (picked (bytes_eq p p) _ _ ((bytes_eq-Decides p p).1 refl))

pub good_reads_other : (c : Counts) (p : List ℕ) (f r w : ℕ) (q : List ℕ) → (q ≡ p → ⊥) → good_reads (add_arm c p f r w) q ≡ good_reads c q
unfolding good_reads add_arm
good_reads_other c p f r w q n =
    ap (λ (s : PathCounts). s.good_reads) (not_there (bytes_eq p q) _ _ (λ e. n (sym ((bytes_eq-Decides p q).0 e))))

pick_reads : (b : Bool) (c d : PathCounts) → (cond b c d).good_reads ≡ cond b c.good_reads d.good_reads
pick_reads true c d = refl
pick_reads false c d = refl

pub good_reads_of_source : (c : Counts) (p : List ℕ) (n : ℕ) (q : List ℕ) → good_reads (add_source c p n) q ≡ good_reads c q
unfolding good_reads add_source
good_reads_of_source c p n q = rw (pick_reads (bytes_eq p q)) (same_cond (bytes_eq p q) _)

pick_writes : (b : Bool) (c d : PathCounts) → (cond b c d).good_writes ≡ cond b c.good_writes d.good_writes
pick_writes true c d = refl
pick_writes false c d = refl

pub good_writes_of_source : (c : Counts) (p : List ℕ) (n : ℕ) (q : List ℕ) → good_writes (add_source c p n) q ≡ good_writes c q
unfolding good_writes add_source
good_writes_of_source c p n q = rw (pick_writes (bytes_eq p q)) (same_cond (bytes_eq p q) _)

none_written : (b : Bool) (n : ℕ) → cond b ((n + 0) % 2 ^ 64) n % 2 ^ 64 ≡ (n + 0) % 2 ^ 64
none_written true n = omega arith
none_written false n = omega arith

-- an arm that wrote nothing leaves the counts of good writes, modulo 2^64
pub good_writes_none : (c : Counts) (p : List ℕ) (f r : ℕ) (q : List ℕ) → good_writes (add_arm c p f r 0) q % 2 ^ 64 ≡ (good_writes c q + 0) % 2 ^ 64
unfolding good_writes add_arm
good_writes_none c p f r q = rw (pick_writes (bytes_eq p q)) (none_written (bytes_eq p q) (c.at q).good_writes)

pub add_arm_by : (f h : List ℕ → PathCounts) (path : List ℕ) (n r w : ℕ) →
    ((q : List ℕ) → h q ≡ (if bytes_eq path q then record {
      source_faults = (f q).source_faults;
      arm_faults = held (f q).arm_faults n;
      good_reads = ((f q).good_reads + r) % 2 ^ 64;
      good_writes = ((f q).good_writes + w) % 2 ^ 64;
    } else f q)) → counts_of h ≡ add_arm (counts_of f) path n r w
unfolding counts_of add_arm
add_arm_by f h path n r w e = λ i. record { at = λ q. e q i }

-- the same counts at each path
pub counts_of_same : (f h : List ℕ → PathCounts) → ((q : List ℕ) → h q ≡ f q) → counts_of h ≡ counts_of f
unfolding counts_of
counts_of_same f h e = λ i. record { at = λ q. e q i }

-- nothing was kept at any path
pub no_counts : Counts
no_counts = counts_of (λ path. record { source_faults = 0; arm_faults = 0; good_reads = 0; good_writes = 0 })

pub no_counts_by : (f : List ℕ → PathCounts) → ((q : List ℕ) → f q ≡ record { source_faults = 0; arm_faults = 0; good_reads = 0; good_writes = 0 }) →
    counts_of f ≡ no_counts
unfolding no_counts
no_counts_by f e = counts_of_same (λ path. record { source_faults = 0; arm_faults = 0; good_reads = 0; good_writes = 0 }) f e
