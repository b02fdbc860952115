-- What a part of a command leaves as it was.
use Rattle.std.proofs.Common.{◌≡◌, ℕ, ◌+◌, ◌-◌, ◌^◌, ◌%◌, min, ◌≤◌, IsTrue, true, false, List, refl, sym, ◌∙◌, ap, inl, inr, subst, arith, rules}
use Rattle.std.specs.Prelude.{Bool, Option, Some, None}
use Rattle.vd_disk.specs.Disk.{DiskSeen}
use Rattle.vd_yard.specs.Kept.{Kept, kept_at, keep_at, keep_at_either, keep_at_other, keep_at_untold, bytes_at}
use Rattle.plan_types.specs.declared.store.StorePlan.{StorePlan}
use Rattle.vd_yard.specs.Yard.{Tells, YardSeen}
use Rattle.vd_yard.specs.Contents.{file_block}
use Rattle.vd_yard.specs.Counts.{Counts, held, add_arm, arm_faults, arm_faults_here, arm_faults_none, good_reads, good_reads_here}
use Rattle.std.specs.Prelude.{count_by}
use Rattle.vd_arm.specs.Arm.{ArmSeen, Counted, PassSeen}
use Rattle.key_state.specs.declared.entry.Entry.{Entry}
use Rattle.run_report.specs.declared.finding.Verified.{Verified}
use Rattle.run_report.specs.Says.{Printing}
use Rattle.vd_yard.specs.Out.{AtArm}
use Rattle.recover_run.specs.declared.look.Look.{Look}
use Rattle.recover_run.specs.Looks.{AreLooks, is_seen, is_unread}
use Rattle.recover_run.specs.Part.{Called}
use Rattle.still_store.specs.Looking.{Leaves}
use Rattle.still_store.specs.Verification.{ArePassesOf, CountsRose, StopsReading, counted_of, none_begun, stops_reading}
use Rattle.still_store.specs.Frame.{Unwritten, JournalsStay, BlocksStay}

unwritten_same : (disk : DiskSeen) → Unwritten disk disk
unwritten_same disk = record { same = refl; later = omega arith }

unwritten_then : (a b c : DiskSeen) → Unwritten a b → Unwritten b c → Unwritten a c
unwritten_then a b c p q = record {
  same = q.same ∙ ap (λ (d : DiskSeen). record d { faults = c.faults }) p.same;
  later = omega (arith, p.later, q.later);
}

pub journals_same : (old new : Kept DiskSeen) → new ≡ old → JournalsStay old new
journals_same old new e = record {
  each = λ path disk is. (disk, ap (λ (k : Kept DiskSeen). kept_at k path) e ∙ is, unwritten_same disk);
  none = λ path is. ap (λ (k : Kept DiskSeen). kept_at k path) e ∙ is;
}

pub journals_then : (a b c : Kept DiskSeen) → JournalsStay a b → JournalsStay b c → JournalsStay a c
journals_then a b c p q = record {
  each = λ path disk is.
      let first = p.each path disk is in
      let second = q.each path first.0 first.1 in
      (second.0, second.1, unwritten_then disk first.0 second.0 first.2 second.2);
  none = λ path is. q.none path (p.none path is);
}

-- A disk that was handed out as it was kept, only read, and given back.
journals_kept : (tells : Bool) (kept : Kept DiskSeen) (path : List ℕ) (handed now : DiskSeen) → ((disk : DiskSeen) → kept_at kept path ≡ Some disk → handed ≡ disk) → Unwritten handed now → (q : List ℕ) (disk : DiskSeen) → kept_at kept q ≡ Some disk → (e : DiskSeen) × (kept_at (keep_at tells kept path now) q ≡ Some e) × Unwritten disk e
journals_kept tells kept path handed now same read q disk is = elim (keep_at_either tells kept path now q) [
  | inl here ↦
      let was : handed ≡ disk = same disk (ap (λ p. kept_at kept p) (sym here.0) ∙ is) in
      (now, here.1, subst (λ (d : DiskSeen). Unwritten d now) was read)
  | inr other ↦ (disk, other ∙ is, unwritten_same disk)
]

-- No disk was handed out where none is kept, so none came there.
none_came : (tells b : Bool) → tells ≡ b → (kept : Kept DiskSeen) (path : List ℕ) (now : DiskSeen) → (IsTrue tells → kept_at kept path ≡ None → ⊥) → (q : List ℕ) → kept_at kept q ≡ None → kept_at (keep_at tells kept path now) q ≡ None
none_came tells true e kept path now gone q is = elim (keep_at_either tells kept path now q) [
  | inl here ↦ absurd (gone (search (rules, e)) (ap (λ p. kept_at kept p) (sym here.0) ∙ is))
  | inr other ↦ other ∙ is
]
none_came tells false e kept path now gone q is =
    ap (λ (t : Bool). kept_at (keep_at t kept path now) q) e ∙ (ap (λ (k : Kept DiskSeen). kept_at k q) (keep_at_untold kept path now) ∙ is)

pub journals_stay : (old mid new : Kept DiskSeen) (tells : Bool) (path : List ℕ) (handed now : DiskSeen) → mid ≡ old → new ≡ keep_at tells mid path now → ((disk : DiskSeen) → kept_at old path ≡ Some disk → handed ≡ disk) → (IsTrue tells → kept_at old path ≡ None → ⊥) → now ≡ record handed { faults = now.faults } → handed.faults ≤ now.faults → JournalsStay old new
journals_stay old mid new tells path handed now m e same gone read later =
    let whole : new ≡ keep_at tells old path now = e ∙ ap (λ (k : Kept DiskSeen). keep_at tells k path now) m in
    subst (λ (k : Kept DiskSeen). JournalsStay old k) (sym whole) (record {
      each = journals_kept tells old path handed now same (record { same = read; later = later });
      none = none_came tells tells refl old path now gone;
    })

pub told_absent : (a b : Tells) (P : Type 0) → b ≡ a → (IsTrue a.keeps_disks → P → ⊥) → IsTrue b.keeps_disks → P → ⊥
told_absent a b P e gone keeps p = gone (subst (λ (t : Tells). IsTrue t.keeps_disks) e keeps) p

-- What came back as it was handed out stands where it was kept.
as_handed : (o : Option DiskSeen) (handed now : DiskSeen) → now ≡ handed → ((disk : DiskSeen) → o ≡ Some disk → handed ≡ disk) → (o ≡ None → ⊥) → Some now ≡ o
as_handed None handed now e same gone = absurd (gone refl)
as_handed (Some disk) handed now e same gone = ap (λ (d : DiskSeen). Some d) (e ∙ same disk refl)

disks_by : (tells b : Bool) → tells ≡ b → (kept : Kept DiskSeen) (path : List ℕ) (handed now : DiskSeen) → now ≡ handed → ((disk : DiskSeen) → kept_at kept path ≡ Some disk → handed ≡ disk) → (IsTrue tells → kept_at kept path ≡ None → ⊥)
    → (q : List ℕ) → kept_at (keep_at tells kept path now) q ≡ kept_at kept q
disks_by tells true e kept path handed now same told gone q = elim (keep_at_either tells kept path now q) [
  | inl here ↦ here.1 ∙ (as_handed (kept_at kept path) handed now same told (gone (search (rules, e))) ∙ ap (λ p. kept_at kept p) (sym here.0))
  | inr other ↦ other
]
disks_by tells false e kept path handed now same told gone q =
    ap (λ (t : Bool). kept_at (keep_at t kept path now) q) e ∙ ap (λ (k : Kept DiskSeen). kept_at k q) (keep_at_untold kept path now)

-- A disk that was handed out and came back with no fault more is kept as it was.
pub disks_same : (old mid new : Kept DiskSeen) (tells : Bool) (path : List ℕ) (handed now : DiskSeen) → mid ≡ old → new ≡ keep_at tells mid path now → ((disk : DiskSeen) → kept_at old path ≡ Some disk → handed ≡ disk) → (IsTrue tells → kept_at old path ≡ None → ⊥) → now ≡ record handed { faults = now.faults } → now.faults ≡ handed.faults
    → (q : List ℕ) → kept_at new q ≡ kept_at old q
disks_same old mid new tells path handed now m e same gone read quiet q =
    let whole : new ≡ keep_at tells old path now = e ∙ ap (λ (k : Kept DiskSeen). keep_at tells k path now) m in
    let back : now ≡ handed = read ∙ ap (λ f. record handed { faults = f }) quiet in
    ap (λ (k : Kept DiskSeen). kept_at k q) whole ∙ disks_by tells tells refl old path handed now back same gone q

pub blocks_same : (store : StorePlan) (old new : Kept (List ℕ)) → new ≡ old → BlocksStay store old new
blocks_same store old new e = record {
  blocks = λ block within. ap (λ (k : Kept (List ℕ)). file_block store.id.geometry.block_size block (bytes_at k store.path)) e;
  others = λ path other. ap (λ (k : Kept (List ℕ)). kept_at k path) e;
}

-- What an arm read well is added to its path's count, modulo 2^64.
pub reads_rose : (old new mid : Counts) (path : List ℕ) (f g r w n : ℕ) → mid ≡ old → new ≡ add_arm mid path g r w → f ≡ 0 → Counted n f r → Counted n (good_reads old path) (good_reads new path)
reads_rose old new mid path f g r w n e k z p =
    let here : good_reads new path ≡ (good_reads old path + r) % 2 ^ 64 = ap (λ (c : Counts). good_reads c path) k ∙ (good_reads_here mid path g r w ∙ ap (λ (c : Counts). (good_reads c path + r) % 2 ^ 64) e) in
    omega (arith, here, p, z)

-- What an arm failed by is added to its path's count.
pub front_rose : (old new mid : Counts) (path : List ℕ) (f g r w n : ℕ) → mid ≡ old → new ≡ add_arm mid path g r w → f ≡ 0 → min (f + n) (2 ^ 64 - 1) ≤ g → min (arm_faults old path + n) (2 ^ 64 - 1) ≤ arm_faults new path
front_rose old new mid path f g r w n e k z p =
    let here : arm_faults new path ≡ held (arm_faults old path) g = ap (λ (c : Counts). arm_faults c path) k ∙ (arm_faults_here mid path g r w ∙ ap (λ (c : Counts). held (arm_faults c path) g) e) in
    omega (arith, here, p, z)

-- What the looks left of an arm is added to the counts of its path.
pub counts_rose : (old new : YardSeen) (mid : Counts) (path : List ℕ) (looks : List Look) (a b : ArmSeen) → mid ≡ old.counts → new.counts ≡ add_arm mid path b.faults b.good_reads b.good_writes → a.faults ≡ 0 → a.good_reads ≡ 0 → a.sure ≡ old.tells.sure AtArm path → Called looks a b
    → CountsRose old new path looks
counts_rose old new mid path looks a b e k z none sure called =
    let whole : new.counts ≡ add_arm old.counts path b.faults b.good_reads b.good_writes = k ∙ ap (λ (c : Counts). add_arm c path b.faults b.good_reads b.good_writes) e in
    let still : b.faults ≡ 0 → (q : List ℕ) → arm_faults new.counts q ≡ arm_faults old.counts q
    = λ f q. ap (λ (c : Counts). arm_faults c q) whole ∙ (ap (λ n. arm_faults (add_arm old.counts path n b.good_reads b.good_writes) q) f ∙ arm_faults_none old.counts path b.good_reads b.good_writes q) in record {
      reads = reads_rose old.counts new.counts mid path a.good_reads b.faults b.good_reads b.good_writes (count_by is_seen looks) e k none called.reads;
      rose = front_rose old.counts new.counts mid path a.faults b.faults b.good_reads b.good_writes (count_by is_unread looks) e k z called.rose;
      kept = λ n q. still (called.kept n ∙ z) q;
      sure = λ s q. still (called.still (subst (λ (t : Bool). IsTrue t) (sym sure) s) ∙ z) q;
    }

-- What was kept at one path leaves the others.
pub kept_others : (old mid new : Kept DiskSeen) (tells : Bool) (path : List ℕ) (now : DiskSeen) → mid ≡ old → new ≡ keep_at tells mid path now → (q : List ℕ) → (q ≡ path → ⊥) → kept_at new q ≡ kept_at old q
kept_others old mid new tells path now m e q other =
    ap (λ (k : Kept DiskSeen). kept_at k q) e ∙ (keep_at_other tells mid path now q other ∙ ap (λ (k : Kept DiskSeen). kept_at k q) m)

-- ---- a store whose passes stay out
-- A block of an arm that is sure was readable.
none_unread : (looks : List Look) (a b : ArmSeen) → a.faults ≡ 0 → Called looks a b → IsTrue a.sure → count_by is_unread looks ≡ 0
none_unread looks a b z called s =
    let same = called.still s in
    let rose = called.rose in
    omega (arith, z, same, rose)

pub leaves_by : (old new : YardSeen) (mid : Counts) (store : StorePlan) (entries : List Entry) (passes : List PassSeen) (looks : List Look) (counted : Verified) (a b : ArmSeen) → mid ≡ old.counts → new.counts ≡ add_arm mid store.path b.faults b.good_reads b.good_writes → a.faults ≡ 0 → a.good_reads ≡ 0
    → a.sure ≡ old.tells.sure AtArm store.path → ArePassesOf old store passes → AreLooks store.id entries passes looks → counted ≡ counted_of entries looks → Called looks a b → Leaves old new store entries passes looks counted
leaves_by old new mid store entries passes looks counted a b e k z none sure theirs looked is called = record {
  theirs = theirs;
  looked = looked;
  counts = is;
  rose = counts_rose old new mid store.path looks a b e k z none sure called;
  sure = λ s. none_unread looks a b z called (subst (λ (t : Bool). IsTrue t) (sym sure) s);
}

pub rose_along : (old mid new : YardSeen) (path : List ℕ) (looks : List Look) → new.counts ≡ mid.counts → CountsRose old mid path looks → CountsRose old new path looks
rose_along old mid new path looks e p = record {
  reads = subst (λ (c : Counts). Counted (count_by is_seen looks) (good_reads old.counts path) (good_reads c path)) (sym e) p.reads;
  rose = subst (λ (c : Counts). min (arm_faults old.counts path + count_by is_unread looks) (2 ^ 64 - 1) ≤ arm_faults c path) (sym e) p.rose;
  kept = λ n q. ap (λ (c : Counts). arm_faults c q) e ∙ p.kept n q;
  sure = λ s q. ap (λ (c : Counts). arm_faults c q) e ∙ p.sure s q;
}

pub stops_along : (old mid new : YardSeen) (store : StorePlan) (entries : List Entry) (p q : Printing) → new.counts ≡ mid.counts → StopsReading old mid store entries p q → StopsReading old new store entries p q
stops_along old mid new store entries p q e (none_begun k) = none_begun (e ∙ k)
stops_along old mid new store entries p q e (stops_reading n passes looks theirs looked rose ends) =
    stops_reading n passes looks theirs looked (rose_along old mid new store.path looks e rose) ends
