-- The counts of a path after arms were given back.
use Rattle.std.proofs.Common.{◌≡◌, ℕ, ◌+◌, ◌%◌, ◌^◌, ◌-◌, ◌<◌, ◌≤◌, min, Bool, true, false, cond, List, [], ◌∷◌, refl, sym, ap, subst, ◌∙◌, arith}
use Rattle.std.specs.Str.{bytes_eq}
use Rattle.std.proofs.lemmas.Slice.Eq.{bytes_eq-Decides}
use Rattle.vd_arm.specs.Arm.{ArmSeen}
use Rattle.vd_yard.specs.Counts.{Counts, add_arm, arm_faults, arm_faults_here, arm_faults_other, good_reads, good_reads_here, good_reads_other, good_writes, good_writes_here, good_writes_other, held, source_faults, source_faults_of_arm}
use Rattle.claim_table.specs.Sums.{Each, total}
use Rattle.master_run.specs.Yards.{counts_with}

-- the counts after one arm more
abbrev pub with_arm : Counts → List ℕ × ArmSeen → Counts
with_arm counts one = add_arm counts one.0 one.1.faults one.1.good_reads one.1.good_writes

-- what an arm adds to a path
abbrev pub at_path : (ArmSeen → ℕ) → List ℕ → List ℕ × ArmSeen → ℕ
at_path count path one = cond (bytes_eq one.0 path) (count one.1) 0

-- a count of good blocks, by path and of one arm
pub record IsCount (shows : Counts → List ℕ → ℕ) (count : ArmSeen → ℕ) : Type 0 where
  pub here : (counts : Counts) (one : List ℕ × ArmSeen) → shows (with_arm counts one) one.0 ≡ (shows counts one.0 + count one.1) % 2 ^ 64
  pub other : (counts : Counts) (one : List ℕ × ArmSeen) (path : List ℕ) → (path ≡ one.0 → ⊥) → shows (with_arm counts one) path ≡ shows counts path

pub reads_count : IsCount good_reads (λ arm. arm.good_reads)
reads_count = record {
  here = λ counts one. good_reads_here counts one.0 one.1.faults one.1.good_reads one.1.good_writes;
  other = λ counts one path apart. good_reads_other counts one.0 one.1.faults one.1.good_reads one.1.good_writes path apart;
}

pub writes_count : IsCount good_writes (λ arm. arm.good_writes)
writes_count = record {
  here = λ counts one. good_writes_here counts one.0 one.1.faults one.1.good_reads one.1.good_writes;
  other = λ counts one path apart. good_writes_other counts one.0 one.1.faults one.1.good_reads one.1.good_writes path apart;
}

-- the arm's path is this one, or it isn't
same_path : (one path : List ℕ) → bytes_eq one path ≡ true → one ≡ path
same_path one path is = (bytes_eq-Decides one path).0 is

pub path_apart : (one path : List ℕ) → bytes_eq one path ≡ false → path ≡ one → ⊥
path_apart one path is same = absurd (let so : true ≡ false = sym ((bytes_eq-Decides one path).1 (sym same)) ∙ is in cc)

module _ (shows : Counts → List ℕ → ℕ) (count : ArmSeen → ℕ) (is_count : IsCount shows count) where
  -- one arm, at the path or at another
  one_here : (counts : Counts) (one : List ℕ × ArmSeen) (path : List ℕ) → bytes_eq one.0 path ≡ true → shows (with_arm counts one) path ≡ (shows counts path + at_path count path one) % 2 ^ 64
  one_here counts one path is =
      let same : one.0 ≡ path = same_path one.0 path is in
      let adds : at_path count path one ≡ count one.1 = ap (λ b. cond b (count one.1) 0) is in
      subst (λ (p : List ℕ). shows (with_arm counts one) p ≡ (shows counts p + at_path count path one) % 2 ^ 64) same
      (is_count.here counts one ∙ ap (λ n. (shows counts one.0 + n) % 2 ^ 64) (sym adds))

  one_other : (counts : Counts) (one : List ℕ × ArmSeen) (path : List ℕ) → bytes_eq one.0 path ≡ false → (shows (with_arm counts one) path ≡ shows counts path) × (at_path count path one ≡ 0)
  one_other counts one path is = (is_count.other counts one path (path_apart one.0 path is), ap (λ b. cond b (count one.1) 0) is)

  -- the sum after one arm more, by the sum after it
  more_small : (arms : List (List ℕ × ArmSeen)) (counts : Counts) (one : List ℕ × ArmSeen) (path : List ℕ) (b : Bool) → bytes_eq one.0 path ≡ b → shows counts path < 2 ^ 64 → (shows (with_arm counts one) path < 2 ^ 64 → shows (counts_with arms (with_arm counts one)) path ≡ (shows (with_arm counts one) path + total (at_path count path) arms) % 2 ^ 64) → shows (counts_with arms (with_arm counts one)) path ≡ (shows counts path + (at_path count path one + total (at_path count path) arms)) % 2 ^ 64
  more_small arms counts one path true is small next =
      let first = one_here counts one path is in
      let rest = next (omega (arith, first)) in
      omega (arith, first, rest)
  more_small arms counts one path false is small next =
      let first = one_other counts one path is in
      let rest = next (omega (arith, first.0, small)) in
      omega (arith, first.0, first.1, rest)

  -- where the count was below 2^64 it rises by what all arms add
  sum_small : (arms : List (List ℕ × ArmSeen)) (counts : Counts) (path : List ℕ) → shows counts path < 2 ^ 64 → shows (counts_with arms counts) path ≡ (shows counts path + total (at_path count path) arms) % 2 ^ 64
  sum_small [] counts path small = omega (arith, small)
  sum_small (one ∷ arms) counts path small = more_small arms counts one path (bytes_eq one.0 path) refl small (sum_small arms (with_arm counts one) path)

  more_rises : (arms : List (List ℕ × ArmSeen)) (counts : Counts) (one : List ℕ × ArmSeen) (path : List ℕ) (b : Bool) → bytes_eq one.0 path ≡ b → 0 < at_path (λ arm. 1) path one + total (at_path (λ arm. 1) path) arms → (0 < total (at_path (λ arm. 1) path) arms → shows (counts_with arms (with_arm counts one)) path ≡ (shows (with_arm counts one) path + total (at_path count path) arms) % 2 ^ 64) → shows (counts_with arms (with_arm counts one)) path ≡ (shows counts path + (at_path count path one + total (at_path count path) arms)) % 2 ^ 64
  more_rises arms counts one path true is some next =
      let first = one_here counts one path is in
      let rest = sum_small arms (with_arm counts one) path (omega (arith, first)) in
      omega (arith, first, rest)
  more_rises arms counts one path false is some next =
      let first = one_other counts one path is in
      let none : at_path (λ arm. 1) path one ≡ 0 = ap (λ b. cond b 1 0) is in
      let rest = next (omega (arith, none, some)) in
      omega (arith, first.0, first.1, rest)

  -- so it does where some arm is at the path
  pub sum_rises : (arms : List (List ℕ × ArmSeen)) (counts : Counts) (path : List ℕ) → 0 < total (at_path (λ arm. 1) path) arms → shows (counts_with arms counts) path ≡ (shows counts path + total (at_path count path) arms) % 2 ^ 64
  sum_rises [] counts path some = absurd (omega (arith, some))
  sum_rises (one ∷ arms) counts path some = more_rises arms counts one path (bytes_eq one.0 path) refl some (sum_rises arms (with_arm counts one) path)

  -- and it stays where no arm is
  pub sum_stays : (arms : List (List ℕ × ArmSeen)) (counts : Counts) (path : List ℕ) → Each (λ one. path ≡ one.0 → ⊥) arms → shows (counts_with arms counts) path ≡ shows counts path
  sum_stays [] counts path apart = refl
  sum_stays (one ∷ arms) counts path apart = sum_stays arms (with_arm counts one) path apart.1 ∙ is_count.other counts one path apart.0

-- Faults.
fault_one : (counts : Counts) (one : List ℕ × ArmSeen) (path : List ℕ) (b : Bool) → bytes_eq one.0 path ≡ b → arm_faults (with_arm counts one) path ≡ held (arm_faults counts path) (at_path (λ arm. arm.faults) path one)
fault_one counts one path true is =
    let same : one.0 ≡ path = same_path one.0 path is in
    let adds : at_path (λ arm. arm.faults) path one ≡ one.1.faults = ap (λ b. cond b one.1.faults 0) is in
    subst (λ (p : List ℕ). arm_faults (with_arm counts one) p ≡ held (arm_faults counts p) (at_path (λ arm. arm.faults) path one)) same
    (arm_faults_here counts one.0 one.1.faults one.1.good_reads one.1.good_writes ∙ ap (λ n. held (arm_faults counts one.0) n) (sym adds))
fault_one counts one path false is =
    let adds : at_path (λ arm. arm.faults) path one ≡ 0 = ap (λ b. cond b one.1.faults 0) is in
    let stays = arm_faults_other counts one.0 one.1.faults one.1.good_reads one.1.good_writes path (path_apart one.0 path is) in
    omega (arith, adds, stays)

pub faults_rise : (arms : List (List ℕ × ArmSeen)) (counts : Counts) (path : List ℕ) → min (arm_faults counts path + total (at_path (λ arm. arm.faults) path) arms) (2 ^ 64 - 1) ≤ arm_faults (counts_with arms counts) path
faults_rise [] counts path = omega arith
faults_rise (one ∷ arms) counts path = omega (arith, fault_one counts one path (bytes_eq one.0 path) refl, faults_rise arms (with_arm counts one) path)

pub faults_stay : (arms : List (List ℕ × ArmSeen)) (counts : Counts) (path : List ℕ) → total (at_path (λ arm. arm.faults) path) arms ≡ 0 → arm_faults (counts_with arms counts) path ≡ arm_faults counts path
faults_stay [] counts path none = refl
faults_stay (one ∷ arms) counts path none = omega (arith, none, fault_one counts one path (bytes_eq one.0 path) refl, faults_stay arms (with_arm counts one) path (omega (arith, none)))

pub faults_elsewhere : (arms : List (List ℕ × ArmSeen)) (counts : Counts) (path : List ℕ) → Each (λ one. path ≡ one.0 → ⊥) arms → arm_faults (counts_with arms counts) path ≡ arm_faults counts path
faults_elsewhere [] counts path apart = refl
faults_elsewhere (one ∷ arms) counts path apart = faults_elsewhere arms (with_arm counts one) path apart.1 ∙ arm_faults_other counts one.0 one.1.faults one.1.good_reads one.1.good_writes path apart.0

pub sources_stay : (arms : List (List ℕ × ArmSeen)) (counts : Counts) (path : List ℕ) → source_faults (counts_with arms counts) path ≡ source_faults counts path
sources_stay [] counts path = refl
sources_stay (one ∷ arms) counts path = sources_stay arms (with_arm counts one) path ∙ source_faults_of_arm counts one.0 one.1.faults one.1.good_reads one.1.good_writes path
