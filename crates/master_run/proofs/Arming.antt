-- Arms that are out and are given back, one after the other.
use Rattle.std.proofs.Common.{◌≡◌, ◌∙◌, refl, sym, ap, subst, arith, ℕ, ◌≤◌, List, [], ◌∷◌, ◌++◌, map}
use Rattle.std.proofs.lemmas.List.{map-append}
use Rattle.vd_arm.specs.Arm.{ArmSeen}
use Rattle.vd_yard.specs.Counts.{Counts, add_arm}
use Rattle.vd_yard.specs.Out.{AtArm, Out, one_more, one_more_cancel, one_more_here, one_more_swap, out_at}
use Rattle.vd_yard.specs.Yard.{YardSeen}
use Rattle.master_run.specs.Yards.{AreOut, GaveArms, IsSameYard, counts_with, out_with}
use Rattle.master_run.specs.Posts.{arms_at, paths_at}
use Rattle.master_run.specs.declared.post.Post.{Post}

pub out_with_append : (xs ys : List (List ℕ)) (out : Out) → out_with (xs ++ ys) out ≡ out_with xs (out_with ys out)
out_with_append [] ys out = refl
out_with_append (x ∷ xs) ys out = ap (λ (o : Out). one_more o AtArm x) (out_with_append xs ys out)

pub out_with_cancel : (xs : List (List ℕ)) (a b : Out) → out_with xs a ≡ out_with xs b → a ≡ b
out_with_cancel [] a b p = p
out_with_cancel (x ∷ xs) a b p = out_with_cancel xs a b (one_more_cancel (out_with xs a) (out_with xs b) AtArm x p)

pub out_with_one : (xs : List (List ℕ)) (x : List ℕ) (out : Out) → out_with xs (one_more out AtArm x) ≡ one_more (out_with xs out) AtArm x
out_with_one [] x out = refl
out_with_one (y ∷ xs) x out = ap (λ (o : Out). one_more o AtArm y) (out_with_one xs x out) ∙ one_more_swap (out_with xs out) AtArm AtArm x y

pub counts_append : (xs ys : List (List ℕ × ArmSeen)) (c : Counts) → counts_with (xs ++ ys) c ≡ counts_with ys (counts_with xs c)
counts_append [] ys c = refl
counts_append ((path, arm) ∷ xs) ys c = counts_append xs ys (add_arm c path arm.faults arm.good_reads arm.good_writes)

pub same_yard : (a : YardSeen) → IsSameYard a a
same_yard a = record { later = omega arith; tells = refl; willing = λ w. w; files = λ kind path there. there; disks = refl; contents = refl }

pub same_then : (a b c : YardSeen) → IsSameYard a b → IsSameYard b c → IsSameYard a c
same_then a b c p q = record {
  later = omega (arith, p.later, q.later);
  tells = q.tells ∙ p.tells;
  willing = λ w. q.willing (p.willing w);
  files = λ kind path there. q.files kind path (p.files kind path there);
  disks = q.disks ∙ p.disks;
  contents = q.contents ∙ p.contents;
}

pub gave_none : (a : YardSeen) → GaveArms [] a a
gave_none a = record { faults = refl; same = same_yard a; out = refl; counts = refl }

pub gave_then : (xs ys : List (List ℕ × ArmSeen)) (a b c : YardSeen) → GaveArms xs a b → GaveArms ys b c → GaveArms (xs ++ ys) a c
gave_then xs ys a b c p q = record {
  faults = q.faults ∙ p.faults;
  same = same_then a b c p.same q.same;
  out = p.out ∙ ap (out_with (map (λ (arm : List ℕ × ArmSeen). arm.0) xs)) q.out
      ∙ sym (out_with_append (map (λ (arm : List ℕ × ArmSeen). arm.0) xs) (map (λ (arm : List ℕ × ArmSeen). arm.0) ys) c.out)
      ∙ ap (λ (l : List (List ℕ)). out_with l c.out) (sym (map-append (λ (arm : List ℕ × ArmSeen). arm.0) xs ys));
  counts = q.counts ∙ ap (counts_with ys) p.counts ∙ sym (counts_append xs ys a.counts);
}

pub arms_paths : {P A C : Type 0} (seen : A → ArmSeen) (path : List ℕ) (posts : List (Post P A C)) → map (λ (arm : List ℕ × ArmSeen). arm.0) (arms_at seen path posts) ≡ paths_at path posts
arms_paths seen path [] = refl
arms_paths seen path (post ∷ posts) = ap (λ (l : List (List ℕ)). path ∷ l) (arms_paths seen path posts)

paths_more : {P A C : Type 0} (path : List ℕ) (posts rest : List (Post P A C)) (post : Post P A C) (out : Out) → posts ≡ rest ++ post ∷ [] → out_with (paths_at path posts) out ≡ out_with (paths_at path rest) (one_more out AtArm path)
paths_more path posts rest post out split =
    ap (λ (l : List (Post _ _ _)). out_with (paths_at path l) out) split
    ∙ ap (λ (l : List (List ℕ)). out_with l out) (map-append (λ (post : Post _ _ _). path) rest (post ∷ []))
    ∙ out_with_append (paths_at path rest) (path ∷ []) out

-- But for the last the posts are out.
pub rest_out : {P A C : Type 0} (path : List ℕ) (posts rest : List (Post P A C)) (post : Post P A C) (yard : YardSeen) → posts ≡ rest ++ post ∷ [] → AreOut (paths_at path posts) yard → AreOut (paths_at path rest) yard
rest_out path posts rest post yard split is = (one_more is.0 AtArm path, is.1 ∙ paths_more path posts rest post is.0 split)

-- Once they are back the last is still out.
pub one_out : {P A C : Type 0} (seen : A → ArmSeen) (path : List ℕ) (posts rest : List (Post P A C)) (post : Post P A C) (old new : YardSeen) → posts ≡ rest ++ post ∷ [] → AreOut (paths_at path posts) old → GaveArms (arms_at seen path rest) old new → 1 ≤ out_at new.out AtArm path
one_out seen path posts rest post old new split is gave =
    let left = out_with_cancel (paths_at path rest) new.out (one_more is.0 AtArm path)
    (ap (λ (l : List (List ℕ)). out_with l new.out) (sym (arms_paths seen path rest)) ∙ sym gave.out ∙ is.1 ∙ paths_more path posts rest post is.0 split) in
    let here = ap (λ (o : Out). out_at o AtArm path) left ∙ one_more_here is.0 AtArm path in
    omega (arith, here)

pub gave_more : {P A C : Type 0} (seen : A → ArmSeen) (path : List ℕ) (posts rest : List (Post P A C)) (post : Post P A C) (a b c : YardSeen) → posts ≡ rest ++ post ∷ [] → GaveArms (arms_at seen path rest) a b → GaveArms ((path, seen post.arm) ∷ []) b c → GaveArms (arms_at seen path posts) a c
gave_more seen path posts rest post a b c split p q =
    subst (λ (l : List (List ℕ × ArmSeen)). GaveArms l a c) (sym (ap (arms_at seen path) split ∙ map-append (λ (post : Post _ _ _). (path, seen post.arm)) rest (post ∷ [])))
    (gave_then (arms_at seen path rest) ((path, seen post.arm) ∷ []) a b c p q)
