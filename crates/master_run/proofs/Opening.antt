-- Arms that are opened, one after the other.
use Rattle.std.proofs.Common.{◌≡◌, ◌∙◌, refl, sym, ap, subst, ℕ, All, List, [], ◌∷◌, ◌++◌, map, IsTrue, Result, Ok, Err}
use Rattle.std.proofs.lemmas.List.{append-nil, map-append}
use Rattle.std.proofs.lemmas.List.Elements.{All-append, All-nil}
use Rattle.vd_outside.specs.Causes.{Rose}
use Rattle.vd_arm.specs.Arm.{ArmSeen}
use Rattle.vd_yard.specs.Out.{AtArm, Out, one_more}
use Rattle.vd_yard.specs.Yard.{Opens, YardSeen}
use Rattle.vd_yard.specs.declared.fault.YardFault.{YardFault}
use Rattle.slave_worker.specs.declared.hand.RunFault.{RunFault}
use Rattle.slave_worker.specs.declared.hand.RunFault.TheVariants.{NoMemory}
use Rattle.slave_worker.specs.declared.hand.RunFault.TheVariants.{Yard as FailedYard}
use Rattle.master_run.specs.Yards.{GaveArms, HasYardCause, IsSameYard, IsUnused, TookArms, WereUsed, counts_with, out_with}
use Rattle.master_run.specs.Posts.{paths_at}
use Rattle.master_run.specs.declared.post.Post.{Post}
use Rattle.master_run.proofs.Arming.{counts_append, out_with_append, out_with_cancel, out_with_one, same_then, same_yard}

pub opened_same : {T : Type 0} (path : List ℕ) (old new : YardSeen) (result : Result T YardFault) → Opens AtArm path old new result → IsSameYard old new
opened_same path old new result opens = record {
  later = opens.later;
  tells = opens.tells;
  willing = opens.willing;
  files = opens.files;
  disks = opens.disks;
  contents = opens.contents;
}

-- No arm is out more.
pub took_not : (old new : YardSeen) → IsSameYard old new → new.out ≡ old.out → new.counts ≡ old.counts → TookArms [] old new
took_not old new same out counts = record { same = same; out = out; unused = []; are_unused = All-nil IsUnused; counts = counts }

pub took_none : (yard : YardSeen) → TookArms [] yard yard
took_none yard = took_not yard yard (same_yard yard) refl refl

pub took_one : (path : List ℕ) (old new : YardSeen) → IsSameYard old new → new.out ≡ one_more old.out AtArm path → new.counts ≡ old.counts → TookArms (path ∷ []) old new
took_one path old new same out counts = record { same = same; out = out; unused = []; are_unused = All-nil IsUnused; counts = counts }

pub took_then : (xs ys : List (List ℕ)) (a b c : YardSeen) → TookArms xs a b → TookArms ys b c → TookArms (ys ++ xs) a c
took_then xs ys a b c p q = record {
  same = same_then a b c p.same q.same;
  out = q.out ∙ ap (out_with ys) p.out ∙ sym (out_with_append ys xs a.out);
  unused = p.unused ++ q.unused;
  are_unused = All-append IsUnused p.unused q.unused p.are_unused q.are_unused;
  counts = q.counts ∙ ap (counts_with q.unused) p.counts ∙ sym (counts_append p.unused q.unused a.counts);
}

-- The order in which arms were opened doesn't matter.
pub out_with_swap : (xs ys : List (List ℕ)) (out : Out) → out_with (xs ++ ys) out ≡ out_with (ys ++ xs) out
out_with_swap [] ys out = ap (λ (l : List (List ℕ)). out_with l out) (sym (append-nil ys))
out_with_swap (x ∷ xs) ys out =
    ap (λ (o : Out). one_more o AtArm x) (out_with_swap xs ys out ∙ out_with_append ys xs out)
    ∙ sym (out_with_one ys x (out_with xs out)) ∙ sym (out_with_append ys (x ∷ xs) out)

-- Those of some posts are opened, and then those of others at the same path.
pub took_posts : {P A C : Type 0} (path : List ℕ) (xs ys : List (Post P A C)) (a b c : YardSeen) → TookArms (paths_at path xs) a b → TookArms (paths_at path ys) b c → TookArms (paths_at path (xs ++ ys)) a c
took_posts path xs ys a b c p q =
    let all = took_then (paths_at path xs) (paths_at path ys) a b c p q in record {
      same = all.same;
      out = all.out ∙ out_with_swap (paths_at path ys) (paths_at path xs) a.out ∙ ap (λ (l : List (List ℕ)). out_with l a.out) (sym (map-append (λ (post : Post _ _ _). path) xs ys));
      unused = all.unused;
      are_unused = all.are_unused;
      counts = all.counts;
    }

-- What was opened is given back unused.
pub took_back : (paths : List (List ℕ)) (arms : List (List ℕ × ArmSeen)) (a b c : YardSeen) → map (λ (arm : List ℕ × ArmSeen). arm.0) arms ≡ paths → All IsUnused arms → TookArms paths a b → GaveArms arms b c → TookArms [] a c
took_back paths arms a b c are unused p q = record {
  same = same_then a b c p.same q.same;
  out = out_with_cancel paths c.out a.out (ap (λ (l : List (List ℕ)). out_with l c.out) (sym are) ∙ sym q.out ∙ p.out);
  unused = p.unused ++ arms;
  are_unused = All-append IsUnused p.unused arms p.are_unused unused;
  counts = q.counts ∙ ap (counts_with arms) p.counts ∙ sym (counts_append p.unused arms a.counts);
}

-- What was opened, with no other, is given back used.
pub were_used : (paths : List (List ℕ)) (arms : List (List ℕ × ArmSeen)) (a b c : YardSeen) → map (λ (arm : List ℕ × ArmSeen). arm.0) arms ≡ paths → b.counts ≡ a.counts → TookArms paths a b → GaveArms arms b c → WereUsed arms a c
were_used paths arms a b c are counts p q = record {
  same = same_then a b c p.same q.same;
  out = out_with_cancel paths c.out a.out (ap (λ (l : List (List ℕ)). out_with l c.out) (sym are) ∙ sym q.out ∙ p.out);
  counts = q.counts ∙ ap (counts_with arms) counts;
}

pub cause_ok : (old new : YardSeen) → new.faults ≡ old.faults → HasYardCause old new (Ok tt)
cause_ok old new kept = record { failed = λ store is. cc; kept = λ none. kept; willing = λ store willing is. cc }

pub cause_memory : (old new : YardSeen) → new.faults ≡ old.faults → HasYardCause old new (Err NoMemory)
cause_memory old new kept = record { failed = λ store is. cc; kept = λ none. kept; willing = λ store willing is. cc }

pub cause_failed : (old new : YardSeen) (store : ℕ) → Rose old.faults new.faults → (IsTrue old.willing → ⊥) → HasYardCause old new (Err (FailedYard store))
cause_failed old new store rose unwilling = record { failed = λ other is. rose; kept = λ none. absurd (none store refl); willing = λ other willing is. unwilling willing }

pub cause_then : (a b c : YardSeen) (result : Result (Unit {0}) RunFault) → IsSameYard a b → b.faults ≡ a.faults → HasYardCause b c result → HasYardCause a c result
cause_then a b c result same kept q = record {
  failed = λ store is. subst (λ (n : ℕ). Rose n c.faults) kept (q.failed store is);
  kept = λ none. q.kept none ∙ kept;
  willing = λ store willing is. q.willing store (same.willing willing) is;
}

pub cause_before : (a b c : YardSeen) (result : Result (Unit {0}) RunFault) → HasYardCause a b result → c.faults ≡ b.faults → HasYardCause a c result
cause_before a b c result p kept = record {
  failed = λ store is. subst (λ (n : ℕ). Rose a.faults n) (sym kept) (p.failed store is);
  kept = λ none. kept ∙ p.kept none;
  willing = p.willing;
}
