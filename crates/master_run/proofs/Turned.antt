-- Crews that are undone or closed, from the last of their list on.
use Rattle.std.proofs.Common.{◌≡◌, ◌∙◌, sym, ap, subst, arith, ℕ, ◌+◌, All, List, [], ◌∷◌, ◌++◌, length, length-append, map, reverse, Some, slice_get}
use Rattle.std.specs.List.{AllZip}
use Rattle.std.proofs.lemmas.List.{append-nil, append_assoc, length-map, map-append, reverse-append}
use Rattle.std.proofs.lemmas.List.Elements.{All-pop}
use Rattle.vd_arm.specs.Arm.{ArmSeen}
use Rattle.plan_types.specs.declared.plan.Plan.{Plan}
use Rattle.plan_types.specs.declared.store.StorePlan.{StorePlan}
use Rattle.vd_yard.specs.Yard.{YardSeen}
use Rattle.master_run.specs.Crews.{path_of}
use Rattle.master_run.specs.Yards.{AreOut, GaveArms, out_with}
use Rattle.master_run.specs.Posts.{HasLeft, HasRoom, all_arms, all_paths, arms_at, path_at, paths_at, posts_of}
use Rattle.master_run.specs.declared.crew.Crew.{Crew}
use Rattle.master_run.specs.declared.crew.Left.{Left}
use Rattle.master_run.specs.declared.post.Post.{Post}
use Rattle.master_run.proofs.Arming.{arms_paths, gave_then, out_with_append, out_with_cancel}

pub turned : {A : Type 0} (xs rest : List A) (x : A) → xs ≡ rest ++ x ∷ [] → reverse xs ≡ x ∷ reverse rest
turned xs rest x is = ap reverse is ∙ reverse-append rest (x ∷ [])

pub last_is : {A : Type 0} (P : A → Type 0) (xs rest : List A) (x : A) → xs ≡ rest ++ x ∷ [] → All P xs → P x
last_is P xs rest x is all = (All-pop P xs rest (Some x) is all).1

first_out : (xs ys : List (List ℕ)) (yard : YardSeen) → AreOut (xs ++ ys) yard → AreOut xs yard
first_out xs ys yard are = (out_with ys are.0, are.1 ∙ out_with_append xs ys are.0)

others_out : (xs ys : List (List ℕ)) (arms : List (List ℕ × ArmSeen)) (old new : YardSeen) → map (λ (arm : List ℕ × ArmSeen). arm.0) arms ≡ xs → AreOut (xs ++ ys) old → GaveArms arms old new → AreOut ys new
others_out xs ys arms old new is are gave =
    (are.0, out_with_cancel xs new.out (out_with ys are.0) (ap (λ (l : List (List ℕ)). out_with l new.out) (sym is) ∙ sym gave.out ∙ are.1 ∙ out_with_append xs ys are.0))

-- What comes back, store by store.
pub back_none : {A B : Type 0} (R : A → B → Type 0) (xs : List A) (old : List B) → xs ≡ [] → (backs : List B) × (old ≡ old ++ backs) × AllZip R (reverse xs) backs
back_none R xs old is = ([], sym (append-nil old), subst (λ (l : List _). AllZip R (reverse l) []) (sym is) tt)

pub back_more : {A B : Type 0} (R : A → B → Type 0) (xs rest : List A) (x : A) (old mid new : List B) (y : B) → xs ≡ rest ++ x ∷ [] → mid ≡ old ++ y ∷ [] → R x y → (backs : List B) × (new ≡ mid ++ backs) × AllZip R (reverse rest) backs → (backs : List B) × (new ≡ old ++ backs) × AllZip R (reverse xs) backs
back_more R xs rest x old mid new y is pushed here others = (
  y ∷ others.0,
  others.1 ∙ ap (λ (l : List _). l ++ others.0) pushed ∙ append_assoc old (y ∷ []) others.0,
  subst (λ (l : List _). AllZip R l (y ∷ others.0)) (sym (turned xs rest x is)) (here, others.2),
)

module _ {P B A C : Type 0} (plan : Plan) (crews rest : List (Crew P B A C)) (crew : Crew P B A C) (store : StorePlan) (is : crews ≡ rest ++ crew ∷ []) (at : slice_get plan.stores crew.place ≡ Some store) where
  path_is : path_at plan crew ≡ store.path
  path_is = ap path_of at

  paths_are : all_paths plan (reverse crews) ≡ paths_at store.path crew.posts.items ++ all_paths plan (reverse rest)
  paths_are = ap (all_paths plan) (turned crews rest crew is) ∙ ap (λ (path : List ℕ). paths_at path crew.posts.items ++ all_paths plan (reverse rest)) path_is

  -- The last crew's arms are out, and once they are back those of the others.
  pub crew_out : (yard : YardSeen) → AreOut (all_paths plan (reverse crews)) yard → AreOut (paths_at store.path crew.posts.items) yard
  crew_out yard are = first_out (paths_at store.path crew.posts.items) (all_paths plan (reverse rest)) yard (subst (λ (l : List (List ℕ)). AreOut l yard) paths_are are)

  pub crews_out : (seen : A → ArmSeen) (old new : YardSeen) → AreOut (all_paths plan (reverse crews)) old → GaveArms (arms_at seen store.path crew.posts.items) old new → AreOut (all_paths plan (reverse rest)) new
  crews_out seen old new are gave =
      others_out (paths_at store.path crew.posts.items) (all_paths plan (reverse rest)) (arms_at seen store.path crew.posts.items) old new (arms_paths seen store.path crew.posts.items) (subst (λ (l : List (List ℕ)). AreOut l old) paths_are are) gave

  pub crews_gave : (seen : A → ArmSeen) (a b c : YardSeen) → GaveArms (arms_at seen store.path crew.posts.items) a b → GaveArms (all_arms seen plan (reverse rest)) b c → GaveArms (all_arms seen plan (reverse crews)) a c
  crews_gave seen a b c p q =
      let arms = ap (all_arms seen plan) (turned crews rest crew is) ∙ ap (λ (path : List ℕ). arms_at seen path crew.posts.items ++ all_arms seen plan (reverse rest)) path_is in
      subst (λ (l : List (List ℕ × ArmSeen)). GaveArms l a c) (sym arms) (gave_then (arms_at seen store.path crew.posts.items) (all_arms seen plan (reverse rest)) a b c p q)

  posts_are : posts_of (reverse crews) ≡ crew.posts.items ++ posts_of (reverse rest)
  posts_are = ap posts_of (turned crews rest crew is)

  many_are : length (posts_of (reverse crews)) ≡ length crew.posts.items + length (posts_of (reverse rest))
  many_are = ap length posts_are ∙ length-append crew.posts.items (posts_of (reverse rest))

  -- There is room for what is left of the last crew, and then of the others.
  pub crew_room : (left : Left) → HasRoom left (length (posts_of (reverse crews))) → HasRoom left (length crew.posts.items)
  crew_room left room = record {
    error_seats = omega (arith, many_are, room.error_seats);
    tallies = omega (arith, many_are, room.tallies);
    ends = omega (arith, many_are, room.ends);
  }

  pub crews_room : (old new : Left) → HasRoom old (length (posts_of (reverse crews))) → HasLeft old crew.posts.items new → HasRoom new (length (posts_of (reverse rest)))
  crews_room old new room left = record {
    error_seats =
        let len = ap length left.error_seats ∙ length-append old.error_seats.items (map (λ (post : Post P A C). post.error_seat) crew.posts.items) in
        let own = length-map crew.posts.items (λ (post : Post P A C). post.error_seat) in
        omega (arith, many_are, room.error_seats, len, own, left.error_seat_room);
    tallies =
        let len = ap length left.tallies ∙ length-append old.tallies.items (map (λ (post : Post P A C). post.tally) crew.posts.items) in
        let own = length-map crew.posts.items (λ (post : Post P A C). post.tally) in
        omega (arith, many_are, room.tallies, len, own, left.tally_room);
    ends =
        let len = ap length left.ends ∙ length-append old.ends.items (map (λ (post : Post P A C). post.end) crew.posts.items) in
        let own = length-map crew.posts.items (λ (post : Post P A C). post.end) in
        omega (arith, many_are, room.ends, len, own, left.end_room);
  }

  pub crews_left : (old mid new : Left) → HasLeft old crew.posts.items mid → HasLeft mid (posts_of (reverse rest)) new → HasLeft old (posts_of (reverse crews)) new
  crews_left old mid new p q =
      subst (λ (l : List (Post P A C)). HasLeft old l new) (sym posts_are) (record {
        error_seats = q.error_seats ∙ ap (λ (l : List _). l ++ map (λ (post : Post P A C). post.error_seat) (posts_of (reverse rest))) p.error_seats ∙ append_assoc old.error_seats.items _ _ ∙ ap (λ (l : List _). old.error_seats.items ++ l) (sym (map-append (λ (post : Post P A C). post.error_seat) crew.posts.items (posts_of (reverse rest))));
        tallies = q.tallies ∙ ap (λ (l : List _). l ++ map (λ (post : Post P A C). post.tally) (posts_of (reverse rest))) p.tallies ∙ append_assoc old.tallies.items _ _ ∙ ap (λ (l : List _). old.tallies.items ++ l) (sym (map-append (λ (post : Post P A C). post.tally) crew.posts.items (posts_of (reverse rest))));
        ends = q.ends ∙ ap (λ (l : List _). l ++ map (λ (post : Post P A C). post.end) (posts_of (reverse rest))) p.ends ∙ append_assoc old.ends.items _ _ ∙ ap (λ (l : List _). old.ends.items ++ l) (sym (map-append (λ (post : Post P A C). post.end) crew.posts.items (posts_of (reverse rest))));
        error_seat_room = q.error_seat_room ∙ p.error_seat_room;
        tally_room = q.tally_room ∙ p.tally_room;
        end_room = q.end_room ∙ p.end_room;
      })
