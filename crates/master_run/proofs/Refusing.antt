-- A run whose workers don't start.
use Rattle.std.proofs.Common.{◌≡◌, ◌∙◌, refl, sym, ap, ℕ, All, List, [], ◌∷◌, ◌++◌, map, reverse}
use Rattle.std.specs.List.{AllZip}
use Rattle.std.proofs.lemmas.List.{map-append, reverse-reverse}
use Rattle.std.proofs.lemmas.List.Elements.{All-append, All-nil, All-weaker}
use Rattle.vd_outside.specs.Clocks.{ClockSeen}
use Rattle.vd_arm.specs.Arm.{ArmSeen, PassSeen}
use Rattle.plan_types.specs.declared.plan.Plan.{Plan}
use Rattle.plan_types.specs.declared.run.RunPlan.{RunPlan}
use Rattle.plan_types.specs.declared.store.StorePlan.{StorePlan}
use Rattle.vd_yard.specs.Out.{AtArm}
use Rattle.vd_yard.specs.Yard.{Tells, YardSeen}
use Rattle.key_state.specs.declared.seen.BookSeen.{BookSeen}
use Rattle.error_limit.specs.declared.word.ErrorWord.{ErrorWord}
use Rattle.slave_worker.specs.declared.hand.RunAnswer.{RunAnswer}
use Rattle.slave_worker.specs.declared.hand.StoreHand.{StoreHand}
use Rattle.master_run.specs.Crews.{AreSameHands, DidNotRun}
use Rattle.slave_worker.specs.Hands.{OfStore, hand_seen}
use Rattle.master_run.specs.Posts.{IsManned, IsReady, IsUndone, all_arms, all_paths, arms_at, path_at}
use Rattle.master_run.specs.Yards.{GaveArms, IsUnused, TookArms, fresh_arm}
use Rattle.master_run.specs.declared.crew.Crew.{Crew}
use Rattle.master_run.specs.declared.post.Post.{Post}
use Rattle.master_run.proofs.Arming.{arms_paths}
use Rattle.master_run.proofs.Crewing.{all_unused}
use Rattle.master_run.proofs.Ending.{crew_over}
use Rattle.master_run.proofs.Reversed.{map_turned}
use Rattle.master_run.proofs.Opening.{took_back}

-- The arms of crews stand at the paths of crews.
pub crews_paths : {P B A C : Type 0} (seen : A → ArmSeen) (plan : Plan) (crews : List (Crew P B A C)) → map (λ (arm : List ℕ × ArmSeen). arm.0) (all_arms seen plan crews) ≡ all_paths plan crews
crews_paths seen plan [] = refl
crews_paths seen plan (crew ∷ crews) =
    map-append (λ (arm : List ℕ × ArmSeen). arm.0) (arms_at seen (path_at plan crew) crew.posts.items) (all_arms seen plan crews)
    ∙ ap (λ (l : List (List ℕ)). l ++ map (λ (arm : List ℕ × ArmSeen). arm.0) (all_arms seen plan crews)) (arms_paths seen (path_at plan crew) crew.posts.items)
    ∙ ap (λ (l : List (List ℕ)). map (λ post. path_at plan crew) crew.posts.items ++ l) (crews_paths seen plan crews)

module _ {P B A C : Type 0} (pass_seen : P → PassSeen) (book_seen : B → BookSeen) (arm_seen : A → ArmSeen) (plan : Plan) (run : RunPlan) (word : ErrorWord) (tells : Tells) where
  abbrev pub Manned : StoreHand P B → Crew P B A C → Type 0
  Manned hand crew = OfStore plan hand.store (λ (store : StorePlan). IsManned pass_seen book_seen arm_seen plan run word tells store hand crew)

  undone_one : (hand : StoreHand P B) (crew : Crew P B A C) (back : StoreHand P B) → Manned hand crew → IsUndone pass_seen book_seen crew back → hand_seen pass_seen book_seen back ≡ hand_seen pass_seen book_seen hand
  undone_one hand crew back (store, at, is) undone = undone store hand (crew_over pass_seen book_seen plan run store hand crew is.is_crew)

  -- What crews give back that are undone is what they were made of.
  undone_all : (hands : List (StoreHand P B)) (crews : List (Crew P B A C)) (backs : List (StoreHand P B)) → AllZip Manned hands crews → AllZip (IsUndone pass_seen book_seen) crews backs → map (hand_seen pass_seen book_seen) backs ≡ map (hand_seen pass_seen book_seen) hands
  undone_all [] [] [] are undone = refl
  undone_all [] [] (back ∷ backs) are undone = absurd undone
  undone_all [] (crew ∷ crews) backs are undone = absurd are
  undone_all (hand ∷ hands) [] backs are undone = absurd are
  undone_all (hand ∷ hands) (crew ∷ crews) [] are undone = absurd undone
  undone_all (hand ∷ hands) (crew ∷ crews) (back ∷ backs) are undone =
      ap (λ (h : _). h ∷ map (hand_seen pass_seen book_seen) backs) (undone_one hand crew back are.0 undone.0)
      ∙ ap (λ (l : List _). hand_seen pass_seen book_seen hand ∷ l) (undone_all hands crews backs are.1 undone.1)

  unused_one : (hand : StoreHand P B) (crew : Crew P B A C) → Manned hand crew → All IsUnused (arms_at arm_seen (path_at plan crew) crew.posts.items)
  unused_one hand crew (store, at, is) =
      all_unused arm_seen (tells.sure AtArm store.path) (path_at plan crew) crew.posts.items
      (All-weaker (IsReady pass_seen book_seen arm_seen plan run hand.store store.id (tells.sure AtArm store.path) word crew.table) (λ (post : Post P A C). arm_seen post.arm ≡ fresh_arm (tells.sure AtArm store.path)) (λ post ready. ready.arm) crew.posts.items is.ready)

  unused_all : (hands : List (StoreHand P B)) (crews : List (Crew P B A C)) → AllZip Manned hands crews → All IsUnused (all_arms arm_seen plan crews)
  unused_all [] [] are = All-nil IsUnused
  unused_all [] (crew ∷ crews) are = absurd are
  unused_all (hand ∷ hands) [] are = absurd are
  unused_all (hand ∷ hands) (crew ∷ crews) are = All-append IsUnused (arms_at arm_seen (path_at plan crew) crew.posts.items) (all_arms arm_seen plan crews) (unused_one hand crew are.0) (unused_all hands crews are.1)

  -- The hands came back as they were, in their order, and the yard has its arms: crews were made from the last of the turned hands on.
  pub did_not : (errors_before : ℕ) (yard middle after : YardSeen) (clock_before clock_after : ClockSeen) (hands rest taken left : List (StoreHand P B)) (crews : List (Crew P B A C)) (answer : RunAnswer P B) → clock_after ≡ clock_before → reverse hands ≡ rest ++ taken → AreSameHands pass_seen book_seen rest left → AllZip Manned taken (reverse crews) → TookArms (all_paths plan (reverse crews)) yard middle
      → (backs : List (StoreHand P B)) × (answer.hands.items ≡ reverse (left ++ backs)) × AllZip (IsUndone pass_seen book_seen) (reverse crews) backs
      → GaveArms (all_arms arm_seen plan (reverse crews)) middle after → answer.tallies.items ≡ [] → answer.ends.items ≡ [] → answer.errors ≡ errors_before → DidNotRun pass_seen book_seen errors_before yard after clock_before clock_after hands answer
  did_not errors_before yard middle after clock_before clock_after hands rest taken left crews answer still are same manned took (backs, is, undone) gave tallies ends errors = record {
    same =
        let seen = hand_seen pass_seen book_seen in
        let all : map seen (left ++ backs) ≡ map seen (reverse hands) =
        map-append seen left backs
        ∙ ap (λ (l : List _). l ++ map seen backs) same
        ∙ ap (λ (l : List _). map seen rest ++ l) (undone_all taken (reverse crews) backs manned undone)
        ∙ sym (map-append seen rest taken) ∙ ap (map seen) (sym are) in
        ap (map seen) is ∙ map_turned seen (left ++ backs) ∙ ap reverse (all ∙ map_turned seen hands) ∙ reverse-reverse (map seen hands);
    tallies = tallies;
    ends = ends;
    errors = errors;
    clock = still;
    yard = took_back (all_paths plan (reverse crews)) (all_arms arm_seen plan (reverse crews)) yard middle after (crews_paths arm_seen plan (reverse crews)) (unused_all taken (reverse crews) manned) took gave;
  }
