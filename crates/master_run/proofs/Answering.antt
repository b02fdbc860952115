-- What follows for a run from how its crews were made, worked and were closed.
use Rattle.std.proofs.Common.{◌≡◌, ◌∙◌, sym, ap, subst, arith, ℕ, ◌+◌, ◌<◌, ◌≤◌, All, List, [], ◌++◌, length, length-append, map, OnErr, OnOk, Result, Ok, Err, reverse, sum_by}
use Rattle.std.specs.List.{AllZip}
use Rattle.std.specs.Vec.{vec_capacity}
use Rattle.std.proofs.lemmas.List.{length-map, length-reverse}
use Rattle.vd_outside.specs.Clocks.{ClockSeen, Looked}
use Rattle.vd_arm.specs.Arm.{ArmSeen, PassSeen}
use Rattle.plan_types.specs.declared.plan.Plan.{Plan}
use Rattle.plan_types.specs.declared.run.RunPlan.{RunPlan}
use Rattle.vd_yard.specs.Yard.{YardSeen}
use Rattle.key_state.specs.declared.seen.BookSeen.{BookSeen}
use Rattle.error_limit.specs.Seats.{IsNew as IsNewErrorSeat, IsSeatOf as IsErrorSeatOf, Lasts, before_of, notes_of}
use Rattle.error_limit.specs.declared.word.ErrorSeat.{ErrorSeat}
use Rattle.error_limit.specs.declared.word.ErrorWord.{ErrorWord}
use Rattle.slave_worker.specs.declared.hand.RunAnswer.{RunAnswer}
use Rattle.slave_worker.specs.declared.hand.RunFault.{RunFault}
use Rattle.slave_worker.specs.declared.hand.StoreHand.{StoreHand}
use Rattle.master_run.specs.Crews.{DidRun, RanAll}
use Rattle.slave_worker.specs.Hands.{AreHands, IsRunOf}
use Rattle.master_run.specs.Labors.{Labor}
use Rattle.master_run.specs.Musters.{Mustered}
use Rattle.master_run.specs.Posts.{CanClose, CanDismiss, CanWork, Closed, HasLeft, HasRoom, Works, all_arms, all_paths, posts_of}
use Rattle.master_run.specs.Yards.{AreOut, GaveArms, TookArms, WereUsed}
use Rattle.master_run.specs.declared.crew.Crew.{Crew}
use Rattle.master_run.specs.declared.crew.Left.{Left}
use Rattle.master_run.specs.declared.post.Post.{Post}
use Rattle.master_run.proofs.Ending.{CrewOf, EndedOf, MannedOf, can_close, can_dismiss, can_work, crews_workers, end_crews, ended_crews, hands_paths, hands_workers, manned_crews, places_within, same_many, all_turned, zip_many}
use Rattle.master_run.proofs.Opening.{were_used}
use Rattle.master_run.proofs.Refusing.{crews_paths}
use Rattle.master_run.proofs.Reversed.{no_items}
use Rattle.master_run.proofs.Telling.{crews_arms, labors_of, last_are, notes_are, ran_all, seats_all, told}

pub on_err_any : {E : Type 0} (result : Result (Unit {0}) E) (P : Type 0) → P → OnErr result P
on_err_any (Ok done) P is = tt
on_err_any (Err fault) P is = is

module _ {P B A C : Type 0} (pass_seen : P → PassSeen) (book_seen : B → BookSeen) (arm_seen : A → ArmSeen) (plan : Plan) (run : RunPlan) (word : ErrorWord) (yard middle : YardSeen) (hands left : List (StoreHand P B)) (none crews : List (Crew P B A C)) (seats seats_left : List ErrorSeat) (result : Result (Unit {0}) RunFault)
    (mustered : Mustered pass_seen book_seen arm_seen plan run yard middle hands left none crews seats seats_left result)
    (empty : none ≡ [])
    (new : All (IsNewErrorSeat word) seats) where
  crews_are : crews ≡ mustered.more
  crews_are = mustered.crews ∙ ap (λ (l : List (Crew P B A C)). l ++ mustered.more) empty

  -- The crews that were made are manned, their arms are out, and they can be undone.
  pub manned_are : AllZip (MannedOf pass_seen book_seen plan run arm_seen word yard.tells) mustered.taken (reverse crews)
  manned_are = subst (λ (l : List (Crew P B A C)). AllZip (MannedOf pass_seen book_seen plan run arm_seen word yard.tells) mustered.taken (reverse l)) (sym crews_are) (mustered.manned word new).0

  pub took_arms : TookArms (all_paths plan (reverse crews)) yard middle
  took_arms = subst (λ (l : List (Crew P B A C)). TookArms (all_paths plan (reverse l)) yard middle) (sym crews_are) (mustered.manned word new).2

  pub all_can_dismiss : All (CanDismiss pass_seen book_seen) crews
  all_can_dismiss = can_dismiss pass_seen book_seen plan run arm_seen word yard.tells mustered.taken crews manned_are

  pub all_can_work : All (CanWork pass_seen book_seen arm_seen plan run word) crews
  all_can_work = can_work pass_seen book_seen plan run arm_seen word yard.tells mustered.taken crews manned_are

  pub all_places : All (λ (crew : Crew P B A C). crew.place < length plan.stores) crews
  all_places =
      all_turned (λ (crew : Crew P B A C). crew.place < length plan.stores) crews
      (places_within pass_seen book_seen plan run mustered.taken (reverse crews) (manned_crews pass_seen book_seen plan run arm_seen word yard.tells mustered.taken (reverse crews) manned_are))

  pub arms_out : AreOut (all_paths plan (reverse crews)) middle
  arms_out = (yard.out, took_arms.out)

  -- There is room for the hands of all crews.
  pub hand_room : length left + length crews ≡ length hands
  hand_room =
      let same = same_many pass_seen book_seen mustered.rest left mustered.same in
      let many = zip_many (MannedOf pass_seen book_seen plan run arm_seen word yard.tells) mustered.taken (reverse crews) manned_are in
      let all = ap length mustered.hands ∙ length-append mustered.rest mustered.taken in
      let turned = length-reverse crews in
      omega (arith, same, many, all, turned)

  -- From here on no hand is left.
  module _ (is : IsRunOf plan run) (are : AreHands pass_seen book_seen plan run hands) (all : left ≡ []) (made : result ≡ Ok tt) (seats_many : length seats ≡ length run.workers) where
    taken_are : hands ≡ mustered.taken
    taken_are =
        let rest : mustered.rest ≡ [] = no_items mustered.rest (sym (same_many pass_seen book_seen mustered.rest left mustered.same) ∙ ap length all) in
        mustered.hands ∙ ap (λ (l : List (StoreHand P B)). l ++ mustered.taken) rest

    all_manned : AllZip (MannedOf pass_seen book_seen plan run arm_seen word yard.tells) hands (reverse crews)
    all_manned = subst (λ (l : List (StoreHand P B)). AllZip (MannedOf pass_seen book_seen plan run arm_seen word yard.tells) l (reverse crews)) (sym taken_are) manned_are

    crews_many : (others : List (Crew P B A C)) → AllZip (CrewOf pass_seen book_seen plan run) hands others → map (λ (post : Post P A C). post.worker) (posts_of others) ≡ run.workers
    crews_many others of = crews_workers pass_seen book_seen plan run hands others of ∙ hands_workers pass_seen book_seen plan run hands is are

    posts_many : (others : List (Crew P B A C)) → AllZip (CrewOf pass_seen book_seen plan run) hands others → length (posts_of others) ≡ length run.workers
    posts_many others of = sym (length-map (posts_of others) (λ (post : Post P A C). post.worker)) ∙ ap length (crews_many others of)

    manned_of : AllZip (CrewOf pass_seen book_seen plan run) hands (reverse crews)
    manned_of = manned_crews pass_seen book_seen plan run arm_seen word yard.tells hands (reverse crews) all_manned

    -- All seats of the word went to workers.
    pub no_seats : seats_left ≡ []
    no_seats =
        let used = subst (λ (r : Result (Unit {0}) RunFault). OnOk r (length seats ≡ length seats_left + length (posts_of (reverse mustered.more)))) made mustered.seats in
        let same = ap (λ (l : List (Crew P B A C)). length (posts_of (reverse l))) crews_are in
        let many = posts_many (reverse crews) manned_of in
        no_items seats_left (omega (arith, used, same, many, seats_many))

    module _ (clock_seen : C → ClockSeen) (start : ℕ) (clock : ClockSeen) (ends : List (Crew P B A C)) (works : AllZip (Works pass_seen book_seen arm_seen plan run word clock_seen start clock) crews ends) where
      ended_are : AllZip (EndedOf pass_seen book_seen plan run arm_seen word yard.tells clock_seen start clock) hands (reverse ends)
      ended_are = end_crews pass_seen book_seen plan run arm_seen word yard.tells clock_seen start clock hands crews ends all_manned works

      ended_of : AllZip (CrewOf pass_seen book_seen plan run) hands (reverse ends)
      ended_of = ended_crews pass_seen book_seen plan run arm_seen word yard.tells clock_seen start clock hands (reverse ends) ended_are

      -- The crews can be closed.
      pub all_can_close : All (CanClose pass_seen book_seen) ends
      all_can_close = can_close pass_seen book_seen plan run arm_seen word yard.tells clock_seen start clock hands ends ended_are

      pub end_places : All (λ (crew : Crew P B A C). crew.place < length plan.stores) ends
      end_places = all_turned (λ (crew : Crew P B A C). crew.place < length plan.stores) ends (places_within pass_seen book_seen plan run hands (reverse ends) ended_of)

      same_paths : all_paths plan (reverse ends) ≡ all_paths plan (reverse crews)
      same_paths = hands_paths pass_seen book_seen plan run hands (reverse ends) ended_of ∙ sym (hands_paths pass_seen book_seen plan run hands (reverse crews) manned_of)

      pub ends_out : AreOut (all_paths plan (reverse ends)) middle
      ends_out = subst (λ (l : List (List ℕ)). AreOut l middle) (sym same_paths) arms_out

      pub ends_many : length (posts_of (reverse ends)) ≡ length run.workers
      ends_many = posts_many (reverse ends) ended_of

      pub ends_room : length left + length ends ≡ length hands
      ends_room = ap (λ (n : ℕ). length left + n) (zip_many (Works pass_seen book_seen arm_seen plan run word clock_seen start clock) crews ends works) ∙ hand_room

      -- There is room for what is left of all workers.
      pub left_room : (rest : Left) → rest.error_seats.items ≡ seats_left → length run.workers ≤ vec_capacity rest.error_seats → rest.tallies.items ≡ [] → length run.workers ≤ vec_capacity rest.tallies → rest.ends.items ≡ [] → length run.workers ≤ vec_capacity rest.ends → HasRoom rest (length (posts_of (reverse ends)))
      left_room rest seats_are seat_room no_tallies tally_room no_ends end_room = record {
        error_seats = omega (arith, ends_many, ap length (seats_are ∙ no_seats), seat_room);
        tallies = omega (arith, ends_many, ap length no_tallies, tally_room);
        ends = omega (arith, ends_many, ap length no_ends, end_room);
      }

      module _ (rest after : Left) (seats_are : rest.error_seats.items ≡ seats_left) (has : HasLeft rest (posts_of (reverse ends)) after) where
        after_seats : after.error_seats.items ≡ map (λ (post : Post P A C). post.error_seat) (posts_of (reverse ends))
        after_seats = has.error_seats ∙ ap (λ (l : List ErrorSeat). l ++ map (λ (post : Post P A C). post.error_seat) (posts_of (reverse ends))) (seats_are ∙ no_seats)

        -- All seats of the word came back.
        pub word_seats : All (IsErrorSeatOf word) after.error_seats.items
        word_seats = subst (All (IsErrorSeatOf word)) (sym after_seats) (seats_all pass_seen book_seen arm_seen clock_seen plan run word yard.tells start clock hands (reverse ends) ended_are)

        pub word_many : length after.error_seats.items ≡ length run.workers
        word_many = ap length after_seats ∙ length-map (posts_of (reverse ends)) (λ (post : Post P A C). post.error_seat) ∙ ends_many

        -- The run did what it promises.
        pub did_run : (errors_before : ℕ) (yard_after : YardSeen) (clock_before : ClockSeen) (answer : RunAnswer P B) → middle.counts ≡ yard.counts → Looked clock_before clock start → before_of word ≡ errors_before → rest.tallies.items ≡ [] → rest.ends.items ≡ []
            → (backs : List (StoreHand P B)) × (answer.hands.items ≡ left ++ backs) × AllZip (Closed pass_seen book_seen) (reverse ends) backs
            → GaveArms (all_arms arm_seen plan (reverse ends)) middle yard_after → answer.tallies.items ≡ after.tallies.items → answer.ends.items ≡ after.ends.items → answer.errors ≡ before_of word + sum_by notes_of after.error_seats.items → All (Lasts answer.errors) after.error_seats.items
            → DidRun pass_seen book_seen plan run errors_before yard yard_after clock_before clock hands answer
        did_run errors_before yard_after clock_before answer counts looked before no_tallies no_ends (backs, backs_are, closed) gave tallies ends_are errors lasts =
            let posts = posts_of (reverse ends) in
            let of_labors = labors_of pass_seen book_seen arm_seen clock_seen plan run word yard.tells start clock in
            let crews_labors = map of_labors (reverse ends) in
            record {
              start = start;
              crews = crews_labors;
              clock = looked;
              ran = subst (λ (l : List (StoreHand P B)). RanAll pass_seen book_seen plan run (record { start = start; clock = clock; tells = yard.tells }) hands crews_labors l) (sym (backs_are ∙ ap (λ (l : List (StoreHand P B)). l ++ backs) all)) (ran_all pass_seen book_seen arm_seen clock_seen plan run word yard.tells start clock hands (reverse ends) backs ended_are closed);
              workers = told pass_seen book_seen arm_seen clock_seen plan run word yard.tells start clock (λ (labor : Labor). labor.worker) (reverse ends) ∙ crews_many (reverse ends) ended_of;
              tallies = tallies ∙ has.tallies ∙ ap (λ (l : List _). l ++ map (λ (post : Post P A C). post.tally) posts) no_tallies ∙ sym (told pass_seen book_seen arm_seen clock_seen plan run word yard.tells start clock (λ (labor : Labor). labor.tally) (reverse ends));
              ends = ends_are ∙ has.ends ∙ ap (λ (l : List _). l ++ map (λ (post : Post P A C). post.end) posts) no_ends ∙ sym (told pass_seen book_seen arm_seen clock_seen plan run word yard.tells start clock (λ (labor : Labor). labor.end) (reverse ends));
              errors = errors ∙ ap (λ (n : ℕ). n + sum_by notes_of after.error_seats.items) before ∙ ap (λ (n : ℕ). errors_before + n) (ap (sum_by notes_of) after_seats ∙ notes_are pass_seen book_seen arm_seen clock_seen plan run word yard.tells start clock (reverse ends));
              last = last_are pass_seen book_seen arm_seen clock_seen plan run word yard.tells start clock answer.errors (reverse ends) (subst (All (Lasts answer.errors)) after_seats lasts);
              yard =
                  let arms = crews_arms pass_seen book_seen arm_seen clock_seen plan run word yard.tells start clock hands (reverse ends) ended_are in
                  subst (λ (l : List (List ℕ × ArmSeen)). WereUsed l yard yard_after) (sym arms)
                  (were_used (all_paths plan (reverse crews)) (all_arms arm_seen plan (reverse ends)) yard middle yard_after (crews_paths arm_seen plan (reverse ends) ∙ same_paths) counts took_arms gave);
            }
