-- The books of a plan's stores follow those from before its runs.
use Rattle.std.proofs.Common.{◌≡◌, ◌∙◌, refl, sym, ap, subst, inl, inr, ℕ, List, [], ◌∷◌, ◌++◌, length, map}
use Rattle.std.specs.List.{AllZip, range_with_len}
use Rattle.std.proofs.lemmas.List.{map-append}
use Rattle.vd_arm.specs.Arm.{PassSeen}
use Rattle.vd_yard.specs.Yard.{YardSeen}
use Rattle.plan_types.specs.declared.plan.Plan.{Plan}
use Rattle.plan_types.specs.declared.run.RunPlan.{RunPlan}
use Rattle.key_state.specs.Books.{Follows, follows_same, follows_then}
use Rattle.key_state.specs.declared.seen.BookSeen.{BookSeen}
use Rattle.slave_worker.specs.Hands.{HandSeen, hand_seen, works_in}
use Rattle.slave_worker.specs.declared.hand.RunAnswer.{RunAnswer}
use Rattle.slave_worker.specs.declared.hand.RunFault.{RunFault}
use Rattle.slave_worker.specs.declared.hand.StoreHand.{StoreHand}
use Rattle.master_run.specs.Crews.{Beginning, RanAll}
use Rattle.master_run.specs.Labors.{Labor}
use Rattle.plan_hands.specs.Openings.{Opened, StopsOpening, not_needed, opened, was_open}
use Rattle.plan_hands.specs.Stores.{book_of, of_run, place_of}
use Rattle.run_report.specs.declared.status.Status.{Status}
use Rattle.plan_journals.specs.Open.{AllFollow}
use Rattle.plan_runs.specs.Stages.{OneRun, RunMade, RunsMade, Stage, made, not_opened, not_started, said_in_part}
use Rattle.plan_runs.proofs.Chosen.{in_step}

-- The book of a hand follows that of another.
abbrev pub BookFollows : HandSeen → HandSeen → Type 0
BookFollows a b = Follows (book_of a) (book_of b)

same_follows : (hand : HandSeen) → BookFollows hand hand
same_follows hand = follows_same (book_of hand)

-- Hands at the same places, whose books follow.
pub record GoOn (before after : List HandSeen) : Type 0 where
  pub places : map place_of after ≡ map place_of before
  pub books : AllZip BookFollows before after

zip_same : (hands : List HandSeen) → AllZip BookFollows hands hands
zip_same [] = tt
zip_same (hand ∷ hands) = (same_follows hand, zip_same hands)

zip_then : (first next last : List HandSeen) → AllZip BookFollows first next → AllZip BookFollows next last → AllZip BookFollows first last
zip_then [] [] [] one two = tt
zip_then [] [] (c ∷ last) one two = absurd two
zip_then [] (b ∷ next) last one two = absurd one
zip_then (a ∷ first) [] last one two = absurd one
zip_then (a ∷ first) (b ∷ next) [] one two = absurd two
zip_then (a ∷ first) (b ∷ next) (c ∷ last) one two = (follows_then (book_of a) (book_of b) (book_of c) one.0 two.0, zip_then first next last one.1 two.1)

zip_append : (xs ys us vs : List HandSeen) → AllZip BookFollows xs ys → AllZip BookFollows us vs → AllZip BookFollows (xs ++ us) (ys ++ vs)
zip_append [] [] us vs one two = two
zip_append [] (y ∷ ys) us vs one two = absurd one
zip_append (x ∷ xs) [] us vs one two = absurd one
zip_append (x ∷ xs) (y ∷ ys) us vs one two = (one.0, zip_append xs ys us vs one.1 two)

pub go_on_same : (hands : List HandSeen) → GoOn hands hands
go_on_same hands = record { places = refl; books = zip_same hands }

go_on_then : (first next last : List HandSeen) → GoOn first next → GoOn next last → GoOn first last
go_on_then first next last one two = record {
  places = two.places ∙ one.places;
  books = zip_then first next last one.books two.books;
}

-- Those of all hands do, as lists.
pub all_follow : (before after : List HandSeen) → AllZip BookFollows before after → AllFollow (map book_of before) (map book_of after)
all_follow [] [] all = tt
all_follow [] (b ∷ after) all = absurd all
all_follow (a ∷ before) [] all = absurd all
all_follow (a ∷ before) (b ∷ after) all = (all.0, all_follow before after all.1)

module _ (plan : Plan) (run : RunPlan) (yard : YardSeen) where
  -- Passes were opened; no book changed.
  opened_one : (a b : HandSeen) → Opened plan run yard a b → (place_of b ≡ place_of a) × BookFollows a b
  opened_one a b (opened works none (store, at, has)) = (has.place, subst (λ (x : BookSeen). Follows (book_of a) x) (sym has.book) (same_follows a))
  opened_one a b (was_open some is) = (ap place_of is, subst (λ (h : HandSeen). BookFollows a h) (sym is) (same_follows a))
  opened_one a b (not_needed works is) = (ap place_of is, subst (λ (h : HandSeen). BookFollows a h) (sym is) (same_follows a))

  opened_all : (before after : List HandSeen) → AllZip (Opened plan run yard) before after → GoOn before after
  opened_all [] [] all = go_on_same []
  opened_all [] (b ∷ after) all = absurd all
  opened_all (a ∷ before) [] all = absurd all
  opened_all (a ∷ before) (b ∷ after) all =
      let one = opened_one a b all.0 in
      let rest = opened_all before after all.1 in
      record {
        places = ap (λ (n : ℕ). n ∷ map place_of after) one.0 ∙ ap (λ (l : List ℕ). place_of a ∷ l) rest.places;
        books = (one.1, rest.books);
      }

  opened_front : (before after : List HandSeen) (why : RunFault) → StopsOpening plan run yard before after why → GoOn before after
  opened_front before after why stops =
      let front = opened_all stops.front stops.now_open stops.each in
      let back : List HandSeen = stops.stops ∷ stops.back in
      let places : map place_of (stops.now_open ++ back) ≡ map place_of (stops.front ++ back) =
      map-append place_of stops.now_open back ∙ ap (λ (l : List ℕ). l ++ map place_of back) front.places ∙ sym (map-append place_of stops.front back) in
      let all : GoOn (stops.front ++ back) (stops.now_open ++ back) = record {
        places = places;
        books = zip_append stops.front stops.now_open back back front.books (zip_same back);
      } in
      subst (λ (l : List HandSeen). GoOn l after) (sym stops.is_before) (subst (λ (l : List HandSeen). GoOn (stops.front ++ back) l) (sym stops.is_after) all)

module _ {P B : Type 0} (pass_seen : P → PassSeen) (book_seen : B → BookSeen) (plan : Plan) where
  module _ (run : RunPlan) where
    -- What comes back of a store's workers follows what went in.
    ran_all : (beginning : Beginning) (hands : List (StoreHand P B)) (crews : List (List Labor)) (backs : List (StoreHand P B)) → RanAll pass_seen book_seen plan run beginning hands crews backs → AllZip BookFollows (map (hand_seen pass_seen book_seen) hands) (map (hand_seen pass_seen book_seen) backs)
    ran_all beginning [] [] [] ran = tt
    ran_all beginning [] [] (back ∷ backs) ran = absurd ran
    ran_all beginning [] (labors ∷ crews) backs ran = absurd ran
    ran_all beginning (hand ∷ hands) [] backs ran = absurd ran
    ran_all beginning (hand ∷ hands) (labors ∷ crews) [] ran = absurd ran
    ran_all beginning (hand ∷ hands) (labors ∷ crews) (back ∷ backs) ran = (ran.0.2.returned.follows, ran_all beginning hands crews backs ran.1)

    run_made : (before after : Stage) (answer : RunAnswer P B) → map place_of before.hands ≡ range_with_len 0 (length plan.stores) → RunMade pass_seen book_seen plan run before after answer → GoOn before.hands after.hands
    run_made before after answer places m =
        let first = opened_all plan run before.yard before.hands m.ready.hands m.is_ready.opened in
        let same : map place_of m.ready.hands ≡ map place_of after.hands = first.places ∙ places ∙ sym m.joins.in_order in
        let ran = ran_all (record { start = m.did.start; clock = after.clock; tells = m.ready.yard.tells }) m.hands m.did.crews answer.hands.items m.did.ran in
        let its : AllZip BookFollows (of_run run m.ready.hands) (of_run run after.hands) =
        subst (λ (l : List HandSeen). AllZip BookFollows l (of_run run after.hands)) m.its (subst (λ (l : List HandSeen). AllZip BookFollows (map (hand_seen pass_seen book_seen) m.hands) l) (sym m.joins.its) ran) in
        go_on_then before.hands m.ready.hands after.hands first (record {
          places = sym same;
          books = in_step (works_in run) BookFollows same_follows m.ready.hands after.hands same its (sym m.joins.others);
        })

    one_run : (before after : Stage) (text : List ℕ) (result : Status) → map place_of before.hands ≡ range_with_len 0 (length plan.stores) → OneRun pass_seen book_seen plan run before after text result → GoOn before.hands after.hands
    one_run before after text result places (made answer m is_text is) = run_made before after answer places m
    one_run before after text result places (said_in_part n answer m is_text is) = run_made before after answer places m
    one_run before after text result places (not_started ready why is_ready none told) =
        subst (λ (l : List HandSeen). GoOn before.hands l) (sym none.hands) (opened_all plan run before.yard before.hands ready.hands is_ready.opened)
    one_run before after text result places (not_opened why stops told) = opened_front plan run before.yard before.hands after.hands why stops.stops

  -- So they do over all runs.
  pub runs_go_on : (runs : List RunPlan) (before after : Stage) (text : List ℕ) (result : Status) → map place_of before.hands ≡ range_with_len 0 (length plan.stores) → RunsMade pass_seen book_seen plan runs before after text result → GoOn before.hands after.hands
  runs_go_on [] before after text result places (same, is_text, is) = subst (λ (s : Stage). GoOn before.hands s.hands) (sym same) (go_on_same before.hands)
  runs_go_on (run ∷ runs) before after text result places (inl (limit, same, is_text, is)) = subst (λ (s : Stage). GoOn before.hands s.hands) (sym same) (go_on_same before.hands)
  runs_go_on (run ∷ runs) before after text result places (inr (inl (few, says, last))) = one_run run before after text result places says.one
  runs_go_on (run ∷ runs) before after text result places (inr (inr (few, between, first, rest, one, others, says, last, more, is_text, is))) =
      let now = one_run run before between first one places says.one in
      go_on_then before.hands between.hands after.hands now (runs_go_on runs between after rest others (now.places ∙ places) more)

  pub books_follow : (before after : Stage) (text : List ℕ) (result : Status) → map place_of before.hands ≡ range_with_len 0 (length plan.stores) → RunsMade pass_seen book_seen plan plan.runs before after text result → AllFollow (map book_of before.hands) (map book_of after.hands)
  books_follow before after text result places all = all_follow before.hands after.hands (runs_go_on plan.runs before after text result places all).books
