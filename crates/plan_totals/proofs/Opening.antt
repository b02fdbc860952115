-- What opening passes does to a plan's hands: the books are as they were, and what is told is what is kept.
use Rattle.std.proofs.Common.{◌≡◌, ◌∙◌, sym, ap, subst, arith, ℕ, ◌<◌, List, [], ◌∷◌, ◌++◌, length, Option, Some, slice_get}
use Rattle.std.specs.List.{AllZip}
use Rattle.std.proofs.lemmas.Option.{same_Some, slice_get_within}
use Rattle.vd_yard.specs.Contents.{file_block, length_file_block}
use Rattle.vd_yard.specs.Counts.{Counts}
use Rattle.vd_yard.specs.Kept.{Kept, bytes_at}
use Rattle.vd_yard.specs.Yard.{YardSeen}
use Rattle.plan_types.specs.Valid.{IsPlan}
use Rattle.plan_types.specs.declared.plan.Plan.{Plan}
use Rattle.plan_types.specs.declared.run.RunPlan.{RunPlan}
use Rattle.plan_types.specs.declared.store.StorePlan.{StorePlan}
use Rattle.key_state.specs.Entries.{entry_at}
use Rattle.key_state.specs.declared.seen.BookSeen.{BookSeen}
use Rattle.block_verdict.specs.Fits.{BytesFit}
use Rattle.slave_worker.specs.Hands.{HandSeen}
use Rattle.slave_worker.specs.declared.hand.RunFault.{RunFault}
use Rattle.plan_hands.specs.Openings.{HasOpened, Opened, StopsOpening, not_needed, opened, was_open}
use Rattle.plan_hands.specs.Stores.{book_of, passes_of, place_of}
use Rattle.plan_runs.proofs.Opened.{some_blocks}
use Rattle.plan_totals.specs.Sentences.{HandFits, TellsFit}
use Rattle.plan_totals.proofs.Moves.{HandMoved, PathStays, hand_none, hand_same}
use Rattle.plan_totals.proofs.Steps.{HandsMoved, KeepsSame, hands_same}
use Rattle.plan_totals.proofs.Zips.{zip_append, zip_as}

module _ (plan : Plan) (valid : IsPlan plan) (contents : Kept (List ℕ)) (keeps : Type 0) (run : RunPlan) (yard : YardSeen) (keeps_same : KeepsSame plan contents keeps yard) where
  opened_fits : (store : StorePlan) (x y : HandSeen) → slice_get plan.stores (place_of x) ≡ Some store → HasOpened yard store x y → keeps → passes_of x ≡ [] → HandFits contents store x → HandFits contents store y
  opened_fits store x y at has tells closed fit = (
    λ block pass is.
        let below : block < store.id.geometry.blocks = omega (arith, slice_get_within (passes_of y) block pass is, has.blocks.as_many) in
        let in_yard : BytesFit store.id block (entry_at (book_of x).now block) (file_block store.id.geometry.block_size block (bytes_at yard.contents store.path)) =
        subst (λ (k : Kept (List ℕ)). BytesFit store.id block (entry_at (book_of x).now block) (file_block store.id.geometry.block_size block (bytes_at k store.path))) (sym keeps_same.same) (fit.1 closed block below) in
        let in_book : BytesFit store.id block (entry_at (book_of y).now block) (file_block store.id.geometry.block_size block (bytes_at yard.contents store.path)) =
        subst (λ (b : BookSeen). BytesFit store.id block (entry_at b.now block) (file_block store.id.geometry.block_size block (bytes_at yard.contents store.path))) (sym has.book) in_yard in
        let whole : length (file_block store.id.geometry.block_size block (bytes_at yard.contents store.path)) ≡ store.id.geometry.block_size = length_file_block store.id.geometry.block_size block (bytes_at yard.contents store.path) in
        subst (λ (o : Option (List ℕ)). TellsFit store.id block (entry_at (book_of y).now block) o) (sym (has.told (keeps_same.tells tells) block pass is)) (whole, in_book),
    λ none. absurd (omega (arith, has.blocks.as_many, some_blocks plan valid (place_of x) store at, ap length none)),
  )

  module _ (well : Type 0) (old new : Counts) (stays : (path : List ℕ) → PathStays old new path) where
    opened_one : (x y : HandSeen) → Opened plan run yard x y → HandMoved plan contents keeps well [] old new x y
    opened_one x y (opened works closed (store, is, has)) =
        hand_none plan contents keeps well old new x y has.place has.book (λ other at.
        let same : store ≡ other = same_Some store other (sym is ∙ at) in
        (stays other.path, λ tells fit. subst (λ (s : StorePlan). HandFits contents s y) same (opened_fits store x y is has tells closed (subst (λ (s : StorePlan). HandFits contents s x) (sym same) fit))))
    opened_one x y (was_open some is) =
        subst (λ (h : HandSeen). HandMoved plan contents keeps well [] old new x h) (sym is) (hand_same plan contents keeps well old new x (λ store at. stays store.path))
    opened_one x y (not_needed works is) =
        subst (λ (h : HandSeen). HandMoved plan contents keeps well [] old new x h) (sym is) (hand_same plan contents keeps well old new x (λ store at. stays store.path))

    pub opened_all : (before after : List HandSeen) → AllZip (Opened plan run yard) before after → HandsMoved plan contents keeps well [] old new before after
    opened_all before after all = zip_as (Opened plan run yard) (HandMoved plan contents keeps well [] old new) opened_one before after all

    pub opened_some : (before after : List HandSeen) (why : RunFault) → StopsOpening plan run yard before after why → HandsMoved plan contents keeps well [] old new before after
    opened_some before after why stops =
        let others : List HandSeen = stops.stops ∷ stops.back in
        subst (λ (l : List HandSeen). HandsMoved plan contents keeps well [] old new l after) (sym stops.is_before)
        (subst (λ (l : List HandSeen). HandsMoved plan contents keeps well [] old new (stops.front ++ others) l) (sym stops.is_after)
        (zip_append (HandMoved plan contents keeps well [] old new) stops.front stops.now_open others others (opened_all stops.front stops.now_open stops.each) (hands_same plan contents keeps well old new others stays)))
