-- Passes that are opened, hand by hand.
use Rattle.std.proofs.Common.{◌≡◌, ◌∙◌, refl, sym, ap, subst, arith, ℕ, ◌<◌, IsTrue, List, [], ◌∷◌, length, Option, Some, Result, Ok, Err, OnOk, IfErr}
use Rattle.std.specs.Prelude.{slice_get}
use Rattle.std.specs.List.{AllZip}
use Rattle.vd_outside.specs.Causes.{Rose}
use Rattle.plan_types.specs.declared.plan.Plan.{Plan}
use Rattle.plan_types.specs.declared.run.RunPlan.{RunPlan}
use Rattle.plan_types.specs.declared.store.StorePlan.{StorePlan}
use Rattle.vd_yard.specs.Contents.{TellFile}
use Rattle.vd_yard.specs.Kept.{Kept, bytes_at}
use Rattle.vd_yard.specs.Out.{AtPasses, Out, one_more}
use Rattle.vd_yard.specs.Yard.{Tells, YardSeen}
use Rattle.slave_worker.specs.Hands.{HandSeen}
use Rattle.slave_worker.specs.declared.hand.StoreHand.{StoreHand}
use Rattle.slave_worker.specs.declared.hand.RunFault.{RunFault}
use Rattle.plan_hands.specs.Openings.{HasOpenCause, IsRefused, Opened, OpensData, StopsOpening, data_path, not_needed, one_out, opened, passes_out, was_open}
use Rattle.plan_hands.specs.Stores.{KeepsHand, passes_of, place_of}
use Rattle.plan_hands.proofs.Outs.{passes_out_one}

-- What follows of a call's Ok, and of its Err.
pub on_ok_then : {T E : Type 0} (A B : Type 0) (r : Result T E) → (A → B) → OnOk r A → OnOk r B
on_ok_then A B (Ok x) more is = more is
on_ok_then A B (Err e) more is = tt

pub if_err_then : {T E : Type 0} (P Q : E → Type 0) (r : Result T E) → ((e : E) → P e → Q e) → IfErr r P → IfErr r Q
if_err_then P Q (Ok x) more is = tt
if_err_then P Q (Err e) more is = more e is

pub data_then : (a b c : YardSeen) → OpensData a b → OpensData b c → OpensData a c
data_then a b c p q = record {
  later = omega (arith, p.later, q.later);
  tells = q.tells ∙ p.tells;
  counts = q.counts ∙ p.counts;
  disks = q.disks ∙ p.disks;
  contents = q.contents ∙ p.contents;
  willing = λ w. q.willing (p.willing w);
  files = λ kind path there. q.files kind path (p.files kind path there);
}

-- Where the first was opened, the rest's cause is the cause.
pub cause_then : (a b c : YardSeen) (result : Result (Unit {0}) RunFault) → HasOpenCause a b (Ok tt) → OpensData a b → HasOpenCause b c result → HasOpenCause a c result
cause_then a b c result p data_kept q =
    let same : b.faults ≡ a.faults = p.quiet (λ store is. cc) in
    record {
      failed = λ store is. subst (λ (n : ℕ). Rose n c.faults) same (q.failed store is);
      quiet = λ not. q.quiet not ∙ same;
      willing = λ store w is. q.willing store (data_kept.willing w) is;
    }

-- Each hand of these keeps what it has.
pub all_same : {P B : Type 0} (hands : List (StoreHand P B)) → AllZip KeepsHand hands hands
all_same [] = tt
all_same (hand ∷ hands) = (record { place = refl; same_book = refl; open_passes = λ some. refl }, all_same hands)

pub first_kept : {P B : Type 0} (hands others news : List (StoreHand P B)) (hand new : StoreHand P B) → hands ≡ hand ∷ others → KeepsHand hand new → AllZip KeepsHand others news → AllZip KeepsHand hands (new ∷ news)
first_kept hands others news hand new split one rest = subst (λ (l : List (StoreHand _ _)). AllZip KeepsHand l (new ∷ news)) (sym split) (one, rest)

module _ (plan : Plan) (run : RunPlan) where
  -- What was opened over the later yard was opened over the earlier one.
  earlier : (a b : YardSeen) (before after : HandSeen) → OpensData a b → Opened plan run b before after → Opened plan run a before after
  earlier a b before after same (opened works none (store, is, has)) =
      opened works none (
        store,
        is,
        record {
          place = has.place;
          book = has.book;
          blocks = has.blocks;
          told = λ keeps.
              subst (λ (k : Kept (List ℕ)). TellFile store.id.geometry (bytes_at k store.path) (passes_of after)) same.contents
              (has.told (subst (λ (t : Tells). IsTrue t.keeps_contents) (sym same.tells) keeps));
        },
      )
  earlier a b before after same (was_open some is) = was_open some is
  earlier a b before after same (not_needed works is) = not_needed works is

  all_earlier : (a b : YardSeen) (before after : List HandSeen) → OpensData a b → AllZip (Opened plan run b) before after → AllZip (Opened plan run a) before after
  all_earlier a b [] [] same all = tt
  all_earlier a b [] (y ∷ after) same all = all
  all_earlier a b (x ∷ before) [] same all = all
  all_earlier a b (x ∷ before) (y ∷ after) same all = (earlier a b x y same all.0, all_earlier a b before after same all.1)

  -- One hand was opened, and then the others.
  pub opened_then : (a b : YardSeen) (hands : List HandSeen) (first : HandSeen) (others news : List HandSeen) (new : HandSeen) → hands ≡ first ∷ others → OpensData a b → Opened plan run a first new → AllZip (Opened plan run b) others news → AllZip (Opened plan run a) hands (new ∷ news)
  opened_then a b hands first others news new split same one rest =
      subst (λ (l : List HandSeen). AllZip (Opened plan run a) l (new ∷ news)) (sym split) (one, all_earlier a b others news same rest)

  pub stops_here : (a : YardSeen) (hands : List HandSeen) (first : HandSeen) (others : List HandSeen) (new : HandSeen) (why : RunFault) → hands ≡ first ∷ others → IsRefused run first why → new ≡ first → StopsOpening plan run a hands (new ∷ others) why
  stops_here a hands first others new why split refused same = record {
    front = [];
    back = others;
    now_open = [];
    stops = first;
    is_before = split;
    is_after = ap (λ (h : HandSeen). h ∷ others) same;
    each = tt;
    refused = refused;
  }

  pub stops_later : (a b : YardSeen) (hands : List HandSeen) (first : HandSeen) (others news : List HandSeen) (new : HandSeen) (why : RunFault) → hands ≡ first ∷ others → OpensData a b → Opened plan run a first new → StopsOpening plan run b others news why → StopsOpening plan run a hands (new ∷ news) why
  stops_later a b hands first others news new why split same one rest = record {
    front = first ∷ rest.front;
    back = rest.back;
    now_open = new ∷ rest.now_open;
    stops = rest.stops;
    is_before = split ∙ ap (λ (l : List HandSeen). first ∷ l) rest.is_before;
    is_after = ap (λ (l : List HandSeen). new ∷ l) rest.is_after;
    each = (one, all_earlier a b rest.front rest.now_open same rest.each);
    refused = rest.refused;
  }

  -- Its passes are out as well.
  pub open_out : (before after : HandSeen) (store : StorePlan) (a b out : Out) → passes_of before ≡ [] → slice_get plan.stores (place_of after) ≡ Some store → length (passes_of after) ≡ store.id.geometry.blocks → 0 < store.id.geometry.blocks
      → b ≡ one_more a AtPasses store.path → a ≡ passes_out plan (before ∷ []) out → b ≡ passes_out plan (after ∷ []) out
  open_out (place, [], book) (there, [], now) store a b out none is many some taken was = absurd (omega (arith, many, some))
  open_out (place, [], book) (there, pass ∷ passes, now) store a b out none is many some taken was =
      taken ∙ ap (λ (o : Out). one_more o AtPasses store.path) was ∙ ap (λ (s : Option StorePlan). one_more out AtPasses (data_path s)) (sym is)
  open_out (place, pass ∷ passes, book) after store a b out none is many some taken was = absurd cc

  pub out_then : (old new : HandSeen) (hands others news : List HandSeen) (a b c : Out) → hands ≡ old ∷ others → ((x : Out) → a ≡ passes_out plan (old ∷ []) x → b ≡ passes_out plan (new ∷ []) x) → ((x : Out) → b ≡ passes_out plan others x → c ≡ passes_out plan news x)
      → (x : Out) → a ≡ passes_out plan hands x → c ≡ passes_out plan (new ∷ news) x
  out_then old new hands others news a b c split one rest x is =
      let path = data_path (slice_get plan.stores (place_of new)) in
      rest (one_out path (passes_of new) x) (one (passes_out plan others x) (is ∙ ap (λ (l : List HandSeen). passes_out plan l x) split) ∙ sym (passes_out_one plan others path (passes_of new) x))
      ∙ passes_out_one plan news path (passes_of new) x

  pub out_here : (old new : HandSeen) (hands others : List HandSeen) (a b : Out) → hands ≡ old ∷ others → ((x : Out) → a ≡ passes_out plan (old ∷ []) x → b ≡ passes_out plan (new ∷ []) x) → (x : Out) → a ≡ passes_out plan hands x → b ≡ passes_out plan (new ∷ others) x
  out_here old new hands others a b split one x is = one (passes_out plan others x) (is ∙ ap (λ (l : List HandSeen). passes_out plan l x) split)
