-- The open passes of hands go back, one hand after the other.
use Rattle.std.proofs.Common.{◌≡◌, ◌∙◌, refl, sym, ap, subst, arith, ◌≤◌, List, [], ◌∷◌, ◌++◌, Option, Some}
use Rattle.std.specs.Prelude.{slice_get}
use Rattle.plan_types.specs.declared.plan.Plan.{Plan}
use Rattle.plan_types.specs.declared.store.StorePlan.{StorePlan}
use Rattle.vd_yard.specs.Contents.{told_bytes}
use Rattle.vd_yard.specs.Kept.{keep_at}
use Rattle.vd_yard.specs.Out.{AtPasses, Out, one_more, one_more_here, out_at}
use Rattle.vd_yard.specs.Yard.{GivesBack, YardSeen}
use Rattle.slave_worker.specs.Hands.{HandSeen}
use Rattle.plan_hands.specs.Openings.{PassesBack, data_path, kept_after, passes_out}
use Rattle.plan_hands.specs.Stores.{passes_of, place_of}
use Rattle.plan_hands.proofs.Outs.{kept_append, kept_same, passes_out_append, passes_out_cancel}

-- that the passes of these are out
abbrev pub AreOut : Plan → List HandSeen → Out → Type 0
AreOut plan hands out = (before : Out) × (out ≡ passes_out plan hands before)

module _ (plan : Plan) where
  pub none_back : (a : YardSeen) → PassesBack plan [] a a
  none_back a = record { faults = refl; out = refl; tells = refl; counts = refl; disks = refl; contents = refl; willing = λ w. w; files = λ kind path there. there }

  -- A hand with no open passes gives nothing back.
  pub closed_back : (hand : HandSeen) (a : YardSeen) → passes_of hand ≡ [] → PassesBack plan (hand ∷ []) a a
  closed_back (place, [], book) a none = record { faults = refl; out = refl; tells = refl; counts = refl; disks = refl; contents = refl; willing = λ w. w; files = λ kind path there. there }
  closed_back (place, pass ∷ passes, book) a none = absurd cc

  pub open_back : (hand : HandSeen) (store : StorePlan) (a b : YardSeen) → (passes_of hand ≡ [] → ⊥) → slice_get plan.stores (place_of hand) ≡ Some store → GivesBack AtPasses store.path a b → b.counts ≡ a.counts → b.disks ≡ a.disks
      → b.contents ≡ keep_at a.tells.keeps_contents a.contents store.path (told_bytes (passes_of hand)) → PassesBack plan (hand ∷ []) a b
  open_back (place, [], book) store a b some is back counts disks contents = absurd (some refl)
  open_back (place, pass ∷ passes, book) store a b some is back counts disks contents = record {
    faults = back.faults;
    out = back.out ∙ ap (λ (o : Option StorePlan). one_more b.out AtPasses (data_path o)) (sym is);
    tells = back.tells;
    counts = counts;
    disks = disks;
    contents = contents ∙ ap (λ (o : Option StorePlan). keep_at a.tells.keeps_contents a.contents (data_path o) (told_bytes (pass ∷ passes))) (sym is);
    willing = back.willing;
    files = back.files;
  }

  -- Its passes are out, where it has some.
  pub one_is_out : (hand : HandSeen) (store : StorePlan) (a : YardSeen) → (passes_of hand ≡ [] → ⊥) → slice_get plan.stores (place_of hand) ≡ Some store → AreOut plan (hand ∷ []) a.out → 1 ≤ out_at a.out AtPasses store.path
  one_is_out (place, [], book) store a some is out = absurd (some refl)
  one_is_out (place, pass ∷ passes, book) store a some is out =
      let here = ap (λ (o : Out). out_at o AtPasses store.path) (out.1 ∙ ap (λ (o : Option StorePlan). one_more out.0 AtPasses (data_path o)) is) ∙ one_more_here out.0 AtPasses store.path in
      omega (arith, here)

  back_then : (hands others : List HandSeen) (a b c : YardSeen) → PassesBack plan hands a b → PassesBack plan others b c → PassesBack plan (hands ++ others) a c
  back_then hands others a b c p q = record {
    faults = q.faults ∙ p.faults;
    out = p.out ∙ ap (passes_out plan hands) q.out ∙ sym (passes_out_append plan hands others c.out);
    tells = q.tells ∙ p.tells;
    counts = q.counts ∙ p.counts;
    disks = q.disks ∙ p.disks;
    contents =
        q.contents ∙ kept_same plan a b others b.contents p.tells ∙ ap (kept_after plan a others) p.contents
        ∙ sym (kept_append plan a hands others a.contents);
    willing = λ w. q.willing (p.willing w);
    files = λ kind path there. q.files kind path (p.files kind path there);
  }

  module _ (hands rest : List HandSeen) (hand : HandSeen) (split : hands ≡ rest ++ hand ∷ []) where
    -- But for the last the passes are out.
    pub rest_are_out : (out : Out) → AreOut plan hands out → AreOut plan rest out
    rest_are_out out is =
        (passes_out plan (hand ∷ []) is.0, is.1 ∙ ap (λ (l : List HandSeen). passes_out plan l is.0) split ∙ passes_out_append plan rest (hand ∷ []) is.0)

    -- Once they are back the last's are still out.
    pub last_is_out : (a b : YardSeen) → AreOut plan hands a.out → PassesBack plan rest a b → AreOut plan (hand ∷ []) b.out
    last_is_out a b is back = (
      is.0,
      passes_out_cancel plan rest b.out (passes_out plan (hand ∷ []) is.0)
          (sym back.out ∙ is.1 ∙ ap (λ (l : List HandSeen). passes_out plan l is.0) split ∙ passes_out_append plan rest (hand ∷ []) is.0),
    )

    pub all_back : (a b c : YardSeen) → PassesBack plan rest a b → PassesBack plan (hand ∷ []) b c → PassesBack plan hands a c
    all_back a b c p q = subst (λ (l : List HandSeen). PassesBack plan l a c) (sym split) (back_then rest (hand ∷ []) a b c p q)
