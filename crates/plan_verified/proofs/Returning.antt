-- The passes of stores go back to the yard, from the last on.
use Rattle.std.proofs.Common.{◌≡◌, ℕ, ◌+◌, ◌<◌, ◌≤◌, List, [], ◌∷◌, ◌++◌, length, map, take, get_or, refl, sym, ◌∙◌, ap, subst, arith}
use Rattle.std.proofs.lemmas.List.{length-append, length-map, map-append, take_all, take_more}
use Rattle.vd_yard.specs.Contents.{TellFile, told_bytes}
use Rattle.vd_yard.specs.Kept.{Kept, keep_at}
use Rattle.vd_yard.specs.Out.{AtPasses, Out, one_more, one_more_cancel, one_more_here, out_at}
use Rattle.vd_yard.specs.Yard.{GivesBack, Tells, YardSeen}
use Rattle.plan_types.specs.declared.store.StorePlan.{StorePlan}
use Rattle.still_store.proofs.Contents.{blocks_stay}
use Rattle.still_plan.specs.Frame.{AreApart, StoresStay}
use Rattle.still_plan.proofs.Frames.{apart_first, apart_rest, not_among, stores_same}
use Rattle.plan_verified.specs.Back.{AreTheirs, StoresBack, kept_after}
use Rattle.plan_verified.specs.Stores.{StoreSeen, passes_of, stores_out}
use Rattle.plan_verified.proofs.Ending.{bytes_same, stores_before}
use Rattle.plan_verified.proofs.Outs.{stores_out_append, stores_out_one}

kept_by : (a b : YardSeen) (stores : List StorePlan) (left : List StoreSeen) (kept : Kept (List ℕ)) → b.tells ≡ a.tells → kept_after b stores left kept ≡ kept_after a stores left kept
kept_by a b [] [] kept e = refl
kept_by a b [] (x ∷ left) kept e = refl
kept_by a b (store ∷ stores) [] kept e = refl
kept_by a b (store ∷ stores) (x ∷ left) kept e =
    ap (λ (k : Kept (List ℕ)). keep_at b.tells.keeps_contents k store.path (told_bytes (passes_of x))) (kept_by a b stores left kept e)
    ∙ ap (λ (t : Tells). keep_at t.keeps_contents (kept_after a stores left kept) store.path (told_bytes (passes_of x))) e

kept_append : (a : YardSeen) (stores : List StorePlan) (left : List StoreSeen) (last : StorePlan) (x : StoreSeen) (kept : Kept (List ℕ)) → length left ≡ length stores → kept_after a (stores ++ last ∷ []) (left ++ x ∷ []) kept ≡ kept_after a stores left (keep_at a.tells.keeps_contents kept last.path (told_bytes (passes_of x)))
kept_append a [] [] last x kept e = refl
kept_append a [] (y ∷ left) last x kept e = absurd (omega (arith, e))
kept_append a (store ∷ stores) [] last x kept e = absurd (omega (arith, e))
kept_append a (store ∷ stores) (y ∷ left) last x kept e =
    let same : length left ≡ length stores = omega (arith, e) in
    ap (λ (k : Kept (List ℕ)). keep_at a.tells.keeps_contents k store.path (told_bytes (passes_of y))) (kept_append a stores left last x kept same)

none_here : (a : YardSeen) (left : List StoreSeen) → StoresBack [] left a a
none_here a [] = record { faults = refl; out = refl; tells = refl; counts = refl; disks = refl; contents = refl; willing = λ w. w; files = λ kind path there. there }
none_here a (x ∷ left) = record { faults = refl; out = refl; tells = refl; counts = refl; disks = refl; contents = refl; willing = λ w. w; files = λ kind path there. there }

pub none_back : (a : YardSeen) (stores : List StorePlan) (left : List StoreSeen) → stores ≡ [] → StoresBack stores left a a
none_back a stores left e = subst (λ (s : List StorePlan). StoresBack s left a a) (sym e) (none_here a left)

-- The last went back, and then the others.
back_then : (a b c : YardSeen) (front : List StorePlan) (last : StorePlan) (left : List StoreSeen) (x : StoreSeen) → length left ≡ length front → GivesBack AtPasses last.path a b → b.counts ≡ a.counts → b.disks ≡ a.disks
    → b.contents ≡ keep_at a.tells.keeps_contents a.contents last.path (told_bytes (passes_of x)) → StoresBack front left b c → StoresBack (front ++ last ∷ []) (left ++ x ∷ []) a c
back_then a b c front last left x e back k d contents rest = record {
  faults = rest.faults ∙ back.faults;
  out =
      back.out ∙ (ap (λ (o : Out). one_more o AtPasses last.path) rest.out
      ∙ (sym (stores_out_one front last.path c.out) ∙ sym (stores_out_append front (last ∷ []) c.out)));
  tells = rest.tells ∙ back.tells;
  counts = rest.counts ∙ k;
  disks = rest.disks ∙ d;
  contents =
      rest.contents ∙ (kept_by a b front left b.contents back.tells
      ∙ (ap (kept_after a front left) contents ∙ sym (kept_append a front left last x a.contents e)));
  willing = λ w. rest.willing (back.willing w);
  files = λ kind path there. rest.files kind path (back.files kind path there);
}

-- the last of so many and those before it
pub front_and_last : {X : Type 0} (xs : List X) (n : ℕ) (x : X) → x ≡ get_or xs n x → length xs ≡ n + 1 → xs ≡ take n xs ++ x ∷ []
front_and_last xs n x is many =
    let within : n < length xs = omega (arith, many) in
    sym (take_all (n + 1) xs (omega (arith, many))) ∙ (take_more xs n x within ∙ ap (λ y. take n xs ++ y ∷ []) (sym is))

pub all_back : {V : Type 0} (seen_of : V → StoreSeen) (a b c : YardSeen) (stores front : List StorePlan) (last : StorePlan) (items rest : List V) (x : V) → stores ≡ front ++ last ∷ [] → items ≡ rest ++ x ∷ [] → length items ≡ length stores → GivesBack AtPasses last.path a b → b.counts ≡ a.counts → b.disks ≡ a.disks
    → b.contents ≡ keep_at a.tells.keeps_contents a.contents last.path (told_bytes (passes_of (seen_of x))) → StoresBack front (map seen_of rest) b c → StoresBack stores (map seen_of items) a c
all_back {V} seen_of a b c stores front last items rest x e f many back k d contents back_rest =
    let long : length (map seen_of rest) ≡ length front = omega (arith, many, ap (λ (l : List StorePlan). length l) e, ap (λ (l : List V). length l) f, length-append front (last ∷ []), length-append rest (x ∷ []), length-map rest seen_of) in
    subst (λ (s : List StorePlan). StoresBack s (map seen_of items) a c) (sym e)
    (subst (λ (l : List StoreSeen). StoresBack (front ++ last ∷ []) l a c) (sym (ap (map seen_of) f ∙ map-append seen_of rest (x ∷ [])))
    (back_then a b c front last (map seen_of rest) (seen_of x) long back k d contents back_rest))

-- The last store's passes are out, and once they are back those of the others are.
pub last_out : (stores front : List StorePlan) (last : StorePlan) (out : Out) → stores ≡ front ++ last ∷ [] → (before : Out) × (out ≡ stores_out stores before) → (before : Out) × (out ≡ one_more (stores_out front before) AtPasses last.path)
last_out stores front last out e is = (
  is.0,
  is.1 ∙ (ap (λ (s : List StorePlan). stores_out s is.0) e ∙ (stores_out_append front (last ∷ []) is.0 ∙ stores_out_one front last.path is.0)),
)

pub last_is_out : (stores front : List StorePlan) (last : StorePlan) (out : Out) → stores ≡ front ++ last ∷ [] → (before : Out) × (out ≡ stores_out stores before) → 1 ≤ out_at out AtPasses last.path
last_is_out stores front last out e is =
    let o = last_out stores front last out e is in
    let here = ap (λ (x : Out). out_at x AtPasses last.path) o.1 ∙ one_more_here (stores_out front o.0) AtPasses last.path in
    omega (arith, here)

pub others_out : (a b : YardSeen) (stores front : List StorePlan) (last : StorePlan) → stores ≡ front ++ last ∷ [] → (before : Out) × (a.out ≡ stores_out stores before) → GivesBack AtPasses last.path a b → (before : Out) × (b.out ≡ stores_out front before)
others_out a b stores front last e is back =
    let o = last_out stores front last a.out e is in
    (o.0, one_more_cancel b.out (stores_out front o.0) AtPasses last.path (sym back.out ∙ o.1))

-- ---- passes that come back as they were opened
theirs_stay : (a : YardSeen) (stores : List StorePlan) (left : List StoreSeen) → AreApart stores → AreTheirs a stores left → StoresStay stores a.contents (kept_after a stores left a.contents)
theirs_stay a [] [] apart p = stores_same [] a.contents a.contents refl
theirs_stay a [] (x ∷ left) apart p = absurd p
theirs_stay a (store ∷ stores) [] apart p = absurd p
theirs_stay a (store ∷ stores) (x ∷ left) apart p =
    let differ = apart_first store stores apart in
    let mid : Kept (List ℕ) = kept_after a stores left a.contents in
    let rest = theirs_stay a stores left (apart_rest store stores apart) p.1 in
    let same = bytes_same a.contents mid store.path (rest.others store.path (not_among store stores differ)) in
    stores_before a.contents mid (keep_at a.tells.keeps_contents mid store.path (told_bytes (passes_of x))) store stores differ rest
    (blocks_stay store mid mid (keep_at a.tells.keeps_contents mid store.path (told_bytes (passes_of x))) a.tells.keeps_contents (passes_of x) refl refl p.0.blocks
    (λ t. subst (λ (l : List ℕ). TellFile store.id.geometry l (passes_of x)) (sym same) (p.0.told t)))

pub back_as_opened : (a c : YardSeen) (stores : List StorePlan) (left : List StoreSeen) → StoresBack stores left a c → AreApart stores → AreTheirs a stores left → StoresStay stores a.contents c.contents
back_as_opened a c stores left back apart p = subst (λ (k : Kept (List ℕ)). StoresStay stores a.contents k) (sym back.contents) (theirs_stay a stores left apart p)
