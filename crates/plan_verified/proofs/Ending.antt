-- The end of a verification that stops, once the passes of its first store are back.
use Rattle.std.proofs.Common.{◌≡◌, ℕ, suc, ◌+◌, ◌-◌, ◌^◌, ◌≤◌, min, Bool, true, false, IsTrue, List, [], ◌∷◌, ◌++◌, ◌==◌, cond, take, refl, sym, append_assoc, ◌∙◌, ap, subst, arith, inl, inr, ◌⊎◌}
use Rattle.std.specs.Prelude.{All, unwrap_or, Option, count_by}
use Rattle.std.proofs.lemmas.List.{same_from_push}
use Rattle.std.proofs.lemmas.List.Elements.{All-nil, All-cons, All-head, All-tail}
use Rattle.vd_arm.specs.Arm.{PassSeen}
use Rattle.vd_yard.specs.Contents.{TellFile, file_block, told_bytes}
use Rattle.vd_yard.specs.Counts.{Counts, arm_faults, good_writes, source_faults}
use Rattle.vd_yard.specs.Kept.{Kept, bytes_at, keep_at, keep_at_other, kept_at}
use Rattle.vd_yard.specs.Out.{AtPasses}
use Rattle.vd_yard.specs.Yard.{GivesBack, Tells, YardSeen}
use Rattle.plan_types.specs.declared.store.StorePlan.{StorePlan}
use Rattle.journal_recover.specs.declared.found.Recovered.{Recovered}
use Rattle.recover_run.specs.declared.look.Look.{Look}
use Rattle.recover_run.specs.Looks.{is_corrupt, is_unread}
use Rattle.run_report.specs.declared.status.Status.{Status}
use Rattle.run_report.specs.declared.status.Status.TheVariants as status
use Rattle.run_report.specs.Says.{Printing, Says, says_then}
use Rattle.still_store.proofs.Contents.{blocks_stay}
use Rattle.still_store.specs.Frame.{BlocksStay, Stays}
use Rattle.still_store.specs.Verification.{ArePassesOf, store_text}
use Rattle.still_plan.specs.Frame.{AreApart, CountsStay, HasItsBlocks, IsLeft, IsPathOf, StoresStay}
use Rattle.still_plan.specs.Stores.{AllVerify, StoreStop, StoresEnd, VerifiesAs, all_looks, all_verified, at_store, begun, looks_status, no_data, not_begun, stores_text}
use Rattle.still_plan.proofs.Frames.{Differs, among_first, among_rest, apart_first, counts_same, counts_then, not_among}
use Rattle.still_plan.proofs.Places.{place_later}
use Rattle.still_plan.proofs.Verifications.{HasPath, HavePaths, all_verify_earlier, at_place, have_paths, have_taken, left_by, left_then, passes_earlier, rose_by_earlier, verifies_later}
use Rattle.plan_verified.specs.Stores.{LeavesStore, StoreSeen, is_stop, passes_of}

-- ---- what stays
pub stays_same : (a b : YardSeen) → b ≡ a → Stays a b
stays_same a b e = subst (λ (y : YardSeen). Stays a y) (sym e) (record {
  tells = refl;
  later = omega arith;
  sources = λ path. omega arith;
  arms = λ path. omega arith;
  writes = λ path. omega arith;
  willing = λ w. w;
  files = λ kind path t. t;
})

pub stays_then : (a b c : YardSeen) → Stays a b → Stays b c → Stays a c
stays_then a b c p q = record {
  tells = q.tells ∙ p.tells;
  later = omega (arith, p.later, q.later);
  sources = λ path. omega (arith, p.sources path, q.sources path);
  arms = λ path. omega (arith, p.arms path, q.arms path);
  writes = λ path. omega (arith, p.writes path, q.writes path);
  willing = λ w. q.willing (p.willing w);
  files = λ kind path t. q.files kind path (p.files kind path t);
}

-- Passes that go back change nothing of that.
pub back_stays : (c d : YardSeen) (path : List ℕ) → GivesBack AtPasses path c d → d.counts ≡ c.counts → Stays c d
back_stays c d path b k = record {
  tells = b.tells;
  later = omega (arith, b.faults);
  sources = λ q. let e = ap (λ (n : Counts). source_faults n q) k in omega (arith, e);
  arms = λ q. let e = ap (λ (n : Counts). arm_faults n q) k in omega (arith, e);
  writes = λ q. let e = ap (λ (n : Counts). good_writes n q) k in omega (arith, e);
  willing = b.willing;
  files = b.files;
}

-- ---- the text and status of a verification that stops
stop_not : (unread corrupt : Bool) → IsTrue (is_stop (cond unread (cond corrupt status.Good status.Corrupt) status.Device)) → ⊥
stop_not true true h = cc
stop_not true false h = cc
stop_not false corrupt h = cc

looks_go_on : (looks : List Look) (result : Status) → result ≡ looks_status looks → IsTrue (is_stop result) → ⊥
looks_go_on looks result e h =
    stop_not (count_by is_unread looks == 0) (count_by is_corrupt looks == 0) (subst (λ (s : Status). IsTrue (is_stop s)) e h)

all_along : (b c d : YardSeen) (stores : List StorePlan) (found : List Recovered) (seen : List (List Look)) → d.counts ≡ c.counts → AllVerify b c stores found seen → AllVerify b d stores found seen
all_along b c d [] [] [] k p = tt
all_along b c d (store ∷ stores) (one ∷ found) (looks ∷ seen) k p =
    (verifies_later b c d store one looks (counts_same c d store.path k) p.0, all_along b c d stores found seen k p.1)
all_along b c d [] [] (looks ∷ seen) k p = absurd p
all_along b c d [] (one ∷ found) seen k p = absurd p
all_along b c d (store ∷ stores) [] seen k p = absurd p
all_along b c d (store ∷ stores) (one ∷ found) [] k p = absurd p

stop_along : (a b c d : YardSeen) (store : StorePlan) (found : Recovered) (text : List ℕ) (result : Status) → Stays a b → HasPath a b store.path → d.counts ≡ c.counts → d.faults ≡ c.faults → StoreStop b c store found text result → StoreStop a d store found text result
stop_along a b c d store found text result s h k f (no_data r w n t e) =
    no_data (omega (arith, s.later, f)) (λ x y. w (s.willing x) y) (counts_then a c d store.path (counts_then a b c store.path h.counts n) (counts_same c d store.path k)) t e
stop_along a b c d store found text result s h k f (not_begun t e) = not_begun t e
stop_along a b c d store found text result s h k f (begun n passes looks p g r t e) =
    begun n passes looks (passes_earlier a b store passes h p) g
    (subst (λ (x : Counts). min (arm_faults a.counts store.path + count_by is_unread looks) (2 ^ 64 - 1) ≤ arm_faults x store.path) (sym k) (rose_by_earlier a b c store.path (count_by is_unread looks) h.counts r))
    t e

-- The command stops at a store behind the first, whose passes went back.
end_behind : (a b c d : YardSeen) (store : StorePlan) (found : Recovered) (looks : List Look) (stores : List StorePlan) (more : List Recovered) (text : List ℕ) (result : Status)
    → Stays a b → HavePaths a b stores → ((path : List ℕ) → (path ≡ store.path → ⊥) → IsLeft a b path) → CountsStay b c store.path → VerifiesAs a b store found looks
    → d.counts ≡ c.counts → d.faults ≡ c.faults → ((path : List ℕ) → (path ≡ store.path → ⊥) → kept_at d.contents path ≡ kept_at c.contents path) → IsTrue (is_stop result) → StoresEnd b c stores more text result
    → StoresEnd a d (store ∷ stores) (found ∷ more) (store_text store.id found.entries.items looks ++ text) result
end_behind a b c d store found looks stores more text result s h left w v k f kept stops (all_verified seen all t r) = absurd (looks_go_on (all_looks seen) result r stops)
end_behind a b c d store found looks stores more text result s h left w v k f kept stops (at_store n seen here journal part all is journal_is stop others t) =
    at_store (suc n) (looks ∷ seen) here journal part
    (verifies_later a b d store found looks (counts_then b c d store.path w (counts_same c d store.path k)) v, all_verify_earlier a b d (take n stores) (take n more) seen (have_taken a b stores n h) (all_along b c d (take n stores) (take n more) seen k all))
    (place_later store here stores n is) (place_later found journal more n journal_is)
    (stop_along a b c d here journal part result s (at_place a b stores n here h is) k f stop)
    (λ path other.
    let differs : path ≡ store.path → ⊥ = λ e. other (among_first store (take (suc n) stores) path e) in
    left_then a c d path (left_then a b c path (left path differs) (others path (λ among. other (among_rest store (take (suc n) stores) path among)))) (record { kept = kept path differs; counts = counts_same c d path k }))
    (ap (λ (u : List ℕ). store_text store.id found.entries.items looks ++ u) t ∙ sym (append_assoc (store_text store.id found.entries.items looks) (stores_text (take n stores) (take n more) seen) part))

pub said_behind : (a b c d : YardSeen) (stores : List StorePlan) (founds : List Recovered) (store : StorePlan) (found : Recovered) (rest : List StorePlan) (more : List Recovered) (left : StoreSeen) (first result : Status) (passes : List PassSeen) (p q r : Printing)
    → stores ≡ store ∷ rest → founds ≡ found ∷ more → AreApart stores → Stays a b → BlocksStay store a.contents b.contents → ((x : List ℕ) → (x ≡ store.path → ⊥) → CountsStay a b x) → ((x : List ℕ) → (IsPathOf rest x → ⊥) → CountsStay b c x)
    → GivesBack AtPasses store.path c d → d.counts ≡ c.counts → d.contents ≡ keep_at c.tells.keeps_contents c.contents store.path (told_bytes passes) → IsTrue (is_stop result)
    → (looks : List Look) × LeavesStore a b store found looks left × (first ≡ looks_status looks) × Says p q (store_text store.id found.entries.items looks)
    → (text : List ℕ) × Says q r text × StoresEnd b c rest more text result
    → (text : List ℕ) × Says p r text × StoresEnd a d stores founds text result
said_behind a b c d stores founds store found rest more left first result passes p q r e f apart s stay counts others back k contents stops one u =
    let differ = apart_first store rest (subst AreApart e apart) in
    let kept : (path : List ℕ) → (path ≡ store.path → ⊥) → kept_at d.contents path ≡ kept_at c.contents path = λ path other. ap (λ (x : Kept (List ℕ)). kept_at x path) contents ∙ keep_at_other c.tells.keeps_contents c.contents store.path (told_bytes passes) path other in (
      store_text store.id found.entries.items one.0 ++ u.0,
      says_then p q r _ _ one.3 u.1,
      subst (λ (x : List StorePlan). StoresEnd a d x founds (store_text store.id found.entries.items one.0 ++ u.0) result) (sym e)
          (subst (λ (m : List Recovered). StoresEnd a d (store ∷ rest) m (store_text store.id found.entries.items one.0 ++ u.0) result) (sym f)
          (end_behind a b c d store found one.0 rest more u.0 result s (have_paths a b store rest differ s.tells stay counts) (left_by a b store stay counts) (others store.path (not_among store rest differ))
          (record { passes = passes_of left; theirs = one.1.theirs; looked = one.1.looked; counts = one.1.counts })
          k back.faults kept stops u.2)),
    )

-- ---- what the yard keeps
pub bytes_same : (a b : Kept (List ℕ)) (path : List ℕ) → kept_at b path ≡ kept_at a path → bytes_at b path ≡ bytes_at a path
bytes_same a b path e = ap (λ (o : Option (List ℕ)). unwrap_or o []) e

all_after : (b c d : Kept (List ℕ)) (first : StorePlan) (stores : List StorePlan) → BlocksStay first c d → All (Differs first) stores → All (HasItsBlocks b c) stores → All (HasItsBlocks b d) stores
unfolding Differs
all_after b c d first [] stay apart p = All-nil (HasItsBlocks b d)
all_after b c d first (store ∷ stores) stay apart p =
    All-cons (HasItsBlocks b d) store stores
    (λ block within.
    ap (λ (l : List ℕ). file_block store.id.geometry.block_size block l) (bytes_same c d store.path (stay.others store.path (λ e. All-head (Differs first) store stores apart (sym e))))
    ∙ All-head (HasItsBlocks b c) store stores p block within)
    (all_after b c d first stores stay (All-tail (Differs first) store stores apart) (All-tail (HasItsBlocks b c) store stores p))

-- The others stayed as they were, and then the first did.
pub stores_before : (b c d : Kept (List ℕ)) (first : StorePlan) (stores : List StorePlan) → All (Differs first) stores → StoresStay stores b c → BlocksStay first c d → StoresStay (first ∷ stores) b d
stores_before b c d first stores differ rest stay = record {
  blocks = All-cons (HasItsBlocks b d) first stores
      (λ block within.
      stay.blocks block within
      ∙ ap (λ (l : List ℕ). file_block first.id.geometry.block_size block l) (bytes_same b c first.path (rest.others first.path (not_among first stores differ))))
      (all_after b c d first stores stay differ rest.blocks);
  others = λ path other. stay.others path (λ e. other (among_first first stores path e)) ∙ rest.others path (λ among. other (among_rest first stores path among));
}

-- Passes that were opened from a yard's file came back to a later one that keeps the same there.
pub first_back : (a c : YardSeen) (d : Kept (List ℕ)) (store : StorePlan) (passes : List PassSeen) → c.tells ≡ a.tells → kept_at c.contents store.path ≡ kept_at a.contents store.path → ArePassesOf a store passes → d ≡ keep_at c.tells.keeps_contents c.contents store.path (told_bytes passes) → BlocksStay store c.contents d
first_back a c d store passes tells kept theirs is =
    blocks_stay store c.contents c.contents d c.tells.keeps_contents passes refl is theirs.blocks
    (λ t. subst (λ (l : List ℕ). TellFile store.id.geometry l passes) (sym (bytes_same a.contents c.contents store.path kept)) (theirs.told (subst (λ (x : Tells). IsTrue x.keeps_contents) tells t)))

pub contents_behind : (a b c d : YardSeen) (stores : List StorePlan) (store : StorePlan) (rest : List StorePlan) (passes : List PassSeen) → stores ≡ store ∷ rest → AreApart stores → b.contents ≡ a.contents → Stays a b → Stays b c → ArePassesOf a store passes → StoresStay rest b.contents c.contents
    → d.contents ≡ keep_at c.tells.keeps_contents c.contents store.path (told_bytes passes) → StoresStay stores a.contents d.contents
contents_behind a b c d stores store rest passes e apart same s t theirs stay is =
    let differ = apart_first store rest (subst AreApart e apart) in
    let kept : kept_at c.contents store.path ≡ kept_at a.contents store.path = stay.others store.path (not_among store rest differ) ∙ ap (λ (x : Kept (List ℕ)). kept_at x store.path) same in
    let all : StoresStay (store ∷ rest) b.contents d.contents = stores_before b.contents c.contents d.contents store rest differ stay (first_back a c d.contents store passes (t.tells ∙ s.tells) kept theirs is) in
    subst (λ (x : List StorePlan). StoresStay x a.contents d.contents) (sym e) (subst (λ (x : Kept (List ℕ)). StoresStay (store ∷ rest) x d.contents) same all)

-- ---- a store at which the command stops
early_stop : (result : Status) → (result ≡ status.NoMemory) ⊎ (result ≡ status.Sink) → IsTrue (is_stop result)
early_stop result (inl e) = ap is_stop e
early_stop result (inr e) = ap is_stop e

one_stop : (a c : YardSeen) (store : StorePlan) (found : Recovered) (text : List ℕ) (result : Status) → StoreStop a c store found text result → IsTrue (is_stop result)
one_stop a c store found text result (no_data r w n t s) = ap is_stop s
one_stop a c store found text result (not_begun t s) = early_stop result s
one_stop a c store found text result (begun n passes looks p g r t s) = early_stop result s

pub is_a_stop : (a c : YardSeen) (store : StorePlan) (found : Recovered) (result : Status) (p q : Printing) → (text : List ℕ) × Says p q text × StoreStop a c store found text result → IsTrue (is_stop result)
is_a_stop a c store found result p q v = one_stop a c store found v.0 result v.2

-- ---- the store that was put behind the others, and taken out again
pub popped : {V : Type 0} (before pushed mid now : List V) (one last : V) → pushed ≡ before ++ one ∷ [] → mid ≡ pushed → mid ≡ now ++ last ∷ [] → (now ≡ before) × (last ≡ one)
popped before pushed mid now one last p m q = same_from_push now before last one (sym q ∙ (m ∙ p))

pub kept_popped : {V : Type 0} (seen_of : V → StoreSeen) (one last : V) (tells : Bool) (kept now : Kept (List ℕ)) (path : List ℕ) → last ≡ one → now ≡ keep_at tells kept path (told_bytes (passes_of (seen_of last))) → now ≡ keep_at tells kept path (told_bytes (passes_of (seen_of one)))
kept_popped {V} seen_of one last tells kept now path e is = is ∙ ap (λ (v : V). keep_at tells kept path (told_bytes (passes_of (seen_of v)))) e

-- counts that a return of passes leaves
pub elsewhere_back : (a c d : YardSeen) (stores : List StorePlan) → d.counts ≡ c.counts → ((q : List ℕ) → (IsPathOf stores q → ⊥) → CountsStay a c q) → (q : List ℕ) → (IsPathOf stores q → ⊥) → CountsStay a d q
elsewhere_back a c d stores k counts q other = counts_then a c d q (counts q other) (counts_same c d q k)
