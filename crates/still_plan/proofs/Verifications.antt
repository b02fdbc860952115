-- From what is seen of one store to what is seen of all.
use Rattle.std.proofs.Common.{◌≡◌, ℕ, zero, suc, ◌+◌, ◌-◌, ◌^◌, ◌≤◌, min, Bool, true, false, cond, ◌&&◌, IsTrue, List, [], ◌∷◌, ◌++◌, take, refl, sym, ◌∙◌, ap, subst, arith, rules, append_assoc, inl, inr, ◌⊎◌}
use Rattle.std.specs.Prelude.{All, Some, slice_get, Option, count_by, unwrap_or, ◌==◌}
use Rattle.std.proofs.lemmas.List.Elements.{All-head, All-tail, All-take, All-get_or, All-weaker, All-nil, All-cons}
use Rattle.std.proofs.lemmas.Option.{slice_get_within, get_or_from_slice_get}
use Rattle.vd_outside.specs.Causes.{Rose}
use Rattle.vd_arm.specs.Arm.{PassSeen, Counted}
use Rattle.vd_yard.specs.Kept.{Kept, kept_at, bytes_at}
use Rattle.vd_yard.specs.Contents.{TellFile}
use Rattle.vd_yard.specs.Counts.{arm_faults, good_reads}
use Rattle.vd_yard.specs.Out.{AtArm}
use Rattle.vd_yard.specs.Yard.{YardSeen, Tells}
use Rattle.plan_types.specs.declared.store.StorePlan.{StorePlan}
use Rattle.journal_recover.specs.declared.found.Recovered.{Recovered}
use Rattle.recover_run.specs.declared.look.Look.{Look}
use Rattle.recover_run.proofs.Looking.{count-append}
use Rattle.recover_run.specs.Looks.{AreLooks, is_seen, is_unread, is_corrupt}
use Rattle.run_report.specs.declared.status.Status.{Status}
use Rattle.run_report.specs.declared.status.Status.TheVariants as status
use Rattle.key_state.specs.declared.entry.Entry.{Entry}
use Rattle.run_report.specs.declared.finding.Verified.{Verified}
use Rattle.run_report.specs.Says.{Printing, Says, says_then, says_along, says_none}
use Rattle.still_store.specs.Frame.{BlocksStay, Keeps}
use Rattle.still_store.specs.Verification.{ArePassesOf, CountsRose, RoseBy, store_text, counted_of, counted_status}
use Rattle.still_plan.specs.Frame.{AreApart, CountsStay, IsLeft, IsPathOf, StoresStay}
use Rattle.still_plan.specs.Stores.{PathRose, VerifiesAs, AllVerify, stores_text, looks_status, all_looks, worse, corrupt_behind, StoreStop, no_data, not_begun, begun, StoresEnd, all_verified, at_store}
use Rattle.still_plan.proofs.Places.{place_later}
use Rattle.still_plan.specs.Journals.{AreFit, IsFit}
use Rattle.still_plan.proofs.Sayings.{looks_counted}
use Rattle.still_plan.proofs.Frames.{Differs, apart_first, not_among, among_first, among_rest, counts_then, counts_same, stores_then, stores_same}

-- ---- counts
pub path_rose : (a b : YardSeen) (path : List ℕ) (looks : List Look) → CountsRose a b path looks → PathRose a b path looks
path_rose a b path looks p = record { reads = p.reads; rose = p.rose; kept = λ none. p.kept none path; sure = λ s. p.sure s path }

pub rose_later : (a b c : YardSeen) (path : List ℕ) (looks : List Look) → CountsStay b c path → PathRose a b path looks → PathRose a c path looks
rose_later a b c path looks s p = record {
  reads = subst (λ (n : ℕ). Counted (count_by is_seen looks) (good_reads a.counts path) n) (sym s.reads) p.reads;
  rose = subst (λ (n : ℕ). min (arm_faults a.counts path + count_by is_unread looks) (2 ^ 64 - 1) ≤ n) (sym s.faults) p.rose;
  kept = λ none. s.faults ∙ p.kept none;
  sure = λ t. s.faults ∙ p.sure t;
}

pub rose_by_earlier : (a b c : YardSeen) (path : List ℕ) (n : ℕ) → CountsStay a b path → RoseBy b c path n → RoseBy a c path n
rose_by_earlier a b c path n s p = subst (λ (m : ℕ). min (m + n) (2 ^ 64 - 1) ≤ arm_faults c.counts path) s.faults p

pub rose_earlier : (a b c : YardSeen) (path : List ℕ) (looks : List Look) → b.tells ≡ a.tells → CountsStay a b path → PathRose b c path looks → PathRose a c path looks
rose_earlier a b c path looks t s p = record {
  reads = subst (λ (n : ℕ). Counted (count_by is_seen looks) n (good_reads c.counts path)) s.reads p.reads;
  rose = rose_by_earlier a b c path (count_by is_unread looks) s p.rose;
  kept = λ none. p.kept none ∙ s.faults;
  sure = λ u. p.sure (subst (λ (x : Tells). IsTrue (x.sure AtArm path)) (sym t) u) ∙ s.faults;
}

pub verifies_later : (a b c : YardSeen) (store : StorePlan) (found : Recovered) (looks : List Look) → CountsStay b c store.path → VerifiesAs a b store found looks → VerifiesAs a c store found looks
verifies_later a b c store found looks s p = record { passes = p.passes; theirs = p.theirs; looked = p.looked; counts = rose_later a b c store.path looks s p.counts }

-- ---- a yard that has what an earlier one had at a store's path
pub record HasPath (a b : YardSeen) (path : List ℕ) : Type 0 where
  pub tells : b.tells ≡ a.tells
  pub kept : kept_at b.contents path ≡ kept_at a.contents path
  pub counts : CountsStay a b path

pub passes_earlier : (a b : YardSeen) (store : StorePlan) (passes : List PassSeen) → HasPath a b store.path → ArePassesOf b store passes → ArePassesOf a store passes
passes_earlier a b store passes h p = record {
  blocks = p.blocks;
  told = λ keeps.
      let there : IsTrue b.tells.keeps_contents = subst (λ (s : Tells). IsTrue s.keeps_contents) (sym h.tells) keeps in
      let same : bytes_at b.contents store.path ≡ bytes_at a.contents store.path = ap (λ (o : Option (List ℕ)). unwrap_or o []) h.kept in
      subst (λ (l : List ℕ). TellFile store.id.geometry l passes) same (p.told there);
}

verifies_earlier : (a b c : YardSeen) (store : StorePlan) (found : Recovered) (looks : List Look) → HasPath a b store.path → VerifiesAs b c store found looks → VerifiesAs a c store found looks
verifies_earlier a b c store found looks h p = record {
  passes = p.passes;
  theirs = passes_earlier a b store p.passes h p.theirs;
  looked = p.looked;
  counts = rose_earlier a b c store.path looks h.tells h.counts p.counts;
}

-- the paths of these stores
pub HavePaths : YardSeen → YardSeen → List StorePlan → Type 0
HavePaths a b stores = All (λ store. HasPath a b store.path) stores

pub all_verify_earlier : (a b c : YardSeen) (stores : List StorePlan) (found : List Recovered) (seen : List (List Look)) → HavePaths a b stores → AllVerify b c stores found seen → AllVerify a c stores found seen
unfolding HavePaths
all_verify_earlier a b c [] [] [] h p = tt
all_verify_earlier a b c [] [] (looks ∷ seen) h p = absurd p
all_verify_earlier a b c [] (one ∷ found) seen h p = absurd p
all_verify_earlier a b c (store ∷ stores) [] seen h p = absurd p
all_verify_earlier a b c (store ∷ stores) (one ∷ found) [] h p = absurd p
all_verify_earlier a b c (store ∷ stores) (one ∷ found) (looks ∷ seen) h p =
    (verifies_earlier a b c store one looks (All-head (λ (s : StorePlan). HasPath a b s.path) store stores h) p.0, all_verify_earlier a b c stores found seen (All-tail (λ (s : StorePlan). HasPath a b s.path) store stores h) p.1)

store_stop_earlier : (a b c : YardSeen) (store : StorePlan) (found : Recovered) (text : List ℕ) (result : Status) → Keeps a b → HasPath a b store.path → StoreStop b c store found text result → StoreStop a c store found text result
store_stop_earlier a b c store found text result k h (no_data r w n t s) = no_data (omega (arith, k.later)) (λ x y. w (k.willing x) y) (counts_then a b c store.path h.counts n) t s
store_stop_earlier a b c store found text result k h (not_begun t s) = not_begun t s
store_stop_earlier a b c store found text result k h (begun n passes looks f g r t s) = begun n passes looks (passes_earlier a b store passes h f) g (rose_by_earlier a b c store.path (count_by is_unread looks) h.counts r) t s

-- ---- the status of stores that were verified
sum_none : (m n : ℕ) → (m + n == 0) ≡ ((m == 0) && (n == 0))
sum_none zero n = search rules
sum_none (suc m) n = search rules

abbrev by_none : Bool → Bool → Status
by_none unread corrupt = cond unread (cond corrupt status.Good status.Corrupt) status.Device

both_none : (a b c d : Bool) → by_none (a && b) (c && d) ≡ worse (by_none a c) (by_none b d)
both_none true true true true = refl
both_none true true true false = refl
both_none true true false true = refl
both_none true true false false = refl
both_none true false true true = refl
both_none true false true false = refl
both_none true false false true = refl
both_none true false false false = refl
both_none false true true true = refl
both_none false true true false = refl
both_none false true false true = refl
both_none false true false false = refl
both_none false false true true = refl
both_none false false true false = refl
both_none false false false true = refl
both_none false false false false = refl

count_append : (p : Look → Bool) (xs ys : List Look) → count_by p (xs ++ ys) ≡ count_by p xs + count_by p ys
count_append p xs ys = count-append p xs ys

pub status_more : (looks more : List Look) → looks_status (looks ++ more) ≡ worse (looks_status looks) (looks_status more)
status_more looks more =
    ap (λ (n : ℕ). by_none (n == 0) (count_by is_corrupt (looks ++ more) == 0)) (count_append is_unread looks more)
    ∙ (ap (λ (n : ℕ). by_none (count_by is_unread looks + count_by is_unread more == 0) (n == 0)) (count_append is_corrupt looks more)
    ∙ (ap (λ (u : Bool). by_none u (count_by is_corrupt looks + count_by is_corrupt more == 0)) (sum_none (count_by is_unread looks) (count_by is_unread more))
    ∙ (ap (λ (v : Bool). by_none ((count_by is_unread looks == 0) && (count_by is_unread more == 0)) v) (sum_none (count_by is_corrupt looks) (count_by is_corrupt more))
    ∙ both_none (count_by is_unread looks == 0) (count_by is_unread more == 0) (count_by is_corrupt looks == 0) (count_by is_corrupt more == 0))))

ended_worse : (first result : Status) → (result ≡ status.NoMemory) ⊎ (result ≡ status.Sink) → worse first result ≡ result
ended_worse first result (inl e) = subst (λ (s : Status). worse first s ≡ s) (sym e) refl
ended_worse first result (inr e) = subst (λ (s : Status). worse first s ≡ s) (sym e) refl

stop_worse : (a c : YardSeen) (store : StorePlan) (found : Recovered) (text : List ℕ) (first result : Status) → StoreStop a c store found text result → worse first result ≡ result
stop_worse a c store found text first result (no_data r w n t s) = subst (λ (s : Status). worse first s ≡ s) (sym s) refl
stop_worse a c store found text first result (not_begun t s) = ended_worse first result s
stop_worse a c store found text first result (begun n passes looks f g r t s) = ended_worse first result s

-- ---- one store in front of others
pub left_then : (a b c : YardSeen) (path : List ℕ) → IsLeft a b path → IsLeft b c path → IsLeft a c path
left_then a b c path p q = record { kept = q.kept ∙ p.kept; counts = counts_then a b c path p.counts q.counts }

pub left_by : (a b : YardSeen) (store : StorePlan) → BlocksStay store a.contents b.contents → ((path : List ℕ) → (path ≡ store.path → ⊥) → CountsStay a b path) → (path : List ℕ) → (path ≡ store.path → ⊥) → IsLeft a b path
left_by a b store stay counts path other = record { kept = stay.others path other; counts = counts path other }

pub left_same : (a : YardSeen) (path : List ℕ) → IsLeft a a path
left_same a path = record { kept = refl; counts = counts_same a a path refl }

pub end_here : (a c : YardSeen) (store : StorePlan) (found : Recovered) (stores : List StorePlan) (more : List Recovered) (text : List ℕ) (result : Status) → StoreStop a c store found text result → ((path : List ℕ) → (path ≡ store.path → ⊥) → IsLeft a c path) → StoresEnd a c (store ∷ stores) (found ∷ more) text result
end_here a c store found stores more text result p left =
    at_store 0 [] store found text tt refl refl p (λ path other. left path (λ e. other (among_first store [] path e))) refl

pub end_none : (a c : YardSeen) (stores : List StorePlan) (found : List Recovered) → stores ≡ [] → found ≡ [] → StoresEnd a c stores found [] status.Good
end_none a c stores found e f = subst (λ (s : List StorePlan). StoresEnd a c s found [] status.Good) (sym e) (subst (λ (r : List Recovered). StoresEnd a c [] r [] status.Good) (sym f) (all_verified [] tt refl refl))

pub have_taken : (a b : YardSeen) (stores : List StorePlan) (n : ℕ) → HavePaths a b stores → HavePaths a b (take n stores)
unfolding HavePaths
have_taken a b stores n h = All-take (λ (s : StorePlan). HasPath a b s.path) n stores h

pub at_place : (a b : YardSeen) (stores : List StorePlan) (n : ℕ) (store : StorePlan) → HavePaths a b stores → slice_get stores n ≡ Some store → HasPath a b store.path
unfolding HavePaths
at_place a b stores n store h is =
    let within = slice_get_within stores n store is in
    subst (λ (s : StorePlan). HasPath a b s.path) (get_or_from_slice_get stores n store store is) (All-get_or (λ (s : StorePlan). HasPath a b s.path) stores n store within h)

pub end_there : (a b c : YardSeen) (store : StorePlan) (found : Recovered) (looks : List Look) (stores : List StorePlan) (more : List Recovered) (text : List ℕ) (first rest : Status)
    → Keeps a b → HavePaths a b stores → ((path : List ℕ) → (path ≡ store.path → ⊥) → IsLeft a b path) → CountsStay b c store.path → VerifiesAs a b store found looks → first ≡ looks_status looks → StoresEnd b c stores more text rest
    → StoresEnd a c (store ∷ stores) (found ∷ more) (store_text store.id found.entries.items looks ++ text) (worse first rest)
unfolding HavePaths
end_there a b c store found looks stores more text first rest k h left s v f (all_verified seen all t r) =
    all_verified (looks ∷ seen) (verifies_later a b c store found looks s v, all_verify_earlier a b c stores more seen h all)
    (ap (λ (u : List ℕ). store_text store.id found.entries.items looks ++ u) t)
    (ap (λ (x : Status). worse x rest) f ∙ (ap (λ (x : Status). worse (looks_status looks) x) r ∙ sym (status_more looks (all_looks seen))))
end_there a b c store found looks stores more text first rest k h left s v f (at_store n seen here journal part all is journal_is stop others t) =
    at_store (suc n) (looks ∷ seen) here journal part (verifies_later a b c store found looks s v, all_verify_earlier a b c (take n stores) (take n more) seen (have_taken a b stores n h) all)
    (place_later store here stores n is) (place_later found journal more n journal_is)
    (subst (λ (x : Status). StoreStop a c here journal part x) (sym (stop_worse b c here journal part first rest stop)) (store_stop_earlier a b c here journal part rest k (at_place a b stores n here h is) stop))
    (λ path other. left_then a b c path (left path (λ e. other (among_first store (take (suc n) stores) path e))) (others path (λ among. other (among_rest store (take (suc n) stores) path among))))
    (ap (λ (u : List ℕ). store_text store.id found.entries.items looks ++ u) t ∙ sym (append_assoc (store_text store.id found.entries.items looks) (stores_text (take n stores) (take n more) seen) part))

-- ---- one store
pub verified_one : (a b : YardSeen) (store : StorePlan) (found : Recovered) (es : List Entry) (passes : List PassSeen) (looks : List Look) (counted : Verified) (result : Status) (p q : Printing) → es ≡ found.entries.items → ArePassesOf a store passes → AreLooks store.id es passes looks
    → counted ≡ counted_of es looks → CountsRose a b store.path looks → result ≡ counted_status counted → Says p q (store_text store.id es looks)
    → (looks : List Look) × VerifiesAs a b store found looks × (result ≡ looks_status looks) × Says p q (store_text store.id found.entries.items looks)
verified_one a b store found es passes looks counted result p q e f g c r s t = (
  looks,
  record { passes = passes; theirs = f; looked = subst (λ (x : List Entry). AreLooks store.id x passes looks) e g; counts = path_rose a b store.path looks r },
  s ∙ (ap counted_status c ∙ looks_counted es looks),
  says_along p q _ _ (ap (λ (x : List Entry). store_text store.id x looks) e) t,
)

some_one : (n : ℕ) → (suc n == 0) ≡ false
some_one n = search rules

no_faults : (n : ℕ) (d : Bool) → (cond (n == 0) (cond d status.Good status.Corrupt) status.Device ≡ status.Device → ⊥) → n ≡ 0
no_faults zero d f = refl
no_faults (suc n) d f = absurd (f (ap (λ (b : Bool). cond b (cond d status.Good status.Corrupt) status.Device) (some_one n)))

pub quiet_of : (a b : YardSeen) (es : List Entry) (path : List ℕ) (looks : List Look) (counted : Verified) (result : Status) → counted ≡ counted_of es looks → CountsRose a b path looks → result ≡ counted_status counted → (result ≡ status.Device → ⊥)
    → (q : List ℕ) → arm_faults b.counts q ≡ arm_faults a.counts q
quiet_of a b es path looks counted result c r s n q =
    let same : result ≡ looks_status looks = s ∙ (ap counted_status c ∙ looks_counted es looks) in
    r.kept (no_faults (count_by is_unread looks) (count_by is_corrupt looks == 0) (λ e. n (same ∙ e))) q

-- ---- the answers of a call over stores, by those over the first and over the others
pub have_paths : (a b : YardSeen) (first : StorePlan) (stores : List StorePlan) → All (Differs first) stores → b.tells ≡ a.tells → BlocksStay first a.contents b.contents → ((q : List ℕ) → (q ≡ first.path → ⊥) → CountsStay a b q) → HavePaths a b stores
unfolding HavePaths Differs
have_paths a b first stores apart t stay counts =
    All-weaker (Differs first) (λ (s : StorePlan). HasPath a b s.path)
    (λ s differs. record { tells = t; kept = stay.others s.path (λ e. differs (sym e)); counts = counts s.path (λ e. differs (sym e)) }) stores apart

pub said_more : (a b c : YardSeen) (stores : List StorePlan) (founds : List Recovered) (store : StorePlan) (found : Recovered) (rest : List StorePlan) (more : List Recovered) (first last result : Status) (p q r : Printing) → result ≡ worse first last → stores ≡ store ∷ rest → founds ≡ found ∷ more → AreApart stores
    → Keeps a b → BlocksStay store a.contents b.contents → ((q : List ℕ) → (q ≡ store.path → ⊥) → CountsStay a b q) → ((q : List ℕ) → (IsPathOf rest q → ⊥) → CountsStay b c q)
    → (looks : List Look) × VerifiesAs a b store found looks × (first ≡ looks_status looks) × Says p q (store_text store.id found.entries.items looks)
    → (text : List ℕ) × Says q r text × StoresEnd b c rest more text last
    → (text : List ℕ) × Says p r text × StoresEnd a c stores founds text result
said_more a b c stores founds store found rest more first last result p q r w e f apart k stay counts others one v =
    let differ = apart_first store rest (subst AreApart e apart) in (
      store_text store.id found.entries.items one.0 ++ v.0,
      says_then p q r _ _ one.3 v.1,
      subst (λ (s : List StorePlan). StoresEnd a c s founds (store_text store.id found.entries.items one.0 ++ v.0) result) (sym e)
          (subst (λ (x : Status). StoresEnd a c (store ∷ rest) founds (store_text store.id found.entries.items one.0 ++ v.0) x) (sym w)
          (subst (λ (m : List Recovered). StoresEnd a c (store ∷ rest) m (store_text store.id found.entries.items one.0 ++ v.0) (worse first last)) (sym f)
          (end_there a b c store found one.0 rest more v.0 first last k (have_paths a b store rest differ k.tells stay counts) (left_by a b store stay counts) (others store.path (not_among store rest differ)) one.1 one.2 v.2))),
    )

pub said_stop : (a c : YardSeen) (stores : List StorePlan) (founds : List Recovered) (store : StorePlan) (found : Recovered) (rest : List StorePlan) (more : List Recovered) (result : Status) (p q : Printing) → stores ≡ store ∷ rest → founds ≡ found ∷ more → ((path : List ℕ) → (path ≡ store.path → ⊥) → IsLeft a c path)
    → (text : List ℕ) × Says p q text × StoreStop a c store found text result → (text : List ℕ) × Says p q text × StoresEnd a c stores founds text result
said_stop a c stores founds store found rest more result p q e f left v = (
  v.0,
  v.1,
  subst (λ (s : List StorePlan). StoresEnd a c s founds v.0 result) (sym e) (subst (λ (m : List Recovered). StoresEnd a c (store ∷ rest) m v.0 result) (sym f) (end_here a c store found rest more v.0 result v.2 left)),
)

pub none_found : (found : List Recovered) → AreFit [] found → found ≡ []
none_found [] fit = refl
none_found (one ∷ found) fit = absurd fit

pub said_none : (a : YardSeen) (stores : List StorePlan) (found : List Recovered) (p : Printing) → stores ≡ [] → AreFit stores found → (text : List ℕ) × Says p p text × StoresEnd a a stores found text status.Good
said_none a stores found p e fit = ([], says_none p, end_none a a stores found e (none_found found (subst (λ (s : List StorePlan). AreFit s found) e fit)))

pub none_fit : (stores : List StorePlan) (found : List Recovered) → found ≡ [] → AreFit stores found → stores ≡ []
none_fit [] found e fit = refl
none_fit (store ∷ stores) found e fit = absurd (subst (λ (f : List Recovered). AreFit (store ∷ stores) f) e fit)

pub fit_of : (stores : List StorePlan) (found : List Recovered) (store : StorePlan) (one : Recovered) (rest : List StorePlan) (more : List Recovered) → stores ≡ store ∷ rest → found ≡ one ∷ more → AreFit stores found → IsFit store one × AreFit rest more
fit_of stores found store one rest more e f fit = subst (λ (m : List Recovered). AreFit (store ∷ rest) m) f (subst (λ (s : List StorePlan). AreFit s found) e fit)

pub stays_with : (a b c : Kept (List ℕ)) (stores : List StorePlan) (first : StorePlan) (rest : List StorePlan) → stores ≡ first ∷ rest → AreApart stores → BlocksStay first a b → StoresStay rest b c → StoresStay stores a c
stays_with a b c stores first rest e apart stay more = subst (λ (s : List StorePlan). StoresStay s a c) (sym e) (stores_then a b c first rest (subst AreApart e apart) stay more)

pub stays_alone : (a b : Kept (List ℕ)) (stores : List StorePlan) (first : StorePlan) (rest : List StorePlan) → stores ≡ first ∷ rest → AreApart stores → BlocksStay first a b → StoresStay stores a b
stays_alone a b stores first rest e apart stay = stays_with a b b stores first rest e apart stay (stores_same rest b b refl)

pub elsewhere_with : (a b c : YardSeen) (stores : List StorePlan) (first : StorePlan) (rest : List StorePlan) → stores ≡ first ∷ rest → ((q : List ℕ) → (q ≡ first.path → ⊥) → CountsStay a b q) → ((q : List ℕ) → (IsPathOf rest q → ⊥) → CountsStay b c q)
    → (q : List ℕ) → (IsPathOf stores q → ⊥) → CountsStay a c q
elsewhere_with a b c stores first rest e one more q other =
    let none : IsPathOf (first ∷ rest) q → ⊥ = subst (λ (s : List StorePlan). IsPathOf s q → ⊥) e other in
    counts_then a b c q (one q (λ f. none (among_first first rest q f))) (more q (λ f. none (among_rest first rest q f)))

-- ---- the status of all, by that of the rest
pub last_not : (first last result target : Status) → result ≡ worse first last → worse first target ≡ target → (result ≡ target → ⊥) → last ≡ target → ⊥
last_not first last result target w same n e = n (w ∙ (ap (λ (x : Status). worse first x) e ∙ same))

abbrev is_end : Status → Bool
is_end status.Good = true
is_end status.Corrupt = true
is_end status.Device = true
is_end status.Yard = true
is_end status.Sink = true
is_end status.NoMemory = true
is_end other = false

looks_end : (u c : Bool) → is_end (by_none u c) ≡ true
looks_end true true = refl
looks_end true false = refl
looks_end false c = refl

ended_end : (result : Status) → (result ≡ status.NoMemory) ⊎ (result ≡ status.Sink) → is_end result ≡ true
ended_end result (inl e) = ap is_end e
ended_end result (inr e) = ap is_end e

stop_end : (a c : YardSeen) (store : StorePlan) (found : Recovered) (text : List ℕ) (result : Status) → StoreStop a c store found text result → is_end result ≡ true
stop_end a c store found text result (no_data r w n t s) = ap is_end s
stop_end a c store found text result (not_begun t s) = ended_end result s
stop_end a c store found text result (begun n passes looks f g r t s) = ended_end result s

end_of : (a c : YardSeen) (stores : List StorePlan) (found : List Recovered) (text : List ℕ) (result : Status) → StoresEnd a c stores found text result → is_end result ≡ true
end_of a c stores found text result (all_verified seen all t r) =
    ap is_end r ∙ looks_end (count_by is_unread (all_looks seen) == 0) (count_by is_corrupt (all_looks seen) == 0)
end_of a c stores found text result (at_store n seen store here part all is at stop others t) = stop_end a c store here part result stop

device_first : (first last : Status) → is_end last ≡ true → first ≡ status.Device → (worse first last ≡ status.Device → ⊥) → (last ≡ status.Yard → ⊥) → (last ≡ status.Sink → ⊥) → (last ≡ status.NoMemory → ⊥) → ⊥
device_first first status.Good e d n y s m = n d
device_first first status.Corrupt e d n y s m = n (ap corrupt_behind d)
device_first first status.Device e d n y s m = n refl
device_first first status.Yard e d n y s m = y refl
device_first first status.Sink e d n y s m = s refl
device_first first status.NoMemory e d n y s m = m refl
device_first first status.Parameter e d n y s m = cc
device_first first status.Usage e d n y s m = cc
device_first first status.Source e d n y s m = cc
device_first first status.Journal e d n y s m = cc
device_first first status.NoJournal e d n y s m = cc
device_first first status.Damaged e d n y s m = cc
device_first first status.Mismatch e d n y s m = cc
device_first first status.EpochEnd e d n y s m = cc

pub first_not : (b c : YardSeen) (stores : List StorePlan) (found : List Recovered) (first last result : Status) (p q : Printing) → result ≡ worse first last → (text : List ℕ) × Says p q text × StoresEnd b c stores found text last
    → (result ≡ status.Device → ⊥) → (result ≡ status.Yard → ⊥) → (result ≡ status.Sink → ⊥) → (result ≡ status.NoMemory → ⊥) → first ≡ status.Device → ⊥
first_not b c stores found first last result p q w v nd ny ns nm d =
    device_first first last (end_of b c stores found v.0 last v.2) d (λ e. nd (w ∙ e)) (last_not first last result status.Yard w refl ny) (last_not first last result status.Sink w refl ns) (last_not first last result status.NoMemory w refl nm)

-- ---- a read that failed
rose_by : (a c n : ℕ) → min (a + n) (2 ^ 64 - 1) ≤ c → 1 ≤ n → Rose a c
rose_by a c n p some = omega arith

either_some : (m n : ℕ) → 1 ≤ m + n → (1 ≤ m) ⊎ (1 ≤ n)
either_some zero n some = inr (omega arith)
either_some (suc m) n some = inl (omega arith)

failed_read : (a c : YardSeen) (stores : List StorePlan) (found : List Recovered) (seen : List (List Look)) → AllVerify a c stores found seen → 1 ≤ count_by is_unread (all_looks seen)
    → (path : List ℕ) × IsPathOf stores path × Rose (arm_faults a.counts path) (arm_faults c.counts path)
failed_read a c [] [] [] all some = absurd (omega (arith, some))
failed_read a c [] [] (looks ∷ seen) all some = absurd all
failed_read a c [] (one ∷ found) seen all some = absurd all
failed_read a c (store ∷ stores) [] seen all some = absurd all
failed_read a c (store ∷ stores) (one ∷ found) [] all some = absurd all
failed_read a c (store ∷ stores) (one ∷ found) (looks ∷ seen) all some =
    elim (either_some (count_by is_unread looks) (count_by is_unread (all_looks seen)) (subst (λ (n : ℕ). 1 ≤ n) (count_append is_unread looks (all_looks seen)) some)) [
      | inl here ↦ (store.path, among_first store stores store.path refl, rose_by (arm_faults a.counts store.path) (arm_faults c.counts store.path) (count_by is_unread looks) all.0.counts.rose here)
      | inr there ↦
          let rest = failed_read a c stores found seen all.1 there in
          (rest.0, among_rest store stores rest.0 rest.1, rest.2)
    ]

some_unread : (n : ℕ) (c : Bool) → by_none (n == 0) c ≡ status.Device → 1 ≤ n
some_unread zero true e = absurd (let f : status.Good ≡ status.Device = e in cc)
some_unread zero false e = absurd (let f : status.Corrupt ≡ status.Device = e in cc)
some_unread (suc n) c e = omega arith

early_no_device : (result : Status) → (result ≡ status.NoMemory) ⊎ (result ≡ status.Sink) → result ≡ status.Device → ⊥
early_no_device result (inl s) e = (let f : status.NoMemory ≡ status.Device = sym s ∙ e in cc)
early_no_device result (inr s) e = (let f : status.Sink ≡ status.Device = sym s ∙ e in cc)

stop_no_device : (a c : YardSeen) (store : StorePlan) (found : Recovered) (text : List ℕ) (result : Status) → StoreStop a c store found text result → result ≡ status.Device → ⊥
stop_no_device a c store found text result (no_data r w n t s) e = (let f : status.Yard ≡ status.Device = sym s ∙ e in cc)
stop_no_device a c store found text result (not_begun t s) e = early_no_device result s e
stop_no_device a c store found text result (begun n passes looks f g r t s) e = early_no_device result s e

pub device_of : (a c : YardSeen) (stores : List StorePlan) (found : List Recovered) (text : List ℕ) (result : Status) → StoresEnd a c stores found text result → result ≡ status.Device
    → (path : List ℕ) × IsPathOf stores path × Rose (arm_faults a.counts path) (arm_faults c.counts path)
device_of a c stores found text result (all_verified seen all t r) e =
    failed_read a c stores found seen all (some_unread (count_by is_unread (all_looks seen)) (count_by is_corrupt (all_looks seen) == 0) (sym r ∙ e))
device_of a c stores found text result (at_store n seen store here part all is at stop others t) e = absurd (stop_no_device a c store here part result stop e)

-- ---- what is found from a later yard on, by what was there before
pub paths_same : (a b : YardSeen) (stores : List StorePlan) → b.tells ≡ a.tells → ((path : List ℕ) → kept_at b.contents path ≡ kept_at a.contents path) → ((path : List ℕ) → CountsStay a b path) → HavePaths a b stores
unfolding HavePaths
paths_same a b [] t k n = All-nil (λ (s : StorePlan). HasPath a b s.path)
paths_same a b (store ∷ stores) t k n =
    All-cons (λ (s : StorePlan). HasPath a b s.path) store stores (record { tells = t; kept = k store.path; counts = n store.path }) (paths_same a b stores t k n)

pub end_before : (a b c : YardSeen) (stores : List StorePlan) (found : List Recovered) (text : List ℕ) (result : Status) → Keeps a b → ((path : List ℕ) → kept_at b.contents path ≡ kept_at a.contents path) → ((path : List ℕ) → CountsStay a b path)
    → StoresEnd b c stores found text result → StoresEnd a c stores found text result
end_before a b c stores found text result k d n (all_verified seen all t r) = all_verified seen (all_verify_earlier a b c stores found seen (paths_same a b stores k.tells d n) all) t r
end_before a b c stores found text result k d n (at_store m seen store here part all is at stop others t) =
    at_store m seen store here part (all_verify_earlier a b c (take m stores) (take m found) seen (paths_same a b (take m stores) k.tells d n) all) is at
    (store_stop_earlier a b c store here part result k (record { tells = k.tells; kept = d store.path; counts = n store.path }) stop)
    (λ path other. left_then a b c path (record { kept = d path; counts = n path }) (others path other)) t

pub end_earlier : (a b c : YardSeen) (stores : List StorePlan) (found : List Recovered) (text : List ℕ) (result : Status) → Keeps a b → b.contents ≡ a.contents → b.counts ≡ a.counts → StoresEnd b c stores found text result → StoresEnd a c stores found text result
end_earlier a b c stores found text result k d n p =
    end_before a b c stores found text result k (λ path. ap (λ (x : Kept (List ℕ)). kept_at x path) d) (λ path. counts_same a b path n) p

-- the statuses of blocks that were verified
none_one_of : (u v : Bool) (other : Status) → by_none u v ≡ other → (status.Good ≡ other → ⊥) → (status.Corrupt ≡ other → ⊥) → (status.Device ≡ other → ⊥) → ⊥
none_one_of true true other e g c d = g e
none_one_of true false other e g c d = c e
none_one_of false v other e g c d = d e

pub looks_one_of : (looks : List Look) (other : Status) → looks_status looks ≡ other → (status.Good ≡ other → ⊥) → (status.Corrupt ≡ other → ⊥) → (status.Device ≡ other → ⊥) → ⊥
looks_one_of looks other e g c d = none_one_of (count_by is_unread looks == 0) (count_by is_corrupt looks == 0) other e g c d
