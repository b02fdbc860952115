-- What one look more adds.
use Rattle.std.proofs.Common.{◌≡◌, ℕ, suc, ◌+◌, ◌-◌, ◌%◌, ◌^◌, ◌<◌, ◌≤◌, min, Bool, List, [], ◌∷◌, ◌++◌, length, take, map, get_or, refl, sym, ◌∙◌, ap, subst, arith, rules, append_assoc}
use Rattle.std.specs.Prelude.{count_by, Option, Some, slice_get, cond}
use Rattle.std.specs.Option.{option_map}
use Rattle.std.proofs.lemmas.Option.{slice_get-map, slice_get_read}
use Rattle.std.proofs.lemmas.List.{get_or_read}
use Rattle.vd_base.specs.Geometry.{Shape}
use Rattle.key_state.specs.declared.entry.Entry.TheVariants.{Bad}
use Rattle.key_state.specs.Entries.{IsEntry, AreEntries}
use Rattle.std.proofs.lemmas.List.{take_more, append-nil, get_or-map}
use Rattle.std.proofs.lemmas.List.Sums.{sum_by-append}
use Rattle.vd_base.specs.declared.geometry.StoreId.{StoreId}
use Rattle.key_state.specs.declared.entry.Entry.{Entry}
use Rattle.block_verdict.specs.declared.finding.Finding.{Finding}
use Rattle.vd_arm.specs.Arm.{PassSeen, ArmSeen}
use Rattle.recover_run.specs.declared.look.Look.{Look}
use Rattle.recover_run.specs.Looks.{AreLooks, LooksAt, findings_from, block_findings, settled_from, settled_look, is_seen, is_unread}
use Rattle.recover_run.specs.Part.{ArePart, Called, Verifies}

-- two lists of looks one behind the other
pub looks_append : (id : StoreId) (entries more_entries : List Entry) (passes more_passes : List PassSeen) (looks more : List Look) → AreLooks id entries passes looks → AreLooks id more_entries more_passes more → AreLooks id (entries ++ more_entries) (passes ++ more_passes) (looks ++ more)
unfolding AreLooks
looks_append id [] es [] ps [] ls p q = q
looks_append id (e ∷ entries) es (x ∷ passes) ps (l ∷ looks) ls p q = (p.0, looks_append id entries es passes ps looks ls p.1 q)
looks_append id [] es [] ps (l ∷ looks) ls p q = absurd p
looks_append id [] es (x ∷ passes) ps looks ls p q = absurd p
looks_append id (e ∷ entries) es [] ps looks ls p q = absurd p
looks_append id (e ∷ entries) es (x ∷ passes) ps [] ls p q = absurd p

one_look : (id : StoreId) (known : Entry) (pass : PassSeen) (look : Look) → LooksAt id pass known look → AreLooks id (known ∷ []) (pass ∷ []) (look ∷ [])
unfolding AreLooks
one_look id known pass look p = (p, tt)

pub no_looks : (id : StoreId) → AreLooks id [] [] []
unfolding AreLooks
no_looks id = tt

pub looks_as_many : (id : StoreId) (entries : List Entry) (passes : List PassSeen) (looks : List Look) → AreLooks id entries passes looks → length looks ≡ length entries
unfolding AreLooks
looks_as_many id [] [] [] p = refl
looks_as_many id (e ∷ entries) (x ∷ passes) (l ∷ looks) p = ap suc (looks_as_many id entries passes looks p.1)
looks_as_many id [] [] (l ∷ looks) p = absurd p
looks_as_many id [] (x ∷ passes) looks p = absurd p
looks_as_many id (e ∷ entries) [] looks p = absurd p
looks_as_many id (e ∷ entries) (x ∷ passes) [] p = absurd p

pub findings_append : (first : ℕ) (entries more_entries : List Entry) (looks more : List Look) → length looks ≡ length entries → findings_from first (entries ++ more_entries) (looks ++ more) ≡ findings_from first entries looks ++ findings_from (first + length entries) more_entries more
unfolding findings_from
findings_append first [] es [] ls e =
    let here : first ≡ first + 0 = omega arith in
    ap (λ n. findings_from n es ls) here
findings_append first (k ∷ entries) es (l ∷ looks) ls e =
    let there : first + 1 + length entries ≡ first + suc (length entries) = omega arith in
    let same : length looks ≡ length entries = omega (arith, e) in
    ap (λ r. block_findings (record { 0 = first }) k l ++ r) (findings_append (first + 1) entries es looks ls same ∙ ap (λ n. findings_from (first + 1) entries looks ++ findings_from n es ls) there)
    ∙ sym (append_assoc (block_findings (record { 0 = first }) k l) (findings_from (first + 1) entries looks) (findings_from (first + suc (length entries)) es ls))
findings_append first [] es (l ∷ looks) ls e = absurd (omega (arith, e))
findings_append first (k ∷ entries) es [] ls e = absurd (omega (arith, e))

pub findings_one : (number : ℕ) (known : Entry) (look : Look) → findings_from number (known ∷ []) (look ∷ []) ≡ block_findings (record { 0 = number }) known look
unfolding findings_from
findings_one number known look = append-nil (block_findings (record { 0 = number }) known look)

pub no_findings : (first : ℕ) (entries : List Entry) → findings_from first entries [] ≡ []
unfolding findings_from
no_findings first [] = refl
no_findings first (k ∷ entries) = refl

pub settled_append : (entries more_entries : List Entry) (looks more : List Look) → length looks ≡ length entries → settled_from (entries ++ more_entries) (looks ++ more) ≡ settled_from entries looks ++ settled_from more_entries more
unfolding settled_from
settled_append [] es [] ls e = refl
settled_append (k ∷ entries) es (l ∷ looks) ls e =
    let same : length looks ≡ length entries = omega (arith, e) in
    ap (λ r. settled_look k l ∷ r) (settled_append entries es looks ls same)
settled_append [] es (l ∷ looks) ls e = absurd (omega (arith, e))
settled_append (k ∷ entries) es [] ls e = absurd (omega (arith, e))

settled_one : (known : Entry) (look : Look) → settled_from (known ∷ []) (look ∷ []) ≡ settled_look known look ∷ []
unfolding settled_from
settled_one known look = refl

no_settled : settled_from [] [] ≡ []
unfolding settled_from
no_settled = refl

pub count-append : (p : Look → Bool) (looks more : List Look) → count_by p (looks ++ more) ≡ count_by p looks + count_by p more
count-append p looks more = sum_by-append (λ x. cond (p x) 1 0) looks more

pub called_none : (arm : ArmSeen) → Called [] arm arm
called_none arm = record {
  reads = omega arith;
  writes = refl;
  later = omega arith;
  rose = omega arith;
  kept = λ e. refl;
  sure = λ e. e;
  still = λ e. refl;
}

added_up : (a b c m n k : ℕ) → b % 2 ^ 64 ≡ (a + m) % 2 ^ 64 → c % 2 ^ 64 ≡ (b + n) % 2 ^ 64 → k ≡ m + n → c % 2 ^ 64 ≡ (a + k) % 2 ^ 64
added_up a b c m n k p q e = omega arith

rose_twice : (a b c m n k : ℕ) → min (a + m) (2 ^ 64 - 1) ≤ b → min (b + n) (2 ^ 64 - 1) ≤ c → b ≤ c → k ≡ m + n → min (a + k) (2 ^ 64 - 1) ≤ c
rose_twice a b c m n k p q r e = omega arith

none_of_both : (m n k : ℕ) → k ≡ 0 → k ≡ m + n → (m ≡ 0) × (n ≡ 0)
none_of_both m n k z e = (omega arith, omega arith)

pub called_then : (looks more : List Look) (a b c : ArmSeen) → Called looks a b → Called more b c → Called (looks ++ more) a c
called_then looks more a b c p q = record {
  reads = added_up a.good_reads b.good_reads c.good_reads (count_by is_seen looks) (count_by is_seen more) _ p.reads q.reads (count-append is_seen looks more);
  writes = q.writes ∙ p.writes;
  later = omega (arith, p.later, q.later);
  rose = rose_twice a.faults b.faults c.faults (count_by is_unread looks) (count_by is_unread more) _ p.rose q.rose q.later (count-append is_unread looks more);
  kept = λ z. let both = none_of_both (count_by is_unread looks) (count_by is_unread more) _ z (count-append is_unread looks more) in q.kept both.1 ∙ p.kept both.0;
  sure = λ s. q.sure (p.sure s);
  still = λ s. q.still (p.sure s) ∙ p.still s;
}

-- one part of a store behind another
pub verifies_then : (id : StoreId) (first : ℕ) (entries more_entries : List Entry) (passes more_passes : List PassSeen) (looks more : List Look) (f g h : List Finding) (s t u : List Entry) (m n : ℕ) → Verifies id first entries passes looks f g s t m → Verifies id (first + length entries) more_entries more_passes more g h t u n → Verifies id first (entries ++ more_entries) (passes ++ more_passes) (looks ++ more) f h s u (m + n)
verifies_then id first entries es passes ps looks ls f g h s t u m n p q =
    let same = looks_as_many id entries passes looks p.looked in record {
      looked = looks_append id entries es passes ps looks ls p.looked q.looked;
      found = q.found ∙ (ap (λ r. r ++ findings_from (first + length entries) es ls) p.found ∙ (append_assoc f (findings_from first entries looks) (findings_from (first + length entries) es ls) ∙ ap (λ r. f ++ r) (sym (findings_append first entries es looks ls same))));
      settled = q.settled ∙ (ap (λ r. r ++ settled_from es ls) p.settled ∙ (append_assoc s (settled_from entries looks) (settled_from es ls) ∙ ap (λ r. s ++ r) (sym (settled_append entries es looks ls same))));
      counted = ap (λ x. x + n) p.counted ∙ (ap (λ x. count_by is_seen looks + x) q.counted ∙ sym (count-append is_seen looks ls));
    }

pub verifies_none : (id : StoreId) (first : ℕ) (f : List Finding) (s : List Entry) → Verifies id first [] [] [] f f s s 0
verifies_none id first f s = record {
  looked = no_looks id;
  found = sym (ap (λ r. f ++ r) (no_findings first []) ∙ append-nil f);
  settled = sym (ap (λ r. s ++ r) no_settled ∙ append-nil s);
  counted = refl;
}

verifies_one : (id : StoreId) (number : ℕ) (known : Entry) (pass : PassSeen) (look : Look) (f g : List Finding) (s t : List Entry) (n : ℕ) → LooksAt id pass known look → g ≡ f ++ block_findings (record { 0 = number }) known look → t ≡ s ++ settled_look known look ∷ [] → n ≡ count_by is_seen (look ∷ []) → Verifies id number (known ∷ []) (pass ∷ []) (look ∷ []) f g s t n
verifies_one id number known pass look f g s t n p q r e = record {
  looked = one_look id known pass look p;
  found = q ∙ ap (λ x. f ++ x) (sym (findings_one number known look));
  settled = r ∙ ap (λ x. s ++ x) (sym (settled_one known look));
  counted = e;
}

length_front : {A : Type 0} (xs : List A) (i : ℕ) → i < length xs → length (take i xs) ≡ i
length_front xs i within = search (rules)

-- one block more
pub verifies_more : (id : StoreId) (first i : ℕ) (entries : List Entry) (passes : List PassSeen) (looks : List Look) (known : Entry) (pass : PassSeen) (look : Look) (f g h : List Finding) (s t u : List Entry) (m n : ℕ) → i < length entries → i < length passes → known ≡ get_or entries i known → pass ≡ get_or passes i pass → LooksAt id pass known look → h ≡ g ++ block_findings (record { 0 = first + i }) known look → u ≡ t ++ settled_look known look ∷ [] → n ≡ count_by is_seen (look ∷ []) → Verifies id first (take i entries) (take i passes) looks f g s t m → Verifies id first (take (i + 1) entries) (take (i + 1) passes) (looks ++ look ∷ []) f h s u (m + n)
verifies_more id first i entries passes looks known pass look f g h s t u m n within in_passes here there p q r e v =
    let long : length (take i entries) ≡ i = length_front entries i within in
    let more_entries : take (i + 1) entries ≡ take i entries ++ known ∷ [] = take_more entries i known within ∙ ap (λ x. take i entries ++ x ∷ []) (sym here) in
    let more_passes : take (i + 1) passes ≡ take i passes ++ pass ∷ [] = take_more passes i pass in_passes ∙ ap (λ x. take i passes ++ x ∷ []) (sym there) in
    let one : Verifies id (first + length (take i entries)) (known ∷ []) (pass ∷ []) (look ∷ []) g h t u n =
    rw long (verifies_one id (first + i) known pass look g h t u n p q r e) in
    rw (more_entries, more_passes) (verifies_then id first (take i entries) (known ∷ []) (take i passes) (pass ∷ []) looks (look ∷ []) f g h s t u m n v one)

-- ---- reading the lists of a part
pub valid_at : (entries : List Entry) (i : ℕ) (known : Entry) → AreEntries entries → i < length entries → known ≡ get_or entries i known → IsEntry known
valid_at entries i known valid within is = subst IsEntry (sym (get_or_read entries i known within is Bad)) (valid i within)

pub seen_at : {A : Type 0} (seen : A → PassSeen) (passes : List A) (i : ℕ) (pass : A) → i < length passes → pass ≡ get_or passes i pass → slice_get (map seen passes) i ≡ Some (seen pass)
seen_at seen passes i pass within is =
    slice_get-map seen passes i ∙ ap (λ (o : Option _). option_map seen o) (slice_get_read passes (length passes) i pass refl within is)

pub block_at : {A : Type 0} (seen : A → PassSeen) (first : ℕ) (shape : Shape) (passes : List A) (i : ℕ) (pass : A) → ArePart first shape (map seen passes) → i < length passes → pass ≡ get_or passes i pass → (seen pass).block ≡ first + i
block_at seen first shape passes i pass part within is = part.blocks i (seen pass) (seen_at seen passes i pass within is)

pub size_at : {A : Type 0} (seen : A → PassSeen) (first : ℕ) (shape : Shape) (passes : List A) (i : ℕ) (pass : A) → ArePart first shape (map seen passes) → i < length passes → pass ≡ get_or passes i pass → (seen pass).size ≡ shape.block_size
size_at seen first shape passes i pass part within is = part.sizes i (seen pass) (seen_at seen passes i pass within is)

pub mapped_at : {A : Type 0} (seen : A → PassSeen) (passes : List A) (i : ℕ) (pass : A) → i < length passes → pass ≡ get_or passes i pass → seen pass ≡ get_or (map seen passes) i (seen pass)
mapped_at seen passes i pass within is = sym (get_or-map seen passes i pass (seen pass) within ∙ ap seen (sym is))
