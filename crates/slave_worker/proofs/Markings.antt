-- What is reported of a run and made bad, up to one of its blocks.
use Rattle.std.proofs.Common.{◌≡◌, ◌⊎◌, inl, inr, ℕ, suc, ◌+◌, ◌<◌, ◌≤◌, List, [], ◌∷◌, ◌++◌, length, map, reverse, take, drop, get_or, slice_set, Option, Some, None, refl, sym, ap, subst, ◌∙◌, append_assoc, length-append, arith}
use Rattle.std.proofs.Math.Seq.{drop-cons, take-append-add}
use Rattle.std.proofs.lemmas.List.{get_or_default, get_or_read, get_or-set_other, length-set, length-take-le, map-append, reverse-append, take-take}
use Rattle.vd_base.specs.declared.geometry.BlockNo.{BlockNo}
use Rattle.vd_base.specs.declared.geometry.StoreId.{StoreId}
use Rattle.vd_arm.specs.Arm.{PassSeen}
use Rattle.key_state.specs.Entries.{entry_at}
use Rattle.key_state.specs.declared.entry.Entry.{Entry}
use Rattle.key_state.specs.declared.entry.Entry.TheVariants.{Bad}
use Rattle.key_state.specs.declared.fault.BookFault.{BookFault}
use Rattle.block_verdict.specs.declared.finding.Finding.{Finding}
use Rattle.block_verdict.specs.declared.outcome.Verdict.{Verdict}
use Rattle.block_verdict.specs.declared.outcome.Verdict.TheVariants.{Clean, Old, New, Mixed, Corrupt}
use Rattle.block_verdict.specs.declared.finding.Finding.TheVariants as finding
use Rattle.claim_table.specs.Runs.{ArePassesFor}
use Rattle.claim_table.specs.declared.view.Made.{Made}
use Rattle.claim_table.specs.declared.view.View.{View}
use Rattle.block_ops.specs.Runs.{HeldRun}
use Rattle.seat_ops.specs.Holds.{HoldsRun, UsedBook}
use Rattle.worker_tally.specs.Tallies.{Tallied, with_finding}
use Rattle.slave_worker.specs.Dids.{AreSpoilt, block_of}
use Rattle.slave_worker.specs.Looks.{corrupt_run, finding_by, finding_of}
use Rattle.slave_worker.specs.Standings.{Changed, GaveOpen, HoldsPasses}
use Rattle.slave_worker.proofs.Puttings.{changed_add, changed_as, changed_once, has_after}

-- What a verdict finds of its block.
pub found_not : (block : BlockNo) (entry : Entry) (verdict : Verdict) (others : List Finding) → finding_by block entry verdict ≡ None → finding_of block.0 entry verdict others ≡ others
found_not block entry (Corrupt sector part) others is = absurd (let no : finding_by block entry (Corrupt sector part) ≡ None = is in cc)
found_not block entry Clean others is = refl
found_not block entry Old others is = refl
found_not block entry New others is = refl
found_not block entry Mixed others is = refl

pub found_one : (block : BlockNo) (entry : Entry) (verdict : Verdict) (others : List Finding) (found : Finding) → finding_by block entry verdict ≡ Some found → (finding_of block.0 entry verdict others ≡ found ∷ others) × (block_of found ≡ block.0)
found_one block entry (Corrupt sector part) others found is =
    let same : finding.Corrupt block entry sector part ≡ found = let one : Some (finding.Corrupt block entry sector part) ≡ Some found = is in cc in
    (ap (λ (f : Finding). f ∷ others) same, ap block_of (sym same))
found_one block entry Clean others found is = absurd (let no : None ≡ Some found = is in cc)
found_one block entry Old others found is = absurd (let no : None ≡ Some found = is in cc)
found_one block entry New others found is = absurd (let no : None ≡ Some found = is in cc)
found_one block entry Mixed others found is = absurd (let no : None ≡ Some found = is in cc)

-- the corrupt blocks from one place of a run on
abbrev pub left_from : ℕ → List Entry → List Verdict → ℕ → List Finding
left_from first entries verdicts at = corrupt_run (first + at) (drop at entries) (drop at verdicts)

pub left_step : (first : ℕ) (entries : List Entry) (verdicts : List Verdict) (at : ℕ) (entry : Entry) (verdict : Verdict) → at < length entries → at < length verdicts → entry ≡ entry_at entries at → verdict ≡ get_or verdicts at verdict
    → left_from first entries verdicts at ≡ finding_of (first + at) entry verdict (left_from first entries verdicts (at + 1))
left_step first entries verdicts at entry verdict inside within is one =
    let next : suc at ≡ at + 1 = omega arith in
    let more : first + at + 1 ≡ first + (at + 1) = omega arith in
    let es : drop at entries ≡ entry ∷ drop (at + 1) entries = drop-cons entries at Bad inside ∙ ap (λ (e : Entry). e ∷ drop (suc at) entries) (sym is) ∙ ap (λ (n : ℕ). entry ∷ drop n entries) next in
    let vs : drop at verdicts ≡ verdict ∷ drop (at + 1) verdicts = drop-cons verdicts at verdict within ∙ ap (λ (v : Verdict). v ∷ drop (suc at) verdicts) (sym one) ∙ ap (λ (n : ℕ). verdict ∷ drop n verdicts) next in
    ap (λ (xs : List Entry). corrupt_run (first + at) xs (drop at verdicts)) es
    ∙ ap (λ (xs : List Verdict). corrupt_run (first + at) (entry ∷ drop (at + 1) entries) xs) vs
    ∙ ap (λ (n : ℕ). finding_of (first + at) entry verdict (corrupt_run n (drop (at + 1) entries) (drop (at + 1) verdicts))) more

-- One more of a list.
take_one : (many : ℕ) (all rest : List Finding) (found : Finding) → many ≤ length all → take many all ++ (found ∷ rest) ≡ all → take (many + 1) all ≡ take many all ++ found ∷ []
take_one many all rest found few is =
    let long : length (take many all) ≡ many = length-take-le many all few in
    ap (λ (n : ℕ). take (n + 1) all) (sym long)
    ∙ ap (λ (l : List Finding). take (length (take many all) + 1) l) (sym is)
    ∙ take-append-add (take many all) (found ∷ rest) 1

one_more : (many : ℕ) (all rest : List Finding) (found : Finding) → many ≤ length all → take many all ++ (found ∷ rest) ≡ all → many + 1 ≤ length all
one_more many all rest found few is =
    omega (arith, length-take-le many all few, length-append (take many all) (found ∷ rest), ap (λ (l : List Finding). length l) is)

spoilt_more : (found : Finding) (all some : List Finding) → all ≡ some ++ found ∷ [] → reverse (map block_of all) ≡ block_of found ∷ reverse (map block_of some)
spoilt_more found all some is =
    ap (λ (l : List Finding). reverse (map block_of l)) is
    ∙ ap (λ (l : List ℕ). reverse l) (map-append block_of some (found ∷ []))
    ∙ reverse-append (map block_of some) (block_of found ∷ [])

-- a tally with other findings
abbrev pub with_findings : List Finding → Tallied → Tallied
with_findings findings tally = record tally { findings = findings }

-- The run's corrupt blocks below one place are reported and made bad, so many of them.
pub record Reported {P : Type 0} (pass_seen : P → PassSeen) (old : HeldRun P) (verdicts : List Verdict) (v : View) (before : Tallied) (at many : ℕ) (run : HeldRun P) (w : View) (after : Tallied) : Type 0 where
  pub begins : run.first ≡ old.first
  pub long : length run.entries ≡ length old.entries
  pub same : (i : ℕ) → at ≤ i → entry_at run.entries i ≡ entry_at old.entries i
  pub has : (store : StoreId) → HoldsPasses pass_seen store v old → HoldsPasses pass_seen store w run
  pub few : many ≤ length (corrupt_run old.first old.entries verdicts)
  pub left : take many (corrupt_run old.first old.entries verdicts) ++ left_from old.first old.entries verdicts at ≡ corrupt_run old.first old.entries verdicts
  pub tally : after ≡ record before { findings = before.findings ++ take many (corrupt_run old.first old.entries verdicts) }
  pub changed : Changed many v w [] (reverse (map block_of (take many (corrupt_run old.first old.entries verdicts))))
  pub none : many ≡ 0 → w ≡ v
  pub goes : 0 < many → GaveOpen w

-- A block that isn't corrupt.
pub reported_not : {P : Type 0} (pass_seen : P → PassSeen) (old : HeldRun P) (verdicts : List Verdict) (v : View) (before : Tallied) (at many : ℕ) (run : HeldRun P) (w : View) (after : Tallied) (block : BlockNo) (entry : Entry) (verdict : Verdict)
    → Reported pass_seen old verdicts v before at many run w after → at < length old.entries → at < length verdicts → block.0 ≡ run.first + at → entry ≡ entry_at run.entries at → verdict ≡ get_or verdicts at verdict → finding_by block entry verdict ≡ None
    → Reported pass_seen old verdicts v before (at + 1) many run w after
reported_not pass_seen old verdicts v before at many run w after block entry verdict so inside within number is one not =
    let all : List Finding = corrupt_run old.first old.entries verdicts in
    let place : block.0 ≡ old.first + at = number ∙ ap (λ (n : ℕ). n + at) so.begins in
    let step : left_from old.first old.entries verdicts at ≡ left_from old.first old.entries verdicts (at + 1) =
    left_step old.first old.entries verdicts at entry verdict inside within (is ∙ so.same at (omega arith)) one
    ∙ ap (λ (n : ℕ). finding_of n entry verdict (left_from old.first old.entries verdicts (at + 1))) (sym place)
    ∙ found_not block entry verdict (left_from old.first old.entries verdicts (at + 1)) not
    in record {
      begins = so.begins;
      long = so.long;
      same = λ i from. so.same i (omega (arith, from));
      has = so.has;
      few = so.few;
      left = subst (λ (l : List Finding). take many all ++ l ≡ all) step so.left;
      tally = so.tally;
      changed = so.changed;
      none = so.none;
      goes = so.goes;
    }

-- What is known of a corrupt block as it is met.
pub record IsMet {P : Type 0} (old : HeldRun P) (verdicts : List Verdict) (at many : ℕ) (found : Finding) : Type 0 where
  pub more : many + 1 ≤ length (corrupt_run old.first old.entries verdicts)
  pub one : take (many + 1) (corrupt_run old.first old.entries verdicts) ≡ take many (corrupt_run old.first old.entries verdicts) ++ found ∷ []
  pub left : take (many + 1) (corrupt_run old.first old.entries verdicts) ++ left_from old.first old.entries verdicts (at + 1) ≡ corrupt_run old.first old.entries verdicts
  pub block : block_of found ≡ old.first + at

pub is_met : {P : Type 0} (pass_seen : P → PassSeen) (old : HeldRun P) (verdicts : List Verdict) (v : View) (before : Tallied) (at many : ℕ) (run : HeldRun P) (w : View) (after : Tallied) (block : BlockNo) (entry : Entry) (verdict : Verdict) (found : Finding)
    → Reported pass_seen old verdicts v before at many run w after → at < length old.entries → at < length verdicts → block.0 ≡ run.first + at → entry ≡ entry_at run.entries at → verdict ≡ get_or verdicts at verdict → finding_by block entry verdict ≡ Some found
    → IsMet old verdicts at many found
is_met pass_seen old verdicts v before at many run w after block entry verdict found so inside within number is one here =
    let all : List Finding = corrupt_run old.first old.entries verdicts in
    let rest : List Finding = left_from old.first old.entries verdicts (at + 1) in
    let place : block.0 ≡ old.first + at = number ∙ ap (λ (n : ℕ). n + at) so.begins in
    let t = found_one block entry verdict rest found here in
    let step : left_from old.first old.entries verdicts at ≡ found ∷ rest =
    left_step old.first old.entries verdicts at entry verdict inside within (is ∙ so.same at (omega arith)) one
    ∙ ap (λ (n : ℕ). finding_of n entry verdict rest) (sym place)
    ∙ t.0
    in
    let whole : take many all ++ (found ∷ rest) ≡ all = subst (λ (l : List Finding). take many all ++ l ≡ all) step so.left in
    let taken : take (many + 1) all ≡ take many all ++ found ∷ [] = take_one many all rest found so.few whole in
    record {
      more = one_more many all rest found so.few whole;
      one = taken;
      left = ap (λ (l : List Finding). l ++ rest) taken ∙ append_assoc (take many all) (found ∷ []) rest ∙ whole;
      block = t.1 ∙ place;
    }

-- the tally with its finding
pub told_more : {P : Type 0} (old : HeldRun P) (verdicts : List Verdict) (at many : ℕ) (found : Finding) (before after : Tallied) → IsMet old verdicts at many found
    → after ≡ record before { findings = before.findings ++ take many (corrupt_run old.first old.entries verdicts) }
    → with_finding found after ≡ record before { findings = before.findings ++ take (many + 1) (corrupt_run old.first old.entries verdicts) }
told_more old verdicts at many found before after met is =
    let all : List Finding = corrupt_run old.first old.entries verdicts in
    ap (λ (t : Tallied). with_finding found t) is
    ∙ ap (λ (l : List Finding). with_findings l before) (append_assoc before.findings (take many all) (found ∷ []) ∙ ap (λ (l : List Finding). before.findings ++ l) (sym met.one))

pub told_next : {P : Type 0} (old : HeldRun P) (verdicts : List Verdict) (at many : ℕ) (found : Finding) (before after next : Tallied) → IsMet old verdicts at many found → next ≡ with_finding found after
    → after ≡ record before { findings = before.findings ++ take many (corrupt_run old.first old.entries verdicts) }
    → next ≡ record before { findings = before.findings ++ take (many + 1) (corrupt_run old.first old.entries verdicts) }
told_next old verdicts at many found before after next met more is = more ∙ told_more old verdicts at many found before after met is

-- the blocks made bad with it
pub spoilt_with : {P : Type 0} (pass_seen : P → PassSeen) (old : HeldRun P) (verdicts : List Verdict) (v : View) (before : Tallied) (at many : ℕ) (run : HeldRun P) (w x : View) (after : Tallied) (found : Finding)
    → Reported pass_seen old verdicts v before at many run w after → IsMet old verdicts at many found → UsedBook w x [] ((run.first + at) ∷ [])
    → Changed (many + 1) v x [] (reverse (map block_of (take (many + 1) (corrupt_run old.first old.entries verdicts))))
spoilt_with pass_seen old verdicts v before at many run w x after found so met used =
    let all : List Finding = corrupt_run old.first old.entries verdicts in
    let block : run.first + at ≡ block_of found = ap (λ (n : ℕ). n + at) so.begins ∙ sym met.block in
    let bad : (run.first + at) ∷ reverse (map block_of (take many all)) ≡ reverse (map block_of (take (many + 1) all)) =
    ap (λ (n : ℕ). n ∷ reverse (map block_of (take many all))) block ∙ sym (spoilt_more found (take (many + 1) all) (take many all) met.one)
    in
    changed_as (many + 1) v x [] ((run.first + at) ∷ reverse (map block_of (take many all))) [] (reverse (map block_of (take (many + 1) all))) refl bad
    (changed_add many 1 (many + 1) v w x [] (reverse (map block_of (take many all))) [] ((run.first + at) ∷ []) refl so.changed (changed_once w x [] ((run.first + at) ∷ []) used))

-- the run after a block was made bad, or kept as it was
pub has_marked : {P : Type 0} (pass_seen : P → PassSeen) (old : HeldRun P) (verdicts : List Verdict) (v : View) (before : Tallied) (at many : ℕ) (run new : HeldRun P) (w x : View) (after : Tallied)
    → Reported pass_seen old verdicts v before at many run w after → x.made ≡ w.made → new.first ≡ run.first → length new.entries ≡ length run.entries → HoldsRun x run.first new.entries
    → ((made : Made) → ArePassesFor pass_seen made run.first run.entries run.passes → ArePassesFor pass_seen made run.first new.entries new.passes)
    → (store : StoreId) → HoldsPasses pass_seen store v old → HoldsPasses pass_seen store x new
has_marked pass_seen old verdicts v before at many run new w x after so made first long holds fits store has =
    let was : HoldsPasses pass_seen store w run = so.has store has in
    has_after pass_seen store w x run new run.first was made first long holds (fits w.made was.passes)

-- A corrupt block that was made bad.
pub reported_more : {P : Type 0} (pass_seen : P → PassSeen) (old : HeldRun P) (verdicts : List Verdict) (v : View) (before : Tallied) (at many : ℕ) (run new : HeldRun P) (w x : View) (after next : Tallied) (found : Finding)
    → Reported pass_seen old verdicts v before at many run w after → IsMet old verdicts at many found → next ≡ with_finding found after → GaveOpen x → new.first ≡ run.first → new.entries ≡ slice_set run.entries at Bad → UsedBook w x [] ((run.first + at) ∷ []) → HoldsRun x run.first new.entries
    → ((made : Made) → ArePassesFor pass_seen made run.first run.entries run.passes → ArePassesFor pass_seen made run.first new.entries new.passes)
    → Reported pass_seen old verdicts v before (at + 1) (many + 1) new x next
reported_more pass_seen old verdicts v before at many run new w x after next found so met told gave first now used holds fits =
    let long : length new.entries ≡ length run.entries = ap (λ (es : List Entry). length es) now ∙ length-set run.entries at Bad in
    record {
      begins = first ∙ so.begins;
      long = long ∙ so.long;
      same = λ i from. ap (λ (es : List Entry). entry_at es i) now ∙ get_or-set_other run.entries at i Bad Bad (λ is. omega (arith, from, is)) ∙ so.same i (omega (arith, from));
      has = has_marked pass_seen old verdicts v before at many run new w x after so used.made first long holds fits;
      few = met.more;
      left = met.left;
      tally = told_next old verdicts at many found before after next met told so.tally;
      changed = spoilt_with pass_seen old verdicts v before at many run w x after found so met used;
      none = λ is. absurd (omega (arith, is));
      goes = λ some. gave;
    }

-- A corrupt block that the book refused: it is reported, and made bad where the record was appended all the same.
abbrev pub Refused : View → View → ℕ → List Entry → ℕ → List Entry → Type 0
Refused w x first was at now = ((now ≡ was) × UsedBook w x [] []) ⊎ ((now ≡ slice_set was at Bad) × UsedBook w x [] ((first + at) ∷ []))

pub refused_long : (w x : View) (first : ℕ) (was : List Entry) (at : ℕ) (now : List Entry) → Refused w x first was at now → length now ≡ length was
refused_long w x first was at now (inl same) = ap (λ (es : List Entry). length es) same.0
refused_long w x first was at now (inr other) = ap (λ (es : List Entry). length es) other.0 ∙ length-set was at Bad

pub refused_made : (w x : View) (first : ℕ) (was : List Entry) (at : ℕ) (now : List Entry) → Refused w x first was at now → x.made ≡ w.made
refused_made w x first was at now (inl same) = same.1.made
refused_made w x first was at now (inr other) = other.1.made

-- what is told at the end of so many that were reported
abbrev pub Marked : ℕ → List Finding → Option BookFault → View → View → Type 0
Marked many all fault v w =
    (bad : ℕ)
    × (spoilt : List ℕ)
    × AreSpoilt (take many all) bad spoilt
    × Changed many v w [] spoilt
    × (many ≤ bad + 1)
    × (fault ≡ None → (bad ≡ many) × (many ≡ length all))

pub marked_refused : {P : Type 0} (pass_seen : P → PassSeen) (old : HeldRun P) (verdicts : List Verdict) (v : View) (before : Tallied) (at many : ℕ) (run : HeldRun P) (w x : View) (after : Tallied) (found : Finding) (now : List Entry) (fault : BookFault)
    → Reported pass_seen old verdicts v before at many run w after → IsMet old verdicts at many found → Refused w x run.first run.entries at now → Marked (many + 1) (corrupt_run old.first old.entries verdicts) (Some fault) v x
marked_refused pass_seen old verdicts v before at many run w x after found now fault so met (inl same) =
    let all : List Finding = corrupt_run old.first old.entries verdicts in
    let long : length (take (many + 1) all) ≡ many + 1 = length-take-le (many + 1) all met.more in
    let few : many ≤ many + 1 = omega arith in (
      many,
      reverse (map block_of (take many all)),
      (omega (arith, long), ap (λ (l : List Finding). reverse (map block_of l)) (sym (take-take many (many + 1) all few))),
      changed_add many 1 (many + 1) v w x [] (reverse (map block_of (take many all))) [] [] refl so.changed (changed_once w x [] [] same.1),
      omega arith,
      (λ none. absurd (let no : Some fault ≡ None = none in cc)),
    )
marked_refused pass_seen old verdicts v before at many run w x after found now fault so met (inr other) =
    let all : List Finding = corrupt_run old.first old.entries verdicts in
    let long : length (take (many + 1) all) ≡ many + 1 = length-take-le (many + 1) all met.more in
    let few : many + 1 ≤ many + 1 = omega arith in (
      many + 1,
      reverse (map block_of (take (many + 1) all)),
      (omega (arith, long), ap (λ (l : List Finding). reverse (map block_of l)) (sym (take-take (many + 1) (many + 1) all few))),
      spoilt_with pass_seen old verdicts v before at many run w x after found so met other.1,
      omega arith,
      (λ none. absurd (let no : Some fault ≡ None = none in cc)),
    )

-- there is room for one finding more
pub room_more : {P : Type 0} (old : HeldRun P) (verdicts : List Verdict) (at many : ℕ) (found : Finding) (before after : Tallied) → IsMet old verdicts at many found
    → after ≡ record before { findings = before.findings ++ take many (corrupt_run old.first old.entries verdicts) }
    → length before.findings + length (corrupt_run old.first old.entries verdicts) ≤ before.finding_room → length after.findings < after.finding_room
room_more old verdicts at many found before after met is room =
    let all : List Finding = corrupt_run old.first old.entries verdicts in
    let few : many ≤ length all = omega (arith, met.more) in
    omega (arith, room, met.more, length-take-le many all few, length-append before.findings (take many all), ap (λ (t : Tallied). length t.findings) is, ap (λ (t : Tallied). t.finding_room) is)

-- The same of the block that a turn of the loop looks at.
pub not_here : {P : Type 0} (pass_seen : P → PassSeen) (old : HeldRun P) (verdicts : List Verdict) (v : View) (before : Tallied) (at many : ℕ) (run : HeldRun P) (w : View) (after : Tallied) (entry : Entry)
    → Reported pass_seen old verdicts v before at many run w after → at < length old.entries → at < length verdicts → entry ≡ get_or run.entries at entry → None ≡ finding_by (record { 0 = run.first + at }) entry (get_or verdicts at Clean)
    → Reported pass_seen old verdicts v before (at + 1) many run w after
not_here pass_seen old verdicts v before at many run w after entry so inside within is not =
    let verdict : Verdict = get_or verdicts at Clean in
    let here : at < length run.entries = omega (arith, inside, so.long) in
    reported_not pass_seen old verdicts v before at many run w after (record { 0 = run.first + at }) entry verdict so inside within refl (get_or_read run.entries at entry here is Bad) (get_or_default verdicts at Clean verdict within) (sym not)

pub met_here : {P : Type 0} (pass_seen : P → PassSeen) (old : HeldRun P) (verdicts : List Verdict) (v : View) (before : Tallied) (at many : ℕ) (run : HeldRun P) (w : View) (after : Tallied) (entry : Entry) (found : Finding)
    → Reported pass_seen old verdicts v before at many run w after → at < length old.entries → at < length verdicts → entry ≡ get_or run.entries at entry → Some found ≡ finding_by (record { 0 = run.first + at }) entry (get_or verdicts at Clean)
    → IsMet old verdicts at many found
met_here pass_seen old verdicts v before at many run w after entry found so inside within is met =
    let verdict : Verdict = get_or verdicts at Clean in
    let here : at < length run.entries = omega (arith, inside, so.long) in
    is_met pass_seen old verdicts v before at many run w after (record { 0 = run.first + at }) entry verdict found so inside within refl (get_or_read run.entries at entry here is Bad) (get_or_default verdicts at Clean verdict within) (sym met)
