-- What the entries that are left have to do with the looks.
use Rattle.std.proofs.Common.{◌≡◌, ℕ, zero, suc, ◌+◌, true, false, not, ◌==◌, List, [], ◌∷◌, length, refl, sym, ◌∙◌, ap, subst, arith, rules, inl}
use Rattle.std.specs.Prelude.{count_by}
use Rattle.vd_base.specs.declared.geometry.StoreId.{StoreId}
use Rattle.vd_arm.specs.Arm.{PassSeen}
use Rattle.key_state.specs.declared.entry.Entry.{Entry}
use Rattle.key_state.specs.declared.entry.Entry.TheVariants as entry
use Rattle.key_state.specs.Entries.{IsEntry, AreEntries}
use Rattle.block_verdict.specs.Fits.{BytesFit}
use Rattle.block_verdict.specs.Verdicts.{FitAfterSettling, settled_by}
use Rattle.block_verdict.specs.declared.outcome.Verdict.{Verdict}
use Rattle.block_verdict.specs.declared.outcome.Verdict.TheVariants as verdict
use Rattle.recover_run.specs.declared.look.Look.{Look}
use Rattle.recover_run.specs.declared.look.Look.TheVariants.{Skipped, Unread, Sees}
use Rattle.recover_run.specs.Looks.{AreLooks, LooksAt, is_unread, settled_from, settled_look}
use Rattle.recover_run.proofs.Looking.{count-append}
use Rattle.plan_verified.specs.Stores.{FitsTold, FitsUnlessUnread, FitWhereRead}
use Rattle.plan_verified.specs.Laws.{FitAsBefore, FitWhereAllRead}

-- ---- the entries are valid ones
valid_by : (known : Entry) (seen : Verdict) → IsEntry known → IsEntry (settled_by known seen)
valid_by (entry.Settled key) (verdict.Corrupt sector part) p = tt
valid_by (entry.Settled key) verdict.Clean p = tt
valid_by (entry.Settled key) verdict.Old p = tt
valid_by (entry.Settled key) verdict.New p = tt
valid_by (entry.Settled key) verdict.Mixed p = tt
valid_by (entry.Pending old new) (verdict.Corrupt sector part) p = tt
valid_by (entry.Pending old new) verdict.Clean p = p
valid_by (entry.Pending old new) verdict.Old p = tt
valid_by (entry.Pending old new) verdict.New p = tt
valid_by (entry.Pending old new) verdict.Mixed p = p
valid_by entry.Bad (verdict.Corrupt sector part) p = tt
valid_by entry.Bad verdict.Clean p = tt
valid_by entry.Bad verdict.Old p = tt
valid_by entry.Bad verdict.New p = tt
valid_by entry.Bad verdict.Mixed p = tt

valid_look : (known : Entry) (seen : Look) → IsEntry known → IsEntry (settled_look known seen)
valid_look known Skipped p = p
valid_look known Unread p = p
valid_look known (Sees holds) p = valid_by known holds p

pub settled_valid : (entries : List Entry) (looks : List Look) → length looks ≡ length entries → AreEntries entries → AreEntries (settled_from entries looks)
unfolding settled_from
settled_valid [] [] e valid i within = absurd (omega (arith, within))
settled_valid [] (l ∷ looks) e valid i within = absurd (omega (arith, e))
settled_valid (k ∷ entries) [] e valid i within = absurd (omega (arith, e))
settled_valid (k ∷ entries) (l ∷ looks) e valid zero within = valid_look k l (valid 0 (omega arith))
settled_valid (k ∷ entries) (l ∷ looks) e valid (suc i) within =
    let same : length looks ≡ length entries = omega (arith, e) in
    settled_valid entries looks same (λ j less. valid (suc j) (omega (arith, less))) i (omega (arith, within))

pub settled_long : (entries : List Entry) (looks : List Look) → length looks ≡ length entries → length (settled_from entries looks) ≡ length entries
unfolding settled_from
settled_long [] [] e = refl
settled_long [] (l ∷ looks) e = absurd (omega (arith, e))
settled_long (k ∷ entries) [] e = absurd (omega (arith, e))
settled_long (k ∷ entries) (l ∷ looks) e =
    let same : length looks ≡ length entries = omega (arith, e) in
    ap suc (settled_long entries looks same)

-- ---- what passes tell fits them
key_none : (key : ℕ) → not (key == 0) ≡ false → key ≡ 0
key_none zero e = refl
key_none (suc key) e =
    let n : (suc key == 0) ≡ false = search rules in
    let f : true ≡ false = sym (ap not n) ∙ e in
    absurd cc

-- A block that isn't read fits: it was never written, or is bad.
fits_skipped : (id : StoreId) (pass : PassSeen) (known : Entry) → LooksAt id pass known Skipped → FitsTold id pass known
fits_skipped id pass (entry.Settled key) p = λ bytes told i within. inl (key_none key p)
fits_skipped id pass (entry.Pending old new) p = absurd (let f : true ≡ false = p in cc)
fits_skipped id pass entry.Bad p = λ bytes told i within. tt

fits_look : FitAfterSettling → (id : StoreId) (pass : PassSeen) (known : Entry) (seen : Look) → LooksAt id pass known seen → FitsUnlessUnread id pass seen (settled_look known seen)
fits_look law id pass known Skipped p = fits_skipped id pass known p
fits_look law id pass known Unread p = tt
fits_look law id pass known (Sees holds) p = λ told is.
    subst (λ (l : List ℕ). BytesFit id pass.block (settled_by known holds) l) (p.1.1 told is) (law id pass.block known p.1.0 holds p.1.2)

pub fit_read : FitAfterSettling → (id : StoreId) (entries : List Entry) (passes : List PassSeen) (looks : List Look) → AreLooks id entries passes looks → FitWhereRead id passes looks (settled_from entries looks)
unfolding AreLooks settled_from
fit_read law id [] [] [] p = tt
fit_read law id (k ∷ entries) (x ∷ passes) (l ∷ looks) p = (fits_look law id x k l p.0, fit_read law id entries passes looks p.1)
fit_read law id [] [] (l ∷ looks) p = absurd p
fit_read law id [] (x ∷ passes) looks p = absurd p
fit_read law id (k ∷ entries) [] looks p = absurd p
fit_read law id (k ∷ entries) (x ∷ passes) [] p = absurd p

-- ---- laws
fits_readable : (id : StoreId) (pass : PassSeen) (seen : Look) (known : Entry) → count_by is_unread (seen ∷ []) ≡ 0 → FitsUnlessUnread id pass seen known → FitsTold id pass known
fits_readable id pass Skipped known none p = p
fits_readable id pass (Sees holds) known none p = p
fits_readable id pass Unread known none p = absurd (omega (arith, none))

none_first : (seen : Look) (looks : List Look) → count_by is_unread (seen ∷ looks) ≡ 0 → (count_by is_unread (seen ∷ []) ≡ 0) × (count_by is_unread looks ≡ 0)
none_first seen looks e =
    let both : count_by is_unread (seen ∷ looks) ≡ count_by is_unread (seen ∷ []) + count_by is_unread looks = count-append is_unread (seen ∷ []) looks in
    (omega (arith, e, both), omega (arith, e, both))

pub fit_all_read : FitWhereAllRead
fit_all_read id [] [] [] none p = tt
fit_all_read id (x ∷ passes) (l ∷ looks) (k ∷ entries) none p =
    let n = none_first l looks none in
    (fits_readable id x l k n.0 p.0, fit_all_read id passes looks entries n.1 p.1)
fit_all_read id [] [] (k ∷ entries) none p = absurd p
fit_all_read id [] (l ∷ looks) entries none p = absurd p
fit_all_read id (x ∷ passes) [] entries none p = absurd p
fit_all_read id (x ∷ passes) (l ∷ looks) [] none p = absurd p

fits_still : (id : StoreId) (pass : PassSeen) (seen : Look) (known : Entry) → FitsUnlessUnread id pass seen (settled_look known seen) → FitsTold id pass known → FitsTold id pass (settled_look known seen)
fits_still id pass Skipped known p q = q
fits_still id pass Unread known p q = q
fits_still id pass (Sees holds) known p q = p

pub fit_before : FitAsBefore
unfolding AreLooks settled_from
fit_before id [] [] [] looked p q = tt
fit_before id (k ∷ entries) (x ∷ passes) (l ∷ looks) looked p q =
    (fits_still id x l k p.0 q.0, fit_before id entries passes looks looked.1 p.1 q.1)
fit_before id [] [] (l ∷ looks) looked p q = absurd looked
fit_before id [] (x ∷ passes) looks looked p q = absurd looked
fit_before id (k ∷ entries) [] looks looked p q = absurd looked
fit_before id (k ∷ entries) (x ∷ passes) [] looked p q = absurd looked
