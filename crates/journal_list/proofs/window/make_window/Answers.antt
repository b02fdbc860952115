use Rattle.std.proofs.Common.{rules, sym, subst}
use Rattle.key_state.specs.declared.entry.Entry.{Entry}
use Rattle.key_state.specs.Entries.{IsLegalAt}
use Rattle.journal_list.specs.Audits.{IsStepIn, IsRefusedIn, made_of}
use Rattle.journal_list.proofs.Legal.{shows_more, valid_more, legal_more}
use Rattle.journal_list.proofs.window.make_window.Goals as goal

pub returns-then-not-make_within-clause-refused : goal.returns-then-not-make_within-clause-refused
returns-then-not-make_within-clause-refused c = λ before.
    let made = c.made_at-made.result in
    let no : IsRefusedIn made c.args.low c.args.high c.loop-i.window = search rules in
    (made, c.made_at-made.ensures, (no.0, no.1, λ inside legal. no.4 (subst (λ (e : Entry). IsLegalAt e made) (sym (c.loop-i.invariant.shows no.0 no.2 no.3)) legal)))

pub loop-i-preserved : goal.loop-i-preserved
loop-i-preserved c =
    let base = c.args.base.now in
    let records = made_of c.args.records.now in
    let made = c.made_at-made.result in
    let step : IsStepIn made c.args.low c.args.high c.loop-i.window c.make_within.new.window = search rules in
    record {
      long = search rules;
      valid = valid_more base records c.loop-i.i made c.made_at-made.ensures c.args.low c.args.high c.loop-i.window c.make_within.new.window step c.loop-i.invariant.shows c.loop-i.invariant.valid;
      legal = legal_more base records c.loop-i.i made c.made_at-made.ensures c.args.low c.args.high c.loop-i.window c.make_within.new.window step c.loop-i.invariant.shows c.loop-i.invariant.legal;
      shows = shows_more base records c.loop-i.i made c.made_at-made.ensures c.args.low c.args.high c.loop-i.window c.make_within.new.window step c.loop-i.invariant.shows;
    }
