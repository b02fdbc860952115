use Rattle.std.proofs.Common.{rules, ◌≡◌, ◌<◌, List, sym, subst, arith}
use Rattle.key_state.specs.declared.entry.Entry.{Entry}
use Rattle.key_state.specs.declared.record.Record.{Record}
use Rattle.key_state.specs.Entries.{IsLegalOn}
use Rattle.journal_layout.specs.Recovery.{blocks_of}
use Rattle.journal_layout.proofs.SameRecord.{same_record}
use Rattle.journal_recover.proofs.Records.{one_more, valid_more, adds_none}
use Rattle.journal_recover.proofs.sectors.make_records.Goals as goal

pub loop-j-init : goal.loop-j-init
loop-j-init g c = record {
  valid = c.requires.valid;
  one_each = c.requires.one_each;
  adds = adds_none c.args.live.now c.args.place c.args.entries.now c.args.sector.now (g.S.RecordSink.kept c.args.sink.now);
}

pub returns-then-not-make_record-clause-reads : goal.returns-then-not-make_record-clause-reads
returns-then-not-make_record-clause-reads g c =
    let live = c.args.live.now in
    let sector = c.args.sector.now in
    let adds = c.loop-j.invariant.adds in
    let few = c.blocks-in-loop-j.ensures.limits.few_blocks in (
      c.requires.at,
      (
        adds.0,
        adds.1,
        adds.2,
        search rules,
        λ made spelled legal.
            let one : made ≡ c.in-Some.made = same_record live.version (blocks_of live) sector c.loop-j.j made c.in-Some.made few spelled (search rules) in
            let here : IsLegalOn c.loop-j.entries c.in-Some.made = subst (λ (r : Record). IsLegalOn c.loop-j.entries r) one (subst (λ (es : List Entry). IsLegalOn es made) (sym adds.3) legal) in
            let wrong = c.make_record.ensures.legal.1 here in search rules,
        adds.4,
      ),
    )

pub loop-j-preserved : goal.loop-j-preserved
loop-j-preserved g c =
    let live = c.args.live.now in
    let legal : IsLegalOn c.loop-j.entries c.in-Some.made = c.make_record.ensures.legal.0 (search rules) in
    let stepped = c.make_record.ensures.steps (search rules) in
    let small : c.loop-j.j < 30 = omega (arith, c.requires.count) in
    record {
      valid = valid_more c.loop-j.entries c.make_record.new.entries c.in-Some.made c.loop-j.invariant.valid legal stepped;
      one_each = search rules;
      adds = one_more live c.args.place c.args.at c.args.entries.now c.args.sector.now c.loop-j.j c.loop-j.entries c.make_record.new.entries c.in-Some.made _ _ _
          c.requires.at small c.loop-j.invariant.adds (search rules) legal stepped (search rules);
    }
