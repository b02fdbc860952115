use Rattle.std.proofs.Common.{◌+◌, ◌++◌, length, ap, ◌∙◌, arith}
use Rattle.std.proofs.lemmas.List.Elements.{All-append, All-same}
use Rattle.run_plan.specs.Drafts.{IsDraft, IsSettings}
use Rattle.run_plan.specs.Loops.{as_defined, settings_of}
use Rattle.run_plan.proofs.DraftLaws.{drafts_are, settings_are}
use Rattle.run_plan.proofs.Steps.{few_runs}
use Rattle.run_plan.proofs.runs.push_runs.Goals as goal

pub push_drafts-requires-clause-few : goal.push_drafts-requires-clause-few
push_drafts-requires-clause-few c =
    omega (
      arith,
      ap length c.as_slice-3.ensures.value,
      few_runs c.args.d.now _ _ _ _ (length c.args.runs.now.items) c.in_ok-push_settings.ensures c.new-all.ensures.items c.as_slice.ensures (omega (arith, c.in_ok-picks.ensures.few)),
    )

pub returns-clause-few : goal.returns-clause-few
returns-clause-few c =
    omega (
      arith,
      c.in_ok-push_drafts.ensures.many,
      ap length c.as_slice-3.ensures.value,
      few_runs c.args.d.now _ _ _ _ (length c.args.runs.now.items) c.in_ok-push_settings.ensures c.new-all.ensures.items c.as_slice.ensures (omega (arith, c.in_ok-picks.ensures.few)),
    )

pub returns-clause-all : goal.returns-clause-all
returns-clause-all c =
    let ss = c.as_slice-3.result.now in
    let within = All-same IsSettings ss (settings_of c.args.d.now c.as_slice.result.now as_defined)
    (c.as_slice-3.ensures.value ∙ c.in_ok-push_settings.ensures ∙ ap (λ xs. xs ++ settings_of c.args.d.now c.as_slice.result.now as_defined) c.new-all.ensures.items)
    (settings_are c.args.d.now c.requires.ranges c.as_slice.result.now as_defined (record { threads = tt; some_threads = tt; xfersize = tt; rdpct = tt })) in
    All-same IsDraft _ _ c.in_ok-push_drafts.ensures.value
    (All-append IsDraft c.args.runs.now.items _ c.requires.drafts
    (drafts_are c.args.work.now c.requires.work c.args.d.now c.as_slice-2.result.now (length c.args.runs.now.items + 1) ss within))
