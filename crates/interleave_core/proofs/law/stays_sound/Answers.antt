use Rattle.interleave_core.proofs.Always.{always_sound, always_fits, stopped_fits, recovers_all}
use Rattle.interleave_core.proofs.Valid.{always_valid}
use Rattle.interleave_core.proofs.Wrong.{none_wrong, all_counted}
use Rattle.interleave_core.proofs.law.stays_sound.Goals as goal

pub returns-clause-sound : goal.returns-clause-sound
returns-clause-sound c = always_sound

pub returns-clause-apart : goal.returns-clause-apart
returns-clause-apart c = λ blocks sectors workers list w run. (always_sound blocks sectors workers list w run).apart

pub returns-clause-legal : goal.returns-clause-legal
returns-clause-legal c = λ blocks sectors workers list w run. (always_sound blocks sectors workers list w run).legal

pub returns-clause-fitting : goal.returns-clause-fitting
returns-clause-fitting c = always_fits

pub returns-clause-stopped : goal.returns-clause-stopped
returns-clause-stopped c = stopped_fits

pub returns-clause-recovered : goal.returns-clause-recovered
returns-clause-recovered c = recovers_all

pub returns-clause-wrong : goal.returns-clause-wrong
returns-clause-wrong c = none_wrong

pub returns-clause-steps : goal.returns-clause-steps
returns-clause-steps c = all_counted

pub returns-clause-entries : goal.returns-clause-entries
returns-clause-entries c = always_valid c.entries_stay.ensures
