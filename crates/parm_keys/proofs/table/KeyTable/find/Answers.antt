use Rattle.parm_keys.proofs.Rows.{finds, only_row, same_row, stays_within}
use Rattle.parm_keys.proofs.table.KeyTable.find.Goals as goal

pub returns-clause-found : goal.returns-clause-found
returns-clause-found g c = finds _ _ _ c.first_row.ensures

pub returns-clause-only : goal.returns-clause-only
returns-clause-only g c = only_row _ _ _ c.args.self.now.distinct c.first_row.ensures

pub returns-clause-within : goal.returns-clause-within
returns-clause-within g c = stays_within _ _ _ _ c.args.self.now.rows c.first_row.ensures

pub returns-clause-exact : goal.returns-clause-exact
returns-clause-exact g c = same_row _ c.args.self.now.words.now c.args.word.now c.first_row.ensures
