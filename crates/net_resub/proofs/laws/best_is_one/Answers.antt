use Rattle.net_resub.proofs.Ends.{best_by, best_table}
use Rattle.net_resub.proofs.laws.best_is_one.Goals as goal

pub returns-clause-by : goal.returns-clause-by
returns-clause-by c = best_by

pub returns-clause-table : goal.returns-clause-table
returns-clause-table c = best_table
