use Rattle.net_gains.proofs.Tables.{table_loses}
use Rattle.net_gains.proofs.pair_laws.gains_are_what_tables_lose.Goals as goal

pub returns : goal.returns
returns c = table_loses
