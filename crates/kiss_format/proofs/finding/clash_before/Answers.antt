use Rattle.kiss_format.proofs.Grouped.{inside_some}
use Rattle.kiss_format.proofs.finding.clash_before.Goals as goal

pub returns-in-Some-clause-within : goal.returns-in-Some-clause-within
returns-in-Some-clause-within c =
    inside_some c.args.rows.now c.args.row.now c.args.later c.clash_of_state.result c.requires.inside c.clash_of_state.ensures
