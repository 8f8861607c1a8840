use Rattle.net_decomp.proofs.Dues.{found_none, found_due}
use Rattle.net_decomp.proofs.stepping.due_of.Goals as goal

pub returns-in-None : goal.returns-in-None
returns-in-None g c = λ name. found_none g.R.Row.literals c.args.rule c.args.table.now c.in_ok-parting_of.field-0 name c.requires c.in_ok-parting_of.ensures c.in-None.is

pub returns-in_ok-copy-in-Some : goal.returns-in_ok-copy-in-Some
returns-in_ok-copy-in-Some g c = λ name.
    found_due g.R.Row.literals c.args.rule c.args.table.now c.in_ok-parting_of.field-0 name c.in-Some.parting c.in_ok-copy-in-Some.field-0 c.requires c.rows-of_one_width.ensures.widths
    c.in_ok-parting_of.ensures c.in-Some.is c.in_ok-copy-in-Some.ensures
