use Rattle.net_extract.proofs.Made.{made_is}
use Rattle.net_extract.proofs.stepping.divided_of.Goals as goal

pub returns-in_ok-table-in-Some : goal.returns-in_ok-table-in-Some
returns-in_ok-table-in-Some g c =
    let some = rw c.in-Some.is at c.in_ok-divided_table.ensures.some in
    let over = rw c.in-Some.is at c.in_ok-divided_table.ensures.over in
    made_is c.args.name.now c.args.cover.now c.args.entry.now c.in-Some.made c.in_ok-table-in-Some.table some over c.requires.once c.in_ok-table-in-Some.ensures
