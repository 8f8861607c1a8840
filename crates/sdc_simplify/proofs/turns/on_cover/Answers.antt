use Rattle.std.proofs.Common.{ap, ◌∙◌, Err}
use Rattle.sdc_simplify.proofs.Minima.{on_own, on_listed, own_short, listed_short, listed_fault}
use Rattle.sdc_simplify.proofs.turns.on_cover.Goals as goal

pub returns-then-table-clause-rows : goal.returns-then-table-clause-rows
returns-then-table-clause-rows g c =
    on_own (record { output = c.args.name.now; table = c.args.table.now }) c.in_ok-copy.field-0
    c.requires c.if-table.true c.in_ok-copy.ensures

pub returns-then-table-clause-within : goal.returns-then-table-clause-within
returns-then-table-clause-within g c =
    own_short (record { output = c.args.name.now; table = c.args.table.now }) c.if-table.true

pub returns-in-Ok-clause-rows : goal.returns-in-Ok-clause-rows
returns-in-Ok-clause-rows g c =
    on_listed (record { output = c.args.name.now; table = c.args.table.now }) c.in-Ok.list
    c.requires c.if-table.false c.in-Ok.ensures.ok

pub returns-in-Ok-clause-within : goal.returns-in-Ok-clause-within
returns-in-Ok-clause-within g c =
    listed_short (record { output = c.args.name.now; table = c.args.table.now })
    c.requires c.if-table.false c.in-Ok.ensures.within

pub returns-in-Err-clause-fault : goal.returns-in-Err-clause-fault
returns-in-Err-clause-fault g c =
    listed_fault (record { output = c.args.name.now; table = c.args.table.now }) c.in-Err.fault
    c.fault_of.result c.requires c.if-table.false
    (λ e. c.on_list.ensures.limit (c.in-Err.is ∙ ap Err e))
    c.fault_of.ensures.limit c.fault_of.ensures.memory
