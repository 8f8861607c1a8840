use Rattle.std.proofs.Common.{Option, ap}
use Rattle.std.specs.Option.{is_some}
use Rattle.circuit_model.specs.declared.circuit.Table.{Table}
use Rattle.net_decomp.specs.Told.{told}
use Rattle.net_decomp.proofs.Turning.{put_at}
use Rattle.net_decomp.proofs.Dues.{due_parts_wide, due_rows_wide, due_turned}
use Rattle.net_decomp.proofs.stepping.part_table.Goals as goal

pub add_parts-requires-clause-wide : goal.add_parts-requires-clause-wide
add_parts-requires-clause-wide g c = due_parts_wide g.R.Row.literals c.args.rule c.args.work.now.slots c.args.place c.args.due c.requires.due

pub tidy_table-requires : goal.tidy_table-requires
tidy_table-requires g c =
    due_rows_wide g.R.Row.literals c.args.rule c.args.work.now.slots c.args.place c.args.due c.in_ok-names.names c.in_ok-joined.field-0 c.args.work.now c.add_parts.new.work c.requires.due
    c.in_ok-names.ensures.put c.in_ok-joined.ensures

pub set-requires-clause-there : goal.set-requires-clause-there
set-requires-clause-there g c =
    ap (λ (o : Option Table). is_some o)
    (put_at c.args.due.inputs (told g.R.Row.literals c.args.due.parting).parts c.in_ok-names.names c.args.place c.requires.due.table c.args.work.now c.add_parts.new.work c.in_ok-names.ensures.put c.requires.due.there)

pub returns-clause-turned : goal.returns-clause-turned
returns-clause-turned g c =
    due_turned g.R.Row.literals c.args.rule c.args.place c.args.due c.in_ok-table.table c.in_ok-names.names c.in_ok-joined.field-0 c.args.work.now c.add_parts.new.work c.set.new.self c.requires.due
    c.in_ok-names.ensures.put c.in_ok-joined.ensures c.in_ok-table.ensures.tidy c.in_ok-table.ensures.bounded c.in_ok-set.ensures
