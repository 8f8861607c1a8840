use Rattle.std.proofs.Common.{◌≡◌, sym, ◌∙◌, Err, ap}
use Rattle.circuit_model.specs.Soundness.{IsShaped}
use Rattle.circuit_laws.proofs.Drivers.{driver_all, driver_name}
use Rattle.func_core.specs.declared.functions.FuncFault.TheVariants.{TooBig}
use Rattle.net_func.specs.Numbering.{number_in}
use Rattle.net_func.proofs.Adding.{none_from, named_added, named_big, blames_weaker}
use Rattle.net_func.proofs.building.add_named.Goals as goal

pub add_table-requires-clause-shaped : goal.add_table-requires-clause-shaped
add_table-requires-clause-shaped g c =
    driver_all IsShaped c.args.tables.now c.requires.tables.shaped c.args.name.now
    c.table_at.result.now
    c.table_at.ensures

pub returns-in-Ok-clause-ok : goal.returns-in-Ok-clause-ok
returns-in-Ok-clause-ok g c =
    named_added g.F.Functions.holds g.F.Functions.tree g.F.Functions.limit c.args.functions.now
    c.add_table.new.functions (number_in c.args.numbers.now) (number_in c.add_table.new.numbers)
    c.args.tables.now c.args.name.now c.table_at.result.now
    (driver_name c.args.tables.now c.args.name.now c.table_at.result.now c.table_at.ensures)
    c.table_at.ensures (sym c.get.ensures ∙ none_from c.get.result (sym c.if-is_some.ensures))
    c.in-Ok.ensures.ok

pub returns-in-Err-clause-big : goal.returns-in-Err-clause-big
returns-in-Err-clause-big g c =
    blames_weaker (λ blamed. (blamed ≡ c.args.name.now) × (c.in-Err.fault ≡ TooBig)) _
    c.fault_at.result
    (λ blamed cause.
    named_big g.F.Functions.holds g.F.Functions.tree g.F.Functions.limit c.args.functions.now
    c.args.tables.now c.args.name.now c.table_at.result.now (number_in c.args.numbers.now) blamed
    cause.0
    c.table_at.ensures (sym c.get.ensures ∙ none_from c.get.result (sym c.if-is_some.ensures))
    (c.in-Err.ensures.big (ap Err cause.1)))
    c.fault_at.ensures
