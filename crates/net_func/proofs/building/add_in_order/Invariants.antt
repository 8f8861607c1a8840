use Rattle.std.proofs.Common.{take}
use Rattle.circuit_model.specs.Names.{has}
use Rattle.net_func.specs.Numbering.{number_in, SolvesRest}
use Rattle.net_func.proofs.Adding.{IsAdding}
use Rattle.net_func.proofs.building.add_in_order.Given as goal

-- the names so far have their numbers
abbrev pub invariant-loop-name : goal.invariant-loop-name
invariant-loop-name g l =
    IsAdding g.F.Functions.holds g.F.Functions.tree g.F.Functions.limit l.fn.functions l.functions
    (number_in l.fn.numbers) (number_in l.numbers) (has (take l.name-index l.order))
    (SolvesRest l.tables (number_in l.fn.numbers))
