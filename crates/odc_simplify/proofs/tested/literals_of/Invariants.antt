use Rattle.odc_simplify.proofs.Tests.{AreMade}
use Rattle.odc_simplify.proofs.tested.literals_of.Given as goal

-- the literals of the inputs so far
abbrev pub invariant-loop-input : goal.invariant-loop-input
invariant-loop-input g l =
    AreMade g.F.Functions.holds g.F.Functions.tree g.F.Functions.limit l.fn.functions l.functions
    l.inputs l.input-index l.literals.items
