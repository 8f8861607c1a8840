use Rattle.std.proofs.Common.{drop}
use Rattle.odc_simplify.specs.Turns.{IsUnderway, Serves}
use Rattle.odc_simplify.proofs.simplifying.minimize_along.Given as goal

-- the steps so far, and the functions that are kept
abbrev pub invariant-loop-name : goal.invariant-loop-name
invariant-loop-name g l = record {
  underway : IsUnderway (g.F.Functions.limit l.fn.functions) (g.F.Functions.limit l.functions)
      l.names (drop l.name-index l.names) l.fn.network l.network;
  serves : Serves g.F.Functions.holds g.F.Functions.tree g.F.Functions.limit l.functions l.network
      l.kept;
}
