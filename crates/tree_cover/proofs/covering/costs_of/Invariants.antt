use Rattle.std.proofs.Common.{◌≡◌, ◌≤◌, ◌*◌, ◌^◌, take}
use Rattle.std.specs.List.{sum_by}
use Rattle.tree_cover.specs.Candidates.{cost_at}
use Rattle.tree_cover.proofs.covering.costs_of.Given as goal

abbrev pub invariant-loop-pin : goal.invariant-loop-pin
invariant-loop-pin l = record {
  sum : l.total ≡ sum_by (cost_at l.choices) (take l.pin-index l.pins);
  small : l.total ≤ l.pin-index * 2 ^ 70;
}
