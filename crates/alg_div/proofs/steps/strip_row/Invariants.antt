use Rattle.std.proofs.Common.{◌≡◌, ◌++◌, drop}
use Rattle.alg_div.specs.Steps.{strip}
use Rattle.alg_div.proofs.steps.strip_row.Given as goal

abbrev pub invariant-loop-place : goal.invariant-loop-place
invariant-loop-place l = l.made.items ++ strip (drop l.place l.mask) (drop l.place l.row) ≡ strip l.mask l.row
