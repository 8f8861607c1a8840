use Rattle.std.proofs.Common.{◌-◌, length}
use Rattle.cube_cover.proofs.counts.literals_of.Given as goal

abbrev pub decreases-loop-place : goal.decreases-loop-place
decreases-loop-place g l = length (g.R.Row.literals l.row) - l.from
