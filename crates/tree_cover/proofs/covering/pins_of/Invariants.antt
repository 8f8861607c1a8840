use Rattle.std.proofs.Common.{◌≡◌, length}
use Rattle.tree_cover.specs.Candidates.{Binds}
use Rattle.tree_cover.proofs.covering.pins_of.Given as goal

abbrev pub invariant-loop-pin : goal.invariant-loop-pin
invariant-loop-pin l = record { count : length l.made ≡ l.pin; binds : Binds l.binding l.made }
