use Rattle.std.proofs.Common.{◌≡◌, take}
use Rattle.blif_models.proofs.ports.are_same.Given as goal

abbrev pub invariant-loop-place : goal.invariant-loop-place
invariant-loop-place l = take l.place l.table ≡ take l.place l.other
