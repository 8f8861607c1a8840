use Rattle.std.proofs.Common.{◌≡◌, drop, find}
use Rattle.kiss_format.specs.Groups.{clash_at}
use Rattle.kiss_format.proofs.finding.clash_among.Given as goal

abbrev pub invariant-loop-place : goal.invariant-loop-place
invariant-loop-place l = find (clash_at l.rows l.row) l.places ≡ find (clash_at l.rows l.row) (drop l.place-index l.places)
