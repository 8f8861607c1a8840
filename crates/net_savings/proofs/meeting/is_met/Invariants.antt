use Rattle.std.proofs.Common.{◌≡◌, drop}
use Rattle.net_savings.specs.Meeting.{is_met}
use Rattle.net_savings.proofs.meeting.is_met.Given as goal

abbrev pub invariant-loop-cube : goal.invariant-loop-cube
invariant-loop-cube l = is_met l.rows (drop l.cube-index l.cover) ≡ is_met l.rows l.cover
