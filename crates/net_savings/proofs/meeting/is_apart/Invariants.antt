use Rattle.std.proofs.Common.{◌≡◌, drop}
use Rattle.net_savings.specs.Meeting.{is_apart}
use Rattle.net_savings.proofs.meeting.is_apart.Given as goal

abbrev pub invariant-loop-place : goal.invariant-loop-place
invariant-loop-place l = is_apart (drop l.place l.cube) ≡ is_apart l.cube
