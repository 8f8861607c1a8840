use Rattle.std.proofs.Common.{◌≤◌, ◌+◌, ◌-◌, length, vec_len}
use Rattle.sis_outside.specs.Calls.{Follows}
use Rattle.sis_session.specs.Plan.{MAX_BYTES}
use Rattle.sis_top.specs.Code.{IsTaking}
use Rattle.sis_top.proofs.input.take_script.Given as goal

abbrev pub invariant-pieces : goal.invariant-pieces
invariant-pieces g l = IsTaking (Follows g.I.Source.calls l.fn.input l.input) l.text.items × (length l.text.items ≤ MAX_BYTES + 1)

abbrev pub decreases-pieces : goal.decreases-pieces
decreases-pieces g l = MAX_BYTES + 1 - vec_len l.text
