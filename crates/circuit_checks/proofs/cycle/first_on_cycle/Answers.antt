use Rattle.std.proofs.Common.{◌∙◌}
use Rattle.circuit_checks.proofs.Driving.{found_on_cycle}
use Rattle.circuit_checks.proofs.cycle.first_on_cycle.Goals as goal

pub returns : goal.returns
returns c = c.output_at-found.ensures ∙ found_on_cycle c.args.tables.now c.requires c.in_ok-place.place c.in_ok-place.ensures
