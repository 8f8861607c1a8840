use Rattle.std.proofs.Common.{◌∙◌}
use Rattle.circuit_model.proofs.Levels.{fit_by}
use Rattle.circuit_model.proofs.simulation.do_fit.Goals as goal

pub returns-then-start-len : goal.returns-then-start-len
returns-then-start-len c =
    fit_by c.args.circuit.now c.args.start.now c.args.rows.now c.len-then-start-len.result c.have_width.result (c.if-start-len.true ∙ c.len.ensures) c.len-then-start-len.ensures c.have_width.ensures
