use Rattle.std.proofs.Common.{◌∙◌}
use Rattle.net_work.specs.Placed.{circuit_of}
use Rattle.sdc_simplify.proofs.Bounds.{bounds_kept}
use Rattle.sdc_simplify.proofs.simplifying.simplify.Goals as goal

pub returns-in-Ok-clause-bounds : goal.returns-in-Ok-clause-bounds
returns-in-Ok-clause-bounds g c =
    bounds_kept c.args.network.now (circuit_of c.in_ok-work.work) c.into_network.result
    c.in_ok-work.ensures.sound c.in_ok-work.ensures.circuit
    (c.into_network.ensures ∙ c.in-Ok.ensures.simplified) c.in-Ok.ensures.none
