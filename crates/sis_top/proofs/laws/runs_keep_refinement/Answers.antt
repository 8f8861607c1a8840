use Rattle.std.specs.Prelude.{None}
use Rattle.sis_top.specs.Machine.{begun}
use Rattle.sis_top.proofs.Faithful.{run_refined}
use Rattle.sis_top.proofs.laws.runs_keep_refinement.Goals as goal

pub returns : goal.returns
returns c = λ goes_on script turns to runs.
    run_refined c.steps_keep_refinement.ensures.kept goes_on (begun script) to turns runs (c.steps_keep_refinement.ensures.begun None)
