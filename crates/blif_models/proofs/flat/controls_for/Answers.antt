use Rattle.std.proofs.Common.{sym, ◌∙◌}
use Rattle.blif_models.proofs.flat.controls_for.Goals as goal

pub returns-then-not-is_needed : goal.returns-then-not-is_needed
returns-then-not-is_needed c = λ timed. absurd (let off = sym c.if-not-is_needed.true ∙ c.some_timed-is_needed.ensures ∙ timed in cc)

pub returns : goal.returns
returns c = λ timed. c.in_ok-controls.ensures
