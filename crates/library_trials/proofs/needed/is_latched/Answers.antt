use Rattle.std.proofs.Common.{sym, ◌∙◌}
use Rattle.circuit_model.specs.declared.circuit.Latch.{Latch}
use Rattle.net_core.proofs.Lookups.{has_map_at}
use Rattle.library_trials.proofs.needed.is_latched.Goals as goal

pub returns-then-eq : goal.returns-then-eq
returns-then-eq c =
    sym (has_map_at (λ (latch : Latch). latch.input) c.args.latches.now c.loop-latch.latch-index c.latch-item.result c.args.name.now c.loop-latch-test.true c.latch-item.is (sym c.eq.ensures ∙ c.if-eq.true))
