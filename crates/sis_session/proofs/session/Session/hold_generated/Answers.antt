use Rattle.std.proofs.Common.{subst, sym}
use Rattle.circuit_model.specs.Counts.{IsWithinLimits}
use Rattle.circuit_model.specs.Soundness.{IsSound}
use Rattle.sis_session.proofs.GeneratedCircuits.{circuit_sound, circuit_within}
use Rattle.sis_session.proofs.session.Session.hold_generated.Goals as goal

pub hold_circuit-requires-clause-sound : goal.hold_circuit-requires-clause-sound
hold_circuit-requires-clause-sound c =
    subst IsSound (sym c.in_ok-circuit.ensures) (circuit_sound c.args.seed c.args.tables)

pub hold_circuit-requires-clause-limits : goal.hold_circuit-requires-clause-limits
hold_circuit-requires-clause-limits c =
    subst (λ made. IsWithinLimits made) (sym c.in_ok-circuit.ensures)
    (circuit_within c.args.seed c.args.tables)
