-- The circuit that `gen` makes is sound and within the limits, and how the command goes.
use Rattle.std.proofs.Common.{◌≡◌, ℕ, min, refl, ap, inl, arith}
use Rattle.circuit_model.specs.Counts.{IsWithinLimits}
use Rattle.circuit_model.specs.Soundness.{IsSound}
use Rattle.circuit_gen.proofs.Sound.{sound, within_limits}
use Rattle.sis_script.specs.Bounds.{most_tables}
use Rattle.sis_session.specs.Commands.{circuit_of}
use Rattle.sis_session.specs.Methods.{AskedNone}
use Rattle.sis_session.specs.Plan.{Did, Does, Done, Quiet}
use Rattle.sis_session.specs.State.{Held, with_read}
use Rattle.sis_session.specs.declared.refusal.Next.TheVariants.{Go}
use Rattle.sis_session.proofs.Going.{quiet_did}

pub circuit_sound : (seed tables : ℕ) → IsSound (circuit_of seed tables)
circuit_sound seed tables = sound seed (min tables most_tables) (omega arith)

pub circuit_within : (seed tables : ℕ) → IsWithinLimits (circuit_of seed tables)
circuit_within seed tables = within_limits seed (min tables most_tables) (omega arith)

pub generated_did : (held held' : Held) (seed tables : ℕ)
    → held' ≡ with_read held (circuit_of seed tables)
    → Did (λ plan. plan ≡ Quiet (Does (with_read held (circuit_of seed tables)) Go))
    AskedNone AskedNone (Done held' Go)
generated_did held held' seed tables is =
    quiet_did (λ plan. plan ≡ Quiet (Does (with_read held (circuit_of seed tables)) Go))
    (Does (with_read held (circuit_of seed tables)) Go) (Done held' Go) refl
    (inl (ap (λ (h : Held). Done h Go) is))
