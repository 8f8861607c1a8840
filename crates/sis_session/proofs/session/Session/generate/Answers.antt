use Rattle.std.proofs.Common.{rules, ◌≡◌, Err}
use Rattle.sis_session.specs.Commands.{circuit_of}
use Rattle.sis_session.specs.Plan.{Does, Quiet}
use Rattle.sis_session.specs.State.{with_read}
use Rattle.sis_session.specs.declared.refusal.Next.TheVariants.{Go}
use Rattle.sis_session.specs.declared.refusal.StepFault.TheVariants as fault
use Rattle.sis_session.proofs.GeneratedCircuits.{generated_did}
use Rattle.sis_session.proofs.Going.{wanting_did}
use Rattle.sis_session.proofs.session.Session.generate.Goals as goal

pub returns-in_err-hold_generated-clause-did : goal.returns-in_err-hold_generated-clause-did
returns-in_err-hold_generated-clause-did c =
    let same : c.from_residual.result ≡ Err fault.Memory = search rules in
    rw same
    (wanting_did (λ plan. plan ≡
    Quiet (Does (with_read c.args.self.now (circuit_of c.args.seed c.args.tables)) Go)))

pub returns-clause-did : goal.returns-clause-did
returns-clause-did c =
    generated_did c.args.self.now _ c.args.seed c.args.tables (search rules)
