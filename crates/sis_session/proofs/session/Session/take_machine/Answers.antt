use Rattle.std.proofs.Common.{rules, ◌≡◌, Err, ap}
use Rattle.circuit_model.specs.declared.machine.Spec.TheVariants as spec
use Rattle.sis_session.specs.Commands.{Kiss, kiss_read, spec_held, spec_in}
use Rattle.sis_session.specs.declared.refusal.StepFault.TheVariants as fault
use Rattle.sis_session.proofs.Going.{wanting}
use Rattle.sis_session.proofs.Stepping.{spec_comes}
use Rattle.sis_session.proofs.session.Session.take_machine.Goals as goal

pub returns-in-Ok-clause-came : goal.returns-in-Ok-clause-came
returns-in-Ok-clause-came c =
    spec_comes c.args.self.now _ (spec_in Kiss c.args.self.now c.args.name.now c.args.bytes.now) (spec.Machine c.in-Ok.machine)
    (ap (kiss_read c.args.name.now) c.in-Ok.ensures.value) (search rules)

pub returns-in_err-copy-in-Err-Fault-clause-came : goal.returns-in_err-copy-in-Err-Fault-clause-came
returns-in_err-copy-in-Err-Fault-clause-came c =
    let same : c.from_residual.result ≡ Err fault.Memory = search rules in
    rw same (wanting (spec_held c.args.self.now (spec_in Kiss c.args.self.now c.args.name.now c.args.bytes.now)))
