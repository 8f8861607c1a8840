use Rattle.std.proofs.Common.{rules, ◌≡◌, Err}
use Rattle.sis_session.specs.Commands.{Blif, spec_held, spec_in}
use Rattle.sis_session.specs.declared.refusal.StepFault.TheVariants as fault
use Rattle.sis_session.proofs.Going.{wanting}
use Rattle.sis_session.proofs.Stepping.{read_comes}
use Rattle.sis_session.proofs.session.Session.take_spec.Goals as goal

pub returns-in-Ok-clause-came : goal.returns-in-Ok-clause-came
returns-in-Ok-clause-came c = read_comes c.args.self.now c.read.new.self c.args.name.now c.args.bytes.now c.in-Ok.ensures

pub returns-in_err-copy-in-Err-Fault-clause-came : goal.returns-in_err-copy-in-Err-Fault-clause-came
returns-in_err-copy-in-Err-Fault-clause-came c =
    let same : c.from_residual.result ≡ Err fault.Memory = search rules in
    rw same (wanting (spec_held c.args.self.now (spec_in Blif c.args.self.now c.args.name.now c.args.bytes.now)))
