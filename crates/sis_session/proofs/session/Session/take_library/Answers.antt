use Rattle.std.proofs.Common.{rules, ◌≡◌, Err}
use Rattle.genlib_format.specs.Reader.{library_of}
use Rattle.sis_session.specs.Commands.{library_held}
use Rattle.sis_session.specs.declared.refusal.StepFault.TheVariants as fault
use Rattle.sis_session.proofs.Going.{wanting}
use Rattle.sis_session.proofs.Stepping.{library_comes}
use Rattle.sis_session.proofs.session.Session.take_library.Goals as goal

pub returns-in-Ok-clause-came : goal.returns-in-Ok-clause-came
returns-in-Ok-clause-came c =
    library_comes c.args.self.now _ c.args.name.now (library_of c.args.bytes.now) c.in-Ok.library c.in-Ok.ensures.reads (search rules)

pub returns-in_err-copy-in-Err-Fault-clause-came : goal.returns-in_err-copy-in-Err-Fault-clause-came
returns-in_err-copy-in-Err-Fault-clause-came c =
    let same : c.from_residual.result ≡ Err fault.Memory = search rules in
    rw same (wanting (library_held c.args.self.now c.args.name.now (library_of c.args.bytes.now)))
