use Rattle.std.proofs.Common.{rules, ◌≡◌, Err}
use Rattle.sis_session.specs.Commands.{Blif, spec_held, spec_in}
use Rattle.sis_session.proofs.Stepping.{used_did, unused_did}
use Rattle.sis_session.proofs.session.Session.read_blif.Goals as goal

pub returns-in_err-bytes-clause-did : goal.returns-in_err-bytes-clause-did
returns-in_err-bytes-clause-did g c =
    let same : c.from_residual.result ≡ Err c.in_err-bytes.field-0.0 = search rules in
    rw same (unused_did g.S.Store.calls (λ bytes. spec_held c.args.self.now (spec_in Blif c.args.self.now c.args.name.now bytes)) c.args.name.now c.text.result.now _ _ c.in_err-bytes.field-0.0 c.text.ensures c.in_err-bytes.ensures.loaded)

pub returns-clause-did : goal.returns-clause-did
returns-clause-did g c =
    used_did g.S.Store.calls (λ bytes. spec_held c.args.self.now (spec_in Blif c.args.self.now c.args.name.now bytes)) c.args.name.now c.text.result.now c.as_slice.result.now _ _ c.in_ok-bytes.bytes _
    c.text.ensures c.as_slice.ensures.value c.in_ok-bytes.ensures.loaded c.take_spec.ensures.came
