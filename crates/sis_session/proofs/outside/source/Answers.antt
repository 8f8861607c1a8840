use Rattle.std.proofs.Common.{rules, arith, refl, inl, inr, ◌≡◌, ◌≤◌, length, Err, ap}
use Rattle.sis_session.specs.Commands.{commands_in}
use Rattle.sis_session.specs.declared.refusal.StepFault.TheVariants as fault
use Rattle.sis_session.proofs.Scripts.{commands_short}
use Rattle.sis_session.proofs.Stepping.{nested_did, script_did, unsourced_did}
use Rattle.sis_session.proofs.outside.source.Goals as goal

pub returns-then-depth-ge-MAX_DEPTH-clause-did : goal.returns-then-depth-ge-MAX_DEPTH-clause-did
returns-then-depth-ge-MAX_DEPTH-clause-did g c = λ held.
    nested_did g.S.Store.calls c.args.depth held c.args.name.now c.args.store.now (omega (arith, c.if-depth-ge-MAX_DEPTH.true))

pub returns-in_err-text-clause-did : goal.returns-in_err-text-clause-did
returns-in_err-text-clause-did g c = λ held.
    let same : c.from_residual.result ≡ Err c.in_err-text.field-0.0 = search rules in
    rw (same, ← c.text.ensures)
    (unsourced_did g.S.Store.calls c.args.depth held c.text.result.now _ _ c.in_err-text.field-0.0 (omega (arith, c.if-depth-ge-MAX_DEPTH.false)) c.in_err-text.ensures.loaded)

pub returns-in_err-commands-clause-did : goal.returns-in_err-commands-clause-did
returns-in_err-commands-clause-did g c = λ held.
    let same : c.from_residual-in_err-commands.result ≡ Err fault.Memory = search rules in
    rw (same, ← c.text.ensures)
    (script_did g.S.Store.calls c.args.depth held c.text.result.now _ _ c.in_ok-text.text _ (omega (arith, c.if-depth-ge-MAX_DEPTH.false)) c.in_ok-text.ensures.loaded (inr refl))

pub returns-clause-did : goal.returns-clause-did
returns-clause-did g c = λ held.
    rw (c.in_ok-commands.ensures, c.as_slice.ensures.value, ← c.text.ensures)
    (script_did g.S.Store.calls c.args.depth held c.text.result.now _ _ c.in_ok-text.text _ (omega (arith, c.if-depth-ge-MAX_DEPTH.false)) c.in_ok-text.ensures.loaded (inl refl))

pub returns-clause-nests : goal.returns-clause-nests
returns-clause-nests g c =
    let long : length (commands_in c.as_slice.result.now) ≤ length c.as_slice.result.now = commands_short c.as_slice.result.now in (
      omega (arith, c.if-depth-ge-MAX_DEPTH.false),
      rw (c.in_ok-commands.ensures) (omega (arith, long, ap length c.as_slice.ensures.value, c.in_ok-text.ensures.within)),
    )
