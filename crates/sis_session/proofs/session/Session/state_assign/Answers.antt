use Rattle.std.proofs.Common.{rules, ◌≡◌, Ok, Err, ◌∙◌, ap, subst, sym}
use Rattle.sis_outside.specs.Calls.{Follows}
use Rattle.state_code.specs.Encoded.{encoded}
use Rattle.sis_session.specs.Commands.{coding_of, encoded_reply}
use Rattle.sis_session.specs.Methods.{AskedNone}
use Rattle.sis_session.specs.Plan.{Did, Done, sends}
use Rattle.sis_session.specs.State.{Held, with_encoded}
use Rattle.std.specs.Prelude.{None}
use Rattle.sis_session.proofs.Stepping.{encoded_did, no_machine_did, unencoded_did}
use Rattle.sis_session.proofs.session.Session.state_assign.Goals as goal

pub returns-in_default-clause-did : goal.returns-in_default-clause-did
returns-in_default-clause-did g c =
    no_machine_did g.O.Sink.calls (coding_of c.args.style) c.args.self.now c.args.self.now.machine
    _ (ap (λ (h : Held). h.machine) (sym c.self.view_is) ∙ c.in_default.is)

pub returns-in_err-network-clause-did : goal.returns-in_err-network-clause-did
returns-in_err-network-clause-did g c =
    let same : c.from_residual.result ≡ Err c.in_err-network.field-0.0 = search rules in
    rw same (unencoded_did g.O.Sink.calls (coding_of c.args.style) c.args.self.now
    c.args.self.now.machine c.in-Some.machine _ c.in_err-network.field-0.0
    (ap (λ (h : Held). h.machine) (sym c.self.view_is) ∙ c.in-Some.is)
    c.in_err-network.ensures.encoded)

pub returns-in-Ok-clause-did : goal.returns-in-Ok-clause-did
returns-in-Ok-clause-did g c =
    let made = c.in_ok-network.ensures.encoded in
    let coding = coding_of c.args.style in
    let left : with_encoded c.args.self.now c.args.self.now.network (encoded coding c.in-Some.machine)
    ≡ c.hold_encoded.new.self =
    ap (with_encoded c.args.self.now c.args.self.now.network) (sym made.1)
    ∙ sym c.hold_encoded.ensures in
    subst (λ (h : Held). Did (λ plan. plan ≡
    sends None (encoded_reply coding c.args.self.now c.args.self.now.machine)) AskedNone
    (Follows g.O.Sink.calls c.args.out.now c.put.new.out) (Done h c.in-Ok.next)) left
    (encoded_did g.O.Sink.calls coding c.args.self.now c.args.self.now.machine c.in-Some.machine
    c.as_slice.result.now c.args.out.now c.put.new.out (Ok c.in-Ok.next)
    (ap (λ (h : Held). h.machine) (sym c.self.view_is) ∙ c.in-Some.is) made.0
    (c.as_slice.ensures.value ∙ made.2) c.in-Ok.ensures)

pub returns-in-Err-clause-did : goal.returns-in-Err-clause-did
returns-in-Err-clause-did g c =
    let made = c.in_ok-network.ensures.encoded in
    encoded_did g.O.Sink.calls (coding_of c.args.style) c.args.self.now c.args.self.now.machine
    c.in-Some.machine c.as_slice.result.now c.args.out.now c.put.new.out (Err c.in-Err.fault)
    (ap (λ (h : Held). h.machine) (sym c.self.view_is) ∙ c.in-Some.is) made.0
    (c.as_slice.ensures.value ∙ made.2) c.in-Err.ensures
