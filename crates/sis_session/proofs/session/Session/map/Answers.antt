use Rattle.std.proofs.Common.{rules, ◌≡◌, Option, Ok, Err, ◌∙◌, ap, subst, sym}
use Rattle.blif_lines.specs.Libraries.{IsSoundLibrary}
use Rattle.genlib_format.specs.Soundness.{IsSoundGates}
use Rattle.sis_session.specs.State.{Held, Library, parts_held}
use Rattle.sis_session.proofs.Stepping.{mapped_did, no_circuit_did, no_library_did, unmapped_did}
use Rattle.sis_session.proofs.session.Session.map.Goals as goal

pub returns-in_default-clause-did : goal.returns-in_default-clause-did
returns-in_default-clause-did g c =
    no_circuit_did g.O.Sink.calls c.args.brief c.args.self.now c.args.self.now.network
    c.args.self.now.library c.args.out.now
    (ap (λ (h : Held). h.network) (sym c.self.view_is) ∙ c.in_default.is)

pub returns-in_default-library-clause-did : goal.returns-in_default-library-clause-did
returns-in_default-library-clause-did g c =
    no_library_did g.O.Sink.calls c.args.brief c.args.self.now c.args.self.now.network
    c.args.self.now.library c.in-Some.network c.args.out.now
    (ap (λ (h : Held). h.network) (sym c.self.view_is) ∙ c.in-Some.is)
    (ap (λ (h : Held). h.library) (sym c.self.view_is) ∙ c.in_default-library.is)

pub returns-in_err-netlist-clause-did : goal.returns-in_err-netlist-clause-did
returns-in_err-netlist-clause-did g c =
    let same : c.from_residual.result ≡ Err c.in_err-netlist.field-0.0 = search rules in
    let known : IsSoundGates c.in-Some-library.library =
    subst (λ (l : Option Library). IsSoundLibrary l) c.in-Some-library.is c.self.invariant.1.1.0 in
    rw same (unmapped_did g.O.Sink.calls c.args.brief c.args.self.now c.args.self.now.network
    c.args.self.now.library c.in-Some.network c.in-Some-library.library c.args.out.now
    c.in_err-netlist.field-0.0
    (ap (λ (h : Held). h.network) (sym c.self.view_is) ∙ c.in-Some.is)
    (ap (λ (h : Held). h.library) (sym c.self.view_is) ∙ c.in-Some-library.is)
    c.sound.ensures known c.in_err-netlist.ensures)

pub returns-in-Ok-clause-did : goal.returns-in-Ok-clause-did
returns-in-Ok-clause-did g c =
    let made = c.in_ok-netlist.ensures in
    let known : IsSoundGates c.in-Some-library.library =
    subst (λ (l : Option Library). IsSoundLibrary l) c.in-Some-library.is c.self.invariant.1.1.0 in
    rw (← c.self.view_is) (mapped_did g.O.Sink.calls c.args.brief
    (parts_held c.self.inside.network c.self.inside.previous c.self.inside.machine
    c.self.inside.library c.self.inside.netlist c.self.inside.previous_netlist)
    c.self.inside.network c.self.inside.library c.in-Some.network c.in-Some-library.library
    c.in_ok-netlist.field-0.netlist c.as_slice.result.now c.args.out.now c.put.new.out
    (Ok c.in-Ok.next) c.in-Some.is c.in-Some-library.is c.sound.ensures known made.0
    (c.as_slice.ensures.value ∙ made.1) c.in-Ok.ensures)

pub returns-in-Err-clause-did : goal.returns-in-Err-clause-did
returns-in-Err-clause-did g c =
    let made = c.in_ok-netlist.ensures in
    let known : IsSoundGates c.in-Some-library.library =
    subst (λ (l : Option Library). IsSoundLibrary l) c.in-Some-library.is c.self.invariant.1.1.0 in
    mapped_did g.O.Sink.calls c.args.brief c.args.self.now c.args.self.now.network
    c.args.self.now.library c.in-Some.network c.in-Some-library.library
    c.in_ok-netlist.field-0.netlist c.as_slice.result.now c.args.out.now c.put.new.out
    (Err c.in-Err.fault)
    (ap (λ (h : Held). h.network) (sym c.self.view_is) ∙ c.in-Some.is)
    (ap (λ (h : Held). h.library) (sym c.self.view_is) ∙ c.in-Some-library.is)
    c.sound.ensures known made.0 (c.as_slice.ensures.value ∙ made.1) c.in-Err.ensures
