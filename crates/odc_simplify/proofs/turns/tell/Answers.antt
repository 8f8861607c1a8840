use Rattle.std.proofs.Common.{ap, ◌∙◌}
use Rattle.circuit_model.specs.Names.{has}
use Rattle.circuit_model.specs.Soundness.{outputs_of}
use Rattle.net_func.specs.Held.{circuit_of}
use Rattle.odc_simplify.proofs.Kept.{made_fits, made_acyclic, made_output, made_reads}
use Rattle.odc_simplify.proofs.turns.tell.Goals as goal

pub replace-requires-clause-driven : goal.replace-requires-clause-driven
replace-requires-clause-driven g c =
    ap (has (outputs_of (circuit_of c.args.kept.now).tables))
    (made_output (circuit_of c.args.kept.now) c.args.name.now c.in_ok-written.written
    c.requires.ready.sound c.requires.driven
    (λ old at. c.in_ok-written.ensures ∙ c.requires.minimized old at))
    ∙ c.requires.driven

pub replace-requires-clause-fitting : goal.replace-requires-clause-fitting
replace-requires-clause-fitting g c =
    made_fits (circuit_of c.args.kept.now) c.args.name.now c.in_ok-written.written
    c.requires.ready.sound c.requires.driven
    (λ old at. c.in_ok-written.ensures ∙ c.requires.minimized old at)

pub replace-requires-clause-acyclic : goal.replace-requires-clause-acyclic
replace-requires-clause-acyclic g c =
    made_acyclic (circuit_of c.args.kept.now) c.args.name.now c.in_ok-written.written
    c.requires.ready.sound c.requires.driven
    (λ old at. c.in_ok-written.ensures ∙ c.requires.minimized old at)

pub replace-requires-clause-reads : goal.replace-requires-clause-reads
replace-requires-clause-reads g c =
    made_reads (circuit_of c.args.kept.now) c.args.name.now c.in_ok-written.written
    c.requires.ready.sound c.requires.driven
    (λ old at. c.in_ok-written.ensures ∙ c.requires.minimized old at)
