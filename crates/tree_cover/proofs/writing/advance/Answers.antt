use Rattle.std.proofs.Common.{◌<◌, ◌+◌, ◌++◌, length, sum_by, sym, ap, ◌∙◌, subst}
use Rattle.tree_cover.specs.declared.writing.Step.{Step}
use Rattle.tree_cover.specs.Postorder.{after, planned, to_come, turns_of, StepBelow}
use Rattle.tree_cover.proofs.Walking.{visit_told, visit_fewer, write_told, visit_in}
use Rattle.tree_cover.proofs.Sequencing.{progress}
use Rattle.tree_cover.proofs.writing.advance.Goals as goal

pub returns-in_ok-visit-in-Visit-clause-events : goal.returns-in_ok-visit-in-Visit-clause-events
returns-in_ok-visit-in-Visit-clause-events c =
    visit_told c.args.nodes.now c.args.choices.now c.requires.choices (length c.args.choices.now) c.in-Visit.number c.visit.new.waiting.items c.args.waiting.now.items c.args.signals.now.items c.visit.new.signals.items
    c.args.gates.now.items (subst (StepBelow (length c.args.choices.now)) c.in-Visit.is c.requires.step) c.in_ok-visit-in-Visit.ensures.waiting c.in_ok-visit-in-Visit.ensures.signals
    ∙ ap (λ (step : Step). after c.args.choices.now (progress c.args.signals.now.items c.args.gates.now.items) (planned c.args.nodes.now c.args.choices.now (length c.args.choices.now) step ++ to_come c.args.nodes.now c.args.choices.now (length c.args.choices.now) c.args.waiting.now.items))
    (sym c.in-Visit.is)

pub returns-in_ok-visit-in-Visit-clause-fewer : goal.returns-in_ok-visit-in-Visit-clause-fewer
returns-in_ok-visit-in-Visit-clause-fewer c =
    subst (λ (step : Step). sum_by (turns_of c.args.nodes.now c.args.choices.now (length c.args.choices.now)) c.visit.new.waiting.items
    < sum_by (turns_of c.args.nodes.now c.args.choices.now (length c.args.choices.now)) c.args.waiting.now.items + turns_of c.args.nodes.now c.args.choices.now (length c.args.choices.now) step)
    (sym c.in-Visit.is)
    (visit_fewer c.args.nodes.now c.args.choices.now c.requires.choices (length c.args.choices.now) c.in-Visit.number c.visit.new.waiting.items c.args.waiting.now.items
    (subst (StepBelow (length c.args.choices.now)) c.in-Visit.is c.requires.step) c.in_ok-visit-in-Visit.ensures.waiting)

pub returns-in_ok-visit-in-Visit-clause-below : goal.returns-in_ok-visit-in-Visit-clause-below
returns-in_ok-visit-in-Visit-clause-below c =
    visit_in c.args.nodes.now c.args.choices.now c.requires.choices (length c.args.choices.now) c.in-Visit.number c.visit.new.waiting.items c.args.waiting.now.items
    (subst (StepBelow (length c.args.choices.now)) c.in-Visit.is c.requires.step) c.in_ok-visit-in-Visit.ensures.waiting

pub returns-in_ok-write-in-Write-clause-events : goal.returns-in_ok-write-in-Write-clause-events
returns-in_ok-write-in-Write-clause-events c =
    write_told c.args.nodes.now c.args.choices.now c.requires.choices (length c.args.choices.now) c.in-Write.number c.args.waiting.now.items c.args.signals.now.items c.write.new.signals.items c.args.gates.now.items
    c.write.new.gates.items c.in_ok-write-in-Write.ensures.signals c.in_ok-write-in-Write.ensures.gates
    ∙ ap (λ (step : Step). after c.args.choices.now (progress c.args.signals.now.items c.args.gates.now.items) (planned c.args.nodes.now c.args.choices.now (length c.args.choices.now) step ++ to_come c.args.nodes.now c.args.choices.now (length c.args.choices.now) c.args.waiting.now.items))
    (sym c.in-Write.is)
