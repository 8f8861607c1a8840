use Rattle.std.proofs.Common.{length, sym, ap, ◌∙◌}
use Rattle.std.proofs.lemmas.List.{nil_from_length}
use Rattle.tree_cover.specs.Postorder.{after}
use Rattle.tree_cover.proofs.Walking.{popped, popped_below}
use Rattle.tree_cover.proofs.Sequencing.{progress, all_done}
use Rattle.tree_cover.proofs.writing.write_all.Goals as goal

pub loop-step-preserved : goal.loop-step-preserved
loop-step-preserved c = record {
  below = c.in_ok-advance.ensures.below (popped_below (length c.args.choices.now) c.loop-step.waiting.items c.pop.new.self.items c.in-Some.step c.in-Some.ensures.items c.loop-step.invariant.below).1;
  same =
      c.in_ok-advance.ensures.events
      ∙ (ap (after c.args.choices.now (progress c.loop-step.signals.items c.loop-step.gates.items))
      (sym (popped c.args.nodes.now c.args.choices.now c.requires.choices (length c.args.choices.now) c.loop-step.waiting.items c.pop.new.self.items c.in-Some.step c.in-Some.ensures.items))
      ∙ c.loop-step.invariant.same);
}

pub returns : goal.returns
returns c =
    all_done c.args.nodes.now c.args.choices.now (length c.args.choices.now) c.loop-step.waiting.items c.loop-step.signals.items c.loop-step.gates.items _
    (nil_from_length _ (sym c.loop-step.waiting.ok.0 ∙ c.in_default.ensures.cases.0)) c.loop-step.invariant.same
