use Rattle.std.proofs.Common.{ℕ, List, [], ◌∷◌, ◌++◌, refl, ap, ◌∙◌, subst, arith}
use Rattle.subject_tree.specs.Order.{tree_cmp, place_cmp}
use Rattle.pattern_set.specs.declared.cells.PatternGate.{PatternGate}
use Rattle.tree_cover.specs.Covers.{tiles}
use Rattle.tree_cover.specs.Candidates.{IsChoice}
use Rattle.tree_cover.specs.Held.{choice_of}
use Rattle.tree_cover.proofs.Made.{all_small, made_more}
use Rattle.tree_cover.proofs.covering.best.Goals as goal

pub choose-requires-clause-small : goal.choose-requires-clause-small
choose-requires-clause-small c =
    all_small (tree_cmp (place_cmp c.args.leaves.now)) c.args.nodes.now (tiles c.args.patterns.now.arena c.args.patterns.now.gates) c.loop-number.choices c.loop-number.choices c.loop-number.number
    refl (omega arith) c.requires.sizes c.loop-number.invariant

pub loop-number-preserved : goal.loop-number-preserved
loop-number-preserved c =
    made_more (tree_cmp (place_cmp c.args.leaves.now)) c.args.nodes.now (tiles c.args.patterns.now.arena c.args.patterns.now.gates) c.loop-number.choices c.push.new.self c.loop-number.number
    (choice_of c.in_ok-choice.choice) c.loop-number.invariant
    (subst (λ (gates : List PatternGate). IsChoice (tree_cmp (place_cmp c.args.leaves.now)) c.args.nodes.now (tiles c.args.patterns.now.arena gates) c.loop-number.number (choice_of c.in_ok-choice.choice)) c.as_slice.ensures
    c.in_ok-choice.ensures)
    (c.in_ok-push.ensures.ok ∙ ap (λ (pins : List ℕ). c.loop-number.choices ++ record { cost = c.in_ok-choice.choice.cost; place = c.in_ok-choice.choice.place; pins = pins } ∷ []) c.as_slice-in-loop-number.ensures)
