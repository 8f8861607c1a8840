use Rattle.std.proofs.Common.{sym, ◌∙◌}
use Rattle.subject_tree.proofs.Comparing.{told, level}
use Rattle.subject_tree.proofs.arena.Arena.compare.Goals as goal

pub returns-then-left-right : goal.returns-then-left-right
returns-then-left-right c =
    level c.args.leaves.now c.args.self.now c.loop-left.left c.loop-left.right c.if-left-right.true ∙ c.loop-left.invariant

pub returns-in-Done : goal.returns-in-Done
returns-in-Done c =
    let t = told c.args.leaves.now c.args.self.now c.loop-left.left c.loop-left.right c.vertex.result c.vertex-in-loop-left.result c.sound.ensures c.vertex.ensures c.vertex-in-loop-left.ensures in
    sym (t.done c.in-Done.ordering (sym c.in-Done.ensures)) ∙ c.loop-left.invariant

pub loop-left-smaller : goal.loop-left-smaller
loop-left-smaller c =
    let t = told c.args.leaves.now c.args.self.now c.loop-left.left c.loop-left.right c.vertex.result c.vertex-in-loop-left.result c.sound.ensures c.vertex.ensures c.vertex-in-loop-left.ensures in
    (t.below c.in-Below.next_left c.in-Below.next_right (sym c.in-Below.ensures)).0

pub loop-left-preserved : goal.loop-left-preserved
loop-left-preserved c =
    let t = told c.args.leaves.now c.args.self.now c.loop-left.left c.loop-left.right c.vertex.result c.vertex-in-loop-left.result c.sound.ensures c.vertex.ensures c.vertex-in-loop-left.ensures in
    sym (t.below c.in-Below.next_left c.in-Below.next_right (sym c.in-Below.ensures)).1 ∙ c.loop-left.invariant
