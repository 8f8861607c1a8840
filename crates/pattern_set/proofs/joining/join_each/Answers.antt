use Rattle.std.proofs.Common.{ℕ, get_or, refl, subst}
use Rattle.subject_tree.specs.Trees.{Tree}
use Rattle.subject_tree.specs.Arenas.{tree_at, Has}
use Rattle.subject_tree.specs.Tables.{trees_of}
use Rattle.subject_tree.proofs.Joining.{kept_on}
use Rattle.pattern_set.specs.Lists.{join_by}
use Rattle.pattern_set.proofs.Numbering.{each_more}
use Rattle.pattern_set.proofs.joining.join_each.Goals as goal

pub loop-right-preserved : goal.loop-right-preserved
loop-right-preserved c = record {
  kept = kept_on c.args.arena.now c.loop-right.arena c.join.new.arena c.loop-right.invariant.kept c.in_ok-join.ensures.kept;
  made = each_more (join_by c.args.kind (tree_at c.args.arena.now c.args.left)) c.args.arena.now c.loop-right.arena c.join.new.arena c.args.others.now c.loop-right.made.items c.push.new.self.items
      (trees_of c.args.arena.now c.args.made.now.items) c.loop-right.right-index (get_or c.args.others.now c.loop-right.right-index 0) c.in_ok-join.field-0 c.loop-right.invariant.kept c.in_ok-join.ensures.kept
      c.requires.others c.loop-right-test.true refl c.loop-right.invariant.made
      (subst (λ (t : Tree ℕ). Has c.join.new.arena c.in_ok-join.field-0 (join_by c.args.kind t (tree_at c.loop-right.arena (get_or c.args.others.now c.loop-right.right-index 0))))
      (c.loop-right.invariant.kept c.args.left c.requires.left).1 c.in_ok-join.ensures.ok) c.in_ok-push.ensures.items;
}
