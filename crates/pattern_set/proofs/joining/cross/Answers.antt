use Rattle.std.proofs.Common.{◌<◌, get_or, length, refl, sym, append-nil}
use Rattle.subject_tree.specs.Tables.{trees_of}
use Rattle.subject_tree.proofs.Joining.{all_at, taken-kept, kept_on}
use Rattle.pattern_set.specs.Lists.{join_by, crossed}
use Rattle.pattern_set.proofs.Numbering.{cross_more, kept_itself}
use Rattle.pattern_set.proofs.joining.cross.Goals as goal

pub loop-left-init : goal.loop-left-init
unfolding crossed
loop-left-init c = record {
  kept = kept_itself c.args.arena.now;
  made = (c.requires.made, sym (append-nil (trees_of c.args.arena.now c.args.made.now.items)));
}

pub join_each-requires-clause-left : goal.join_each-requires-clause-left
join_each-requires-clause-left c =
    (c.loop-left.invariant.kept _ (all_at (λ n. n < length c.args.arena.now) c.args.lefts.now c.loop-left.left-index 0 c.requires.lefts c.loop-left-test.true)).0

pub join_each-requires-clause-others : goal.join_each-requires-clause-others
join_each-requires-clause-others c = taken-kept c.args.arena.now c.loop-left.arena c.args.rights.now c.loop-left.invariant.kept c.requires.rights

pub loop-left-preserved : goal.loop-left-preserved
loop-left-preserved c = record {
  kept = kept_on c.args.arena.now c.loop-left.arena c.join_each.new.arena c.loop-left.invariant.kept c.in_ok-join_each.ensures.kept;
  made = cross_more (join_by c.args.kind) c.args.arena.now c.loop-left.arena c.join_each.new.arena c.args.lefts.now c.args.rights.now c.loop-left.made.items c.join_each.new.made.items
      (trees_of c.args.arena.now c.args.made.now.items) c.loop-left.left-index (get_or c.args.lefts.now c.loop-left.left-index 0) c.loop-left.invariant.kept c.requires.lefts c.requires.rights c.loop-left-test.true refl
      c.loop-left.invariant.made c.in_ok-join_each.ensures.ok;
}
