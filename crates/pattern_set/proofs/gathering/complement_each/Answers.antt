use Rattle.std.proofs.Common.{[], get_or, refl}
use Rattle.subject_tree.specs.Trees.{complement_of}
use Rattle.subject_tree.proofs.Joining.{kept_on}
use Rattle.pattern_set.proofs.Numbering.{each_more}
use Rattle.pattern_set.proofs.gathering.complement_each.Goals as goal

pub loop-number-preserved : goal.loop-number-preserved
loop-number-preserved c = record {
  kept = kept_on c.args.arena.now c.loop-number.arena c.complement.new.self c.loop-number.invariant.kept c.in_ok-complement.ensures.kept;
  made = each_more complement_of c.args.arena.now c.loop-number.arena c.complement.new.self c.args.numbers.now c.loop-number.made.items c.push.new.self.items [] c.loop-number.number-index
      (get_or c.args.numbers.now c.loop-number.number-index 0) c.in_ok-complement.field-0 c.loop-number.invariant.kept c.in_ok-complement.ensures.kept c.requires c.loop-number-test.true refl c.loop-number.invariant.made
      c.in_ok-complement.ensures.ok c.in_ok-push.ensures.items;
}
