use Rattle.tree_cover.proofs.Misfits.{count_more, outlines_more}
use Rattle.tree_cover.proofs.outlines.outlines_of.Goals as goal

pub loop-pattern-preserved : goal.loop-pattern-preserved
loop-pattern-preserved c = record {
  count = count_more c.loop-pattern.numbers.items c.push.new.self.items c.in_ok-number.number c.loop-pattern.pattern c.loop-pattern.invariant.count c.in_ok-push.ensures.items;
  outlines = outlines_more c.loop-pattern.arena c.outline_at.new.outlines c.args.shapes.now c.loop-pattern.numbers.items c.push.new.self.items c.loop-pattern.pattern c.in_ok-number.number c.in_ok-number.ensures.kept c.loop-pattern.invariant.count
      c.loop-pattern.invariant.outlines c.in_ok-number.ensures.ok c.in_ok-push.ensures.items;
}
