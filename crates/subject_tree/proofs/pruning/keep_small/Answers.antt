use Rattle.std.proofs.Common.{arith}
use Rattle.subject_tree.proofs.Shrinking.{kept_over, kept_more}
use Rattle.subject_tree.proofs.pruning.keep_small.Goals as goal

pub keep_vertex-requires : goal.keep_vertex-requires
keep_vertex-requires c is =
    kept_over c.args.limit c.args.arena.now c.loop-number.kept c.loop-number.numbers.items c.as_slice.result.now c.args.sizes.now c.loop-number.number c.size_at.result c.vertex.result c.sound.ensures (omega arith)
    c.loop-number.invariant c.as_slice.ensures.value c.vertex.ensures c.requires.sizes c.size_at.ensures c.requires.limit is

pub loop-number-preserved : goal.loop-number-preserved
loop-number-preserved c =
    kept_more c.args.limit c.args.arena.now c.loop-number.kept c.keep_vertex.new.kept c.loop-number.numbers.items c.as_slice.result.now c.args.sizes.now c.push.new.self.items c.loop-number.number c.size_at.result c.in_ok-made.made
    c.vertex.result c.sound.ensures (omega arith) c.loop-number.invariant c.as_slice.ensures.value c.vertex.ensures c.requires.sizes c.size_at.ensures c.requires.limit c.in_ok-push.ensures.items c.in_ok-made.ensures.kept
    c.in_ok-made.ensures.has c.in_ok-made.ensures.added
