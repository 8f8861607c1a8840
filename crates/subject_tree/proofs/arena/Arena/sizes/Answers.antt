use Rattle.std.proofs.Common.{ℕ, List, ◌∙◌, ap, arith}
use Rattle.subject_tree.specs.Sizes.{size_over}
use Rattle.subject_tree.proofs.Measuring.{sizes_more, sizes_all}
use Rattle.subject_tree.proofs.arena.Arena.sizes.Goals as goal

pub loop-number-preserved : goal.loop-number-preserved
loop-number-preserved c =
    sizes_more c.args.self.now c.loop-number.number c.size_over-size.result c.vertex.result c.loop-number.sizes.items c.push.new.self.items c.sound.ensures (omega arith) c.vertex.ensures c.loop-number.invariant
    (c.size_over-size.ensures ∙ ap (λ (xs : List ℕ). size_over xs c.vertex.result) c.as_slice.ensures.value) c.in_ok-push.ensures.items

pub returns : goal.returns
returns c = sizes_all c.args.self.now c.loop-number.number c.loop-number.sizes.items (omega arith) c.loop-number.invariant
