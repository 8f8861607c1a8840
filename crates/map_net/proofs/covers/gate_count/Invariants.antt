use Rattle.std.proofs.Common.{◌≡◌, take, length, sum_by}
use Rattle.subject_tree.specs.Sizes.{word_count}
use Rattle.map_net.specs.declared.covers.TreeCover.{TreeCover}
use Rattle.map_net.proofs.covers.gate_count.Given as goal

abbrev pub invariant-loop-cover : goal.invariant-loop-cover
invariant-loop-cover l = l.count ≡ word_count (sum_by (λ (cover : TreeCover). length cover.gates)
    (take l.cover-index l.covers))
