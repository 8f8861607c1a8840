use Rattle.std.proofs.Common.{◌≡◌, map, take}
use Rattle.subject_tree.specs.Arenas.{trees}
use Rattle.subject_tree.specs.Sizes.{word_size}
use Rattle.subject_tree.proofs.arena.Arena.sizes.Given as goal

abbrev pub invariant-loop-number : goal.invariant-loop-number
invariant-loop-number l = l.sizes.items ≡ map word_size (take l.number (trees l.self))
