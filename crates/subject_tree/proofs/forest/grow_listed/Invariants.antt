use Rattle.std.proofs.Common.{ℕ, List, take, bytes_eq}
use Rattle.indexmap.specs.IndexMap.{get}
use Rattle.subject_tree.specs.Trees.{Tree}
use Rattle.subject_tree.specs.Forest.{AreTrees}
use Rattle.subject_tree.specs.Reading.{AllTaken, IsGrown}
use Rattle.subject_tree.proofs.forest.grow_listed.Given as goal

abbrev pub invariant-loop-name : goal.invariant-loop-name
invariant-loop-name l = record {
  taken : AllTaken l.arena (get bytes_eq l.numbers);
  grown : (tree : List ℕ → Tree (List ℕ)) → AreTrees l.circuit tree → IsGrown l.circuit l.arena l.leaves (get bytes_eq l.numbers) tree (take l.name-index l.names);
}
