use Rattle.std.proofs.Common.{◌≡◌, ℕ, List, map, bytes_eq}
use Rattle.indexmap.specs.IndexMap.{get}
use Rattle.circuit_model.specs.declared.circuit.Circuit.{Circuit}
use Rattle.subject_tree.specs.Forest.{fate_of}
use Rattle.subject_tree.specs.Trees.{Tree}
use Rattle.subject_tree.specs.Arenas.{KeepsTrees}
use Rattle.subject_tree.specs.Order.{KeepsNames}
use Rattle.subject_tree.specs.Reading.{AllTaken, AreRead}
use Rattle.subject_tree.specs.Roots.{AreRoots}
use Rattle.subject_tree.proofs.Rooting.{begun_roots}
use Rattle.subject_tree.proofs.forest.grow_roots.Given as goal

abbrev pub invariant-loop-place : goal.invariant-loop-place
invariant-loop-place l = record {
  kept : KeepsTrees l.fn.arena l.arena;
  named : KeepsNames l.fn.leaves l.leaves;
  taken : AllTaken l.arena (get bytes_eq l.numbers);
  roots : (circuit : Circuit) (tree : List ℕ → Tree (List ℕ)) → l.fates ≡ map (fate_of circuit) l.tables → ((signals : List (List ℕ)) → AreRead l.fn.arena l.fn.leaves (get bytes_eq l.numbers) tree signals) → AreRoots l.arena l.leaves tree (begun_roots circuit l.tables l.place) l.roots.items;
}
