use Rattle.std.proofs.Common.{◌≡◌, ℕ, List, map, length, take, bytes_eq}
use Rattle.indexmap.specs.IndexMap.{get}
use Rattle.subject_tree.specs.Trees.{Tree, renamed}
use Rattle.subject_tree.specs.Order.{name_at, KeepsNames}
use Rattle.subject_tree.specs.Arenas.{KeepsTrees}
use Rattle.subject_tree.specs.Tables.{trees_of, AreTaken}
use Rattle.subject_tree.specs.Reading.{AreRead}
use Rattle.subject_tree.proofs.forest.read_signals.Given as goal

abbrev pub invariant-loop-signal : goal.invariant-loop-signal
invariant-loop-signal l = record {
  kept : KeepsTrees l.fn.arena l.arena;
  named : KeepsNames l.fn.leaves l.leaves;
  taken : AreTaken l.arena l.found.items;
  count : length l.found.items ≡ l.signal-index;
  trees : (tree : List ℕ → Tree (List ℕ)) → AreRead l.fn.arena l.fn.leaves (get bytes_eq l.numbers) tree l.signals → (more : List (List ℕ)) → KeepsNames l.leaves more → map (renamed (name_at more)) (trees_of l.arena l.found.items) ≡ map tree (take l.signal-index l.signals);
}
