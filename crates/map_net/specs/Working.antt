-- How the code goes over covers and tables. No public clause needs these definitions.
use Rattle.std.specs.Prelude.{◌≡◌, ℕ, ◌+◌, ◌<◌, List, [], ◌∷◌, ◌++◌, length}
use Rattle.std.specs.Prelude.{option_map, option_to_list, slice_get}
use Rattle.std.specs.List.{AllByRecursion}
use Rattle.circuit_model.specs.declared.circuit.Table.{Table}
use Rattle.subject_tree.specs.declared.judging.Role.{Role}
use Rattle.subject_tree.specs.declared.judging.Role.TheVariants.{Constant, Put, Unused}
use Rattle.subject_tree.specs.declared.judging.Role.TheVariants.{Root}
use Rattle.tree_cover.specs.declared.writing.Signal.{Signal}
use Rattle.tree_cover.specs.declared.writing.Signal.TheVariants.{Leaf, Gate}
use Rattle.tree_cover.specs.declared.writing.CoverGate.{CoverGate}
use Rattle.map_net.specs.declared.covers.TreeCover.{TreeCover}
use Rattle.map_net.specs.Mapping.{buffer}

-- what drives a root, and the gates of its cover: no gate if it is a leaf, otherwise the last gate
abbrev pub EndsAt : Signal → List CoverGate → Type 0
EndsAt (Leaf place) gates = gates ≡ []
EndsAt (Gate k) gates = length gates ≡ k + 1

-- a cover ends at its root, and its gates are indices into a library of so many gates
pub record IsReady (count : ℕ) (cover : TreeCover) : Type 0 where
  pub ends : EndsAt cover.root cover.gates
  pub places : AllByRecursion (λ (gate : CoverGate). gate.place < count) cover.gates

-- what is left of a root that a signal drives
abbrev pub root_left : List (List ℕ) → Table → Signal → List Table
root_left names table (Gate k) = []
root_left names table (Leaf place) = option_to_list
    (option_map (λ (signal : List ℕ). buffer signal table.output) (slice_get names place))

-- what is left of the table of the next root, and the covers after its own
abbrev pub next_left : List (List ℕ) → Table → List TreeCover → List Table
next_left names table [] = []
next_left names table (cover ∷ covers) = root_left names table cover.root

abbrev pub behind_next : List TreeCover → List TreeCover
behind_next [] = []
behind_next (cover ∷ covers) = covers

-- what is left of a table of a fate, and the covers of the roots after it
abbrev pub table_left : List (List ℕ) → Role → Table → List TreeCover → List Table
table_left names Constant table covers = table ∷ []
table_left names Put table covers = []
table_left names Unused table covers = []
table_left names Root table covers = next_left names table covers

abbrev pub covers_behind : Role → List TreeCover → List TreeCover
covers_behind Constant covers = covers
covers_behind Put covers = covers
covers_behind Unused covers = covers
covers_behind Root covers = behind_next covers

-- what is left of tables of fates, given the covers of their roots in order
unfoldable pub left_from : List (List ℕ) → List Role → List Table → List TreeCover → List Table
left_from names [] tables covers = []
left_from names (fate ∷ fates) [] covers = []
left_from names (fate ∷ fates) (table ∷ tables) covers =
    table_left names fate table covers ++ left_from names fates tables (covers_behind fate covers)
