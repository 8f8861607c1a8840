-- What the numbers of trees mean while a forest is made: each by the names of its leaves, whatever
-- names are added.
-- Source: Keutzer, "DAGON: Technology binding and local optimization by DAG matching" (24th Design
-- Automation Conference, 1987): each tree is made over those of the signals that it reads.
use Rattle.std.specs.Prelude.{◌≡◌, ℕ, ◌<◌, true, Option, Some, None, IfSome, List, length, bytes_eq, if◌then◌else◌}
use Rattle.std.specs.List.{AllByRecursion}
use Rattle.circuit_model.specs.Names.{has}
use Rattle.circuit_model.specs.Values.{driver}
use Rattle.circuit_model.specs.Soundness.{outputs_of}
use Rattle.circuit_model.specs.declared.circuit.Table.{Table}
use Rattle.circuit_model.specs.declared.circuit.Circuit.{Circuit}
use Rattle.subject_tree.specs.Trees.{Tree, Leaf, renamed}
use Rattle.subject_tree.specs.Order.{name_at, KeepsNames}
use Rattle.subject_tree.specs.Arenas.{tree_at}
use Rattle.subject_tree.specs.Forest.{is_put}
use Rattle.subject_tree.specs.declared.arena.Vertex.{Vertex}

-- a number's tree by the names of its leaves, whatever names are added to those that there are
abbrev pub HasTree : List Vertex → List (List ℕ) → ℕ → Tree (List ℕ) → Type 0
HasTree vertices names number t =
    (more : List (List ℕ)) → KeepsNames names more → renamed (name_at more) (tree_at vertices number) ≡ t

-- a signal's tree where it is read: that of its number, or its leaf if it has no number
abbrev pub IsRead : List Vertex → List (List ℕ) → List ℕ → Option ℕ → Tree (List ℕ) → Type 0
IsRead vertices names signal None t = t ≡ Leaf signal
IsRead vertices names signal (Some number) t = HasTree vertices names number t

-- the trees of some signals where they are read
abbrev pub AreRead : List Vertex → List (List ℕ) → (List ℕ → Option ℕ) → (List ℕ → Tree (List ℕ)) → List (List ℕ) → Type 0
AreRead vertices names numbers tree signals =
    AllByRecursion (λ signal. IsRead vertices names signal (numbers signal) (tree signal)) signals

-- the number of a tree, if there is a tree, and none otherwise
abbrev pub IsMade : List Vertex → List (List ℕ) → Option ℕ → Option (Tree (List ℕ)) → Type 0
IsMade vertices names None tree = tree ≡ None
IsMade vertices names (Some number) tree =
    (more : List (List ℕ)) → KeepsNames names more → tree ≡ Some (renamed (name_at more) (tree_at vertices number))

-- each number that a signal has is taken
abbrev pub AllTaken : List Vertex → (List ℕ → Option ℕ) → Type 0
AllTaken vertices numbers = (signal : List ℕ) → IfSome (numbers signal) (λ n. n < length vertices)

-- each number that a signal has is that of its tree, and each listed signal whose table is inlined
-- has one
pub record IsGrown (circuit : Circuit) (vertices : List Vertex) (names : List (List ℕ)) (numbers : List ℕ → Option ℕ) (tree : List ℕ → Tree (List ℕ)) (listed : List (List ℕ)) : Type 0 where
  pub trees : (signal : List ℕ) (n : ℕ) → numbers signal ≡ Some n → HasTree vertices names n (tree signal)
  pub each : (signal : List ℕ) → has listed signal ≡ true → is_put circuit signal ≡ true → numbers signal ≡ None → ⊥

-- the inputs of a signal's table that other tables drive are listed
abbrev pub IsReady : List Table → List (List ℕ) → List ℕ → Type 0
IsReady tables listed signal =
    (table : Table) (input : List ℕ) → driver tables signal ≡ Some table → has table.inputs input ≡ true → has (outputs_of tables) input ≡ true → has listed input ≡ true

-- numbers of signals, with the number of one signal set, if there is one for it
abbrev pub noted : (List ℕ → Option ℕ) → List ℕ → Option ℕ → List ℕ → Option ℕ
noted numbers signal None other = numbers other
noted numbers signal (Some n) other = if bytes_eq signal other then Some n else numbers other
