-- Covers of a subject tree by gates, what they cost, and which choice of a gate is the one that is
-- taken. Source: Keutzer, "DAGON: Technology binding and local optimization by DAG matching" (24th
-- Design Automation Conference, 1987); Aho, Ganapathi, Tjiang, "Code generation using tree matching
-- and dynamic programming" (ACM Transactions on Programming Languages and Systems 11, 1989): a
-- least-cost cover of a tree by patterns. How ties are broken is the project's own.
use Rattle.std.specs.Prelude.{◌≡◌, ℕ, ◌+◌, ◌≤◌, ◌⊎◌, Some, List, [], ◌∷◌, map, length, slice_get}
use Rattle.std.specs.List.{Contains}
use Rattle.std.specs.Ordering.{ordering_then, nat_cmp}
use Rattle.std.specs.Cmp.Lexicographic.{slice_cmp}
use Rattle.std.specs.declared.cmp.Ordering.{Ordering}
use Rattle.std.specs.declared.cmp.Ordering.TheVariants.{Greater}
use Rattle.subject_tree.specs.Trees.{Tree, Leaf, Inv, Nand}
use Rattle.subject_tree.specs.Tables.{trees_of}
use Rattle.subject_tree.specs.declared.arena.Vertex.{Vertex}
use Rattle.pattern_set.specs.declared.cells.PatternGate.{PatternGate}

-- a pattern matches a tree, with a tree bound to each pin: a pin matches that tree wherever it
-- occurs, and the two sides of a NAND may be swapped
unfoldable pub Matches : Tree ℕ → Tree ℕ → List (Tree ℕ) → Type 0
Matches (Leaf pin) t bound = slice_get bound pin ≡ Some t
Matches (Inv p) (Leaf place) bound = ⊥
Matches (Inv p) (Inv t) bound = Matches p t bound
Matches (Inv p) (Nand t u) bound = ⊥
Matches (Nand p q) (Leaf place) bound = ⊥
Matches (Nand p q) (Inv t) bound = ⊥
Matches (Nand p q) (Nand t u) bound = (Matches p t bound × Matches q u bound) ⊎ (Matches p u bound × Matches q t bound)

-- a pattern that is more than a pin
unfoldable pub IsProper : Tree ℕ → Type 0
IsProper (Leaf pin) = ⊥
IsProper (Inv p) = Unit {0}
IsProper (Nand p q) = Unit {0}

-- a gate as it covers trees: its area, the number of its pins, and its patterns
pub record Tile : Type 0 where
  pub area : ℕ
  pub pins : ℕ
  pub patterns : List (Tree ℕ)

-- the gates of a library, by the trees of their patterns
abbrev pub tile_of : List Vertex → PatternGate → Tile
tile_of vertices gate = record { area = gate.area; pins = gate.pins; patterns = trees_of vertices gate.patterns }

abbrev pub tiles : List Vertex → List PatternGate → List Tile
tiles vertices gates = map (tile_of vertices) gates

-- a gate fits a tree, with a tree bound to each of its pins
pub record Fits (tile : Tile) (t : Tree ℕ) (bound : List (Tree ℕ)) : Type 0 where
  pub pins : length bound ≡ tile.pins
  pub pattern : Tree ℕ
  pub listed : Contains tile.patterns pattern
  pub proper : IsProper pattern
  pub matches : Matches pattern t bound

mutual
  -- a cover of a tree, and its cost: a leaf costs nothing, and a gate costs its area and the covers
  -- of the trees at its pins, each pin once
  pub data Cover (library : List Tile) : Tree ℕ → ℕ → Type 0 where
    leaf_cover : (place : ℕ) → Cover library (Leaf place) 0
    gate_cover : (t : Tree ℕ) (tile : Tile) (bound : List (Tree ℕ)) (cost : ℕ)
        → Contains library tile → Fits tile t bound → Covers library bound cost → Cover library t (tile.area + cost)

  pub data Covers (library : List Tile) : List (Tree ℕ) → ℕ → Type 0 where
    no_pins : Covers library [] 0
    more_pins : (t : Tree ℕ) (ts : List (Tree ℕ)) (cost rest : ℕ) → Cover library t cost → Covers library ts rest → Covers library (t ∷ ts) (cost + rest)

-- some cover of a tree costs so much, and none costs less
pub record Least (library : List Tile) (t : Tree ℕ) (cost : ℕ) : Type 0 where
  pub cover : Cover library t cost
  pub least : (other : ℕ) → Cover library t other → cost ≤ other

-- the least costs of trees, together
unfoldable pub LeastOfAll : List Tile → List (Tree ℕ) → ℕ → Type 0
LeastOfAll library [] cost = cost ≡ 0
LeastOfAll library (t ∷ ts) cost = (first : ℕ) × (rest : ℕ) × Least library t first × LeastOfAll library ts rest × (cost ≡ first + rest)

-- a gate of the library can be taken at a tree, and costs so much with the cheapest covers of the
-- trees at its pins
pub record Stands (library : List Tile) (t : Tree ℕ) (cost place : ℕ) (bound : List (Tree ℕ)) : Type 0 where
  pub tile : Tile
  pub there : slice_get library place ≡ Some tile
  pub fits : Fits tile t bound
  pub rest : ℕ
  pub cheapest : LeastOfAll library bound rest
  pub sum : cost ≡ tile.area + rest

-- the trees at the pins of each gate that fits a tree have least costs
abbrev pub HaveLeast : List Tile → Tree ℕ → Type 0
HaveLeast library t = (tile : Tile) (bound : List (Tree ℕ)) → Contains library tile → Fits tile t bound → (cost : ℕ) × LeastOfAll library bound cost

-- how two choices compare: by cost, then by the index of the gate in the library, then by the trees
-- at its pins in order
abbrev pub choice_cmp : (Tree ℕ → Tree ℕ → Ordering) → ℕ → ℕ → List (Tree ℕ) → ℕ → ℕ → List (Tree ℕ) → Ordering
choice_cmp cmp cost place bound other_cost other_place other =
    ordering_then (nat_cmp cost other_cost) (ordering_then (nat_cmp place other_place) (slice_cmp cmp bound other))

-- the choice that is taken at a tree: no other one comes before it
pub record IsGiven (cmp : Tree ℕ → Tree ℕ → Ordering) (library : List Tile) (t : Tree ℕ) (cost place : ℕ) (bound : List (Tree ℕ)) : Type 0 where
  pub stands : Stands library t cost place bound
  pub first : (other_cost other_place : ℕ) (other : List (Tree ℕ)) → Stands library t other_cost other_place other
      → choice_cmp cmp cost place bound other_cost other_place other ≡ Greater → ⊥
