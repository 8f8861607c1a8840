-- Bindings of pins, by the numbers of the trees that they are bound to. Source: Aho, Ganapathi,
-- Tjiang, "Code generation using tree matching and dynamic programming" (ACM Transactions on
-- Programming Languages and Systems 11, 1989), on trees in which equal subtrees have one number.
use Rattle.std.specs.Prelude.{◌≡◌, ℕ, ◌<◌, ◌==◌, if◌then◌else◌, Option, Some, None, List, [], ◌∷◌, ◌++◌, length, replicate, slice_get, slice_set}
use Rattle.std.specs.List.{Contains, flat_map}
use Rattle.subject_tree.specs.Trees.{Tree, Leaf, Inv, Nand}
use Rattle.subject_tree.specs.Arenas.{tree_at, vertex_at}
use Rattle.subject_tree.specs.declared.arena.Vertex.{Vertex}
use Rattle.subject_tree.specs.declared.arena.Vertex.TheVariants.{Leaf as AtLeaf, Inv as AtInv, Nand as AtNand}
use Rattle.tree_cover.specs.declared.binding.Binding.{Binding}
use Rattle.sis_base.specs.declared.limits.TheConstants.{MAX_PINS}

-- each pin of a pattern is below a bound
unfoldable pub PinsBelow : ℕ → Tree ℕ → Type 0
PinsBelow width (Leaf pin) = pin < width
PinsBelow width (Inv p) = PinsBelow width p
PinsBelow width (Nand p q) = PinsBelow width p × PinsBelow width q

-- each bound pin has the number of its tree
abbrev pub Agrees : List Vertex → Binding → List (Tree ℕ) → Type 0
Agrees vertices binding bound = (pin n : ℕ) → slice_get binding.pins pin ≡ Some (Some n) → (n < length vertices) × (slice_get bound pin ≡ Some (tree_at vertices n))

-- some binding agrees with trees
abbrev pub SomeAgrees : List Vertex → List Binding → List (Tree ℕ) → Type 0
SomeAgrees vertices bindings bound = (binding : Binding) × Contains bindings binding × Agrees vertices binding bound

-- the bindings with a pin bound to a number: none if it is bound to another one already, or there
-- is no such pin
abbrev pub bound_as : ℕ → ℕ → Binding → Option (Option ℕ) → List Binding
bound_as pin n binding None = []
bound_as pin n binding (Some None) = (record { pins = slice_set binding.pins pin (Some n) }) ∷ []
bound_as pin n binding (Some (Some m)) = if m == n then binding ∷ [] else []

abbrev pub bind : ℕ → ℕ → Binding → List Binding
bind pin n binding = bound_as pin n binding (slice_get binding.pins pin)

-- what is made of the vertex below an inverter; nothing if there is none
abbrev pub under_inverter : Vertex → (ℕ → List Binding) → List Binding
under_inverter (AtLeaf place) make = []
under_inverter (AtInv n) make = make n
under_inverter (AtNand m n) make = []

-- what is made of the vertices below a NAND; nothing if there is none
abbrev pub under_nand : Vertex → (ℕ → ℕ → List Binding) → List Binding
under_nand (AtLeaf place) make = []
under_nand (AtInv n) make = []
under_nand (AtNand m n) make = make m n

-- the bindings that some bindings grow to when a pattern is matched with the tree of a number
unfoldable pub grown : List Vertex → Tree ℕ → ℕ → List Binding → List Binding
grown vertices (Leaf pin) n bindings = flat_map (bind pin n) bindings
grown vertices (Inv p) n bindings = under_inverter (vertex_at vertices n) (λ m. grown vertices p m bindings)
grown vertices (Nand p q) n bindings =
    under_nand (vertex_at vertices n) (λ m k. grown vertices q k (grown vertices p m bindings) ++ grown vertices q m (grown vertices p k bindings))

-- the bindings with which a pattern matches the tree of a number
abbrev pub matched : List Vertex → Tree ℕ → ℕ → List Binding
matched vertices pattern n = grown vertices pattern n ((record { pins = replicate MAX_PINS None }) ∷ [])
