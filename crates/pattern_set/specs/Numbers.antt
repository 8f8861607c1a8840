-- Lists of trees by the numbers of their vertices. Source: Ershov, "On programming of arithmetic
-- operations" (Communications of the ACM 1, 1958): one number for each different subterm.
use Rattle.std.specs.Prelude.{◌≡◌, ℕ, List, map, nat_eq}
use Rattle.std.specs.List.{AllByRecursion, list_any}
use Rattle.subject_tree.specs.Trees.{Tree}
use Rattle.subject_tree.specs.Tables.{trees_of, AreTaken}
use Rattle.subject_tree.specs.declared.arena.Vertex.{Vertex}
use Rattle.pattern_set.specs.Lists.{Gathered}
use Rattle.pattern_set.specs.declared.gathering.Operands.{Operands}

-- numbers have trees
abbrev pub AreNumbers : List Vertex → List ℕ → List (Tree ℕ) → Type 0
AreNumbers vertices numbers ts = AreTaken vertices numbers × (trees_of vertices numbers ≡ ts)

-- the trees of sets of numbers
abbrev pub set_trees : List Vertex → List (List ℕ) → List (List (Tree ℕ))
set_trees vertices sets = map (trees_of vertices) sets

-- each number of some sets is taken
abbrev pub SetsTaken : List Vertex → List (List ℕ) → Type 0
SetsTaken vertices sets = AllByRecursion (AreTaken vertices) sets

-- sets of numbers have sets of trees
abbrev pub AreSets : List Vertex → List (List ℕ) → List (List (Tree ℕ)) → Type 0
AreSets vertices sets ts = SetsTaken vertices sets × (set_trees vertices sets ≡ ts)

-- gathered operands, by the trees of their numbers
abbrev pub gathered_at : List Vertex → Operands → Gathered
gathered_at vertices operands = record { kind = operands.kind; sets = set_trees vertices operands.sets }

-- numbers of operands have the trees of gathered ones
abbrev pub Gathers : List Vertex → Operands → Gathered → Type 0
Gathers vertices operands gathered = SetsTaken vertices operands.sets × (gathered_at vertices operands ≡ gathered)

-- each number of each of some operands is taken
abbrev pub AllTaken : List Vertex → List Operands → Type 0
AllTaken vertices waiting = AllByRecursion (λ (operands : Operands). SetsTaken vertices operands.sets) waiting

-- the numbers of each of some operands have the trees of gathered ones
abbrev pub GatherAll : List Vertex → List Operands → List Gathered → Type 0
GatherAll vertices waiting gathered = AllTaken vertices waiting × (map (gathered_at vertices) waiting ≡ gathered)

-- two lists have the same numbers
abbrev pub HaveSame : List ℕ → List ℕ → Type 0
HaveSame one other = (n : ℕ) → list_any (nat_eq n) one ≡ list_any (nat_eq n) other
