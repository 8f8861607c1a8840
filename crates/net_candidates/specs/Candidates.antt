-- What may be extracted: sums of two cubes, products of two literals, kernels, and cubes that rows
-- share. Source: Rajski and Vasudevamurthy, "The testability-preserving concurrent decomposition
-- and factorization of Boolean expressions" (IEEE Transactions on CAD 11, 1992) for `fx`; Brayton
-- and McMullen, "The Decomposition and Factorization of Boolean Expressions" (1982), and the SIS
-- report (UCB/ERL M92/41) for `gkx` and `gcx`; De Micheli, "Synthesis and Optimization of Digital
-- Circuits", chapter 8.
use Rattle.std.specs.Prelude.{◌≡◌, ◌≢◌, ◌⊎◌, ℕ, ◌≤◌, Bool, not, ◌&&◌, Option, List, [], ◌∷◌, ◌++◌, map, filter, flat_map, length, bytes_eq}
use Rattle.std.specs.Bool.{beq}
use Rattle.std.specs.List.{sum_by, list_any}
use Rattle.circuit_model.specs.declared.circuit.Table.{Table}
use Rattle.alg_div.specs.Cubes.{Has}
use Rattle.alg_kernel.specs.Kernels.{IsKernel}
use Rattle.net_candidates.specs.declared.rule.Rule.{Rule}
use Rattle.net_candidates.specs.declared.rule.Rule.TheVariants.{Fx, Gkx, Gcx}
use Rattle.cover_names.specs.Literals.{Cube, NamedCover, cube_cmp, sorted, sorted_cube}
use Rattle.cover_names.specs.Cubes.{cube_over, cover_over}
use Rattle.cover_names.specs.declared.literal.Literal.{Literal}
use Rattle.net_core.specs.Tables.{places_of}

-- two items of a list, the earlier one first
pub record ArePair {X : Type 0} (items : List X) (first second : X) : Type 0 where
  pub before : List X
  pub between : List X
  pub after : List X
  pub among : items ≡ before ++ first ∷ (between ++ second ∷ after)

-- the same literal
abbrev pub same_literal : Literal → Literal → Bool
same_literal one other = bytes_eq one.name other.name && beq one.bit other.bit

-- the number of literals of a cover, over names or over numbers
abbrev pub literals_in : {X : Type 0} → List (List X) → ℕ
literals_in cover = sum_by length cover

-- the literals of a cube that another one has too, and those that it lacks
abbrev pub shared : Cube → Cube → Cube
shared one other = filter (λ (literal : Literal). list_any (same_literal literal) other) one

abbrev pub own : Cube → Cube → Cube
own one other = filter (λ (literal : Literal). not (list_any (same_literal literal) other)) one

-- the cubes of a table's rows, each sorted, in the order of the rows
abbrev pub cubes_of : Table → List Cube
cubes_of table = map (λ row. sorted_cube (cube_over table.inputs (places_of row))) table.rows

-- a sum of two cubes: what two rows of a table have besides what they share, if both have something
pub record IsDivisorOfTwoCubes (table : Table) (cover : NamedCover) : Type 0 where
  pub one : Cube
  pub other : Cube
  pub rows : ArePair (cubes_of table) one other
  pub left : own one other ≢ []
  pub right : own other one ≢ []
  pub is : cover ≡ sorted cube_cmp (own one other ∷ own other one ∷ [])

-- a product of two literals of a row
pub record IsCubeOfTwoLiterals (table : Table) (cover : NamedCover) : Type 0 where
  pub cube : Cube
  pub among : Has cube (cubes_of table)
  pub one : Literal
  pub other : Literal
  pub literals : ArePair cube one other
  pub is : cover ≡ (one ∷ other ∷ []) ∷ []

-- a kernel of a table's rows, by names
pub record IsKernelOf (table : Table) (cover : NamedCover) : Type 0 where
  pub rows : List (List (Option Bool))
  pub kernel : IsKernel (length table.inputs) (map places_of table.rows) rows
  pub is : cover ≡ cover_over table.inputs rows

-- the cubes of all tables' rows, in order
abbrev pub all_cubes : List Table → List Cube
all_cubes tables = flat_map cubes_of tables

-- the literals that two rows of the tables share, if there are two or more: rows of one table, or
-- of two
pub record IsSharedCube (tables : List Table) (cover : NamedCover) : Type 0 where
  pub one : Cube
  pub other : Cube
  pub rows : ArePair (all_cubes tables) one other
  pub two : 2 ≤ length (shared one other)
  pub is : cover ≡ shared one other ∷ []

-- what may be extracted by a rule
abbrev pub IsCandidate : Rule → List Table → NamedCover → Type 0
IsCandidate Fx tables cover = (table : Table) × Has table tables × (IsDivisorOfTwoCubes table cover ⊎ IsCubeOfTwoLiterals table cover)
IsCandidate Gkx tables cover = (table : Table) × Has table tables × IsKernelOf table cover
IsCandidate Gcx tables cover = IsSharedCube tables cover
