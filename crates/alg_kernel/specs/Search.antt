-- The steps of a search for kernels, on a sum whose rows are in increasing order. No public clause
-- needs these definitions. Source: Brayton and McMullen, "The Decomposition and Factorization of
-- Boolean Expressions" (1982); De Micheli, "Synthesis and Optimization of Digital Circuits",
-- chapter 8 (kernels by recursion over literals).
use Rattle.std.specs.Prelude.{◌≡◌, ℕ, ◌+◌, ◌<◌, ◌≤◌, ◌↔◌, ◌⊎◌, Bool, true, false, not, ◌&&◌, if◌then◌else◌, Option, Some, None, List, [], ◌∷◌, map, length, slice_index_or}
use Rattle.std.proofs.Common.{take, drop}
use Rattle.std.specs.declared.cmp.Ordering.TheVariants.{Less}
use Rattle.std.specs.declared.vec.Vec.{Vec}
use Rattle.cube_cover.specs.Literals.{has_literal}
use Rattle.alg_div.specs.Cubes.{Has}
use Rattle.alg_div.specs.Steps.{strip, literals_in}
use Rattle.alg_kernel.specs.Kernels.{NoCommon, Ascends, rows_cmp}
use Rattle.sis_base.specs.declared.limits.TheConstants.{MAX_KERNELS}

-- lists of rows as lists of literals
abbrev pub kernels_in : {Y Z : Type 0} → List (Vec (Vec (Option Bool) Y) Z) → List (List (List (Option Bool)))
kernels_in kernels = map (λ kernel. literals_in kernel.items) kernels

-- the second literal equals the first one, unless that is a dash
abbrev pub within : Option Bool → Option Bool → Bool
within None literal = true
within (Some bit) literal = has_literal literal bit

-- whether a row has each literal of a cube
unfoldable pub holds : List (Option Bool) → List (Option Bool) → Bool
holds [] row = true
holds (literal ∷ literals) [] = within literal None && holds literals []
holds (literal ∷ literals) (other ∷ others) = within literal other && holds literals others

-- the rows that contain the cube's literals, without them
unfoldable pub over : List (Option Bool) → List (List (Option Bool)) → List (List (Option Bool))
over cube [] = []
over cube (row ∷ rows) = if holds cube row then strip cube row ∷ over cube rows else over cube rows

-- the rows with a literal
unfoldable pub holding_rows : ℕ → Bool → List (List (Option Bool)) → List (List (Option Bool))
holding_rows i bit [] = []
holding_rows i bit (row ∷ rows) = if has_literal (slice_index_or row i None) bit then row ∷ holding_rows i bit rows else holding_rows i bit rows

-- the literal that both have, if it is the same
abbrev pub both : Option Bool → Option Bool → Option Bool
both None other = None
both (Some bit) other = if has_literal other bit then Some bit else None

-- the literals that two rows have in common
unfoldable pub both_rows : List (Option Bool) → List (Option Bool) → List (Option Bool)
both_rows [] row = []
both_rows (literal ∷ literals) [] = []
both_rows (literal ∷ literals) (other ∷ others) = both literal other ∷ both_rows literals others

-- the literals of a cube that all rows have
unfoldable pub common_cube_from : List (Option Bool) → List (List (Option Bool)) → List (Option Bool)
common_cube_from cube [] = cube
common_cube_from cube (row ∷ rows) = common_cube_from (both_rows cube row) rows

-- the common cube of rows: the literals that all of them have
abbrev pub common_cube : List (List (Option Bool)) → List (Option Bool)
common_cube [] = []
common_cube (row ∷ rows) = common_cube_from row rows

-- cube-free: two rows or more, and no common literal
abbrev pub IsCubeFree : List (List (Option Bool)) → Type 0
IsCubeFree k = (2 ≤ length k) × NoCommon k

-- sums of the same rows
abbrev pub AreSame : List (List (Option Bool)) → List (List (Option Bool)) → Type 0
AreSame f g = (row : List (Option Bool)) → Has row f ↔ Has row g

-- a kernel of a sum whose rows are in increasing order
pub record IsFound (width : ℕ) (f k : List (List (Option Bool))) : Type 0 where
  pub cube : (c : List (Option Bool)) × (length c ≡ width) × (k ≡ over c f)
  pub free : IsCubeFree k

-- the kernel of the rows with a literal, without their common cube
abbrev pub kernel_at : ℕ → Bool → List (List (Option Bool)) → List (List (Option Bool))
kernel_at i bit k = over (common_cube (holding_rows i bit k)) k

-- that kernel if at least two rows have the literal, else none
abbrev pub IsKernelAt : List (List (Option Bool)) → ℕ → Bool → Option (List (List (Option Bool))) → Type 0
IsKernelAt k i bit None = length (holding_rows i bit k) < 2
IsKernelAt k i bit (Some kernel) = (2 ≤ length (holding_rows i bit k)) × (kernel ≡ kernel_at i bit k)

-- the kernels of each literal that occurs in two rows are seen
abbrev pub IsExplored : List (List (List (Option Bool))) → List (List (Option Bool)) → Type 0
IsExplored seen k = (i : ℕ) (bit : Bool) → 2 ≤ length (holding_rows i bit k) → Has (kernel_at i bit k) seen

-- a search: kernels of f in increasing order, each explored or open, among them f without its
-- common cube
pub record IsSearch (width : ℕ) (f : List (List (Option Bool))) (seen open_ : List (List (List (Option Bool)))) : Type 0 where
  pub found : (k : List (List (Option Bool))) → Has k seen → IsFound width f k
  pub order : Ascends rows_cmp seen
  pub inside : (k : List (List (Option Bool))) → Has k open_ → Has k seen
  pub explored : (k : List (List (Option Bool))) → Has k seen → Has k open_ ⊎ IsExplored seen k
  pub start : Has (over (common_cube f) f) seen

-- one of the kernels that h leads to
abbrev pub IsStep : List (List (Option Bool)) → List (List (Option Bool)) → Type 0
IsStep h k = (i : ℕ) × (bit : Bool) × (2 ≤ length (holding_rows i bit h)) × (k ≡ kernel_at i bit h)

-- the seen and the open lists after some kernels that satisfy P were entered; each new one is in
-- both
pub record IsMore (P : List (List (Option Bool)) → Type 0) (seen open_ after open_after : List (List (List (Option Bool)))) : Type 0 where
  pub kept : (k : List (List (Option Bool))) → Has k seen → Has k after
  pub only : (k : List (List (Option Bool))) → Has k after → Has k seen ⊎ P k
  pub order : Ascends rows_cmp after
  pub room : length after ≤ MAX_KERNELS
  pub open_kept : (k : List (List (Option Bool))) → Has k open_ → Has k open_after
  pub open_only : (k : List (List (Option Bool))) → Has k open_after → Has k open_ ⊎ Has k after
  pub listed : (k : List (List (Option Bool))) → Has k after → Has k seen ⊎ Has k open_after
  pub balance : length open_after + length seen ≡ length open_ + length after
  pub grows : length seen ≤ length after

-- there are more than the limit that are seen or satisfy P
abbrev pub TooMany : (List (List (Option Bool)) → Type 0) → List (List (List (Option Bool))) → Type 0
TooMany P seen =
    (ks : List (List (List (Option Bool)))) × (MAX_KERNELS < length ks) × Ascends rows_cmp ks × ((k : List (List (Option Bool))) → Has k ks → Has k seen ⊎ P k)

-- all kernels of a sum whose rows are in increasing order and no others, each once, in increasing
-- order
pub record AreFound (width : ℕ) (f : List (List (Option Bool))) (ks : List (List (List (Option Bool)))) : Type 0 where
  pub only : (k : List (List (Option Bool))) → Has k ks → IsFound width f k
  pub every : (k : List (List (Option Bool))) → IsFound width f k → Has k ks
  pub order : Ascends rows_cmp ks

-- there are more than MAX_KERNELS kernels
abbrev pub MoreFound : ℕ → List (List (Option Bool)) → Type 0
MoreFound width f =
    (ks : List (List (List (Option Bool)))) × (MAX_KERNELS < length ks) × Ascends rows_cmp ks × ((k : List (List (Option Bool))) → Has k ks → IsFound width f k)

-- the kernels of the literals in the columns below n are seen
abbrev pub IsExploredTo : ℕ → List (List (List (Option Bool))) → List (List (Option Bool)) → Type 0
IsExploredTo n seen k = (i : ℕ) (bit : Bool) → i < n → 2 ≤ length (holding_rows i bit k) → Has (kernel_at i bit k) seen

-- an index in the seen list, after the kernels below a kernel and before those above it
abbrev pub IsBetween : List (List (List (Option Bool))) → ℕ → List (List (Option Bool)) → Type 0
IsBetween seen i k =
    (i ≤ length seen) × ((other : List (List (Option Bool))) → Has other (take i seen) → rows_cmp other k ≡ Less) × ((other : List (List (Option Bool))) → Has other (drop i seen) → rows_cmp k other ≡ Less)
