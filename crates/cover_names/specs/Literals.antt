-- Literals of signals by name, cubes and covers of them, and their orders. Source: Brayton, Rudell,
-- Sangiovanni-Vincentelli and Wang, "MIS: A Multiple-Level Logic Optimization System" (1987): cubes
-- are sets of literals, and divisors are identified by their cubes, whichever table has them. The
-- orders are the project's own.
use Rattle.std.specs.Prelude.{List, [], ◌∷◌}
use Rattle.std.specs.Ordering.{bool_cmp, nat_cmp, ordering_then}
use Rattle.std.specs.Cmp.Lexicographic.{slice_cmp}
use Rattle.std.specs.declared.cmp.Ordering.{Ordering}
use Rattle.std.specs.declared.cmp.Ordering.TheVariants.{Less, Equal, Greater}
use Rattle.cover_names.specs.declared.literal.Literal.{Literal}

-- a cube is a list of literals, and a cover a list of cubes
abbrev pub Cube : Type 0
Cube = List Literal

abbrev pub NamedCover : Type 0
NamedCover = List Cube

-- by name, byte by byte; of one name the negative literal first
abbrev pub literal_cmp : Literal → Literal → Ordering
literal_cmp one other = ordering_then (slice_cmp nat_cmp one.name other.name) (bool_cmp one.bit other.bit)

-- literal by literal; a cube that is a prefix of another comes first
abbrev pub cube_cmp : Cube → Cube → Ordering
cube_cmp = slice_cmp literal_cmp

-- cube by cube
abbrev pub cover_cmp : NamedCover → NamedCover → Ordering
cover_cmp = slice_cmp cube_cmp

-- a list with an item inserted, by how the item compares with the list's first one; `rest` is the
-- list's tail with the item inserted
abbrev pub put_by : {X : Type 0} → Ordering → X → X → List X → List X → List X
put_by Less item first items rest = item ∷ first ∷ items
put_by Equal item first items rest = first ∷ items
put_by Greater item first items rest = first ∷ rest

-- an item inserted into an increasing list, unless it is there already
unfoldable pub put_in : {X : Type 0} → (X → X → Ordering) → X → List X → List X
put_in cmp item [] = item ∷ []
put_in cmp item (first ∷ items) = put_by (cmp item first) item first items (put_in cmp item items)

-- items in increasing order, each once
unfoldable pub sorted : {X : Type 0} → (X → X → Ordering) → List X → List X
sorted cmp [] = []
sorted cmp (item ∷ items) = put_in cmp item (sorted cmp items)

-- a cube with its literals sorted
abbrev pub sorted_cube : Cube → Cube
sorted_cube cube = sorted literal_cmp cube
