-- The cubes of tables' rows as rising numbers, the cubes of numbers, and what is kept of tables
-- with their numbers. No public clause needs it.
use Rattle.std.specs.Prelude.{◌≡◌, ℕ, ◌/◌, ◌%◌, Bool, true, false, nat_eq, Option, Some, None, List, [], ◌∷◌, map, slice_index_or}
use Rattle.std.specs.List.{AllByRecursion, sum_by}
use Rattle.std.specs.Ordering.{nat_cmp}
use Rattle.std.specs.declared.vec.Vec.{Vec}
use Rattle.circuit_model.specs.Names.{all_different}
use Rattle.circuit_model.specs.declared.circuit.Table.{Table}
use Rattle.net_gains.specs.CodedGains.{gains}
use Rattle.net_gains.specs.Totals.{total_of, AreCubes}
use Rattle.net_candidates.specs.Candidates.{cubes_of}
use Rattle.cover_names.specs.Literals.{Cube, NamedCover, sorted}
use Rattle.cover_names.specs.Cubes.{is_over}
use Rattle.cover_names.specs.declared.literal.Literal.{Literal}
use Rattle.net_gains.specs.Codes.{coded, are_coded}
use Rattle.net_gains.specs.declared.codes.Signal.{Signal}
use Rattle.net_gains.specs.Kept.{is_countable}
use Rattle.net_gains.specs.declared.counted.Counted.{Counted}

-- the numbers of vectors
abbrev pub lists_in : {Y : Type 0} → List (Vec ℕ Y) → List (List ℕ)
lists_in {Y} cubes = map (λ (cube : Vec ℕ Y). cube.items) cubes

abbrev pub tables_in : {Y Z : Type 0} → List (Vec (Vec ℕ Y) Z) → List (List (List ℕ))
tables_in {Y} {Z} tables = map (λ (table : Vec (Vec ℕ Y) Z). lists_in table.items) tables

-- the number of a signal's literal, those of a row's literals in the order of the signals, and in
-- rising order
abbrev pub number_in : Signal → Bool → ℕ
number_in signal true = signal.positive
number_in signal false = signal.negative

unfoldable pub numbers_from : List Signal → List (Option Bool) → List ℕ
numbers_from [] row = []
numbers_from (signal ∷ signals) [] = []
numbers_from (signal ∷ signals) (None ∷ row) = numbers_from signals row
numbers_from (signal ∷ signals) (Some bit ∷ row) = number_in signal bit ∷ numbers_from signals row

abbrev pub rising_from : List Signal → List (Option Bool) → List ℕ
rising_from signals row = sorted nat_cmp (numbers_from signals row)

-- the literal of a number, and the cubes of lists of numbers
abbrev pub literal_at : List (List ℕ) → ℕ → Literal
literal_at names number = record { name = slice_index_or names (number / 2) []; bit = nat_eq (number % 2) 1 }

abbrev pub cubes_at : List (List ℕ) → List (List ℕ) → List Cube
cubes_at names cubes = map (map (literal_at names)) cubes

-- cubes rise, and all differ
pub record AreApart (cubes : List (List ℕ)) : Type 0 where
  pub rise : AreCubes cubes
  pub once : all_different cubes ≡ true

-- the numbers of a table's rows
pub record AreNumbers (names : List (List ℕ)) (table : Table) (cubes : List (List ℕ)) : Type 0 where
  pub countable : is_countable names table ≡ true
  pub known : is_over names (cubes_of table) ≡ true
  pub are : cubes ≡ coded names (cubes_of table)
  pub apart : AreApart cubes

-- the totals are what the tables save together
pub record IsCounted (counted : Counted) : Type 0 where
  pub apart : AllByRecursion AreApart (tables_in counted.tables.items)
  pub totals : (cover : List (List ℕ)) → total_of counted.totals cover ≡ sum_by (gains cover) (tables_in counted.tables.items)

-- the same, and all numbers are those of literals
pub record IsKept (names : List (List ℕ)) (counted : Counted) : Type 0 where
  pub sums : IsCounted counted
  pub known : AllByRecursion (λ (cubes : List (List ℕ)). are_coded names cubes ≡ true) (tables_in counted.tables.items)

-- no known cover of these numbers passes; a cover has these numbers, and passes
abbrev pub Fails : (NamedCover → Type 0) → List (List ℕ) → List (List ℕ) → Type 0
Fails Passes names numbers = (cover : NamedCover) → is_over names cover ≡ true → coded names cover ≡ numbers → Passes cover → ⊥

pub record DoesPass (Passes : NamedCover → Type 0) (names : List (List ℕ)) (numbers : List (List ℕ)) (cover : NamedCover) : Type 0 where
  pub known : is_over names cover ≡ true
  pub are : coded names cover ≡ numbers
  pub passes : Passes cover
