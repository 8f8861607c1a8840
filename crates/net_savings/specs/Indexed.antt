-- What the rows of tables tell of the savings of one cube: each row that contains the cube loses
-- the cube's literals and gains one.
-- Source: Brayton, Rudell, Sangiovanni-Vincentelli and Wang, "MIS: A Multiple-Level Logic
-- Optimization System" (1987): the value of a divisor is the literals that it saves.
use Rattle.std.specs.Prelude.{◌≡◌, ◌⊎◌, ℕ, ◌+◌, ◌-◌, ◌*◌, ◌<◌, ◌≤◌, ◌&&◌, Bool, true, Option, Some, None, List, [], ◌∷◌, ◌++◌, map, length, take, drop}
use Rattle.std.specs.List.{sum_by, list_all, list_any, AllByRecursion}
use Rattle.circuit_model.specs.Names.{has}
use Rattle.circuit_model.specs.declared.circuit.Table.{Table}
use Rattle.alg_div.specs.Cubes.{Has}
use Rattle.net_candidates.specs.Candidates.{cubes_of}
use Rattle.net_candidates.specs.Extracting.{IsNarrow}
use Rattle.net_candidates.specs.Pairs.{has_all}
use Rattle.net_candidates.specs.Spots.{many}
use Rattle.net_candidates.proofs.Sums.{AreOnce}
use Rattle.net_core.specs.Fresh.{IsNewName}
use Rattle.net_core.specs.Tables.{places_of}
use Rattle.net_readers.specs.Fanouts.{is_in}
use Rattle.cover_names.specs.Literals.{Cube, NamedCover}
use Rattle.cover_names.specs.declared.literal.Literal.{Literal}
use Rattle.net_work.specs.Placed.{Placed, circuit_of, table_at}
use Rattle.alg_tables.specs.Dividing.{divided}
use Rattle.net_savings.specs.Meeting.{is_apart}
use Rattle.net_savings.specs.Saving.{lost_by, lost_at, IsNarrowIn}
use Rattle.net_savings.specs.declared.rows.RowSpan.{RowSpan}
use Rattle.net_savings.specs.declared.rows.RowIndex.{RowIndex}
use Rattle.sis_base.specs.declared.limits.TheConstants.{MAX_INPUTS}

-- what all tables lose together; none if one of them would have too many inputs
abbrev pub IsLostIn : List Table → List ℕ → NamedCover → Option ℕ → Type 0
IsLostIn tables name cover None = AllByRecursion (IsNarrow name cover) tables → ⊥
IsLostIn tables name cover (Some lost) =
    (lost ≡ sum_by (lost_by name cover) tables) × AllByRecursion (IsNarrow name cover) tables

-- the rows of a span: from one place among rows up to another
abbrev pub rows_in : List Cube → RowSpan → List Cube
rows_in rows span = take (span.end - span.start) (drop span.start rows)

-- whether one of the marks of a span's rows is set
abbrev pub marks_in : RowSpan → List Bool → Bool
marks_in span marks =
    list_any (λ (mark : Bool). mark) (take (span.end - span.start) (drop span.start marks))

-- a span has the rows of the table at an index
pub record IsSpan (rows : List Cube) (at : ℕ) (table : Table) (span : RowSpan) : Type 0 where
  pub there : span.place ≡ at
  pub starts : span.start ≤ span.end
  pub ends : span.end ≤ length rows
  pub same : rows_in rows span ≡ cubes_of table

-- what the tables at some indices lose by one cube is told by rows, and by what the tables at other
-- indices lose; each of these tables has a span of the rows, or its index is among the others
pub record AreTold (placed : Placed) (places : List ℕ) (rows : List Cube) (spans : List RowSpan)
    (others : List ℕ) : Type 0 where
  pub lost : (name : List ℕ) → IsNewName (circuit_of placed) name → (cube : Cube)
      → is_apart cube ≡ true → 1 ≤ length cube
      → lost_at name (cube ∷ []) placed.slots places + many (has_all cube) rows
      ≡ many (has_all cube) rows * length cube + lost_at name (cube ∷ []) placed.slots others
  pub narrow : (name : List ℕ) → IsNewName (circuit_of placed) name → (cover : NamedCover)
      → AllByRecursion (λ at. IsNarrowIn name cover (table_at placed.slots at)) others
      → AllByRecursion (λ at. IsNarrowIn name cover (table_at placed.slots at)) places
  pub spanned : (at : ℕ) (table : Table) → is_in places at ≡ true
      → table_at placed.slots at ≡ Some table → (is_in others at ≡ true)
      ⊎ ((span : RowSpan) × Has span spans × IsSpan rows at table span)

-- the rows of the table at an index are added to others, with their span
pub record IsAdded (table : Table) (place : ℕ) (rows new_rows : List Cube)
    (spans new_spans : List RowSpan) : Type 0 where
  pub once : AreOnce (map places_of table.rows)
  pub few : length table.inputs < MAX_INPUTS
  pub rows_are : new_rows ≡ rows ++ cubes_of table
  pub span : RowSpan
  pub spans_are : new_spans ≡ spans ++ span ∷ []
  pub there : span.place ≡ place
  pub start : span.start ≡ length rows
  pub end : span.end ≡ length new_rows

-- the rows of the table at an index are added, or the index is
abbrev pub IsRead : Table → ℕ → List Cube → List RowSpan → List ℕ → List Cube → List RowSpan
    → List ℕ → Type 0
IsRead table place rows spans others new_rows new_spans new_others =
    (IsAdded table place rows new_rows spans new_spans × (new_others ≡ others))
    ⊎ ((new_rows ≡ rows) × (new_spans ≡ spans) × (new_others ≡ others ++ place ∷ []))

-- indices include those of all tables that read one of some names
abbrev pub IncludeReaders : List (Option Table) → List (List ℕ) → List ℕ → Type 0
IncludeReaders slots names places =
    (at : ℕ) (table : Table) (name : List ℕ) → table_at slots at ≡ Some table
    → has table.inputs name ≡ true → has names name ≡ true → is_in places at ≡ true

-- rows tell it of all tables that read one of some names
pub record Indexes (placed : Placed) (names : List (List ℕ)) (rows : List Cube)
    (spans : List RowSpan) (others : List ℕ) : Type 0 where
  pub places : List ℕ
  pub once : AreOnce places
  pub all : IncludeReaders placed.slots names places
  pub told : AreTold placed places rows spans others

abbrev pub IsIndex : Placed → RowIndex → Type 0
IsIndex placed index =
    Indexes placed index.names.keys index.rows index.spans.items index.others.items

-- no name occurs twice in a cube of a cover, and all its names are among some
abbrev pub is_known : List (List ℕ) → NamedCover → Bool
is_known names cover = list_all (λ (cube : Cube). is_apart cube
    && list_all (λ (literal : Literal). has names literal.name) cube) cover

-- each table is at one of some indices, each once, or is not divided by a cover
pub record AreAll (cover : NamedCover) (slots : List (Option Table))
    (places : List ℕ) : Type 0 where
  pub once : AreOnce places
  pub all : (at : ℕ) (table : Table) → table_at slots at ≡ Some table → (is_in places at ≡ true)
      ⊎ ((name : List ℕ) → divided name true cover table ≡ table)
