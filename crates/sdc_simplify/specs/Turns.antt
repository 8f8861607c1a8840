-- The tables at indices while a network is simplified, and the ties that describe local
-- don't-cares. No public clause needs these definitions.
-- Source: the SIS report (UCB/ERL M92/41), `simplify`; De Micheli, "Synthesis and Optimization of
-- Digital Circuits", chapter 8.
use Rattle.std.specs.Prelude.{◌≡◌, ℕ, Bool, false, not, ◌&&◌, Option, List, map, length, unwrap_or}
use Rattle.std.specs.List.{AllByRecursion, list_any}
use Rattle.std.specs.Option.{option_map_or}
use Rattle.sis_base.specs.Rows.{some_matches}
use Rattle.circuit_model.specs.Runs.{bit_of}
use Rattle.circuit_model.specs.Values.{driver}
use Rattle.circuit_model.specs.declared.circuit.Table.{Table}
use Rattle.circuit_model.specs.declared.circuit.Circuit.{Circuit}
use Rattle.cube_cover.specs.Covers.{Shape}
use Rattle.cover_search.specs.Ties.{NodeConstraint, keeps_all}
use Rattle.cover_search.specs.Views.{tie_of}
use Rattle.cover_search.specs.declared.tied.NodeConstraint.{NodeConstraint as Held}
use Rattle.sdc_simplify.specs.Local.{differs, is_local}

-- the bits that a point of some names has at other names; 0 at a name that is none of them
abbrev pub bits_at : List (List ℕ) → List Bool → List (List ℕ) → List Bool
bits_at names point others = map (λ name. unwrap_or (bit_of names point name) false) others

-- a cover over names has the value that rows over other names have at the bits of those
pub record IsSpread (names others : List (List ℕ)) (rows : List (List (Option Bool))) (made : Shape) : Type 0 where
  pub width : made.width ≡ length names
  pub value : (point : List Bool) → length point ≡ length names → some_matches made.rows point ≡ some_matches rows (bits_at names point others)

-- whether a point has at an input another bit than the table that drives the input gives, if there
-- is one that counts
abbrev pub differs_there : Circuit → Table → List Bool → List ℕ → Bool
differs_there circuit table point input = option_map_or (differs table point input) (driver circuit.tables input) false

-- ties as contracts see them
abbrev pub seen : {R : Type 0} → List (Held R) → List NodeConstraint
seen ties = map tie_of ties

-- the covers of ties have a given width
abbrev pub AreOfWidth : {R : Type 0} → ℕ → List (Held R) → Type 0
AreOfWidth {R} width ties = AllByRecursion (λ (tie : Held R). tie.cover.width ≡ width) ties

-- the later ties, of a width, are kept by exactly the points that keep the earlier ones and pass a
-- test
pub record IsTiedMore {R : Type 0} (width : ℕ) (before now : List (Held R)) (test : List Bool → Bool) : Type 0 where
  pub wide : AreOfWidth width before → AreOfWidth width now
  pub kept : (point : List Bool) → length point ≡ width → keeps_all (seen now) point ≡ (keeps_all (seen before) point && test point)

-- the ties, of the table's width, are kept by exactly the points that differ at none of some inputs
-- from the table that drives it
pub record AreTied {R : Type 0} (circuit : Circuit) (table : Table) (inputs : List (List ℕ)) (ties : List (Held R)) : Type 0 where
  pub wide : AreOfWidth (length table.inputs) ties
  pub kept : (point : List Bool) → length point ≡ length table.inputs → keeps_all (seen ties) point ≡ not (list_any (differs_there circuit table point) inputs)

-- the ties, of the table's width, are kept by exactly the points that are no local don't-cares of
-- the table
pub record AreLocal {R : Type 0} (circuit : Circuit) (table : Table) (ties : List (Held R)) : Type 0 where
  pub wide : AreOfWidth (length table.inputs) ties
  pub kept : (point : List Bool) → length point ≡ length table.inputs → keeps_all (seen ties) point ≡ not (is_local circuit table point)
