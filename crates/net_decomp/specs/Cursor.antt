-- An index moves over the tables of a working network: those before it are done, and that at it is
-- decomposed until it is done. No public clause needs these definitions.
-- Source: De Micheli, "Synthesis and Optimization of Digital Circuits", chapter 8 (a logic network
-- as a set of nodes, changed one after the other).
use Rattle.std.specs.Prelude.{◌≡◌, ℕ, ◌+◌, ◌-◌, ◌*◌, ◌<◌, ◌≤◌, ltb, cond, Bool, true, Option, Some, None, Result, Ok, Err, List, ◌++◌, map, length}
use Rattle.std.specs.List.{AllByRecursion}
use Rattle.sis_base.specs.Rows.{HasWidth}
use Rattle.circuit_model.specs.Soundness.{IsSound}
use Rattle.circuit_model.specs.declared.circuit.Table.{Table}
use Rattle.circuit_tables.specs.Tidy.{is_tidy}
use Rattle.net_decomp.specs.Partings.{Parting, rows_of, parted_table, ArePartsAdded, IsParted, IsOverfull}
use Rattle.net_decomp.specs.Rules.{IsDone, IsDecomposable}
use Rattle.net_decomp.specs.Decomposed.{IsReached, IsFull}
use Rattle.net_decomp.specs.declared.rule.Rule.{Rule}
use Rattle.net_core.specs.Fresh.{node_count}
use Rattle.net_core.specs.declared.adding.AddFault.{AddFault}
use Rattle.net_core.specs.declared.adding.AddFault.TheVariants.{NodeLimit}
use Rattle.net_core.specs.Reads.{IsBounded, HasBounds}
use Rattle.net_work.specs.Placed.{Placed, standing, circuit_of, table_at, with_slot}
use Rattle.net_decomp.specs.Told.{told}
use Rattle.net_decomp.specs.declared.stepping.Due.{Due}
use Rattle.sis_base.specs.declared.limits.TheConstants.{MAX_NODES}

-- a table is to be decomposed, and how
pub record IsDecomposableOf {R : Type 0} (rule : Rule) (f : R → List (Option Bool)) (table : Table) (due : Due R) : Type 0 where
  pub inputs : table.inputs ≡ due.inputs
  pub phase : table.phase ≡ due.phase
  pub is_due : IsDecomposable rule table (told f due.parting)
  pub wide : HasWidth (length table.inputs) (rows_of table)

-- the table at an index is to be decomposed, and how
pub record IsDecomposableAt {R : Type 0} (rule : Rule) (f : R → List (Option Bool)) (slots : List (Option Table)) (place : ℕ) (due : Due R) : Type 0 where
  pub table : Table
  pub there : table_at slots place ≡ Some table
  pub told_of : IsDecomposableOf rule f table due

-- tables of parts over some inputs are added as the last, and are within their bounds
pub record ArePut (inputs : List (List ℕ)) (parts : List (List (List (Option Bool)))) (names : List (List ℕ)) (before now : Placed) : Type 0 where
  pub more : List Table
  pub frame : now.frame ≡ before.frame
  pub slots : now.slots ≡ before.slots ++ map Some more
  pub added : (table : Table) → table.inputs ≡ inputs → ArePartsAdded table parts (circuit_of before) names (circuit_of now)
  pub bounded : AllByRecursion IsBounded more

-- the table at an index was decomposed: its parts are the last tables, and it is rewritten at its
-- index
pub record IsTurned (table : Table) (parting : Parting) (place : ℕ) (before now : Placed) : Type 0 where
  pub names : List (List ℕ)
  pub between : Placed
  pub put : ArePut table.inputs parting.parts names before between
  pub set : now ≡ with_slot between place (Some (parted_table table names parting.rows))
  pub bounded : IsBounded (parted_table table names parting.rows)

-- the number of rows of a table; 0 if there is none
abbrev pub row_count : Option Table → ℕ
row_count None = 0
row_count (Some table) = length table.rows

-- a number that falls with each step at an index: each part takes room; and without parts a single
-- row replaces several
unfoldable pub weight : ℕ → Placed → ℕ
weight place now = 2 * ((MAX_NODES + 1) - node_count (circuit_of now)) + cond {A = ℕ} (ltb 1 (row_count (table_at now.slots place))) 1 0

-- the table at an index was decomposed by a rule
pub record IsPartedAt (rule : Rule) (place : ℕ) (before now : Placed) : Type 0 where
  pub table : Table
  pub parting : Parting
  pub there : table_at before.slots place ≡ Some table
  pub due : IsDecomposable rule table parting
  pub parted : IsParted (circuit_of before) table parting (circuit_of now)
  pub others : (at : ℕ) → at < place → table_at now.slots at ≡ table_at before.slots at
  pub tidy : (left : Table) → table_at now.slots place ≡ Some left → is_tidy left ≡ true
  pub bounded : AllByRecursion IsBounded (standing before.slots) → AllByRecursion IsBounded (standing now.slots)
  pub fewer : weight place now < weight place before

-- to so many nodes so many more may be added; none always may
abbrev pub HasRoomFor : ℕ → ℕ → Type 0
HasRoomFor nodes more = 1 ≤ more → nodes + more ≤ MAX_NODES

-- there is no room for the parts of the table at an index
pub record IsOverAt (rule : Rule) (place : ℕ) (now : Placed) : Type 0 where
  pub table : Table
  pub parting : Parting
  pub there : table_at now.slots place ≡ Some table
  pub due : IsDecomposable rule table parting
  pub over : IsOverfull (circuit_of now) parting

-- the tables below an index are done
abbrev pub AreDone : Rule → ℕ → List (Option Table) → Type 0
AreDone rule place slots = (at : ℕ) (table : Table) → at < place → table_at slots at ≡ Some table → IsDone rule table

-- steps lead from one network to another one, in which the tables below an index are done
pub record IsAlong (rule : Rule) (place : ℕ) (before now : Placed) : Type 0 where
  pub reached : IsReached rule (circuit_of before) (circuit_of now)
  pub done : AreDone rule place now.slots
  pub sound : IsSound (circuit_of now)
  pub bounds : HasBounds (circuit_of before) → HasBounds (circuit_of now)

-- so many nodes are in a network in which the tables below an index are done, and the table at the
-- index is in normal form
pub record IsNext (rule : Rule) (count : ℕ) (place : ℕ) (now : Placed) : Type 0 where
  pub sound : IsSound (circuit_of now)
  pub nodes : count ≡ node_count (circuit_of now)
  pub done : AreDone rule place now.slots
  pub tidy : (table : Table) → table_at now.slots place ≡ Some table → is_tidy table ≡ true

-- the table at an index was decomposed, and so many nodes are there now; or there is no room for a
-- part
abbrev pub Parts : Result ℕ AddFault → Rule → ℕ → Placed → Placed → Type 0
Parts (Ok nodes) rule place before now =
    (nodes ≡ node_count (circuit_of now)) × IsAlong rule place before now
    × (weight place now ≤ weight place before)
Parts (Err fault) rule place before now = fault ≡ NodeLimit → IsFull rule (circuit_of before)
