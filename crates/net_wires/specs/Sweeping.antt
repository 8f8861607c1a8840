-- The result of sweep: the end of its chain of steps, defined without steps. Source: the SIS manual
-- (UCB/ERL M92/41), `sweep`.
use Rattle.std.specs.Prelude.{◌≡◌, ℕ, ◌-◌, Bool, true, not, Some, None, length, count_by}
use Rattle.std.specs.List.{AllByRecursion}
use Rattle.circuit_model.specs.Names.{has}
use Rattle.circuit_model.specs.Values.{driver}
use Rattle.circuit_model.specs.Soundness.{outputs_of}
use Rattle.circuit_model.specs.declared.circuit.Table.{Table}
use Rattle.circuit_model.specs.declared.circuit.Latch.{Latch}
use Rattle.circuit_model.specs.declared.circuit.Circuit.{Circuit}
use Rattle.circuit_tables.specs.Tidy.{is_tidy}
use Rattle.net_wires.specs.Points.{constant_bit, written_bit}
use Rattle.net_wires.specs.Rules.{tables_read, starts_at}
use Rattle.net_wires.specs.Needed.{dont_care_reads, is_needed}

-- a table of a swept circuit is tidy; is written as a constant if it is one; is neither constant
-- nor of one input if tables read it; and is needed
pub record IsSweptTable (circuit : Circuit) (table : Table) : Type 0 where
  pub tidy : is_tidy table ≡ true
  pub written : constant_bit table ≡ written_bit table
  pub not_constant : tables_read circuit table.output ≡ true → constant_bit table ≡ None
  pub not_single : tables_read circuit table.output ≡ true → length table.inputs ≡ 1 → ⊥
  pub needed : is_needed circuit table.output ≡ true

-- a latch of a swept circuit is needed; and if it may start at a bit, need not start at the other
-- one, and its input is a table of this constant, then the don't-care part reads it
pub record IsSweptLatch (circuit : Circuit) (latch : Latch) : Type 0 where
  pub not_fixed : (bit : Bool) (table : Table) → starts_at latch.init bit ≡ true → driver circuit.tables latch.input ≡ Some table → constant_bit table ≡ Some bit
      → dont_care_reads circuit latch.output ≡ true
  pub needed : is_needed circuit latch.output ≡ true

-- the finished form
pub record IsSwept (circuit : Circuit) : Type 0 where
  pub tables : AllByRecursion (IsSweptTable circuit) circuit.tables
  pub latches : AllByRecursion (IsSweptLatch circuit) circuit.latches

-- the number of the old tables' signals that no table drives any more; a latch that became a table
-- is not among them
abbrev pub tables_gone : Circuit → Circuit → ℕ
tables_gone old new = count_by (λ name. not (has (outputs_of new.tables) name)) (outputs_of old.tables)

-- the difference in the number of latches
abbrev pub latches_gone : Circuit → Circuit → ℕ
latches_gone old new = length old.latches - length new.latches
