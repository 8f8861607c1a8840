-- The names of new tables, and when one more table may be added. Source: the names `[n]` are those
-- of SIS's own new nodes (UCB/ERL M92/41); that the least free number is taken, and the limit of
-- `MAX_NODES`, are the project's own.
use Rattle.std.specs.Prelude.{◌≡◌, ℕ, ◌+◌, ◌^◌, ◌<◌, ◌≤◌, true, false, Result, Ok, Err, List, ◌++◌, length, decimal, codes}
use Rattle.circuit_model.specs.Names.{has}
use Rattle.circuit_model.specs.Runs.{latch_outputs}
use Rattle.circuit_model.specs.Soundness.{given, control_of, names_of}
use Rattle.circuit_model.specs.declared.circuit.Circuit.{Circuit}
use Rattle.circuit_laws.specs.Edits.{with_added}
use Rattle.net_core.specs.Tables.{named}
use Rattle.net_core.specs.declared.table.CoverTable.{CoverTable}
use Rattle.net_core.specs.declared.adding.AddFault.{AddFault}
use Rattle.net_core.specs.declared.adding.AddFault.TheVariants.{NodeLimit, Memory}
use Rattle.sis_base.specs.declared.limits.TheConstants.{MAX_NODES}

-- the name of a number: the number in brackets
unfoldable pub bracketed : ℕ → List ℕ
bracketed number = codes "[" ++ (decimal number ++ codes "]")

-- the names that no new table may take: those of signals, ports, clocks and the control, and those
-- in the don't-care part
unfoldable pub used_names : Circuit → List (List ℕ)
used_names circuit =
    given circuit ++ (circuit.outputs ++ (circuit.clocks ++ (control_of circuit.timing ++ names_of circuit.dont_care)))

-- the names that signals other than tables, ports, clocks, the control and the don't-care part have
unfoldable pub reserved_by : Circuit → List (List ℕ)
reserved_by circuit =
    circuit.inputs ++ (latch_outputs circuit ++ (circuit.outputs ++ (circuit.clocks ++ (control_of circuit.timing ++ names_of circuit.dont_care))))

-- the least number in brackets that is not used, one that a machine word holds
pub record IsNewName (circuit : Circuit) (name : List ℕ) : Type 0 where
  pub number : ℕ
  pub fits : number < 2 ^ 64
  pub is : name ≡ bracketed number
  pub free : has (used_names circuit) (bracketed number) ≡ false
  pub least : (other : ℕ) → other < number → has (used_names circuit) (bracketed other) ≡ true

-- the number of tables and latches, with the tables of the don't-care part
abbrev pub node_count : Circuit → ℕ
node_count circuit = length circuit.tables + length circuit.latches + length circuit.dont_care

-- the answers of adding a table to a circuit, and the circuit after each
abbrev pub Adds : {R : Type 0} → Circuit → CoverTable R → Circuit → Result (List ℕ) AddFault → Type 0
Adds old table new (Ok name) = (node_count old < MAX_NODES) × IsNewName old name × (new ≡ with_added old (named name table))
Adds old table new (Err NodeLimit) = (MAX_NODES ≤ node_count old) × (new ≡ old)
Adds old table new (Err Memory) = (node_count old < MAX_NODES) × (new ≡ old)
