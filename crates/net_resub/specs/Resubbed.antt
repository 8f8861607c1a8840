-- Resubstitution: a table is divided by the rows of another table of the network, whose signal then
-- replaces them; step by step, until no such division saves a literal. Source: Brayton, Rudell,
-- Sangiovanni-Vincentelli and Wang, "MIS: A Multiple-Level Logic Optimization System" (1987); the
-- SIS report (UCB/ERL M92/41), `resub`. The order among pairs that save as much, and the limit of
-- `MAX_INPUTS` inputs, are the project's own.
use Rattle.std.specs.Prelude.{◌≡◌, ◌≢◌, ◌⊎◌, ℕ, ◌≤◌, false, map, length}
use Rattle.circuit_model.specs.Names.{has}
use Rattle.circuit_model.specs.Counts.{literals_of}
use Rattle.circuit_model.specs.Soundness.{Leads}
use Rattle.circuit_model.specs.declared.circuit.Table.{Table}
use Rattle.circuit_model.specs.declared.circuit.Circuit.{Circuit}
use Rattle.alg_div.specs.Cubes.{Has}
use Rattle.circuit_laws.specs.Greedy.{Reaches, HasEnd, IsBestChoice, NoneSaves}
use Rattle.circuit_laws.specs.Edits.{with_replaced}
use Rattle.net_candidates.specs.Candidates.{ArePair}
use Rattle.cover_names.specs.Literals.{NamedCover}
use Rattle.cover_names.specs.Cubes.{cube_over}
use Rattle.net_core.specs.Tables.{places_of}
use Rattle.alg_tables.specs.Dividing.{divided}
use Rattle.sis_base.specs.declared.limits.TheConstants.{MAX_INPUTS}

-- the cubes of a table's rows, in their order, the literals of each in the order of the inputs
abbrev pub row_cubes : Table → NamedCover
row_cubes table = map (λ row. cube_over table.inputs (places_of row)) table.rows

-- a table divided by another one's rows, which the literal of that one's signal replaces: the
-- positive one at phase 1, else the negative one
abbrev pub resubbed : Table → Table → Table
resubbed by table = divided by.output by.phase (row_cubes by) table

-- a table of a circuit may be divided by another one: it does not have the divisor's signal as an
-- input; the divisor does not depend on it in any number of steps, not even in 0 (so the two
-- differ); the quotient has a cube, so that it becomes another table; and that table, in normal
-- form, has at most `MAX_INPUTS` inputs
pub record IsCandidate (circuit : Circuit) (by table : Table) : Type 0 where
  pub by_stands : Has by circuit.tables
  pub stands : Has table circuit.tables
  pub unread : has table.inputs by.output ≡ false
  pub apart : (steps : ℕ) → Leads circuit.tables steps by.output table.output → ⊥
  pub changed : resubbed by table ≢ table
  pub narrow : length (resubbed by table).inputs ≤ MAX_INPUTS

-- the circuit in which a table is replaced by what division by another one makes of it
abbrev pub with_resubbed : Circuit → Table → Table → Circuit
with_resubbed circuit by table = with_replaced circuit (resubbed by table)

-- how many literals there are after that division
abbrev pub literals_after : Circuit → Table → Table → ℕ
literals_after circuit by table = literals_of (with_resubbed circuit by table)

-- a divisor and a dividend
abbrev pub Choice : Type 0
Choice = Table × Table

-- an earlier table is divided; or the same table, by an earlier one
abbrev pub IsEarlier : Circuit → Choice → Choice → Type 0
IsEarlier circuit (by, table) (other_by, other) =
    ArePair circuit.tables table other ⊎ ((table ≡ other) × ArePair circuit.tables by other_by)

-- the division that leaves fewest literals, and fewer than before; the first of several
abbrev pub IsBest : Circuit → Table → Table → Type 0
IsBest circuit by table =
    IsBestChoice {C = Choice} (λ one. IsCandidate circuit one.0 one.1) (IsEarlier circuit) (λ one. literals_after circuit one.0 one.1) (literals_of circuit) (by, table)

-- a step: the best division is made
pub record IsStep (circuit new : Circuit) : Type 0 where
  pub by : Table
  pub table : Table
  pub best : IsBest circuit by table
  pub made : new ≡ with_resubbed circuit by table

-- steps lead from one circuit to another one
abbrev pub IsReached : Circuit → Circuit → Type 0
IsReached circuit new = Reaches IsStep circuit new

-- the finished form: no division of a table by another one saves a literal
abbrev pub IsDone : Circuit → Type 0
IsDone circuit =
    NoneSaves {C = Choice} (λ one. IsCandidate circuit one.0 one.1) (λ one. literals_after circuit one.0 one.1) (literals_of circuit)

-- steps lead to a circuit that is done
abbrev pub IsResubbed : Circuit → Circuit → Type 0
IsResubbed circuit new = HasEnd IsStep IsDone circuit new
