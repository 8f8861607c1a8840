-- Steps: a circuit after the best division, its bounds and its literals.
use Rattle.std.proofs.Common.{◌≡◌, ℕ, ◌<◌, true, Option, Some, List, set, sym, ap, ◌∙◌, subst, arith}
use Rattle.circuit_model.specs.Counts.{literals_of}
use Rattle.circuit_model.specs.Names.{all_different}
use Rattle.circuit_model.specs.Soundness.{outputs_of}
use Rattle.circuit_model.specs.declared.circuit.Table.{Table}
use Rattle.circuit_model.specs.declared.circuit.Circuit.{Circuit}
use Rattle.circuit_laws.specs.Edits.{with_tables, with_replaced}
use Rattle.net_core.specs.Reads.{IsBounded, HasBounds}
use Rattle.net_work.specs.Placed.{Placed, standing, circuit_of, table_at, with_slot}
use Rattle.net_core.specs.Tables.{named}
use Rattle.net_core.specs.declared.table.CoverTable.{CoverTable}
use Rattle.net_resub.specs.Resubbed.{row_cubes, resubbed, with_resubbed, IsBest, IsStep}
use Rattle.alg_tables.proofs.Divisions.{divided_output}
use Rattle.net_resub.specs.Best.{worth_at, IsFirst}
use Rattle.net_resub.specs.Pairs.{saving_at}
use Rattle.net_resub.specs.declared.divisions.Division.{Division}
use Rattle.net_work.proofs.Indexed.{standing_set}
use Rattle.net_resub.proofs.Slots.{set_all}
use Rattle.net_resub.proofs.Saving.{saving_places, worth_some}
use Rattle.net_resub.proofs.Worths.{best_is}

-- the circuit in which the table at an index was replaced
pub resubbed_circuit : (placed next : Placed) (place : ℕ) (table by : Table) → all_different (outputs_of (standing placed.slots)) ≡ true → table_at placed.slots place ≡ Some table
    → next ≡ with_slot placed place (Some (resubbed by table)) → circuit_of next ≡ with_resubbed (circuit_of placed) by table
unfolding with_replaced
resubbed_circuit placed next place table by different there is =
    ap circuit_of is ∙ ap (λ (ts : List Table). with_tables placed.frame ts) (standing_set placed.slots place table (resubbed by table) different there (divided_output by.output by.phase (row_cubes by) table))

pub set_bounds : (placed next : Placed) (place : ℕ) (old new : Table) → table_at placed.slots place ≡ Some old → next ≡ with_slot placed place (Some new) → IsBounded new
    → HasBounds (circuit_of placed) → HasBounds (circuit_of next)
set_bounds placed next place old new there is bounded bounds =
    let (all, long) = set_all IsBounded placed.slots place old new there bounded bounds.tables in
    let nodes = bounds.nodes in
    subst (λ (p : Placed). HasBounds (circuit_of p)) (sym is) record {
      nodes = omega (arith, nodes, long);
      tables = all;
    }

-- a step
pub step_is : (circuit new : Circuit) (by table : Table) → IsBest circuit by table → new ≡ with_resubbed circuit by table → IsStep circuit new
step_is circuit new by table best made = record { by = by; table = table; best = best; made = made }

pub step_fewer : (circuit new : Circuit) → IsStep circuit new → literals_of new < literals_of circuit
step_fewer circuit new step = subst (λ (c : Circuit). literals_of c < literals_of circuit) (sym step.made) step.best.saves

-- the circuit after the best division, when the table that is made has been set at its index
pub set_is : {R : Type 0} (placed next : Placed) (place by : ℕ) (made : CoverTable R) → ((old : Table) → table_at placed.slots place ≡ Some old → next ≡ with_slot placed place (Some (named old.output made)))
    → ((table other : Table) → table_at placed.slots place ≡ Some table → table_at placed.slots by ≡ Some other → named table.output made ≡ resubbed other table)
    → (table other : Table) → table_at placed.slots place ≡ Some table → table_at placed.slots by ≡ Some other → next ≡ with_slot placed place (Some (resubbed other table))
set_is placed next place by made set is table other here there = set table here ∙ ap (λ (t : Table). with_slot placed place (Some t)) (is table other here there)

pub best_saves : (slots : List (Option Table)) (best : Division) → IsFirst (worth_at slots) best → 0 < saving_at slots best.place best.by
best_saves slots best first =
    let some : 0 < worth_at slots best.place best.by = first.saves in
    let (unled, worth) = worth_some slots best.place best.by some in
    omega (arith, some, worth)

pub step_made : {R : Type 0} (placed next : Placed) (best : Division) (made : CoverTable R) → all_different (outputs_of (standing placed.slots)) ≡ true → IsFirst (worth_at placed.slots) best
    → ((old : Table) → table_at placed.slots best.place ≡ Some old → next ≡ with_slot placed best.place (Some (named old.output made)))
    → ((table other : Table) → table_at placed.slots best.place ≡ Some table → table_at placed.slots best.by ≡ Some other → named table.output made ≡ resubbed other table)
    → IsStep (circuit_of placed) (circuit_of next)
step_made placed next best made different first set is =
    let at = saving_places placed.slots best.place best.by (best_saves placed.slots best first) in
    step_is (circuit_of placed) (circuit_of next) at.divisor at.table (best_is placed different best at.table at.divisor first at.here at.there)
    (resubbed_circuit placed next best.place at.table at.divisor different at.here (set_is placed next best.place best.by made set is at.table at.divisor at.here at.there))
