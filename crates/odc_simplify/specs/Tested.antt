-- The functions by which a table is tested in its step, and the sizes for which it is not made
-- minimal.
-- Source: De Micheli, "Synthesis and Optimization of Digital Circuits", chapter 8 (observability
-- don't-care conditions); R. E. Bryant, "Graph-Based Algorithms for Boolean Function Manipulation",
-- IEEE Transactions on Computers C-35 (1986), for the sizes of functions.
use Rattle.std.specs.Prelude.{ℕ, List, map, ◌⊎◌}
use Rattle.circuit_model.specs.declared.circuit.Table.{Table}
use Rattle.circuit_model.specs.declared.circuit.Circuit.{Circuit}
use Rattle.cover_min.specs.Refusals.{RefusesMinimum}
use Rattle.func_core.specs.Trees.{BooleanFunction, complement, conjunction}
use Rattle.func_core.specs.Numbers.{IsBig}
use Rattle.net_func.specs.Signals.{own_function, is_seen, IsBigAt, IsBigSeen}
use Rattle.sdc_simplify.specs.Minimized.{on_rows}
use Rattle.odc_simplify.specs.Full.{leaf_count}
use Rattle.odc_simplify.specs.Held.{Held, held_meaning, held_refusals}

-- where a signal is 1 and observable, and where it is 0 and observable
abbrev pub seen_on : Circuit → List ℕ → BooleanFunction
seen_on circuit name = conjunction (own_function circuit name) (is_seen circuit name)

abbrev pub seen_off : Circuit → List ℕ → BooleanFunction
seen_off circuit name = conjunction (complement (own_function circuit name)) (is_seen circuit name)

-- the functions of a table in its step: where it must be 1, where it must be 0, and those of its
-- inputs
abbrev pub tested : Circuit → Table → Held
tested circuit table = record {
  leaves = leaf_count circuit;
  on = seen_on circuit table.output;
  off = seen_off circuit table.output;
  inputs = map (own_function circuit) table.inputs;
}

-- why a table is not made minimal: a part is too big of the function of a signal, or of where the
-- table's signal is observable; or where it is 1 and observable, or 0 and observable; or a function
-- that a test builds from these
abbrev pub IsTooBig : ℕ → Circuit → Table → Type 0
IsTooBig limit circuit table =
    ((signal : List ℕ) × IsBigAt limit circuit.tables (own_function circuit) signal)
    ⊎ (IsBigSeen limit circuit table.output
    ⊎ (IsBig limit (seen_on circuit table.output)
    ⊎ (IsBig limit (seen_off circuit table.output)
    ⊎ RefusesMinimum (held_meaning (tested circuit table)) (held_refusals limit
    (tested circuit table))
    (on_rows table))))
