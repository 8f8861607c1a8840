-- What the checks say about names and tables where they find nothing, and conversely. Source: BLIF
-- appendix of the SIS report (UCB/ERL M92/41): each signal has one driver and the tables of a model
-- form no cycle; that a walk over a finite graph finds each cycle is Tarjan's "Depth-First Search
-- and Linear Graph Algorithms" (SIAM Journal on Computing, 1972).
use Rattle.std.specs.Prelude.{◌≡◌, ◌↔◌, ℕ, suc, true, None, List, ◌++◌}
use Rattle.std.specs.List.{AllByRecursion}
use Rattle.circuit_model.specs.Names.{has, all_different}
use Rattle.circuit_model.specs.Soundness.{Leads, IsAcyclic, outputs_of, table_inputs}
use Rattle.circuit_model.specs.declared.circuit.Table.{Table}
use Rattle.circuit_checks.specs.NameChecks.{first_again, first_missing, first_listed_twice}
use Rattle.circuit_checks.specs.Cycles.{is_on_cycle, first_on_cycle}
use Rattle.circuit_checks.specs.PartChecks.{first_bad_part_name}

-- if the known names are all different, no name is repeated exactly if all names are different
abbrev pub AgainLaw : Type 0
AgainLaw =
    (known names : List (List ℕ)) → all_different known ≡ true
    → (first_again known names ≡ None) ↔ (all_different (known ++ names) ≡ true)

-- no name is missing exactly if each is known
abbrev pub MissingLaw : Type 0
MissingLaw =
    (known names : List (List ℕ)) → (first_missing known names ≡ None) ↔ AllByRecursion (λ name. has known name ≡ true) names

-- if the names in order contain each input and each output, none is listed twice exactly if the
-- names of each list are different
abbrev pub ListedTwiceLaw : Type 0
ListedTwiceLaw =
    (inputs outputs in_order : List (List ℕ)) → AllByRecursion (λ name. has in_order name ≡ true) (inputs ++ outputs)
    → (first_listed_twice inputs outputs in_order ≡ None) ↔ ((all_different inputs ≡ true) × (all_different outputs ≡ true))

-- a signal is on a cycle exactly if some number of steps leads from it to itself
abbrev pub OnCycleLaw : Type 0
OnCycleLaw =
    (tables : List Table) (signal : List ℕ)
    → (is_on_cycle tables signal ≡ true) ↔ ((steps : ℕ) × Leads tables (suc steps) signal signal)

-- no table is on a cycle exactly if no signal leads to itself
abbrev pub AcyclicLaw : Type 0
AcyclicLaw = (tables : List Table) → (first_on_cycle tables ≡ None) ↔ IsAcyclic tables

-- nothing is wrong with a part exactly if its outputs are all different, each name that it reads is
-- one of them or a leaf, and no signal leads to itself
abbrev pub PartLaw : Type 0
PartLaw =
    (leaves : List (List ℕ)) (part : List Table)
    → (first_bad_part_name leaves part ≡ None)
    ↔ ((all_different (outputs_of part) ≡ true)
    × (AllByRecursion (λ name. has (outputs_of part ++ leaves) name ≡ true) (table_inputs part)) × IsAcyclic part)
