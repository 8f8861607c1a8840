-- Tables that are reached from themselves. Source: BLIF appendix of the SIS report (UCB/ERL
-- M92/41): the tables of a model form no cycle. A signal leads to the inputs of the table that
-- drives it (`Leads` in circuit_model's Soundness, any number of steps); here the same as a test,
-- and a law says that they agree.
use Rattle.std.specs.Prelude.{ℕ, zero, suc, Bool, false, ◌||◌, Option, Some, None, option_map, List, [], find, length, bytes_eq}
use Rattle.std.specs.List.{list_any}
use Rattle.circuit_model.specs.Values.{driver}
use Rattle.circuit_model.specs.declared.circuit.Table.{Table}

-- the signals to which a signal leads in one step
abbrev pub inputs_at : Option Table → List (List ℕ)
inputs_at None = []
inputs_at (Some table) = table.inputs

-- whether a signal leads to another one in at least one step and at most the given number
unfoldable pub leads_within : List Table → ℕ → List ℕ → List ℕ → Bool
leads_within tables zero from to = false
leads_within tables (suc most) from to =
    list_any (λ next. bytes_eq to next || leads_within tables most next to) (inputs_at (driver tables from))

-- whether a signal leads to itself; as many steps as there are tables suffice
unfoldable pub is_on_cycle : List Table → List ℕ → Bool
is_on_cycle tables signal = leads_within tables (length tables) signal signal

-- the output of the first table that is reached from itself
unfoldable pub first_on_cycle : List Table → Option (List ℕ)
first_on_cycle tables = option_map (λ (table : Table). table.output) (find (λ (table : Table). is_on_cycle tables table.output) tables)
