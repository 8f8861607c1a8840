-- The ports of all models, each once, as a table that is made by rounds. Source: BLIF appendix of
-- the SIS report (UCB/ERL M92/41), `.subckt`. Only clauses of this crate's own functions cite this
-- module.
use Rattle.std.specs.Prelude.{ℕ, Bool, ◌&&◌, Option, List, [], map, length, slice_index_or}
use Rattle.std.specs.List.{range_with_len}
use Rattle.std.specs.Option.{option_map_or}
use Rattle.sis_text.specs.Entries.{Entry}
use Rattle.circuit_tables.specs.Folding.{each_once}
use Rattle.genlib_format.specs.declared.gate.Gate.{Gate}
use Rattle.blif_lines.specs.Reader.{model_lines, lists_inputs, lists_outputs}
use Rattle.blif_models.specs.Models.{index_of}
use Rattle.blif_models.specs.Ports.{Ports, ports_with, ports_at}

abbrev pub no_ports : Ports
no_ports = record { inputs = []; outputs = [] }

-- ports, each once
abbrev pub once_ports : Ports → Ports
once_ports ports = record { inputs = each_once ports.inputs; outputs = each_once ports.outputs }

-- the ports of the model of a name, by a table
abbrev pub ports_by : List (List Entry) → List Ports → List ℕ → Ports
ports_by models table name = option_map_or (λ place. slice_index_or table place no_ports) (index_of models name) no_ports

-- whether a model lists its inputs and its outputs
abbrev pub lists_both : List Entry → Bool
lists_both model = lists_inputs (model_lines model) && lists_outputs (model_lines model)

-- the ports of all models, where models nest less deep than the given number
unfoldable pub table_at : Option (List Gate) → List (List Entry) → ℕ → List Ports
table_at library models depth = map (λ model. once_ports (ports_at library models depth (model_lines model))) models

-- the ports of a model after one more round, and those of all
abbrev pub next_ports : Option (List Gate) → List (List Entry) → List Ports → ℕ → Ports
next_ports library models table place = once_ports (ports_with library (ports_by models table) (model_lines (slice_index_or models place [])))

unfoldable pub next_table : Option (List Gate) → List (List Entry) → List Ports → List Ports
next_table library models table = map (next_ports library models table) (range_with_len 0 (length models))
