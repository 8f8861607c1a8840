-- What is wrong with the ports of a model that is used. Source: BLIF appendix of the SIS report
-- (UCB/ERL M92/41), `.subckt`. Only clauses of this crate's own functions cite this module.
use Rattle.std.specs.Prelude.{◌≡◌, ℕ, Bool, not, ◌&&◌, Option, None, List, [], ◌++◌, map, find, length, slice_index_or, if◌then◌else◌}
use Rattle.std.specs.List.{range_with_len}
use Rattle.std.specs.Option.{option_map}
use Rattle.sis_text.specs.Entries.{Entry}
use Rattle.line_words.specs.LineWords.{other_words}
use Rattle.circuit_checks.specs.NameChecks.{first_listed_twice}
use Rattle.circuit_checks.specs.Searching.{is_seen}
use Rattle.blif_lines.specs.declared.fault.BlifFault.{BlifFault}
use Rattle.blif_lines.specs.declared.fault.BlifFault.TheVariants.{BadPorts, NameTwice}
use Rattle.blif_lines.specs.Reader.{model_lines, of_lines, listed_inputs, listed_outputs, listed_ports, ports_in}
use Rattle.blif_lines.specs.declared.keyword.Keyword.{Keyword}
use Rattle.blif_models.specs.Models.{is_instance, model_of, model_graph, is_used}
use Rattle.blif_models.specs.Ports.{Ports, names_ports}
use Rattle.blif_models.specs.PortTables.{ports_by}
use Rattle.blif_models.specs.declared.port_faults.Listed.{Listed}

-- marks say which models are used
abbrev pub AreUsed : List (List Entry) → List Bool → Type 0
AreUsed models used = used ≡ map (is_used (model_graph models)) (range_with_len 0 (length (model_graph models)))

-- the ports that lines list, with those of one line more, and those of all lines
abbrev pub listed_with : Listed → Keyword → List (List ℕ) → Listed
listed_with listed kind words = record {
  inputs = listed.inputs ++ listed_inputs kind words;
  outputs = listed.outputs ++ listed_outputs kind words;
  ports = listed.ports ++ listed_ports kind words;
}

abbrev pub listed_in : List Entry → Listed
listed_in lines = record {
  inputs = of_lines listed_inputs lines;
  outputs = of_lines listed_outputs lines;
  ports = ports_in lines;
}

-- the first port that lines list twice
unfoldable pub lines_twice : List Entry → Option BlifFault
lines_twice lines = option_map (λ name. NameTwice name) (first_listed_twice (of_lines listed_inputs lines) (of_lines listed_outputs lines) (ports_in lines))

-- whether a line is that of an instance whose pairs do not name its ports, by a table
abbrev pub is_wrong : List (List Entry) → List Ports → Entry → Bool
is_wrong models table line = is_instance line && not (names_ports (ports_by models table (model_of line)) (other_words (other_words line.words)))

-- the first such line
unfoldable pub lines_wrong : List (List Entry) → List Ports → List Entry → Option BlifFault
lines_wrong models table lines = option_map (λ (line : Entry). BadPorts line.number) (find (is_wrong models table) lines)

-- a fault of the body of a model, if the model is used
abbrev pub fault_if : List Bool → (List Entry → Option BlifFault) → List (List Entry) → ℕ → Option BlifFault
fault_if used fault models place = if is_seen used place then fault (model_lines (slice_index_or models place [])) else None
