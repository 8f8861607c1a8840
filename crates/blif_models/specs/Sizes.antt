-- The sizes of the models of a file, as a table that is made by rounds. Source: BLIF appendix of
-- the SIS report (UCB/ERL M92/41), `.subckt`: the model's body stands for the line. The limit is
-- the project's own; a size counts up to one more than it allows.
use Rattle.std.specs.Prelude.{ℕ, ◌+◌, min, nat_lt, Option, List, [], map, length, sum_by, slice_index_or}
use Rattle.std.specs.List.{range_with_len}
use Rattle.sis_text.specs.Entries.{Entry}
use Rattle.circuit_checks.specs.Graphs.{reads_of}
use Rattle.blif_lines.specs.declared.fault.LimitKind.TheVariants as limit
use Rattle.blif_lines.specs.declared.fault.BlifFault.{BlifFault}
use Rattle.blif_lines.specs.declared.fault.BlifFault.TheVariants.{Limit}
use Rattle.blif_lines.specs.Lines.{when, nodes_in}
use Rattle.blif_lines.specs.Reader.{model_lines, part_lines}
use Rattle.blif_models.specs.Models.{nodes_at}
use Rattle.blif_models.specs.declared.limits.TheConstants.{MAX_DEPTH}
use Rattle.sis_base.specs.declared.limits.TheConstants.{MAX_NODES}

-- a number, but at most one more than `MAX_NODES`
abbrev pub capped : ℕ → ℕ
capped count = min count (MAX_NODES + 1)

-- the sizes of all models, where models nest less deep than the given number
unfoldable pub sizes_at : List (List Entry) → ℕ → List ℕ
sizes_at models depth = map (λ model. capped (nodes_at models depth (model_lines model))) models

-- the number of tables, latches and gates of a model, without its instances
abbrev pub own_size : List (List Entry) → ℕ → ℕ
own_size models place = capped (nodes_in (model_lines (slice_index_or models place [])))

unfoldable pub own_sizes : List (List Entry) → List ℕ
own_sizes models = map (own_size models) (range_with_len 0 (length models))

-- the size of a model by its own number and the sizes of the models of its instances
unfoldable pub size_with : ℕ → List ℕ → List ℕ → ℕ
size_with own sizes places = capped (own + sum_by (λ place. slice_index_or sizes place 0) places)

-- the size of a model after one more round, by the graph of the models, and the sizes of all
abbrev pub next_size : List ℕ → List (List ℕ) → List ℕ → ℕ → ℕ
next_size own graph sizes place = size_with (slice_index_or own place 0) sizes (reads_of graph place)

unfoldable pub next_sizes : List ℕ → List (List ℕ) → List ℕ → List ℕ
next_sizes own graph sizes = map (next_size own graph sizes) (range_with_len 0 (length graph))

-- more tables, latches and gates than `MAX_NODES` in a model, with its instances and its don't-care
-- part
unfoldable pub count_fault : List (List Entry) → List Entry → Option BlifFault
count_fault models model = when (nat_lt MAX_NODES (nodes_at models (MAX_DEPTH + 1) (model_lines model) + nodes_in (part_lines model))) (Limit limit.Tables (MAX_NODES + 1))
