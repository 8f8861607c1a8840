use Rattle.std.proofs.Common.{◌≡◌, ℕ, [], map, if◌then◌else◌}
use Rattle.std.specs.List.{range_with_len}
use Rattle.circuit_checks.specs.Graphs.{reads_of}
use Rattle.blif_models.specs.Models.{is_used}
use Rattle.blif_models.proofs.graph.used_graph.Given as goal

abbrev pub invariant-loop-place : goal.invariant-loop-place
invariant-loop-place l = l.made.items ≡ map (λ (place : ℕ). if is_used l.graph place then reads_of l.graph place else []) (range_with_len 0 l.place)
