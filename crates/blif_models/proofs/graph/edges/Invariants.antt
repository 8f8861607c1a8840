use Rattle.std.proofs.Common.{◌≡◌, take}
use Rattle.std.specs.List.{filter_map}
use Rattle.sis_text.specs.declared.places.Line.{Line}
use Rattle.sis_text.specs.Entries.{entry_at}
use Rattle.blif_models.specs.Files.{edge_of}
use Rattle.blif_models.proofs.graph.edges.Given as goal

abbrev pub invariant-loop-line : goal.invariant-loop-line
invariant-loop-line l = l.edges ≡ filter_map (λ (line : Line). edge_of l.file.models (entry_at l.file.text line)) (take l.line-index l.lines)
