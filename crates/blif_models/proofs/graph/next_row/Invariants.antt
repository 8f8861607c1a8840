use Rattle.std.proofs.Common.{◌≡◌, map, take}
use Rattle.std.specs.List.{list_any}
use Rattle.circuit_checks.specs.Searching.{is_seen}
use Rattle.blif_models.proofs.graph.next_row.Given as goal

abbrev pub invariant-loop-reads : goal.invariant-loop-reads
invariant-loop-reads l = l.next.items ≡ map (list_any (is_seen l.row)) (take l.reads-index l.graph)
