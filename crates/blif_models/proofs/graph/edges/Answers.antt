use Rattle.std.proofs.Common.{◌∙◌, ◌++◌, ap, arith, option_to_list}
use Rattle.std.specs.List.{filter_map}
use Rattle.std.proofs.lemmas.List.{take_all}
use Rattle.sis_text.specs.declared.places.Line.{Line}
use Rattle.sis_text.specs.Entries.{entry_at}
use Rattle.circuit_checks.proofs.Placing.{places_more}
use Rattle.blif_models.specs.Files.{edge_of}
use Rattle.blif_models.proofs.ModelGraph.{edges_are}
use Rattle.blif_models.proofs.graph.edges.Goals as goal

pub loop-line-preserved : goal.loop-line-preserved
loop-line-preserved c =
    places_more (λ (line : Line). edge_of c.args.file.now.models (entry_at c.args.file.now.text line)) c.args.lines.now c.loop-line.line-index c.line-item.result c.loop-line.edges c.add_place.new.places
    c.loop-line-test.true c.line-item.is c.loop-line.invariant (c.in_ok-add_place.ensures ∙ ap (λ place. c.loop-line.edges ++ option_to_list place) c.edge.ensures)

pub returns : goal.returns
returns c =
    c.loop-line.invariant
    ∙ ap (filter_map (λ (line : Line). edge_of c.args.file.now.models (entry_at c.args.file.now.text line))) (take_all c.loop-line.line-index c.args.lines.now (omega arith))
    ∙ edges_are c.args.file.now.models c.args.file.now.text c.args.lines.now
