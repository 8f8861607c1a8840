use Rattle.std.proofs.Common.{◌∙◌, List, [], ap, arith}
use Rattle.std.specs.List.{filter, filter_map}
use Rattle.sis_text.specs.Entries.{Entry}
use Rattle.blif_models.specs.Models.{is_instance, index_of, model_of, instances_in}
use Rattle.blif_models.proofs.ModelGraph.{mapped_more, graph_made}
use Rattle.blif_models.proofs.graph.graph.Goals as goal

pub loop-place-preserved : goal.loop-place-preserved
unfolding instances_in
loop-place-preserved c =
    mapped_more (λ (model : List Entry). filter_map (λ (line : Entry). index_of c.args.file.now.models (model_of line)) (instances_in model)) c.args.file.now.models c.loop-place.place [] _ c.loop-place.graph.items
    c.push.new.self.items (omega arith)
    (c.in_ok-edges.ensures ∙ ap (λ (lines : List Entry). filter_map (λ (line : Entry). index_of c.args.file.now.models (model_of line)) (filter is_instance lines)) c.body.ensures) c.loop-place.invariant
    c.in_ok-push.ensures.items

pub returns-clause-graph : goal.returns-clause-graph
returns-clause-graph c = graph_made c.args.file.now.models c.loop-place.place c.loop-place.graph.items (omega arith) c.loop-place.invariant
