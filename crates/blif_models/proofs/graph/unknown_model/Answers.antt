use Rattle.std.proofs.Common.{Some, None, [], ap, sym, not, map, arith, option_map, slice_index_or}
use Rattle.sis_text.specs.Entries.{Entry, entry_at}
use Rattle.circuit_model.specs.Names.{has}
use Rattle.blif_lines.specs.Reader.{model_name}
use Rattle.blif_lines.specs.declared.fault.BlifFault.TheVariants.{UnknownModel}
use Rattle.blif_models.specs.Models.{model_of, instances_in}
use Rattle.blif_models.specs.Reader.{unknown_model}
use Rattle.blif_models.proofs.ModelGraph.{found_here, not_here, not_found, unknown_at}
use Rattle.blif_models.proofs.graph.unknown_model.Goals as goal

pub returns-in-Some : goal.returns-in-Some
unfolding unknown_model
returns-in-Some c =
    sym (ap (option_map (λ (line : Entry). UnknownModel line.number))
    (found_here instances_in (λ (line : Entry). not (has (map model_name c.args.file.now.models) (model_of line))) c.args.file.now.models c.loop-place.place
    (entry_at c.args.file.now.text c.in-Some.line.now) (omega arith) c.loop-place.invariant
    (unknown_at c.args.file.now.models c.args.file.now.text c.body.result.now (slice_index_or c.args.file.now.models c.loop-place.place []) (Some c.in-Some.line.now) c.body.ensures c.in-Some.ensures)))

pub loop-place-preserved : goal.loop-place-preserved
loop-place-preserved c =
    not_here instances_in (λ (line : Entry). not (has (map model_name c.args.file.now.models) (model_of line))) c.args.file.now.models c.loop-place.place (omega arith) c.loop-place.invariant
    (unknown_at c.args.file.now.models c.args.file.now.text c.body.result.now (slice_index_or c.args.file.now.models c.loop-place.place []) None c.body.ensures c.in_default.ensures)

pub returns : goal.returns
unfolding unknown_model
returns c =
    sym (ap (option_map (λ (line : Entry). UnknownModel line.number))
    (not_found instances_in (λ (line : Entry). not (has (map model_name c.args.file.now.models) (model_of line))) c.args.file.now.models c.loop-place.place (omega arith) c.loop-place.invariant))
