use Rattle.std.proofs.Common.{◌∙◌, ℕ, Option, ap, sym, is_some}
use Rattle.sis_text.specs.Entries.{entry_at}
use Rattle.blif_models.specs.Models.{is_instance, model_of, index_of}
use Rattle.blif_models.proofs.ModelGraph.{missing}
use Rattle.blif_models.proofs.graph.is_unknown.Goals as goal

pub returns-then-is_instance : goal.returns-then-is_instance
returns-then-is_instance c =
    missing c.args.file.now.models (model_of (entry_at c.args.file.now.text c.args.line.now)) (is_instance (entry_at c.args.file.now.text c.args.line.now)) c.is_none.result
    (sym c.is_instance.ensures ∙ c.if-is_instance.true)
    (ap (λ (found : Option ℕ). is_some found) (sym (c.find.ensures ∙ ap (index_of c.args.file.now.models) c.model_of.ensures)) ∙ c.is_none.ensures)
