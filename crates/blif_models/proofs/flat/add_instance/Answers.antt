use Rattle.std.proofs.Common.{ℕ, ◌++◌, List, ap, ◌∙◌}
use Rattle.std.proofs.lemmas.Result.{IfOk-equal}
use Rattle.circuit_model.specs.Names.{has}
use Rattle.line_words.specs.LineWords.{texts}
use Rattle.sis_text.specs.Entries.{Entry, entry_at}
use Rattle.blif_models.specs.Models.{model_of}
use Rattle.blif_models.specs.Flat.{lines_outside}
use Rattle.blif_models.specs.Instances.{instance_in}
use Rattle.blif_models.specs.Tables.{put_lines}
use Rattle.blif_models.specs.Contexts.{library_in, models_in, text_in}
use Rattle.blif_models.proofs.Finding.{inputs_at}
use Rattle.blif_models.proofs.Flattening.{put_by}
use Rattle.blif_models.proofs.flat.add_instance.Goals as goal

pub returns : goal.returns
returns c =
    let library = library_in c.args.models.now in
    let models = models_in c.args.models.now in
    let line = entry_at (text_in c.args.models.now) c.args.line.now in
    let instance = instance_in c.in_ok-instance.instance in
    let flat = c.args.flat.now.items in
    IfOk-equal c.add_lines.result c.add_lines.new.out.items (flat ++ lines_outside instance c.args.inner.now) (flat ++ put_lines library models c.args.place line c.args.inner.now) c.add_lines.ensures
    (ap (λ (rest : List Entry). flat ++ rest)
    (put_by library models instance c.args.place line c.args.inner.now c.in_ok-controls.controls.keys (texts c.words-inputs.result.now) c.in_ok-instance.ensures c.in_ok-controls.ensures
    (λ query. ap (λ (names : List (List ℕ)). has names query) c.words-inputs.ensures
    ∙ inputs_at library models (model_of line) c.args.models.now.ports.now c.args.models.now.sizes.now c.args.model c.index-models-model.result c.requires.tables c.requires.model query)))
