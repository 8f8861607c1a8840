use Rattle.std.proofs.Common.{ℕ, List, [], slice_index_or, ap, ◌∙◌}
use Rattle.line_words.specs.LineWords.{texts}
use Rattle.blif_lines.specs.Reader.{model_lines}
use Rattle.blif_models.specs.Files.{lines_at}
use Rattle.blif_models.specs.Sides.{lists_on}
use Rattle.blif_models.specs.Contexts.{library_in, models_in}
use Rattle.blif_models.proofs.FirstLines.{fed_as, line_on}
use Rattle.blif_models.proofs.first_model.take_side.Goals as goal

pub returns : goal.returns
returns c =
    let library = library_in c.args.models.now in
    let models = models_in c.args.models.now in
    let side = c.args.side in
    fed_as library c.take_ports.result c.args.draft.now c.take_ports.new.draft _ _
    (line_on library models (model_lines (slice_index_or models 0 [])) c.first_ports.result.now c.first_ports.ensures side c.lists-listed.result c.port_word-word.result.now (texts c.words_on-names.result.now)
    (c.lists-listed.ensures ∙ ap (λ (text : List ℕ). lists_on side (lines_at text c.body.result.now)) c.text.ensures ∙ ap (lists_on side) c.body.ensures) c.port_word-word.ensures c.words_on-names.ensures) c.take_ports.ensures
