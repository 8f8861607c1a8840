use Rattle.std.proofs.Common.{◌∙◌, ◌+◌, ap, [], slice_index_or, List, ℕ}
use Rattle.blif_lines.specs.Lines.{nodes_in}
use Rattle.blif_models.specs.Files.{lines_at}
use Rattle.blif_models.specs.declared.limits.TheConstants.{MAX_DEPTH}
use Rattle.blif_models.proofs.Rounds.{all_sized, too_many, not_too_many}
use Rattle.blif_models.proofs.sizes.count_fault.Goals as goal

pub returns-then-saturating_add-gt-MAX_NODES : goal.returns-then-saturating_add-gt-MAX_NODES
returns-then-saturating_add-gt-MAX_NODES c =
    let model = slice_index_or c.args.file.now.models 0 [] in
    too_many c.args.file.now.models model c.number_at.result c.node_count-within.result c.saturating_add.result
    (c.number_at.ensures ∙ ap (λ (sizes : List ℕ). slice_index_or sizes 0 0) c.requires ∙ all_sized c.args.file.now.models (MAX_DEPTH + 1) 0)
    (c.node_count-within.ensures ∙ ap (λ (text : List ℕ). nodes_in (lines_at text c.part.result.now)) c.text.ensures ∙ ap nodes_in c.part.ensures)
    c.saturating_add.ensures c.if-saturating_add-gt-MAX_NODES.true

pub returns : goal.returns
returns c =
    let model = slice_index_or c.args.file.now.models 0 [] in
    not_too_many c.args.file.now.models model c.number_at.result c.node_count-within.result c.saturating_add.result
    (c.number_at.ensures ∙ ap (λ (sizes : List ℕ). slice_index_or sizes 0 0) c.requires ∙ all_sized c.args.file.now.models (MAX_DEPTH + 1) 0)
    (c.node_count-within.ensures ∙ ap (λ (text : List ℕ). nodes_in (lines_at text c.part.result.now)) c.text.ensures ∙ ap nodes_in c.part.ensures)
    c.saturating_add.ensures c.if-saturating_add-gt-MAX_NODES.false
