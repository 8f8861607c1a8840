use Rattle.std.proofs.Common.{◌∙◌, sym}
use Rattle.sis_text.specs.Entries.{Entry}
use Rattle.blif_lines.specs.Keyword.{kind_of}
use Rattle.blif_lines.specs.Lines.{is_node_kind, nodes_in}
use Rattle.blif_models.proofs.Rounds.{counted}
use Rattle.blif_models.proofs.sizes.node_count.Goals as goal

pub returns : goal.returns
unfolding nodes_in
returns c = c.node_lines.ensures ∙ sym (counted (λ (line : Entry). is_node_kind (kind_of line)) c.args.text.now c.args.lines.now)
