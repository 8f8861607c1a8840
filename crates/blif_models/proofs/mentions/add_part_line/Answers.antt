use Rattle.std.proofs.Common.{◌++◌, List, ℕ, ap, sym, ◌∙◌}
use Rattle.std.proofs.lemmas.Result.{IfOk-equal}
use Rattle.sis_text.specs.Entries.{entry_at}
use Rattle.blif_models.proofs.LineNames.{part_other}
use Rattle.blif_models.proofs.mentions.add_part_line.Goals as goal

pub returns : goal.returns
returns c =
    IfOk-equal c.add_line.result c.add_line.new.names _ _ c.add_line.ensures
    (ap (λ (rest : List (List ℕ)). c.args.names.now ++ rest) (sym (part_other (entry_at c.args.text.now c.args.line.now) (sym c.lists_ports.ensures ∙ c.if-lists_ports.false))))
