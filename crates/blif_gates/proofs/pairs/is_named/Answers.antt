use Rattle.std.proofs.Common.{◌∙◌}
use Rattle.blif_gates.proofs.Texts.{any_names}
use Rattle.blif_gates.proofs.pairs.is_named.Goals as goal

pub returns : goal.returns
returns c = c.some_names.ensures ∙ any_names c.args.pin.now c.args.words.now
