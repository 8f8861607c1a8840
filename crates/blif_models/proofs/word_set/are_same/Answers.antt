use Rattle.std.proofs.Common.{◌∙◌, sym}
use Rattle.blif_models.proofs.PortSets.{texts_same}
use Rattle.blif_models.proofs.word_set.are_same.Goals as goal

pub returns : goal.returns
returns c e = texts_same c.args.words.now c.args.others.now (sym c.eq.ensures ∙ e)
