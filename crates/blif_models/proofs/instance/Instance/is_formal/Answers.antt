use Rattle.std.proofs.Common.{ap, is_some, ◌∙◌}
use Rattle.blif_models.proofs.Actuals.{some_mapped}
use Rattle.blif_models.proofs.Outside.{formal_known}
use Rattle.blif_models.proofs.instance.Instance.is_formal.Goals as goal

pub returns : goal.returns
returns c = c.is_some.ensures ∙ some_mapped c.actual.result ∙ ap is_some c.actual.ensures ∙ formal_known c.args.self.now.pairs c.args.signal.now
