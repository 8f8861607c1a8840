use Rattle.std.proofs.Common.{refl, ◌∙◌, ap, option_map}
use Rattle.sis_script.specs.Verbs.{meaning}
use Rattle.sis_script.proofs.Verbs.{named_alike}
use Rattle.sis_script.proofs.forms.form_named.Goals as goal

pub returns : goal.returns
returns c = ap (option_map meaning) c.form_in.ensures ∙ named_alike _ _ refl
