use Rattle.std.proofs.Common.{rules, tests, ◌∙◌}
use Rattle.std.specs.Prelude.{bytes_eq}
use Rattle.std.proofs.lemmas.Iterator.{YieldsList-from_slice}
use Rattle.std.proofs.lemmas.Iterator.Search.{find_from_yields_List}
use Rattle.sis_script.specs.Verbs.{form_among}
use Rattle.sis_script.specs.declared.forms.CommandForm.{CommandForm}
use Rattle.sis_script.proofs.forms.form_in.Goals as goal

pub returns : goal.returns
unfolding form_among
returns c =
    c.copied.ensures
    ∙ find_from_yields_List (λ (form : CommandForm). bytes_eq c.args.word.now form.word.now) _ _
    c.find.result c.find.ensures.ran (YieldsList-from_slice c.args.forms.now cc)
    (λ x b q k. search (rules, tests))
