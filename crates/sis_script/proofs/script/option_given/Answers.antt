use Rattle.std.proofs.Common.{rules, tests}
use Rattle.std.specs.Prelude.{◌==◌}
use Rattle.std.proofs.lemmas.Iterator.{YieldsList-from_slice}
use Rattle.std.proofs.lemmas.Iterator.Search.{find_from_yields_List}
use Rattle.sis_script.specs.declared.grammar.OptionGiven.{OptionGiven}
use Rattle.sis_script.proofs.script.option_given.Goals as goal

pub returns : goal.returns
returns c =
    find_from_yields_List (λ (option : OptionGiven). option.letter == c.args.letter) _ _ c.find.result c.find.ensures.ran (YieldsList-from_slice c.args.options.now cc) (λ x b q k. search (rules, tests))
