use Rattle.std.proofs.Common.{rules, tests, ◌∙◌}
use Rattle.std.proofs.lemmas.Iterator.{YieldsList-from_slice}
use Rattle.std.proofs.lemmas.Iterator.Search.{find_from_yields_List}
use Rattle.sis_script.specs.Grammar.{is_option}
use Rattle.sis_script.proofs.grammar.option_of.Goals as goal

pub returns : goal.returns
returns c =
    c.copied.ensures
    ∙ find_from_yields_List (is_option c.args.word.now) _ _ c.find.result c.find.ensures.ran (YieldsList-from_slice c.args.options.now cc) (λ x b q k. search (rules, tests))
