use Rattle.std.proofs.Common.{length}
use Rattle.sis_text.specs.Words.{words_of}
use Rattle.sis_text.specs.Order.{AreInOrder, AreWordsOf, is_solid}
use Rattle.sis_text.proofs.Ordered.{words_in_order}
use Rattle.sis_text.proofs.Proper.{words_are_solid}
use Rattle.sis_text.proofs.Exact.{exact_law}
use Rattle.sis_text.proofs.parting.words.Goals as goal

pub returns-clause-in_order : goal.returns-clause-in_order
returns-clause-in_order c =
    exact_law (AreInOrder 0 (length c.args.line.now)) (words_of c.args.line.now) c.found_words.result (words_in_order c.args.line.now) c.found_words.ensures

pub returns-clause-solid : goal.returns-clause-solid
returns-clause-solid c =
    exact_law (AreWordsOf is_solid c.args.line.now) (words_of c.args.line.now) c.found_words.result (words_are_solid c.args.line.now) c.found_words.ensures
