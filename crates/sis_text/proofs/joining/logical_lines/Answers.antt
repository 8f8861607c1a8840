use Rattle.std.proofs.Common.{◌≡◌, length, map, List, refl}
use Rattle.sis_text.specs.declared.places.Line.{Line}
use Rattle.sis_text.specs.Lines.{lines_of}
use Rattle.sis_text.specs.Entries.{entry_at, entries_of}
use Rattle.sis_text.specs.Order.{AreInOrder, AreWordsOf, HaveWords, words_in, is_plain}
use Rattle.sis_text.proofs.Ordered.{lines_in_order}
use Rattle.sis_text.proofs.Proper.{lines_are_plain, lines_have_words}
use Rattle.sis_text.proofs.Exact.{exact_law}
use Rattle.sis_text.proofs.joining.logical_lines.Goals as goal

pub returns-clause-entries : goal.returns-clause-entries
unfolding entries_of
returns-clause-entries c =
    let source = c.args.source.now in
    exact_law (λ (lines : List Line). map (entry_at source) lines ≡ entries_of source) (lines_of source) c.found_lines.result refl c.found_lines.ensures

pub returns-clause-in_order : goal.returns-clause-in_order
returns-clause-in_order c =
    let source = c.args.source.now in
    exact_law (λ (lines : List Line). AreInOrder 0 (length source) (words_in lines)) (lines_of source) c.found_lines.result (lines_in_order source) c.found_lines.ensures

pub returns-clause-plain : goal.returns-clause-plain
returns-clause-plain c =
    let source = c.args.source.now in
    exact_law (λ (lines : List Line). AreWordsOf is_plain source (words_in lines)) (lines_of source) c.found_lines.result (lines_are_plain source) c.found_lines.ensures

pub returns-clause-have_words : goal.returns-clause-have_words
returns-clause-have_words c =
    let source = c.args.source.now in
    exact_law HaveWords (lines_of source) c.found_lines.result (lines_have_words source) c.found_lines.ensures
