use Rattle.std.proofs.Common.{◌≡◌, length, map, List, refl}
use Rattle.sis_text.specs.declared.places.Line.{Line}
use Rattle.sis_text.specs.Pieces.{pieces_of}
use Rattle.sis_text.specs.Entries.{entry_at, script_entries_of}
use Rattle.sis_text.specs.Order.{AreInOrder, AreWordsOf, HaveWords, words_in, is_script_plain}
use Rattle.sis_text.proofs.Ordered.{pieces_in_order}
use Rattle.sis_text.proofs.Proper.{pieces_are_plain, pieces_have_words}
use Rattle.sis_text.proofs.Exact.{exact_law}
use Rattle.sis_text.proofs.scripts.script_pieces.Goals as goal

pub returns-clause-entries : goal.returns-clause-entries
unfolding script_entries_of
returns-clause-entries c =
    let source = c.args.source.now in
    exact_law (λ (lines : List Line). map (entry_at source) lines ≡ script_entries_of source) (pieces_of source) c.found_pieces.result refl c.found_pieces.ensures

pub returns-clause-in_order : goal.returns-clause-in_order
returns-clause-in_order c =
    let source = c.args.source.now in
    exact_law (λ (lines : List Line). AreInOrder 0 (length source) (words_in lines)) (pieces_of source) c.found_pieces.result (pieces_in_order source) c.found_pieces.ensures

pub returns-clause-plain : goal.returns-clause-plain
returns-clause-plain c =
    let source = c.args.source.now in
    exact_law (λ (lines : List Line). AreWordsOf is_script_plain source (words_in lines)) (pieces_of source) c.found_pieces.result (pieces_are_plain source) c.found_pieces.ensures

pub returns-clause-have_words : goal.returns-clause-have_words
returns-clause-have_words c =
    let source = c.args.source.now in
    exact_law HaveWords (pieces_of source) c.found_pieces.result (pieces_have_words source) c.found_pieces.ensures
