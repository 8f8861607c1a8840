use Rattle.std.proofs.Common.{◌≡◌, ◌∙◌, List, ℕ, OnOk, map, subst, option_copied, ap}
use Rattle.sis_text.specs.Words.{bytes_at}
use Rattle.circuit_tables.specs.Listing.{names_with}
use Rattle.line_words.specs.LineWords.{texts, first_word, other_words}
use Rattle.blif_models.specs.PortTables.{ports_by}
use Rattle.blif_models.proofs.PortSets.{line_by_words}
use Rattle.blif_models.proofs.port_lines.add_line.Goals as goal

pub returns : goal.returns
returns c =
    let words = c.in_ok-words.ensures ∙ ap (λ (text : List ℕ). map (bytes_at text) c.as_slice.result.now) c.text.ensures ∙ ap (map (bytes_at c.args.file.now.text)) c.as_slice.ensures in
    subst (λ (names : List (List ℕ)). OnOk c.add_as.result (c.add_as.new.set ≡ names_with c.args.set.now names))
    (line_by_words c.args.file.now.text c.args.line.now (texts c.in_ok-words.words.items) c.args.side (option_copied c.args.library) (ports_by c.args.file.now.models c.args.table.now)
    c.keyword_of-kind.result c.first_word.result.now (texts c.other_words-others.result.now) words c.keyword_of-kind.ensures
    (c.first_word.ensures ∙ ap (λ list. first_word (texts list)) c.as_slice-2.ensures.value)
    (c.other_words-others.ensures ∙ ap (λ list. other_words (texts list)) c.as_slice-3.ensures.value)) c.add_as.ensures
