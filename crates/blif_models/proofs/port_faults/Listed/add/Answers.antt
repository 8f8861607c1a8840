use Rattle.std.proofs.Common.{◌≡◌, ◌∙◌, map, subst, ap, OnOk}
use Rattle.sis_text.specs.Words.{bytes_at}
use Rattle.line_words.specs.LineWords.{texts, first_word, other_words}
use Rattle.blif_models.specs.declared.port_faults.Listed.{Listed}
use Rattle.blif_models.proofs.ListedPorts.{listed_by}
use Rattle.blif_models.proofs.port_faults.Listed.add.Goals as goal

pub returns : goal.returns
returns c =
    let words = c.in_ok-words.ensures ∙ ap (map (bytes_at c.args.text.now)) c.as_slice.ensures in
    subst (λ (listed : Listed). OnOk c.add_as.result (c.add_as.new.self ≡ listed))
    (listed_by c.args.text.now c.args.line.now (texts c.in_ok-words.words.items) c.keyword_of-kind.result c.first_word.result.now (texts c.other_words.result.now) c.args.self.now words
    c.keyword_of-kind.ensures (c.first_word.ensures ∙ ap (λ list. first_word (texts list)) c.as_slice-2.ensures.value)
    (c.other_words.ensures ∙ ap (λ list. other_words (texts list)) c.as_slice-3.ensures.value)) c.add_as.ensures
