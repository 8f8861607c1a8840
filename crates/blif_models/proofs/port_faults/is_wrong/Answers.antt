use Rattle.std.proofs.Common.{◌∙◌, List, ℕ, map, sym, ap}
use Rattle.sis_text.specs.Words.{bytes_at}
use Rattle.line_words.specs.LineWords.{texts, other_words}
use Rattle.blif_models.specs.PortTables.{no_ports}
use Rattle.blif_models.proofs.NamedPorts.{wrong_by, found_none, found_some, empty_named}
use Rattle.blif_models.proofs.port_faults.is_wrong.Goals as goal

pub returns-in_default : goal.returns-in_default
returns-in_default c =
    let words = c.in_ok-words.ensures ∙ ap (λ (text : List ℕ). map (bytes_at text) c.as_slice.result.now) c.text.ensures ∙ ap (map (bytes_at c.args.file.now.text)) c.as_slice.ensures in
    let pairs = c.other_words-pairs.ensures ∙ ap other_words (c.other_words.ensures ∙ ap (λ list. other_words (texts list)) c.as_slice-2.ensures.value) in
    wrong_by c.args.file.now.models c.args.table.now c.args.file.now.text c.args.line.now (texts c.in_ok-words.words.items) (texts c.other_words-pairs.result.now) c.model_of.result.now c.find.result no_ports c.is_empty.result
    (sym c.is_instance.ensures ∙ c.if-not-is_instance.false) words pairs c.model_of.ensures c.find.ensures (found_none c.args.table.now c.find.result c.in_default.ensures)
    (empty_named c.other_words-pairs.result.now c.is_empty.result c.is_empty.ensures)

pub returns : goal.returns
returns c =
    let words = c.in_ok-words.ensures ∙ ap (λ (text : List ℕ). map (bytes_at text) c.as_slice.result.now) c.text.ensures ∙ ap (map (bytes_at c.args.file.now.text)) c.as_slice.ensures in
    let pairs = c.other_words-pairs.ensures ∙ ap other_words (c.other_words.ensures ∙ ap (λ list. other_words (texts list)) c.as_slice-2.ensures.value) in
    wrong_by c.args.file.now.models c.args.table.now c.args.file.now.text c.args.line.now (texts c.in_ok-words.words.items) (texts c.other_words-pairs.result.now) c.model_of.result.now c.find.result c.in-Some.ports.now c.in_ok-names_ports.field-0
    (sym c.is_instance.ensures ∙ c.if-not-is_instance.false) words pairs c.model_of.ensures c.find.ensures (found_some c.args.table.now c.find.result c.in-Some.ports.now c.in-Some.ensures) c.in_ok-names_ports.ensures
