-- The ports that lines list, line by line.
use Rattle.std.specs.Prelude.{◌≡◌, ℕ, ◌+◌, ◌<◌, List, [], ◌∷◌, ◌++◌, map, take, length}
use Rattle.std.proofs.Common.{refl, sym, ◌∙◌, ap, get_or}
use Rattle.std.proofs.lemmas.List.{take_more, append-nil}
use Rattle.sis_text.specs.Words.{bytes_at}
use Rattle.sis_text.specs.Entries.{Entry, entry_at}
use Rattle.sis_text.specs.declared.places.Line.{Line}
use Rattle.line_words.specs.LineWords.{first_word, other_words}
use Rattle.blif_lines.specs.declared.keyword.Keyword.{Keyword}
use Rattle.blif_lines.specs.Keyword.{keyword_of, kind_of}
use Rattle.blif_lines.specs.Reader.{of_lines, listed_inputs, listed_outputs, listed_ports, ports_in}
use Rattle.blif_models.specs.PortFaults.{listed_with, listed_in}
use Rattle.blif_models.specs.declared.port_faults.Listed.{Listed}
use Rattle.blif_models.proofs.PortSets.{lines_both}

pub listed_by : (text : List ℕ) (line : Line) (words : List (List ℕ)) (kind : Keyword) (first : List ℕ) (others : List (List ℕ)) (old : Listed)
    → words ≡ map (bytes_at text) line.words → kind ≡ keyword_of first → first ≡ first_word words → others ≡ other_words words
    → listed_with old kind others ≡ listed_with old (kind_of (entry_at text line)) (other_words (map (bytes_at text) line.words))
unfolding kind_of
listed_by text line words kind first others old w k f o = rw (k, f, o, w) refl

of_more : (words_of : Keyword → List (List ℕ) → List (List ℕ)) (text : List ℕ) (lines : List Line) (i : ℕ) (line : Line) → i < length lines → line ≡ get_or lines i line
    → of_lines words_of (map (entry_at text) (take (i + 1) lines)) ≡ of_lines words_of (map (entry_at text) (take i lines)) ++ words_of (kind_of (entry_at text line)) (other_words (map (bytes_at text) line.words))
of_more words_of text lines i line lt is =
    ap (λ (list : List Line). of_lines words_of (map (entry_at text) list)) (take_more lines i line lt ∙ ap (λ (one : Line). take i lines ++ one ∷ []) (sym is))
    ∙ lines_both (λ (one : Entry). words_of (kind_of one) (other_words one.words)) text (take i lines) (line ∷ [])
    ∙ ap (λ (rest : List (List ℕ)). of_lines words_of (map (entry_at text) (take i lines)) ++ rest) (append-nil (words_of (kind_of (entry_at text line)) (other_words (map (bytes_at text) line.words))))

pub listed_more : (text : List ℕ) (lines : List Line) (i : ℕ) (line : Line) (listed more : Listed) → i < length lines → line ≡ get_or lines i line → listed ≡ listed_in (map (entry_at text) (take i lines))
    → more ≡ listed_with listed (kind_of (entry_at text line)) (other_words (map (bytes_at text) line.words)) → more ≡ listed_in (map (entry_at text) (take (i + 1) lines))
unfolding ports_in
listed_more text lines i line listed more lt is e m =
    m ∙ ap (λ (one : Listed). listed_with one (kind_of (entry_at text line)) (other_words (map (bytes_at text) line.words))) e
    ∙ rw (of_more listed_inputs text lines i line lt is, of_more listed_outputs text lines i line lt is, of_more listed_ports text lines i line lt is) refl

pub none_listed : (inputs outputs ports : List (List ℕ)) → inputs ≡ [] → outputs ≡ [] → ports ≡ [] → ◌≡◌ {A = Listed} (record { inputs = inputs; outputs = outputs; ports = ports }) (listed_in [])
unfolding ports_in
none_listed inputs outputs ports i o p = rw (i, o, p) refl
