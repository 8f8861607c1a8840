-- The names of lines, line by line.
use Rattle.std.proofs.Common.{◌≡◌, ℕ, ◌+◌, ◌<◌, Bool, true, false, not, if◌then◌else◌, List, [], ◌∷◌, ◌++◌, length, get_or, take, flat_map, refl, sym, ap, ◌∙◌, append_assoc}
use Rattle.std.specs.List.{filter}
use Rattle.std.proofs.lemmas.List.{take_more, map-append, append-nil}
use Rattle.std.proofs.lemmas.Grind.{flat_map-append}
use Rattle.circuit_tables.specs.Folding.{each_once}
use Rattle.sis_text.specs.declared.places.Line.{Line}
use Rattle.sis_text.specs.Entries.{Entry, entry_at}
use Rattle.blif_lines.specs.Keyword.{kind_of}
use Rattle.blif_lines.specs.Reader.{model_lines, part_lines, names_beside}
use Rattle.blif_models.specs.Files.{lines_at}
use Rattle.blif_models.specs.Made.{names_on, lists_ports, names_in}
use Rattle.blif_models.specs.Makings.{part_names}

-- names beside none are all of them
pub beside_none : (names : List (List ℕ)) → names_beside [] names ≡ each_once names
unfolding names_beside
beside_none names = ap each_once (all names)
  where
    all : (list : List (List ℕ)) → filter (λ (name : List ℕ). true) list ≡ list
    all [] = refl
    all (name ∷ list) = ap (λ (rest : List (List ℕ)). name ∷ rest) (all list)

-- the lines so far and one more
lines_more : (text : List ℕ) (lines : List Line) (i : ℕ) (line : Line) → i < length lines → line ≡ get_or lines i line
    → lines_at text (take (i + 1) lines) ≡ lines_at text (take i lines) ++ entry_at text line ∷ []
lines_more text lines i line lt is =
    ap (lines_at text) (take_more lines i line lt)
    ∙ map-append (entry_at text) (take i lines) (get_or lines i line ∷ [])
    ∙ ap (λ (one : Line). lines_at text (take i lines) ++ entry_at text one ∷ []) (sym is)

pub more_names : (names_of : Entry → List (List ℕ)) (text : List ℕ) (lines : List Line) (i : ℕ) (line : Line) (start begun after : List (List ℕ)) → i < length lines → line ≡ get_or lines i line
    → after ≡ begun ++ names_of (entry_at text line) → begun ≡ start ++ flat_map names_of (lines_at text (take i lines)) → after ≡ start ++ flat_map names_of (lines_at text (take (i + 1) lines))
more_names names_of text lines i line start begun after lt is put before =
    put
    ∙ ap (λ (front : List (List ℕ)). front ++ names_of (entry_at text line)) before
    ∙ append_assoc start (flat_map names_of (lines_at text (take i lines))) (names_of (entry_at text line))
    ∙ ap (λ (back : List (List ℕ)). start ++ back) (
    ap (λ (back : List (List ℕ)). flat_map names_of (lines_at text (take i lines)) ++ back) (sym (append-nil (names_of (entry_at text line))))
    ∙ sym (flat_map-append names_of (lines_at text (take i lines)) (entry_at text line ∷ []))
    ∙ ap (flat_map names_of) (sym (lines_more text lines i line lt is))
    )

-- a line of a don't-care part
pub part_other : (line : Entry) → lists_ports (kind_of line) ≡ false → part_names (line ∷ []) ≡ names_on line
part_other line e = rw e (append-nil (names_on line))

part_append : (front back : List Entry) → part_names (front ++ back) ≡ part_names front ++ part_names back
part_append [] back = refl
part_append (line ∷ front) back = by (lists_ports (kind_of line)) (part_append front back)
  where
    other : Entry → Bool
    other = λ (one : Entry). not (lists_ports (kind_of one))

    by : (b : Bool) → part_names (front ++ back) ≡ part_names front ++ part_names back
        → flat_map names_on (if not b then line ∷ filter (λ (one : Entry). not (lists_ports (kind_of one))) (front ++ back) else filter (λ (one : Entry). not (lists_ports (kind_of one))) (front ++ back))
        ≡ flat_map names_on (if not b then line ∷ filter (λ (one : Entry). not (lists_ports (kind_of one))) front else filter (λ (one : Entry). not (lists_ports (kind_of one))) front) ++ part_names back
    by true e = e
    by false e = ap (λ (rest : List (List ℕ)). names_on line ++ rest) e ∙ sym (append_assoc (names_on line) (part_names front) (part_names back))

pub more_part : (text : List ℕ) (lines : List Line) (i : ℕ) (line : Line) (start begun after : List (List ℕ)) → i < length lines → line ≡ get_or lines i line
    → after ≡ begun ++ part_names (entry_at text line ∷ []) → begun ≡ start ++ part_names (lines_at text (take i lines)) → after ≡ start ++ part_names (lines_at text (take (i + 1) lines))
more_part text lines i line start begun after lt is put before =
    put
    ∙ ap (λ (front : List (List ℕ)). front ++ part_names (entry_at text line ∷ [])) before
    ∙ append_assoc start (part_names (lines_at text (take i lines))) (part_names (entry_at text line ∷ []))
    ∙ ap (λ (back : List (List ℕ)). start ++ back) (
    sym (part_append (lines_at text (take i lines)) (entry_at text line ∷ []))
    ∙ ap part_names (sym (lines_more text lines i line lt is))
    )

-- all names of a model
pub names_parts : (model : List Entry) → flat_map names_on (model_lines model) ++ part_names (part_lines model) ≡ names_in model
unfolding names_in
names_parts model = sym (flat_map-append names_on (model_lines model) (filter (λ line. not (lists_ports (kind_of line))) (part_lines model)))
