-- The text of a factored form. Source: De Micheli, "Synthesis and Optimization of Digital
-- Circuits", chapter 8 (factored forms); the signs `!`, `*` and `+` are those of the equations of
-- SIS (report UCB/ERL M92/41).
use Rattle.std.specs.Prelude.{ℕ, ltb, Bool, true, false, if◌then◌else◌, Option, Some, None, List, [], ◌∷◌, ◌++◌, length, map, flat_map, slice_index_or, codes}
use Rattle.alg_factor.specs.Forms.{Form, Sum, Split}

-- texts with a sign between them, or another text if there are none
abbrev pub join_texts : List ℕ → List ℕ → List (List ℕ) → List ℕ
join_texts none sign [] = none
join_texts none sign (text ∷ texts) = text ++ flat_map (λ next. sign ++ next) texts

-- a literal: the name, after `!` if it is negative
abbrev pub literal_text : Bool → List ℕ → List ℕ
literal_text true name = name
literal_text false name = codes "!" ++ name

-- the literal of a column, if it has one
abbrev pub texts_at : List ℕ → Option Bool → List (List ℕ)
texts_at name None = []
texts_at name (Some bit) = literal_text bit name ∷ []

-- the literals of a row, in order
unfoldable pub literal_texts : List (List ℕ) → List (Option Bool) → List (List ℕ)
literal_texts names [] = []
literal_texts [] (literal ∷ literals) = []
literal_texts (name ∷ names) (literal ∷ literals) = texts_at name literal ++ literal_texts names literals

-- a row: the product of its literals, `1` if it has none
abbrev pub row_text : List (List ℕ) → List (Option Bool) → List ℕ
row_text names row = join_texts (codes "1") (codes "*") (literal_texts names row)

-- a sum, `0` if it has no summand
abbrev pub sum_text : List (List ℕ) → List ℕ
sum_text texts = join_texts (codes "0") (codes " + ") texts

-- a sum as a factor: in parentheses if it has at least two summands
abbrev pub factor_text : List (List ℕ) → List ℕ
factor_text texts = if ltb 1 (length texts) then codes "(" ++ sum_text texts ++ codes ")" else sum_text texts

-- the summands of a form: the product of a literal and a form is one, followed by those of the form
-- that is added
unfoldable pub summand_texts : List (List ℕ) → Form → List (List ℕ)
summand_texts names (Sum rows) = map (row_text names) rows
summand_texts names (Split place bit quotient rest) =
    (literal_text bit (slice_index_or names place []) ++ codes "*" ++ factor_text (summand_texts names quotient)) ∷ summand_texts names rest

-- the text of a form
abbrev pub form_text : List (List ℕ) → Form → List ℕ
form_text names form = sum_text (summand_texts names form)
