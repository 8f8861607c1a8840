-- The words behind a line's first, and the name that they give a model.
use Rattle.std.specs.Prelude.{◌≡◌, ℕ, true, false, List, [], ◌∷◌, map, drop, codes}
use Rattle.std.proofs.Common.{refl, sym}
use Rattle.std.proofs.lemmas.Bool.{true≢false}
use Rattle.sis_text.specs.declared.places.Span.{Span}
use Rattle.sis_text.specs.Words.{bytes_at}
use Rattle.line_words.specs.LineWords.{other_words}
use Rattle.blif_lines.specs.Reader.{named_by}
use Rattle.blif_lines.specs.declared.keyword.Keyword.{Keyword}
use Rattle.blif_lines.specs.declared.keyword.Keyword.TheVariants.{Model, Inputs, Outputs, Clock, Names, Latch, Gate, Subckt, StartKiss, DontCare, End, Skipped, Row, Other}
use Rattle.blif_models.specs.Models.{is_model_kind}

-- the words of spans after the first
pub words_behind : (text : List ℕ) (spans : List Span) → map (bytes_at text) (drop 1 spans) ≡ other_words (map (bytes_at text) spans)
words_behind text [] = refl
words_behind text (span ∷ spans) = refl

-- a model is named by a line that begins it, and by no other
pub named_beside : (kind : Keyword) (words : List (List ℕ)) → is_model_kind kind ≡ false → named_by kind words ≡ codes "top"
named_beside Model words e = absurd (true≢false e)
named_beside Inputs words e = refl
named_beside Outputs words e = refl
named_beside Clock words e = refl
named_beside Names words e = refl
named_beside Latch words e = refl
named_beside Gate words e = refl
named_beside Subckt words e = refl
named_beside StartKiss words e = refl
named_beside DontCare words e = refl
named_beside End words e = refl
named_beside Skipped words e = refl
named_beside Row words e = refl
named_beside Other words e = refl

pub named_model : (kind : Keyword) (words : List (List ℕ)) → is_model_kind kind ≡ true → named_by kind words ≡ named_by Model words
named_model Model words e = refl
named_model Inputs words e = absurd (true≢false (sym e))
named_model Outputs words e = absurd (true≢false (sym e))
named_model Clock words e = absurd (true≢false (sym e))
named_model Names words e = absurd (true≢false (sym e))
named_model Latch words e = absurd (true≢false (sym e))
named_model Gate words e = absurd (true≢false (sym e))
named_model Subckt words e = absurd (true≢false (sym e))
named_model StartKiss words e = absurd (true≢false (sym e))
named_model DontCare words e = absurd (true≢false (sym e))
named_model End words e = absurd (true≢false (sym e))
named_model Skipped words e = absurd (true≢false (sym e))
named_model Row words e = absurd (true≢false (sym e))
named_model Other words e = absurd (true≢false (sym e))
