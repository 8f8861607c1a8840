-- A written line as an entry, and that a row is one.
use Rattle.std.proofs.Common.{◌≡◌, ℕ, Bool, true, false, List, [], ◌∷◌, refl, map}
use Rattle.sis_base.specs.Written.{Written}
use Rattle.sis_text.specs.Entries.{Entry}
use Rattle.circuit_model.specs.declared.circuit.Tri.{Tri}
use Rattle.circuit_model.specs.declared.circuit.Tri.TheVariants.{Zero, One, Free}
use Rattle.circuit_model.specs.Text.{character, digit_of_phase, row_line}
use Rattle.blif_lines.specs.Keyword.{keyword_of, skipped_words}
use Rattle.blif_lines.specs.declared.keyword.Keyword.TheVariants.{Row}

-- a written line as an entry
abbrev pub entry : ℕ → Written → Entry
entry number line = record { number = number; words = line.first ∷ line.others }

digit_kind : (phase : Bool) → keyword_of (digit_of_phase phase) ≡ Row
unfolding keyword_of skipped_words
digit_kind true = refl
digit_kind false = refl

characters_kind : (place : Tri) (row : List Tri) → keyword_of (map character (place ∷ row)) ≡ Row
unfolding keyword_of skipped_words
characters_kind Zero row = refl
characters_kind One row = refl
characters_kind Free row = refl

pub row_kind : (phase : Bool) (row : List Tri) → keyword_of (row_line phase row).first ≡ Row
unfolding row_line
row_kind phase [] = digit_kind phase
row_kind phase (place ∷ row) = characters_kind place row
