-- Steps of the writing of lines.
use Rattle.std.proofs.Common.{◌≡◌, ℕ, zero, suc, ◌-◌, ◌+◌, min, codes, ◌==◌, Bool, true, false, List, [], ◌∷◌, ◌++◌, length, map, cond, refl, arith}
use Rattle.std.specs.List.{flat_map}
use Rattle.std.proofs.lemmas.List.Concat.{flat_map-cons}
use Rattle.std.proofs.lemmas.Grind.{common_steps}
use Rattle.std.proofs.lemmas.Bool.Decides.{nat_tests}
use Rattle.sis_base.specs.Written.{spaced, joined_words, line_text, lines_text}
use Rattle.circuit_model.specs.declared.circuit.Tri.{Tri}
use Rattle.circuit_model.specs.declared.circuit.Table.{Table}
use Rattle.circuit_model.specs.Text.{row_line, character, digit_of_phase, init_word, dotted, dont_care_lines, table_lines}

-- words and a last one
pub words_and_last : (words : List (List ℕ)) (last : List ℕ) → flat_map spaced (words ++ last ∷ []) ≡ flat_map spaced words ++ spaced last
words_and_last words last = grind (arith, common_steps)

not_none : {A : Type 0} (item : A) (items : List A) → (length (item ∷ items) == 0) ≡ false
not_none item items = grind (arith, nat_tests)

-- a row's line, by its characters
pub row_words : (phase : Bool) (row : List Tri) →
    joined_words (row_line phase row) ≡ map character row ++ (cond (length row == 0) [] (32 ∷ []) ++ digit_of_phase phase)
unfolding joined_words row_line
row_words true [] = refl
row_words false [] = refl
row_words true (place ∷ places) = let some : (length (place ∷ places) == 0) ≡ false = not_none place places in rw some refl
row_words false (place ∷ places) = let some : (length (place ∷ places) == 0) ≡ false = not_none place places in rw some refl

-- the digit of a latch's first value
pub init_digit : (init : ℕ) → (48 + min init 3) ∷ [] ≡ init_word init
init_digit zero = refl
init_digit (suc zero) = refl
init_digit (suc (suc zero)) = refl
init_digit (suc (suc (suc init))) = let least : min (suc (suc (suc init))) 3 ≡ 3 = omega arith in rw least refl

-- a latch's words
pub latch_words : (first input output : List ℕ) (timing : List (List ℕ)) (init : List ℕ) →
    first ++ flat_map spaced (input ∷ output ∷ timing ++ init ∷ []) ≡ ((first ++ spaced input ++ spaced output) ++ flat_map spaced timing) ++ spaced init
latch_words first input output timing init = grind (arith, common_steps)

-- the don't-care part
pub dont_care_text : (tables : List Table) →
    lines_text (dont_care_lines tables) ≡ cond (length tables == 0) [] (line_text (dotted (codes ".exdc") []) ++ lines_text (flat_map table_lines tables))
unfolding dont_care_lines lines_text
dont_care_text [] = refl
dont_care_text (table ∷ tables) =
    let some : (length (table ∷ tables) == 0) ≡ false = not_none table tables in
    rw some (flat_map-cons line_text (dotted (codes ".exdc") []) (flat_map table_lines (table ∷ tables)))
