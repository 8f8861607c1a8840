-- Runs of the lines of a text, and how they are split into models, one after the other.
use Rattle.std.specs.Prelude.{◌≡◌, ℕ, suc, ◌+◌, ◌<◌, Bool, true, false, not, cond, List, [], ◌∷◌, ◌++◌, map, length, take, drop, take_while, slice_index_or, if◌then◌else◌}
use Rattle.std.specs.Borrow.{Bor}
use Rattle.std.specs.List.{prefix_len, take-map, drop-map}
use Rattle.std.proofs.Common.{refl, sym, ◌∙◌, ap, arith, append_assoc, append-nil}
use Rattle.std.proofs.Math.ListN.{get_or-map}
use Rattle.std.proofs.lemmas.List.{map-append, length-map}
use Rattle.std.proofs.lemmas.List.Folds.{length-prefix_len}
use Rattle.sis_text.specs.declared.places.Line.{Line}
use Rattle.sis_text.specs.Entries.{Entry, entry_at}
use Rattle.blif_lines.specs.Reader.{model_lines}
use Rattle.blif_models.specs.Files.{lines_at, models_at, first_count}
use Rattle.blif_models.specs.Models.{begins_model, put_before, models_of}

prefix_map : {A B : Type 0} (f : A → B) (test : B → Bool) (items : List A) → prefix_len test (map f items) ≡ prefix_len (λ item. test (f item)) items
prefix_map f test [] = refl
prefix_map f test (item ∷ items) = ap (λ (n : ℕ). cond (test (f item)) (1 + n) 0) (prefix_map f test items)

-- a run of lines by their words
pub run_as_entries : (test : Entry → Bool) (text : List ℕ) (lines : List Line) →
    lines_at text (take (length (take_while (λ (line : Line). test (entry_at text line)) lines)) lines) ≡ take_while test (lines_at text lines)
run_as_entries test text lines =
    ap (λ (n : ℕ). map (entry_at text) (take n lines)) (length-prefix_len (λ (line : Line). test (entry_at text line)) lines ∙ sym (prefix_map (entry_at text) test lines))
    ∙ sym (take-map (entry_at text) (prefix_len test (map (entry_at text) lines)) lines)

-- the number of lines of the first model
pub count_as_entries : (text : List ℕ) (lines : List Line) (count : ℕ) → count ≡ length (take_while (λ (line : Line). not (begins_model (entry_at text line))) (drop 1 lines))
    → 1 + count ≡ first_count (lines_at text lines)
count_as_entries text lines count is =
    ap (λ (n : ℕ). 1 + n)
    (is ∙ length-prefix_len (λ (line : Line). not (begins_model (entry_at text line))) (drop 1 lines)
    ∙ sym (prefix_map (entry_at text) (λ (line : Entry). not (begins_model line)) (drop 1 lines))
    ∙ ap (prefix_len (λ (line : Entry). not (begins_model line))) (sym (drop-map (entry_at text) 1 lines)))

-- the first model of some lines, and those of the others
pub first_split : (lines : List Entry) → 0 < length lines → models_of lines ≡ take (first_count lines) lines ∷ models_of (drop (first_count lines) lines)
unfolding models_of put_before
first_split [] some = absurd (omega (arith, some))
first_split (line ∷ []) some = refl
first_split (line ∷ next ∷ rest) some = by (first_split (next ∷ rest) (omega arith)) (begins_model next) refl
  where
    count : ℕ
    count = prefix_len (λ (one : Entry). not (begins_model one)) rest

    one_more : 1 + count ≡ suc count
    one_more = omega arith

    two_more : 1 + (1 + count) ≡ suc (suc count)
    two_more = omega arith

    by : models_of (next ∷ rest) ≡ take (1 + count) (next ∷ rest) ∷ models_of (drop (1 + count) (next ∷ rest)) → (b : Bool) → begins_model next ≡ b
        → put_before line (models_of (next ∷ rest)) ≡ take (1 + cond (not b) (1 + count) 0) (line ∷ next ∷ rest) ∷ models_of (drop (1 + cond (not b) (1 + count) 0) (line ∷ next ∷ rest))
    by rec true e =
        let inner : models_of (next ∷ rest) ≡ (next ∷ take count rest) ∷ models_of (drop count rest)
        = rec ∙ ap (λ (n : ℕ). take n (next ∷ rest) ∷ models_of (drop n (next ∷ rest))) one_more in
        ap (put_before line) inner
        ∙ ap (λ (b : Bool). if b then (line ∷ []) ∷ (next ∷ take count rest) ∷ models_of (drop count rest) else (line ∷ next ∷ take count rest) ∷ models_of (drop count rest)) e
        ∙ ap (λ (models : List (List Entry)). (line ∷ []) ∷ models) (sym inner)
    by rec false e =
        let inner : models_of (next ∷ rest) ≡ (next ∷ take count rest) ∷ models_of (drop count rest)
        = rec ∙ ap (λ (n : ℕ). take n (next ∷ rest) ∷ models_of (drop n (next ∷ rest))) one_more in
        ap (put_before line) inner
        ∙ ap (λ (b : Bool). if b then (line ∷ []) ∷ (next ∷ take count rest) ∷ models_of (drop count rest) else (line ∷ next ∷ take count rest) ∷ models_of (drop count rest)) e
        ∙ sym (ap (λ (n : ℕ). take n (line ∷ next ∷ rest) ∷ models_of (drop n (line ∷ next ∷ rest))) two_more)

-- one model more is split off
pub split_more : (text : List ℕ) (models : List (Bor (List Line))) (model : Bor (List Line)) (rest others : List Line) (count : ℕ) (all : List (List Entry)) →
    0 < length rest → count ≡ first_count (lines_at text rest) → model.now ≡ take count rest → others ≡ drop count rest
    → models_at text models ++ models_of (lines_at text rest) ≡ all → models_at text (models ++ model ∷ []) ++ models_of (lines_at text others) ≡ all
split_more text models model rest others count all some is first behind before =
    ap (λ (front : List (List Entry)). front ++ models_of (lines_at text others)) (map-append (λ (one : Bor (List Line)). lines_at text one.now) models (model ∷ []))
    ∙ append_assoc (models_at text models) (lines_at text model.now ∷ []) (models_of (lines_at text others))
    ∙ ap (λ (behind : List (List Entry)). models_at text models ++ behind) (sym whole)
    ∙ before
  where
    size : 0 < length (lines_at text rest)
    size = rw (length-map rest (entry_at text)) some

    whole : models_of (lines_at text rest) ≡ lines_at text model.now ∷ models_of (lines_at text others)
    whole =
        first_split (lines_at text rest) size
        ∙ ap (λ (n : ℕ). take n (lines_at text rest) ∷ models_of (drop n (lines_at text rest))) (sym is)
        ∙ ap (λ (one : List Entry). one ∷ models_of (drop count (lines_at text rest))) (take-map (entry_at text) count rest ∙ ap (lines_at text) (sym first))
        ∙ ap (λ (lines : List Entry). lines_at text model.now ∷ models_of lines) (drop-map (entry_at text) count rest ∙ ap (lines_at text) (sym behind))

-- no lines are left to split
pub split_done : (text : List ℕ) (models : List (Bor (List Line))) (rest : List Line) (all : List (List Entry)) → length rest ≡ 0
    → models_at text models ++ models_of (lines_at text rest) ≡ all → models_at text models ≡ all
unfolding models_of
split_done text models [] all none h = sym (append-nil (models_at text models)) ∙ h
split_done text models (line ∷ rest) all none h = absurd (omega (arith, none))

-- the body at an index is that of the model at the index
pub body_at : (bodies models : List (List Entry)) (place : ℕ) → bodies ≡ map model_lines models → slice_index_or bodies place [] ≡ model_lines (slice_index_or models place [])
unfolding model_lines
body_at bodies models place is = ap (λ (lists : List (List Entry)). slice_index_or lists place []) is ∙ get_or-map model_lines models place []
