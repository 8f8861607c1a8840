-- Words as slices of a text: definitions about them go by their bytes.
use Rattle.std.specs.Prelude.{◌≡◌, ℕ, false, ◌+◌, ◌-◌, ◌<◌, ◌≤◌, length, take, List, [], ◌∷◌, ◌++◌, min}
use Rattle.std.specs.Borrow.{Bor}
use Rattle.std.specs.List.{take-map}
use Rattle.std.proofs.Common.{refl, sym, ◌∙◌, ap, get_or, arith}
use Rattle.std.proofs.lemmas.List.{take_min, take_more, length-map, map-append, append-nil}
use Rattle.std.proofs.lemmas.Grind.{flat_map-append}
use Rattle.sis_text.specs.Words.{begins_with}
use Rattle.line_words.specs.LineWords.{texts}
use Rattle.blif_lines.specs.Keyword.{keyword_of, skipped_words}
use Rattle.blif_lines.specs.declared.keyword.Keyword.TheVariants.{Row}
use Rattle.blif_lines.specs.Lines.{last_word, joined, input_words}

pub texts_more : (words : List (Bor (List ℕ))) (i : ℕ) (d : Bor (List ℕ)) → i < length words → texts (take (i + 1) words) ≡ texts (take i words) ++ (get_or words i d).now ∷ []
texts_more words i d h = rw (take_more words i d h) (map-append (λ (word : Bor (List ℕ)). word.now) (take i words) (get_or words i d ∷ []))

-- the last word is the one of the last index
pub last_by : (word : Bor (List ℕ)) (words : List (Bor (List ℕ))) (d : Bor (List ℕ)) → last_word (texts (word ∷ words)) ≡ (get_or (word ∷ words) (length words) d).now
unfolding last_word
last_by word [] d = refl
last_by word (next ∷ words) d = last_by next words d

pub last_at : (words : List (Bor (List ℕ))) (d : Bor (List ℕ)) → 1 ≤ length words → (get_or words (length words - 1) d).now ≡ last_word (texts words)
last_at [] d h = absurd (omega arith)
last_at (word ∷ words) d h =
    let e : length (word ∷ words) - 1 ≡ length words = omega arith in
    ap (λ i. (get_or (word ∷ words) i d).now) e ∙ sym (last_by word words d)

-- all words but the last
pub front_texts : (words : List (Bor (List ℕ))) → texts (take (length words - 1) words) ≡ input_words (texts words)
front_texts words =
    sym (take-map (λ (word : Bor (List ℕ)). word.now) (length words - 1) words)
    ∙ ap (λ n. take (n - 1) (texts words)) (sym (length-map words (λ (word : Bor (List ℕ)). word.now)))

-- the bytes of one word more
pub joined_more : (words : List (Bor (List ℕ))) (i : ℕ) (d : Bor (List ℕ)) → i < length words → joined (texts (take (i + 1) words)) ≡ joined (texts (take i words)) ++ (get_or words i d).now
unfolding joined
joined_more words i d h =
    rw (texts_more words i d h)
    (flat_map-append (λ (word : List ℕ). word) (texts (take i words)) ((get_or words i d).now ∷ [])
    ∙ ap (λ (rest : List ℕ). joined (texts (take i words)) ++ rest) (append-nil (get_or words i d).now))

pub last_none : (words : List (Bor (List ℕ))) → length words < 1 → [] ≡ last_word (texts words)
unfolding last_word
last_none [] h = refl
last_none (word ∷ words) h = absurd (omega arith)

pub joined_goes_on : (words : List (Bor (List ℕ))) (i : ℕ) (d : Bor (List ℕ)) → i < length words → (bytes more : List ℕ) → bytes ≡ joined (texts (take i words)) → more ≡ bytes ++ (get_or words i d).now → more ≡ joined (texts (take (i + 1) words))
joined_goes_on words i d h bytes more e m =
    m ∙ ap (λ (b : List ℕ). b ++ (get_or words i d).now) e ∙ sym (joined_more words i d h)

-- the first words
pub first_texts : (words : List (Bor (List ℕ))) (count most : ℕ) → most ≡ min count (length words) → texts (take most words) ≡ take count (texts words)
first_texts words count most e =
    sym (take-map (λ (word : Bor (List ℕ)). word.now) most words)
    ∙ ap (λ n. take n (texts words)) (e ∙ ap (λ n. min count n) (sym (length-map words (λ (word : Bor (List ℕ)). word.now))))
    ∙ take_min count (texts words)

-- a word that does not begin with `.` is that of a row
pub row_word : (word : List ℕ) → begins_with 46 word ≡ false → keyword_of word ≡ Row
unfolding keyword_of skipped_words
row_word [] e = refl
row_word (byte ∷ bytes) e = rw e refl
