-- The names that the words of a `.subckt` line mention, and the first that is too long.
use Rattle.std.specs.Prelude.{◌≡◌, ℕ, Bool, true, false, cond, Option, Some, None, is_some, List, [], ◌∷◌, ◌++◌, find, flat_map, length, nat_lt}
use Rattle.std.specs.Borrow.{Bor}
use Rattle.std.specs.Option.{option_map, option_or, option_and_then}
use Rattle.std.proofs.Common.{refl, sym, ◌∙◌}
use Rattle.line_words.specs.LineWords.{texts, first_word, other_words, long_name}
use Rattle.blif_gates.specs.GateLines.{is_pair}
use Rattle.blif_lines.specs.Lines.{pair_names, subckt_names}
use Rattle.sis_base.specs.declared.limits.TheConstants.{MAX_NAME}

-- the first of two lists of names
pub long_both : (names more : List (List ℕ)) → long_name (names ++ more) ≡ option_or (long_name names) (long_name more)
unfolding long_name
long_both [] more = refl
long_both (name ∷ names) more =
    by (nat_lt MAX_NAME (length name)) (find (λ (n : List ℕ). nat_lt MAX_NAME (length n)) (names ++ more)) (find (λ (n : List ℕ). nat_lt MAX_NAME (length n)) names) (long_both names more)
  where
    by : (b : Bool) (both front : Option (List ℕ)) → option_map (λ (n : List ℕ). length n) both ≡ option_or (option_map (λ (n : List ℕ). length n) front) (long_name more)
        → option_map (λ (n : List ℕ). length n) (cond b (Some name) both) ≡ option_or (option_map (λ (n : List ℕ). length n) (cond b (Some name) front)) (long_name more)
    by true both front e = refl
    by false both front e = e

-- the name of the model, then those of the pairs
model_first : (words : List (List ℕ)) → option_or (long_name (first_word words ∷ [])) (long_name (flat_map pair_names (other_words words))) ≡ long_name (subckt_names words)
unfolding long_name
model_first [] = refl
model_first (model ∷ words) = sym (long_both (model ∷ []) (flat_map pair_names words))

pub model_then_pairs : (words : List (List ℕ)) (model : List ℕ) (pairs : List (List ℕ)) (found : Option ℕ) → model ≡ first_word words → pairs ≡ other_words words → found ≡ long_name (model ∷ [])
    → option_or found (long_name (flat_map pair_names pairs)) ≡ long_name (subckt_names words)
model_then_pairs words model pairs found m p f = rw (f, m, p) (model_first words)

-- a word that is no pair has no name
pub no_pair : (word : List ℕ) → is_pair word ≡ false → None ≡ long_name (pair_names word)
unfolding long_name
no_pair word e = rw e refl

-- the length of the first long name of pairs is that of the first pair that has one
pub long_found : (words : List (Bor (List ℕ))) → option_and_then (λ (word : Bor (List ℕ)). long_name (pair_names word.now)) (find (λ (word : Bor (List ℕ)). is_some (long_name (pair_names word.now))) words) ≡ long_name (flat_map pair_names (texts words))
unfolding long_name
long_found [] = refl
long_found (word ∷ words) = by (long_name (pair_names word.now)) refl (long_found words) ∙ sym (long_both (pair_names word.now) (flat_map pair_names (texts words)))
  where
    long_of : Bor (List ℕ) → Option ℕ
    long_of one = long_name (pair_names one.now)

    by : (found : Option ℕ) → long_of word ≡ found → option_and_then long_of (find (λ (one : Bor (List ℕ)). is_some (long_of one)) words) ≡ long_name (flat_map pair_names (texts words))
        → option_and_then long_of (cond (is_some found) (Some word) (find (λ (one : Bor (List ℕ)). is_some (long_of one)) words)) ≡ option_or found (long_name (flat_map pair_names (texts words)))
    by None e rest = rest
    by (Some len) e rest = e
