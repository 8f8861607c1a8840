-- The words of a text, byte by byte.
use Rattle.std.proofs.Common.{◌≡◌, ℕ, ◌+◌, ◌<◌, ◌≤◌, Bool, List, [], ◌++◌, length, take, drop, get_or, refl, ap, option_to_list}
use Rattle.std.specs.List.{take_while}
use Rattle.std.proofs.lemmas.List.{drop_more, drop_all}
use Rattle.std.proofs.lemmas.List.Folds.{length-prefix_len}
use Rattle.genlib_expr.specs.Text.{is_name_byte, word_at, words_from}

-- as many elements as pass at the front are those that pass
pub front_taken : (p : ℕ → Bool) (xs : List ℕ) → take (length (take_while p xs)) xs ≡ take_while p xs
front_taken p xs = ap (λ n. take n xs) (length-prefix_len p xs)

pub words_more : (inside : Bool) (text : List ℕ) (i : ℕ) → i < length text → words_from inside (drop i text) ≡ option_to_list (word_at inside (drop i text)) ++ words_from (is_name_byte (get_or text i 0)) (drop (i + 1) text)
unfolding words_from
words_more inside text i h = rw (drop_more text i 0 h) refl

pub words_done : (inside : Bool) (text : List ℕ) (i : ℕ) → length text ≤ i → words_from inside (drop i text) ≡ []
unfolding words_from
words_done inside text i h = rw (drop_all i text h) refl
