-- Words as slices of a text, and their bytes.
use Rattle.std.proofs.Common.{◌≡◌, ℕ, Bool, true, false, ◌&&◌, ◌||◌, cond, List, [], ◌∷◌, Option, Some, length, find, nat_lt, bytes_eq, refl, ap}
use Rattle.std.specs.Borrow.{Bor}
use Rattle.std.specs.List.{list_all, list_any}
use Rattle.std.specs.Option.{option_map, option_map_or}
use Rattle.circuit_model.specs.Names.{has}
use Rattle.line_words.specs.LineWords.{texts, long_name}
use Rattle.blif_gates.specs.GateLines.{pin_in, signal_in, is_pair, pins_of, signals_of, signal_for}
use Rattle.sis_base.specs.declared.limits.TheConstants.{MAX_NAME}

pub all_pairs : (words : List (Bor (List ℕ))) → list_all (λ (word : Bor (List ℕ)). is_pair word.now) words ≡ list_all is_pair (texts words)
all_pairs [] = refl
all_pairs (word ∷ words) = ap (λ (b : Bool). is_pair word.now && b) (all_pairs words)

pub any_names : (pin : List ℕ) (words : List (Bor (List ℕ))) → list_any (λ (word : Bor (List ℕ)). bytes_eq pin (pin_in word.now)) words ≡ has (pins_of (texts words)) pin
any_names pin [] = refl
any_names pin (word ∷ words) = ap (λ (b : Bool). bytes_eq pin (pin_in word.now) || b) (any_names pin words)

-- the signal of the pair that is found
pub signal_found : (words : List (Bor (List ℕ))) (pin : List ℕ) → option_map_or (λ (word : Bor (List ℕ)). signal_in word.now) (find (λ (word : Bor (List ℕ)). bytes_eq pin (pin_in word.now)) words) [] ≡ signal_for (texts words) pin
unfolding signal_for
signal_found [] pin = refl
signal_found (word ∷ words) pin =
    by (bytes_eq pin (pin_in word.now)) (find (λ (w : Bor (List ℕ)). bytes_eq pin (pin_in w.now)) words) (find (λ (w : List ℕ). bytes_eq pin (pin_in w)) (texts words)) (signal_found words pin)
  where
    by : (b : Bool) (left : Option (Bor (List ℕ))) (right : Option (List ℕ)) → option_map_or (λ (w : Bor (List ℕ)). signal_in w.now) left [] ≡ option_map_or signal_in right []
        → option_map_or (λ (w : Bor (List ℕ)). signal_in w.now) (cond b (Some word) left) [] ≡ option_map_or signal_in (cond b (Some word.now) right) []
    by true left right e = refl
    by false left right e = e

-- the length of the first long signal
pub long_found : (words : List (Bor (List ℕ))) → option_map (λ (word : Bor (List ℕ)). length (signal_in word.now)) (find (λ (word : Bor (List ℕ)). nat_lt MAX_NAME (length (signal_in word.now))) words) ≡ long_name (signals_of (texts words))
unfolding long_name
long_found [] = refl
long_found (word ∷ words) =
    by (nat_lt MAX_NAME (length (signal_in word.now))) (find (λ (w : Bor (List ℕ)). nat_lt MAX_NAME (length (signal_in w.now))) words) (find (λ (w : List ℕ). nat_lt MAX_NAME (length w)) (signals_of (texts words))) (long_found words)
  where
    by : (b : Bool) (left : Option (Bor (List ℕ))) (right : Option (List ℕ)) → option_map (λ (w : Bor (List ℕ)). length (signal_in w.now)) left ≡ option_map (λ (w : List ℕ). length w) right
        → option_map (λ (w : Bor (List ℕ)). length (signal_in w.now)) (cond b (Some word) left) ≡ option_map (λ (w : List ℕ). length w) (cond b (Some (signal_in word.now)) right)
    by true left right e = refl
    by false left right e = e
