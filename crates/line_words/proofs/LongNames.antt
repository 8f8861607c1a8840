-- The first word that is longer than a name may be, by its bytes.
use Rattle.std.specs.Prelude.{◌≡◌, ℕ, length, Bool, true, false, List, [], ◌∷◌, Option, Some, None, find, nat_lt, cond}
use Rattle.std.specs.Borrow.{Bor}
use Rattle.std.specs.Option.{option_map}
use Rattle.std.proofs.Common.{refl, sym, ◌∙◌, ap}
use Rattle.line_words.specs.LineWords.{texts, long_name}
use Rattle.sis_base.specs.declared.limits.TheConstants.{MAX_NAME}

found_texts : (test : List ℕ → Bool) (words : List (Bor (List ℕ))) → find test (texts words) ≡ option_map (λ (word : Bor (List ℕ)). word.now) (find (λ (word : Bor (List ℕ)). test word.now) words)
found_texts test [] = refl
found_texts test (word ∷ words) = by (test word.now) (find test (texts words)) (find (λ (w : Bor (List ℕ)). test w.now) words) (found_texts test words)
  where
    by : (b : Bool) (left : Option (List ℕ)) (right : Option (Bor (List ℕ))) → left ≡ option_map (λ (w : Bor (List ℕ)). w.now) right → cond b (Some word.now) left ≡ option_map (λ (w : Bor (List ℕ)). w.now) (cond b (Some word) right)
    by true left right e = refl
    by false left right e = e

pub long_found : (words : List (Bor (List ℕ))) (found : Option (Bor (List ℕ))) → found ≡ find (λ (word : Bor (List ℕ)). nat_lt MAX_NAME (length word.now)) words → option_map (λ (word : Bor (List ℕ)). length word.now) found ≡ long_name (texts words)
unfolding long_name
long_found words None e = ap (option_map (λ (name : List ℕ). length name)) (ap (option_map (λ (word : Bor (List ℕ)). word.now)) e ∙ sym (found_texts (λ name. nat_lt MAX_NAME (length name)) words))
long_found words (Some word) e = ap (option_map (λ (name : List ℕ). length name)) (ap (option_map (λ (word : Bor (List ℕ)). word.now)) e ∙ sym (found_texts (λ name. nat_lt MAX_NAME (length name)) words))
