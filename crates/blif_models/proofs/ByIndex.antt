-- Lists by the indices of their items, and the first item that passes a test by its index.
use Rattle.std.specs.Prelude.{◌≡◌, ℕ, zero, suc, ◌+◌, ◌++◌, Bool, true, false, cond, Option, Some, None, List, [], ◌∷◌, map, find, length, position, slice_index_or, unwrap_or}
use Rattle.std.specs.Option.{option_map, option_map_or}
use Rattle.std.specs.List.{range_with_len, position_from}
use Rattle.std.proofs.Common.{refl, sym, ◌∙◌, ap, add-one, arith}
use Rattle.std.proofs.lemmas.List.FromFn.{map-range_with_len_more}
use Rattle.std.proofs.lemmas.Iterator.Adapters.{position_from-zero}

-- an item of a mapped list
pub value_at : {A B : Type 0} (f : A → B) (xs : List A) (place : ℕ) (d : A) → slice_index_or (map f xs) place (f d) ≡ f (slice_index_or xs place d)
value_at f [] place d = refl
value_at f (x ∷ xs) zero d = refl
value_at f (x ∷ xs) (suc place) d = value_at f xs place d

shifted : {B : Type 0} (g : ℕ → B) (first count : ℕ) → map g (range_with_len (first + 1) count) ≡ map (λ place. g (suc place)) (range_with_len first count)
shifted g first zero = refl
shifted g first (suc count) =
    ap (λ (place : ℕ). g place ∷ map g (range_with_len (first + 1 + 1) count)) (add-one first)
    ∙ ap (λ rest. g (suc first) ∷ rest) (shifted g (first + 1) count)

-- a list is that of its items by their indices
pub by_places : {A B : Type 0} (f : A → B) (xs : List A) (d : A) → map (λ place. f (slice_index_or xs place d)) (range_with_len 0 (length xs)) ≡ map f xs
by_places f [] d = refl
by_places f (x ∷ xs) d =
    ap (λ rest. f x ∷ rest) (shifted (λ place. f (slice_index_or (x ∷ xs) place d)) 0 (length xs) ∙ by_places f xs d)

-- the loop that makes such a list
pub one_more : {A : Type 0} (f : ℕ → A) (place : ℕ) (made more : List A) → made ≡ map f (range_with_len 0 place) → more ≡ made ++ f place ∷ [] → more ≡ map f (range_with_len 0 (place + 1))
one_more {A = A} f place made more e m = m ∙ ap (λ (items : List A). items ++ f place ∷ []) e ∙ sym (map-range_with_len_more f 0 place place (omega arith))

pub mapped_same : {A B : Type 0} (f g : A → B) → ((x : A) → f x ≡ g x) → (xs : List A) → map f xs ≡ map g xs
mapped_same f g same [] = refl
mapped_same f g same (x ∷ xs) = ap (λ y. y ∷ map f xs) (same x) ∙ ap (λ rest. g x ∷ rest) (mapped_same f g same xs)

pub later : {A : Type 0} (test : A → Bool) (first : ℕ) (xs : List A) → position_from test (first + 1) xs ≡ option_map suc (position_from test first xs)
later test first [] = refl
later test first (x ∷ xs) = by (test x) (later test (first + 1) xs)
  where
    by : (b : Bool) → position_from test (first + 1 + 1) xs ≡ option_map suc (position_from test (first + 1) xs)
        → cond b (Some (first + 1)) (position_from test (first + 1 + 1) xs) ≡ option_map suc (cond b (Some first) (position_from test (first + 1) xs))
    by true rest = ap Some (add-one first)
    by false rest = rest

one_later : {A : Type 0} (f : ℕ → A) (found : Option ℕ) (d : A) → option_map_or (λ place. f (suc place)) found d ≡ option_map_or f (option_map suc found) d
one_later f None d = refl
one_later f (Some place) d = refl

found_from : {A : Type 0} (test : A → Bool) (xs : List A) (d : A) → unwrap_or (find test xs) d ≡ option_map_or (λ place. slice_index_or xs place d) (position_from test 0 xs) d
found_from test [] d = refl
found_from {A = A} test (x ∷ xs) d = by (test x) (found_from test xs d)
  where
    at : ℕ → A
    at = λ place. slice_index_or (x ∷ xs) place d

    by : (b : Bool) → unwrap_or (find test xs) d ≡ option_map_or (λ place. slice_index_or xs place d) (position_from test 0 xs) d
        → unwrap_or (cond b (Some x) (find test xs)) d ≡ option_map_or at (cond b (Some 0) (position_from test (0 + 1) xs)) d
    by true rest = refl
    by false rest = rest ∙ one_later at (position_from test 0 xs) d ∙ ap (λ found. option_map_or at found d) (sym (later test 0 xs))

-- the first item that passes a test, by its index
pub found_at : {A : Type 0} (test : A → Bool) (xs : List A) (d : A) → unwrap_or (find test xs) d ≡ option_map_or (λ place. slice_index_or xs place d) (position test xs) d
found_at test xs d = found_from test xs d ∙ ap (λ found. option_map_or (λ place. slice_index_or xs place d) found d) (sym (position_from-zero test xs))
