-- The order of rows, column by column.
use Rattle.std.proofs.Common.{◌≡◌, ℕ, ◌+◌, ◌<◌, ◌≤◌, Bool, true, false, Option, Some, None, List, [], ◌∷◌, length, get_or, drop, refl, sym, ap, ◌∙◌, arith, IsTrue, ◌↔◌}
use Rattle.std.specs.Option.{option_cmp}
use Rattle.std.specs.Ordering.{is_eq, is_ne, bool_cmp, ordering_then}
use Rattle.std.specs.declared.cmp.Ordering.{Ordering}
use Rattle.std.specs.declared.cmp.Ordering.TheVariants.{Less, Equal, Greater}
use Rattle.std.proofs.lemmas.List.{drop_more, drop_all}
use Rattle.cube_cover.specs.Literals.{row_cmp}

-- the order of what is left of two rows
order_more : (a b : List (Option Bool)) (i : ℕ) → i < length a → i < length b
    → row_cmp (drop i a) (drop i b) ≡ ordering_then (option_cmp bool_cmp (get_or a i None) (get_or b i None)) (row_cmp (drop (i + 1) a) (drop (i + 1) b))
order_more a b i h k = rw (drop_more a i None h, drop_more b i None k) refl

decided : (o rest : Ordering) → is_ne o ≡ true → o ≡ ordering_then o rest
decided Less rest h = refl
decided Greater rest h = refl
decided Equal rest h = cc

undecided : (o rest : Ordering) → is_ne o ≡ false → ordering_then o rest ≡ rest
undecided Less rest h = cc
undecided Greater rest h = cc
undecided Equal rest h = refl

pub order_ends : (a b : List (Option Bool)) (i : ℕ) (o : Ordering) → i < length a → i < length b → o ≡ option_cmp bool_cmp (get_or a i None) (get_or b i None) → is_ne o ≡ true → o ≡ row_cmp (drop i a) (drop i b)
order_ends a b i o h k e t = decided o (row_cmp (drop (i + 1) a) (drop (i + 1) b)) t ∙ ap (λ x. ordering_then x (row_cmp (drop (i + 1) a) (drop (i + 1) b))) e ∙ sym (order_more a b i h k)

pub order_goes : (a b : List (Option Bool)) (i : ℕ) (o : Ordering) → i < length a → i < length b → o ≡ option_cmp bool_cmp (get_or a i None) (get_or b i None) → is_ne o ≡ false
    → row_cmp (drop i a) (drop i b) ≡ row_cmp (drop (i + 1) a) (drop (i + 1) b)
order_goes a b i o h k e t =
    order_more a b i h k ∙ ap (λ x. ordering_then x (row_cmp (drop (i + 1) a) (drop (i + 1) b))) (sym e) ∙ undecided o (row_cmp (drop (i + 1) a) (drop (i + 1) b)) t

pub order_last : (a b : List (Option Bool)) (i : ℕ) → length a ≡ length b → length a ≤ i → row_cmp (drop i a) (drop i b) ≡ Equal
order_last a b i e le = rw (drop_all i a le, drop_all i b (omega arith)) refl

same_literals : (l m : Option Bool) (rest : Ordering) → is_eq (ordering_then (option_cmp bool_cmp l m) rest) ≡ true → (l ≡ m) × (is_eq rest ≡ true)
same_literals None None rest h = (refl, h)
same_literals None (Some true) rest h = absurd cc
same_literals None (Some false) rest h = absurd cc
same_literals (Some true) None rest h = absurd cc
same_literals (Some false) None rest h = absurd cc
same_literals (Some true) (Some true) rest h = (refl, h)
same_literals (Some true) (Some false) rest h = absurd cc
same_literals (Some false) (Some true) rest h = absurd cc
same_literals (Some false) (Some false) rest h = (refl, h)

same_rows : (a b : List (Option Bool)) → is_eq (row_cmp a b) ≡ true → a ≡ b
same_rows [] [] h = refl
same_rows [] (m ∷ ms) h = absurd cc
same_rows (l ∷ ls) [] h = absurd cc
same_rows (l ∷ ls) (m ∷ ms) h =
    let both = same_literals l m (row_cmp ls ms) h in
    rw (both.0, same_rows ls ms both.1) refl

equal_literals : (l : Option Bool) (rest : Ordering) → is_eq rest ≡ true → is_eq (ordering_then (option_cmp bool_cmp l l) rest) ≡ true
equal_literals None rest h = h
equal_literals (Some true) rest h = h
equal_literals (Some false) rest h = h

equal_row : (a : List (Option Bool)) → is_eq (row_cmp a a) ≡ true
equal_row [] = refl
equal_row (l ∷ ls) = equal_literals l (row_cmp ls ls) (equal_row ls)

pub order_exact : (a b : List (Option Bool)) (o : Ordering) → o ≡ row_cmp a b → IsTrue (is_eq o) ↔ (a ≡ b)
order_exact a b o e = (
  λ t. same_rows a b (ap is_eq (sym e) ∙ t),
  λ h. ap is_eq e ∙ ap (λ (x : List (Option Bool)). is_eq (row_cmp a x)) (sym h) ∙ equal_row a,
)
