-- One step of each walk over two tables, and its end, as loops take them.
use Rattle.std.proofs.Common.{◌≡◌, ℕ, ◌+◌, ◌<◌, ◌≤◌, Bool, false, ◌&&◌, ◌||◌, List, [], ◌∷◌, length, drop, get_or, refl}
use Rattle.std.proofs.lemmas.List.{drop_more, drop_all}
use Rattle.genlib_expr.specs.Tables.{products, sums}

pub products_more : (i : ℕ) (left right : List Bool) → i < length left → i < length right → products (drop i left) (drop i right) ≡ (get_or left i false && get_or right i false) ∷ products (drop (i + 1) left) (drop (i + 1) right)
unfolding products
products_more i left right h k = rw (drop_more left i false h, drop_more right i false k) refl

pub products_done : (i : ℕ) (left right : List Bool) → length left ≤ i → products (drop i left) (drop i right) ≡ []
unfolding products
products_done i left right h = rw (drop_all i left h) refl

no_products : (bits : List Bool) → products bits [] ≡ []
unfolding products
no_products [] = refl
no_products (bit ∷ bits) = refl

pub products_short : (i : ℕ) (left right : List Bool) → length right ≤ i → products (drop i left) (drop i right) ≡ []
products_short i left right h = rw (drop_all i right h) (no_products (drop i left))

pub sums_more : (i : ℕ) (left right : List Bool) → i < length left → i < length right → sums (drop i left) (drop i right) ≡ (get_or left i false || get_or right i false) ∷ sums (drop (i + 1) left) (drop (i + 1) right)
unfolding sums
sums_more i left right h k = rw (drop_more left i false h, drop_more right i false k) refl

pub sums_done : (i : ℕ) (left right : List Bool) → length left ≤ i → sums (drop i left) (drop i right) ≡ []
unfolding sums
sums_done i left right h = rw (drop_all i left h) refl

no_sums : (bits : List Bool) → sums bits [] ≡ []
unfolding sums
no_sums [] = refl
no_sums (bit ∷ bits) = refl

pub sums_short : (i : ℕ) (left right : List Bool) → length right ≤ i → sums (drop i left) (drop i right) ≡ []
sums_short i left right h = rw (drop_all i right h) (no_sums (drop i left))
