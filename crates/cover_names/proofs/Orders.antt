-- Total orders that distinguish any two values: those of literals, cubes and covers.
use Rattle.std.proofs.Common.{◌≡◌, ◌⊎◌, ◌<◌, ◌+◌, ℕ, length, inl, inr, arith, lt-ltb, le-ltb, eq-eqb, ne_eqb, Bool, true, false, List, [], ◌∷◌, Ordering, Less, Equal, Greater, is_lt, is_gt, nat_cmp, refl, sym, ap, ap₂, ◌∙◌, true≢false}
use Rattle.std.specs.Cmp.{IsTotalOrder}
use Rattle.std.specs.Cmp.Lexicographic.{slice_cmp}
use Rattle.std.specs.Ordering.{bool_cmp, ordering_then, is_ne}
use Rattle.std.proofs.lemmas.Cmp.{lists_total, tied_itself, ranked}
use Rattle.cover_names.specs.Literals.{literal_cmp, cube_cmp, cover_cmp}
use Rattle.cover_names.specs.Orders.{literal_total}
use Rattle.cover_names.specs.declared.literal.Literal.{Literal}

-- a total order in which values that compare equal are equal
pub record IsOrder {X : Type 0} (cmp : X → X → Ordering) : Type 0 where
  pub total : IsTotalOrder cmp
  pub same : (x y : X) → cmp x y ≡ Equal → x ≡ y

-- no value is less than itself
pub not_below_itself : {X : Type 0} {cmp : X → X → Ordering} → IsTotalOrder cmp → (x : X) → cmp x x ≡ Less → ⊥
not_below_itself total x h = true≢false (sym (ap is_lt h) ∙ ap is_lt (tied_itself total x))

pub both_equal : (one other : Ordering) → ordering_then one other ≡ Equal → (one ≡ Equal) × (other ≡ Equal)
both_equal Less other h = absurd (true≢false (ap is_lt h))
both_equal Equal other h = (refl, h)
both_equal Greater other h = absurd (true≢false (ap is_gt h))

pub same_lists : {X : Type 0} (cmp : X → X → Ordering) → ((x y : X) → cmp x y ≡ Equal → x ≡ y) → (xs ys : List X) → slice_cmp cmp xs ys ≡ Equal → xs ≡ ys
same_lists cmp same [] [] h = refl
same_lists cmp same [] (y ∷ ys) h = absurd (true≢false (ap is_lt h))
same_lists cmp same (x ∷ xs) [] h = absurd (true≢false (ap is_gt h))
same_lists cmp same (x ∷ xs) (y ∷ ys) h =
    let parts = both_equal (cmp x y) (slice_cmp cmp xs ys) h in
    ap₂ (λ z zs. z ∷ zs) (same x y parts.0) (same_lists cmp same xs ys parts.1)

pub lists_order : {X : Type 0} {cmp : X → X → Ordering} → IsOrder cmp → IsOrder (slice_cmp cmp)
lists_order {cmp = cmp} order = record { total = lists_total order.total; same = same_lists cmp order.same }

same_number : (x y : ℕ) → nat_cmp x y ≡ Equal → x ≡ y
same_number x y h = told (nat_cmp x y) refl h
  where
    told : (o : Ordering) → o ≡ nat_cmp x y → o ≡ Equal → x ≡ y
    told Less e k = absurd (true≢false (ap is_lt k))
    told Equal e k = ranked x y Equal e
    told Greater e k = absurd (true≢false (ap is_gt k))

same_bit : (x y : Bool) → bool_cmp x y ≡ Equal → x ≡ y
same_bit true true h = refl
same_bit true false h = absurd (true≢false (ap is_gt h))
same_bit false true h = absurd (true≢false (ap is_lt h))
same_bit false false h = refl

-- the literal of a name and a bit
literal_from : List ℕ → Bool → Literal
literal_from name bit = record { name = name; bit = bit }

same_literals : (one other : Literal) → literal_cmp one other ≡ Equal → one ≡ other
unfolding literal_from
same_literals one other h =
    let parts = both_equal (slice_cmp nat_cmp one.name other.name) (bool_cmp one.bit other.bit) h in
    ap₂ literal_from (same_lists nat_cmp same_number one.name other.name parts.0) (same_bit one.bit other.bit parts.1)

pub literal_order : IsOrder literal_cmp
literal_order = record { total = literal_total; same = same_literals }

pub cube_order : IsOrder cube_cmp
cube_order = lists_order literal_order

pub cover_order : IsOrder cover_cmp
cover_order = lists_order cube_order

-- a loop that compares lists item by item
pub compared_more : {X : Type 0} (cmp : X → X → Ordering) (x y : X) (xs ys xs' ys' : List X) (whole : Ordering)
    → xs ≡ x ∷ xs' → ys ≡ y ∷ ys' → cmp x y ≡ Equal → slice_cmp cmp xs ys ≡ whole → slice_cmp cmp xs' ys' ≡ whole
compared_more cmp x y xs ys xs' ys' whole first second same h =
    ap (λ (o : Ordering). ordering_then o (slice_cmp cmp xs' ys')) (sym same) ∙ sym (ap₂ (slice_cmp cmp) first second) ∙ h

pub compared_apart : {X : Type 0} (cmp : X → X → Ordering) (x y : X) (xs ys xs' ys' : List X) (whole : Ordering)
    → xs ≡ x ∷ xs' → ys ≡ y ∷ ys' → is_ne (cmp x y) ≡ true → slice_cmp cmp xs ys ≡ whole → cmp x y ≡ whole
compared_apart cmp x y xs ys xs' ys' whole first second apart h = cases (cmp x y) apart ∙ sym (ap₂ (slice_cmp cmp) first second) ∙ h
  where
    cases : (o : Ordering) → is_ne o ≡ true → o ≡ ordering_then o (slice_cmp cmp xs' ys')
    cases Less k = refl
    cases Equal k = absurd (true≢false (sym k))
    cases Greater k = refl

below_is : (m n : ℕ) → m < n → Less ≡ nat_cmp m n
below_is m n h = rw (lt-ltb m n h) refl

level_is : (m n : ℕ) → m ≡ n → Equal ≡ nat_cmp m n
level_is m n h = rw (le-ltb m n (omega (arith, h)), eq-eqb m n h) refl

above_is : (m n : ℕ) → n < m → Greater ≡ nat_cmp m n
above_is m n h = rw (le-ltb m n (omega (arith, h)), ne_eqb m n (λ e. omega (arith, h, e))) refl

pub compared_all : {X : Type 0} (cmp : X → X → Ordering) (xs ys : List X) (m n : ℕ) → (xs ≡ []) ⊎ (ys ≡ []) → m + length ys ≡ n + length xs → slice_cmp cmp xs ys ≡ nat_cmp m n
compared_all cmp [] [] m n h e = level_is m n (omega (arith, e))
compared_all cmp [] (y ∷ ys) m n h e = below_is m n (omega (arith, e))
compared_all cmp (x ∷ xs) [] m n h e = above_is m n (omega (arith, e))
compared_all cmp (x ∷ xs) (y ∷ ys) m n (inl k) e = absurd cc
compared_all cmp (x ∷ xs) (y ∷ ys) m n (inr k) e = absurd cc
