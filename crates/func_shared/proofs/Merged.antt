-- The result of an operation on two trees: its bit at each point, that it is reduced, and one step.
use Rattle.std.proofs.Common.{◌≡◌, ℕ, suc, ◌≤◌, Bool, true, false, if◌then◌else◌, refl, ap, sym, ◌∙◌, subst, arith, nat_lt}
use Rattle.std.proofs.lemmas.Bool.{ltb-true, ltb-false}
use Rattle.func_core.specs.Trees.{Tree, Zero, One, Node, eval, IsReduced}
use Rattle.func_core.specs.Sizes.{tree_eq}
use Rattle.func_core.proofs.Trees.{tree_eq-same, tree_eq-other, IsReduced-weaker}
use Rattle.func_core.proofs.Unique.{one_tree}
use Rattle.func_core.specs.Operations.{bits}
use Rattle.func_shared.specs.Merging.{joined, leaf, merged_bit, merged_node, merged, SplitsAt}
use Rattle.func_core.specs.declared.operation.Operation.{Operation}
use Rattle.func_core.specs.declared.operation.Operation.TheVariants.{And, Or, Xor}

-- the operations commute
pub bits_turn : (operation : Operation) (a b : Bool) → bits operation a b ≡ bits operation b a
bits_turn And true true = refl
bits_turn And true false = refl
bits_turn And false true = refl
bits_turn And false false = refl
bits_turn Or true true = refl
bits_turn Or true false = refl
bits_turn Or false true = refl
bits_turn Or false false = refl
bits_turn Xor true true = refl
bits_turn Xor true false = refl
bits_turn Xor false true = refl
bits_turn Xor false false = refl

-- a joined tree takes one of its halves by the variable
pub joined_computes : (place : ℕ) (low high : Tree) (point : ℕ → Bool) →
    eval (joined place low high) point ≡ (if point place then eval high point else eval low point)
unfolding joined eval
joined_computes place low high point = cases (tree_eq low high) refl
  where
    both : (b : Bool) → eval low point ≡ eval high point →
        eval low point ≡ (if b then eval high point else eval low point)
    both true h = h
    both false h = refl

    cases : (b : Bool) → tree_eq low high ≡ b →
        eval (if b then low else Node place low high)
        point ≡ (if point place then eval high point else eval low point)
    cases true e = both (point place) (ap (λ (t : Tree). eval t point) (tree_eq-same low high e))
    cases false e = refl

-- it is reduced if its halves are, above the variable
pub joined_reduced : (least place : ℕ) (low high : Tree) → least ≤ place →
    IsReduced (suc place) low → IsReduced (suc place) high → IsReduced least (joined place low high)
unfolding joined IsReduced
joined_reduced least place low high h r s = cases (tree_eq low high) refl
  where
    cases : (b : Bool) → tree_eq low high ≡ b →
        IsReduced least (if b then low else Node place low high)
    cases true e = IsReduced-weaker least (suc place) low (omega arith) r
    cases false e = (h, tree_eq-other low high e, r, s)

leaf-computes : (b : Bool) (point : ℕ → Bool) → eval (leaf b) point ≡ b
unfolding eval
leaf-computes true point = refl
leaf-computes false point = refl

leaf-reduced : (least : ℕ) (b : Bool) → IsReduced least (leaf b)
unfolding IsReduced
leaf-reduced least true = tt
leaf-reduced least false = tt

-- a change of a bit commutes with a choice, and so does an operation on two
by-half : (change : Bool → Bool) (b : Bool) (l h x y v : Bool) → v ≡ (if b then h else l) →
    l ≡ change x → h ≡ change y → v ≡ change (if b then y else x)
by-half change true l h x y v e p q = e ∙ q
by-half change false l h x y v e p q = e ∙ p

both-halves : (join : Bool → Bool → Bool) (b : Bool) (l h x y r s v : Bool) →
    v ≡ (if b then h else l) →
    l ≡ join x r → h ≡ join y s → v ≡ join (if b then y else x) (if b then s else r)
both-halves join true l h x y r s v e p q = e ∙ q
both-halves join false l h x y r s v e p q = e ∙ p

merged_bit-computes : (operation : Operation) (bit : Bool) (t : Tree) (point : ℕ → Bool) →
    eval (merged_bit operation bit t) point ≡ bits operation bit (eval t point)
unfolding merged_bit eval
merged_bit-computes operation bit Zero point = leaf-computes (bits operation bit false) point
merged_bit-computes operation bit One point = leaf-computes (bits operation bit true) point
merged_bit-computes operation bit (Node place low high) point =
    by-half (bits operation bit) (point place) _ _ _ _ _
    (joined_computes place (merged_bit operation bit low) (merged_bit operation bit high) point)
    (merged_bit-computes operation bit low point) (merged_bit-computes operation bit high point)

merged_bit-reduced : (operation : Operation) (bit : Bool) (least : ℕ) (t : Tree) →
    IsReduced least t →
    IsReduced least (merged_bit operation bit t)
unfolding merged_bit IsReduced
merged_bit-reduced operation bit least Zero r = leaf-reduced least (bits operation bit false)
merged_bit-reduced operation bit least One r = leaf-reduced least (bits operation bit true)
merged_bit-reduced operation bit least (Node place low high) r =
    joined_reduced least place (merged_bit operation bit low) (merged_bit operation bit high) r.0
    (merged_bit-reduced operation bit (suc place) low r.2)
    (merged_bit-reduced operation bit (suc place) high r.3)

merged_node-computes : (operation : Operation) (place : ℕ) (low high : Tree)
    (of_low of_high : Tree → Tree) (u : Tree) (point : ℕ → Bool) →
    ((v : Tree) → eval (of_low v) point ≡ bits operation (eval low point) (eval v point)) →
    ((v : Tree) → eval (of_high v) point ≡ bits operation (eval high point) (eval v point)) →
    eval (merged_node operation place low high of_low of_high u) point
    ≡ bits operation (if point place then eval high point else eval low point) (eval u point)
unfolding merged_node eval
merged_node-computes operation place low high of_low of_high Zero point p q =
    merged_bit-computes operation false (Node place low high) point ∙ bits_turn operation false _
merged_node-computes operation place low high of_low of_high One point p q =
    merged_bit-computes operation true (Node place low high) point ∙ bits_turn operation true _
merged_node-computes operation place low high of_low of_high (Node other lo hi) point p q =
    cases (nat_lt place other) (nat_lt other place) refl refl
    (merged_node-computes operation place low high of_low of_high lo point p q)
    (merged_node-computes operation place low high of_low of_high hi point p q)
  where
    bit : Bool
    bit = if point place then eval high point else eval low point

    cases : (a b : Bool) → nat_lt place other ≡ a → nat_lt other place ≡ b →
        eval (merged_node operation place low high of_low of_high lo) point
        ≡ bits operation bit (eval lo point) →
        eval (merged_node operation place low high of_low of_high hi) point
        ≡ bits operation bit (eval hi point) →
        eval
        (if a then joined place (of_low (Node other lo hi)) (of_high (Node other lo hi))
        else (if b then joined other (merged_node operation place low high of_low of_high lo)
        (merged_node operation place low high of_low of_high hi)
        else joined place (of_low lo) (of_high hi))) point
        ≡ bits operation bit (if point other then eval hi point else eval lo point)
    cases true b e f i j =
        by-half (λ (x : Bool). bits operation x (eval (Node other lo hi) point)) (point place)
        _ _ _ _ _
        (joined_computes place (of_low (Node other lo hi)) (of_high (Node other lo hi)) point)
        (p (Node other lo hi)) (q (Node other lo hi))
    cases false true e f i j =
        by-half (bits operation bit) (point other) _ _ _ _ _ (joined_computes other _ _ point) i j
    cases false false e f i j =
        let l : other ≤ place = ltb-false place other e in
        let m : place ≤ other = ltb-false other place f in
        let same : place ≡ other = omega arith in
        both-halves (bits operation) (point place) _ _ _ _ _ _ _
        (joined_computes place (of_low lo) (of_high hi) point) (p lo) (q hi)
        ∙ ap (λ (n : ℕ). bits operation bit (if point n then eval hi point else eval lo point)) same

merged_node-reduced : (operation : Operation) (least place : ℕ) (low high : Tree)
    (of_low of_high : Tree → Tree) (u : Tree) →
    IsReduced least (Node place low high) → IsReduced least u →
    ((more : ℕ) (v : Tree) → IsReduced more low → IsReduced more v → IsReduced more (of_low v)) →
    ((more : ℕ) (v : Tree) → IsReduced more high → IsReduced more v → IsReduced more (of_high v)) →
    IsReduced least (merged_node operation place low high of_low of_high u)
unfolding merged_node IsReduced
merged_node-reduced operation least place low high of_low of_high Zero r s p q =
    merged_bit-reduced operation false least (Node place low high) r
merged_node-reduced operation least place low high of_low of_high One r s p q =
    merged_bit-reduced operation true least (Node place low high) r
merged_node-reduced operation least place low high of_low of_high (Node other lo hi) r s p q =
    cases (nat_lt place other) (nat_lt other place) refl refl
    (λ k. merged_node-reduced operation (suc other) place low high of_low of_high lo k s.2 p q)
    (λ k. merged_node-reduced operation (suc other) place low high of_low of_high hi k s.3 p q)
  where
    cases : (a b : Bool) → nat_lt place other ≡ a → nat_lt other place ≡ b →
        (IsReduced (suc other) (Node place low high) →
        IsReduced (suc other) (merged_node operation place low high of_low of_high lo)) →
        (IsReduced (suc other) (Node place low high) →
        IsReduced (suc other) (merged_node operation place low high of_low of_high hi)) →
        IsReduced least
        (if a then joined place (of_low (Node other lo hi)) (of_high (Node other lo hi))
        else (if b then joined other (merged_node operation place low high of_low of_high lo)
        (merged_node operation place low high of_low of_high hi)
        else joined place (of_low lo) (of_high hi)))
    cases true b e f i j =
        let above : IsReduced (suc place) (Node other lo hi) =
        (ltb-true place other e, s.1, s.2, s.3) in
        joined_reduced least place _ _ r.0 (p (suc place) (Node other lo hi) r.2 above)
        (q (suc place) (Node other lo hi) r.3 above)
    cases false true e f i j =
        let above : IsReduced (suc other) (Node place low high) =
        (ltb-true other place f, r.1, r.2, r.3) in
        joined_reduced least other _ _ s.0 (i above) (j above)
    cases false false e f i j =
        let l : other ≤ place = ltb-false place other e in
        let m : place ≤ other = ltb-false other place f in
        let same : other ≡ place = omega arith in
        let first : IsReduced (suc place) lo = subst (λ (n : ℕ). IsReduced (suc n) lo) same s.2 in
        let second : IsReduced (suc place) hi = subst (λ (n : ℕ). IsReduced (suc n) hi) same s.3 in
        joined_reduced least place _ _ r.0 (p (suc place) lo r.2 first)
        (q (suc place) hi r.3 second)

-- the result of an operation on trees has the operation's bit at each point
pub merged_computes : (operation : Operation) (t u : Tree) (point : ℕ → Bool) →
    eval (merged operation t u) point ≡ bits operation (eval t point) (eval u point)
unfolding merged eval
merged_computes operation Zero u point = merged_bit-computes operation false u point
merged_computes operation One u point = merged_bit-computes operation true u point
merged_computes operation (Node place low high) u point =
    merged_node-computes operation place low high (merged operation low) (merged operation high)
    u point (λ v. merged_computes operation low v point)
    (λ v. merged_computes operation high v point)

-- of reduced trees the result is reduced
pub merged_reduced : (operation : Operation) (least : ℕ) (t u : Tree) → IsReduced least t →
    IsReduced least u →
    IsReduced least (merged operation t u)
unfolding merged IsReduced
merged_reduced operation least Zero u r s = merged_bit-reduced operation false least u s
merged_reduced operation least One u r s = merged_bit-reduced operation true least u s
merged_reduced operation least (Node place low high) u r s =
    merged_node-reduced operation least place low high (merged operation low)
    (merged operation high) u r s
    (λ more v. merged_reduced operation more low v) (λ more v. merged_reduced operation more high v)

-- a reduced tree that computes the same as an operation on two trees is its result
pub merged_is : (operation : Operation) (least : ℕ) (t u v : Tree) → IsReduced least t →
    IsReduced least u → IsReduced least v →
    ((point : ℕ → Bool) → bits operation (eval t point) (eval u point) ≡ eval v point) →
    merged operation t u ≡ v
merged_is operation least t u v r s k same =
    one_tree least (merged operation t u) v (merged_reduced operation least t u r s) k
    (λ point. merged_computes operation t u point ∙ same point)

pub merged_commutes : (operation : Operation) (t u : Tree) → IsReduced 0 t → IsReduced 0 u →
    merged operation t u ≡ merged operation u t
merged_commutes operation t u r s =
    merged_is operation 0 t u (merged operation u t) r s (merged_reduced operation 0 u t s r)
    (λ point. bits_turn operation (eval t point) (eval u point)
    ∙ sym (merged_computes operation u t point))

-- one step, at any variable at which both trees split
pub merged_splits : (operation : Operation) (place : ℕ) (t t0 t1 u u0 u1 : Tree) → IsReduced 0 t →
    IsReduced 0 u →
    SplitsAt place t t0 t1 → SplitsAt place u u0 u1 →
    merged operation t u ≡ joined place (merged operation t0 u0) (merged operation t1 u1)
merged_splits operation place t t0 t1 u u0 u1 r s a b =
    merged_is operation 0 t u (joined place (merged operation t0 u0) (merged operation t1 u1)) r s
    (joined_reduced 0 place _ _ (omega arith)
    (merged_reduced operation (suc place) t0 u0 a.low_reduced b.low_reduced)
    (merged_reduced operation (suc place) t1 u1 a.high_reduced b.high_reduced))
    (λ point.
    sym
    (both-halves (bits operation) (point place) _ _ _ _ _ _ _
    (joined_computes place (merged operation t0 u0) (merged operation t1 u1) point)
    (merged_computes operation t0 u0 point) (merged_computes operation t1 u1 point)
    ∙ ap (λ (c : Bool). bits operation c (if point place then eval u1 point else eval u0 point))
    (sym (a.computes point))
    ∙ ap (bits operation (eval t point)) (sym (b.computes point))))

-- a node splits at its variable, and so does a tree whose top variable is above it
pub splits_node : (least place : ℕ) (low high : Tree) → IsReduced least (Node place low high) →
    SplitsAt place (Node place low high) low high
unfolding eval IsReduced
splits_node least place low high r =
    record { low_reduced = r.2; high_reduced = r.3; computes = λ point. refl }

pub splits_whole : (place : ℕ) (t : Tree) → IsReduced (suc place) t → SplitsAt place t t t
splits_whole place t r =
    record {
      low_reduced = r;
      high_reduced = r;
      computes =
          λ point. same (point place) (eval t point);
    }
  where
    same : (b c : Bool) → c ≡ (if b then c else c)
    same true c = refl
    same false c = refl

pub reduced_Zero : (least : ℕ) → IsReduced least Zero
unfolding IsReduced
reduced_Zero least = tt

pub reduced_One : (least : ℕ) → IsReduced least One
unfolding IsReduced
reduced_One least = tt

pub reduced_above : (least place : ℕ) (low high : Tree) → least ≤ place →
    IsReduced 0 (Node place low high) →
    IsReduced least (Node place low high)
unfolding IsReduced
reduced_above least place low high h r = (h, r.1, r.2, r.3)

-- an operation with a constant, or with the tree itself
pub merged_and_zero : (u : Tree) → IsReduced 0 u → merged And Zero u ≡ Zero
unfolding eval
merged_and_zero u r = merged_is And 0 Zero u Zero (reduced_Zero 0) r (reduced_Zero 0)
    (λ point. refl)

pub merged_and_one : (u : Tree) → IsReduced 0 u → merged And One u ≡ u
unfolding eval
merged_and_one u r = merged_is And 0 One u u (reduced_One 0) r r (λ point. refl)

pub merged_or_zero : (u : Tree) → IsReduced 0 u → merged Or Zero u ≡ u
unfolding eval
merged_or_zero u r = merged_is Or 0 Zero u u (reduced_Zero 0) r r (λ point. refl)

pub merged_or_one : (u : Tree) → IsReduced 0 u → merged Or One u ≡ One
unfolding eval
merged_or_one u r = merged_is Or 0 One u One (reduced_One 0) r (reduced_One 0) (λ point. refl)

pub merged_xor_zero : (u : Tree) → IsReduced 0 u → merged Xor Zero u ≡ u
unfolding eval
merged_xor_zero u r = merged_is Xor 0 Zero u u (reduced_Zero 0) r r (λ point. refl)

and-same : (b : Bool) → bits And b b ≡ b
and-same true = refl
and-same false = refl

or-same : (b : Bool) → bits Or b b ≡ b
or-same true = refl
or-same false = refl

xor-same : (b : Bool) → bits Xor b b ≡ false
xor-same true = refl
xor-same false = refl

pub merged_and_same : (t : Tree) → IsReduced 0 t → merged And t t ≡ t
merged_and_same t r = merged_is And 0 t t t r r r (λ point. and-same (eval t point))

pub merged_or_same : (t : Tree) → IsReduced 0 t → merged Or t t ≡ t
merged_or_same t r = merged_is Or 0 t t t r r r (λ point. or-same (eval t point))

pub merged_xor_same : (t : Tree) → IsReduced 0 t → merged Xor t t ≡ Zero
unfolding eval
merged_xor_same t r = merged_is Xor 0 t t Zero r r (reduced_Zero 0)
    (λ point. xor-same (eval t point))
