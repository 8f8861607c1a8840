-- What is kept as a table grows, and the number of vertices by which it grows.
pub use Rattle.func_shared.proofs.Inner.{inner_through, inner_smaller}
use Rattle.std.proofs.Common.{◌≡◌, ℕ, zero, suc, ◌+◌, ◌-◌, ◌<◌, ◌≤◌, Bool, true, false, ◌||◌, Some, List, [], ◌∷◌, ◌++◌, length, take, drop, slice_get, refl, sym, ap, ◌∙◌, subst, inl, inr, ◌⊎◌, arith}
use Rattle.std.specs.List.{AllByRecursion, IsDistinct}
use Rattle.std.specs.Set.{is_member}
use Rattle.std.proofs.lemmas.Bool.{false≢true, cases_lt}
use Rattle.std.proofs.lemmas.List.{take-append-drop, length-take, take_all}
use Rattle.func_core.specs.Trees.{Tree, Zero, One, Node}
use Rattle.func_core.specs.Sizes.{tree_eq, inner, size}
use Rattle.func_core.proofs.Trees.{tree_eq-refl, tree_eq-same}
use Rattle.func_shared.specs.declared.vertex.Vertex.{Vertex}
use Rattle.func_shared.specs.Vertices.{tree_at, IsNumber, Has, IsTable, Grows, AddsWithin}
use Rattle.func_shared.proofs.Numbered.{tree_at-more, tree_at-zero, tree_at-one, table-reads, number_vertex}
use Rattle.func_shared.proofs.Inner.{or_cases, inner-zero, inner-one, inner-cases, size-within, size-above}

pub grows_itself : (vs : List Vertex) → Grows vs vs
grows_itself vs = take_all (length vs) vs (omega arith)

pub length_grows : (old new : List Vertex) → Grows old new → length old ≤ length new
length_grows old new grows =
    omega (arith, length-take (length old) new, ap (λ (vs : List Vertex). length vs) grows)

-- a table that grew is the old one followed by further vertices
grown : (old new : List Vertex) → Grows old new → new ≡ old ++ drop (length old) new
grown old new grows =
    sym (take-append-drop (length old) new)
    ∙ ap (λ (vs : List Vertex). vs ++ drop (length old) new) grows

take_take : {X : Type 0} (m n : ℕ) (xs : List X) → m ≤ n → take m (take n xs) ≡ take m xs
take_take zero n [] le = refl
take_take (suc m) zero [] le = refl
take_take (suc m) (suc n) [] le = refl
take_take zero n (x ∷ xs) le = refl
take_take (suc m) zero (x ∷ xs) le = absurd (omega (arith, le))
take_take {X} (suc m) (suc n) (x ∷ xs) le =
    ap (λ (ys : List X). x ∷ ys) (take_take m n xs (omega (arith, le)))

pub grows_through : (a b c : List Vertex) → Grows a b → Grows b c → Grows a c
grows_through a b c p q =
    sym (take_take (length a) (length b) c (length_grows a b p))
    ∙ ap (λ (vs : List Vertex). take (length a) vs) q ∙ p

-- the constants have the first two numbers, in any table
pub has_zero : (vs : List Vertex) → Has vs 0 Zero
has_zero vs = (omega arith, tree_at-zero vs)

pub has_one : (vs : List Vertex) → Has vs 1 One
has_one vs = (omega arith, tree_at-one vs)

-- and no other numbers
pub number_zero : (vs : List Vertex) (n : ℕ) → IsTable vs → IsNumber vs n →
    tree_at vs n ≡ Zero → n ≡ 0
number_zero vs n table is e = table.one n 0 is (omega arith) (e ∙ sym (tree_at-zero vs))

pub number_one : (vs : List Vertex) (n : ℕ) → IsTable vs → IsNumber vs n →
    tree_at vs n ≡ One → n ≡ 1
number_one vs n table is e = table.one n 1 is (omega arith) (e ∙ sym (tree_at-one vs))

-- an old number is still a number, with the tree that it had
pub kept : (old new : List Vertex) (n : ℕ) → Grows old new → IsNumber old n →
    IsNumber new n × (tree_at new n ≡ tree_at old n)
kept old new n grows is = (
  omega (arith, is, length_grows old new grows),
  ap (λ (vs : List Vertex). tree_at vs n) (grown old new grows)
      ∙ tree_at-more old (drop (length old) new) n is,
)

pub kept_has : (old new : List Vertex) (n : ℕ) (t : Tree) → Grows old new → Has old n t →
    Has new n t
kept_has old new n t grows has =
    let (is, same) = kept old new n grows has.0 in
    (is, same ∙ has.1)

pub adds_itself : (vs : List Vertex) (t : Tree) → AddsWithin vs vs t
adds_itself vs t n is = inl is

pub adds_through : (a b c : List Vertex) (t : Tree) → Grows b c → AddsWithin a b t →
    AddsWithin b c t → AddsWithin a c t
adds_through a b c t grows p q n is = elim (q n is)
    as (λ _. IsNumber a n ⊎ (is_member tree_eq (inner t) (tree_at c n) ≡ true)) [
      | inr new ↦ inr new
      | inl old ↦ elim (p n old) as
          (λ _. IsNumber a n ⊎ (is_member tree_eq (inner t) (tree_at c n) ≡ true)) [
            | inl older ↦ inl older
            | inr new ↦ inr (subst (λ (u : Tree). is_member tree_eq (inner t) u ≡ true)
                (sym (kept b c n grows old).1) new)
          ]
    ]

-- what is added within a tree is added within a larger one
pub adds_more : (old new : List Vertex) (s t : Tree) →
    ((r : Tree) → is_member tree_eq (inner s) r ≡ true → is_member tree_eq (inner t) r ≡ true) →
    AddsWithin old new s → AddsWithin old new t
adds_more old new s t within adds n is = elim (adds n is)
    as (λ _. IsNumber old n ⊎ (is_member tree_eq (inner t) (tree_at new n) ≡ true)) [
      | inl before ↦ inl before
      | inr new ↦ inr (within _ new)
    ]

-- the trees of as many numbers as are asked for, from a least one on, the last number first
abbrev numbered : List Vertex → ℕ → ℕ → List Tree
numbered vs least zero = []
numbered vs least (suc count) = tree_at vs (least + count) ∷ numbered vs least count

length-numbered : (vs : List Vertex) (least count : ℕ) → length (numbered vs least count) ≡ count
length-numbered vs least zero = refl
length-numbered vs least (suc count) = ap (λ (n : ℕ). suc n) (length-numbered vs least count)

numbered-has : (vs : List Vertex) (least count n : ℕ) (t : Tree) → n < count →
    tree_at vs (least + n) ≡ t →
    is_member tree_eq (numbered vs least count) t ≡ true
numbered-has vs least zero n t lt e = absurd (omega (arith, lt))
numbered-has vs least (suc count) n t lt e =
    cases (tree_eq t (tree_at vs (least + count))) refl
    (λ less. numbered-has vs least count n t less e)
  where
    cases : (b : Bool) → tree_eq t (tree_at vs (least + count)) ≡ b →
        (n < count → is_member tree_eq (numbered vs least count) t ≡ true) →
        (b || is_member tree_eq (numbered vs least count) t) ≡ true
    cases true f more = refl
    cases false f more = more (below (cases_lt n count))
      where
        below : (n < count) ⊎ (count ≤ n) → n < count
        below (inl less) = less
        below (inr past) =
            let same : count ≡ n = omega (arith, lt, past) in
            absurd (false≢true (sym f ∙ ap (tree_eq t)
            (ap (λ (k : ℕ). tree_at vs (least + k)) same ∙ e) ∙ tree_eq-refl t))

numbered-is : (vs : List Vertex) (least count : ℕ) (t : Tree) →
    is_member tree_eq (numbered vs least count) t ≡ true →
    (n : ℕ) × (n < count) × (t ≡ tree_at vs (least + n))
numbered-is vs least zero t m = absurd (false≢true m)
numbered-is vs least (suc count) t m =
    elim (or_cases (tree_eq t (tree_at vs (least + count)))
    (is_member tree_eq (numbered vs least count) t) m)
    as (λ _. (n : ℕ) × (n < suc count) × (t ≡ tree_at vs (least + n))) [
      | inl same ↦ (count, omega arith, tree_eq-same t (tree_at vs (least + count)) same)
      | inr rest ↦
          let (n, lt, e) = numbered-is vs least count t rest in
          (n, omega (arith, lt), e)
    ]

numbered-apart : (vs : List Vertex) (least count n : ℕ) → IsTable vs → IsNumber vs n →
    least + count ≤ n →
    AllByRecursion (λ t. tree_eq (tree_at vs n) t ≡ false) (numbered vs least count)
numbered-apart vs least zero n table is le = tt
numbered-apart vs least (suc count) n table is le = (
  cases (tree_eq (tree_at vs n) (tree_at vs (least + count))) refl,
  numbered-apart vs least count n table is (omega (arith, le)),
)
  where
    cases : (b : Bool) → tree_eq (tree_at vs n) (tree_at vs (least + count)) ≡ b → b ≡ false
    cases true e =
        let same : n ≡ least + count =
        table.one n (least + count) is (omega (arith, is, le))
        (tree_eq-same (tree_at vs n) (tree_at vs (least + count)) e) in
        absurd (omega (arith, same, le))
    cases false e = refl

numbered-distinct : (vs : List Vertex) (least count : ℕ) → IsTable vs →
    least + count ≤ 2 + length vs →
    IsDistinct tree_eq (numbered vs least count)
unfolding IsDistinct
numbered-distinct vs least zero table le = tt
numbered-distinct vs least (suc count) table le = (
  numbered-apart vs least count (least + count) table (omega (arith, le))
      (omega arith),
  numbered-distinct vs least count table (omega (arith, le)),
)

-- an inner subtree of a number's tree has a number that is not above it
pub inner_number : (vs : List Vertex) (n : ℕ) (s : Tree) → IsTable vs → IsNumber vs n →
    is_member tree_eq (inner (tree_at vs n)) s ≡ true →
    (m : ℕ) × (2 ≤ m) × (m ≤ n) × (tree_at vs m ≡ s)
inner_number vs n s table is m = below (suc n) n (omega arith) is m
  where
    below : (bound n : ℕ) → n < bound → IsNumber vs n →
        is_member tree_eq (inner (tree_at vs n)) s ≡ true →
        (m : ℕ) × (2 ≤ m) × (m ≤ n) × (tree_at vs m ≡ s)
    below zero n lt is m = absurd (omega (arith, lt))
    below (suc bound) zero lt is m = absurd (inner-zero (tree_at vs 0) s (tree_at-zero vs) m)
    below (suc bound) (suc zero) lt is m = absurd (inner-one (tree_at vs 1) s (tree_at-one vs) m)
    below (suc bound) (suc (suc k)) lt is m =
        step (number_vertex vs k (omega (arith, is))) (below bound)
      where
        step : ((v : Vertex) × (slice_get vs k ≡ Some v)) →
            ((n : ℕ) → n < bound → IsNumber vs n →
            is_member tree_eq (inner (tree_at vs n)) s ≡ true →
            (m : ℕ) × (2 ≤ m) × (m ≤ n) × (tree_at vs m ≡ s)) →
            (m : ℕ) × (2 ≤ m) × (m ≤ suc (suc k)) × (tree_at vs m ≡ s)
        step (v, at) more =
            let two : suc (suc k) ≡ 2 + k = omega arith in
            let splits
            : tree_at vs (suc (suc k)) ≡ Node v.place (tree_at vs v.low) (tree_at vs v.high) =
            ap (tree_at vs) two ∙ table-reads vs k v table at in
            let (low, high) = table.below k v at in
            elim (inner-cases v.place (tree_at vs v.low) (tree_at vs v.high) s
            (subst (λ (u : Tree). is_member tree_eq (inner u) s ≡ true) splits m))
            as (λ _. (m : ℕ) × (2 ≤ m) × (m ≤ suc (suc k)) × (tree_at vs m ≡ s)) [
              | inl same ↦ (suc (suc k), omega arith, omega arith, splits ∙ sym same)
              | inr (inl p) ↦
                  let (m, a, b, e) = more v.low (omega (arith, lt, low))
                  (omega (arith, is, low)) p in
                  (m, a, omega (arith, b, low), e)
              | inr (inr p) ↦
                  let (m, a, b, e) = more v.high (omega (arith, lt, high))
                  (omega (arith, is, high)) p in
                  (m, a, omega (arith, b, high), e)
            ]

-- the size of a number's tree is at most the number of vertices up to it
size_up_to : (vs : List Vertex) (n : ℕ) → IsTable vs → IsNumber vs n → size (tree_at vs n) ≤ n - 1
size_up_to vs n table is =
    omega (
      arith,
      length-numbered vs 2 (n - 1),
      size-within (tree_at vs n) (numbered vs 2 (n - 1)) (λ s m.
          let (k, a, b, e) = inner_number vs n s table is m in
          let moved : 2 + (k - 2) ≡ k = omega (arith, a) in
          numbered-has vs 2 (n - 1) (k - 2) s (omega (arith, a, b)) (ap (tree_at vs) moved ∙ e)),
    )

pub size_below : (vs : List Vertex) (n : ℕ) → IsTable vs → IsNumber vs n →
    size (tree_at vs n) ≤ length vs
size_below vs n table is = omega (arith, size_up_to vs n table is, is)

pub size_below_number : (vs : List Vertex) (n : ℕ) → IsTable vs → IsNumber vs n →
    size (tree_at vs n) ≤ n
size_below_number vs n table is = omega (arith, size_up_to vs n table is)

-- if what is added is within a tree, the vertices added are at most as many as the size of the tree
pub added_fit : (old new : List Vertex) (t : Tree) → IsTable new → Grows old new →
    AddsWithin old new t → length new ≤ length old + size t
added_fit old new t table grows adds =
    omega (
      arith,
      length_grows old new grows,
      length-numbered new (2 + length old) (length new - length old),
      size-above t (numbered new (2 + length old) (length new - length old))
          (numbered-distinct new (2 + length old) (length new - length old) table
          (omega (arith, length_grows old new grows)))
          (λ s m. within s (numbered-is new (2 + length old) (length new - length old) s m)),
    )
  where
    within : (s : Tree) → ((n : ℕ) × (n < length new - length old) ×
        (s ≡ tree_at new (2 + length old + n))) → is_member tree_eq (inner t) s ≡ true
    within s (n, lt, e) = elim (adds (2 + length old + n) (omega (arith, lt)))
        as (λ _. is_member tree_eq (inner t) s ≡ true) [
          | inl old ↦ absurd (omega (arith, old))
          | inr new ↦ subst (λ (u : Tree). is_member tree_eq (inner t) u ≡ true) (sym e) new
        ]
