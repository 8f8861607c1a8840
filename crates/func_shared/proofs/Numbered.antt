-- The trees of numbered vertices, and that a table stays one after a vertex is appended and after
-- it is cut.
use Rattle.std.proofs.Common.{◌≡◌, ℕ, zero, suc, ◌+◌, ◌-◌, ◌<◌, ◌≤◌, Bool, true, false, if◌then◌else◌, Option, Some, None, List, [], ◌∷◌, ◌++◌, length, fold, get_or, slice_get, take, drop, refl, sym, ap, ◌∙◌, subst, inl, inr, ◌⊎◌, arith, length-append, eq-eqb}
use Rattle.std.specs.List.{list_any}
use Rattle.std.specs.Option.{IfSome}
use Rattle.std.specs.Set.{is_member}
use Rattle.std.proofs.Math.ListN.{get_or-append}
use Rattle.std.proofs.Math.Seq.{get_or-append_seam, take-append_seam}
use Rattle.std.proofs.lemmas.Bool.{cases_lt, false≢true, eqb-true, and_parts}
use Rattle.std.proofs.lemmas.List.{take-append-drop, take_all}
use Rattle.std.proofs.lemmas.List.Sums.{fold-append}
use Rattle.std.proofs.lemmas.List.Folds.{list_any_at}
use Rattle.std.proofs.lemmas.Option.{slice_get_within, get_or_from_slice_get}
use Rattle.func_core.specs.Trees.{Tree, Zero, One, Node, IsReduced}
use Rattle.func_core.specs.Sizes.{tree_eq, inner}
use Rattle.func_core.proofs.Trees.{tree_eq-refl, tree_eq-same}
use Rattle.func_shared.specs.declared.vertex.Vertex.{Vertex}
use Rattle.func_shared.specs.contracts.vertex.VertexPartialEq.TheImpl.{eq-value}
use Rattle.func_shared.specs.Vertices.{tree_in, with_vertex, trees, tree_at, IsNumber, Has, IsTable, Grows, AddsWithin}
use Rattle.func_shared.specs.Merging.{joined}

get_or_past : {X : Type 0} (xs : List X) (n : ℕ) (d : X) → length xs ≤ n → get_or xs n d ≡ d
get_or_past [] n d past = refl
get_or_past (x ∷ xs) zero d past = absurd (omega (arith, past))
get_or_past (x ∷ xs) (suc n) d past = get_or_past xs n d (omega (arith, past))

-- the tree of a vertex over trees that are given in order
abbrev pub tree_over : List Tree → Vertex → Tree
tree_over ts v = Node v.place (tree_in ts v.low) (tree_in ts v.high)

more_length : (ts : List Tree) (v : Vertex) → length (with_vertex ts v) ≡ length ts + 1
more_length ts v = length-append ts (tree_over ts v ∷ [])

fold-length : (vs : List Vertex) (ts : List Tree) →
    length (fold with_vertex ts vs) ≡ length ts + length vs
fold-length [] ts = omega arith
fold-length (v ∷ vs) ts = omega (arith, fold-length vs (with_vertex ts v), more_length ts v)

pub length-trees : (vs : List Vertex) → length (trees vs) ≡ 2 + length vs
unfolding trees
length-trees vs = omega (arith, fold-length vs (Zero ∷ One ∷ []))

-- given trees stay, whatever vertices are appended
fold-old : (vs : List Vertex) (ts : List Tree) (n : ℕ) → n < length ts →
    tree_in (fold with_vertex ts vs) n ≡ tree_in ts n
fold-old [] ts n lt = refl
fold-old (v ∷ vs) ts n lt =
    fold-old vs (with_vertex ts v) n (omega (arith, lt, more_length ts v))
    ∙ get_or-append ts (tree_over ts v ∷ []) Zero n lt

pub tree_at-more : (vs more : List Vertex) (n : ℕ) → IsNumber vs n →
    tree_at (vs ++ more) n ≡ tree_at vs n
unfolding trees
tree_at-more vs more n is =
    ap (λ (ts : List Tree). tree_in ts n) (fold-append with_vertex (Zero ∷ One ∷ []) vs more)
    ∙ fold-old more (trees vs) n (omega (arith, is, length-trees vs))

-- the constants have the first two numbers, and past the last number there is Zero
pub tree_at-zero : (vs : List Vertex) → tree_at vs 0 ≡ Zero
unfolding trees
tree_at-zero vs = fold-old vs (Zero ∷ One ∷ []) 0 (omega arith)

pub tree_at-one : (vs : List Vertex) → tree_at vs 1 ≡ One
unfolding trees
tree_at-one vs = fold-old vs (Zero ∷ One ∷ []) 1 (omega arith)

pub tree_at-past : (vs : List Vertex) (n : ℕ) → 2 + length vs ≤ n → tree_at vs n ≡ Zero
tree_at-past vs n past = get_or_past (trees vs) n Zero (omega (arith, past, length-trees vs))

-- the tree of a vertex's number is made of those of its halves
fold-reads : (vs : List Vertex) (ts : List Tree) (n : ℕ) (v : Vertex) → slice_get vs n ≡ Some v →
    v.low < length ts + n → v.high < length ts + n →
    tree_in (fold with_vertex ts vs) (length ts + n) ≡ tree_over (fold with_vertex ts vs) v
fold-reads [] ts n v at low high = cc
fold-reads (w ∷ vs) ts zero v at low high =
    let same : w ≡ v = cc in
    let long : length ts < length (with_vertex ts v) = omega (arith, more_length ts v) in
    let here : tree_in (fold with_vertex (with_vertex ts v) vs) (length ts) ≡ tree_over ts v =
    fold-old vs (with_vertex ts v) (length ts) long
    ∙ get_or-append_seam ts (tree_over ts v) [] Zero in
    let old : (m : ℕ) → m < length ts →
    tree_in (fold with_vertex (with_vertex ts v) vs) m ≡ tree_in ts m =
    λ m lt. fold-old vs (with_vertex ts v) m (omega (arith, lt, long))
    ∙ get_or-append ts (tree_over ts v ∷ []) Zero m lt in
    let end : length ts + 0 ≡ length ts = omega arith in
    subst (λ (u : Vertex). tree_in (fold with_vertex (with_vertex ts u) vs)
    (length ts + 0) ≡ tree_over (fold with_vertex (with_vertex ts u) vs) v) (sym same)
    (ap (tree_in (fold with_vertex (with_vertex ts v) vs)) end ∙ here
    ∙ ap (λ (t : Tree). Node v.place t (tree_in ts v.high)) (sym (old v.low (omega (arith, low))))
    ∙ ap (Node v.place (tree_in (fold with_vertex (with_vertex ts v) vs) v.low))
    (sym (old v.high (omega (arith, high)))))
fold-reads (w ∷ vs) ts (suc n) v at low high =
    let long : length (with_vertex ts w) ≡ length ts + 1 = more_length ts w in
    let moved : length ts + suc n ≡ length (with_vertex ts w) + n = omega arith in
    ap (tree_in (fold with_vertex (with_vertex ts w) vs)) moved
    ∙ fold-reads vs (with_vertex ts w) n v at (omega (arith, low, moved))
    (omega (arith, high, moved))

pub reads : (vs : List Vertex) (n : ℕ) (v : Vertex) → slice_get vs n ≡ Some v → v.low < 2 + n →
    v.high < 2 + n →
    tree_at vs (2 + n) ≡ Node v.place (tree_at vs v.low) (tree_at vs v.high)
unfolding trees
reads vs n v at low high = fold-reads vs (Zero ∷ One ∷ []) n v at low high

pub table-reads : (vs : List Vertex) (n : ℕ) (v : Vertex) → IsTable vs → slice_get vs n ≡ Some v →
    tree_at vs (2 + n) ≡ Node v.place (tree_at vs v.low) (tree_at vs v.high)
table-reads vs n v table at = reads vs n v at (table.below n v at).0 (table.below n v at).1

-- the item of a list at an index
pub slice_get-take : {X : Type 0} (xs : List X) (count n : ℕ) (x : X) →
    slice_get (take count xs) n ≡ Some x → slice_get xs n ≡ Some x
slice_get-take [] zero n x at = at
slice_get-take [] (suc count) n x at = at
slice_get-take (y ∷ xs) zero n x at = cc
slice_get-take (y ∷ xs) (suc count) zero x at = at
slice_get-take (y ∷ xs) (suc count) (suc n) x at = slice_get-take xs count n x at

slice_get-push : {X : Type 0} (xs : List X) (y : X) (n : ℕ) (x : X) →
    slice_get (xs ++ y ∷ []) n ≡ Some x →
    (slice_get xs n ≡ Some x) ⊎ ((n ≡ length xs) × (y ≡ x))
slice_get-push [] y zero x at = inr (refl, cc)
slice_get-push [] y (suc n) x at = cc
slice_get-push (z ∷ xs) y zero x at = inl at
slice_get-push (z ∷ xs) y (suc n) x at = elim (slice_get-push xs y n x at)
    as (λ _. (slice_get xs n ≡ Some x) ⊎ ((suc n ≡ suc (length xs)) × (y ≡ x))) [
      | inl old ↦ inl old
      | inr new ↦ inr (ap (λ (k : ℕ). suc k) new.0, new.1)
    ]

-- each number that is not a constant's has a vertex
pub number_vertex : (vs : List Vertex) (n : ℕ) → n < length vs →
    (v : Vertex) × (slice_get vs n ≡ Some v)
number_vertex [] n lt = absurd (omega (arith, lt))
number_vertex (v ∷ vs) zero lt = (v, refl)
number_vertex (v ∷ vs) (suc n) lt = number_vertex vs n (omega (arith, lt))

reduced_zero : (t : Tree) → t ≡ Zero → IsReduced 0 t
unfolding IsReduced
reduced_zero t e = subst (IsReduced 0) (sym e) tt

reduced_one : (t : Tree) → t ≡ One → IsReduced 0 t
unfolding IsReduced
reduced_one t e = subst (IsReduced 0) (sym e) tt

reduced_node : (t low high : Tree) (place : ℕ) → t ≡ Node place low high → (low ≡ high → ⊥) →
    IsReduced (suc place) low → IsReduced (suc place) high → IsReduced 0 t
unfolding IsReduced
reduced_node t low high place e apart p q = subst (IsReduced 0) (sym e) (omega arith, apart, p, q)

abbrev pub vertex_of : ℕ → ℕ → ℕ → Vertex
vertex_of place low high = record { place = place; low = low; high = high }

pub same_vertex : (v w : Vertex) → v.place ≡ w.place → v.low ≡ w.low → v.high ≡ w.high → v ≡ w
same_vertex v w p q r =
    ap (λ (n : ℕ). vertex_of n v.low v.high) p ∙ ap (λ (n : ℕ). vertex_of w.place n v.high) q
    ∙ ap (λ (n : ℕ). vertex_of w.place w.low n) r

-- a vertex may be appended to a table
pub record MayFollow (vs : List Vertex) (v : Vertex) : Type 0 where
  pub low : IsNumber vs v.low
  pub high : IsNumber vs v.high
  pub low_reduced : IsReduced (suc v.place) (tree_at vs v.low)
  pub high_reduced : IsReduced (suc v.place) (tree_at vs v.high)
  pub apart : v.low ≡ v.high → ⊥
  pub room : 2 + length vs < 4294967296

-- a new vertex is not one of a table
abbrev pub IsNew : List Vertex → Vertex → Type 0
IsNew vs v = (n : ℕ) → slice_get vs n ≡ Some v → ⊥

pub table-push : (vs : List Vertex) (v : Vertex) → IsTable vs → MayFollow vs v → IsNew vs v →
    IsTable (vs ++ v ∷ [])
table-push vs v table may fresh =
    record { below = belows; one = ones; reduced = reduceds; short = omega (arith, size, may.room) }
  where
    size : length (vs ++ v ∷ []) ≡ length vs + 1
    size = length-append vs (v ∷ [])

    belows : (n : ℕ) (w : Vertex) → slice_get (vs ++ v ∷ []) n ≡ Some w →
        (w.low < 2 + n) × (w.high < 2 + n)
    belows n w at = elim (slice_get-push vs v n w at) as (λ _. (w.low < 2 + n) × (w.high < 2 + n)) [
      | inl old ↦ table.below n w old
      | inr new ↦
          let low : w.low ≡ v.low = ap (λ (u : Vertex). u.low) (sym new.1) in
          let high : w.high ≡ v.high = ap (λ (u : Vertex). u.high) (sym new.1) in
          (omega (arith, may.low, low, new.0), omega (arith, may.high, high, new.0))
    ]

    old : (n : ℕ) → IsNumber vs n → tree_at (vs ++ v ∷ []) n ≡ tree_at vs n
    old n is = tree_at-more vs (v ∷ []) n is

    made : (n : ℕ) → n ≡ 2 + length vs →
        tree_at (vs ++ v ∷ []) n ≡ Node v.place (tree_at vs v.low) (tree_at vs v.high)
    made n at =
        ap (tree_at (vs ++ v ∷ [])) at
        ∙ reads (vs ++ v ∷ []) (length vs) v (there vs) may.low may.high
        ∙ ap (λ (t : Tree). Node v.place t (tree_at (vs ++ v ∷ []) v.high)) (old v.low may.low)
        ∙ ap (Node v.place (tree_at vs v.low)) (old v.high may.high)
      where
        there : (us : List Vertex) → slice_get (us ++ v ∷ []) (length us) ≡ Some v
        there [] = refl
        there (u ∷ us) = there us

    -- no old number has the new tree
    apart : (n : ℕ) → IsNumber vs n →
        tree_at vs n ≡ Node v.place (tree_at vs v.low) (tree_at vs v.high) → ⊥
    apart zero is e = let zero_is : tree_at vs 0 ≡ Zero = tree_at-zero vs in cc
    apart (suc zero) is e = let one_is : tree_at vs 1 ≡ One = tree_at-one vs in cc
    apart (suc (suc n)) is e =
        let (w, at) = number_vertex vs n (omega (arith, is)) in
        let two : suc (suc n) ≡ 2 + n = omega arith in
        let same : Node w.place (tree_at vs w.low) (tree_at vs w.high) ≡ Node v.place
        (tree_at vs v.low) (tree_at vs v.high) =
        sym (table-reads vs n w table at) ∙ (sym (ap (tree_at vs) two) ∙ e) in
        let within : n < length vs = omega (arith, is) in
        let low : w.low ≡ v.low = table.one w.low v.low
        (omega (arith, (table.below n w at).0, within)) may.low cc in
        let high : w.high ≡ v.high = table.one w.high v.high
        (omega (arith, (table.below n w at).1, within)) may.high cc in
        let place : w.place ≡ v.place = cc in
        fresh n (at ∙ ap (λ (u : Vertex). Some u) (same_vertex w v place low high))

    last : (n : ℕ) → IsNumber (vs ++ v ∷ []) n → 2 + length vs ≤ n → n ≡ 2 + length vs
    last n is past = omega (arith, is, past, size)

    ones : (m n : ℕ) → IsNumber (vs ++ v ∷ []) m → IsNumber (vs ++ v ∷ []) n →
        tree_at (vs ++ v ∷ []) m ≡ tree_at (vs ++ v ∷ []) n → m ≡ n
    ones m n p q e = elim (cases_lt m (2 + length vs)) as (λ _. m ≡ n) [
      | inl a ↦ elim (cases_lt n (2 + length vs)) as (λ _. m ≡ n) [
        | inl b ↦ table.one m n a b (sym (old m a) ∙ (e ∙ old n b))
        | inr b ↦ absurd (apart m a (sym (old m a) ∙ (e ∙ made n (last n q b))))
      ]
      | inr a ↦ elim (cases_lt n (2 + length vs)) as (λ _. m ≡ n) [
        | inl b ↦ absurd (apart n b (sym (old n b) ∙ (sym e ∙ made m (last m p a))))
        | inr b ↦ last m p a ∙ sym (last n q b)
      ]
    ]

    reduceds : (n : ℕ) → IsReduced 0 (tree_at (vs ++ v ∷ []) n)
    reduceds n = elim (cases_lt n (2 + length vs))
        as (λ _. IsReduced 0 (tree_at (vs ++ v ∷ []) n)) [
          | inl a ↦ subst (IsReduced 0) (sym (old n a)) (table.reduced n)
          | inr a ↦ elim (cases_lt n (3 + length vs))
              as (λ _. IsReduced 0 (tree_at (vs ++ v ∷ []) n)) [
                | inl b ↦ reduced_node (tree_at (vs ++ v ∷ []) n) (tree_at vs v.low)
                    (tree_at vs v.high) v.place (made n (omega (arith, a, b)))
                    (λ e. may.apart (table.one v.low v.high may.low may.high e))
                    may.low_reduced may.high_reduced
                | inr b ↦ reduced_zero (tree_at (vs ++ v ∷ []) n)
                    (tree_at-past (vs ++ v ∷ []) n (omega (arith, b, size)))
              ]
        ]

pub table-none : IsTable []
table-none = record { below = λ n w at. cc; one = ones; reduced = reduceds; short = omega arith }
  where
    ones : (m n : ℕ) → IsNumber [] m → IsNumber [] n → tree_at [] m ≡ tree_at [] n → m ≡ n
    ones zero zero p q e = refl
    ones zero (suc zero) p q e = let a : tree_at [] 0 ≡ Zero = tree_at-zero [] in
        let b : tree_at [] 1 ≡ One = tree_at-one [] in cc
    ones (suc zero) zero p q e = let a : tree_at [] 0 ≡ Zero = tree_at-zero [] in
        let b : tree_at [] 1 ≡ One = tree_at-one [] in cc
    ones (suc zero) (suc zero) p q e = refl
    ones zero (suc (suc n)) p q e = absurd (omega (arith, q))
    ones (suc zero) (suc (suc n)) p q e = absurd (omega (arith, q))
    ones (suc (suc m)) n p q e = absurd (omega (arith, p))

    reduceds : (n : ℕ) → IsReduced 0 (tree_at [] n)
    reduceds zero = reduced_zero (tree_at [] 0) (tree_at-zero [])
    reduceds (suc zero) = reduced_one (tree_at [] 1) (tree_at-one [])
    reduceds (suc (suc n)) = reduced_zero (tree_at [] (suc (suc n)))
        (tree_at-past [] (suc (suc n)) (omega arith))

-- the first vertices of a table are a table
pub table-cut : (vs : List Vertex) (count : ℕ) → IsTable vs → IsTable (take count vs)
table-cut vs count table = record {
  below =
      λ n v at. table.below n v (slice_get-take vs count n v at);
  one = ones;
  reduced =
      reduceds;
  short = omega (arith, long, table.short);
}
  where
    long : length (take count vs) + length (drop count vs) ≡ length vs
    long = sym (length-append (take count vs) (drop count vs))
        ∙ ap (λ (us : List Vertex). length us) (take-append-drop count vs)

    same : (n : ℕ) → IsNumber (take count vs) n → tree_at vs n ≡ tree_at (take count vs) n
    same n is = ap (λ (us : List Vertex). tree_at us n) (sym (take-append-drop count vs))
        ∙ tree_at-more (take count vs) (drop count vs) n is

    ones : (m n : ℕ) → IsNumber (take count vs) m → IsNumber (take count vs) n →
        tree_at (take count vs) m ≡ tree_at (take count vs) n → m ≡ n
    ones m n p q e = table.one m n (omega (arith, p, long)) (omega (arith, q, long))
        (same m p ∙ (e ∙ sym (same n q)))

    reduceds : (n : ℕ) → IsReduced 0 (tree_at (take count vs) n)
    reduceds n = elim (cases_lt n (2 + length (take count vs)))
        as (λ _. IsReduced 0 (tree_at (take count vs) n)) [
          | inl a ↦ subst (IsReduced 0) (same n a) (table.reduced n)
          | inr a ↦ reduced_zero (tree_at (take count vs) n) (tree_at-past (take count vs) n a)
        ]

-- a vertex was appended to others, or was one of them
abbrev pub IsPut : List Vertex → List Vertex → Vertex → Type 0
IsPut old new v = (new ≡ old) ⊎ ((new ≡ old ++ v ∷ []) × IsNew old v)

pub put-table : (old new : List Vertex) (v : Vertex) → IsPut old new v → IsTable old →
    MayFollow old v → IsTable new
put-table old new v put table may = elim put as (λ _. IsTable new) [
  | inl e ↦ subst IsTable (sym e) table
  | inr (e, fresh) ↦ subst IsTable (sym e) (table-push old v table may fresh)
]

pub put-grows : (old new : List Vertex) (v : Vertex) → IsPut old new v → Grows old new
put-grows old new v put = elim put as (λ _. Grows old new) [
  | inl e ↦ subst (Grows old) (sym e) (take_all (length old) old (omega arith))
  | inr (e, fresh) ↦ subst (Grows old) (sym e) (take-append_seam old (v ∷ []))
]

put-kept : (old new : List Vertex) (v : Vertex) (n : ℕ) → IsPut old new v → IsNumber old n →
    tree_at new n ≡ tree_at old n
put-kept old new v n put is = elim put as (λ _. tree_at new n ≡ tree_at old n) [
  | inl e ↦ ap (λ (vs : List Vertex). tree_at vs n) e
  | inr (e, fresh) ↦ ap (λ (vs : List Vertex). tree_at vs n) e ∙ tree_at-more old (v ∷ []) n is
]

pub joined-same : (place : ℕ) (t : Tree) → joined place t t ≡ t
unfolding joined
joined-same place t = rw (tree_eq-refl t) refl

pub joined-node : (place : ℕ) (low high : Tree) → (low ≡ high → ⊥) →
    joined place low high ≡ Node place low high
unfolding joined
joined-node place low high apart = cases (tree_eq low high) refl
  where
    cases : (b : Bool) → tree_eq low high ≡ b →
        (if b then low else Node place low high) ≡ Node place low high
    cases true e = absurd (apart (tree_eq-same low high e))
    cases false e = refl

-- the tree of the inserted vertex
put-tree : (old new : List Vertex) (v : Vertex) (n : ℕ) → IsPut old new v → IsTable old →
    MayFollow old v → slice_get new n ≡ Some v →
    tree_at new (2 + n) ≡ joined v.place (tree_at old v.low) (tree_at old v.high)
put-tree old new v n put table may at =
    table-reads new n v (put-table old new v put table may) at
    ∙ ap (λ (t : Tree). Node v.place t (tree_at new v.high)) (put-kept old new v v.low put may.low)
    ∙ ap (Node v.place (tree_at old v.low)) (put-kept old new v v.high put may.high)
    ∙ sym (joined-node v.place (tree_at old v.low) (tree_at old v.high)
    (λ e. may.apart (table.one v.low v.high may.low may.high e)))

pub put-has : (old new : List Vertex) (v : Vertex) (n : ℕ) → IsPut old new v → IsTable old →
    MayFollow old v → slice_get new n ≡ Some v →
    Has new (n + 2) (joined v.place (tree_at old v.low) (tree_at old v.high))
put-has old new v n put table may at =
    let lt : n < length new = slice_get_within new n v at in
    let two : n + 2 ≡ 2 + n = omega arith in
    (omega (arith, lt), ap (tree_at new) two ∙ put-tree old new v n put table may at)

member_itself : (t : Tree) (place : ℕ) (low high : Tree) → t ≡ Node place low high →
    is_member tree_eq (inner t) t ≡ true
unfolding inner
member_itself t place low high e =
    subst (λ (u : Tree). is_member tree_eq (inner u) u ≡ true) (sym e)
    (rw (tree_eq-refl (Node place low high)) refl)

pub put-added : (old new : List Vertex) (v : Vertex) → IsPut old new v → IsTable old →
    MayFollow old v →
    AddsWithin old new (joined v.place (tree_at old v.low) (tree_at old v.high))
put-added old new v put table may n is = elim (cases_lt n (2 + length old))
    as (λ _. IsNumber old n ⊎ (is_member tree_eq (inner t) (tree_at new n) ≡ true)) [
      | inl before ↦ inl before
      | inr past ↦ elim put as (λ _. IsNumber old n ⊎
          (is_member tree_eq (inner t) (tree_at new n) ≡ true)) [
            | inl e ↦ inl (subst (λ (vs : List Vertex). IsNumber vs n) e is)
            | inr (e, fresh) ↦ inr (added e past)
          ]
    ]
  where
    t : Tree
    t = joined v.place (tree_at old v.low) (tree_at old v.high)

    there : (us : List Vertex) → slice_get (us ++ v ∷ []) (length us) ≡ Some v
    there [] = refl
    there (u ∷ us) = there us

    added : new ≡ old ++ v ∷ [] → 2 + length old ≤ n →
        is_member tree_eq (inner t) (tree_at new n) ≡ true
    added e past =
        let at : n ≡ 2 + length old =
        omega (
          arith,
          is,
          past,
          ap (λ (vs : List Vertex). length vs) e,
          length-append old
              (v ∷ []),
        ) in
        let here : slice_get new (length old) ≡ Some v =
        ap (λ (vs : List Vertex). slice_get vs (length old)) e ∙ there old in
        let same : tree_at new n ≡ t =
        ap (tree_at new) at ∙ put-tree old new v (length old) put table may here in
        subst (λ (u : Tree). is_member tree_eq (inner t) u ≡ true) (sym same)
        (member_itself t v.place (tree_at old v.low) (tree_at old v.high)
        (joined-node v.place (tree_at old v.low) (tree_at old v.high)
        (λ d. may.apart (table.one v.low v.high may.low may.high d))))

-- the test that the set of vertices makes
abbrev pub same_test : Vertex → Vertex → Bool
same_test v w = eq-value.it v w

test_itself : (v : Vertex) → same_test v v ≡ true
test_itself v = rw (
  eq-eqb v.place v.place refl,
  eq-eqb v.low v.low refl,
  eq-eqb v.high v.high refl,
) refl

-- vertices that pass the test are the same
pub test_same : (v w : Vertex) → same_test v w ≡ true → v ≡ w
test_same v w e =
    let (place, rest) = and_parts _ _ e in
    let (low, high) = and_parts _ _ rest in
    same_vertex v w (eqb-true v.place w.place place) (eqb-true v.low w.low low)
    (eqb-true v.high w.high high)

-- if none of a set passes, none is the vertex
none_there : (v : Vertex) (vs : List Vertex) (n : ℕ) → list_any (same_test v) vs ≡ false →
    slice_get vs n ≡ Some v → ⊥
none_there v vs n none at =
    let found : list_any (same_test v) vs ≡ true =
    list_any_at (same_test v) vs n v (slice_get_within vs n v at)
    (ap (same_test v) (get_or_from_slice_get vs n v v at) ∙ test_itself v) in
    false≢true (sym none ∙ found)

pub set-put : (old new : List Vertex) (v : Vertex) →
    new ≡ (if list_any (same_test v) old then old else old ++ v ∷ []) → IsPut old new v
set-put old new v keys = cases (list_any (same_test v) old) refl keys
  where
    cases : (b : Bool) → list_any (same_test v) old ≡ b → new ≡ (if b then old else old ++ v ∷ []) →
        IsPut old new v
    cases true e put = inl put
    cases false e put = inr (put, λ n at. none_there v old n e at)

-- the vertex that the set returns for the inserted one
pub set-at : (new : List Vertex) (v : Vertex) (n : ℕ) →
    ((k : Vertex) × (slice_get new n ≡ Some k) × (same_test v k ≡ true)) → slice_get new n ≡ Some v
set-at new v n (k, at, same) = at ∙ ap (λ (u : Vertex). Some u) (sym (test_same v k same))

-- what a lookup in the set says of a number's vertex
module _ (vs : List Vertex) (number index : ℕ) (table : IsTable vs) (above : 2 ≤ number)
    (at : index ≡ number - 2) where
  pub found-tree : (found : Option Vertex) → found ≡ slice_get vs index →
      IfSome found (λ v. tree_at vs number ≡ Node v.place (tree_at vs v.low) (tree_at vs v.high))
  found-tree None e = tt
  found-tree (Some v) e =
      let two : number ≡ 2 + index = omega (arith, above, at) in
      ap (tree_at vs) two ∙ table-reads vs index v table (sym e)

  pub found-below : (found : Option Vertex) → found ≡ slice_get vs index →
      IfSome found (λ v. (v.low < number) × (v.high < number))
  found-below None e = tt
  found-below (Some v) e = (
    omega (arith, above, at, (table.below index v (sym e)).0),
    omega
        (arith, above, at, (table.below index v (sym e)).1),
  )

  pub found-none : IsNumber vs number → (found : Option Vertex) → found ≡ slice_get vs index →
      found ≡ None → number < 2
  found-none is found e none =
      let (v, there) = number_vertex vs index (omega (arith, is, above, at)) in
      cc
