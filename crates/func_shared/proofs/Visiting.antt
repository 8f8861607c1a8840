-- Walks over the vertices of one tree.
use Rattle.std.proofs.Common.{◌≡◌, ℕ, zero, suc, ◌+◌, ◌<◌, ◌≤◌, Bool, true, false, ◌||◌, if◌then◌else◌, None, Some, List, [], ◌∷◌, ◌++◌, length, slice_get, refl, sym, ap, ◌∙◌, subst, inl, inr, ◌⊎◌, arith, append_assoc, length-append, eq-eqb, map, ◌-◌}
use Rattle.std.specs.Prelude.{nat_lt, ◌==◌}
use Rattle.std.specs.List.{AllByRecursion, IsDistinct, list_any}
use Rattle.std.specs.Set.{is_member}
use Rattle.std.proofs.lemmas.Bool.{false≢true, cases_lt, ltb-false, le-ltb, eqb-true, or_parts, or_left, or_right}
use Rattle.std.proofs.lemmas.Option.{slice_get_within, slice_get-map}
use Rattle.std.specs.Option.{option_map}
use Rattle.std.proofs.lemmas.List.{map-append, length-map}
use Rattle.std.proofs.lemmas.List.Folds.{list_any-append}
use Rattle.std.proofs.lemmas.Map.Keys.{IsDistinct-push}
use Rattle.func_core.specs.Trees.{Tree, Zero, One, Node}
use Rattle.func_core.specs.Points.{is_constant_zero, path}
use Rattle.func_core.specs.Sizes.{tree_eq, inner, size}
use Rattle.func_core.proofs.Trees.{tree_eq-refl, tree_eq-same, tree_eq-other, tree_eq-laws}
use Rattle.func_core.proofs.Points.{is_zero-true}
use Rattle.func_shared.specs.declared.vertex.Vertex.{Vertex}
use Rattle.func_shared.specs.Walks.{with_number}
use Rattle.func_shared.specs.Vertices.{tree_at, IsNumber, IsTable}
use Rattle.func_shared.proofs.Numbered.{tree_at-zero, tree_at-one, number_vertex, table-reads}
use Rattle.func_shared.proofs.Growing.{size_below}
use Rattle.func_shared.proofs.Inner.{or_cases, inner-itself, inner-low, inner-high, inner-cases, inner-zero, inner-one, inner_through, size-within, size-above}

path-high : (low high : Tree) (place : ℕ) → is_constant_zero low ≡ true →
    path (Node place low high) ≡ (place, true) ∷ path high
unfolding path
path-high low high place e = rw e refl

path-low : (low high : Tree) (place : ℕ) → is_constant_zero low ≡ false →
    path (Node place low high) ≡ (place, false) ∷ path low
unfolding path
path-low low high place e = rw e refl

-- only the first number is that of Zero
zero-number : (vs : List Vertex) (n : ℕ) → n ≡ 0 → is_constant_zero (tree_at vs n) ≡ true
zero-number vs n e = ap (λ (k : ℕ). is_constant_zero (tree_at vs k)) e
    ∙ ap is_constant_zero (tree_at-zero vs)

other-number : (vs : List Vertex) (n : ℕ) → IsTable vs → IsNumber vs n → (n ≡ 0 → ⊥) →
    is_constant_zero (tree_at vs n) ≡ false
other-number vs n table is other = cases (is_constant_zero (tree_at vs n)) refl
  where
    cases : (b : Bool) → is_constant_zero (tree_at vs n) ≡ b → b ≡ false
    cases true e = absurd (other (table.one n 0 is (omega arith)
        (is_zero-true (tree_at vs n) e ∙ sym (tree_at-zero vs))))
    cases false e = refl

-- one step, to one half or the other, appends its literal to those collected
path-step : (place : ℕ) (bit : Bool) (t low high next : Tree)
    (literals pushed all : List (ℕ × Bool)) →
    t ≡ Node place low high → path (Node place low high) ≡ (place, bit) ∷ path next →
    pushed ≡ literals ++ (place, bit) ∷ [] → literals ++ path t ≡ all → pushed ++ path next ≡ all
path-step place bit t low high next literals pushed all splits taken push before =
    ap (λ (ls : List (ℕ × Bool)). ls ++ path next) push
    ∙ append_assoc literals ((place, bit) ∷ []) (path next)
    ∙ ap (λ (ls : List (ℕ × Bool)). literals ++ ls) (sym (ap path splits ∙ taken)) ∙ before

module _ (vs : List Vertex) (at place low high : ℕ) (literals pushed all : List (ℕ × Bool))
    (splits : tree_at vs at ≡ Node place (tree_at vs low) (tree_at vs high)) where
  pub path-to-high : low ≡ 0 → pushed ≡ literals ++ (place, true) ∷ [] →
      literals ++ path (tree_at vs at) ≡ all → pushed ++ path (tree_at vs high) ≡ all
  path-to-high e push before =
      path-step place true (tree_at vs at) (tree_at vs low) (tree_at vs high) (tree_at vs high)
      literals pushed all splits
      (path-high (tree_at vs low) (tree_at vs high) place (zero-number vs low e)) push before

  pub path-to-low : IsTable vs → IsNumber vs low → (low ≡ 0 → ⊥) →
      pushed ≡ literals ++ (place, false) ∷ [] →
      literals ++ path (tree_at vs at) ≡ all → pushed ++ path (tree_at vs low) ≡ all
  path-to-low table is other push before =
      path-step place false (tree_at vs at) (tree_at vs low) (tree_at vs high) (tree_at vs low)
      literals pushed all splits
      (path-low (tree_at vs low) (tree_at vs high) place (other-number vs low table is other)) push
      before

pub path-end : (vs : List Vertex) (n : ℕ) → n < 2 → path (tree_at vs n) ≡ []
unfolding path
path-end vs zero lt = ap path (tree_at-zero vs)
path-end vs (suc zero) lt = ap path (tree_at-one vs)
path-end vs (suc (suc n)) lt = absurd (omega (arith, lt))

-- whether a tree is a constant
abbrev pub is_constant : Tree → Bool
is_constant Zero = true
is_constant One = true
is_constant (Node place low high) = false

-- whether a walk that has seen some trees need not see another one
abbrev pub noted : List Tree → Tree → Bool
noted ts t = is_constant t || is_member tree_eq ts t

-- the trees seen, followed by one more unless it need not be seen
abbrev pub with_tree : List Tree → Tree → List Tree
with_tree ts t = if noted ts t then ts else ts ++ t ∷ []

-- the state of a walk over the inner subtrees of a tree: those seen are different, and the halves
-- of the finished ones are seen
pub record IsWalk (tree : Tree) (ts : List Tree) (done : ℕ) : Type 0 where
  pub distinct : IsDistinct tree_eq ts
  pub within : (s : Tree) → is_member tree_eq ts s ≡ true → is_member tree_eq (inner tree) s ≡ true
  pub start : noted ts tree ≡ true
  pub closed : (k place : ℕ) (low high : Tree) → k < done →
      slice_get ts k ≡ Some (Node place low high) → (noted ts low ≡ true) × (noted ts high ≡ true)
  pub reached : done ≤ length ts

-- what holds of some trees and of those with one more
pub with_tree-cases : (P : List Tree → Type 0) (ts : List Tree) (t : Tree) →
    (noted ts t ≡ true → P ts) → (noted ts t ≡ false → P (ts ++ t ∷ [])) → P (with_tree ts t)
with_tree-cases P ts t same new = cases (noted ts t) refl
  where
    cases : (b : Bool) → noted ts t ≡ b → P (if b then ts else ts ++ t ∷ [])
    cases true e = same e
    cases false e = new e

noted-more : (ts : List Tree) (t s : Tree) → noted ts s ≡ true → noted (with_tree ts t) s ≡ true
noted-more ts t s is = with_tree-cases (λ us. noted us s ≡ true) ts t (λ _. is)
    (λ _. by (or_cases (is_constant s) (is_member tree_eq ts s) is))
  where
    by : (is_constant s ≡ true) ⊎ (is_member tree_eq ts s ≡ true) → noted (ts ++ t ∷ []) s ≡ true
    by (inl c) = or_left (is_constant s) (is_member tree_eq (ts ++ t ∷ []) s) c
    by (inr m) =
        or_right (is_constant s) (is_member tree_eq (ts ++ t ∷ []) s)
        (list_any-append (tree_eq s) ts (t ∷ [])
        ∙ or_left (is_member tree_eq ts s) (tree_eq s t || false) m)

noted-itself : (ts : List Tree) (t : Tree) → noted (with_tree ts t) t ≡ true
noted-itself ts t = cases (noted ts t) refl
  where
    cases : (b : Bool) → noted ts t ≡ b → noted (if b then ts else ts ++ t ∷ []) t ≡ true
    cases true e = e
    cases false e =
        or_right (is_constant t) (is_member tree_eq (ts ++ t ∷ []) t)
        (list_any-append (tree_eq t) ts (t ∷ [])
        ∙ or_right (is_member tree_eq ts t) (tree_eq t t || false)
        (or_left (tree_eq t t) false (tree_eq-refl t)))

longer : (ts : List Tree) (t : Tree) → length ts ≤ length (with_tree ts t)
longer ts t =
    with_tree-cases (λ us. length ts ≤ length us) ts t (λ _. omega arith)
    (λ _. omega (arith, length-append ts (t ∷ [])))

slice_get-front : (ts us : List Tree) (k : ℕ) → k < length ts →
    slice_get (ts ++ us) k ≡ slice_get ts k
slice_get-front [] us k lt = absurd (omega (arith, lt))
slice_get-front (t ∷ ts) us zero lt = refl
slice_get-front (t ∷ ts) us (suc k) lt = slice_get-front ts us k (omega (arith, lt))

stands : (ts : List Tree) (t : Tree) (k : ℕ) → k < length ts →
    slice_get (with_tree ts t) k ≡ slice_get ts k
stands ts t k lt =
    with_tree-cases (λ us. slice_get us k ≡ slice_get ts k) ts t (λ _. refl)
    (λ _. slice_get-front ts (t ∷ []) k lt)

pub half-low : (place : ℕ) (low high : Tree) → is_constant low ≡ false →
    is_member tree_eq (inner (Node place low high)) low ≡ true
half-low place Zero high e = absurd (false≢true (sym e))
half-low place One high e = absurd (false≢true (sym e))
half-low place (Node v lo hi) high e =
    inner-low place (Node v lo hi) high (Node v lo hi) (inner-itself v lo hi)

pub half-high : (place : ℕ) (low high : Tree) → is_constant high ≡ false →
    is_member tree_eq (inner (Node place low high)) high ≡ true
half-high place low Zero e = absurd (false≢true (sym e))
half-high place low One e = absurd (false≢true (sym e))
half-high place low (Node v lo hi) e =
    inner-high place low (Node v lo hi) (Node v lo hi) (inner-itself v lo hi)

itself : (t : Tree) → is_constant t ≡ false → is_member tree_eq (inner t) t ≡ true
itself Zero e = absurd (false≢true (sym e))
itself One e = absurd (false≢true (sym e))
itself (Node v lo hi) e = inner-itself v lo hi

-- a walk that sees one more tree, which is an inner subtree or a constant
walk-more : (tree : Tree) (ts : List Tree) (done : ℕ) (t : Tree) →
    (is_constant t ≡ false → is_member tree_eq (inner tree) t ≡ true) →
    IsWalk tree ts done → IsWalk tree (with_tree ts t) done
walk-more tree ts done t inside walk = record {
  distinct = with_tree-cases (IsDistinct tree_eq) ts t (λ _. walk.distinct)
      (λ new. IsDistinct-push tree_eq-laws ts t walk.distinct
      (or_parts (is_constant t) (is_member tree_eq ts t) new).1);
  within = λ s. with_tree-cases
      (λ us. is_member tree_eq us s ≡ true → is_member tree_eq (inner tree) s ≡ true) ts t
      (λ _. walk.within s) (λ new m. further s
      (or_parts (is_constant t) (is_member tree_eq ts t) new).0
      (or_cases (is_member tree_eq ts s) (tree_eq s t || false)
      (sym (list_any-append (tree_eq s) ts (t ∷ [])) ∙ m)));
  start = noted-more ts t tree walk.start;
  closed = λ k place low high lt at.
      let (a, b) = walk.closed k place low high lt
      (sym (stands ts t k (omega (arith, lt, walk.reached))) ∙ at) in
      (noted-more ts t low a, noted-more ts t high b);
  reached = omega (arith, walk.reached, longer ts t);
}
  where
    further : (s : Tree) → is_constant t ≡ false →
        (is_member tree_eq ts s ≡ true) ⊎ ((tree_eq s t || false) ≡ true) →
        is_member tree_eq (inner tree) s ≡ true
    further s c (inl m) = walk.within s m
    further s c (inr m) = elim (or_cases (tree_eq s t) false m)
        as (λ _. is_member tree_eq (inner tree) s ≡ true) [
          | inl e ↦ subst (λ (u : Tree). is_member tree_eq (inner tree) u ≡ true)
              (sym (tree_eq-same s t e)) (inside c)
          | inr e ↦ absurd (false≢true e)
        ]

walk-none : (tree : Tree) → noted [] tree ≡ true → IsWalk tree [] 0
unfolding IsDistinct
walk-none tree e = record {
  distinct = tt;
  within = λ s m. absurd (false≢true m);
  start = e;
  closed = λ k place low high lt at. absurd (omega (arith, lt));
  reached = omega arith;
}

walk-alone : (tree : Tree) → is_constant tree ≡ false → IsWalk tree (tree ∷ []) 0
unfolding IsDistinct
walk-alone tree e = record {
  distinct = (tt, tt);
  within = λ s m. by s (or_cases (tree_eq s tree) false m);
  start = or_right (is_constant tree) (tree_eq tree tree || false)
      (or_left (tree_eq tree tree) false (tree_eq-refl tree));
  closed = λ k place low high lt at. absurd (omega (arith, lt));
  reached = omega arith;
}
  where
    by : (s : Tree) → (tree_eq s tree ≡ true) ⊎ (false ≡ true) →
        is_member tree_eq (inner tree) s ≡ true
    by s (inl same) = subst (λ (u : Tree). is_member tree_eq (inner tree) u ≡ true)
        (sym (tree_eq-same s tree same)) (itself tree e)
    by s (inr never) = absurd (false≢true never)

pub walk-start : (tree : Tree) → IsWalk tree (with_tree [] tree) 0
walk-start tree =
    with_tree-cases (λ ts. IsWalk tree ts 0) [] tree (λ e. walk-none tree e)
    (λ e. walk-alone tree (or_parts (is_constant tree) false e).0)

-- trees of a list are its members
at-member : (ts : List Tree) (k : ℕ) (t : Tree) → slice_get ts k ≡ Some t →
    is_member tree_eq ts t ≡ true
at-member [] k t at = cc
at-member (u ∷ ts) zero t at =
    let same : u ≡ t = cc in
    or_left (tree_eq t u) (is_member tree_eq ts t) (ap (tree_eq t) same ∙ tree_eq-refl t)
at-member (u ∷ ts) (suc k) t at =
    or_right (tree_eq t u) (is_member tree_eq ts t) (at-member ts k t at)

member-at : (ts : List Tree) (t : Tree) → is_member tree_eq ts t ≡ true →
    (k : ℕ) × (k < length ts) × (slice_get ts k ≡ Some t)
member-at [] t m = absurd (false≢true m)
member-at (u ∷ ts) t m = elim (or_cases (tree_eq t u) (is_member tree_eq ts t) m)
    as (λ _. (k : ℕ) × (k < suc (length ts)) × (slice_get (u ∷ ts) k ≡ Some t)) [
      | inl same ↦ (0, omega arith, ap (λ (v : Tree). Some v) (sym (tree_eq-same t u same)))
      | inr rest ↦
          let (k, lt, at) = member-at ts t rest in
          (suc k, omega (arith, lt), at)
    ]

-- the walk finishes one more tree, whose halves it sees
pub walk-step : (tree : Tree) (ts : List Tree) (done place : ℕ) (low high : Tree) →
    slice_get ts done ≡ Some (Node place low high) →
    IsWalk tree ts done → IsWalk tree (with_tree (with_tree ts low) high) (done + 1)
walk-step tree ts done place low high at walk = record {
  distinct = further.distinct;
  within = further.within;
  start = further.start;
  closed = λ k p lo hi lt here. elim (cases_lt k done)
      as (λ _. (noted all lo ≡ true) × (noted all hi ≡ true)) [
        | inl before ↦ further.closed k p lo hi before here
        | inr past ↦ last k p lo hi (omega (arith, lt, past)) here
      ];
  reached = omega (arith, lengths, slice_get_within ts done (Node place low high) at);
}
  where
    all : List Tree
    all = with_tree (with_tree ts low) high

    inside : is_member tree_eq (inner tree) (Node place low high) ≡ true
    inside = walk.within (Node place low high) (at-member ts done (Node place low high) at)

    further : IsWalk tree all done
    further =
        walk-more tree (with_tree ts low) done high
        (λ e. inner_through tree (Node place low high) high inside (half-high place low high e))
        (walk-more tree ts done low (λ e. inner_through tree (Node place low high) low inside
        (half-low place low high e)) walk)

    lengths : length ts ≤ length all
    lengths = omega (arith, longer ts low, longer (with_tree ts low) high)

    last : (k p : ℕ) (lo hi : Tree) → k ≡ done → slice_get all k ≡ Some (Node p lo hi) →
        (noted all lo ≡ true) × (noted all hi ≡ true)
    last k p lo hi e here =
        let within : done < length ts = slice_get_within ts done (Node place low high) at in
        let same : Some (Node place low high) ≡ Some (Node p lo hi) =
        sym at ∙ sym (stands ts low done within)
        ∙ sym (stands (with_tree ts low) high done (omega (arith, within, longer ts low)))
        ∙ ap (slice_get all) (sym e) ∙ here in
        let first : low ≡ lo = cc in
        let second : high ≡ hi = cc in (
          subst (λ (u : Tree). noted all u ≡ true) first
              (noted-more (with_tree ts low) high low (noted-itself ts low)),
          subst (λ (u : Tree). noted all u ≡ true) second (noted-itself (with_tree ts low) high),
        )

-- a walk that has finished all it has seen has seen each inner subtree
walk-covers : (tree : Tree) (ts : List Tree) → IsWalk tree ts (length ts) → (t s : Tree) →
    noted ts t ≡ true →
    is_member tree_eq (inner t) s ≡ true → is_member tree_eq ts s ≡ true
walk-covers tree ts walk Zero s n m = absurd (inner-zero Zero s refl m)
walk-covers tree ts walk One s n m = absurd (inner-one One s refl m)
walk-covers tree ts walk (Node place low high) s n m =
    let (k, lt, at) = member-at ts (Node place low high) n in
    let (a, b) = walk.closed k place low high lt at in
    by (walk-covers tree ts walk low s a) (walk-covers tree ts walk high s b)
    (inner-cases place low high s m)
  where
    by : (is_member tree_eq (inner low) s ≡ true → is_member tree_eq ts s ≡ true) →
        (is_member tree_eq (inner high) s ≡ true → is_member tree_eq ts s ≡ true) →
        (s ≡ Node place low high) ⊎ ((is_member tree_eq (inner low) s ≡ true) ⊎
        (is_member tree_eq (inner high) s ≡ true)) →
        is_member tree_eq ts s ≡ true
    by f g (inl e) = subst (λ (u : Tree). is_member tree_eq ts u ≡ true) (sym e) n
    by f g (inr (inl low)) = f low
    by f g (inr (inr high)) = g high

pub walk-above : (tree : Tree) (ts : List Tree) (done : ℕ) → IsWalk tree ts done →
    length ts ≤ size tree
walk-above tree ts done walk = size-above tree ts walk.distinct walk.within

pub walk-end : (tree : Tree) (ts : List Tree) (done : ℕ) → IsWalk tree ts done → done ≡ length ts →
    done ≡ size tree
walk-end tree ts done walk e =
    let full : IsWalk tree ts (length ts) = subst (λ (n : ℕ). IsWalk tree ts n) e walk in
    omega (
      arith,
      e,
      walk-above tree ts done walk,
      size-within tree ts
          (λ s m. walk-covers tree ts full tree s walk.start m),
    )

-- numbers of vertices
abbrev pub AreNumbers : List Vertex → List ℕ → Type 0
AreNumbers vs seen = AllByRecursion (λ n. (2 ≤ n) × IsNumber vs n) seen

numbers-append : (vs : List Vertex) (seen : List ℕ) (n : ℕ) → AreNumbers vs seen → 2 ≤ n →
    IsNumber vs n → AreNumbers vs (seen ++ n ∷ [])
numbers-append vs [] n are le is = ((le, is), tt)
numbers-append vs (m ∷ seen) n are le is = (are.0, numbers-append vs seen n are.1 le is)

with_number-cases : (P : List ℕ → Type 0) (seen : List ℕ) (n : ℕ) → P seen →
    (nat_lt n 2 ≡ false → P (seen ++ n ∷ [])) → P (with_number seen n)
with_number-cases P seen n same new = cases (nat_lt n 2) (list_any (λ m. n == m) seen) refl
  where
    cases : (a b : Bool) → nat_lt n 2 ≡ a → P (if a || b then seen else seen ++ n ∷ [])
    cases true b e = same
    cases false true e = same
    cases false false e = new e

numbers-more : (vs : List Vertex) (seen : List ℕ) (n : ℕ) → AreNumbers vs seen → IsNumber vs n →
    AreNumbers vs (with_number seen n)
numbers-more vs seen n are is =
    with_number-cases (AreNumbers vs) seen n are
    (λ e. numbers-append vs seen n are (ltb-false n 2 e) is)

numbers-at : (vs : List Vertex) (seen : List ℕ) (k n : ℕ) → AreNumbers vs seen →
    slice_get seen k ≡ Some n → (2 ≤ n) × IsNumber vs n
numbers-at vs [] k n are at = cc
numbers-at vs (m ∷ seen) zero n are at =
    let same : m ≡ n = cc in
    subst (λ (i : ℕ). (2 ≤ i) × IsNumber vs i) same are.0
numbers-at vs (m ∷ seen) (suc k) n are at = numbers-at vs seen k n are.1 at

-- constants have the numbers below 2
constant-number : (vs : List Vertex) (n : ℕ) → IsTable vs → IsNumber vs n →
    nat_lt n 2 ≡ is_constant (tree_at vs n)
constant-number vs zero table is = ap is_constant (sym (tree_at-zero vs))
constant-number vs (suc zero) table is = ap is_constant (sym (tree_at-one vs))
constant-number vs (suc (suc n)) table is =
    let (v, at) = number_vertex vs n (omega (arith, is)) in
    let two : suc (suc n) ≡ 2 + n = omega arith in
    big ∙ ap is_constant (sym (ap (tree_at vs) two ∙ table-reads vs n v table at))
  where
    big : nat_lt (suc (suc n)) 2 ≡ false
    big = le-ltb (suc (suc n)) 2 (omega arith)

-- numbers are the same if their trees are
same-number : (vs : List Vertex) (m n : ℕ) → IsTable vs → IsNumber vs m → IsNumber vs n →
    (m == n) ≡ tree_eq (tree_at vs m) (tree_at vs n)
same-number vs m n table p q = cases (m == n) (tree_eq (tree_at vs m) (tree_at vs n)) refl refl
  where
    cases : (a b : Bool) → (m == n) ≡ a → tree_eq (tree_at vs m) (tree_at vs n) ≡ b → a ≡ b
    cases true true e f = refl
    cases false false e f = refl
    cases true false e f =
        let same : m ≡ n = eqb-true m n e in
        absurd (tree_eq-other (tree_at vs m) (tree_at vs n) f (ap (tree_at vs) same))
    cases false true e f =
        let same : m ≡ n = table.one m n p q (tree_eq-same (tree_at vs m) (tree_at vs n) f) in
        absurd (false≢true (sym e ∙ eq-eqb m n same))

member-number : (vs : List Vertex) (seen : List ℕ) (n : ℕ) → IsTable vs → AreNumbers vs seen →
    IsNumber vs n →
    list_any (λ m. n == m) seen ≡ is_member tree_eq (map (tree_at vs) seen) (tree_at vs n)
member-number vs [] n table are is = refl
member-number vs (m ∷ seen) n table are is =
    ap (λ (b : Bool). b || list_any (λ k. n == k) seen) (same-number vs n m table is are.0.1)
    ∙ ap (λ (b : Bool). tree_eq (tree_at vs n) (tree_at vs m) || b)
    (member-number vs seen n table are.1 is)

-- the trees of the numbers seen are the trees seen
trees-more : (vs : List Vertex) (seen : List ℕ) (n : ℕ) → IsTable vs → AreNumbers vs seen →
    IsNumber vs n →
    map (tree_at vs) (with_number seen n) ≡ with_tree (map (tree_at vs) seen) (tree_at vs n)
trees-more vs seen n table are is =
    cases (nat_lt n 2 || list_any (λ m. n == m) seen)
    (noted (map (tree_at vs) seen) (tree_at vs n)) same
  where
    same : (nat_lt n 2 || list_any (λ m. n == m) seen) ≡ noted (map (tree_at vs) seen)
        (tree_at vs n)
    same =
        ap (λ (b : Bool). b || list_any (λ m. n == m) seen) (constant-number vs n table is)
        ∙ ap (λ (b : Bool). is_constant (tree_at vs n) || b) (member-number vs seen n table are is)

    cases : (a b : Bool) → a ≡ b →
        map (tree_at vs) (if a then seen else seen ++ n ∷ []) ≡
        (if b then map (tree_at vs) seen else map (tree_at vs) seen ++ tree_at vs n ∷ [])
    cases true true e = refl
    cases true false e = absurd (false≢true (sym e))
    cases false true e = absurd (false≢true e)
    cases false false e = map-append (tree_at vs) seen (n ∷ [])

-- an index of a list is past its end if there is no item
past_end : {X : Type 0} (xs : List X) (k : ℕ) → slice_get xs k ≡ None → length xs ≤ k
past_end [] k e = omega arith
past_end (x ∷ xs) zero e = cc
past_end (x ∷ xs) (suc k) e = omega (arith, past_end xs k e)

-- a walk over the vertices of a number's tree, which has seen some numbers, and has finished the
-- first of them, at most as many as a limit
pub record Walks (vs : List Vertex) (number limit : ℕ) (seen : List ℕ) (done : ℕ) : Type 0 where
  pub numbers : AreNumbers vs seen
  pub walk : IsWalk (tree_at vs number) (map (tree_at vs) seen) done
  pub limited : done ≤ limit

pub walks-start : (vs : List Vertex) (number limit : ℕ) (seen : List ℕ) → IsTable vs →
    IsNumber vs number → seen ≡ with_number [] number → Walks vs number limit seen 0
walks-start vs number limit seen table is e =
    subst (λ (ns : List ℕ). Walks vs number limit ns 0) (sym e) (record {
      numbers = numbers-more vs [] number tt is;
      walk = subst (λ (ts : List Tree). IsWalk (tree_at vs number) ts 0)
          (sym (trees-more vs [] number table tt is)) (walk-start (tree_at vs number));
      limited = omega arith;
    })

module _ {vs : List Vertex} {number limit done : ℕ} {seen : List ℕ}
    (walks : Walks vs number limit seen done) where
  pub walks-number : {next : ℕ} → slice_get seen done ≡ Some next → (2 ≤ next) × IsNumber vs next
  walks-number {next} at = numbers-at vs seen done next walks.numbers at

  pub walks-step : (new : List ℕ) (next place low high : ℕ) → IsTable vs →
      slice_get seen done ≡ Some next → length seen ≤ limit →
      tree_at vs next ≡ Node place (tree_at vs low) (tree_at vs high) →
      (low < next) × (high < next) → new ≡ with_number (with_number seen low) high →
      Walks vs number limit new (done + 1)
  walks-step new next place low high table at few splits below e =
      subst (λ (ns : List ℕ). Walks vs number limit ns (done + 1)) (sym e) (record {
        numbers = numbers-more vs (with_number seen low) high low_seen high_is;
        walk = subst (λ (ts : List Tree). IsWalk (tree_at vs number) ts (done + 1)) (sym same)
            (walk-step (tree_at vs number) trees_seen done place (tree_at vs low)
            (tree_at vs high) here walks.walk);
        limited = omega (arith, few, slice_get_within seen done next at);
      })
    where
      trees_seen : List Tree
      trees_seen = map (tree_at vs) seen

      is : IsNumber vs next
      is = (walks-number at).1

      low_is : IsNumber vs low
      low_is = omega (arith, is, below.0)

      high_is : IsNumber vs high
      high_is = omega (arith, is, below.1)

      low_seen : AreNumbers vs (with_number seen low)
      low_seen = numbers-more vs seen low walks.numbers low_is

      same : map (tree_at vs) (with_number (with_number seen low) high)
          ≡ with_tree (with_tree trees_seen (tree_at vs low)) (tree_at vs high)
      same =
          trees-more vs (with_number seen low) high table low_seen high_is
          ∙ ap (λ (ts : List Tree). with_tree ts (tree_at vs high))
          (trees-more vs seen low table walks.numbers low_is)

      here : slice_get trees_seen done ≡ Some (Node place (tree_at vs low) (tree_at vs high))
      here =
          slice_get-map (tree_at vs) seen done
          ∙ ap (option_map (tree_at vs)) at ∙ ap (λ (t : Tree). Some t) splits

  -- what is seen is within the tree, so there are vertices for all of it
  pub walks-within : length seen ≤ size (tree_at vs number)
  walks-within =
      omega (
        arith,
        length-map seen (tree_at vs),
        walk-above (tree_at vs number) (map (tree_at vs) seen) done walks.walk,
      )

  pub walks-falls : {next : ℕ} → IsTable vs → IsNumber vs number → slice_get seen done ≡ Some next →
      length vs - (done + 1) < length vs - done
  walks-falls {next} table is at =
      omega (
        arith,
        slice_get_within seen done next at,
        walks-within,
        size_below vs number table is,
      )

  pub walks-end : slice_get seen done ≡ None → (done ≡ size (tree_at vs number)) × (done ≤ limit)
  walks-end none = (
    walk-end (tree_at vs number) (map (tree_at vs) seen) done walks.walk
        (omega (arith, past_end seen done none, length-map seen (tree_at vs), walks.walk.reached)),
    walks.limited,
  )
