-- The trees of numbered vertices, as vertices are put behind the last.
use Rattle.std.proofs.Common.{◌≡◌, ℕ, zero, suc, ◌+◌, ◌<◌, ◌≤◌, Some, List, [], ◌∷◌, ◌++◌, length, fold, get_or, slice_get, refl, sym, ap, ◌∙◌, subst, inl, inr, ◌⊎◌, arith, length-append}
use Rattle.std.proofs.Math.ListN.{get_or-append}
use Rattle.std.proofs.Math.Seq.{get_or-append_seam}
use Rattle.std.proofs.lemmas.Bool.{cases_lt}
use Rattle.std.proofs.lemmas.List.Sums.{fold-append}
use Rattle.std.proofs.lemmas.Option.{slice_get_within, get_or_from_slice_get}
use Rattle.subject_tree.specs.Trees.{Tree, Inv, Nand}
use Rattle.subject_tree.specs.declared.arena.Vertex.{Vertex}
use Rattle.subject_tree.specs.declared.arena.Vertex.TheVariants.{Leaf, Inv as AtInv, Nand as AtNand}
use Rattle.subject_tree.specs.Arenas.{nowhere, tree_in, built, with_vertex, trees, tree_at, vertex_at, IsOver, IsArena, KeepsTrees, Has}

get_or_past : {X : Type 0} (xs : List X) (n : ℕ) (d : X) → length xs ≤ n → get_or xs n d ≡ d
get_or_past [] n d past = refl
get_or_past (x ∷ xs) zero d past = absurd (omega (arith, past))
get_or_past (x ∷ xs) (suc n) d past = get_or_past xs n d (omega (arith, past))

pub trees-push : (vs : List Vertex) (v : Vertex) → trees (vs ++ v ∷ []) ≡ trees vs ++ built (trees vs) v ∷ []
unfolding trees
trees-push vs v = fold-append with_vertex [] vs (v ∷ [])

fold-length : (vs : List Vertex) (ts : List (Tree ℕ)) → length (fold with_vertex ts vs) ≡ length ts + length vs
fold-length [] ts = omega arith
fold-length (v ∷ vs) ts =
    omega (arith, fold-length vs (with_vertex ts v), length-append ts (built ts v ∷ []))

pub length-trees : (vs : List Vertex) → length (trees vs) ≡ length vs
unfolding trees
length-trees vs = omega (arith, fold-length vs [])

-- a vertex over numbers below a bound is the same over lists of trees that agree there
pub built-agrees : (ts us : List (Tree ℕ)) (bound : ℕ) (v : Vertex) → IsOver bound v → ((n : ℕ) → n < bound → tree_in us n ≡ tree_in ts n) → built us v ≡ built ts v
built-agrees ts us bound (Leaf place) over agree = refl
built-agrees ts us bound (AtInv n) over agree = ap (λ (t : Tree ℕ). Inv t) (agree n over)
built-agrees ts us bound (AtNand m n) over agree =
    ap (λ (t : Tree ℕ). Nand t (tree_in us n)) (agree m over.0) ∙ ap (λ (t : Tree ℕ). Nand (tree_in ts m) t) (agree n over.1)

-- a bound may be raised
pub over-more : (bound more : ℕ) (v : Vertex) → bound ≤ more → IsOver bound v → IsOver more v
over-more bound more (Leaf place) le over = tt
over-more bound more (AtInv n) le over = omega (arith, le, over)
over-more bound more (AtNand m n) le over = (omega (arith, le, over.0), omega (arith, le, over.1))

-- what one vertex more leaves as it was
pub tree_at-old : (vs : List Vertex) (v : Vertex) (n : ℕ) → n < length vs → tree_at (vs ++ v ∷ []) n ≡ tree_at vs n
tree_at-old vs v n lt =
    ap (λ (ts : List (Tree ℕ)). tree_in ts n) (trees-push vs v) ∙ get_or-append (trees vs) (built (trees vs) v ∷ []) nowhere n (omega (arith, lt, length-trees vs))

pub tree_at-new : (vs : List Vertex) (v : Vertex) → tree_at (vs ++ v ∷ []) (length vs) ≡ built (trees vs) v
tree_at-new vs v =
    ap (tree_in (trees (vs ++ v ∷ []))) (sym (length-trees vs)) ∙ (ap (λ (ts : List (Tree ℕ)). tree_in ts (length (trees vs))) (trees-push vs v) ∙ get_or-append_seam (trees vs) (built (trees vs) v) [] nowhere)

vertex_at-old : (vs : List Vertex) (v : Vertex) (n : ℕ) → n < length vs → vertex_at (vs ++ v ∷ []) n ≡ vertex_at vs n
vertex_at-old vs v n lt = get_or-append vs (v ∷ []) (Leaf 0) n lt

vertex_at-new : (vs : List Vertex) (v : Vertex) → vertex_at (vs ++ v ∷ []) (length vs) ≡ v
vertex_at-new vs v = get_or-append_seam vs v [] (Leaf 0)

pub built-push : (vs : List Vertex) (v w : Vertex) → IsOver (length vs) w → built (trees (vs ++ v ∷ [])) w ≡ built (trees vs) w
built-push vs v w over = built-agrees (trees vs) (trees (vs ++ v ∷ [])) (length vs) w over (tree_at-old vs v)

-- two vertices with one tree are one vertex
pub built-one : (vs : List Vertex) (v w : Vertex) → IsArena vs → IsOver (length vs) v → IsOver (length vs) w → built (trees vs) v ≡ built (trees vs) w → v ≡ w
built-one vs (Leaf m) (Leaf n) arena p q e = ap (λ (k : ℕ). Leaf k) (cc)
built-one vs (Leaf m) (AtInv k) arena p q e = cc
built-one vs (Leaf m) (AtNand j k) arena p q e = cc
built-one vs (AtInv m) (Leaf n) arena p q e = cc
built-one vs (AtInv m) (AtInv n) arena p q e = ap (λ (k : ℕ). AtInv k) (arena.one m n p q (cc))
built-one vs (AtInv m) (AtNand j k) arena p q e = cc
built-one vs (AtNand i m) (Leaf n) arena p q e = cc
built-one vs (AtNand i m) (AtInv n) arena p q e = cc
built-one vs (AtNand i m) (AtNand j n) arena p q e =
    ap (λ (k : ℕ). AtNand k m) (arena.one i j p.0 q.0 (cc)) ∙ ap (λ (k : ℕ). AtNand j k) (arena.one m n p.1 q.1 (cc))

-- one vertex more, which was not there
pub arena-push : (vs : List Vertex) (v : Vertex) → IsArena vs → IsOver (length vs) v → ((n : ℕ) → n < length vs → vertex_at vs n ≡ v → ⊥) → IsArena (vs ++ v ∷ [])
arena-push vs v arena over new = record { over = overs; reads = reads; one = one }
  where
    size : length (vs ++ v ∷ []) ≡ length vs + 1
    size = length-append vs (v ∷ [])

    at_last : (n : ℕ) → n < length (vs ++ v ∷ []) → length vs ≤ n → n ≡ length vs
    at_last n lt le = omega (arith, lt, le, size)

    overs : (n : ℕ) → n < length (vs ++ v ∷ []) → IsOver n (vertex_at (vs ++ v ∷ []) n)
    overs n lt = elim (cases_lt n (length vs)) as (λ _. IsOver n (vertex_at (vs ++ v ∷ []) n)) [
      | inl before ↦ subst (IsOver n) (sym (vertex_at-old vs v n before)) (arena.over n before)
      | inr past ↦
          let e : n ≡ length vs = at_last n lt past in
          subst (λ (k : ℕ). IsOver k (vertex_at (vs ++ v ∷ []) k)) (sym e) (subst (IsOver (length vs)) (sym (vertex_at-new vs v)) over)
    ]

    reads : (n : ℕ) → n < length (vs ++ v ∷ []) → tree_at (vs ++ v ∷ []) n ≡ built (trees (vs ++ v ∷ [])) (vertex_at (vs ++ v ∷ []) n)
    reads n lt = elim (cases_lt n (length vs)) as (λ _. tree_at (vs ++ v ∷ []) n ≡ built (trees (vs ++ v ∷ [])) (vertex_at (vs ++ v ∷ []) n)) [
      | inl before ↦
          tree_at-old vs v n before
          ∙ (arena.reads n before
          ∙ (sym (built-push vs v (vertex_at vs n) (over-more n (length vs) (vertex_at vs n) (omega (arith, before)) (arena.over n before))) ∙ ap (built (trees (vs ++ v ∷ []))) (sym (vertex_at-old vs v n before))))
      | inr past ↦
          let e : n ≡ length vs = at_last n lt past in
          subst (λ (k : ℕ). tree_at (vs ++ v ∷ []) k ≡ built (trees (vs ++ v ∷ [])) (vertex_at (vs ++ v ∷ []) k)) (sym e)
          (tree_at-new vs v ∙ (sym (built-push vs v v over) ∙ ap (built (trees (vs ++ v ∷ []))) (sym (vertex_at-new vs v))))
    ]

    -- the new tree is none of the old ones
    apart : (n : ℕ) → n < length vs → tree_at (vs ++ v ∷ []) n ≡ tree_at (vs ++ v ∷ []) (length vs) → ⊥
    apart n lt e =
        new n lt (built-one vs (vertex_at vs n) v arena (over-more n (length vs) (vertex_at vs n) (omega (arith, lt)) (arena.over n lt)) over
        (sym (arena.reads n lt) ∙ (sym (tree_at-old vs v n lt) ∙ (e ∙ tree_at-new vs v))))

    one : (m n : ℕ) → m < length (vs ++ v ∷ []) → n < length (vs ++ v ∷ []) → tree_at (vs ++ v ∷ []) m ≡ tree_at (vs ++ v ∷ []) n → m ≡ n
    one m n p q e = elim (cases_lt m (length vs)) as (λ _. m ≡ n) [
      | inl a ↦ elim (cases_lt n (length vs)) as (λ _. m ≡ n) [
        | inl b ↦ arena.one m n a b (sym (tree_at-old vs v m a) ∙ (e ∙ tree_at-old vs v n b))
        | inr b ↦ absurd (apart m a (e ∙ ap (tree_at (vs ++ v ∷ [])) (at_last n q b)))
      ]
      | inr a ↦ elim (cases_lt n (length vs)) as (λ _. m ≡ n) [
        | inl b ↦ absurd (apart n b (sym e ∙ ap (tree_at (vs ++ v ∷ [])) (at_last m p a)))
        | inr b ↦ at_last m p a ∙ sym (at_last n q b)
      ]
    ]

-- a vertex was put behind others, or was one of them
abbrev pub IsPut : List Vertex → List Vertex → Vertex → Type 0
IsPut old new v = (new ≡ old) ⊎ ((new ≡ old ++ v ∷ []) × ((n : ℕ) → n < length old → vertex_at old n ≡ v → ⊥))

pub put-arena : (old new : List Vertex) (v : Vertex) → IsPut old new v → IsArena old → IsOver (length old) v → IsArena new
put-arena old new v put arena over = elim put as (λ _. IsArena new) [
  | inl e ↦ subst IsArena (sym e) arena
  | inr (e, new) ↦ subst IsArena (sym e) (arena-push old v arena over new)
]

pub put-keeps : (old new : List Vertex) (v : Vertex) → IsPut old new v → KeepsTrees old new
put-keeps old new v put = elim put as (λ _. KeepsTrees old new) [
  | inl e ↦ subst (KeepsTrees old) (sym e) (λ n lt. (lt, refl))
  | inr (e, new) ↦ subst (KeepsTrees old) (sym e) (λ n lt. (omega (arith, lt, length-append old (v ∷ [])), tree_at-old old v n lt))
]

pub put-has : (old new : List Vertex) (v : Vertex) (number : ℕ) → IsPut old new v → IsArena old → IsOver (length old) v
    → slice_get new number ≡ Some v → Has new number (built (trees old) v)
put-has old new v number put arena over at =
    let lt : number < length new = slice_get_within new number v at in
    let here : vertex_at new number ≡ v = get_or_from_slice_get new number v (Leaf 0) at in (
      lt,
      (put-arena old new v put arena over).reads number lt ∙ (ap (built (trees new)) here
          ∙ built-agrees (trees old) (trees new) (length old) v over (λ n h. (put-keeps old new v put n h).1)),
    )

-- each number that is taken was taken before, or has the vertex's tree
pub put-added : (old new : List Vertex) (v : Vertex) → IsPut old new v → IsArena old → IsOver (length old) v → (n : ℕ) → n < length new → (n < length old) ⊎ (tree_at new n ≡ built (trees old) v)
put-added old new v put arena over n lt = elim put as (λ _. (n < length old) ⊎ (tree_at new n ≡ built (trees old) v)) [
  | inl e ↦ inl (subst (λ (vs : List Vertex). n < length vs) e lt)
  | inr (e, other) ↦ elim (cases_lt n (length old)) as (λ _. (n < length old) ⊎ (tree_at new n ≡ built (trees old) v)) [
    | inl before ↦ inl before
    | inr past ↦ inr (last e past)
  ]
]
  where
    last : new ≡ old ++ v ∷ [] → length old ≤ n → tree_at new n ≡ built (trees old) v
    last e past =
        let long : length new ≡ length (old ++ v ∷ []) = ap (λ (vs : List Vertex). length vs) e in
        let one : length (v ∷ []) ≡ 1 = refl in
        let at : n ≡ length old = omega (arith, lt, past, long, one, length-append old (v ∷ [])) in
        let here : vertex_at new n ≡ v = ap (λ (vs : List Vertex). vertex_at vs n) e ∙ (ap (λ (k : ℕ). vertex_at (old ++ v ∷ []) k) at ∙ get_or-append_seam old v [] (Leaf 0)) in
        (put-arena old new v put arena over).reads n lt ∙ (ap (built (trees new)) here ∙ built-agrees (trees old) (trees new) (length old) v over (λ m h. (put-keeps old new v put m h).1))

-- past the last number the tree is the leaf that the vertex there is
reads_past : (vs : List Vertex) (n : ℕ) → length vs ≤ n → tree_at vs n ≡ built (trees vs) (vertex_at vs n)
reads_past vs n past =
    get_or_past (trees vs) n nowhere (omega (arith, past, length-trees vs)) ∙ ap (built (trees vs)) (sym (get_or_past vs n (Leaf 0) past))

-- the tree of any number is made of the trees below its vertex
pub reads_all : (vs : List Vertex) → IsArena vs → (n : ℕ) → tree_at vs n ≡ built (trees vs) (vertex_at vs n)
reads_all vs arena n = elim (cases_lt n (length vs)) as (λ _. tree_at vs n ≡ built (trees vs) (vertex_at vs n)) [
  | inl before ↦ arena.reads n before
  | inr past ↦ reads_past vs n past
]

pub over_all : (vs : List Vertex) → IsArena vs → (n : ℕ) → IsOver n (vertex_at vs n) × IsOver (length vs) (vertex_at vs n)
over_all vs arena n = elim (cases_lt n (length vs)) as (λ _. IsOver n (vertex_at vs n) × IsOver (length vs) (vertex_at vs n)) [
  | inl before ↦ (arena.over n before, over-more n (length vs) (vertex_at vs n) (omega (arith, before)) (arena.over n before))
  | inr past ↦
      let leaf : Leaf 0 ≡ vertex_at vs n = sym (get_or_past vs n (Leaf 0) past) in
      (subst (IsOver n) leaf tt, subst (IsOver (length vs)) leaf tt)
]
