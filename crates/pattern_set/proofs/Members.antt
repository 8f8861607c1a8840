-- Numbers that list the patterns of a formula, each once.
use Rattle.std.proofs.Common.{◌≡◌, ℕ, zero, suc, ◌+◌, ◌<◌, ◌||◌, nat_eq, Bool, true, false, List, [], ◌∷◌, ◌++◌, length, take, get_or, refl, sym, ap, ◌∙◌, subst, inl, inr, arith}
use Rattle.std.specs.List.{AllByRecursion, Contains, IsDistinct, list_any}
use Rattle.std.proofs.lemmas.Bool.{false≢true}
use Rattle.std.proofs.lemmas.List.{take_more}
use borrow.Author.Tests.{eqb-true, eq-eqb}
use Rattle.subject_tree.specs.Trees.{Tree}
use Rattle.subject_tree.specs.Arenas.{tree_at, KeepsTrees}
use Rattle.subject_tree.specs.Tables.{trees_of}
use Rattle.subject_tree.specs.declared.arena.Vertex.{Vertex}
use Rattle.subject_tree.proofs.Joining.{taken-kept, trees-kept}
use Rattle.genlib_expr.specs.Formula.{Formula}
use Rattle.pattern_set.specs.declared.cells.Cell.{Cell}
use Rattle.pattern_set.specs.declared.cells.PatternGate.{PatternGate}
use Rattle.pattern_set.specs.Patterns.{is_used}
use Rattle.pattern_set.specs.Lists.{patterns_of}
use Rattle.pattern_set.specs.Numbers.{AreNumbers, HaveSame}
use Rattle.pattern_set.specs.Cells.{Lists, IsUsedPattern, IsGateOf, AreGatesOf}
use Rattle.pattern_set.proofs.Exact.{In, in_map, from_map, patterns_exact}

pub in_contains : {A : Type 0} (x : A) (xs : List A) → In x xs → Contains xs x
in_contains x [] h = elim h [ ]
in_contains x (y ∷ ys) (inl e) = (0, omega arith, e)
in_contains x (y ∷ ys) (inr h) = let (k, lt, e) = in_contains x ys h in (suc k, omega (arith, lt), e)

pub contains_in : {A : Type 0} (x : A) (xs : List A) → Contains xs x → In x xs
contains_in x [] (k, lt, e) = absurd (omega (arith, lt))
contains_in x (y ∷ ys) (zero, lt, e) = inl e
contains_in x (y ∷ ys) (suc k, lt, e) = inr (contains_in x ys (k, omega (arith, lt), e))

in_any : (n : ℕ) (ns : List ℕ) → In n ns → list_any (nat_eq n) ns ≡ true
in_any n [] h = elim h [ ]
in_any n (m ∷ ns) h = by_test (nat_eq n m) refl h (λ k. in_any n ns k)
  where
    by_test : (b : Bool) → nat_eq n m ≡ b → In n (m ∷ ns) → (In n ns → list_any (nat_eq n) ns ≡ true) → (b || list_any (nat_eq n) ns) ≡ true
    by_test true e h rest = refl
    by_test false e (inl is) rest = absurd (false≢true (sym e ∙ eq-eqb n m (sym is)))
    by_test false e (inr h) rest = rest h

any_in : (n : ℕ) (ns : List ℕ) → list_any (nat_eq n) ns ≡ true → In n ns
any_in n [] h = absurd (false≢true h)
any_in n (m ∷ ns) h = by_test (nat_eq n m) refl h (λ k. any_in n ns k)
  where
    by_test : (b : Bool) → nat_eq n m ≡ b → (b || list_any (nat_eq n) ns) ≡ true → (list_any (nat_eq n) ns ≡ true → In n ns) → In n (m ∷ ns)
    by_test true e h rest = inl (sym (eqb-true n m e))
    by_test false e h rest = inr (rest h)

same_in : (one other : List ℕ) (n : ℕ) → HaveSame one other → In n one → In n other
same_in one other n same h = any_in n other (sym (same n) ∙ in_any n one h)

all_from : {A : Type 0} (P : A → Type 0) (xs : List A) → ((x : A) → In x xs → P x) → AllByRecursion P xs
all_from P [] f = tt
all_from P (x ∷ xs) f = (f x (inl refl), all_from P xs (λ y h. f y (inr h)))

all_in : {A : Type 0} (P : A → Type 0) (xs : List A) (x : A) → AllByRecursion P xs → In x xs → P x
all_in P [] x all h = elim h [ ]
all_in P (y ∷ ys) x all (inl e) = subst P e all.0
all_in P (y ∷ ys) x all (inr h) = all_in P ys x all.1 h

-- all patterns, and each once
lists_all : (vs : List Vertex) (e : Formula) (every made : List ℕ) → is_used e ≡ true → AreNumbers vs every (patterns_of e) → IsDistinct nat_eq made → HaveSame made every → Lists vs made (IsUsedPattern e)
lists_all vs e every made used are once same = record {
  taken = all_from (λ n. n < length vs) made (λ n h. all_in (λ m. m < length vs) every n are.0 (same_in made every n same h));
  once = once;
  listed = all_from (IsUsedPattern e) (trees_of vs made) (λ t h.
      let (n, at, is) = from_map (tree_at vs) t made h in
      (used, (patterns_exact e t).0 (subst (λ (ts : List (Tree ℕ)). In t ts) are.1 (subst (λ (u : Tree ℕ). In u (trees_of vs every)) is (in_map (tree_at vs) n every (same_in made every n same at))))));
  all = λ t h.
      let (n, at, is) = from_map (tree_at vs) t every (subst (λ (ts : List (Tree ℕ)). In t ts) (sym are.1) ((patterns_exact e t).1 h.1)) in
      in_contains t (trees_of vs made) (subst (λ (u : Tree ℕ). In u (trees_of vs made)) is (in_map (tree_at vs) n made (same_in every made n (λ k. sym (same k)) at)));
}

pub lists_used : (vs : List Vertex) (e : Formula) (every slice made : List ℕ) (used : Bool) → used ≡ is_used e → used ≡ true → AreNumbers vs every (patterns_of e) → slice ≡ every → IsDistinct nat_eq made → HaveSame made slice
    → Lists vs made (IsUsedPattern e)
lists_used vs e every slice made true is some are same once have = lists_all vs e every made (sym is) are once (subst (HaveSame made) same have)
lists_used vs e every slice made false is none are same once have = absurd (false≢true none)

-- no pattern is listed for a gate that is not used
lists_none : (vs : List Vertex) (e : Formula) → is_used e ≡ false → Lists vs [] (IsUsedPattern e)
unfolding IsDistinct
lists_none vs e unused = record { taken = tt; once = tt; listed = tt; all = λ t h. absurd (false≢true (sym unused ∙ h.0)) }

pub lists_unused : (vs : List Vertex) (e : Formula) (used : Bool) (made : List ℕ) → used ≡ is_used e → used ≡ false → made ≡ [] → Lists vs made (IsUsedPattern e)
lists_unused vs e true made is none empty = absurd (false≢true (sym none))
lists_unused vs e false made is none empty = subst (λ (ns : List ℕ). Lists vs ns (IsUsedPattern e)) (sym empty) (lists_none vs e (sym is))

lists_kept : (old new : List Vertex) (ns : List ℕ) (P : Tree ℕ → Type 0) → KeepsTrees old new → Lists old ns P → Lists new ns P
lists_kept old new ns P kept lists =
    let same : trees_of old ns ≡ trees_of new ns = sym (trees-kept old new ns kept lists.taken) in
    record {
      taken = taken-kept old new ns kept lists.taken;
      once = lists.once;
      listed = subst (AllByRecursion P) same lists.listed;
      all = λ t h. subst (λ (ts : List (Tree ℕ)). Contains ts t) same (lists.all t h);
    }

gates_kept : (old new : List Vertex) (cells : List Cell) (gates : List PatternGate) → KeepsTrees old new → AreGatesOf old cells gates → AreGatesOf new cells gates
gates_kept old new [] [] kept are = tt
gates_kept old new [] (g ∷ gates) kept are = absurd are
gates_kept old new (c ∷ cells) [] kept are = absurd are
gates_kept old new (c ∷ cells) (g ∷ gates) kept are =
    (record { area = are.0.area; pins = are.0.pins; patterns = lists_kept old new g.patterns _ kept are.0.patterns }, gates_kept old new cells gates kept are.1)

gates_push : (vs : List Vertex) (cells : List Cell) (gates : List PatternGate) (c : Cell) (g : PatternGate) → AreGatesOf vs cells gates → IsGateOf vs c g → AreGatesOf vs (cells ++ c ∷ []) (gates ++ g ∷ [])
gates_push vs [] [] c g are is = (is, tt)
gates_push vs [] (h ∷ gates) c g are is = absurd are
gates_push vs (d ∷ cells) [] c g are is = absurd are
gates_push vs (d ∷ cells) (h ∷ gates) c g are is = (are.0, gates_push vs cells gates c g are.1 is)

-- one gate more
pub gates_more : (old new : List Vertex) (cells : List Cell) (gates pushed : List PatternGate) (i : ℕ) (c : Cell) (g : PatternGate) → KeepsTrees old new → i < length cells → c ≡ get_or cells i c
    → AreGatesOf old (take i cells) gates → IsGateOf new c g → pushed ≡ gates ++ g ∷ [] → AreGatesOf new (take (i + 1) cells) pushed
gates_more old new cells gates pushed i c g kept lt is are made pushes =
    subst (λ (gs : List PatternGate). AreGatesOf new (take (i + 1) cells) gs) (sym pushes)
    (subst (λ (cs : List Cell). AreGatesOf new cs (gates ++ g ∷ [])) (sym (take_more cells i c lt ∙ ap (λ (d : Cell). take i cells ++ d ∷ []) (sym is)))
    (gates_push new (take i cells) gates c g (gates_kept old new (take i cells) gates kept are) made))
