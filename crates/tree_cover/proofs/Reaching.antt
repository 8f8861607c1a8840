-- At each tree that is no leaf a gate can be taken, and it costs little: an inverter or a NAND.
use Rattle.std.proofs.Common.{◌≡◌, ℕ, zero, suc, ◌<◌, ◌==◌, not, Bool, true, false, ◌||◌, Some, List, [], ◌∷◌, slice_get, refl, sym, ap, ◌∙◌, subst, inl, inr, ◌⊎◌, ◌↔◌, arith}
use Rattle.std.specs.List.{Contains, list_any}
use Rattle.std.proofs.lemmas.Bool.{false≢true, cases_eq}
use borrow.Author.Tests.{eq-eqb}
use Rattle.subject_tree.specs.Trees.{Tree, Leaf, Inv, Nand}
use Rattle.subject_tree.specs.Arenas.{tree_at}
use Rattle.subject_tree.specs.Tables.{trees_of}
use Rattle.subject_tree.specs.declared.arena.Vertex.{Vertex}
use Rattle.pattern_set.specs.Values.{HasLeaf}
use Rattle.pattern_set.specs.Cells.{is_inverter, is_nand, lists_some, has_some}
use Rattle.pattern_set.specs.declared.cells.PatternGate.{PatternGate}
use Rattle.tree_cover.specs.Covers.{tile_of, Matches, IsProper, Fits}
use Rattle.tree_cover.proofs.Choosing.{get_contains}
use Rattle.tree_cover.proofs.Open.{get_map}

any_get : {A : Type 0} (test : A → Bool) (xs : List A) → list_any test xs ≡ true → (i : ℕ) × (x : A) × (slice_get xs i ≡ Some x) × (test x ≡ true)
any_get test [] h = absurd (false≢true h)
any_get {A} test (x ∷ xs) h = by_test (test x) refl h (λ k. any_get test xs k)
  where
    by_test : (b : Bool) → test x ≡ b → (b || list_any test xs) ≡ true → (list_any test xs ≡ true → (i : ℕ) × (y : A) × (slice_get xs i ≡ Some y) × (test y ≡ true))
        → (i : ℕ) × (y : A) × (slice_get (x ∷ xs) i ≡ Some y) × (test y ≡ true)
    by_test true e h rest = (0, x, refl, e)
    by_test false e h rest = let (i, y, at, is) = rest h in (suc i, y, at, is)

-- a gate that lists a tree which passes a test
pub record Lists (test : Tree ℕ → Bool) (shapes : List Vertex) (gates : List PatternGate) : Type 0 where
  pub place : ℕ
  pub gate : PatternGate
  pub there : slice_get gates place ≡ Some gate
  pub pattern : Tree ℕ
  pub listed : Contains (trees_of shapes gate.patterns) pattern
  pub passes : test pattern ≡ true

pub some_lists : (test : Tree ℕ → Bool) (shapes : List Vertex) (gates : List PatternGate) → has_some test shapes gates ≡ true → Lists test shapes gates
some_lists test shapes gates h =
    let (q, gate, at_gate, some) = any_get (lists_some test shapes) gates h in
    let (k, pattern, at_pattern, passes) = any_get (λ n. test (tree_at shapes n)) gate.patterns some in
    record {
      place = q;
      gate = gate;
      there = at_gate;
      pattern = tree_at shapes pattern;
      listed = get_contains (tree_at shapes pattern) (trees_of shapes gate.patterns) k (get_map (tree_at shapes) gate.patterns k pattern at_pattern);
      passes = passes;
    }

-- an inverter has one pin
inverter_is : (p : Tree ℕ) (pins : ℕ) → is_inverter p ≡ true → ((pin : ℕ) → HasLeaf pin p ↔ (pin < pins)) → (p ≡ Inv (Leaf 0)) × (pins ≡ 1)
unfolding HasLeaf
inverter_is (Leaf a) pins e leaves = absurd (false≢true e)
inverter_is (Inv (Leaf a)) pins e leaves =
    let some : a < pins = (leaves a).0 refl in
    let first : a ≡ 0 = (leaves 0).1 (omega arith) in
    (ap (λ (k : ℕ). Inv (Leaf k)) first, one pins a first some (λ more. (leaves 1).1 more))
  where
    one : (pins a : ℕ) → a ≡ 0 → a < pins → (1 < pins → a ≡ 1) → pins ≡ 1
    one zero a first some more = absurd (omega (arith, some))
    one (suc zero) a first some more = refl
    one (suc (suc k)) a first some more = absurd (omega (arith, first, more (omega arith)))
inverter_is (Inv (Inv t)) pins e leaves = absurd (false≢true e)
inverter_is (Inv (Nand t u)) pins e leaves = absurd (false≢true e)
inverter_is (Nand t u) pins e leaves = absurd (false≢true e)

-- a NAND of two pins has two
two_pins : (a b pins : ℕ) → (a ≡ b → ⊥) → ((pin : ℕ) → ((a ≡ pin) ⊎ (b ≡ pin)) ↔ (pin < pins)) → (pins ≡ 2) × (((a ≡ 0) × (b ≡ 1)) ⊎ ((a ≡ 1) × (b ≡ 0)))
two_pins a b pins apart leaves =
    let p : a < pins = (leaves a).0 (inl refl) in
    let q : b < pins = (leaves b).0 (inr refl) in
    let more : 1 < pins = omega (arith, apart, p, q) in
    let zeroth : (a ≡ 0) ⊎ (b ≡ 0) = (leaves 0).1 (omega (arith, more)) in
    let oneth : (a ≡ 1) ⊎ (b ≡ 1) = (leaves 1).1 more in
    (elim (cases_eq pins 2) as (λ _. pins ≡ 2) [ inl e ↦ e | inr ne ↦ absurd (no_third zeroth oneth ((leaves 2).1 (omega (arith, more, ne)))) ], both zeroth oneth)
  where
    no_third : (a ≡ 0) ⊎ (b ≡ 0) → (a ≡ 1) ⊎ (b ≡ 1) → (a ≡ 2) ⊎ (b ≡ 2) → ⊥
    no_third (inl p) (inl q) r = omega (arith, p, q)
    no_third (inr p) (inr q) r = omega (arith, p, q)
    no_third (inl p) (inr q) (inl r) = omega (arith, p, r)
    no_third (inl p) (inr q) (inr r) = omega (arith, q, r)
    no_third (inr p) (inl q) (inl r) = omega (arith, q, r)
    no_third (inr p) (inl q) (inr r) = omega (arith, p, r)

    both : (a ≡ 0) ⊎ (b ≡ 0) → (a ≡ 1) ⊎ (b ≡ 1) → ((a ≡ 0) × (b ≡ 1)) ⊎ ((a ≡ 1) × (b ≡ 0))
    both (inl p) (inl q) = absurd (omega (arith, p, q))
    both (inl p) (inr q) = inl (p, q)
    both (inr p) (inl q) = inr (q, p)
    both (inr p) (inr q) = absurd (omega (arith, p, q))

nand_is : (p : Tree ℕ) (pins : ℕ) → is_nand p ≡ true → ((pin : ℕ) → HasLeaf pin p ↔ (pin < pins)) → (pins ≡ 2) × ((p ≡ Nand (Leaf 0) (Leaf 1)) ⊎ (p ≡ Nand (Leaf 1) (Leaf 0)))
unfolding HasLeaf
nand_is (Leaf a) pins e leaves = absurd (false≢true e)
nand_is (Inv t) pins e leaves = absurd (false≢true e)
nand_is (Nand (Leaf a) (Leaf b)) pins e leaves =
    let (count, places) = two_pins a b pins (apart (a == b) refl e) leaves in (
      count,
      elim places as (λ _. (Nand (Leaf a) (Leaf b) ≡ Nand (Leaf 0) (Leaf 1)) ⊎ (Nand (Leaf a) (Leaf b) ≡ Nand (Leaf 1) (Leaf 0))) [
        | inl (p, q) ↦ inl (ap (λ (k : ℕ). Nand (Leaf k) (Leaf b)) p ∙ ap (λ (k : ℕ). Nand (Leaf 0) (Leaf k)) q)
        | inr (p, q) ↦ inr (ap (λ (k : ℕ). Nand (Leaf k) (Leaf b)) p ∙ ap (λ (k : ℕ). Nand (Leaf 1) (Leaf k)) q)
      ],
    )
  where
    apart : (t : Bool) → (a == b) ≡ t → not t ≡ true → a ≡ b → ⊥
    apart true e h same = false≢true h
    apart false e h same = false≢true (sym e ∙ eq-eqb a b same)
nand_is (Nand (Leaf a) (Inv u)) pins e leaves = absurd (false≢true e)
nand_is (Nand (Leaf a) (Nand u v)) pins e leaves = absurd (false≢true e)
nand_is (Nand (Inv t) u) pins e leaves = absurd (false≢true e)
nand_is (Nand (Nand s t) u) pins e leaves = absurd (false≢true e)

pub inverter_fits : (shapes : List Vertex) (gates : List PatternGate) (l : Lists is_inverter shapes gates) (u : Tree ℕ) → ((pin : ℕ) → HasLeaf pin l.pattern ↔ (pin < l.gate.pins)) → Fits (tile_of shapes l.gate) (Inv u) (u ∷ [])
unfolding Matches IsProper
inverter_fits shapes gates l u leaves =
    let (is, count) = inverter_is l.pattern l.gate.pins l.passes leaves in
    record { pins = sym count; pattern = Inv (Leaf 0); listed = subst (λ (p : Tree ℕ). Contains (trees_of shapes l.gate.patterns) p) is l.listed; proper = tt; matches = refl }

pub nand_fits : (shapes : List Vertex) (gates : List PatternGate) (l : Lists is_nand shapes gates) (u v : Tree ℕ) → ((pin : ℕ) → HasLeaf pin l.pattern ↔ (pin < l.gate.pins))
    → Fits (tile_of shapes l.gate) (Nand u v) (u ∷ v ∷ [])
unfolding Matches IsProper
nand_fits shapes gates l u v leaves =
    let (count, which) = nand_is l.pattern l.gate.pins l.passes leaves in
    elim which as (λ _. Fits (tile_of shapes l.gate) (Nand u v) (u ∷ v ∷ [])) [
      | inl is ↦ record {
        pins = sym count;
        pattern = Nand (Leaf 0) (Leaf 1);
        listed = subst (λ (p : Tree ℕ). Contains (trees_of shapes l.gate.patterns) p) is l.listed;
        proper = tt;
        matches = inl (refl, refl);
      }
      | inr is ↦ record {
        pins = sym count;
        pattern = Nand (Leaf 1) (Leaf 0);
        listed = subst (λ (p : Tree ℕ). Contains (trees_of shapes l.gate.patterns) p) is l.listed;
        proper = tt;
        matches = inr (refl, refl);
      }
    ]
