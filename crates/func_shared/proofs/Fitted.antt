-- Tables whose trees are all within a limit: they stay so if the vertices added are within a tree
-- that is.
use Rattle.std.proofs.Common.{◌≡◌, ℕ, zero, suc, ◌+◌, ◌<◌, ◌≤◌, true, Option, Some, None, List, [], length, inl, inr, ap, sym, ◌∙◌, subst, arith}
use Rattle.std.specs.Option.{MatchOption, is_some}
use Rattle.std.proofs.lemmas.Bool.{cases_lt}
use Rattle.std.proofs.lemmas.List.{take_all}
use Rattle.func_core.specs.Trees.{Tree, Zero, One, Node}
use Rattle.func_core.specs.Sizes.{inner, size}
use Rattle.func_shared.specs.declared.vertex.Vertex.{Vertex}
use Rattle.func_shared.specs.Vertices.{tree_at, Has, IsTable, Grows, AddsWithin}
use Rattle.func_shared.specs.Merging.{joined}
use Rattle.func_shared.specs.Fitting.{AllFit}
use Rattle.func_shared.proofs.Numbered.{tree_at-zero, tree_at-one, tree_at-past, joined-node}
use Rattle.func_shared.proofs.Growing.{kept, inner_smaller, size_below_number}

size-Zero : (t : Tree) → t ≡ Zero → size t ≡ 0
unfolding size inner
size-Zero t e = ap size e

size-One : (t : Tree) → t ≡ One → size t ≡ 0
unfolding size inner
size-One t e = ap size e

-- no number past the last has a tree that is large
pub fit_past : (vertices : List Vertex) (n limit : ℕ) → 2 + length vertices ≤ n →
    size (tree_at vertices n) ≤ limit
fit_past vertices n limit past =
    let e : size (tree_at vertices n) ≡ 0 =
    size-Zero (tree_at vertices n) (tree_at-past vertices n past) in
    omega arith

-- trees added within a tree that fits, fit
pub fit_added : (old new : List Vertex) (t : Tree) (limit : ℕ) →
    AllFit old limit → Grows old new → AddsWithin old new t → size t ≤ limit → AllFit new limit
fit_added old new t limit fit grows added fits n =
    elim (cases_lt n (2 + length new)) [
      | inl is ↦
          elim (added n is) [
            | inl was ↦
                subst (λ (s : Tree). size s ≤ limit) (sym (kept old new n grows was).1) (fit n)
            | inr inside ↦
                let le : size (tree_at new n) ≤ size t = inner_smaller t (tree_at new n) inside in
                omega arith
          ]
      | inr past ↦ fit_past new n limit past
    ]

-- as many vertices as before are those before
pub grows_same : (old new : List Vertex) → Grows old new → length new ≡ length old → new ≡ old
grows_same old new grows same = sym (take_all (length old) new (omega arith)) ∙ grows

pub fit_same : (old new : List Vertex) (limit : ℕ) → AllFit old limit → Grows old new →
    length new ≡ length old → AllFit new limit
fit_same old new limit fit grows same =
    subst (λ (vs : List Vertex). AllFit vs limit) (sym (grows_same old new grows same)) fit

-- trees added within the tree of a number that fits, fit
pub fit_reached : (old new : List Vertex) (t : Tree) (number limit : ℕ) →
    AllFit old limit → Grows old new → AddsWithin old new t →
    Has new number t → size (tree_at new number) ≤ limit → AllFit new limit
fit_reached old new t number limit fit grows added has fits =
    fit_added old new t limit fit grows added (subst (λ (s : Tree). size s ≤ limit) has.1 fits)

-- the same if the number is within the limit
pub fit_low : (old new : List Vertex) (t : Tree) (number limit : ℕ) →
    AllFit old limit → Grows old new → AddsWithin old new t →
    Has new number t → IsTable new → number ≤ limit → AllFit new limit
fit_low old new t number limit fit grows added has table low =
    let small : size (tree_at new number) ≤ number = size_below_number new number table has.0 in
    fit_reached old new t number limit fit grows added has (omega arith)

-- the same if only a variable's tree is added
pub fit_variable : (old new : List Vertex) (place limit : ℕ) →
    1 ≤ limit → AllFit old limit → Grows old new →
    AddsWithin old new (Node place Zero One) → AllFit new limit
unfolding size inner
fit_variable old new place limit some fit grows added =
    fit_added old new (Node place Zero One) limit fit grows added some

-- constants are no larger than any limit
pub fit_none : (vertices : List Vertex) (limit : ℕ) → vertices ≡ [] → AllFit vertices limit
fit_none vertices limit e zero =
    let none : size (tree_at vertices 0) ≡ 0 =
    size-Zero (tree_at vertices 0) (tree_at-zero vertices) in
    omega arith
fit_none vertices limit e (suc zero) =
    let none : size (tree_at vertices 1) ≡ 0 =
    size-One (tree_at vertices 1) (tree_at-one vertices) in
    omega arith
fit_none vertices limit e (suc (suc n)) =
    fit_past vertices (suc (suc n)) limit (omega (arith, ap (λ (vs : List Vertex). length vs) e))

-- the tree of a variable joins the constants
pub joined_variable : (vertices : List Vertex) (place : ℕ) →
    joined place (tree_at vertices 0) (tree_at vertices 1) ≡ Node place Zero One
joined_variable vertices place =
    ap (joined place (tree_at vertices 0)) (tree_at-one vertices)
    ∙ ap (λ (t : Tree). joined place t One) (tree_at-zero vertices)
    ∙ joined-node place Zero One (λ e. cc)

-- a size that was counted is within the limit
pub counted_fits : (found : Option ℕ) (large limit : ℕ) → is_some found ≡ true →
    MatchOption found (limit < large) (λ count. (count ≡ large) × (count ≤ limit)) → large ≤ limit
counted_fits None large limit some fits = cc
counted_fits (Some count) large limit some fits = omega (arith, fits.0, fits.1)
