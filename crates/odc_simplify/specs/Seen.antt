-- Functions of leaves as seen at points of the inputs of a table: a point is seen if some valuation
-- of the leaves gives the inputs its bits.
-- Source: De Micheli, "Synthesis and Optimization of Digital Circuits", chapter 8 (don't-care
-- conditions; the image of a network's inputs at the inputs of a vertex).
use Rattle.std.specs.Prelude.{◌≡◌, ℕ, ◌<◌, Bool, true, false, not, ◌&&◌, if◌then◌else◌, List}
use Rattle.std.specs.Prelude.{[], ◌∷◌, length, map, slice_index_or}
use Rattle.cover_min.specs.Points.{some_point}
use Rattle.cover_min.specs.Minimum.{Meaning}
use Rattle.func_core.specs.Trees.{BooleanFunction}

-- the valuation of leaves that gives the first ones the bits of a list, and 0 to all others
abbrev pub valuation : List Bool → ℕ → Bool
valuation bits = λ leaf. slice_index_or bits leaf false

-- the bits that functions have at a valuation
abbrev pub values : List BooleanFunction → (ℕ → Bool) → List Bool
values functions leaves = map (λ f. f leaves) functions

-- whether two lists have the same bits
unfoldable pub same_bits : List Bool → List Bool → Bool
same_bits [] [] = true
same_bits [] (second ∷ others) = false
same_bits (first ∷ bits) [] = false
same_bits (first ∷ bits) (second ∷ others) =
    (if first then second else not second) && same_bits bits others

-- a function of the first leaves alone: it has one value wherever these have the same bits
abbrev pub IsOver : ℕ → BooleanFunction → Type 0
IsOver count f =
    (one other : ℕ → Bool) → ((leaf : ℕ) → leaf < count → one leaf ≡ other leaf) → f one ≡ f other

-- whether a function is true at some valuation of the first leaves that gives inputs the bits of a
-- point
unfoldable pub seen_at : ℕ → List BooleanFunction → BooleanFunction → List Bool → Bool
seen_at count inputs f point =
    some_point count (λ bits. f (valuation bits) && same_bits (values inputs
    (valuation bits)) point)

-- a function given by the leaves at which it must be 1 and those at which it must be 0, as seen at
-- points of inputs; a point at which neither is seen is free
abbrev pub meaning_of : ℕ → List BooleanFunction → BooleanFunction → BooleanFunction → Meaning
meaning_of count inputs on off =
    record { width = length inputs; on = seen_at count inputs on; off = seen_at count inputs off }
