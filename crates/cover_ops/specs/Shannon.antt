-- The list of rows of a function by Shannon's expansion, defined by the function's value alone.
-- Source: Brayton, Hachtel, McMullen, Sangiovanni-Vincentelli, "Logic Minimization Algorithms for
-- VLSI Synthesis" (Shannon expansion of a cover); De Micheli, "Synthesis and Optimization of
-- Digital Circuits", chapter 7.
use Rattle.std.specs.Prelude.{ℕ, zero, suc, Bool, true, false, not, ◌&&◌, if◌then◌else◌, Option, Some, None, List, [], ◌∷◌, ◌++◌, map}
use Rattle.sis_base.specs.Rows.{value_by_phase}

-- whether two bits are equal
abbrev pub bits_equal : Bool → Bool → Bool
bits_equal true bit = bit
bits_equal false bit = not bit

-- whether two functions agree on all points of a width
unfoldable pub same : ℕ → (List Bool → Bool) → (List Bool → Bool) → Bool
same zero f g = bits_equal (f []) (g [])
same (suc width) f g =
    same width (λ point. f (false ∷ point)) (λ point. g (false ∷ point)) && same width (λ point. f (true ∷ point)) (λ point. g (true ∷ point))

-- one row of dashes for the constant 1, no row for the constant 0. An input on which the function
-- does not depend gets a dash; otherwise the list of the half at 0 with literal 0 comes before that
-- of the half at 1 with literal 1.
unfoldable pub shannon : ℕ → (List Bool → Bool) → List (List (Option Bool))
shannon zero f = if f [] then [] ∷ [] else []
shannon (suc width) f =
    if same width (λ point. f (false ∷ point)) (λ point. f (true ∷ point))
    then map (λ row. None ∷ row) (shannon width (λ point. f (false ∷ point)))
    else map (λ row. Some false ∷ row) (shannon width (λ point. f (false ∷ point))) ++ map (λ row. Some true ∷ row) (shannon width (λ point. f (true ∷ point)))

-- the on-list of the function that rows give by a phase
unfoldable pub list_rows : ℕ → Bool → List (List (Option Bool)) → List (List (Option Bool))
list_rows width phase rows = shannon width (λ point. value_by_phase phase rows point)
