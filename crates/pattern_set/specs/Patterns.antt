-- The patterns of a gate: the trees of NANDs and inverters, over its pins, as which its function
-- may occur in a network.
-- Source: Keutzer, "DAGON: Technology binding and local optimization by DAG matching" (24th Design
-- Automation Conference, 1987); Rudell, "Logic Synthesis for VLSI Design" (thesis, University of
-- California, Berkeley, 1989), the chapter on technology mapping: each way to make a product or a
-- sum of two parts is a pattern. A NAND is matched in either order, so the two parts have none.
use Rattle.std.specs.Prelude.{ℕ, ◌+◌, Bool, true, false, not, ◌&&◌, ◌||◌, List, [], ◌∷◌, ◌++◌, nat_le}
use Rattle.subject_tree.specs.Trees.{Tree, Leaf, complement_of, product_of, sum_of}
use Rattle.genlib_expr.specs.Formula.{Formula, constant, pin, complement, product, sum}
use Rattle.sis_base.specs.declared.limits.TheConstants.{MAX_LITERALS}

-- the factors of a formula: those of both sides of a product, and otherwise itself
unfoldable pub factors : Formula → List Formula
factors (constant bit) = constant bit ∷ []
factors (pin place) = pin place ∷ []
factors (complement e) = complement e ∷ []
factors (product d e) = factors d ++ factors e
factors (sum d e) = sum d e ∷ []

-- the terms of a formula: those of both sides of a sum, and otherwise itself
unfoldable pub terms : Formula → List Formula
terms (constant bit) = constant bit ∷ []
terms (pin place) = pin place ∷ []
terms (complement e) = complement e ∷ []
terms (product d e) = product d e ∷ []
terms (sum d e) = terms d ++ terms e

-- a list is split in two: each item goes to the first part or to the second one, in order
pub data IsParting {A : Type 0} : List A → List A → List A → Type 0 where
  none_left : IsParting [] [] []
  to_first : {x : A} {xs ys zs : List A} → IsParting zs xs ys → IsParting (x ∷ zs) (x ∷ xs) ys
  to_second : {x : A} {xs ys zs : List A} → IsParting zs xs ys → IsParting (x ∷ zs) xs (x ∷ ys)

mutual
  -- a tree is a pattern of a formula: a pin is a leaf, `!` takes the complement, a product joins
  -- its factors, and a sum its terms
  pub data IsPattern : Formula → Tree ℕ → Type 0 where
    of_pin : (place : ℕ) → IsPattern (pin place) (Leaf place)
    of_complement : {e : Formula} {t : Tree ℕ} → IsPattern e t → IsPattern (complement e) (complement_of t)
    of_product : {d e : Formula} {t : Tree ℕ} → IsJoined product_of (factors d ++ factors e) t → IsPattern (product d e) t
    of_sum : {d e : Formula} {t : Tree ℕ} → IsJoined sum_of (terms d ++ terms e) t → IsPattern (sum d e) t

  -- a tree joins patterns of all of some formulas: one pattern of one formula, or two trees that
  -- join two parts of them, neither of them empty, where the first formula stays in the first part
  pub data IsJoined : (Tree ℕ → Tree ℕ → Tree ℕ) → List Formula → Tree ℕ → Type 0 where
    of_one : {join : Tree ℕ → Tree ℕ → Tree ℕ} {e : Formula} {t : Tree ℕ} → IsPattern e t → IsJoined join (e ∷ []) t
    of_parts : {join : Tree ℕ → Tree ℕ → Tree ℕ} {e y : Formula} {es xs ys : List Formula} {t u : Tree ℕ}
        → IsParting es xs (y ∷ ys) → IsJoined join (e ∷ xs) t → IsJoined join (y ∷ ys) u → IsJoined join (e ∷ es) (join t u)

-- whether a formula has a constant
unfoldable pub has_constant : Formula → Bool
has_constant (constant bit) = true
has_constant (pin place) = false
has_constant (complement e) = has_constant e
has_constant (product d e) = has_constant d || has_constant e
has_constant (sum d e) = has_constant d || has_constant e

-- the number of literals of a formula
unfoldable pub literal_count : Formula → ℕ
literal_count (constant bit) = 0
literal_count (pin place) = 1
literal_count (complement e) = literal_count e
literal_count (product d e) = literal_count d + literal_count e
literal_count (sum d e) = literal_count d + literal_count e

-- whether a gate is used in covers: it has pins and no constant, and at most six literals. (A
-- formula without constants has a pin.)
abbrev pub is_used : Formula → Bool
is_used e = not (has_constant e) && nat_le (literal_count e) MAX_LITERALS
