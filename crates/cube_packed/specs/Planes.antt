-- A cube in two bits a column: a positive and a negative plane of 64-bit words. Source: Brayton,
-- Hachtel, McMullen, Sangiovanni-Vincentelli, "Logic Minimization Algorithms for VLSI Synthesis"
-- (cubes in positional notation). A column has a one in the positive plane for a positive literal,
-- in the negative plane for a negative literal, and in neither for a dash. Column 0 is the lowest
-- bit of the first word.
use Rattle.std.specs.Prelude.{◌≡◌, ℕ, ◌+◌, ◌/◌, ◌%◌, ◌≤◌, ◌==◌, min, zero, suc, Bool, true, false, ◌&&◌, cond, Option, Some, None, List, [], ◌∷◌, length, map, take, drop, bit_and, slice_index}
use Rattle.std.specs.Int.{bit_at, bit_not, w64}
use Rattle.std.specs.List.{range_with_len}

-- the words of a plane
abbrev pub plane_words : ℕ → ℕ
plane_words width = (width + 63) / 64

-- the bit of a column; zero past the last word
abbrev pub plane_bit : List ℕ → ℕ → ℕ
plane_bit plane column = bit_at (slice_index plane (column / 64)) (column % 64)

-- the literal of a column, by its bits in the positive and the negative plane
abbrev pub literal_of : ℕ → ℕ → Option Bool
literal_of zero zero = None
literal_of zero (suc n) = Some false
literal_of (suc p) n = Some true

-- the literals of a cube, column by column
unfoldable pub plane_literals : ℕ → List ℕ → List ℕ → List (Option Bool)
plane_literals width positive negative =
    map (λ column. literal_of (plane_bit positive column) (plane_bit negative column)) (range_with_len 0 width)

-- the literals of a cube whose planes are the halves of one list of words
abbrev pub packed_literals : ℕ → List ℕ → List (Option Bool)
packed_literals width words = plane_literals width (take (plane_words width) words) (drop (plane_words width) words)

-- no column has a one in both planes
abbrev pub AreApart : List ℕ → List ℕ → Type 0
AreApart plane other = (column : ℕ) → min (plane_bit plane column) (plane_bit other column) ≡ 0

-- each column with a one in the first plane has a one in the other
abbrev pub IsWithin : List ℕ → List ℕ → Type 0
IsWithin plane other = (column : ℕ) → plane_bit plane column ≤ plane_bit other column

-- a plane has no one past the width
abbrev pub IsClear : ℕ → List ℕ → Type 0
IsClear width plane = (column : ℕ) → width ≤ column → plane_bit plane column ≡ 0

-- two planes hold a cube: no column has both literals, and columns past the width have none
pub record AreCube (width : ℕ) (positive negative : List ℕ) : Type 0 where
  pub positive_size : length positive ≡ plane_words width
  pub negative_size : length negative ≡ plane_words width
  pub apart : AreApart positive negative
  pub positive_end : IsClear width positive
  pub negative_end : IsClear width negative

-- the halves of one list of words hold a cube
abbrev pub IsPacked : ℕ → List ℕ → Type 0
IsPacked width words = AreCube width (take (plane_words width) words) (drop (plane_words width) words)

-- a plane after one column was given a bit
pub record HasBitSet (column : ℕ) (bit : Bool) (old new : List ℕ) : Type 0 where
  pub size : length new ≡ length old
  pub there : plane_bit new column ≡ cond bit 1 0
  pub elsewhere : (other : ℕ) → ((other ≡ column) → ⊥) → plane_bit new other ≡ plane_bit old other

-- a literal of one sign
abbrev pub has_sign : Bool → Option Bool → Bool
has_sign sign None = false
has_sign true (Some bit) = bit
has_sign false (Some true) = false
has_sign false (Some false) = true

-- the ones of a word that another does not have
abbrev pub and_not : ℕ → ℕ → ℕ
and_not word mask = bit_and word (bit_not w64 mask)

-- no word has a one where the other's has one
unfoldable pub words_apart : List ℕ → List ℕ → Bool
words_apart [] others = true
words_apart (word ∷ words) [] = true
words_apart (word ∷ words) (other ∷ others) = (bit_and word other == 0) && words_apart words others

-- each word's ones are ones of the other's
unfoldable pub words_within : List ℕ → List ℕ → Bool
words_within [] others = true
words_within (word ∷ words) [] = true
words_within (word ∷ words) (other ∷ others) = (bit_and word other == word) && words_within words others
