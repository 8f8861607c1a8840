-- Tests by literals, which the bodies compute; contracts state their meaning by points. Source: De
-- Micheli, "Synthesis and Optimization of Digital Circuits", chapter 7 (operations on cubes, column
-- by column). Each column of a row has a literal, which is some bit (true for the positive one), or
-- a dash, which is none.
use Rattle.std.specs.Prelude.{is_none, if◌then◌else◌, cond, ℕ, ◌+◌, Bool, true, false, not, ◌&&◌, ◌||◌, Option, Some, None, List, [], ◌∷◌, slice_index_or}
use Rattle.std.specs.Cmp.Lexicographic.{slice_cmp}
use Rattle.std.specs.Option.{option_cmp}
use Rattle.std.specs.Ordering.{bool_cmp}
use Rattle.std.specs.declared.cmp.Ordering.{Ordering}
use Rattle.sis_base.specs.Rows.{agrees}

-- whether a literal is that of a bit; false for a dash
abbrev pub has_literal : Option Bool → Bool → Bool
has_literal None bit = false
has_literal (Some true) bit = bit
has_literal (Some false) bit = not bit

-- two literals do not contradict: one is a dash, or they are the same
abbrev pub literals_intersect : Option Bool → Option Bool → Bool
literals_intersect None other = true
literals_intersect (Some bit) None = true
literals_intersect (Some bit) (Some other) = agrees (Some bit) other

-- no two literals contradict
unfoldable pub rows_intersect : List (Option Bool) → List (Option Bool) → Bool
rows_intersect [] others = true
rows_intersect (literal ∷ literals) [] = true
rows_intersect (literal ∷ literals) (other ∷ others) = literals_intersect literal other && rows_intersect literals others

-- a dash, or the same literal as the other one
abbrev pub literal_contains : Option Bool → Option Bool → Bool
literal_contains None other = true
literal_contains (Some bit) None = false
literal_contains (Some bit) (Some other) = agrees (Some bit) other

-- in each column a dash, or the other's literal
unfoldable pub row_contains : List (Option Bool) → List (Option Bool) → Bool
row_contains [] others = true
row_contains (literal ∷ literals) [] = true
row_contains (literal ∷ literals) (other ∷ others) = literal_contains literal other && row_contains literals others

-- the first literal, or the other if the first is a dash
abbrev pub literal_product : Option Bool → Option Bool → Option Bool
literal_product None other = other
literal_product (Some bit) other = Some bit

-- the literal, or a dash where the mask has a literal
abbrev pub literal_without : Option Bool → Option Bool → Option Bool
literal_without literal None = literal
literal_without literal (Some bit) = None

-- the literal that both are, or a dash
abbrev pub literal_shared : Option Bool → Option Bool → Option Bool
literal_shared None other = None
literal_shared (Some bit) other = if has_literal other bit then Some bit else None

-- some row contains the given one, literal by literal
unfoldable pub some_contains : List (Option Bool) → List (List (Option Bool)) → Bool
some_contains given [] = false
some_contains given (row ∷ rows) = row_contains row given || some_contains given rows

-- the order of rows, column by column, a dash before a negative before a positive literal
abbrev pub row_cmp : List (Option Bool) → List (Option Bool) → Ordering
row_cmp = slice_cmp (option_cmp bool_cmp)

-- 1 for a literal, 0 for a dash
abbrev pub literal_number : Option Bool → ℕ
literal_number None = 0
literal_number (Some bit) = 1

-- the number of a row's literals
unfoldable pub row_literals : List (Option Bool) → ℕ
row_literals [] = 0
row_literals (literal ∷ literals) = literal_number literal + row_literals literals

-- the number of literals of all rows
unfoldable pub cover_literals : List (List (Option Bool)) → ℕ
cover_literals [] = 0
cover_literals (row ∷ rows) = row_literals row + cover_literals rows

-- a literal, and no dash
abbrev pub not_dash : Option Bool → Bool
not_dash None = false
not_dash (Some bit) = true

-- a row has a literal in each column
unfoldable pub no_dash : List (Option Bool) → Bool
no_dash [] = true
no_dash (literal ∷ literals) = not_dash literal && no_dash literals

-- some row has a literal in the column
unfoldable pub some_literal : ℕ → List (List (Option Bool)) → Bool
some_literal place [] = false
some_literal place (row ∷ rows) = not_dash (slice_index_or row place None) || some_literal place rows

-- a row has no literal
unfoldable pub all_dashes : List (Option Bool) → Bool
all_dashes [] = true
all_dashes (literal ∷ literals) = not (not_dash literal) && all_dashes literals

-- some row has no literal
unfoldable pub some_dashes : List (List (Option Bool)) → Bool
some_dashes [] = false
some_dashes (row ∷ rows) = all_dashes row || some_dashes rows

-- 1 where a literal is that of a bit, else 0
abbrev pub literal_count : Bool → Option Bool → ℕ
literal_count bit None = 0
literal_count true (Some literal) = cond literal 1 0
literal_count false (Some literal) = cond literal 0 1

-- how many rows have the literal of a bit in a column
unfoldable pub literal_occurrences : ℕ → Bool → List (List (Option Bool)) → ℕ
literal_occurrences place bit [] = 0
literal_occurrences place bit (row ∷ rows) = literal_count bit (slice_index_or row place None) + literal_occurrences place bit rows

-- the rows with a dash in a column
unfoldable pub dashed_rows : ℕ → List (List (Option Bool)) → List (List (Option Bool))
dashed_rows place [] = []
dashed_rows place (row ∷ rows) = if is_none (slice_index_or row place None) then row ∷ dashed_rows place rows else dashed_rows place rows
