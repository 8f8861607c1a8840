-- Rows of one literal each, and the literals found in them.
use Rattle.std.proofs.Common.{◌≡◌, ℕ, ◌<◌, zero, suc, Bool, Option, Some, None, List, [], ◌∷◌, length, map, replicate, set, get_or, sym, refl, ap, ◌∙◌, subst, arith}
use Rattle.std.specs.List.{AllByRecursion}
use Rattle.std.proofs.lemmas.List.{length-set, length-replicate, set_past}
use Rattle.std.proofs.lemmas.Option.{none-some, same_Some}
use Rattle.sis_base.specs.Rows.{HasWidth}
use Rattle.circuit_model.specs.declared.circuit.Table.{Table}
use Rattle.circuit_tables.specs.Tidy.{tidied}
use Rattle.cube_cover.specs.Literals.{row_literals}
use Rattle.net_core.specs.Tables.{named, characters_of}
use Rattle.net_core.specs.declared.table.CoverTable.{CoverTable}
use Rattle.net_core.proofs.Rows.{all_places_back}
use Rattle.net_decomp.specs.Sums.{single_row, sum_rows, sum_table, IsBelow, IsSum}
use Rattle.net_decomp.specs.declared.sums.Literal.{Literal}
use Rattle.net_decomp.specs.declared.sums.Sum.{Sum}

-- a row without literals has only dashes
none_is : (row : List (Option Bool)) → row_literals row ≡ 0 → row ≡ replicate (length row) None
unfolding row_literals
none_is [] none = refl
none_is (None ∷ row) none = ap (λ (rest : List (Option Bool)). None ∷ rest) (none_is row (omega (arith, none)))
none_is (Some bit ∷ row) none = absurd (omega (arith, none))

none_at : (width place : ℕ) (bit : Bool) → get_or (replicate width None) place None ≡ Some bit → ⊥
none_at zero place bit h = none-some bit h
none_at (suc width) zero bit h = none-some bit h
none_at (suc width) (suc place) bit h = none_at width place bit h

-- a row with one literal is determined by it
pub single_is : (row : List (Option Bool)) (place : ℕ) (bit : Bool) → row_literals row ≡ 1 → get_or row place None ≡ Some bit → row ≡ set (replicate (length row) None) place (Some bit)
unfolding row_literals
single_is [] place bit one at = refl
single_is (None ∷ row) zero bit one at = absurd (none-some bit at)
single_is (None ∷ row) (suc place) bit one at = ap (λ (rest : List (Option Bool)). None ∷ rest) (single_is row place bit (omega (arith, one)) at)
single_is (Some other ∷ row) zero bit one at =
    ap (λ (b : Bool). Some b ∷ row) (same_Some other bit at)
    ∙ ap (λ (rest : List (Option Bool)). Some bit ∷ rest) (none_is row (omega (arith, one)))
single_is (Some other ∷ row) (suc place) bit one at =
    absurd (none_at (length row) place bit (ap (λ (rest : List (Option Bool)). get_or rest place None) (sym (none_is row (omega (arith, one)))) ∙ at))

-- a column past the width sets no literal
pub single_past : (width place : ℕ) (literal : Option Bool) → (place < width → ⊥) → set (replicate width None) place literal ≡ replicate width None
single_past width place literal past = set_past (replicate width None) place literal (grind (arith, past, length-replicate {A = Option Bool} width None))

-- rows of single literals have the given width
pub singles_wide : (width : ℕ) (literals : List Literal) → HasWidth width (sum_rows width literals)
unfolding HasWidth
singles_wide width [] = tt
singles_wide width (literal ∷ literals) =
    (length-set (replicate width None) literal.place (Some literal.bit) ∙ length-replicate width None, singles_wide width literals)

pub literal_is : (row : List (Option Bool)) (width : ℕ) (literal : Literal) → length row ≡ width → row_literals row ≡ 1 → get_or row literal.place None ≡ Some literal.bit → row ≡ single_row width literal
literal_is row width literal wide one at =
    single_is row literal.place literal.bit one at
    ∙ ap (λ (n : ℕ). set (replicate n None) literal.place (Some literal.bit)) wide

-- rows of single literals, and their table, over a copy of the names
pub copied_wide : (names copied : List (List ℕ)) (width : ℕ) (literals : List Literal) (rows : List (List (Option Bool))) → copied ≡ names → width ≡ length names → rows ≡ sum_rows width literals → HasWidth (length copied) rows
copied_wide names copied width literals rows same wide are =
    subst (HasWidth (length copied)) (sym are)
    (subst (λ (n : ℕ). HasWidth n (sum_rows width literals)) (wide ∙ ap length (sym same)) (singles_wide width literals))

pub copied_table : (names copied : List (List ℕ)) (width : ℕ) (name : List ℕ) (phase : Bool) (literals : List Literal) (rows : List (List (Option Bool))) (made : Table) → copied ≡ names → width ≡ length names → rows ≡ sum_rows width literals
    → made ≡ tidied (record { inputs = copied; output = name; rows = map characters_of rows; phase = phase }) → made ≡ sum_table names name phase literals
copied_table names copied width name phase literals rows made same wide are is =
    is
    ∙ ap (λ (inputs : List (List ℕ)). tidied (record { inputs = inputs; output = name; rows = map characters_of rows; phase = phase })) same
    ∙ ap (λ (list : List (List (Option Bool))). tidied (record { inputs = names; output = name; rows = map characters_of list; phase = phase }))
    (are ∙ ap (λ (n : ℕ). sum_rows n literals) wide)

-- a table of the program whose rows have one literal each
pub sum_is : {R : Type 0} (table : CoverTable R) (name : List ℕ) (sum : Sum) (width : ℕ) (rows : List (List (Option Bool))) → width ≡ length table.inputs → sum.names ≡ table.inputs → sum.phase ≡ table.phase
    → rows ≡ table.cover.rows → AllByRecursion (IsBelow width) sum.literals.items × (rows ≡ sum_rows width sum.literals.items) → IsSum (named name table) sum
unfolding named
sum_is table name sum width rows wide names phase listed (below, are) = record {
  names = names;
  phase = phase;
  below = subst (λ (n : ℕ). AllByRecursion (IsBelow n) sum.literals.items) wide below;
  rows = all_places_back table.cover.rows ∙ sym listed ∙ are ∙ ap (λ (n : ℕ). sum_rows n sum.literals.items) wide;
}
