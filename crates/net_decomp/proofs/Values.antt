-- A decomposition keeps the function of the rows: at each point it is that of the new rows at the
-- point and at the values of the parts there.
use Rattle.std.proofs.Common.{◌≡◌, ℕ, ◌+◌, ◌<◌, ◌≤◌, zero, suc, Bool, true, false, ◌&&◌, ◌||◌, if◌then◌else◌, ltb, Option, Some, None, List, [], ◌∷◌, ◌++◌, map, filter, take, drop, length, replicate, get_or, set, refl, sym, ap, ap₂, ◌∙◌, subst, arith}
use Rattle.std.specs.List.{AllByRecursion, list_any}
use Rattle.std.proofs.lemmas.Bool.{ltb-false}
use Rattle.std.proofs.lemmas.List.{length-append, length-map, length-replicate, length-set, take-append-drop}
use Rattle.std.proofs.Math.Bool.{and_comm, or-false, or_comm}
use Rattle.sis_base.specs.Rows.{agrees, matches, some_matches, HasWidth}
use Rattle.cube_cover.specs.Literals.{has_literal, some_dashes}
use Rattle.cube_cover.proofs.Points.{value-append, HasWidth-push}
use Rattle.cube_cover.proofs.Splits.{matches_some_dashes}
use Rattle.alg_factor.specs.Forms.{with_literal, no_literal}
use Rattle.alg_factor.proofs.Choosing.{chosen-below}
use Rattle.alg_factor.proofs.Laws.{literal_is, HasWidth-with, HasWidth-no}
use Rattle.circuit_model.specs.declared.circuit.Table.{Table}
use Rattle.net_decomp.specs.Partings.{Parting, rows_of}
use Rattle.net_decomp.specs.Rules.{padded, signal_row, literal_parting, is_long, with_signals, rows_parting, first_literals, later_literals, product_parting, sum_parting, gate_parting, IsDecomposable}
use Rattle.net_decomp.specs.declared.rule.Rule.{Rule}
use Rattle.net_decomp.specs.declared.rule.Rule.TheVariants.{Shared, Gates}

-- the values of parts at a point
abbrev pub part_bits : List (List (List (Option Bool))) → List Bool → List Bool
part_bits parts point = map (λ part. some_matches part point) parts

-- a decomposition has the expected widths, and keeps the function of rows
pub record KeepsRows (width : ℕ) (rows : List (List (Option Bool))) (parting : Parting) : Type 0 where
  pub parts : AllByRecursion (HasWidth width) parting.parts
  pub wide : HasWidth (width + length parting.parts) parting.rows
  pub value : (point : List Bool) → length point ≡ width → some_matches parting.rows (point ++ part_bits parting.parts point) ≡ some_matches rows point

-- bits
pub and_or : (x y z : Bool) → (x && (y || z)) ≡ ((x && y) || (x && z))
and_or true y z = refl
and_or false y z = refl

pub or_joined : (x y z : Bool) → (x || (y || z)) ≡ ((x || y) || z)
or_joined true y z = refl
or_joined false y z = refl

pub or_between : (x y z : Bool) → (x || (y || z)) ≡ (y || (x || z))
or_between true true z = refl
or_between true false z = refl
or_between false y z = refl

-- a row that is longer, at a point that is longer
pub matches_append : (row other : List (Option Bool)) (point bits : List Bool) → length point ≡ length row → matches (row ++ other) (point ++ bits) ≡ (matches row point && matches other bits)
unfolding matches
matches_append [] other [] bits e = refl
matches_append [] other (bit ∷ point) bits e = absurd (omega arith)
matches_append (place ∷ row) other [] bits e = absurd (omega arith)
matches_append (place ∷ row) other (bit ∷ point) bits e = cases (agrees place bit) (matches_append row other point bits (omega arith))
  where
    cases : (t : Bool) → matches (row ++ other) (point ++ bits) ≡ (matches row point && matches other bits) → (t && matches (row ++ other) (point ++ bits)) ≡ ((t && matches row point) && matches other bits)
    cases true rest = rest
    cases false rest = refl

pub matches_dashes : (count : ℕ) (point : List Bool) → matches (replicate count None) point ≡ true
unfolding matches
matches_dashes zero point = refl
matches_dashes (suc count) [] = refl
matches_dashes (suc count) (bit ∷ point) = matches_dashes count point

pub padded_matches : (added : ℕ) (row : List (Option Bool)) (point bits : List Bool) → length point ≡ length row → matches (padded added row) (point ++ bits) ≡ matches row point
padded_matches added row point bits e =
    matches_append row (replicate added None) point bits e
    ∙ (ap (λ (b : Bool). matches row point && b) (matches_dashes added bits) ∙ and_comm (matches row point) true)

pub padded_value : (added : ℕ) (rows : List (List (Option Bool))) (point bits : List Bool) → HasWidth (length point) rows → some_matches (map (padded added) rows) (point ++ bits) ≡ some_matches rows point
unfolding some_matches HasWidth
padded_value added [] point bits wide = refl
padded_value added (row ∷ rows) point bits wide =
    ap₂ (λ (x y : Bool). x || y) (padded_matches added row point bits (sym wide.0)) (padded_value added rows point bits wide.1)

pub padded_long : (added : ℕ) (row : List (Option Bool)) → length (padded added row) ≡ length row + added
padded_long added row = length-append row (replicate added None) ∙ ap (λ (n : ℕ). length row + n) (length-replicate added None)

pub HasWidth-padded : (width added : ℕ) (rows : List (List (Option Bool))) → HasWidth width rows → HasWidth (width + added) (map (padded added) rows)
unfolding HasWidth
HasWidth-padded width added [] wide = tt
HasWidth-padded width added (row ∷ rows) wide = (padded_long added row ∙ ap (λ (n : ℕ). n + added) wide.0, HasWidth-padded width added rows wide.1)

-- the row of a signal
pub number_matches : (added number : ℕ) (bits : List Bool) → length bits ≡ added → number < added → matches (set (replicate added None) number (Some true)) bits ≡ get_or bits number false
unfolding matches
number_matches zero number bits e below = absurd (omega arith)
number_matches (suc added) number [] e below = absurd (omega arith)
number_matches (suc added) zero (bit ∷ bits) e below = ap (λ (b : Bool). bit && b) (matches_dashes added bits) ∙ and_comm bit true
number_matches (suc added) (suc number) (bit ∷ bits) e below = number_matches added number bits (omega arith) (omega arith)

pub signal_matches : (width added number : ℕ) (point bits : List Bool) → length point ≡ width → length bits ≡ added → number < added
    → matches (signal_row width added number) (point ++ bits) ≡ get_or bits number false
signal_matches width added number point bits e k below =
    matches_append (replicate width None) (set (replicate added None) number (Some true)) point bits (e ∙ sym (length-replicate width None))
    ∙ ap₂ (λ (x y : Bool). x && y) (matches_dashes width point) (number_matches added number bits k below)

pub signal_long : (width added number : ℕ) → length (signal_row width added number) ≡ width + added
signal_long width added number =
    length-append (replicate width None) (set (replicate added None) number (Some true))
    ∙ ap₂ (λ (n m : ℕ). n + m) (length-replicate width None) (length-set (replicate added None) number (Some true) ∙ length-replicate added None)

-- a literal taken out
pub place_matches : (row : List (Option Bool)) (place : ℕ) (bit : Bool) (point : List Bool) → place < length row → length point ≡ length row → get_or row place None ≡ Some bit
    → matches row point ≡ (agrees (Some bit) (get_or point place false) && matches (set row place None) point)
unfolding matches
place_matches [] place bit point below e at = absurd (omega arith)
place_matches (x ∷ row) place bit [] below e at = absurd (omega arith)
place_matches (x ∷ row) zero bit (b ∷ point) below e at = ap (λ (y : Option Bool). agrees y b && matches row point) at
place_matches (x ∷ row) (suc place) bit (b ∷ point) below e at =
    cases (agrees x b) (agrees (Some bit) (get_or point place false)) (place_matches row place bit point (omega arith) (omega arith) at)
  where
    cases : (t u : Bool) → matches row point ≡ (u && matches (set row place None) point) → (t && matches row point) ≡ (u && (t && matches (set row place None) point))
    cases true u rest = rest
    cases false true rest = refl
    cases false false rest = refl

pub parted_value : (place : ℕ) (bit : Bool) (rows : List (List (Option Bool))) (point : List Bool) → place < length point → HasWidth (length point) rows
    → some_matches rows point ≡ ((agrees (Some bit) (get_or point place false) && some_matches (with_literal place bit rows) point) || some_matches (no_literal place bit rows) point)
unfolding some_matches HasWidth with_literal no_literal
parted_value place bit [] point below wide = cases (agrees (Some bit) (get_or point place false))
  where
    cases : (t : Bool) → false ≡ ((t && false) || false)
    cases true = refl
    cases false = refl
parted_value place bit (row ∷ rows) point below wide = cases (has_literal (get_or row place None) bit) refl (parted_value place bit rows point below wide.1)
  where
    literal : Bool
    literal = agrees (Some bit) (get_or point place false)

    having : List (List (Option Bool))
    having = with_literal place bit rows

    others : List (List (Option Bool))
    others = no_literal place bit rows

    joined : (l m w o : Bool) → ((l && m) || ((l && w) || o)) ≡ ((l && (m || w)) || o)
    joined true m w o = or_joined m w o
    joined false m w o = refl

    cases : (t : Bool) → has_literal (get_or row place None) bit ≡ t → some_matches rows point ≡ ((literal && some_matches having point) || some_matches others point)
        → (matches row point || some_matches rows point)
        ≡ ((literal && some_matches (if t then set row place None ∷ having else having) point) || some_matches (if t then others else row ∷ others) point)
    cases true h rest =
        ap₂ (λ (x y : Bool). x || y) (place_matches row place bit point (omega (arith, wide.0)) (sym wide.0) (literal_is bit (get_or row place None) h)) rest
        ∙ joined literal (matches (set row place None) point) (some_matches having point) (some_matches others point)
    cases false h rest =
        ap (λ (y : Bool). matches row point || y) rest ∙ or_between (matches row point) (literal && some_matches having point) (some_matches others point)

pub literal_matches : (width place : ℕ) (bit last : Bool) (point : List Bool) → place < width → length point ≡ width
    → matches (set (signal_row width 1 0) place (Some bit)) (point ++ last ∷ []) ≡ (agrees (Some bit) (get_or point place false) && last)
unfolding matches
literal_matches zero place bit last point below e = absurd (omega arith)
literal_matches (suc width) place bit last [] below e = absurd (omega arith)
literal_matches (suc width) zero bit last (b ∷ point) below e =
    ap (λ (x : Bool). agrees (Some bit) b && x) (signal_matches width 1 0 point (last ∷ []) (omega arith) refl (omega arith))
literal_matches (suc width) (suc place) bit last (b ∷ point) below e = literal_matches width place bit last point (omega arith) (omega arith)

pub literal_keeps : (width place : ℕ) (bit : Bool) (rows : List (List (Option Bool))) → place < width → HasWidth width rows → KeepsRows width rows (literal_parting width place bit rows)
unfolding literal_parting some_matches HasWidth
literal_keeps width place bit rows below wide = record {
  parts = (HasWidth-with width place bit rows wide, tt);
  wide = (
    length-set (signal_row width 1 0) place (Some bit) ∙ signal_long width 1 0,
    HasWidth-padded width 1 (no_literal place bit rows) (HasWidth-no width place bit rows wide),
  );
  value = λ point e.
      ap₂ (λ (x y : Bool). x || y) (literal_matches width place bit (some_matches (with_literal place bit rows) point) point below e)
      (padded_value 1 (no_literal place bit rows) point (some_matches (with_literal place bit rows) point ∷ []) (subst (λ (n : ℕ). HasWidth n (no_literal place bit rows)) (sym e) (HasWidth-no width place bit rows wide)))
      ∙ sym (parted_value place bit rows point (subst (λ (n : ℕ). place < n) (sym e) below) (subst (λ (n : ℕ). HasWidth n rows) (sym e) wide));
}

-- long rows that are replaced by signals
pub HasWidth-signals : (width added number : ℕ) (rows : List (List (Option Bool))) → HasWidth width rows → HasWidth (width + added) (with_signals width added number rows)
unfolding HasWidth with_signals
HasWidth-signals width added number [] wide = tt
HasWidth-signals width added number (row ∷ rows) wide =
    cases (is_long row) (HasWidth-signals width added (suc number) rows wide.1) (HasWidth-signals width added number rows wide.1)
  where
    cases : (t : Bool) → HasWidth (width + added) (with_signals width added (suc number) rows) → HasWidth (width + added) (with_signals width added number rows)
        → HasWidth (width + added) (if t then signal_row width added number ∷ with_signals width added (suc number) rows else padded added row ∷ with_signals width added number rows)
    cases true next same = (signal_long width added number, next)
    cases false next same = (padded_long added row ∙ ap (λ (n : ℕ). n + added) wide.0, same)

-- the bit after some bits
pub get_behind : (front back : List Bool) (bit : Bool) → get_or (front ++ bit ∷ back) (length front) false ≡ bit
get_behind [] back bit = refl
get_behind (first ∷ front) back bit = get_behind front back bit

pub append_joined : (front back : List Bool) (bit : Bool) → front ++ bit ∷ back ≡ (front ++ bit ∷ []) ++ back
append_joined [] back bit = refl
append_joined (first ∷ front) back bit = ap (λ (bits : List Bool). first ∷ bits) (append_joined front back bit)

pub signals_value : (width added number : ℕ) (rows : List (List (Option Bool))) (point bits front : List Bool) → length point ≡ width → HasWidth width rows
    → bits ≡ front ++ map (λ row. matches row point) (filter is_long rows) → number ≡ length front → added ≡ length bits
    → some_matches (with_signals width added number rows) (point ++ bits) ≡ some_matches rows point
unfolding some_matches HasWidth with_signals
signals_value width added number [] point bits front e wide is at all = refl
signals_value width added number (row ∷ rows) point bits front e wide is at all =
    cases (is_long row) is
    (λ h. signals_value width added (suc number) rows point bits (front ++ matches row point ∷ []) e wide.1 (h ∙ append_joined front (map (λ other. matches other point) (filter is_long rows)) (matches row point)) more all)
    (λ h. signals_value width added number rows point bits front e wide.1 h at all)
  where
    more : suc number ≡ length (front ++ matches row point ∷ [])
    more = let one : length (front ++ matches row point ∷ []) ≡ length front + 1 = length-append front (matches row point ∷ []) in omega (arith, one, at)

    behind : List Bool
    behind = map (λ other. matches other point) (filter is_long rows)

    below : bits ≡ front ++ matches row point ∷ behind → number < added
    below h =
        let long : length (front ++ matches row point ∷ behind) ≡ length front + suc (length behind) = length-append front (matches row point ∷ behind) in
        let same : length bits ≡ length (front ++ matches row point ∷ behind) = ap length h in
        omega (arith, long, same, at, all)

    own : bits ≡ front ++ matches row point ∷ behind → get_or bits number false ≡ matches row point
    own h = ap₂ (λ (list : List Bool) (n : ℕ). get_or list n false) h at ∙ get_behind front behind (matches row point)

    cases : (t : Bool) → bits ≡ front ++ map (λ other. matches other point) (if t then row ∷ filter is_long rows else filter is_long rows)
        → (bits ≡ front ++ matches row point ∷ behind → some_matches (with_signals width added (suc number) rows) (point ++ bits) ≡ some_matches rows point)
        → (bits ≡ front ++ behind → some_matches (with_signals width added number rows) (point ++ bits) ≡ some_matches rows point)
        → some_matches (if t then signal_row width added number ∷ with_signals width added (suc number) rows else padded added row ∷ with_signals width added number rows) (point ++ bits)
        ≡ (matches row point || some_matches rows point)
    cases true h next same = ap₂ (λ (x y : Bool). x || y) (signal_matches width added number point bits e (sym all) (below h) ∙ own h) (next h)
    cases false h next same = ap₂ (λ (x y : Bool). x || y) (padded_matches added row point bits (e ∙ sym wide.0)) (same h)

pub single_bits : (rows : List (List (Option Bool))) (point : List Bool) → part_bits (map (λ row. row ∷ []) rows) point ≡ map (λ row. matches row point) rows
unfolding some_matches
single_bits [] point = refl
single_bits (row ∷ rows) point = ap₂ (λ (bit : Bool) (bits : List Bool). bit ∷ bits) (or-false (matches row point)) (single_bits rows point)

pub HasWidth-singles : (width : ℕ) (rows : List (List (Option Bool))) → HasWidth width rows → AllByRecursion (HasWidth width) (map (λ row. row ∷ []) rows)
unfolding HasWidth
HasWidth-singles width [] wide = tt
HasWidth-singles width (row ∷ rows) wide = ((wide.0, tt), HasWidth-singles width rows wide.1)

pub HasWidth-filter : (width : ℕ) (test : List (Option Bool) → Bool) (rows : List (List (Option Bool))) → HasWidth width rows → HasWidth width (filter test rows)
unfolding HasWidth
HasWidth-filter width test [] wide = tt
HasWidth-filter width test (row ∷ rows) wide = cases (test row) (HasWidth-filter width test rows wide.1)
  where
    cases : (t : Bool) → HasWidth width (filter test rows) → HasWidth width (if t then row ∷ filter test rows else filter test rows)
    cases true rest = (wide.0, rest)
    cases false rest = rest

pub rows_keeps : (width : ℕ) (rows : List (List (Option Bool))) → HasWidth width rows → KeepsRows width rows (rows_parting width rows)
unfolding rows_parting
rows_keeps width rows wide = record {
  parts = HasWidth-singles width long (HasWidth-filter width is_long rows wide);
  wide = subst (λ (n : ℕ). HasWidth (width + n) (with_signals width (length long) 0 rows)) (sym many) (HasWidth-signals width (length long) 0 rows wide);
  value = λ point e.
      ap (λ (bits : List Bool). some_matches (with_signals width (length long) 0 rows) (point ++ bits)) (single_bits long point)
      ∙ signals_value width (length long) 0 rows point (map (λ row. matches row point) long) [] e wide refl refl (sym (length-map long (λ row. matches row point)));
}
  where
    long : List (List (Option Bool))
    long = filter is_long rows

    many : length (map (λ (row : List (Option Bool)). row ∷ []) long) ≡ length long
    many = length-map long (λ (row : List (Option Bool)). row ∷ [])

-- first and later literals
pub first_long : (count : ℕ) (row : List (Option Bool)) → length (first_literals count row) ≡ length row
unfolding first_literals
first_long count [] = refl
first_long count (None ∷ row) = ap suc (first_long count row)
first_long zero (Some bit ∷ row) = ap suc (first_long zero row)
first_long (suc count) (Some bit ∷ row) = ap suc (first_long count row)

pub later_long : (count : ℕ) (row : List (Option Bool)) → length (later_literals count row) ≡ length row
unfolding later_literals
later_long count [] = refl
later_long count (None ∷ row) = ap suc (later_long count row)
later_long zero (Some bit ∷ row) = ap suc (later_long zero row)
later_long (suc count) (Some bit ∷ row) = ap suc (later_long count row)

pub both_matches : (count : ℕ) (row : List (Option Bool)) (point : List Bool) → (matches (later_literals count row) point && matches (first_literals count row) point) ≡ matches row point
unfolding matches first_literals later_literals
both_matches count [] point = refl
both_matches count (None ∷ row) [] = refl
both_matches zero (Some bit ∷ row) [] = refl
both_matches (suc count) (Some bit ∷ row) [] = refl
both_matches count (None ∷ row) (b ∷ point) = both_matches count row point
both_matches zero (Some bit ∷ row) (b ∷ point) = cases (agrees (Some bit) b) (both_matches zero row point)
  where
    cases : (t : Bool) → (matches (later_literals zero row) point && matches (first_literals zero row) point) ≡ matches row point
        → ((t && matches (later_literals zero row) point) && matches (first_literals zero row) point) ≡ (t && matches row point)
    cases true rest = rest
    cases false rest = refl
both_matches (suc count) (Some bit ∷ row) (b ∷ point) = cases (agrees (Some bit) b) (matches (later_literals count row) point) (both_matches count row point)
  where
    cases : (t l : Bool) → (l && matches (first_literals count row) point) ≡ matches row point → (l && (t && matches (first_literals count row) point)) ≡ (t && matches row point)
    cases true l rest = rest
    cases false true rest = refl
    cases false false rest = refl

pub last_matches : (bit : Bool) → matches (Some true ∷ []) ((bit || false) ∷ []) ≡ bit
unfolding matches
last_matches true = refl
last_matches false = refl

pub product_keeps : (width most : ℕ) (rows : List (List (Option Bool))) → length rows ≤ 1 → HasWidth width rows → KeepsRows width rows (product_parting most rows)
unfolding product_parting some_matches HasWidth
product_keeps width most [] few wide = record { parts = (tt, tt); wide = tt; value = λ point e. refl }
product_keeps width most (row ∷ []) few wide = record {
  parts = ((first_long most row ∙ wide.0, tt), tt);
  wide = (length-append (later_literals most row) (Some true ∷ []) ∙ ap (λ (n : ℕ). n + 1) (later_long most row ∙ wide.0), tt);
  value = λ point e.
      ap (λ (b : Bool). b || false)
      (matches_append (later_literals most row) (Some true ∷ []) point ((matches (first_literals most row) point || false) ∷ []) (e ∙ (sym wide.0 ∙ sym (later_long most row)))
      ∙ (ap (λ (b : Bool). matches (later_literals most row) point && b) (last_matches (matches (first_literals most row) point)) ∙ both_matches most row point));
}
product_keeps width most (row ∷ other ∷ rows) few wide = absurd (omega arith)

-- first and later rows
pub HasWidth-take : (width most : ℕ) (rows : List (List (Option Bool))) → HasWidth width rows → HasWidth width (take most rows)
unfolding HasWidth
HasWidth-take width zero rows wide = tt
HasWidth-take width (suc most) [] wide = tt
HasWidth-take width (suc most) (row ∷ rows) wide = (wide.0, HasWidth-take width most rows wide.1)

pub HasWidth-drop : (width most : ℕ) (rows : List (List (Option Bool))) → HasWidth width rows → HasWidth width (drop most rows)
unfolding HasWidth
HasWidth-drop width zero rows wide = wide
HasWidth-drop width (suc most) [] wide = tt
HasWidth-drop width (suc most) (row ∷ rows) wide = HasWidth-drop width most rows wide.1

pub signal_value : (width : ℕ) (point : List Bool) (bit : Bool) → length point ≡ width → some_matches (signal_row width 1 0 ∷ []) (point ++ bit ∷ []) ≡ bit
unfolding some_matches
signal_value width point bit e = or-false (matches (signal_row width 1 0) (point ++ bit ∷ [])) ∙ signal_matches width 1 0 point (bit ∷ []) e refl (omega arith)

pub sum_keeps : (width most : ℕ) (rows : List (List (Option Bool))) → HasWidth width rows → KeepsRows width rows (sum_parting width most rows)
unfolding sum_parting
sum_keeps width most rows wide = record {
  parts = (HasWidth-take width most rows wide, tt);
  wide = HasWidth-push (width + 1) (map (padded 1) (drop most rows)) (signal_row width 1 0) (HasWidth-padded width 1 (drop most rows) (HasWidth-drop width most rows wide)) (signal_long width 1 0);
  value = kept;
}
  where
    kept : (point : List Bool) → length point ≡ width
        → some_matches (map (padded 1) (drop most rows) ++ signal_row width 1 0 ∷ []) (point ++ some_matches (take most rows) point ∷ []) ≡ some_matches rows point
    kept point e =
        value-append (map (padded 1) (drop most rows)) (signal_row width 1 0 ∷ []) (point ++ some_matches (take most rows) point ∷ [])
        ∙ (ap₂ (λ (x y : Bool). x || y)
        (padded_value 1 (drop most rows) point (some_matches (take most rows) point ∷ []) (subst (λ (n : ℕ). HasWidth n (drop most rows)) (sym e) (HasWidth-drop width most rows wide)))
        (signal_value width point (some_matches (take most rows) point) e)
        ∙ (or_comm (some_matches (drop most rows) point) (some_matches (take most rows) point)
        ∙ (sym (value-append (take most rows) (drop most rows) point) ∙ ap (λ (list : List (List (Option Bool))). some_matches list point) (take-append-drop most rows))))

-- a row without literals alone
pub dashes_keep : (width : ℕ) (rows : List (List (Option Bool))) → some_dashes rows ≡ true → KeepsRows width rows (record { parts = []; rows = replicate width None ∷ [] })
unfolding some_matches HasWidth
dashes_keep width rows some = record {
  parts = tt;
  wide = (let same : length {A = Option Bool} (replicate width None) ≡ width = length-replicate width None in omega (arith, same), tt);
  value = λ point e.
      ap (λ (b : Bool). b || false) (matches_dashes width (point ++ [])) ∙ sym (matches_some_dashes rows point some);
}

pub gate_keeps : (products sums width : ℕ) (rows : List (List (Option Bool))) → HasWidth width rows → KeepsRows width rows (gate_parting products sums width rows)
unfolding gate_parting
gate_keeps products sums width rows wide = dashes (some_dashes rows) refl
  where
    few : (t : Bool) → ltb 1 (length rows) ≡ t → KeepsRows width rows (if t then sum_parting width sums rows else product_parting products rows)
    few true h = sum_keeps width sums rows wide
    few false h = product_keeps width products rows (ltb-false 1 (length rows) h) wide

    long : (t : Bool) → KeepsRows width rows (if t then rows_parting width rows else (if ltb 1 (length rows) then sum_parting width sums rows else product_parting products rows))
    long true = rows_keeps width rows wide
    long false = few (ltb 1 (length rows)) refl

    dashes : (t : Bool) → some_dashes rows ≡ t
        → KeepsRows width rows (if t then record { parts = []; rows = replicate width None ∷ [] }
        else (if ltb 1 (length rows) && list_any is_long rows then rows_parting width rows
        else (if ltb 1 (length rows) then sum_parting width sums rows else product_parting products rows)))
    dashes true h = dashes_keep width rows h
    dashes false h = long (ltb 1 (length rows) && list_any is_long rows)

-- the decomposition of a table keeps the function of its rows
pub due_keeps : (rule : Rule) (table : Table) (parting : Parting) → HasWidth (length table.inputs) (rows_of table) → IsDecomposable rule table parting → KeepsRows (length table.inputs) (rows_of table) parting
due_keeps Shared table parting wide (place, bit, chosen, is) =
    subst (KeepsRows (length table.inputs) (rows_of table)) (sym is) (literal_keeps (length table.inputs) place bit (rows_of table) (chosen-below (length table.inputs) place bit (rows_of table) wide chosen) wide)
due_keeps (Gates products sums) table parting wide (open_gate, is) =
    subst (KeepsRows (length table.inputs) (rows_of table)) (sym is) (gate_keeps products sums (length table.inputs) (rows_of table) wide)
