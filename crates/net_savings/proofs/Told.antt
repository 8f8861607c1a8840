-- What rows of tables tell of the savings of one cube, while tables are added one by one.
use Rattle.std.proofs.Common.{◌≡◌, ◌⊎◌, ℕ, MatchOption, ◌+◌, ◌-◌, ◌*◌, ◌<◌, ◌≤◌, ◌&&◌, ◌==◌, not, zero, suc, Bool, true, false, cond, Option, Some, None, List, [], ◌∷◌, ◌++◌, map, filter, length, bytes_eq, refl, sym, ap, ◌∙◌, subst, inl, inr, arith, take, drop, get_or, eq-eqb}
use Rattle.std.specs.List.{list_all, list_any, AllByRecursion}
use Rattle.std.proofs.Math.Nat.{add-mul, mul-suc}
use Rattle.std.proofs.lemmas.Bool.{and_parts, and_from, or_cases, or_left, or_right, false≢true, eqb-true}
use Rattle.std.proofs.lemmas.List.{length-append, length-drop, take_all, take_more, take-append-le, drop-append-le}
use Rattle.std.proofs.lemmas.List.Folds.{list_any-append}
use Rattle.std.proofs.lemmas.Option.{none-some, same_Some}
use lib.Seq.{drop-append_seam}
use Rattle.std.proofs.lemmas.List.Elements.{filter-append}
use Rattle.std.proofs.lemmas.List.Sums.{sum_by_push, sum_by-cons}
use Rattle.circuit_model.specs.Counts.{literals_of_table}
use Rattle.circuit_model.specs.Names.{has, all_different}
use Rattle.circuit_model.specs.Soundness.{IsShaped, given, IsSound}
use Rattle.circuit_model.specs.declared.circuit.Table.{Table}
use Rattle.circuit_laws.proofs.Names.{same_name, has_not}
use Rattle.circuit_laws.proofs.Sound.{all_append, all_parts}
use Rattle.cube_cover.specs.Literals.{literal_contains, row_contains}
use Rattle.alg_div.specs.Cubes.{Has}
use Rattle.alg_div.proofs.Lists.{Has-map, Has-append}
use Rattle.alg_div.proofs.Terms.{width-has}
use Rattle.net_candidates.specs.Candidates.{same_literal, cubes_of, literals_in}
use Rattle.net_candidates.specs.Pairs.{has_all}
use Rattle.net_candidates.specs.Spots.{many}
use Rattle.net_candidates.proofs.ByTwo.{has_in}
use Rattle.net_candidates.proofs.Divisors.{found_literal}
use Rattle.net_candidates.proofs.Keeping.{same_is}
use Rattle.net_candidates.proofs.Local.{cube_of}
use Rattle.net_candidates.proofs.SharedNames.{names_read}
use Rattle.net_candidates.proofs.Sums.{AreOnce}
use Rattle.net_candidates.proofs.Usable.{IsReader, tables_read, all_member}
use Rattle.net_core.specs.Fresh.{IsNewName}
use Rattle.net_core.specs.Tables.{places_of}
use Rattle.net_core.proofs.NewNames.{new_is_free}
use Rattle.net_core.proofs.Rows.{width_of_characters}
use Rattle.net_readers.specs.Fanouts.{is_in}
use Rattle.cover_names.specs.Literals.{Cube, NamedCover}
use Rattle.cover_names.specs.Cubes.{cube_over, literal_of, row_over, is_over}
use Rattle.cover_names.specs.declared.literal.Literal.{Literal}
use Rattle.cover_names.proofs.Back.{sorted_row_back}
use Rattle.cover_names.proofs.Names.{over_different, sorted_different}
use Rattle.cover_names.proofs.Orders.{literal_order}
use Rattle.cover_names.proofs.Sorting.{sorted_keeps}
use Rattle.cover_names.proofs.Worth.{literals_stand}
use Rattle.net_work.specs.Placed.{Placed, standing, circuit_of, table_at}
use Rattle.net_work.proofs.Indexed.{all_at}
use Rattle.alg_tables.specs.Dividing.{cover_table, divided}
use Rattle.alg_tables.proofs.Divided.{unread_stays}
use Rattle.alg_tables.proofs.Quotients.{all_test, all_from}
use Rattle.circuit_tables.specs.Tidy.{IsWide}
use Rattle.net_savings.specs.Meeting.{is_apart, is_contained, is_met}
use Rattle.net_savings.specs.Saving.{lost_by, lost_of, lost_at, IsNarrowIn, AreLosses, IsSaved}
use Rattle.net_savings.specs.Indexed.{AreTold, IsRead, IncludeReaders, Indexes, IsLostIn, IsSpan, rows_in, is_known, AreAll}
use Rattle.net_savings.specs.declared.rows.RowSpan.{RowSpan}
use Rattle.net_savings.proofs.ByRows.{both_ways, cube_lost}
use Rattle.net_savings.proofs.Contained.{apart_different, first_has, later_has, unmet_stays}
use Rattle.net_savings.proofs.Losing.{all_lost, all_narrow, all_readers, narrow_there}
use Rattle.net_savings.proofs.Narrowing.{few_narrow}
use Rattle.net_savings.proofs.Refreshed.{has_name_next}
use Rattle.sis_base.specs.declared.limits.TheConstants.{MAX_INPUTS}

-- ---- lists

any_some : {X : Type 0} (test : X → Bool) (xs : List X) → list_any test xs ≡ true → (x : X) × Has x xs × (test x ≡ true)
any_some test [] h = absurd (false≢true h)
any_some {X} test (first ∷ xs) h =
    elim (or_cases (test first) (list_any test xs) h) as (λ _. (x : X) × Has x (first ∷ xs) × (test x ≡ true)) [
      | inl e ↦ (first, inl refl, e)
      | inr n ↦ (let (x, m, e) = any_some test xs n in (x, inr m, e))
    ]

many_append : {X : Type 0} (test : X → Bool) (xs ys : List X) → many test (xs ++ ys) ≡ many test xs + many test ys
many_append test xs ys = ap length (filter-append test xs ys) ∙ length-append (filter test xs) (filter test ys)

none_many : {X : Type 0} (test : X → Bool) (xs : List X) → ((x : X) → Has x xs → test x ≡ true → ⊥) → many test xs ≡ 0
none_many test [] none = refl
none_many {X} test (x ∷ xs) none = cases (test x) refl (none_many test xs (λ y m. none y (inr m)))
  where
    cases : (b : Bool) → test x ≡ b → many test xs ≡ 0 → length (cond b (x ∷ filter test xs) (filter test xs)) ≡ 0
    cases true e rest = absurd (none x (inl refl) e)
    cases false e rest = rest

-- as many of two lists of images pass, each by its test, if the tests agree
many_images : {X Y Z : Type 0} (p : Y → Bool) (q : Z → Bool) (f : X → Y) (g : X → Z) (xs : List X) → ((x : X) → Has x xs → p (f x) ≡ q (g x)) → many p (map f xs) ≡ many q (map g xs)
many_images p q f g [] same = refl
many_images {X} {Y} {Z} p q f g (x ∷ xs) same = cases (p (f x)) (q (g x)) (same x (inl refl)) (many_images p q f g xs (λ y m. same y (inr m)))
  where
    cases : (a b : Bool) → a ≡ b → many p (map f xs) ≡ many q (map g xs) → length (cond a (f x ∷ filter p (map f xs)) (filter p (map f xs))) ≡ length (cond b (g x ∷ filter q (map g xs)) (filter q (map g xs)))
    cases true true e rest = ap suc rest
    cases true false e rest = absurd (false≢true (sym e))
    cases false true e rest = absurd (false≢true e)
    cases false false e rest = rest

-- ---- a row contains a cube exactly if its cube has all literals of it

column_same : (bit : Bool) (y : Option Bool) → literal_contains (Some bit) y ≡ true → y ≡ Some bit
column_same true (Some true) h = refl
column_same true (Some false) h = absurd (false≢true h)
column_same false (Some true) h = absurd (false≢true h)
column_same false (Some false) h = refl
column_same true None h = absurd (false≢true h)
column_same false None h = absurd (false≢true h)

contained_has : (bits : List ℕ → Option Bool) (names : List (List ℕ)) (row : List (Option Bool)) → length row ≡ length names → row_contains (map bits names) row ≡ true
    → (literal : Literal) → has names literal.name ≡ true → bits literal.name ≡ Some literal.bit → Has literal (cube_over names row)
unfolding row_contains
contained_has bits [] row long h literal m k = absurd (false≢true m)
contained_has bits (first ∷ names) [] long h literal m k = absurd (omega (arith, long))
contained_has bits (first ∷ names) (y ∷ row) long h literal m k =
    let parts = and_parts (literal_contains (bits first) y) (row_contains (map bits names) row) h in
    elim (or_cases (bytes_eq literal.name first) (has names literal.name) m) as (λ _. Has literal (cube_over (first ∷ names) (y ∷ row))) [
      | inl same ↦ (let at : bits first ≡ Some literal.bit = ap bits (sym (same_name literal.name first same)) ∙ k in
          first_has literal first names y row same (column_same literal.bit y (subst (λ (x : Option Bool). literal_contains x y ≡ true) at parts.0)))
      | inr n ↦ later_has literal first names y row (contained_has bits names row (omega (arith, long)) parts.1 literal n k)
    ]

column_contains : (x y : Option Bool) → ((bit : Bool) → x ≡ Some bit → y ≡ Some bit) → literal_contains x y ≡ true
column_contains None y holds = refl
column_contains (Some true) y holds = ap (literal_contains (Some true)) (holds true refl)
column_contains (Some false) y holds = ap (literal_contains (Some false)) (holds false refl)

maps_contain : (g h : List ℕ → Option Bool) (names : List (List ℕ)) → ((name : List ℕ) (bit : Bool) → g name ≡ Some bit → h name ≡ Some bit) → row_contains (map g names) (map h names) ≡ true
unfolding row_contains
maps_contain g h [] holds = refl
maps_contain g h (first ∷ names) holds =
    and_from (literal_contains (g first) (h first)) (row_contains (map g names) (map h names)) (column_contains (g first) (h first) (holds first)) (maps_contain g h names holds)

any_literal : (literal : Literal) (cube : Cube) → list_any (same_literal literal) cube ≡ true → Has literal cube
any_literal literal cube h = let (other, m, e) = any_some (same_literal literal) cube h in subst (λ (x : Literal). Has x cube) (sym (same_is literal other e)) m

module _ (names : List (List ℕ)) (once : all_different names ≡ true) (cube : Cube) (apart : is_apart cube ≡ true) where
  contains_is : (row : List (Option Bool)) → length row ≡ length names → list_all (λ (literal : Literal). has names literal.name) cube ≡ true
      → has_all cube (cube_of names row) ≡ row_contains (row_over names cube) row
  contains_is row long over =
      both_ways (has_all cube (cube_of names row)) (row_contains (row_over names cube) row)
      (λ h. subst (λ (r : List (Option Bool)). row_contains (row_over names cube) r ≡ true) (sorted_row_back names row once long)
      (maps_contain (literal_of cube) (literal_of (cube_of names row)) names
      (λ name bit k. held h (record { name = name; bit = bit }) (found_literal cube (record { name = name; bit = bit }) k))))
      (λ h. all_from (λ (literal : Literal). list_any (same_literal literal) (cube_of names row)) cube
      (λ literal m. has_in (cube_of names row) literal
      (sorted_keeps literal_order (cube_over names row) literal
      (contained_has (literal_of cube) names row long h literal (all_test (λ (l : Literal). has names l.name) cube literal over m)
      (all_member (λ (l : Literal). literal_of cube l.name ≡ Some l.bit) cube (literals_stand cube (apart_different cube apart)) literal m)))))
    where
      held : has_all cube (cube_of names row) ≡ true → (literal : Literal) → Has literal cube → literal_of (cube_of names row) literal.name ≡ Some literal.bit
      held h literal m =
          all_member (λ (l : Literal). literal_of (cube_of names row) l.name ≡ Some l.bit) (cube_of names row)
          (literals_stand (cube_of names row) (sorted_different (cube_over names row) (over_different names row once))) literal
          (any_literal literal (cube_of names row) (all_test (λ (l : Literal). list_any (same_literal l) (cube_of names row)) cube literal h m))

-- ---- a table and one cube

module _ (name : List ℕ) (cube : Cube) (table : Table) (wide : IsWide table) (once : all_different table.inputs ≡ true) (free : has table.inputs name ≡ false) (apart : is_apart cube ≡ true)
    (differ : AreOnce (map places_of table.rows)) (some : 1 ≤ length cube) where
  many_rows : list_all (λ (literal : Literal). has table.inputs literal.name) cube ≡ true → many (has_all cube) (cubes_of table) ≡ many (row_contains (row_over table.inputs cube)) (map places_of table.rows)
  many_rows over =
      many_images (has_all cube) (row_contains (row_over table.inputs cube)) (λ row. cube_of table.inputs (places_of row)) places_of table.rows
      (λ row m. contains_is table.inputs once cube apart (places_of row)
      (width-has (length table.inputs) (map places_of table.rows) (places_of row) (width_of_characters (length table.inputs) table.rows wide) (Has-map places_of row table.rows m)) over)

  none_over : list_all (λ (literal : Literal). has table.inputs literal.name) cube ≡ false → many (has_all cube) (cubes_of table) ≡ 0
  none_over e =
      none_many (has_all cube) (cubes_of table) (λ one m h.
      false≢true (sym e ∙ all_from (λ (literal : Literal). has table.inputs literal.name) cube (λ literal n.
      all_test (λ (x : Literal). has table.inputs x.name) one literal (names_read table one m) (any_literal literal one (all_test (λ (l : Literal). list_any (same_literal l) one) cube literal h n)))))

  -- each row that contains the cube loses its literals and gains one
  pub one_lost : lost_by name (cube ∷ []) table + many (has_all cube) (cubes_of table) ≡ many (has_all cube) (cubes_of table) * length cube
  one_lost = cases (list_all (λ (literal : Literal). has table.inputs literal.name) cube) (length cube) refl refl some
    where
      sum : (lost n k : ℕ) → lost ≡ n * k → lost + n ≡ n * suc k
      sum lost n k e = omega (arith, e, mul-suc n k)

      cases : (over : Bool) (long : ℕ) → list_all (λ (literal : Literal). has table.inputs literal.name) cube ≡ over → length cube ≡ long → 1 ≤ long
          → lost_by name (cube ∷ []) table + many (has_all cube) (cubes_of table) ≡ many (has_all cube) (cubes_of table) * length cube
      cases over zero e is few = absurd (omega (arith, few))
      cases over (suc k) e is few =
          subst (λ (n : ℕ). lost_by name (cube ∷ []) table + many (has_all cube) (cubes_of table) ≡ many (has_all cube) (cubes_of table) * n) (sym is)
          (sum (lost_by name (cube ∷ []) table) (many (has_all cube) (cubes_of table)) k
          (cube_lost name cube table wide once free apart differ (many (has_all cube) (cubes_of table)) k is over e (λ none. none_over (e ∙ none)) (λ read. many_rows (e ∙ read))))

-- ---- spans of rows

has_front : {X : Type 0} (x : X) (xs ys : List X) → Has x xs → Has x (xs ++ ys)
has_front x [] ys m = absurd m
has_front x (first ∷ xs) ys m = elim m as (λ _. Has x (first ∷ (xs ++ ys))) [ inl e ↦ inl e | inr n ↦ inr (has_front x xs ys n) ]

has_last : {X : Type 0} (x : X) (xs : List X) → Has x (xs ++ x ∷ [])
has_last x [] = inl refl
has_last x (first ∷ xs) = inr (has_last x xs)

pub in_front : (places more : List ℕ) (at : ℕ) → is_in places at ≡ true → is_in (places ++ more) at ≡ true
in_front places more at h = list_any-append (λ other. other == at) places more ∙ or_left (is_in places at) (is_in more at) h

pub in_back : (places more : List ℕ) (at : ℕ) → is_in more at ≡ true → is_in (places ++ more) at ≡ true
in_back places more at h = list_any-append (λ other. other == at) places more ∙ or_right (is_in places at) (is_in more at) h

pub in_last : (places : List ℕ) (place : ℕ) → is_in (places ++ place ∷ []) place ≡ true
in_last places place = in_back places (place ∷ []) place (or_left (place == place) false (eq-eqb place place refl))

in_more : (places : List ℕ) (place at : ℕ) → is_in (places ++ place ∷ []) at ≡ true → (is_in places at ≡ true) ⊎ (place ≡ at)
in_more places place at h =
    elim (or_cases (is_in places at) (is_in (place ∷ []) at) (sym (list_any-append (λ other. other == at) places (place ∷ [])) ∙ h)) as (λ _. (is_in places at ≡ true) ⊎ (place ≡ at)) [
      | inl k ↦ inl k
      | inr k ↦ elim (or_cases (place == at) false k) as (λ _. (is_in places at ≡ true) ⊎ (place ≡ at)) [ inl e ↦ inr (eqb-true place at e) | inr n ↦ absurd (false≢true n) ]
    ]

-- more rows at the end are in no span
span_more : (rows more : List Cube) (at : ℕ) (table : Table) (span : RowSpan) → IsSpan rows at table span → IsSpan (rows ++ more) at table span
span_more rows more at table span is = record {
  there = is.there;
  starts = is.starts;
  ends = omega (arith, is.ends, length-append rows more);
  same = ap (take (span.end - span.start)) (drop-append-le span.start rows more (omega (arith, is.starts, is.ends)))
      ∙ take-append-le (span.end - span.start) (drop span.start rows) more (omega (arith, is.starts, is.ends, length-drop span.start rows))
      ∙ is.same;
}

new_span : (rows : List Cube) (table : Table) (place : ℕ) (span : RowSpan) → span.place ≡ place → span.start ≡ length rows → span.end ≡ length (rows ++ cubes_of table)
    → IsSpan (rows ++ cubes_of table) place table span
new_span rows table place span there start end =
    let long : length (rows ++ cubes_of table) ≡ length rows + length (cubes_of table) = length-append rows (cubes_of table) in
    record {
      there = there;
      starts = omega (arith, start, end, long);
      ends = omega (arith, end);
      same = ap (take (span.end - span.start)) (ap (λ (n : ℕ). drop n (rows ++ cubes_of table)) start ∙ drop-append_seam rows (cubes_of table))
          ∙ take_all (span.end - span.start) (cubes_of table) (omega (arith, start, end, long));
    }

-- what holds of each of the first spans and of the next one
pub span_next : (P : RowSpan → Type 0) (spans : List RowSpan) (i : ℕ) (d : RowSpan) → i < length spans → ((span : RowSpan) → Has span (take i spans) → P span) → P (get_or spans i d)
    → (span : RowSpan) → Has span (take (i + 1) spans) → P span
span_next P spans i d below all here = λ span m.
    elim (Has-append span (take i spans) (get_or spans i d ∷ []) (subst (Has span) (take_more spans i d below) m)) as (λ _. P span) [
      | inl k ↦ all span k
      | inr k ↦ elim k as (λ _. P span) [ inl e ↦ subst P (sym e) here | inr n ↦ absurd n ]
    ]

-- ---- one more table

push_told : (lost n k rest more count : ℕ) → lost + n ≡ n * k + rest → more + count ≡ count * k → (lost + more) + (n + count) ≡ (n + count) * k + rest
push_told lost n k rest more count before here = omega (arith, before, here, add-mul n count k)

module _ (placed : Placed) (places : List ℕ) (rows : List Cube) (spans : List RowSpan) (others : List ℕ) (place : ℕ) (told : AreTold placed places rows spans others) where
  lost_push : (name : List ℕ) (cover : NamedCover) (indices : List ℕ) → lost_at name cover placed.slots (indices ++ place ∷ []) ≡ lost_at name cover placed.slots indices + lost_of name cover (table_at placed.slots place)
  lost_push name cover indices = sum_by_push (λ at. lost_of name cover (table_at placed.slots at)) indices place

  narrow_push : (name : List ℕ) (cover : NamedCover) (indices : List ℕ) → AllByRecursion (λ at. IsNarrowIn name cover (table_at placed.slots at)) indices → IsNarrowIn name cover (table_at placed.slots place)
      → AllByRecursion (λ at. IsNarrowIn name cover (table_at placed.slots at)) (indices ++ place ∷ [])
  narrow_push name cover indices all here = all_append (λ at. IsNarrowIn name cover (table_at placed.slots at)) indices (place ∷ []) all (here, tt)

  pub told_none : table_at placed.slots place ≡ None → AreTold placed (places ++ place ∷ []) rows spans others
  told_none away = record {
    lost = λ name new cube apart some.
        (let none : lost_of name (cube ∷ []) (table_at placed.slots place) ≡ 0 = ap (lost_of name (cube ∷ [])) away in
        omega (arith, told.lost name new cube apart some, none, lost_push name (cube ∷ []) places));
    narrow = λ name new cover all. narrow_push name cover places (told.narrow name new cover all) (subst (IsNarrowIn name cover) (sym away) tt);
    spanned = λ at table h there.
        elim (in_more places place at h) as (λ _. (is_in others at ≡ true) ⊎ ((span : RowSpan) × Has span spans × IsSpan rows at table span)) [
          | inl k ↦ told.spanned at table k there
          | inr e ↦ absurd (none-some table (sym away ∙ (ap (table_at placed.slots) e ∙ there)))
        ];
  }

  pub told_other : AreTold placed (places ++ place ∷ []) rows spans (others ++ place ∷ [])
  told_other = record {
    lost = λ name new cube apart some. omega (arith, told.lost name new cube apart some, lost_push name (cube ∷ []) places, lost_push name (cube ∷ []) others);
    narrow = λ name new cover all.
        (let parts = all_parts (λ at. IsNarrowIn name cover (table_at placed.slots at)) others (place ∷ []) all in
        narrow_push name cover places (told.narrow name new cover parts.0) parts.1.0);
    spanned = λ at table h there.
        elim (in_more places place at h) as (λ _. (is_in (others ++ place ∷ []) at ≡ true) ⊎ ((span : RowSpan) × Has span spans × IsSpan rows at table span)) [
          | inl k ↦ elim (told.spanned at table k there) as (λ _. (is_in (others ++ place ∷ []) at ≡ true) ⊎ ((span : RowSpan) × Has span spans × IsSpan rows at table span)) [
            | inl o ↦ inl (in_front others (place ∷ []) at o)
            | inr found ↦ inr found
          ]
          | inr e ↦ inl (subst (λ (i : ℕ). is_in (others ++ place ∷ []) i ≡ true) e (in_last others place))
        ];
  }

  module _ (sound : IsSound (circuit_of placed)) (table : Table) (there : table_at placed.slots place ≡ Some table) where
    reads : IsReader (given (circuit_of placed)) table
    reads = all_at (IsReader (given (circuit_of placed))) placed.slots (tables_read (circuit_of placed) sound) place table there

    wide : IsWide table
    wide = (all_at IsShaped placed.slots sound.shaped place table there).0

    free : (name : List ℕ) → IsNewName (circuit_of placed) name → has table.inputs name ≡ false
    free name new = has_not table.inputs name (λ m. false≢true (sym (new_is_free (circuit_of placed) name new).0 ∙ reads.live name m))

    told_rows : (span : RowSpan) → IsSpan (rows ++ cubes_of table) place table span → AreOnce (map places_of table.rows) → length table.inputs < MAX_INPUTS
        → AreTold placed (places ++ place ∷ []) (rows ++ cubes_of table) (spans ++ span ∷ []) others
    told_rows span whole differ few = record {
      lost = λ name new cube apart some.
          (let here : lost_of name (cube ∷ []) (table_at placed.slots place) + many (has_all cube) (cubes_of table) ≡ many (has_all cube) (cubes_of table) * length cube =
          subst (λ (o : Option Table). lost_of name (cube ∷ []) o + many (has_all cube) (cubes_of table) ≡ many (has_all cube) (cubes_of table) * length cube) (sym there)
          (one_lost name cube table wide reads.once (free name new) apart differ some) in
          subst (λ (n : ℕ). lost_at name (cube ∷ []) placed.slots (places ++ place ∷ []) + n ≡ n * length cube + lost_at name (cube ∷ []) placed.slots others) (sym (many_append (has_all cube) rows (cubes_of table)))
          (subst (λ (l : ℕ). l + (many (has_all cube) rows + many (has_all cube) (cubes_of table)) ≡ (many (has_all cube) rows + many (has_all cube) (cubes_of table)) * length cube + lost_at name (cube ∷ []) placed.slots others)
          (sym (lost_push name (cube ∷ []) places))
          (push_told (lost_at name (cube ∷ []) placed.slots places) (many (has_all cube) rows) (length cube) (lost_at name (cube ∷ []) placed.slots others) (lost_of name (cube ∷ []) (table_at placed.slots place)) (many (has_all cube) (cubes_of table))
          (told.lost name new cube apart some) here)));
      narrow = λ name new cover all.
          narrow_push name cover places (told.narrow name new cover all)
          (subst (IsNarrowIn name cover) (sym there) (few_narrow name cover table reads.once (free name new) few));
      spanned = λ at other h found.
          elim (in_more places place at h) as (λ _. IsSpanned at other) [
            | inl k ↦ elim (told.spanned at other k found) as (λ _. IsSpanned at other) [
              | inl o ↦ inl o
              | inr old ↦ inr (old.0, has_front old.0 spans (span ∷ []) old.1, span_more rows (cubes_of table) at other old.0 old.2)
            ]
            | inr e ↦ inr (
              span,
              has_last span spans,
              subst (λ (i : ℕ). IsSpan (rows ++ cubes_of table) i other span) e
                  (subst (λ (t : Table). IsSpan (rows ++ cubes_of table) place t span) (same_Some table other (sym there ∙ (ap (table_at placed.slots) e ∙ found))) whole),
            )
          ];
    }
      where
        IsSpanned : ℕ → Table → Type 0
        IsSpanned at other = (is_in others at ≡ true) ⊎ ((one : RowSpan) × Has one (spans ++ span ∷ []) × IsSpan (rows ++ cubes_of table) at other one)

    pub told_added : (new_rows : List Cube) (new_spans : List RowSpan) (new_others : List ℕ) → IsRead table place rows spans others new_rows new_spans new_others
        → AreTold placed (places ++ place ∷ []) new_rows new_spans new_others
    told_added new_rows new_spans new_others (inl (added, others_is)) =
        subst (λ (r : List Cube). AreTold placed (places ++ place ∷ []) r new_spans new_others) (sym added.rows_are)
        (subst (λ (b : List RowSpan). AreTold placed (places ++ place ∷ []) (rows ++ cubes_of table) b new_others) (sym added.spans_are)
        (subst (λ (o : List ℕ). AreTold placed (places ++ place ∷ []) (rows ++ cubes_of table) (spans ++ added.span ∷ []) o) (sym others_is)
        (told_rows added.span (new_span rows table place added.span added.there added.start (added.end ∙ ap length added.rows_are)) added.once added.few)))
    told_added new_rows new_spans new_others (inr (rows_is, spans_is, others_is)) =
        subst (λ (r : List Cube). AreTold placed (places ++ place ∷ []) r new_spans new_others) (sym rows_is)
        (subst (λ (b : List RowSpan). AreTold placed (places ++ place ∷ []) rows b new_others) (sym spans_is)
        (subst (λ (o : List ℕ). AreTold placed (places ++ place ∷ []) rows spans o) (sym others_is) told_other))

-- ---- the tables at the first indices

nothing : (k : ℕ) → 0 ≡ 0 * k + 0
nothing k = omega arith

pub told_none_yet : (placed : Placed) → AreTold placed [] [] [] []
told_none_yet placed = record {
  lost = λ name new cube apart some. nothing (length cube);
  narrow = λ name new cover all. tt;
  spanned = λ at table h there. absurd (false≢true h);
}

-- the fanouts of all names
pub readers_next : (slots : List (Option Table)) (names : List (List ℕ)) (i : ℕ) (last d : List ℕ) (places new : List ℕ) → i < length names → last ≡ get_or names i d
    → IncludeReaders slots (take i names) places → ((at : ℕ) → is_in places at ≡ true → is_in new at ≡ true)
    → ((at : ℕ) (table : Table) → table_at slots at ≡ Some table → has table.inputs last ≡ true → is_in new at ≡ true) → IncludeReaders slots (take (i + 1) names) new
readers_next slots names i last d places new below is before still more at table name there reads h =
    elim (has_name_next names i last d name below is h) as (λ _. is_in new at ≡ true) [
      | inl k ↦ still at (before at table name there reads k)
      | inr e ↦ more at table there (subst (λ (n : List ℕ). has table.inputs n ≡ true) e reads)
    ]

-- ---- what a cube loses

-- all tables that read a cube are at the places
read_all : (placed : Placed) (names : List (List ℕ)) (places : List ℕ) (all : IncludeReaders placed.slots names places) (cube : Cube) → list_all (λ (literal : Literal). has names literal.name) cube ≡ true → 1 ≤ length cube
    → (at : ℕ) (table : Table) → table_at placed.slots at ≡ Some table → is_over table.inputs (cube ∷ []) ≡ true → is_in places at ≡ true
read_all placed names places all [] known some at table there over = absurd (omega (arith, some))
read_all placed names places all (first ∷ cube) known some at table there over =
    all at table first.name there
    (and_parts (has table.inputs first.name) (list_all (λ (l : Literal). has table.inputs l.name) cube) (and_parts (list_all (λ (l : Literal). has table.inputs l.name) (first ∷ cube)) true over).0).0
    (and_parts (has names first.name) (list_all (λ (l : Literal). has names l.name) cube) known).0

product_left : (lost n k m rest product sum : ℕ) → lost + n ≡ n * k + rest → k ≡ suc m → product ≡ n * m → sum ≡ product + rest → sum ≡ lost
product_left lost n k m rest product sum told long made added =
    let whole : n * k ≡ n * suc m = ap (λ (x : ℕ). n * x) long in
    omega (arith, told, whole, mul-suc n m, made, added)

module _ (placed : Placed) (names : List (List ℕ)) (rows : List Cube) (spans : List RowSpan) (others : List ℕ) (index : Indexes placed names rows spans others) (name : List ℕ) (new : IsNewName (circuit_of placed) name) (cube : Cube)
    (known : list_all (λ (literal : Literal). has names literal.name) cube ≡ true) (apart : is_apart cube ≡ true) (long : 1 ≤ length cube) where
  are_all : AreAll (cube ∷ []) placed.slots index.places
  are_all = all_readers (cube ∷ []) placed.slots index.places index.once (read_all placed names index.places index.all cube known long)

  pub told_lost : (rest n m product sum : ℕ) → AreLosses name (cube ∷ []) placed.slots others (Some rest) → n ≡ many (has_all cube) rows → length cube ≡ suc m → product ≡ n * m → sum ≡ product + rest
      → IsLostIn (standing placed.slots) name (cube ∷ []) (Some sum)
  told_lost rest n m product sum losses counted is made added = (
    product_left (lost_at name (cube ∷ []) placed.slots index.places) n (length cube) m rest product sum
        (subst (λ (x : ℕ). lost_at name (cube ∷ []) placed.slots index.places + x ≡ x * length cube + rest) (sym counted)
        (subst (λ (x : ℕ). lost_at name (cube ∷ []) placed.slots index.places + many (has_all cube) rows ≡ many (has_all cube) rows * length cube + x) (sym losses.0) (index.told.lost name new cube apart long)))
        is made added
        ∙ all_lost name (cube ∷ []) placed.slots index.places are_all,
    all_narrow name (cube ∷ []) placed.slots index.places are_all (index.told.narrow name new (cube ∷ []) losses.1),
  )

-- the tables whose rows have those of each cube of a cover are all that it divides
read_some : (names : List (List ℕ)) (table : Table) (cover : NamedCover) → is_known names cover ≡ true → 1 ≤ literals_in cover → is_over table.inputs cover ≡ true
    → (name : List ℕ) × (has names name ≡ true) × (has table.inputs name ≡ true)
read_some names table [] known some over = absurd (omega (arith, some))
read_some names table ([] ∷ cover) known some over = read_some names table cover known (omega (arith, some, sum_by-cons length [] cover)) over
read_some names table ((first ∷ cube) ∷ cover) known some over =
    let all = (and_parts (is_apart (first ∷ cube)) (list_all (λ (l : Literal). has names l.name) (first ∷ cube)) (and_parts (is_apart (first ∷ cube) && list_all (λ (l : Literal). has names l.name) (first ∷ cube)) (is_known names cover) known).0).1 in (
      first.name,
      (and_parts (has names first.name) (list_all (λ (l : Literal). has names l.name) cube) all).0,
      (and_parts (has table.inputs first.name) (list_all (λ (l : Literal). has table.inputs l.name) cube) (and_parts (list_all (λ (l : Literal). has table.inputs l.name) (first ∷ cube)) (is_over table.inputs cover) over).0).0,
    )

module _ (placed : Placed) (names : List (List ℕ)) (rows : List Cube) (spans : List RowSpan) (others : List ℕ) (index : Indexes placed names rows spans others) (cover : NamedCover)
    (known : is_known names cover ≡ true) (some : 1 ≤ literals_in cover) (places : List ℕ) (once : AreOnce places) (rest : (at : ℕ) → is_in others at ≡ true → is_in places at ≡ true)
    (met : (span : RowSpan) → Has span spans → list_all (λ (cube : Cube). list_any (has_all cube) (rows_in rows span)) cover ≡ true → is_in places span.place ≡ true) where
  abbrev IsFound : ℕ → Table → Type 0
  IsFound at table = (is_in places at ≡ true) ⊎ ((name : List ℕ) → divided name true cover table ≡ table)

  contained : (table : Table) → is_met (cubes_of table) cover ≡ true → (cube : Cube) → Has cube cover → list_any (has_all cube) (cubes_of table) ≡ true
  contained table h cube m =
      let apart = (and_parts (is_apart cube) (list_all (λ (l : Literal). has names l.name) cube) (all_test (λ (c : Cube). is_apart c && list_all (λ (l : Literal). has names l.name) c) cover cube known m)).0 in
      elim (or_cases (not (is_apart cube)) (list_any (has_all cube) (cubes_of table)) (all_test (is_contained (cubes_of table)) cover cube h m)) as (λ _. list_any (has_all cube) (cubes_of table) ≡ true) [
        | inl k ↦ absurd (false≢true (sym (ap not apart) ∙ k))
        | inr k ↦ k
      ]

  by_rows : (at : ℕ) (table : Table) (span : RowSpan) → Has span spans → IsSpan rows at table span → (b : Bool) → is_met (cubes_of table) cover ≡ b → IsFound at table
  by_rows at table span m is true h =
      inl (subst (λ (i : ℕ). is_in places i ≡ true) is.there
      (met span m (all_from (λ (cube : Cube). list_any (has_all cube) (rows_in rows span)) cover (λ cube n. ap (list_any (has_all cube)) is.same ∙ contained table h cube n))))
  by_rows at table span m is false h = inr (unmet_stays cover table h)

  by_names : (at : ℕ) (table : Table) → table_at placed.slots at ≡ Some table → (b : Bool) → is_over table.inputs cover ≡ b → IsFound at table
  by_names at table there true e =
      let (name, among, read) = read_some names table cover known some e in
      elim (index.told.spanned at table (index.all at table name there read among) there) as (λ _. IsFound at table) [
        | inl o ↦ inl (rest at o)
        | inr found ↦ by_rows at table found.0 found.1 found.2 (is_met (cubes_of table) cover) refl
      ]
  by_names at table there false e = inr (λ name. unread_stays name true cover table e)

  pub met_all : AreAll cover placed.slots places
  met_all = record { once = once; all = λ at table there. by_names at table there (is_over table.inputs cover) refl }

pub wide_lost : (placed : Placed) (name : List ℕ) (cover : NamedCover) (others : List ℕ) → AreLosses name cover placed.slots others None → IsLostIn (standing placed.slots) name cover None
wide_lost placed name cover others losses = λ all. losses.1 (narrow_there name cover placed.slots all losses.0)

pub all_losses : (placed : Placed) (name : List ℕ) (cover : NamedCover) (places : List ℕ) (lost : Option ℕ) → AreAll cover placed.slots places → AreLosses name cover placed.slots places lost → IsLostIn (standing placed.slots) name cover lost
all_losses placed name cover places None are losses = wide_lost placed name cover places losses
all_losses placed name cover places (Some lost) are losses = (losses.0 ∙ all_lost name cover placed.slots places are, all_narrow name cover placed.slots places are losses.1)

-- ---- what a cover saves

module _ (tables : List Table) (name : List ℕ) (cover : NamedCover) where
  pub saved_lost : (lost found : Option ℕ) (own : ℕ) → own ≡ literals_of_table (cover_table name cover) → length (cover_table name cover).inputs ≤ MAX_INPUTS → IsLostIn tables name cover lost
      → MatchOption found ((number : ℕ) → lost ≡ Some number → number ≤ own) (λ more. (lost ≡ Some (more + own)) × (1 ≤ more)) → IsSaved tables name cover found
  saved_lost lost (Some more) own is few losses told =
      let those : IsLostIn tables name cover (Some (more + own)) = subst (IsLostIn tables name cover) told.0 losses in
      record {
        narrow = record { added = few; changed = those.1 };
        exact = ap (λ (n : ℕ). more + n) (sym is) ∙ those.0;
        some = told.1;
      }
  saved_lost None None own is few losses told = λ number saving. losses saving.narrow.changed
  saved_lost (Some lost) None own is few losses told = λ number saving.
      let bound : lost ≤ own = told lost refl in
      absurd (omega (arith, bound, losses.0, is, saving.exact, saving.some))
