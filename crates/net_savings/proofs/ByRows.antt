-- What a table loses if it is divided by one cube, as its rows tell: each row that contains the
-- cube loses the cube's literals and gains one.
use Rattle.std.proofs.Common.{◌≡◌, ℕ, ◌+◌, ◌*◌, ◌-◌, ◌<◌, ◌≤◌, zero, suc, ◌&&◌, Bool, true, false, not, cond, if◌then◌else◌, Option, Some, None, List, [], ◌∷◌, ◌++◌, map, filter, length, take, get_or, replicate, refl, sym, ap, ap₂, ◌∙◌, subst, inl, inr, arith}
use Rattle.std.specs.List.{list_all, list_any}
use Rattle.std.proofs.Math.Nat.{mul-suc}
use Rattle.std.proofs.lemmas.Bool.{and_parts, and_from, false≢true}
use Rattle.std.proofs.lemmas.List.{length-map, length-append}
use Rattle.std.proofs.lemmas.List.Elements.{filter-append}
use Rattle.std.proofs.lemmas.List.Sums.{sum_by-cons}
use Rattle.sis_base.specs.Rows.{HasWidth}
use Rattle.circuit_model.specs.Counts.{literals_of_table}
use Rattle.circuit_model.specs.Names.{has, all_different}
use Rattle.circuit_model.specs.declared.circuit.Table.{Table}
use Rattle.cube_cover.specs.Literals.{literal_product, literal_contains, row_contains}
use Rattle.alg_div.specs.Cubes.{Has, times, row_eq}
use Rattle.alg_div.specs.Steps.{without, strip, support, support_from}
use Rattle.alg_div.proofs.Cubes.{product_has}
use Rattle.alg_div.proofs.Lists.{Has-append, map-take, same_from_eq, eq_from_same}
use Rattle.alg_div.proofs.Terms.{strip-apart, width-has}
use Rattle.net_candidates.specs.Spots.{many}
use Rattle.net_candidates.specs.Candidates.{literals_in}
use Rattle.net_candidates.proofs.Divisors.{rows_over_literals}
use Rattle.net_candidates.proofs.Gains.{IsDivided, divided_closed}
use Rattle.net_candidates.proofs.Products.{literals_in_all}
use Rattle.net_candidates.proofs.Sums.{AreOnce}
use Rattle.net_candidates.proofs.TidyLiterals.{table_literals}
use Rattle.cover_names.specs.Literals.{Cube, NamedCover}
use Rattle.cover_names.specs.Cubes.{literal_of, row_over}
use Rattle.cover_names.specs.declared.literal.Literal.{Literal}
use Rattle.net_core.specs.Tables.{named, IsOverInputs}
use Rattle.net_core.specs.declared.table.CoverTable.{CoverTable}
use Rattle.net_core.proofs.Rows.{width_of_characters, all_places_back}
use Rattle.alg_tables.specs.Dividing.{firsts, is_made, quotient, has_no_cube, divided}
use Rattle.alg_tables.proofs.Divided.{unread_stays, undivided_stays}
use Rattle.alg_tables.proofs.Divisions.{rows_of, divisor, found}
use Rattle.alg_tables.proofs.Quotients.{has_any}
use Rattle.alg_tables.proofs.Taken.{characters_wide}
use Rattle.circuit_tables.specs.Tidy.{IsWide}
use Rattle.net_savings.specs.Meeting.{is_apart}
use Rattle.net_savings.specs.Saving.{lost_by, IsLoss}
use Rattle.net_savings.proofs.Contained.{apart_different}
use Rattle.net_savings.proofs.Narrowing.{few_narrow}
use Rattle.net_savings.proofs.Untouched.{untouched_lost}
use Rattle.sis_base.specs.declared.limits.TheConstants.{MAX_INPUTS}

-- ---- numbers of items that pass a test

pub many_next : {X Z : Type 0} (test : Z → Bool) (f : X → Z) (xs : List X) (i : ℕ) (x d : X) (count one sum : ℕ) → i < length xs → x ≡ get_or xs i x → count ≡ many test (map f (take i xs))
    → one ≡ (if test (f x) then 1 else 0) → sum ≡ count + one → sum ≡ many test (map f (take (i + 1) xs))
many_next test f xs i x d count one sum below is before one_is sum_is =
    let more : many test (map f (take (i + 1) xs)) ≡ many test (map f (take i xs)) + many test (f x ∷ []) =
    ap (many test) (map-take f xs i x below is)
    ∙ (ap length (filter-append test (map f (take i xs)) (f x ∷ [])) ∙ length-append (filter test (map f (take i xs))) (filter test (f x ∷ []))) in
    let last : many test (f x ∷ []) ≡ one = single (test (f x)) refl ∙ sym one_is in
    omega (arith, before, sum_is, more, last)
  where
    single : (b : Bool) → test (f x) ≡ b → length (cond b (f x ∷ []) []) ≡ (if b then 1 else 0)
    single true e = refl
    single false e = refl

same_many : {X : Type 0} (p q : X → Bool) (xs : List X) → ((x : X) → Has x xs → p x ≡ q x) → many p xs ≡ many q xs
same_many p q [] same = refl
same_many {X} p q (x ∷ xs) same = cases (p x) (q x) (same x (inl refl)) (same_many p q xs (λ y m. same y (inr m)))
  where
    cases : (a b : Bool) → a ≡ b → many p xs ≡ many q xs → length (cond a (x ∷ filter p xs) (filter p xs)) ≡ length (cond b (x ∷ filter q xs) (filter q xs))
    cases true true e rest = ap suc rest
    cases true false e rest = absurd (false≢true (sym e))
    cases false true e rest = absurd (false≢true e)
    cases false false e rest = rest

pub both_ways : (one other : Bool) → (one ≡ true → other ≡ true) → (other ≡ true → one ≡ true) → one ≡ other
both_ways true other to back = sym (to refl)
both_ways false true to back = back refl
both_ways false false to back = refl

-- ---- rows that contain a row

column_restored : (x y : Option Bool) → literal_contains x y ≡ true → literal_product (without x y) x ≡ y
column_restored None None h = refl
column_restored None (Some other) h = refl
column_restored (Some bit) None h = absurd (false≢true h)
column_restored (Some true) (Some true) h = refl
column_restored (Some true) (Some false) h = absurd (false≢true h)
column_restored (Some false) (Some true) h = absurd (false≢true h)
column_restored (Some false) (Some false) h = refl

restored : (k row : List (Option Bool)) → length k ≡ length row → row_contains k row ≡ true → times (strip k row) k ≡ row
unfolding times strip row_contains
restored [] [] long h = refl
restored [] (y ∷ row) long h = absurd (omega (arith, long))
restored (x ∷ k) [] long h = absurd (omega (arith, long))
restored (x ∷ k) (y ∷ row) long h =
    let parts = and_parts (literal_contains x y) (row_contains k row) h in
    ap₂ (λ (z : Option Bool) (zs : List (Option Bool)). z ∷ zs) (column_restored x y parts.0) (restored k row (omega (arith, long)) parts.1)

blank : (k : List (Option Bool)) → times (replicate (length k) None) k ≡ k
unfolding times
blank [] = refl
blank (x ∷ k) = ap (λ (xs : List (Option Bool)). x ∷ xs) (blank k)

one_support : (width : ℕ) (k : List (Option Bool)) → length k ≡ width → support width (k ∷ []) ≡ k
unfolding support_from
one_support width k e = subst (λ (n : ℕ). times (replicate n None) k ≡ k) e (blank k)

-- ---- the quotient by one row

made_contains : (width : ℕ) (rows : List (List (Option Bool))) (k row : List (Option Bool)) → length k ≡ width → length row ≡ width → Has row rows → is_made width rows k (k ∷ []) row ≡ row_contains k row
made_contains width rows k row k_long long m =
    let q : List (Option Bool) = strip (support width (k ∷ [])) row in
    both_ways (is_made width rows k (k ∷ []) row) (row_contains k row)
    (λ h. subst (λ (r : List (Option Bool)). row_contains k r ≡ true)
    (same_from_eq (times q k) row (and_parts (row_eq (times q k) row) (list_all (λ other. list_any (row_eq (times q other)) rows) (k ∷ [])) h).0)
    (product_has q k (strip-apart width (k ∷ []) row k (inl refl))))
    (λ h. (let same : times q k ≡ row = subst (λ (s : List (Option Bool)). times (strip s row) k ≡ row) (sym (one_support width k k_long)) (restored k row (k_long ∙ sym long) h) in
    and_from (row_eq (times q k) row) (list_all (λ other. list_any (row_eq (times q other)) rows) (k ∷ [])) (eq_from_same (times q k) row same)
    (and_from (list_any (row_eq (times q k)) rows) true (has_any (times q k) rows (subst (λ (r : List (Option Bool)). Has r rows) (sym same) m)) refl)))

none_equal : (row : List (Option Bool)) (rows : List (List (Option Bool))) → (Has row rows → ⊥) → filter (λ other. not (row_eq row other)) rows ≡ rows
none_equal row [] away = refl
none_equal row (first ∷ rows) away = cases (row_eq row first) refl (none_equal row rows (λ m. away (inr m)))
  where
    cases : (b : Bool) → row_eq row first ≡ b → filter (λ other. not (row_eq row other)) rows ≡ rows
        → cond (not b) (first ∷ filter (λ other. not (row_eq row other)) rows) (filter (λ other. not (row_eq row other)) rows) ≡ first ∷ rows
    cases true e rest = absurd (away (inl (same_from_eq row first e)))
    cases false e rest = ap (λ (xs : List (List (Option Bool))). first ∷ xs) rest

pub firsts_same : (rows : List (List (Option Bool))) → AreOnce rows → firsts rows ≡ rows
unfolding firsts
firsts_same [] h = refl
firsts_same (row ∷ rows) h =
    ap (λ (xs : List (List (Option Bool))). row ∷ xs) (ap (filter (λ other. not (row_eq row other))) (firsts_same rows h.1) ∙ none_equal row rows h.0)

-- the quotient has a cube for each row that contains the divisor
quotient_long : (width : ℕ) (rows : List (List (Option Bool))) (k : List (Option Bool)) → AreOnce rows → HasWidth width rows → length k ≡ width → length (quotient width rows (k ∷ [])) ≡ many (row_contains k) rows
unfolding quotient
quotient_long width rows k once wide k_long =
    length-map (filter (is_made width rows k (k ∷ [])) (firsts rows)) (strip (support width (k ∷ [])))
    ∙ (ap (λ (xs : List (List (Option Bool))). length (filter (is_made width rows k (k ∷ [])) xs)) (firsts_same rows once)
    ∙ same_many (is_made width rows k (k ∷ [])) (row_contains k) rows (λ row m. made_contains width rows k row k_long (width-has width rows row wide m) m))

-- ---- a table and one cube

lost_sum : (made whole n k lq d : ℕ) → made + (1 * lq + n * d) ≡ whole + (lq + n) → d ≡ suc k → whole - made ≡ n * k
lost_sum made whole n k lq d e same =
    let product : n * d ≡ n * suc k = ap (λ (m : ℕ). n * m) same in
    omega (arith, e, product, mul-suc n k)

pub stays_loss : (name : List ℕ) (cover : NamedCover) (table : Table) → divided name true cover table ≡ table → IsLoss name cover (Some table) (Some 0)
stays_loss name cover table stays = (sym (untouched_lost name cover table stays), inl stays)

module _ (name : List ℕ) (cube : Cube) (table : Table) where
  abbrev cover : NamedCover
  cover = cube ∷ []

  abbrev pub wanted : List (Option Bool)
  wanted = row_over table.inputs cube

  -- a table that does not read the cube
  pub unread_loss : list_all (λ (literal : Literal). has table.inputs literal.name) cube ≡ false → IsLoss name cover (Some table) (Some 0)
  unread_loss e = stays_loss name cover table (unread_stays name true cover table (ap (λ (b : Bool). b && true) e))

  module _ (wide : IsWide table) (once : all_different table.inputs ≡ true) (free : has table.inputs name ≡ false) (apart : is_apart cube ≡ true) (differ : AreOnce (rows_of name true cover table)) where
    found_many : length (found name true cover table) ≡ many (row_contains wanted) (rows_of name true cover table)
    found_many = quotient_long (length table.inputs) (rows_of name true cover table) wanted differ (width_of_characters (length table.inputs) table.rows wide) (length-map table.inputs (literal_of cube))

    divided_lost : (k : ℕ) → length cube ≡ suc k → IsDivided name true cover table → lost_by name cover table ≡ many (row_contains wanted) (rows_of name true cover table) * k
    divided_lost k long is =
        let whole : literals_in_all (firsts (rows_of name true cover table)) ≡ literals_of_table table =
        ap literals_in_all (firsts_same (rows_of name true cover table) differ) ∙ sym (table_literals table) in
        let own : literals_in_all (divisor name true cover table) ≡ suc k =
        rows_over_literals table.inputs cover once (and_from (all_different (map (λ (literal : Literal). literal.name) cube)) true (apart_different cube apart) refl) is.over
        ∙ (let one : literals_in cover ≡ suc k = omega (arith, long, sum_by-cons length cube []) in one) in
        let closed = divided_closed name true cover table (record { wide = wide; once = once; free = free; rows = λ _. (λ m. m, tt) }) is in
        lost_sum (literals_of_table (divided name true cover table)) (literals_of_table table) (length (found name true cover table)) k (literals_in_all (found name true cover table))
        (literals_in_all (divisor name true cover table)) (closed ∙ ap (λ (n : ℕ). n + (literals_in_all (found name true cover table) + length (found name true cover table))) whole) own
        ∙ ap (λ (n : ℕ). n * k) found_many

    -- what the cube loses if some number is that of the rows that contain it, 0 if it is not read
    pub cube_lost : (count k : ℕ) → length cube ≡ suc k → (read : Bool) → list_all (λ (literal : Literal). has table.inputs literal.name) cube ≡ read → (read ≡ false → count ≡ 0)
        → (read ≡ true → count ≡ many (row_contains wanted) (rows_of name true cover table)) → lost_by name cover table ≡ count * k
    cube_lost count k long false e none many_is =
        let nothing : 0 ≡ lost_by name cover table = (unread_loss e).0 in
        subst (λ (n : ℕ). lost_by name cover table ≡ n * k) (sym (none refl)) (let zero_lost : lost_by name cover table ≡ 0 * k = omega (arith, nothing) in zero_lost)
    cube_lost count k long true e none many_is = cases (has_no_cube (found name true cover table)) refl
      where
        none_long : (q : List (List (Option Bool))) → has_no_cube q ≡ true → length q ≡ 0
        none_long [] h = refl
        none_long (x ∷ q) h = absurd (false≢true h)

        cases : (b : Bool) → has_no_cube (found name true cover table) ≡ b → lost_by name cover table ≡ count * k
        cases true h =
            let nothing : lost_by name cover table ≡ 0 = untouched_lost name cover table (undivided_stays name true cover table h) in
            let zero_count : count ≡ 0 = many_is refl ∙ (sym found_many ∙ none_long (found name true cover table) h) in
            subst (λ (n : ℕ). lost_by name cover table ≡ n * k) (sym zero_count) (let zero_lost : lost_by name cover table ≡ 0 * k = omega (arith, nothing) in zero_lost)
        cases false h =
            divided_lost k long (record { over = and_from (list_all (λ (literal : Literal). has table.inputs literal.name) cube) true e refl; some = h }) ∙ ap (λ (n : ℕ). n * k) (sym (many_is refl))

    -- each row that contains the cube loses its literals but one
    pub rows_loss : (count k lost : ℕ) → length cube ≡ suc k → length table.inputs < MAX_INPUTS → list_all (λ (literal : Literal). has table.inputs literal.name) cube ≡ true
        → count ≡ many (row_contains wanted) (rows_of name true cover table) → 1 ≤ count → lost ≡ count * k → IsLoss name cover (Some table) (Some lost)
    rows_loss count k lost long few over count_is some lost_is =
        let is : IsDivided name true cover table = record {
          over = and_from (list_all (λ (literal : Literal). has table.inputs literal.name) cube) true over refl;
          some = some_left (found name true cover table) (let more : 1 ≤ length (found name true cover table) = omega (arith, some, count_is, found_many) in more);
        } in
        (lost_is ∙ (ap (λ (n : ℕ). n * k) count_is ∙ sym (divided_lost k long is)), few_narrow name cover table once free few)
      where
        some_left : (q : List (List (Option Bool))) → 1 ≤ length q → has_no_cube q ≡ false
        some_left [] h = absurd (omega (arith, h))
        some_left (x ∷ q) h = refl

-- ---- tables of the program

module _ {R : Type 0} (table : CoverTable R) where
  pub rows_back : (name : List ℕ) (some : NamedCover) (output : List ℕ) → rows_of name true some (named output table) ≡ table.cover.rows
  unfolding named
  rows_back name some output = all_places_back table.cover.rows

  pub unread_table_loss : (cube : Cube) → list_all (λ (literal : Literal). has table.inputs literal.name) cube ≡ false → (name output : List ℕ) → IsLoss name (cube ∷ []) (Some (named output table)) (Some 0)
  unfolding named
  unread_table_loss cube e name output = unread_loss name cube (named output table) e

  pub told_loss : (cube : Cube) (count long rest lost : ℕ) → IsOverInputs table → HasWidth table.cover.width table.cover.rows → all_different table.inputs ≡ true → is_apart cube ≡ true → AreOnce table.cover.rows
      → long ≡ length cube → 1 ≤ length cube → rest ≡ long - 1 → length table.inputs < MAX_INPUTS → list_all (λ (literal : Literal). has table.inputs literal.name) cube ≡ true
      → count ≡ many (row_contains (row_over table.inputs cube)) table.cover.rows → (count ≡ 0 → ⊥) → lost ≡ count * rest
      → (name output : List ℕ) → has table.inputs name ≡ false → IsLoss name (cube ∷ []) (Some (named output table)) (Some lost)
  unfolding named
  told_loss cube count long rest lost over widths once apart differ long_is some rest_is few read count_is counted lost_is name output free =
      rows_loss name cube (named output table) (characters_wide (length table.inputs) table.cover.rows (subst (λ (w : ℕ). HasWidth w table.cover.rows) over widths)) once free apart
      (subst AreOnce (sym (rows_back name (cube ∷ []) output)) differ) count rest lost (omega (arith, long_is, some, rest_is)) few read
      (count_is ∙ ap (many (row_contains (row_over table.inputs cube))) (sym (rows_back name (cube ∷ []) output))) (at_least count counted) lost_is
    where
      at_least : (n : ℕ) → (n ≡ 0 → ⊥) → 1 ≤ n
      at_least zero h = absurd (h refl)
      at_least (suc n) h = omega arith

-- ---- distinct rows

once_push : {X : Type 0} (xs : List X) (x : X) → AreOnce xs → (Has x xs → ⊥) → AreOnce (xs ++ x ∷ [])
once_push [] x h away = (λ m. m, tt)
once_push (y ∷ xs) x h away = (
  λ m. elim (Has-append y xs (x ∷ []) m) as (λ _. ⊥) [
    | inl n ↦ h.0 n
    | inr n ↦ elim n as (λ _. ⊥) [ inl e ↦ away (inl (sym e)) | inr none ↦ none ]
  ],
  once_push xs x h.1 (λ m. away (inr m)),
)

-- one more row
module _ {X : Type 0} (literals : X → List (Option Bool)) (rows : List X) (i : ℕ) (row d : X) (keys new_keys : List (List (Option Bool))) (below : i < length rows) (is : row ≡ get_or rows i row)
    (keys_is : keys ≡ map literals (take i rows)) (new_is : new_keys ≡ keys ++ literals row ∷ []) where
  pub keys_next : new_keys ≡ map literals (take (i + 1) rows)
  keys_next = new_is ∙ (ap (λ (ks : List (List (Option Bool))). ks ++ literals row ∷ []) keys_is ∙ sym (map-take literals rows i row below is))

  pub once_next : AreOnce (map literals (take i rows)) → (Has (literals row) keys → ⊥) → AreOnce (map literals (take (i + 1) rows))
  once_next once away =
      subst AreOnce (sym (map-take literals rows i row below is))
      (once_push (map literals (take i rows)) (literals row) once (λ m. away (subst (λ (ks : List (List (Option Bool))). Has (literals row) ks) (sym keys_is) m)))

pub not_among : (row : List (Option Bool)) (rows : List (List (Option Bool))) → list_any (row_eq row) rows ≡ false → Has row rows → ⊥
not_among row rows e m = false≢true (sym e ∙ has_any row rows m)
