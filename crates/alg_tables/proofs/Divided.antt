-- The computation of a divided table, and of the table of a cover.
use Rattle.std.proofs.Common.{◌≡◌, ℕ, ◌+◌, ◌<◌, zero, suc, Bool, true, false, not, ◌||◌, if◌then◌else◌, Option, Some, None, List, [], ◌∷◌, ◌++◌, map, length, get_or, drop, eqb, ne_eqb, nat_cmp, Ordering, Equal, sym, ap, ap₂, ◌∙◌, subst, arith, append_assoc}
use Rattle.std.specs.Cmp.Lexicographic.{slice_cmp, nat_list_cmp_total}
use Rattle.std.specs.Ordering.{ordering_then}
use Rattle.std.proofs.lemmas.List.{length-map}
use Rattle.std.proofs.Math.Bool.{or-true}
use Rattle.sis_base.specs.Rows.{HasWidth}
use Rattle.circuit_model.specs.declared.circuit.Table.{Table}
use Rattle.cube_cover.specs.Covers.{Shape}
use Rattle.alg_div.specs.Cubes.{products}
use Rattle.alg_div.specs.Quotient.{IsQuotient, others}
use Rattle.cover_names.specs.Literals.{Cube, NamedCover}
use Rattle.cover_names.specs.Cubes.{literal_of, row_over, is_over, names_in}
use Rattle.cover_names.specs.declared.literal.Literal.{Literal}
use Rattle.cover_names.proofs.Orders.{IsOrder, literal_order}
use Rattle.net_core.specs.Tables.{places_of, characters_of, named, IsOverInputs}
use Rattle.net_core.specs.declared.table.CoverTable.{CoverTable}
use Rattle.net_core.proofs.Rows.{all_places_back}
use Rattle.circuit_tables.specs.Tidy.{tidied}
use Rattle.alg_tables.specs.Dividing.{quotient, rejoined, has_no_cube, quotient_by, is_undivided, divided, sorted_names, cover_table}
use Rattle.alg_tables.specs.Containing.{rows_have_each}
use Rattle.alg_tables.proofs.Containing.{none_without}
use Rattle.alg_tables.proofs.Quotients.{quotient_found}
use Rattle.alg_tables.proofs.Divisions.{joined_rows, ended_wide, both_wide}

-- ---- lists that are read one after the other

drop_next : {X : Type 0} (xs : List X) (i : ℕ) (x : X) → i < length xs → x ≡ get_or xs i x
    → drop i xs ≡ x ∷ drop (i + 1) xs
drop_next xs i x lt e = let n : suc i ≡ i + 1 = omega arith in next xs i lt e
    ∙ ap (λ (k : ℕ). x ∷ drop k xs) n
  where
    next : (ys : List _) (j : ℕ) → j < length ys → x ≡ get_or ys j x
        → drop j ys ≡ x ∷ drop (suc j) ys
    next [] j lt e = absurd (omega (arith, lt))
    next (y ∷ ys) zero lt e = ap (λ z. z ∷ ys) (sym e)
    next (y ∷ ys) (suc j) lt e = next ys j (omega (arith, lt)) e

-- the names of one more cube
pub names_more : (cover : NamedCover) (i : ℕ) (cube read : Cube) (names more : List (List ℕ))
    → i < length cover → cube ≡ get_or cover i cube → read ≡ cube
    → more ≡ names ++ map (λ (literal : Literal). literal.name) read
    → names ++ names_in (drop i cover) ≡ names_in cover
    → more ++ names_in (drop (i + 1) cover) ≡ names_in cover
names_more cover i cube read names more lt at same put so_far =
    ap (λ (xs : List (List ℕ)). xs ++ names_in (drop (i + 1) cover))
    (put ∙ ap (λ (c : Cube). names ++ map (λ (literal : Literal). literal.name) c) same)
    ∙ append_assoc names (map (λ (literal : Literal). literal.name) cube)
    (names_in (drop (i + 1) cover))
    ∙ ap (λ (c : NamedCover). names ++ names_in c) (sym (drop_next cover i cube lt at))
    ∙ so_far

-- ---- widths

pub rows_wide : (names : List (List ℕ)) (cover : NamedCover)
    → HasWidth (length names) (map (row_over names) cover)
unfolding HasWidth
rows_wide names [] = tt
rows_wide names (cube ∷ cover) = (length-map names (literal_of cube), rows_wide names cover)

pub rows_placed : (width : ℕ) (names inputs : List (List ℕ)) (cover : NamedCover)
    (rows read : List (List (Option Bool))) → width ≡ length names → inputs ≡ names
    → rows ≡ map (row_over inputs) cover → read ≡ rows → HasWidth width read
rows_placed width names inputs cover rows read long same made is =
    subst (λ (xs : List (List (Option Bool))). HasWidth width xs)
    (sym (is ∙ made ∙ ap (λ (xs : List (List ℕ)). map (row_over xs) cover) same))
    (subst (λ (n : ℕ). HasWidth n (map (row_over names) cover)) (sym long) (rows_wide names cover))

pub ended_rows : (width first second : ℕ) (bit : Bool)
    (q r q' r' start ended all read : List (List (Option Bool))) → width ≡ suc first
    → width ≡ suc second → HasWidth first q → HasWidth second r
    → q' ≡ q → r' ≡ r → start ≡ [] → ended ≡ start ++ map (λ row. row ++ Some bit ∷ []) q'
    → all ≡ ended ++ map (λ row. row ++ None ∷ []) r' → read ≡ all → HasWidth width read
ended_rows width first second bit q r q' r' start ended all read a b wide wide' same same' none put
    put' is =
    subst (λ (xs : List (List (Option Bool))). HasWidth width xs)
    (sym (is ∙ put' ∙ ap₂ (λ (xs ys : List (List (Option Bool))). xs
    ++ map (λ row. row ++ None ∷ []) ys)
    (put ∙ ap₂ (λ (xs ys : List (List (Option Bool))). xs ++ map (λ row. row ++ Some bit ∷ []) ys)
    none same) same'))
    (both_wide width (map (λ row. row ++ Some bit ∷ []) q) (map (λ row. row ++ None ∷ []) r)
    (subst (λ (n : ℕ). HasWidth n (map (λ row. row ++ Some bit ∷ []) q)) (sym a)
    (ended_wide first q (Some bit) wide))
    (subst (λ (n : ℕ). HasWidth n (map (λ row. row ++ None ∷ []) r)) (sym b)
    (ended_wide second r None wide')))

-- the divisor that the program makes has those rows
pub divisor_rows : (inputs read : List (List ℕ)) (cover : NamedCover) (divisor : Shape)
    (rows copies : List (List (Option Bool))) → read ≡ inputs → rows ≡ map (row_over read) cover
    → copies ≡ rows
    → divisor.rows ≡ copies → divisor.rows ≡ map (row_over inputs) cover
divisor_rows inputs read cover divisor rows copies same made is put = put ∙ is ∙ made
    ∙ ap (λ (xs : List (List ℕ)). map (row_over xs) cover) same

-- ---- the divided table

none_of : {X : Type 0} (f : X → List (Option Bool)) (xs : List X) (q : List (List (Option Bool)))
    (b : Bool) → map f xs ≡ q → b ≡ eqb (length xs) 0 → has_no_cube q ≡ b
none_of f [] q b e h = ap has_no_cube (sym e) ∙ sym h
none_of f (x ∷ xs) q b e h = ap has_no_cube (sym e)
    ∙ sym (h ∙ ne_eqb (suc (length xs)) 0 (λ k. omega (arith, k)))

-- a table that does not read all that the cover reads stays
pub unread_stays : (name : List ℕ) (bit : Bool) (cover : NamedCover) (table : Table)
    → is_over table.inputs cover ≡ false → divided name bit cover table ≡ table
unfolding divided
unread_stays name bit cover table e =
    ap (λ (b : Bool). if not b || has_no_cube (quotient (length table.inputs)
    (map places_of table.rows) (map (row_over table.inputs) cover)) then table
    else tidied (rejoined name bit table (map (row_over table.inputs) cover)
    (quotient (length table.inputs) (map places_of table.rows)
    (map (row_over table.inputs) cover)))) e

-- one whose quotient has no cube stays too
pub undivided_stays : (name : List ℕ) (bit : Bool) (cover : NamedCover) (table : Table)
    → has_no_cube (quotient (length table.inputs) (map places_of table.rows)
    (map (row_over table.inputs) cover)) ≡ true → divided name bit cover table ≡ table
unfolding divided
undivided_stays name bit cover table e =
    ap (λ (b : Bool). if b then table
    else tidied (rejoined name bit table (map (row_over table.inputs) cover)
    (quotient (length table.inputs) (map places_of table.rows)
    (map (row_over table.inputs) cover))))
    (ap (λ (b : Bool). not (is_over table.inputs cover) || b) e
    ∙ or-true (not (is_over table.inputs cover)))

-- and the cover does not divide it
empty_undivided : (cover : NamedCover) (table : Table)
    → has_no_cube (quotient_by cover table) ≡ true → true ≡ is_undivided cover table
empty_undivided cover table e =
    sym (ap (λ (b : Bool). not (is_over table.inputs cover) || b) e
    ∙ or-true (not (is_over table.inputs cover)))

module _ {R : Type 0} (table : CoverTable R) (name : List ℕ) (bit : Bool) (cover : NamedCover) where
  -- the quotient that the program finds
  pub quotient_over : (divisor : Shape) (q : List (List (Option Bool)))
      → IsOverInputs table → HasWidth table.cover.width table.cover.rows
      → divisor.rows ≡ map (row_over table.inputs) cover
      → IsQuotient table.cover.width table.cover.rows divisor.rows q
      → q ≡ quotient (length table.inputs) table.cover.rows (map (row_over table.inputs) cover)
  quotient_over divisor q over wide same is =
      quotient_found table.cover.width table.cover.rows divisor.rows q wide is
      ∙ ap₂ (λ (n : ℕ) (d : List (List (Option Bool))). quotient n table.cover.rows d) over same

  -- the quotient of the rows of a cover is that of their characters
  pub quotient_named : (q : List (List (Option Bool))) (output : List ℕ)
      → q ≡ quotient (length table.inputs) table.cover.rows (map (row_over table.inputs) cover)
      → q ≡ quotient_by cover (named output table)
  unfolding named
  quotient_named q output is =
      is ∙ ap (λ (f : List (List (Option Bool))). quotient (length table.inputs) f
      (map (row_over table.inputs) cover)) (sym (all_places_back table.cover.rows))

  -- whether the cover divides the table, as the program computes it
  pub unread_whole : (inputs : List (List ℕ)) (answer : Bool) → answer ≡ is_over inputs cover
      → inputs ≡ table.inputs → answer ≡ false
      → (output : List ℕ) → true ≡ is_undivided cover (named output table)
  unfolding named
  unread_whole inputs answer is same lacks output =
      ap (λ (b : Bool). not b || has_no_cube (quotient_by cover (named output table)))
      (sym lacks ∙ is ∙ ap (λ (xs : List (List ℕ)). is_over xs cover) same)

  no_cube : {X : Type 0} (f : X → List (Option Bool)) (xs : List X) (answer : Bool)
      (divisor : Shape) (q : List (List (Option Bool))) → IsOverInputs table
      → HasWidth table.cover.width table.cover.rows
      → divisor.rows ≡ map (row_over table.inputs) cover
      → IsQuotient table.cover.width table.cover.rows divisor.rows q
      → map f xs ≡ q → answer ≡ eqb (length xs) 0 → (output : List ℕ)
      → has_no_cube (quotient_by cover (named output table)) ≡ answer
  no_cube f xs answer divisor q over wide same is read long output =
      ap has_no_cube (sym (quotient_named q output (quotient_over divisor q over wide same is)))
      ∙ none_of f xs q answer read long

  pub empty_whole : {X : Type 0} (f : X → List (Option Bool)) (xs : List X) (answer : Bool)
      (divisor : Shape) (q : List (List (Option Bool))) → IsOverInputs table
      → HasWidth table.cover.width table.cover.rows
      → divisor.rows ≡ map (row_over table.inputs) cover
      → IsQuotient table.cover.width table.cover.rows divisor.rows q
      → map f xs ≡ q → answer ≡ eqb (length xs) 0 → answer ≡ true → (output : List ℕ)
      → true ≡ is_undivided cover (named output table)
  empty_whole f xs answer divisor q over wide same is read long none output =
      empty_undivided cover (named output table)
      (no_cube f xs answer divisor q over wide same is read long output ∙ none)

  -- a cube of the divisor has literals that no row has all
  lacking : (answer : Bool) (divisor : Shape) → IsOverInputs table
      → HasWidth table.cover.width table.cover.rows
      → divisor.rows ≡ map (row_over table.inputs) cover
      → answer ≡ rows_have_each divisor.rows table.cover.rows → answer ≡ false
      → (output : List ℕ) → has_no_cube (quotient_by cover (named output table)) ≡ true
  unfolding named
  lacking answer divisor over wide same is lacks output =
      ap (λ (f : List (List (Option Bool))). has_no_cube (quotient (length table.inputs) f
      (map (row_over table.inputs) cover))) (all_places_back table.cover.rows)
      ∙ none_without (length table.inputs) table.cover.rows (map (row_over table.inputs) cover)
      (subst (λ (n : ℕ). HasWidth n table.cover.rows) over wide)
      (ap (λ (d : List (List (Option Bool))). rows_have_each d table.cover.rows) (sym same)
      ∙ sym is ∙ lacks)

  pub lacking_whole : (answer : Bool) (divisor : Shape) → IsOverInputs table
      → HasWidth table.cover.width table.cover.rows
      → divisor.rows ≡ map (row_over table.inputs) cover
      → answer ≡ rows_have_each divisor.rows table.cover.rows → answer ≡ false
      → (output : List ℕ) → true ≡ is_undivided cover (named output table)
  lacking_whole answer divisor over wide same is lacks output =
      empty_undivided cover (named output table)
      (lacking answer divisor over wide same is lacks output)

  pub turned_whole : {X : Type 0} (f : X → List (Option Bool)) (xs : List X)
      (inputs : List (List ℕ)) (over_all answer : Bool) (divisor : Shape)
      (q : List (List (Option Bool))) → IsOverInputs table
      → HasWidth table.cover.width table.cover.rows
      → divisor.rows ≡ map (row_over table.inputs) cover
      → IsQuotient table.cover.width table.cover.rows divisor.rows q
      → map f xs ≡ q → answer ≡ eqb (length xs) 0 → answer ≡ false → over_all ≡ is_over inputs cover
      → inputs ≡ table.inputs → over_all ≡ true
      → (output : List ℕ) → false ≡ is_undivided cover (named output table)
  unfolding named
  turned_whole f xs inputs over_all answer divisor q over wide same is read long some reads placed
      all output =
      sym (ap₂ (λ (a b : Bool). not a || b) (ap (λ (ys : List (List ℕ)). is_over ys cover)
      (sym placed) ∙ sym reads ∙ all)
      (no_cube f xs answer divisor q over wide same is read long output ∙ some))

  rejoined_named : (made : CoverTable R) (divisor : Shape) (q r : List (List (Option Bool)))
      (output : List ℕ) → divisor.rows ≡ map (row_over table.inputs) cover
      → r ≡ others table.cover.rows (products q divisor.rows)
      → made.inputs ≡ table.inputs ++ name ∷ [] → made.cover.rows
      ≡ map (λ row. row ++ Some bit ∷ []) q ++ map (λ row. row ++ None ∷ []) r
      → made.phase ≡ table.phase
      → named output made ≡ rejoined name bit (named output table)
      (map (row_over (named output table).inputs) cover) q
  unfolding named rejoined
  rejoined_named made divisor q r output same left inputs rows phase =
      ap₂ (λ (xs : List (List ℕ)) (ys : List (List (Option Bool))). record {
        inputs = xs;
        output = output;
        rows = map characters_of ys;
        phase = made.phase;
      }) inputs
      (rows ∙ ap (λ (ys : List (List (Option Bool))). map (λ row. row ++ Some bit ∷ []) q
      ++ map (λ row. row ++ None ∷ []) ys)
      (left ∙ ap₂ (λ (f d : List (List (Option Bool))). others f (products q d))
      (sym (all_places_back table.cover.rows)) same))
      ∙ ap (λ (b : Bool). record {
        inputs = table.inputs ++ name ∷ [];
        output = output;
        rows = map characters_of (joined_rows bit (map places_of
            (map characters_of table.cover.rows)) (map (row_over table.inputs) cover) q);
        phase = b;
      })
      phase

  -- a table that the cover does not divide stays, another one is the rejoined one in normal form
  pub stays_whole : (output : List ℕ) → true ≡ is_undivided cover (named output table)
      → divided name bit cover (named output table) ≡ named output table
  unfolding divided
  stays_whole output none =
      ap (λ (b : Bool). if b then named output table
      else tidied (rejoined name bit (named output table)
      (map (row_over (named output table).inputs) cover)
      (quotient_by cover (named output table)))) (sym none)

  pub turned : (divisor : Shape) (q r : List (List (Option Bool))) (made tidy : CoverTable R)
      → divisor.rows ≡ map (row_over table.inputs) cover
      → q ≡ quotient (length table.inputs) table.cover.rows (map (row_over table.inputs) cover)
      → r ≡ others table.cover.rows (products q divisor.rows)
      → made.inputs ≡ table.inputs ++ name ∷ [] → made.cover.rows
      ≡ map (λ row. row ++ Some bit ∷ []) q ++ map (λ row. row ++ None ∷ []) r
      → made.phase ≡ table.phase
      → ((output : List ℕ) → named output tidy ≡ tidied (named output made))
      → (output : List ℕ) → false ≡ is_undivided cover (named output table)
      → named output tidy ≡ divided name bit cover (named output table)
  unfolding divided
  turned divisor q r made tidy same is left put rows phase tidies output some =
      tidies output ∙ ap tidied (rejoined_named made divisor q r output same left put rows phase
      ∙ ap (λ (x : List (List (Option Bool))). rejoined name bit (named output table)
      (map (row_over (named output table).inputs) cover) x) (quotient_named q output is))
      ∙ sym (ap (λ (b : Bool). if b then named output table
      else tidied (rejoined name bit (named output table)
      (map (row_over (named output table).inputs) cover)
      (quotient_by cover (named output table)))) (sym some))

-- ---- the table of a cover

-- the order of names is total, and distinguishes them
same_names : (one other : List ℕ) → slice_cmp nat_cmp one other ≡ Equal → one ≡ other
same_names one other h =
    ap (λ (literal : Literal). literal.name) (literal_order.same (record { name = one; bit = true })
    (record { name = other; bit = true }) (ap (λ (o : Ordering). ordering_then o Equal) h))

pub name_order : IsOrder (slice_cmp nat_cmp)
name_order = record { total = nat_list_cmp_total; same = same_names }

pub cover_named : (R : Type 0) (inputs read : List (List ℕ)) (made : Shape) (cover : NamedCover)
    (rows : List (List (Option Bool))) (name : List ℕ) → inputs ≡ sorted_names cover → read ≡ inputs
    → rows ≡ map (row_over read) cover → made.rows ≡ rows
    → named {R = R} name (record { inputs = inputs; cover = made; phase = true })
    ≡ cover_table name cover
unfolding named cover_table
cover_named R inputs read made cover rows name sorted same put is =
    ap₂ (λ (xs : List (List ℕ)) (ys : List (List (Option Bool))). record {
      inputs = xs;
      output = name;
      rows = map characters_of ys;
      phase = true;
    }) sorted
    (is ∙ put ∙ ap (λ (xs : List (List ℕ)). map (row_over xs) cover) (same ∙ sorted))
