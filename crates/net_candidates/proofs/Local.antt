-- Sums of two cubes and products of two literals by which a table is divided are its own: two of
-- its rows have the cubes besides what they share, or one of its rows has the literals. So a
-- candidate of fx is one of each table that it divides.
use Rattle.std.proofs.Common.{◌≡◌, ◌≢◌, ◌⊎◌, ℕ, suc, Bool, true, false, not, Option, Some, None, List, [], ◌∷◌, map, length, bytes_eq, Less, refl, sym, ap, ap₂, ◌∙◌, subst, inl, inr}
use Rattle.std.specs.Bool.{beq}
use Rattle.std.specs.Cmp.{booleans_Decides}
use Rattle.std.specs.List.{list_all, list_any, AllByRecursion}
use Rattle.std.proofs.lemmas.Bool.{and_parts, and_from, or_cases, or_left, or_right, not-true, not_from_false, false≢true, false_from_ne_true}
use Rattle.std.proofs.lemmas.List.{length-map}
use Rattle.std.proofs.lemmas.List.Kept.{IsStrictlySortedBy-filter}
use Rattle.circuit_model.specs.Names.{has, all_different}
use Rattle.circuit_model.specs.declared.circuit.Table.{Table}
use Rattle.circuit_laws.proofs.Names.{same_name, name_itself}
use Rattle.cube_cover.specs.Literals.{literal_product}
use Rattle.alg_div.specs.Cubes.{Has, times}
use Rattle.alg_div.specs.Quotient.{IsTerm}
use Rattle.alg_div.proofs.Cubes.{length-times}
use Rattle.alg_div.proofs.Laws.{quotient-terms}
use Rattle.alg_div.proofs.Lists.{Has-map}
use Rattle.net_candidates.specs.Candidates.{ArePair, same_literal, own, cubes_of, IsDivisorOfTwoCubes, IsCubeOfTwoLiterals, IsCandidate}
use Rattle.net_candidates.specs.declared.rule.Rule.TheVariants.{Fx}
use Rattle.net_candidates.proofs.Sums.{same_or_pair}
use Rattle.net_candidates.proofs.Divisors.{has_in, in_has, map_at, found_literal, IsProperCube}
use Rattle.net_candidates.proofs.Gains.{IsDivided, divided_or_not}
use Rattle.net_candidates.proofs.Proper.{Rising, cubes_rise, pair_rises}
use Rattle.net_candidates.proofs.Usable.{all_member, all_pair, IsAmong, among_filtered, among_pair, IsReader, cubes_among}
use Rattle.cover_names.specs.Literals.{Cube, NamedCover, literal_cmp, cube_cmp, sorted, sorted_cube}
use Rattle.cover_names.specs.Cubes.{cube_over, literal_of, row_over, is_over}
use Rattle.cover_names.specs.declared.literal.Literal.{Literal}
use Rattle.cover_names.proofs.Back.{sorted_row_back}
use Rattle.cover_names.proofs.Members.{Has as IsIn}
use Rattle.cover_names.proofs.Names.{over_different, over_is_over, sorted_different}
use Rattle.cover_names.proofs.Orders.{not_below_itself, literal_order, cube_order}
use Rattle.cover_names.proofs.Sorting.{rises_head, sorted_keeps, sorted_rises, sorted_same, rising_same}
use Rattle.cover_names.proofs.Worth.{all_sorted, literals_stand}
use Rattle.net_core.specs.Tables.{places_of}
use Rattle.net_core.proofs.Rows.{width_of_characters}
use Rattle.alg_tables.specs.Dividing.{has_no_cube, divided}
use Rattle.alg_tables.proofs.Divisions.{AreApart, rows_of, divisor, found}
use Rattle.alg_tables.proofs.Quotients.{kept_has, has_kept, image_has, quotient_is, all_test}
use Rattle.circuit_tables.specs.Tidy.{IsWide}

-- ---- products, name by name

times_mapped : (f g : List ℕ → Option Bool) (names : List (List ℕ)) → times (map f names) (map g names) ≡ map (λ name. literal_product (f name) (g name)) names
unfolding times
times_mapped f g [] = refl
times_mapped f g (name ∷ names) = ap (λ (row : List (Option Bool)). literal_product (f name) (g name) ∷ row) (times_mapped f g names)

apart_named : (f g : List ℕ → Option Bool) (names : List (List ℕ)) → AreApart (map f names) (map g names) → (name : List ℕ) (bit : Bool) → has names name ≡ true → g name ≡ Some bit → f name ≡ None
apart_named f g [] apart name bit h e = absurd (false≢true h)
apart_named f g (first ∷ names) apart name bit h e =
    elim (or_cases (bytes_eq name first) (has names name) h) as (λ _. f name ≡ None) [
      | inl k ↦ ap f (same_name name first k) ∙ apart 0 bit (ap g (sym (same_name name first k)) ∙ e)
      | inr m ↦ apart_named f g names (λ i b. apart (suc i) b) name bit m e
    ]

-- ---- literals of a cube

-- the literal of a name and a bit
literal_from : List ℕ → Bool → Literal
literal_from name bit = record { name = name; bit = bit }

same_is : (one other : Literal) → same_literal one other ≡ true → one ≡ other
unfolding literal_from
same_is one other h =
    let parts = and_parts (bytes_eq one.name other.name) (beq one.bit other.bit) h in
    ap₂ literal_from (same_name one.name other.name parts.0) ((booleans_Decides one.bit other.bit).0 parts.1)

is_same : (one other : Literal) → one ≡ other → same_literal one other ≡ true
is_same one other e = subst (λ (x : Literal). same_literal one x ≡ true) e (and_from (bytes_eq one.name one.name) (beq one.bit one.bit) (name_itself one.name) ((booleans_Decides one.bit one.bit).1 refl))

any_literal : (literal : Literal) (cube : Cube) → list_any (same_literal literal) cube ≡ true → Has literal cube
any_literal literal [] h = absurd (false≢true h)
any_literal literal (first ∷ cube) h =
    elim (or_cases (same_literal literal first) (list_any (same_literal literal) cube) h) as (λ _. Has literal (first ∷ cube)) [
      | inl e ↦ inl (same_is literal first e)
      | inr n ↦ inr (any_literal literal cube n)
    ]

literal_any : (literal : Literal) (cube : Cube) → Has literal cube → list_any (same_literal literal) cube ≡ true
literal_any literal [] m = absurd m
literal_any literal (first ∷ cube) m =
    elim m as (λ _. list_any (same_literal literal) (first ∷ cube) ≡ true) [
      | inl e ↦ or_left (same_literal literal first) (list_any (same_literal literal) cube) (is_same literal first e)
      | inr n ↦ or_right (same_literal literal first) (list_any (same_literal literal) cube) (literal_any literal cube n)
    ]

-- the literals of a cube that another one lacks
pub own_has : (one other : Cube) (literal : Literal) → Has literal (own one other) → Has literal one × (Has literal other → ⊥)
own_has one other literal m =
    let parts = kept_has (λ (x : Literal). not (list_any (same_literal x) other)) one literal m in
    (parts.0, λ n. false≢true (sym (not-true (list_any (same_literal literal) other) parts.1) ∙ literal_any literal other n))

pub has_own : (one other : Cube) (literal : Literal) → Has literal one → (Has literal other → ⊥) → Has literal (own one other)
has_own one other literal m apart =
    has_kept (λ (x : Literal). not (list_any (same_literal x) other)) one literal m
    (not_from_false (list_any (same_literal literal) other) (false_from_ne_true (list_any (same_literal literal) other) (λ e. apart (any_literal literal other e))))

-- ---- the cubes of rows

-- the sorted cube of a row
abbrev pub cube_of : List (List ℕ) → List (Option Bool) → Cube
cube_of names row = sorted_cube (cube_over names row)

cube_proper : (names : List (List ℕ)) (row : List (Option Bool)) → all_different names ≡ true → IsProperCube names (cube_of names row)
cube_proper names row once = record {
  rises = sorted_rises literal_order (cube_over names row);
  apart = sorted_different (cube_over names row) (over_different names row once);
  over = all_sorted literal_order (λ (literal : Literal). has names literal.name) (cube_over names row) ∙ over_is_over names row;
}

literal_at : (names : List (List ℕ)) (cube : Cube) (literal : Literal) → IsProperCube names cube → Has literal cube → literal_of cube literal.name ≡ Some literal.bit
literal_at names cube literal proper m = all_member (λ (x : Literal). literal_of cube x.name ≡ Some x.bit) cube (literals_stand cube proper.apart) literal m

literal_named : (names : List (List ℕ)) (cube : Cube) (literal : Literal) → IsProperCube names cube → Has literal cube → has names literal.name ≡ true
literal_named names cube literal proper m = all_test (λ (x : Literal). has names x.name) cube literal proper.over m

product_front : (x y : Option Bool) (bit : Bool) → literal_product x y ≡ Some bit → (x ≡ Some bit) ⊎ (y ≡ Some bit)
product_front None y bit e = inr e
product_front (Some b) y bit e = inl e

-- rows that are products of one row and the rows of two cubes
module _ (names : List (List ℕ)) (once : all_different names ≡ true) (q : List (Option Bool)) (wide : length q ≡ length names) where
  abbrev pub made : Cube → List (Option Bool)
  made cube = times q (row_over names cube)

  pub made_wide : (cube : Cube) → length (made cube) ≡ length names
  made_wide cube = length-times q (row_over names cube) (wide ∙ sym (length-map names (literal_of cube))) ∙ wide

  place_made : (cube : Cube) (name : List ℕ) → has names name ≡ true → literal_of (cube_of names (made cube)) name ≡ literal_product (literal_of (cube_of names q) name) (literal_of cube name)
  place_made cube name h =
      map_at (literal_of (cube_of names (made cube))) (λ x. literal_product (literal_of (cube_of names q) x) (literal_of cube x)) names
      (sorted_row_back names (made cube) once (made_wide cube)
      ∙ (ap (λ (row : List (Option Bool)). times row (row_over names cube)) (sym (sorted_row_back names q once wide))
      ∙ times_mapped (literal_of (cube_of names q)) (literal_of cube) names)) name h

  place_apart : (cube : Cube) → AreApart q (row_over names cube) → (literal : Literal) → IsProperCube names cube → Has literal cube → literal_of (cube_of names q) literal.name ≡ None
  place_apart cube apart literal proper m =
      apart_named (literal_of (cube_of names q)) (literal_of cube) names
      (subst (λ (row : List (Option Bool)). AreApart row (row_over names cube)) (sym (sorted_row_back names q once wide)) apart)
      literal.name literal.bit (literal_named names cube literal proper m) (literal_at names cube literal proper m)

  made_has : (cube : Cube) → AreApart q (row_over names cube) → IsProperCube names cube → (literal : Literal) → Has literal cube → Has literal (cube_of names (made cube))
  made_has cube apart proper literal m =
      found_literal (cube_of names (made cube)) literal
      (place_made cube literal.name (literal_named names cube literal proper m)
      ∙ (ap (λ (x : Option Bool). literal_product x (literal_of cube literal.name)) (place_apart cube apart literal proper m) ∙ literal_at names cube literal proper m))

  -- what a product has is the row's or the cube's
  made_either : (cube : Cube) (literal : Literal) → Has literal (cube_of names (made cube)) → (literal_of (cube_of names q) literal.name ≡ Some literal.bit) ⊎ Has literal cube
  made_either cube literal m =
      let proper = cube_proper names (made cube) once in
      elim (product_front (literal_of (cube_of names q) literal.name) (literal_of cube literal.name) literal.bit
      (sym (place_made cube literal.name (literal_named names (cube_of names (made cube)) literal proper m)) ∙ literal_at names (cube_of names (made cube)) literal proper m))
      as (λ _. (literal_of (cube_of names q) literal.name ≡ Some literal.bit) ⊎ Has literal cube) [
        | inl e ↦ inl e
        | inr e ↦ inr (found_literal cube literal e)
      ]

  -- besides what the products share each has its own cube
  pub own_made : (one other : Cube) → IsProperCube names one → ((literal : Literal) → Has literal one → Has literal other → ⊥) → AreApart q (row_over names one)
      → own (cube_of names (made one)) (cube_of names (made other)) ≡ one
  own_made one other proper disjoint apart =
      rising_same literal_order (own (cube_of names (made one)) (cube_of names (made other))) one
      (IsStrictlySortedBy-filter literal_cmp _ (cube_of names (made one)) (cube_proper names (made one) once).rises) proper.rises
      (λ literal m. has_in literal one (to literal (in_has literal (own (cube_of names (made one)) (cube_of names (made other))) m)))
      (λ literal m. has_in literal (own (cube_of names (made one)) (cube_of names (made other))) (back literal (in_has literal one m)))
    where
      to : (literal : Literal) → Has literal (own (cube_of names (made one)) (cube_of names (made other))) → Has literal one
      to literal m =
          let parts = own_has (cube_of names (made one)) (cube_of names (made other)) literal m in
          elim (made_either one literal parts.0) as (λ _. Has literal one) [
            | inl e ↦ absurd (parts.1 (found_literal (cube_of names (made other)) literal
                (place_made other literal.name (literal_named names (cube_of names (made one)) literal (cube_proper names (made one) once) parts.0)
                ∙ ap (λ (x : Option Bool). literal_product x (literal_of other literal.name)) e)))
            | inr n ↦ n
          ]

      back : (literal : Literal) → Has literal one → Has literal (own (cube_of names (made one)) (cube_of names (made other)))
      back literal m =
          has_own (cube_of names (made one)) (cube_of names (made other)) literal (made_has one apart proper literal m)
          (λ n. elim (made_either other literal n) as (λ _. ⊥) [
            | inl e ↦ none_some literal.bit (sym (place_apart one apart literal proper m) ∙ e)
            | inr k ↦ disjoint literal m k
          ])
        where
          none_some : (bit : Bool) → ◌≡◌ {A = Option Bool} None (Some bit) → ⊥
          none_some bit e = absurd cc

-- ---- pairs of rows

pair_either : {X : Type 0} (xs : List X) (x y : X) → Has x xs → Has y xs → (x ≡ y → ⊥) → ArePair xs x y ⊎ ArePair xs y x
pair_either xs x y m n apart = elim (same_or_pair xs x y m n) as (λ _. ArePair xs x y ⊎ ArePair xs y x) [ inl e ↦ absurd (apart e) | inr pair ↦ pair ]

two_turned : (one other : Cube) → sorted cube_cmp (one ∷ other ∷ []) ≡ sorted cube_cmp (other ∷ one ∷ [])
two_turned one other =
    sorted_same cube_order (one ∷ other ∷ []) (other ∷ one ∷ []) (λ x m. turned one other x m) (λ x m. turned other one x m)
  where
    turned : (a b x : Cube) → IsIn x (a ∷ b ∷ []) → IsIn x (b ∷ a ∷ [])
    turned a b x (inl e) = inr (inl e)
    turned a b x (inr (inl e)) = inl e
    turned a b x (inr (inr n)) = absurd n

some_own : (one other : Cube) → own one other ≢ [] → one ≡ other → ⊥
some_own one other some e = cases (own one other) refl some
  where
    cases : (cube : Cube) → cube ≡ own one other → cube ≢ [] → ⊥
    cases [] k h = h refl
    cases (literal ∷ cube) k h =
        let parts = own_has one other literal (subst (λ (x : Cube). Has literal x) k (inl refl)) in
        parts.1 (subst (λ (x : Cube). Has literal x) e parts.0)

-- a row of a table has its cube among the table's
row_has : (table : Table) (row : List (Option Bool)) → Has row (map places_of table.rows) → Has (cube_of table.inputs row) (cubes_of table)
row_has table row m =
    let (written, among, e) = image_has places_of table.rows row m in
    subst (λ (x : List (Option Bool)). Has (cube_of table.inputs x) (cubes_of table)) (sym e)
    (Has-map (λ r. sorted_cube (cube_over table.inputs (places_of r))) written table.rows among)

-- ---- sums of two cubes

-- a sorted sum of two cubes that both have literals, and none in common
pub record IsSum (names : List (List ℕ)) (cover : NamedCover) : Type 0 where
  pub one : Cube
  pub other : Cube
  pub left : one ≢ []
  pub right : other ≢ []
  pub disjoint : (literal : Literal) → Has literal one → Has literal other → ⊥
  pub first : IsProperCube names one
  pub second : IsProperCube names other
  pub is : cover ≡ sorted cube_cmp (one ∷ other ∷ [])

some_cube : (rows : List (List (Option Bool))) → has_no_cube rows ≡ false → (row : List (Option Bool)) × Has row rows
some_cube [] h = absurd (false≢true (sym h))
some_cube (row ∷ rows) h = (row, inl refl)

-- a sum of two cubes by which a table is divided is one of the table's own
pub sum_is_own : (name : List ℕ) (bit : Bool) (cover : NamedCover) (table : Table) → IsWide table → all_different table.inputs ≡ true → IsSum table.inputs cover → IsDivided name bit cover table
    → IsDivisorOfTwoCubes table cover
sum_is_own name bit cover table wide once sum way =
    let names : List (List ℕ) = table.inputs in
    let rows = rows_of name bit cover table in
    let (q, among) = some_cube (found name bit cover table) way.some in
    let term : IsTerm (length names) rows (divisor name bit cover table) q =
    quotient-terms (length names) rows (divisor name bit cover table) (found name bit cover table)
    (quotient_is (length names) rows (divisor name bit cover table) (width_of_characters (length names) table.rows wide)) q among in
    let in_cover : (cube : Cube) → Has cube (sum.one ∷ sum.other ∷ []) → Has (row_over names cube) (divisor name bit cover table) =
    λ cube m. Has-map (row_over names) cube cover
    (subst (λ (x : NamedCover). Has cube x) (sym sum.is)
    (in_has cube (sorted cube_cmp (sum.one ∷ sum.other ∷ [])) (sorted_keeps cube_order (sum.one ∷ sum.other ∷ []) cube (has_in cube (sum.one ∷ sum.other ∷ []) m)))) in
    let left = in_cover sum.one (inl refl) in
    let right = in_cover sum.other (inr (inl refl)) in
    let x : Cube = cube_of names (times q (row_over names sum.one)) in
    let y : Cube = cube_of names (times q (row_over names sum.other)) in
    let a : own x y ≡ sum.one = own_made names once q term.wide sum.one sum.other sum.first sum.disjoint (term.apart (row_over names sum.one) left) in
    let b : own y x ≡ sum.other = own_made names once q term.wide sum.other sum.one sum.second (λ literal m n. sum.disjoint literal n m) (term.apart (row_over names sum.other) right) in
    let some_x : own x y ≢ [] = subst (λ (cube : Cube). cube ≢ []) (sym a) sum.left in
    let some_y : own y x ≢ [] = subst (λ (cube : Cube). cube ≢ []) (sym b) sum.right in
    elim (pair_either (cubes_of table) x y (row_has table _ (term.rows (row_over names sum.one) left)) (row_has table _ (term.rows (row_over names sum.other) right)) (some_own x y some_x))
    as (λ _. IsDivisorOfTwoCubes table cover) [
      | inl pair ↦ record {
        one = x;
        other = y;
        rows = pair;
        left = some_x;
        right = some_y;
        is = sum.is ∙ ap₂ (λ (c d : Cube). sorted cube_cmp (c ∷ d ∷ [])) (sym a) (sym b);
      }
      | inr pair ↦ record {
        one = y;
        other = x;
        rows = pair;
        left = some_y;
        right = some_x;
        is = sum.is ∙ (two_turned sum.one sum.other ∙ ap₂ (λ (c d : Cube). sorted cube_cmp (c ∷ d ∷ [])) (sym b) (sym a));
      }
    ]

-- two cubes besides what two rows of some table share are such a sum
pub sum_of : (signals names : List (List ℕ)) (from : Table) (cover : NamedCover) → IsReader signals from → IsDivisorOfTwoCubes from cover → is_over names cover ≡ true → IsSum names cover
sum_of signals names from cover reader is over =
    let among = all_pair (IsAmong signals) (cubes_of from) is.one is.other (cubes_among signals from reader) is.rows in
    let rise = all_pair Rising (cubes_of from) is.one is.other (cubes_rise from) is.rows in
    let one : Cube = own is.one is.other in
    let other : Cube = own is.other is.one in
    let over_cube : (cube : Cube) → Has cube (one ∷ other ∷ []) → list_all (λ (literal : Literal). has names literal.name) cube ≡ true =
    λ cube m. all_test (λ (x : Cube). list_all (λ (literal : Literal). has names literal.name) x) cover cube over
    (subst (λ (x : NamedCover). Has cube x) (sym is.is)
    (in_has cube (sorted cube_cmp (one ∷ other ∷ [])) (sorted_keeps cube_order (one ∷ other ∷ []) cube (has_in cube (one ∷ other ∷ []) m)))) in record {
      one = one;
      other = other;
      left = is.left;
      right = is.right;
      disjoint = λ literal m n. (own_has is.one is.other literal m).1 (own_has is.other is.one literal n).0;
      first = record { rises = IsStrictlySortedBy-filter literal_cmp _ is.one rise.0; apart = (among_filtered signals _ is.one among.0).apart; over = over_cube one (inl refl) };
      second = record { rises = IsStrictlySortedBy-filter literal_cmp _ is.other rise.1; apart = (among_filtered signals _ is.other among.1).apart; over = over_cube other (inr (inl refl)) };
      is = is.is;
    }

-- ---- products of two literals

below_apart : (x y : Literal) → literal_cmp x y ≡ Less → x ≡ y → ⊥
below_apart x y h e = not_below_itself literal_order.total x (subst (λ (z : Literal). literal_cmp x z ≡ Less) (sym e) h)

-- of two literals of a cube that rises the lower one comes first
rising_pair : (cube : Cube) (x y : Literal) → Rising cube → literal_cmp x y ≡ Less → Has x cube → Has y cube → ArePair cube x y
rising_pair cube x y rise below m n =
    elim (pair_either cube x y m n (below_apart x y below)) as (λ _. ArePair cube x y) [
      | inl pair ↦ pair
      | inr pair ↦ absurd (not_below_itself literal_order.total x
          (literal_order.total.trans x y x below (rises_head literal_order y (x ∷ []) (pair_rises cube y x rise pair) x (inl refl))))
    ]

-- a product of two literals by which a table is divided is one of the table's own
pub product_is_own : (signals : List (List ℕ)) (name : List ℕ) (bit : Bool) (cover : NamedCover) (from table : Table) → IsWide table → all_different table.inputs ≡ true → IsReader signals from
    → IsCubeOfTwoLiterals from cover → IsDivided name bit cover table → IsCubeOfTwoLiterals table cover
product_is_own signals name bit cover from table wide once reader is way =
    let names : List (List ℕ) = table.inputs in
    let rows = rows_of name bit cover table in
    let pair : Cube = is.one ∷ is.other ∷ [] in
    let (q, among) = some_cube (found name bit cover table) way.some in
    let term : IsTerm (length names) rows (divisor name bit cover table) q =
    quotient-terms (length names) rows (divisor name bit cover table) (found name bit cover table)
    (quotient_is (length names) rows (divisor name bit cover table) (width_of_characters (length names) table.rows wide)) q among in
    let in_cover : Has pair cover = subst (λ (x : NamedCover). Has pair x) (sym is.is) (inl refl) in
    let rise : Rising pair = pair_rises is.cube is.one is.other (all_member Rising (cubes_of from) (cubes_rise from) is.cube is.among) is.literals in
    let proper : IsProperCube names pair = record {
      rises = rise;
      apart = (among_pair signals is.cube is.one is.other (all_member (IsAmong signals) (cubes_of from) (cubes_among signals from reader) is.cube is.among) is.literals).apart;
      over = all_test (λ (x : Cube). list_all (λ (literal : Literal). has names literal.name) x) cover pair way.over in_cover;
    } in
    let here = Has-map (row_over names) pair cover in_cover in
    let apart = term.apart (row_over names pair) here in
    let cube : Cube = cube_of names (times q (row_over names pair)) in
    record {
      cube = cube;
      among = row_has table _ (term.rows (row_over names pair) here);
      one = is.one;
      other = is.other;
      literals = rising_pair cube is.one is.other (sorted_rises literal_order (cube_over names (times q (row_over names pair)))) (rises_head literal_order is.one (is.other ∷ []) rise is.other (inl refl))
          (made_has names once q term.wide pair apart proper is.one (inl refl)) (made_has names once q term.wide pair apart proper is.other (inr (inl refl)));
      is = is.is;
    }

-- ---- candidates of fx

-- what fx may extract is a candidate of each table that it divides
pub candidate_local : (signals : List (List ℕ)) (tables : List Table) (name : List ℕ) (bit : Bool) (cover : NamedCover) (table : Table) → AllByRecursion (IsReader signals) tables → IsCandidate Fx tables cover
    → IsWide table → all_different table.inputs ≡ true → IsDivided name bit cover table → IsCandidate Fx (table ∷ []) cover
candidate_local signals tables name bit cover table readers (from, among, inl is) wide once way =
    (table, inl refl, inl (sum_is_own name bit cover table wide once (sum_of signals table.inputs from cover (all_member (IsReader signals) tables readers from among) is way.over) way))
candidate_local signals tables name bit cover table readers (from, among, inr is) wide once way =
    (table, inl refl, inr (product_is_own signals name bit cover from table wide once (all_member (IsReader signals) tables readers from among) is way))

-- and a table stays as it is if what fx may extract is not a candidate of its own
pub not_local_stays : (signals : List (List ℕ)) (tables : List Table) (name : List ℕ) (bit : Bool) (cover : NamedCover) (table : Table) → AllByRecursion (IsReader signals) tables → IsCandidate Fx tables cover
    → IsWide table → all_different table.inputs ≡ true → (IsCandidate Fx (table ∷ []) cover → ⊥) → divided name bit cover table ≡ table
not_local_stays signals tables name bit cover table readers is wide once none =
    elim (divided_or_not name bit cover table) as (λ _. divided name bit cover table ≡ table) [
      | inl way ↦ absurd (none (candidate_local signals tables name bit cover table readers is wide once way))
      | inr e ↦ e
    ]
