-- Products of two literals: the rows that have both are the products of the quotient's cubes and
-- the two literals.
use Rattle.std.proofs.Common.{◌≡◌, ℕ, Bool, true, false, ◌&&◌, cond, Option, Some, List, [], ◌∷◌, map, length, Less, refl, sym, ap, ◌∙◌, subst, inl, inr}
use Rattle.std.specs.List.{sum_by}
use Rattle.std.proofs.lemmas.Bool.{and_parts, and_from, false≢true}
use Rattle.std.proofs.lemmas.List.{length-map}
use Rattle.sis_base.specs.Rows.{HasWidth}
use Rattle.circuit_model.specs.Names.{has, all_different}
use Rattle.alg_div.specs.Cubes.{Has, times}
use Rattle.alg_div.specs.Quotient.{IsTerm, IsQuotient}
use Rattle.alg_div.proofs.Laws.{quotient-terms}
use Rattle.alg_div.proofs.Terms.{width-has}
use Rattle.net_candidates.specs.Candidates.{own}
use Rattle.net_candidates.proofs.Divisors.{has_in, found_literal, rising_once, IsProperCube}
use Rattle.net_candidates.proofs.Local.{cube_of, own_has, own_made}
use Rattle.net_candidates.proofs.Products.{quotient_once, product_tells}
use Rattle.net_candidates.proofs.Proper.{Rising}
use Rattle.net_candidates.proofs.Sums.{AreOnce}
use Rattle.net_candidates.proofs.Usable.{all_member}
use Rattle.cover_names.specs.Literals.{Cube, NamedCover, literal_cmp}
use Rattle.cover_names.specs.Cubes.{cube_over, literal_of, row_over, is_over}
use Rattle.cover_names.specs.declared.literal.Literal.{Literal}
use Rattle.cover_names.proofs.Back.{sorted_row_back}
use Rattle.cover_names.proofs.Orders.{literal_order, not_below_itself}
use Rattle.cover_names.proofs.Sorting.{rises_head, rises_tail, sorted_rises}
use Rattle.cover_names.proofs.Worth.{names_of, literals_stand}
use Rattle.net_gains.specs.Gains.{over_pairs, same_cover, product_gain}
use Rattle.net_gains.proofs.Covers.{same_cover_is, is_same_cover}
use Rattle.net_gains.proofs.PairSums.{sum_ones, Before, one_before, items_are, pairs_are}
use Rattle.net_gains.proofs.PairPlaces.{stands, stands_is, is_standing, times_inner, inner_is_apart}
use Rattle.net_gains.proofs.RowCubes.{cube_among, quotient_every}
use Rattle.alg_tables.proofs.Divided.{rows_wide}
use Rattle.alg_tables.proofs.Divisions.{AreApart}
use Rattle.alg_tables.proofs.Quotients.{all_test}

-- in a rising cube what comes first is less than what comes later
before_below : (cube : Cube) (one other : Literal) → Rising cube → Before one other cube → literal_cmp one other ≡ Less
before_below [] one other h m = absurd m
before_below (literal ∷ cube) one other h m =
    elim m as (λ _. literal_cmp one other ≡ Less) [
      | inl p ↦ subst (λ (x : Literal). literal_cmp x other ≡ Less) (sym p.0) (rises_head literal_order literal cube h other (has_in other cube p.1))
      | inr n ↦ before_below cube one other (rises_tail literal_order literal cube h) n
    ]

-- a literal of a cube is found by its name
member_at : (cube : Cube) (literal : Literal) → all_different (names_of cube) ≡ true → Has literal cube → literal_of cube literal.name ≡ Some literal.bit
member_at cube literal apart m = all_member (λ (x : Literal). literal_of cube x.name ≡ Some x.bit) cube (literals_stand cube apart) literal m

-- the literal of a name and a bit
literal_from : List ℕ → Bool → Literal
literal_from name bit = record { name = name; bit = bit }

module _ (one other : Literal) where
  -- the cover of both literals
  abbrev pub both : NamedCover
  both = (one ∷ other ∷ []) ∷ []

  -- whether a cube has both literals
  abbrev pub has_both : Cube → Bool
  has_both cube = stands (literal_of cube one.name) one.bit && stands (literal_of cube other.name) other.bit

  both_stand : (cube : Cube) → has_both cube ≡ true → (literal_of cube one.name ≡ Some one.bit) × (literal_of cube other.name ≡ Some other.bit)
  both_stand cube h =
      let parts = and_parts (stands (literal_of cube one.name) one.bit) (stands (literal_of cube other.name) other.bit) h in
      (stands_is (literal_of cube one.name) one.bit parts.0, stands_is (literal_of cube other.name) other.bit parts.1)

  members_both : (cube : Cube) → all_different (names_of cube) ≡ true → Has one cube → Has other cube → has_both cube ≡ true
  members_both cube apart m n =
      and_from (stands (literal_of cube one.name) one.bit) (stands (literal_of cube other.name) other.bit)
      (is_standing (literal_of cube one.name) one.bit (member_at cube one apart m)) (is_standing (literal_of cube other.name) other.bit (member_at cube other apart n))

  two_are : (first second : Literal) → same_cover both ((first ∷ second ∷ []) ∷ []) ≡ true → (one ≡ first) × (other ≡ second)
  two_are first second h = let e : both ≡ (first ∷ second ∷ []) ∷ [] = same_cover_is both ((first ∷ second ∷ []) ∷ []) h in (cc, cc)

  gain_is : (first second : Literal) → product_gain both first second ≡ cond {A = ℕ} (same_cover both ((first ∷ second ∷ []) ∷ [])) 1 0
  unfolding product_gain
  gain_is first second = refl

  -- the gains of a cube are the length of a list that has the first literal exactly if the cube has
  -- both
  counted : (cube : Cube) (found : List Literal) → Rising cube → AreOnce found
      → ((first second : Literal) → Has first cube → Has second cube → same_cover both ((first ∷ second ∷ []) ∷ []) ≡ true → Has one found)
      → ((literal : Literal) → Has literal found → (literal ≡ one) × Before one other cube)
      → over_pairs (product_gain both) cube ≡ length found
  counted cube found rise once to back =
      pairs_are (λ first second. same_cover both ((first ∷ second ∷ []) ∷ [])) (λ first second. one) (λ literal. one) (λ literal. other)
      (product_gain both) (λ literal. 1) cube found (rising_once literal_order cube rise) once
      (λ first second m n. gain_is first second)
      (λ first second m n h. (let e = two_are first second h in inl (sym e.0, sym e.1)))
      to
      (λ literal m. (let (e, before) = back literal m in (one, other, before, is_same_cover both both refl, sym e)))
      ∙ sum_ones found

  pub cube_gains : literal_cmp one other ≡ Less → (cube : Cube) → Rising cube → all_different (names_of cube) ≡ true → over_pairs (product_gain both) cube ≡ cond {A = ℕ} (has_both cube) 1 0
  cube_gains below cube rise apart = cases (has_both cube) refl
    where
      before : Has one cube → Has other cube → Before one other cube
      before m n =
          elim (one_before one other cube m n (λ e. not_below_itself literal_order.total one (subst (λ (x : Literal). literal_cmp one x ≡ Less) (sym e) below)))
          as (λ _. Before one other cube) [
            | inl first ↦ first
            | inr second ↦ absurd (not_below_itself literal_order.total one (literal_order.total.trans one other one below (before_below cube other one rise second)))
          ]

      cases : (b : Bool) → has_both cube ≡ b → over_pairs (product_gain both) cube ≡ cond {A = ℕ} b 1 0
      cases true h =
          let at = both_stand cube h in
          counted cube (one ∷ []) rise (λ m. m, tt) (λ first second m n k. inl refl)
          (λ literal m. elim m as (λ _. (literal ≡ one) × Before one other cube) [
            | inl e ↦ (e, before (found_literal cube one at.0) (found_literal cube other at.1))
            | inr n ↦ absurd n
          ])
      cases false h =
          counted cube [] rise tt
          (λ first second m n k.
          let e = two_are first second k in
          absurd (false≢true (sym h ∙ members_both cube apart (subst (λ (x : Literal). Has x cube) (sym e.0) m) (subst (λ (x : Literal). Has x cube) (sym e.1) n))))
          (λ literal m. absurd m)

  module _ (names : List (List ℕ)) (once : all_different names ≡ true) where
    -- names of which a row has both literals are those of the cover
    pub both_over : (row : List (Option Bool)) → has_both (cube_of names row) ≡ true → is_over names both ≡ true
    both_over row h =
        let at = both_stand (cube_of names row) h in
        let over = (cube_among names row once).over in
        and_from _ _
        (and_from _ _ (all_test (λ (x : Literal). has names x.name) (cube_of names row) one over (found_literal (cube_of names row) one at.0))
        (and_from _ _ (all_test (λ (x : Literal). has names x.name) (cube_of names row) other over (found_literal (cube_of names row) other at.1)) refl))
        refl

    pub row_gains : literal_cmp one other ≡ Less → (row : List (Option Bool)) → over_pairs (product_gain both) (cube_of names row) ≡ cond {A = ℕ} (has_both (cube_of names row)) 1 0
    row_gains below row = cube_gains below (cube_of names row) (sorted_rises literal_order (cube_over names row)) (cube_among names row once).apart

    module _ (rows : List (List (Option Bool))) (wide : HasWidth (length names) rows) (proper : IsProperCube names (one ∷ other ∷ [])) where
      -- what a row has besides both literals
      abbrev key : List (Option Bool) → List (Option Bool)
      key row = row_over names (own (cube_of names row) (one ∷ other ∷ []))

      inner : (row : List (Option Bool)) → has_both (cube_of names row) ≡ true → (name : List ℕ) (bit : Bool) → literal_of (one ∷ other ∷ []) name ≡ Some bit → literal_of (cube_of names row) name ≡ Some bit
      unfolding literal_from
      inner row h name bit e =
          let at = both_stand (cube_of names row) h in
          elim (found_literal (one ∷ other ∷ []) (literal_from name bit) e) as (λ _. literal_of (cube_of names row) name ≡ Some bit) [
            | inl k ↦ subst (λ (x : Literal). literal_of (cube_of names row) x.name ≡ Some x.bit) (sym k) at.0
            | inr n ↦ elim n as (λ _. literal_of (cube_of names row) name ≡ Some bit) [
              | inl k ↦ subst (λ (x : Literal). literal_of (cube_of names row) x.name ≡ Some x.bit) (sym k) at.1
              | inr l ↦ absurd l
            ]
          ]

      key_made : (row : List (Option Bool)) → Has row rows → has_both (cube_of names row) ≡ true → times (key row) (row_over names (one ∷ other ∷ [])) ≡ row
      key_made row m h =
          times_inner names (cube_of names row) (one ∷ other ∷ []) (cube_among names row once).apart proper.apart (inner row h)
          ∙ sorted_row_back names row once (width-has (length names) rows row wide m)

      abbrev divisor : List (List (Option Bool))
      divisor = map (row_over names) both

      term : (row : List (Option Bool)) → Has row rows → has_both (cube_of names row) ≡ true → IsTerm (length names) rows divisor (key row)
      term row m h = record {
        wide = length-map names (literal_of (own (cube_of names row) (one ∷ other ∷ [])));
        apart = λ k here. elim here as (λ _. AreApart (key row) k) [
          | inl e ↦ subst (λ (x : List (Option Bool)). AreApart (key row) x) (sym e)
              (inner_is_apart names (cube_of names row) (one ∷ other ∷ []) (cube_among names row once).apart proper.apart (inner row h))
          | inr n ↦ absurd n
        ];
        rows = λ k here. elim here as (λ _. Has (times (key row) k) rows) [
          | inl e ↦ subst (λ (x : List (Option Bool)). Has x rows) (sym (ap (times (key row)) e ∙ key_made row m h)) m
          | inr n ↦ absurd n
        ];
      }

      module _ (q : List (List (Option Bool))) (is : IsQuotient (length names) rows divisor q) where
        to : (row : List (Option Bool)) → Has row rows → has_both (cube_of names row) ≡ true → Has (key row) q
        to row m h = quotient_every (length names) rows divisor q is (row_over names (one ∷ other ∷ [])) (inl refl) (key row) (term row m h)

        -- the product of a cube of the quotient and both literals is a row with both, and the cube
        -- what it has besides them
        made : (cube : List (Option Bool)) → Has cube q → (row : List (Option Bool)) × Has row rows × (has_both (cube_of names row) ≡ true) × (key row ≡ cube)
        made cube among =
            let at = quotient-terms (length names) rows divisor q is cube among in
            let row : List (Option Bool) = times cube (row_over names (one ∷ other ∷ [])) in
            let here : Has row rows = at.rows (row_over names (one ∷ other ∷ [])) (inl refl) in
            let beside = own_made names once cube at.wide (one ∷ other ∷ []) [] proper (λ literal m n. n) (at.apart (row_over names (one ∷ other ∷ [])) (inl refl)) in
            let member : (literal : Literal) → Has literal (one ∷ other ∷ []) → Has literal (cube_of names row) =
            λ literal m. (own_has (cube_of names row) (cube_of names (times cube (row_over names []))) literal (subst (λ (x : Cube). Has literal x) (sym beside) m)).0 in
            let h : has_both (cube_of names row) ≡ true =
            members_both (cube_of names row) (cube_among names row once).apart (member one (inl refl)) (member other (inr (inl refl))) in (
              row,
              here,
              h,
              (product_tells (length names) rows divisor q is (rows_wide names both) (key row) cube (row_over names (one ∷ other ∷ [])) (row_over names (one ∷ other ∷ []))
                  (to row here h) among (inl refl) (inl refl) (key_made row here h)).0,
            )

        -- the gains of a product, if no row occurs twice
        pub product_rows : literal_cmp one other ≡ Less → AreOnce rows → sum_by (λ row. over_pairs (product_gain both) (cube_of names row)) rows ≡ length q
        product_rows below rows_once =
            items_are (λ row. has_both (cube_of names row)) key (λ row. over_pairs (product_gain both) (cube_of names row)) (λ row. 1) rows q rows_once
            (quotient_once (length names) rows divisor q is)
            (λ row m. row_gains below row)
            (λ x y m n h k e. sym (key_made x m h) ∙ (ap (λ (c : List (Option Bool)). times c (row_over names (one ∷ other ∷ []))) e ∙ key_made y n k))
            to made
            ∙ sum_ones q
