-- Sums of two cubes: the pairs of rows with a gain are the products of the quotient's cubes, and
-- each cube is that of one pair.
use Rattle.std.proofs.Common.{◌≡◌, ◌≢◌, ◌⊎◌, ℕ, ◌+◌, ◌-◌, Bool, true, cond, Option, List, [], ◌∷◌, map, length, refl, sym, ap, ap₂, ◌∙◌, subst, inl, inr}
use Rattle.std.specs.List.{sum_by, list_all}
use Rattle.std.proofs.lemmas.Bool.{and_from}
use Rattle.std.proofs.lemmas.List.{length-map}
use Rattle.sis_base.specs.Rows.{HasWidth}
use Rattle.circuit_model.specs.Names.{has, all_different}
use Rattle.cube_cover.specs.Literals.{row_literals}
use Rattle.alg_div.specs.Cubes.{Has, times}
use Rattle.alg_div.specs.Quotient.{IsTerm, IsQuotient}
use Rattle.alg_div.proofs.Laws.{quotient-terms}
use Rattle.alg_div.proofs.Lists.{Has-map}
use Rattle.alg_div.proofs.Terms.{width-has}
use Rattle.net_candidates.specs.Candidates.{shared, own, literals_in}
use Rattle.net_candidates.proofs.Local.{cube_of, own_has, own_made, IsSum}
use Rattle.net_candidates.proofs.Products.{quotient_once, product_tells}
use Rattle.net_candidates.proofs.Sums.{AreOnce}
use Rattle.net_candidates.proofs.Usable.{IsAmong, among_filtered}
use Rattle.cover_names.specs.Literals.{Cube, NamedCover, cube_cmp, sorted}
use Rattle.cover_names.specs.Cubes.{literal_of, row_over, is_over}
use Rattle.cover_names.specs.declared.literal.Literal.{Literal}
use Rattle.cover_names.proofs.Back.{sorted_row_back}
use Rattle.cover_names.proofs.Orders.{cube_order}
use Rattle.cover_names.proofs.Worth.{all_sorted}
use Rattle.net_gains.specs.Gains.{over_pairs, sum_gain}
use Rattle.net_gains.proofs.Covers.{has_first, has_second, two_have, two_same, some_member, sum_differs, sum_turned, ArePartners, is_pair, pair_partners, partners_pair, pair_gain}
use Rattle.net_gains.proofs.PairSums.{Before, one_before, AreTold, pairs_are}
use Rattle.net_gains.proofs.PairPlaces.{times_own, own_apart, times_others_own, others_own_apart}
use Rattle.net_gains.proofs.RowCubes.{cube_among, among_literals, quotient_every}
use Rattle.alg_tables.proofs.Divided.{rows_wide}
use Rattle.alg_tables.proofs.Divisions.{AreApart}
use Rattle.alg_tables.proofs.Quotients.{image_has}

-- partners over names have a cover over names
pub partners_over : (names : List (List ℕ)) (cover : NamedCover) (one other : List (Option Bool)) → all_different names ≡ true → ArePartners cover (cube_of names one) (cube_of names other) → is_over names cover ≡ true
partners_over names cover one other once are =
    let x : Cube = cube_of names one in
    let y : Cube = cube_of names other in
    let first : IsAmong names (own x y) = among_filtered names _ x (cube_among names one once) in
    let second : IsAmong names (own y x) = among_filtered names _ y (cube_among names other once) in
    ap (is_over names) are.is
    ∙ (all_sorted cube_order (λ (cube : Cube). list_all (λ (literal : Literal). has names literal.name) cube) (own x y ∷ own y x ∷ [])
    ∙ and_from _ _ first.over (and_from _ _ second.over refl))

module _ (names : List (List ℕ)) (once : all_different names ≡ true) (rows : List (List (Option Bool))) (wide : HasWidth (length names) rows) where
  -- the row of what two rows share
  abbrev key : List (Option Bool) → List (Option Bool) → List (Option Bool)
  key one other = row_over names (shared (cube_of names one) (cube_of names other))

  back : (row : List (Option Bool)) → Has row rows → row_over names (cube_of names row) ≡ row
  back row m = sorted_row_back names row once (width-has (length names) rows row wide m)

  -- the product of this and what it has besides is the row
  first_made : (one other : List (Option Bool)) → Has one rows → times (key one other) (row_over names (own (cube_of names one) (cube_of names other))) ≡ one
  first_made one other m = times_own names (cube_of names one) (cube_of names other) (cube_among names one once).apart (cube_among names other once).apart ∙ back one m

  second_made : (one other : List (Option Bool)) → Has other rows → times (key one other) (row_over names (own (cube_of names other) (cube_of names one))) ≡ other
  second_made one other m = times_others_own names (cube_of names one) (cube_of names other) (cube_among names one once).apart (cube_among names other once).apart ∙ back other m

  module _ (cover : NamedCover) where
    abbrev divisor : List (List (Option Bool))
    divisor = map (row_over names) cover

    in_divisor : (names' : List (List ℕ)) (sum : IsSum names' cover) → Has (row_over names sum.one) divisor × Has (row_over names sum.other) divisor
    in_divisor names' sum = (
      Has-map (row_over names) sum.one cover (subst (λ (x : NamedCover). Has sum.one x) (sym sum.is) (has_first sum.one sum.other)),
      Has-map (row_over names) sum.other cover (subst (λ (x : NamedCover). Has sum.other x) (sym sum.is) (has_second sum.one sum.other)),
    )

    -- a row of the divisor is what one of two partners has besides the other
    either : (one other k : List (Option Bool)) → ArePartners cover (cube_of names one) (cube_of names other) → Has k divisor
        → (k ≡ row_over names (own (cube_of names one) (cube_of names other))) ⊎ (k ≡ row_over names (own (cube_of names other) (cube_of names one)))
    either one other k are m =
        let (cube, among, e) = image_has (row_over names) cover k m in
        elim (two_have (own (cube_of names one) (cube_of names other)) (own (cube_of names other) (cube_of names one)) cube (subst (λ (x : NamedCover). Has cube x) are.is among))
        as (λ _. (k ≡ row_over names (own (cube_of names one) (cube_of names other))) ⊎ (k ≡ row_over names (own (cube_of names other) (cube_of names one)))) [
          | inl a ↦ inl (e ∙ ap (row_over names) a)
          | inr b ↦ inr (e ∙ ap (row_over names) b)
        ]

    partners_differ : (one other : List (Option Bool)) → ArePartners cover (cube_of names one) (cube_of names other) → one ≡ other → ⊥
    partners_differ one other are e =
        let (literal, m) = some_member (own (cube_of names one) (cube_of names other)) are.left in
        let parts = own_has (cube_of names one) (cube_of names other) literal m in
        parts.1 (subst (λ (row : List (Option Bool)). Has literal (cube_of names row)) e parts.0)

    -- what partners share is a cube of the quotient
    term : (one other : List (Option Bool)) → Has one rows → Has other rows → ArePartners cover (cube_of names one) (cube_of names other) → IsTerm (length names) rows divisor (key one other)
    term one other m n are = record {
      wide = length-map names (literal_of (shared (cube_of names one) (cube_of names other)));
      apart = λ k here. elim (either one other k are here) as (λ _. AreApart (key one other) k) [
        | inl a ↦ subst (λ (x : List (Option Bool)). AreApart (key one other) x) (sym a)
            (own_apart names (cube_of names one) (cube_of names other) (cube_among names one once).apart (cube_among names other once).apart)
        | inr b ↦ subst (λ (x : List (Option Bool)). AreApart (key one other) x) (sym b)
            (others_own_apart names (cube_of names one) (cube_of names other) (cube_among names one once).apart (cube_among names other once).apart)
      ];
      rows = λ k here. elim (either one other k are here) as (λ _. Has (times (key one other) k) rows) [
        | inl a ↦ subst (λ (x : List (Option Bool)). Has x rows) (sym (ap (times (key one other)) a ∙ first_made one other m)) m
        | inr b ↦ subst (λ (x : List (Option Bool)). Has x rows) (sym (ap (times (key one other)) b ∙ second_made one other n)) n
      ];
    }

    -- partners are the products of what they share and the two cubes
    tells : (sum : IsSum names cover) (one other : List (Option Bool)) → Has one rows → Has other rows → ArePartners cover (cube_of names one) (cube_of names other)
        → AreTold (times (key one other) (row_over names sum.one)) (times (key one other) (row_over names sum.other)) one other
    tells sum one other m n are =
        pick (two_same (own (cube_of names one) (cube_of names other)) (own (cube_of names other) (cube_of names one)) sum.one sum.other (sum_differs names cover sum) (sym are.is ∙ sum.is))
      where
        turn : (a b : Cube) (row : List (Option Bool)) → times (key one other) (row_over names a) ≡ row → a ≡ b → row ≡ times (key one other) (row_over names b)
        turn a b row e k = sym e ∙ ap (λ (x : Cube). times (key one other) (row_over names x)) k

        pick : ((own (cube_of names one) (cube_of names other) ≡ sum.one) × (own (cube_of names other) (cube_of names one) ≡ sum.other))
            ⊎ ((own (cube_of names one) (cube_of names other) ≡ sum.other) × (own (cube_of names other) (cube_of names one) ≡ sum.one))
            → AreTold (times (key one other) (row_over names sum.one)) (times (key one other) (row_over names sum.other)) one other
        pick (inl e) = inl (turn _ sum.one one (first_made one other m) e.0, turn _ sum.other other (second_made one other n) e.1)
        pick (inr e) = inr (turn _ sum.other one (first_made one other m) e.0, turn _ sum.one other (second_made one other n) e.1)

    module _ (q : List (List (Option Bool))) (is : IsQuotient (length names) rows divisor q) where
      -- the two products of a cube of the quotient are rows and partners, and share it
      made : (sum : IsSum names cover) (cube : List (Option Bool)) → Has cube q
          → Has (times cube (row_over names sum.one)) rows × Has (times cube (row_over names sum.other)) rows
          × ArePartners cover (cube_of names (times cube (row_over names sum.one))) (cube_of names (times cube (row_over names sum.other)))
          × (key (times cube (row_over names sum.one)) (times cube (row_over names sum.other)) ≡ cube)
      made sum cube among =
          let at = quotient-terms (length names) rows divisor q is cube among in
          let both = in_divisor names sum in
          let one : List (Option Bool) = times cube (row_over names sum.one) in
          let other : List (Option Bool) = times cube (row_over names sum.other) in
          let here : Has one rows = at.rows (row_over names sum.one) both.0 in
          let there : Has other rows = at.rows (row_over names sum.other) both.1 in
          let a : own (cube_of names one) (cube_of names other) ≡ sum.one =
          own_made names once cube at.wide sum.one sum.other sum.first sum.disjoint (at.apart (row_over names sum.one) both.0) in
          let b : own (cube_of names other) (cube_of names one) ≡ sum.other =
          own_made names once cube at.wide sum.other sum.one sum.second (λ literal m n. sum.disjoint literal n m) (at.apart (row_over names sum.other) both.1) in
          let are : ArePartners cover (cube_of names one) (cube_of names other) = record {
            left = subst (λ (x : Cube). x ≢ []) (sym a) sum.left;
            right = subst (λ (x : Cube). x ≢ []) (sym b) sum.right;
            is = sum.is ∙ ap₂ (λ (c d : Cube). sorted cube_cmp (c ∷ d ∷ [])) (sym a) (sym b);
          } in
          let same : times (key one other) (row_over names sum.one) ≡ one =
          ap (λ (x : Cube). times (key one other) (row_over names x)) (sym a) ∙ first_made one other here in (
            here,
            there,
            are,
            (product_tells (length names) rows divisor q is (rows_wide names cover) (key one other) cube (row_over names sum.one) (row_over names sum.one)
                (quotient_every (length names) rows divisor q is (row_over names sum.one) both.0 (key one other) (term one other here there are)) among both.0 both.0 same).0,
          )

      both_have : (sum : IsSum names cover) (cube : List (Option Bool)) → Has cube q
          → (one : List (Option Bool)) × (other : List (Option Bool)) × Before one other rows × (is_pair cover (cube_of names one) (cube_of names other) ≡ true) × (key one other ≡ cube)
      both_have sum cube among =
          let one : List (Option Bool) = times cube (row_over names sum.one) in
          let other : List (Option Bool) = times cube (row_over names sum.other) in
          let (here, there, are, e) = made sum cube among in
          let (h, t, also, k) = made (sum_turned names cover sum) cube among in
          elim (one_before one other rows here there (partners_differ one other are)) as (λ _.
          (x : List (Option Bool)) × (y : List (Option Bool)) × Before x y rows × (is_pair cover (cube_of names x) (cube_of names y) ≡ true) × (key x y ≡ cube)) [
            | inl first ↦ (one, other, first, partners_pair cover (cube_of names one) (cube_of names other) are, e)
            | inr second ↦ (other, one, second, partners_pair cover (cube_of names other) (cube_of names one) also, k)
          ]

      gain_is : (one other : List (Option Bool)) → sum_gain cover (cube_of names one) (cube_of names other)
          ≡ cond {A = ℕ} (is_pair cover (cube_of names one) (cube_of names other)) (row_literals (key one other) + literals_in cover - 1) 0
      gain_is one other =
          pair_gain cover (cube_of names one) (cube_of names other)
          ∙ ap (λ (n : ℕ). cond {A = ℕ} (is_pair cover (cube_of names one) (cube_of names other)) (n + literals_in cover - 1) 0)
          (sym (among_literals names (shared (cube_of names one) (cube_of names other)) once (among_filtered names _ (cube_of names one) (cube_among names one once))))

      -- the gains of a sum, if no row occurs twice
      pub sum_pairs : IsSum names cover → AreOnce rows
          → over_pairs (λ one other. sum_gain cover (cube_of names one) (cube_of names other)) rows ≡ sum_by (λ row. row_literals row + literals_in cover - 1) q
      sum_pairs sum rows_once =
          pairs_are (λ one other. is_pair cover (cube_of names one) (cube_of names other)) key
          (λ cube. times cube (row_over names sum.one)) (λ cube. times cube (row_over names sum.other))
          (λ one other. sum_gain cover (cube_of names one) (cube_of names other)) (λ row. row_literals row + literals_in cover - 1) rows q rows_once
          (quotient_once (length names) rows divisor q is)
          (λ one other m n. gain_is one other)
          (λ one other m n h. tells sum one other m n (pair_partners cover (cube_of names one) (cube_of names other) h))
          (λ one other m n h.
          quotient_every (length names) rows divisor q is (row_over names sum.one) (in_divisor names sum).0 (key one other)
          (term one other m n (pair_partners cover (cube_of names one) (cube_of names other) h)))
          (both_have sum)
