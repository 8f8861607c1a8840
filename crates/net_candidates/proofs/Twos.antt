-- What two cubes and two literals make, and the list of all of it.
use Rattle.std.proofs.Common.{◌≡◌, ◌≢◌, ◌≤◌, ◌↔◌, Bool, true, false, if◌then◌else◌, Option, Some, None, List, [], ◌∷◌, ◌++◌, length, flat_map, refl, sym, ap, ◌∙◌, subst, inl, inr, ltb, arith}
use Rattle.std.proofs.lemmas.Bool.{le-ltb, ltb-false}
use Rattle.alg_div.specs.Cubes.{Has}
use Rattle.alg_div.proofs.Lists.{Has-left, Has-right, Has-append}
use Rattle.circuit_model.specs.declared.circuit.Table.{Table}
use Rattle.net_candidates.specs.Candidates.{own, shared, cubes_of, IsDivisorOfTwoCubes, IsCubeOfTwoLiterals}
use Rattle.net_candidates.specs.declared.rule.Rule.{Rule}
use Rattle.net_candidates.specs.declared.rule.Rule.TheVariants.{Fx}
use Rattle.cover_names.specs.Literals.{Cube, NamedCover, cube_cmp, sorted}
use Rattle.cover_names.specs.declared.literal.Literal.{Literal}
use Rattle.net_candidates.specs.Listed.{IsOwn, IsSharedOf}
use Rattle.net_candidates.specs.Pairs.{made_by_pairs, sum_from, sum_of, product_of, shared_of}
use Rattle.net_candidates.proofs.Made.{flat_has, has_flat, IsMadeOf, pairs_made, made_pairs}

-- ---- sums

sum_is : (left right : Cube) (cover : NamedCover) → left ≢ [] → right ≢ [] → cover ≡ sorted cube_cmp (left ∷ right ∷ []) → sum_from left right ≡ Some cover
sum_is [] right cover a b e = absurd (a refl)
sum_is (literal ∷ left) [] cover a b e = absurd (b refl)
sum_is (literal ∷ left) (other ∷ right) cover a b e = ap (λ (v : NamedCover). Some v) (sym e)

sum_made : (left right : Cube) (cover : NamedCover) → sum_from left right ≡ Some cover → (left ≢ []) × (right ≢ []) × (cover ≡ sorted cube_cmp (left ∷ right ∷ []))
sum_made [] right cover e = absurd cc
sum_made (literal ∷ left) [] cover e = absurd cc
sum_made (literal ∷ left) (other ∷ right) cover e = (λ h. cc, λ h. cc, cc)

-- ---- sums and products of a table

two_cubes : (table : Table) (cover : NamedCover) → IsMadeOf sum_of (cubes_of table) cover → IsDivisorOfTwoCubes table cover
two_cubes table cover k =
    let parts = sum_made (own k.one k.other) (own k.other k.one) cover k.is in
    record { one = k.one; other = k.other; rows = k.pair; left = parts.0; right = parts.1; is = parts.2 }

of_two_cubes : (table : Table) (cover : NamedCover) → IsDivisorOfTwoCubes table cover → IsMadeOf sum_of (cubes_of table) cover
of_two_cubes table cover k = record { one = k.one; other = k.other; pair = k.rows; is = sum_is (own k.one k.other) (own k.other k.one) cover k.left k.right k.is }

two_literals : (table : Table) (cube : Cube) (cover : NamedCover) → Has cube (cubes_of table) → IsMadeOf product_of cube cover → IsCubeOfTwoLiterals table cover
two_literals table cube cover m k =
    let e : cover ≡ (k.one ∷ k.other ∷ []) ∷ [] = product_is k.one k.other k.is in
    record { cube = cube; among = m; one = k.one; other = k.other; literals = k.pair; is = e }
  where
    product_is : (one other : Literal) → product_of one other ≡ Some cover → cover ≡ (one ∷ other ∷ []) ∷ []
    product_is one other e = cc

of_two_literals : (table : Table) (cover : NamedCover) (k : IsCubeOfTwoLiterals table cover) → IsMadeOf product_of k.cube cover
of_two_literals table cover k = record { one = k.one; other = k.other; pair = k.literals; is = ap (λ (v : NamedCover). Some v) (sym k.is) }

abbrev pub sums_and_products_in : List Cube → List NamedCover
sums_and_products_in cubes = made_by_pairs sum_of cubes ++ flat_map (made_by_pairs product_of) cubes

pub fx_own : (table : Table) (cover : NamedCover) → Has cover (sums_and_products_in (cubes_of table)) ↔ IsOwn Fx table cover
fx_own table cover = (to, from)
  where
    product : ((cube : Cube) × Has cube (cubes_of table) × Has cover (made_by_pairs product_of cube)) → IsCubeOfTwoLiterals table cover
    product p = two_literals table p.0 cover p.1 (pairs_made product_of p.0 cover p.2)

    to : Has cover (sums_and_products_in (cubes_of table)) → IsOwn Fx table cover
    to m =
        elim (Has-append cover (made_by_pairs sum_of (cubes_of table)) (flat_map (made_by_pairs product_of) (cubes_of table)) m) as (λ _. IsOwn Fx table cover) [
          | inl k ↦ inl (two_cubes table cover (pairs_made sum_of (cubes_of table) cover k))
          | inr k ↦ inr (product (flat_has (made_by_pairs product_of) (cubes_of table) cover k))
        ]

    from : IsOwn Fx table cover → Has cover (sums_and_products_in (cubes_of table))
    from (inl k) =
        Has-left cover (made_by_pairs sum_of (cubes_of table)) (flat_map (made_by_pairs product_of) (cubes_of table))
        (made_pairs sum_of (cubes_of table) cover (of_two_cubes table cover k))
    from (inr k) =
        Has-right cover (made_by_pairs sum_of (cubes_of table)) (flat_map (made_by_pairs product_of) (cubes_of table))
        (has_flat (made_by_pairs product_of) (cubes_of table) k.cube cover k.among (made_pairs product_of k.cube cover (of_two_literals table cover k)))

pub fx_listed : (rule : Rule) (table : Table) (cubes : List Cube) (made : List NamedCover) → rule ≡ Fx → cubes ≡ cubes_of table → made ≡ sums_and_products_in cubes
    → (cover : NamedCover) → Has cover made ↔ IsOwn rule table cover
fx_listed rule table cubes made asked e m cover =
    subst (λ (r : Rule). Has cover made ↔ IsOwn r table cover) (sym asked)
    (subst (λ (covers : List NamedCover). Has cover covers ↔ IsOwn Fx table cover) (sym (m ∙ ap sums_and_products_in e)) (fx_own table cover))

-- ---- shared cubes

-- the cover of a cube of two literals or more
abbrev pub long_cover : Cube → Option NamedCover
long_cover cube = if ltb (length cube) 2 then None else Some (cube ∷ [])

pub long_made : (cube : Cube) (cover : NamedCover) → long_cover cube ≡ Some cover → (2 ≤ length cube) × (cover ≡ cube ∷ [])
long_made cube cover e = cases (ltb (length cube) 2) refl e
  where
    cases : (b : Bool) → ltb (length cube) 2 ≡ b → (if b then None else Some (cube ∷ [])) ≡ Some cover → (2 ≤ length cube) × (cover ≡ cube ∷ [])
    cases true h k = absurd cc
    cases false h k = (omega (arith, ltb-false (length cube) 2 h), cc)

pub long_is : (cube : Cube) (cover : NamedCover) → 2 ≤ length cube → cover ≡ cube ∷ [] → long_cover cube ≡ Some cover
long_is cube cover two e =
    ap (λ (b : Bool). if b then None else Some (cube ∷ [])) (le-ltb (length cube) 2 two) ∙ ap (λ (v : NamedCover). Some v) (sym e)

pub shared_listed : (cubes : List Cube) (cover : NamedCover) → Has cover (made_by_pairs shared_of cubes) ↔ IsSharedOf cubes cover
shared_listed cubes cover = (λ m. to (pairs_made shared_of cubes cover m), λ k. made_pairs shared_of cubes cover (from k))
  where
    to : IsMadeOf shared_of cubes cover → IsSharedOf cubes cover
    to k =
        let parts = long_made (shared k.one k.other) cover k.is in
        record { one = k.one; other = k.other; pair = k.pair; two = parts.0; is = parts.1 }

    from : IsSharedOf cubes cover → IsMadeOf shared_of cubes cover
    from k = record { one = k.one; other = k.other; pair = k.pair; is = long_is (shared k.one k.other) cover k.two k.is }
