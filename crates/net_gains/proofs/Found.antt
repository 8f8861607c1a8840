-- What gains is a candidate: a sum above 0 has an item, or a pair of items, with a summand above 0.
use Rattle.std.proofs.Common.{◌≡◌, ◌≢◌, ◌⊎◌, ℕ, ◌+◌, ◌<◌, ◌≤◌, zero, suc, Bool, true, false, cond, List, [], ◌∷◌, length, refl, ap, ◌∙◌, subst, inl, inr, arith}
use Rattle.std.specs.List.{sum_by}
use Rattle.std.proofs.lemmas.List.Sums.{sum_by-cons}
use Rattle.circuit_model.specs.declared.circuit.Table.{Table}
use Rattle.alg_div.specs.Cubes.{Has}
use Rattle.net_candidates.specs.Candidates.{ArePair, own, cubes_of, IsDivisorOfTwoCubes, IsCubeOfTwoLiterals, IsCandidate, literals_in}
use Rattle.net_candidates.specs.declared.rule.Rule.TheVariants.{Fx}
use Rattle.net_candidates.proofs.Sums.{has_split}
use Rattle.cover_names.specs.Literals.{Cube, NamedCover}
use Rattle.cover_names.specs.declared.literal.Literal.{Literal}
use Rattle.net_gains.specs.Gains.{over_pairs, same_cover, sum_gain, product_gain, gains}
use Rattle.net_gains.proofs.Covers.{same_cover_is, two_literals, ArePartners, is_pair, pair_partners, own_differ, pair_gain}

-- ---- sums above 0

pub some_item : {X : Type 0} (f : X → ℕ) (xs : List X) → 0 < sum_by f xs → (x : X) × Has x xs × (0 < f x)
some_item f [] h = absurd (omega (arith, h))
some_item {X} f (x ∷ xs) h = cases (f x) refl (some_item f xs)
  where
    cases : (n : ℕ) → f x ≡ n → (0 < sum_by f xs → (y : X) × Has y xs × (0 < f y)) → (y : X) × Has y (x ∷ xs) × (0 < f y)
    cases zero e rest = let (y, m, gain) = rest (omega (arith, h, e, sum_by-cons f x xs)) in (y, inr m, gain)
    cases (suc n) e rest = (x, inl refl, omega (arith, e))

-- a pair of items with a summand above 0
pub record SomePair {X : Type 0} (gain : X → X → ℕ) (xs : List X) : Type 0 where
  pub one : X
  pub other : X
  pub pair : ArePair xs one other
  pub gains : 0 < gain one other

pub some_pair : {X : Type 0} (gain : X → X → ℕ) (xs : List X) → 0 < over_pairs gain xs → SomePair gain xs
unfolding over_pairs
some_pair gain [] h = absurd (omega (arith, h))
some_pair {X} gain (x ∷ xs) h = cases (sum_by (gain x) xs) refl (some_pair gain xs)
  where
    cases : (n : ℕ) → sum_by (gain x) xs ≡ n → (0 < over_pairs gain xs → SomePair gain xs) → SomePair gain (x ∷ xs)
    cases zero e rest =
        let found = rest (omega (arith, h, e)) in
        record {
          one = found.one;
          other = found.other;
          pair = record { before = x ∷ found.pair.before; between = found.pair.between; after = found.pair.after; among = ap (λ (items : List X). x ∷ items) found.pair.among };
          gains = found.gains;
        }
    cases (suc n) e rest =
        let (y, m, gain_of) = some_item (gain x) xs (omega (arith, e)) in
        let (between, after, is) = has_split y xs m in
        record { one = x; other = y; pair = record { before = []; between = between; after = after; among = ap (λ (items : List X). x ∷ items) is }; gains = gain_of }

-- ---- what pairs of rows and of literals gain

chosen : (b : Bool) (n : ℕ) → 0 < cond {A = ℕ} b n 0 → b ≡ true
chosen true n h = refl
chosen false n h = absurd (omega (arith, h))

pub partners_gain : (cover : NamedCover) (one other : Cube) → 0 < sum_gain cover one other → ArePartners cover one other
partners_gain cover one other h = pair_partners cover one other (chosen (is_pair cover one other) _ (subst (λ (n : ℕ). 0 < n) (pair_gain cover one other) h))

pub product_is : (cover : NamedCover) (one other : Literal) → 0 < product_gain cover one other → cover ≡ (one ∷ other ∷ []) ∷ []
unfolding product_gain
product_is cover one other h = same_cover_is cover ((one ∷ other ∷ []) ∷ []) (chosen (same_cover cover ((one ∷ other ∷ []) ∷ [])) 1 h)

of_two_cubes : (cover : NamedCover) (table : Table) → 0 < over_pairs (sum_gain cover) (cubes_of table) → IsDivisorOfTwoCubes table cover
of_two_cubes cover table h =
    let found = some_pair (sum_gain cover) (cubes_of table) h in
    let are = partners_gain cover found.one found.other found.gains in
    record { one = found.one; other = found.other; rows = found.pair; left = are.left; right = are.right; is = are.is }

of_two_literals : (cover : NamedCover) (table : Table) → 0 < sum_by (over_pairs (product_gain cover)) (cubes_of table) → IsCubeOfTwoLiterals table cover
of_two_literals cover table h =
    let (cube, among, gain) = some_item (over_pairs (product_gain cover)) (cubes_of table) h in
    let found = some_pair (product_gain cover) cube gain in
    record { cube = cube; among = among; one = found.one; other = found.other; literals = found.pair; is = product_is cover found.one found.other found.gains }

-- ---- what tables gain

either_gains : (cover : NamedCover) (table : Table) → 0 < gains cover (cubes_of table) → IsDivisorOfTwoCubes table cover ⊎ IsCubeOfTwoLiterals table cover
unfolding gains
either_gains cover table h = cases (over_pairs (sum_gain cover) (cubes_of table)) refl
  where
    cases : (n : ℕ) → over_pairs (sum_gain cover) (cubes_of table) ≡ n → IsDivisorOfTwoCubes table cover ⊎ IsCubeOfTwoLiterals table cover
    cases zero e = inr (of_two_literals cover table (omega (arith, h, e)))
    cases (suc n) e = inl (of_two_cubes cover table (omega (arith, e)))

pub gaining_candidate : (tables : List Table) (cover : NamedCover) → 0 < sum_by (λ (table : Table). gains cover (cubes_of table)) tables → IsCandidate Fx tables cover
gaining_candidate tables cover h =
    let (table, among, gain) = some_item (λ (table : Table). gains cover (cubes_of table)) tables h in
    (table, among, either_gains cover table gain)

-- ---- what gains has a literal

some_long : {X : Type 0} (xs : List X) → xs ≢ [] → 1 ≤ length xs
some_long [] h = absurd (h refl)
some_long (x ∷ xs) h = omega arith

pub gaining_literal : (cover : NamedCover) (cubes : List Cube) → 0 < gains cover cubes → 1 ≤ literals_in cover
unfolding gains
gaining_literal cover cubes h = cases (over_pairs (sum_gain cover) cubes) refl
  where
    cases : (n : ℕ) → over_pairs (sum_gain cover) cubes ≡ n → 1 ≤ literals_in cover
    cases zero e =
        let (cube, among, gain) = some_item (over_pairs (product_gain cover)) cubes (omega (arith, h, e)) in
        let found = some_pair (product_gain cover) cube gain in
        let is : literals_in cover ≡ 2 = ap literals_in (product_is cover found.one found.other found.gains) in
        omega (arith, is)
    cases (suc n) e =
        let found = some_pair (sum_gain cover) cubes (omega (arith, e)) in
        let are = partners_gain cover found.one found.other found.gains in
        let is : literals_in cover ≡ length (own found.one found.other) + length (own found.other found.one) =
        ap literals_in are.is ∙ two_literals (own found.one found.other) (own found.other found.one) (own_differ found.one found.other are.left) in
        omega (arith, is, some_long (own found.one found.other) are.left)
