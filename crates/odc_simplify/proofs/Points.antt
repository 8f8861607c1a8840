-- A product is false everywhere exactly if no point of its row is seen.
use Rattle.std.proofs.Common.{◌≡◌, ℕ, ◌<◌, zero, suc, Bool, true, false, not, ◌&&◌, ◌||◌, if◌then◌else◌}
use Rattle.std.proofs.Common.{Option, Some, None, List, [], ◌∷◌, length, IsTrue, ◌↔◌}
use Rattle.std.proofs.Common.{refl, sym, ap, ◌∙◌, ◌⊎◌, inl, inr, arith}
use Rattle.std.specs.List.{AllByRecursion}
use Rattle.std.proofs.lemmas.Bool.{false≢true, and_from}
use Rattle.std.proofs.lemmas.List.{length-map}
use Rattle.std.proofs.Math.Bool.{and_assoc}
use Rattle.sis_base.specs.Rows.{agrees, matches, some_matches}
use Rattle.cube_cover.proofs.Points.{and_left, and_right, bool_cases}
use Rattle.cover_min.specs.Points.{has_point, has_own_point}
use Rattle.cover_min.proofs.Points.{some_point_found, some_point_at, has_point_at, no_point_of}
use Rattle.func_core.specs.Trees.{BooleanFunction, Tree, Zero, eval, IsReduced, constant}
use Rattle.func_core.proofs.Meanings.{own-tree, true-somewhere}
use Rattle.odc_simplify.specs.Seen.{valuation, values, same_bits, IsOver, seen_at}
use Rattle.odc_simplify.specs.Products.{with_literal, product, without, outside}

-- lists with the same bits are the same
same_first : (a b : Bool) → (if a then b else not b) ≡ true → a ≡ b
same_first true true h = refl
same_first true false h = sym h
same_first false true h = h
same_first false false h = refl

pub same_bits_are : (bits others : List Bool) → same_bits bits others ≡ true → bits ≡ others
unfolding same_bits
same_bits_are [] [] h = refl
same_bits_are [] (b ∷ others) h = cc
same_bits_are (a ∷ bits) [] h = cc
same_bits_are (a ∷ bits) (b ∷ others) h =
    ap (λ (x : Bool). x ∷ bits) (same_first a b (and_left _ _ h))
    ∙ ap (λ (x : List Bool). b ∷ x) (same_bits_are bits others (and_right
    (if a then b else not b) _ h))

itself : (a : Bool) → (if a then a else not a) ≡ true
itself true = refl
itself false = refl

pub bits_are_same : (bits : List Bool) → same_bits bits bits ≡ true
unfolding same_bits
bits_are_same [] = refl
bits_are_same (a ∷ bits) = and_from _ _ (itself a) (bits_are_same bits)

-- the bits of the first leaves
abbrev pub bits_of : ℕ → (ℕ → Bool) → List Bool
bits_of zero leaves = []
bits_of (suc count) leaves = leaves 0 ∷ bits_of count (λ leaf. leaves (suc leaf))

pub bits_long : (count : ℕ) (leaves : ℕ → Bool) → length (bits_of count leaves) ≡ count
bits_long zero leaves = refl
bits_long (suc count) leaves = ap suc (bits_long count (λ leaf. leaves (suc leaf)))

pub valuation_of : (count : ℕ) (leaves : ℕ → Bool) (leaf : ℕ) → leaf < count
    → valuation (bits_of count leaves) leaf ≡ leaves leaf
valuation_of zero leaves leaf lt = absurd (omega (arith, lt))
valuation_of (suc count) leaves zero lt = refl
valuation_of (suc count) leaves (suc leaf) lt = valuation_of count (λ k. leaves (suc k)) leaf (omega
    (arith, lt))

-- a function of the first leaves has its bit at them
pub values_of : (count : ℕ) (inputs : List BooleanFunction) (leaves : ℕ → Bool)
    → AllByRecursion (IsOver count) inputs
    → values inputs (valuation (bits_of count leaves)) ≡ values inputs leaves
values_of count [] leaves over = refl
values_of count (input ∷ inputs) leaves over =
    ap (λ (x : Bool). x ∷ values inputs (valuation (bits_of count leaves))) (over.0 _ _
    (valuation_of count leaves))
    ∙ ap (λ (x : List Bool). input leaves ∷ x) (values_of count inputs leaves over.1)

-- a point is seen where a valuation gives it
pub seen_here : (count : ℕ) (inputs : List BooleanFunction) (f : BooleanFunction) (leaves : ℕ
    → Bool) → IsOver count f
    → AllByRecursion (IsOver count) inputs → f leaves ≡ true
    → seen_at count inputs f (values inputs leaves) ≡ true
unfolding seen_at
seen_here count inputs f leaves over all t =
    some_point_at count (λ bits. f (valuation bits) && same_bits (values inputs (valuation bits))
    (values inputs leaves)) (bits_of count leaves) (bits_long count leaves)
    (and_from _ _ (over _ _ (valuation_of count leaves) ∙ t)
    (ap (λ (x : List Bool). same_bits x (values inputs leaves))
    (values_of count inputs leaves all) ∙ bits_are_same (values inputs leaves)))

pub seen_found : (count : ℕ) (inputs : List BooleanFunction) (f : BooleanFunction)
    (point : List Bool) → seen_at count inputs f point ≡ true
    → (leaves : ℕ → Bool) × (f leaves ≡ true) × (values inputs leaves ≡ point)
unfolding seen_at
seen_found count inputs f point h =
    let (bits, long, t) = some_point_found count (λ bits. f (valuation bits) && same_bits
    (values inputs (valuation bits)) point) h in
    (valuation bits, and_left _ _ t, same_bits_are _ _ (and_right (f (valuation bits)) _ t))

-- the bit of a product
pub with_literal_bit : (f input : BooleanFunction) (place : Option Bool) (leaves : ℕ → Bool)
    → with_literal f input place leaves ≡ (f leaves && agrees place (input leaves))
with_literal_bit f input None leaves = and_true (f leaves)
  where
    and_true : (a : Bool) → a ≡ (a && true)
    and_true true = refl
    and_true false = refl
with_literal_bit f input (Some true) leaves = refl
with_literal_bit f input (Some false) leaves = refl

pub product_bit : (f : BooleanFunction) (inputs : List BooleanFunction) (row : List (Option Bool))
    (leaves : ℕ → Bool)
    → product f inputs row leaves ≡ (f leaves && matches row (values inputs leaves))
unfolding matches
product_bit f [] [] leaves = sym (and_one (f leaves))
  where
    and_one : (a : Bool) → (a && true) ≡ a
    and_one true = refl
    and_one false = refl
product_bit f [] (place ∷ row) leaves = sym (and_one (f leaves))
  where
    and_one : (a : Bool) → (a && true) ≡ a
    and_one true = refl
    and_one false = refl
product_bit f (input ∷ inputs) [] leaves = sym (and_one (f leaves))
  where
    and_one : (a : Bool) → (a && true) ≡ a
    and_one true = refl
    and_one false = refl
product_bit f (input ∷ inputs) (place ∷ row) leaves =
    product_bit (with_literal f input place) inputs row leaves
    ∙ ap (λ (x : Bool). x && matches row (values inputs leaves))
    (with_literal_bit f input place leaves)
    ∙ and_assoc (f leaves) (agrees place (input leaves)) (matches row (values inputs leaves))

without_bits : (a m s : Bool) → ((a && not (true && m)) && not s) ≡ (a && not (m || s))
without_bits true true s = refl
without_bits true false s = refl
without_bits false m s = refl

pub outside_bit : (f : BooleanFunction) (inputs : List BooleanFunction) (rows : List (List
    (Option Bool))) (leaves : ℕ → Bool)
    → outside f inputs rows leaves ≡ (f leaves && not (some_matches rows (values inputs leaves)))
unfolding some_matches
outside_bit f inputs [] leaves = and_one (f leaves)
  where
    and_one : (a : Bool) → a ≡ (a && true)
    and_one true = refl
    and_one false = refl
outside_bit f inputs (row ∷ rows) leaves =
    outside_bit (without f inputs row) inputs rows leaves
    ∙ ap (λ (x : Bool). (f leaves && not x) && not (some_matches rows (values inputs leaves)))
    (product_bit (constant true) inputs row leaves)
    ∙ without_bits (f leaves) (matches row (values inputs leaves)) (some_matches rows
    (values inputs leaves))

-- a function that is true exactly where another one is, where the literals of a row are, and where
-- what is seen passes another test, is false everywhere exactly if the row has no point that passes
-- both
pub answer_is : (count : ℕ) (inputs : List BooleanFunction) (f made : BooleanFunction) (tree : Tree)
    (empty : Bool) (row : List (Option Bool)) (test also : List Bool → Bool) → IsReduced 0 tree
    → eval tree ≡ made → IsTrue empty ↔ (tree ≡ Zero)
    → ((leaves : ℕ → Bool)
    → made leaves ≡ ((f leaves && matches row (values inputs leaves)) && also
    (values inputs leaves)))
    → ((point : List Bool) → test point ≡ (seen_at count inputs f point && also point))
    → length row ≡ length inputs → IsOver count f → AllByRecursion (IsOver count) inputs
    → not empty ≡ has_point test row
unfolding eval
answer_is count inputs f made tree true row test also reduced is none bits tests wide over all =
    sym (no_point_of test row (λ point long within. cases point within (bool_cases (test point))))
  where
    nowhere : (leaves : ℕ → Bool) → made leaves ≡ false
    nowhere leaves = ap (λ (g : BooleanFunction). g leaves) (sym is) ∙ ap (λ
        (t : Tree). eval t leaves) (none.0 refl)

    cases : (point : List Bool) → matches row point ≡ true
        → (test point ≡ true) ⊎ (test point ≡ false) → test point ≡ false
    cases point within (inr unmet) = unmet
    cases point within (inl met) =
        let both : (seen_at count inputs f point && also point) ≡ true = sym (tests point) ∙ met in
        let (leaves, there, values_are) = seen_found count inputs f point (and_left _ _ both) in
        let inside : matches row (values inputs leaves) ≡ true = ap
        (matches row) values_are ∙ within in
        let passes : also (values inputs leaves) ≡ true = ap also values_are ∙ and_right
        (seen_at count inputs f point) _ both in
        let clash : true ≡ false = sym (bits leaves ∙ and_from _ _
        (and_from _ _ there inside) passes) ∙ nowhere leaves in absurd cc
answer_is count inputs f made tree false row test also reduced is none bits tests wide over all =
    let (leaves, there) = true-somewhere (eval tree) tree (own-tree tree reduced) (λ e. absurd
    (false≢true (none.1 e))) in
    let holds : ((f leaves && matches row (values inputs leaves)) && also (values inputs leaves))
    ≡ true = sym (bits leaves) ∙ ap (λ (g : BooleanFunction). g leaves) (sym is) ∙ there in
    let both : (f leaves && matches row (values inputs leaves)) ≡ true = and_left _ _ holds in
    sym (has_point_at test row (record {
      point = values inputs leaves;
      wide = length-map inputs (λ (g : BooleanFunction). g leaves) ∙ sym wide;
      within = and_right (f leaves) _ both;
      holds = tests (values inputs leaves)
          ∙ and_from _ _ (seen_here count inputs f leaves over all (and_left _ _ both)) (and_right
          (f leaves && matches row (values inputs leaves)) _ holds);
    }))

and_one : (a : Bool) → a ≡ (a && true)
and_one true = refl
and_one false = refl

-- the product of a function and a row is true somewhere exactly if the row has a point that is seen
pub meets_answer : (count : ℕ) (inputs : List BooleanFunction) (f : BooleanFunction) (tree : Tree)
    (empty : Bool) (row : List (Option Bool)) → IsReduced 0 tree → eval tree ≡ product f inputs row
    → IsTrue empty ↔ (tree ≡ Zero) → length row ≡ length inputs → IsOver count f
    → AllByRecursion (IsOver count) inputs → not empty ≡ has_point (seen_at count inputs f) row
meets_answer count inputs f tree empty row reduced is none wide over all =
    answer_is count inputs f (product f inputs row) tree empty row (seen_at count inputs f)
    (λ point. true) reduced is none
    (λ leaves. product_bit f inputs row leaves ∙ and_one (f leaves && matches row
    (values inputs leaves)))
    (λ point. and_one (seen_at count inputs f point)) wide over all

-- and so is what remains of it outside other rows, exactly if the row has one that they lack
pub own_answer : (count : ℕ) (inputs : List BooleanFunction) (f : BooleanFunction) (tree : Tree)
    (empty : Bool) (row : List (Option Bool)) (others : List (List (Option Bool)))
    → IsReduced 0 tree → eval tree ≡ outside (product f inputs row) inputs others
    → IsTrue empty ↔ (tree ≡ Zero) → length row ≡ length inputs → IsOver count f
    → AllByRecursion (IsOver count) inputs
    → not empty ≡ has_own_point (seen_at count inputs f) row others
own_answer count inputs f tree empty row others reduced is none wide over all =
    answer_is count inputs f (outside (product f inputs row) inputs others) tree empty row
    (λ point. seen_at count inputs f point && not (some_matches others point))
    (λ point. not (some_matches others point)) reduced is none
    (λ leaves.
    outside_bit (product f inputs row) inputs others leaves
    ∙ ap (λ (b : Bool). b && not (some_matches others (values inputs leaves)))
    (product_bit f inputs row leaves))
    (λ point. refl) wide over all
