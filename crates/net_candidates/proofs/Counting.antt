-- How many items pass a test.
use Rattle.std.proofs.Common.{◌≡◌, ℕ, ◌+◌, ◌≤◌, ◌==◌, Bool, true, false, ◌||◌, if◌then◌else◌, List, [], ◌∷◌, ◌++◌, length, filter, flat_map, ap, ◌∙◌, arith}
use Rattle.std.proofs.lemmas.List.{length-append}
use Rattle.std.proofs.lemmas.List.Elements.{filter-append}
use Rattle.std.specs.List.{list_any}
use Rattle.net_candidates.specs.Candidates.{same_literal}
use Rattle.cover_names.specs.Literals.{Cube}
use Rattle.cover_names.specs.declared.literal.Literal.{Literal}
use Rattle.net_candidates.specs.Spots.{many}

many_append : {X : Type 0} (test : X → Bool) (xs ys : List X) → many test (xs ++ ys) ≡ many test xs + many test ys
many_append test xs ys = ap length (filter-append test xs ys) ∙ length-append (filter test xs) (filter test ys)

never : {X : Type 0} (xs : List X) → many (λ (x : X). false) xs ≤ 0
never [] = omega arith
never (x ∷ xs) = never xs

either : {X : Type 0} (p q : X → Bool) (xs : List X) → many (λ x. p x || q x) xs ≤ many p xs + many q xs
either p q [] = omega arith
either {X} p q (x ∷ xs) = cases (p x) (q x) (either p q xs)
  where
    cases : (a b : Bool) → many (λ y. p y || q y) xs ≤ many p xs + many q xs
        → length (if a || b then x ∷ filter (λ y. p y || q y) xs else filter (λ y. p y || q y) xs)
        ≤ length (if a then x ∷ filter p xs else filter p xs) + length (if b then x ∷ filter q xs else filter q xs)
    cases true true h = omega (arith, h)
    cases true false h = omega (arith, h)
    cases false true h = omega (arith, h)
    cases false false h = omega (arith, h)

-- if an index is listed under each literal as often as a cube has it, it is visited for another
-- cube at least as often as the two share literals
pub met_least : (told : Literal → List ℕ) (one : Cube) (at : ℕ) → ((other : Literal) → many (λ literal. same_literal literal other) one ≤ many (λ place. place == at) (told other)) → (cube : Cube)
    → many (λ literal. list_any (same_literal literal) cube) one ≤ many (λ place. place == at) (flat_map told cube)
met_least told one at least [] = never one
met_least told one at least (other ∷ cube) =
    let both : many (λ literal. list_any (same_literal literal) (other ∷ cube)) one ≤ many (λ literal. same_literal literal other) one + many (λ literal. list_any (same_literal literal) cube) one =
    either (λ (literal : Literal). same_literal literal other) (λ (literal : Literal). list_any (same_literal literal) cube) one in
    let sum : many (λ place. place == at) (flat_map told (other ∷ cube)) ≡ many (λ place. place == at) (told other) + many (λ place. place == at) (flat_map told cube) =
    many_append (λ (place : ℕ). place == at) (told other) (flat_map told cube) in
    omega (arith, both, sum, least other, met_least told one at least cube)
