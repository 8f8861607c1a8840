-- Rows over names and their cubes, column by column.
use Rattle.std.proofs.Common.{◌≡◌, ◌⊎◌, ℕ, Bool, Option, Some, None, List, [], ◌∷◌, ◌++◌, map, refl, sym, ap, ap₂, ◌∙◌, append_assoc, append-nil, inl, inr}
use Rattle.cover_names.specs.Cubes.{cube_over}
use Rattle.cover_names.specs.declared.literal.Literal.{Literal}

-- the cube of a name and a literal, followed by that of the others
pub cube_over_cons : (name : List ℕ) (names : List (List ℕ)) (place : Option Bool) (row : List (Option Bool))
    → cube_over (name ∷ names) (place ∷ row) ≡ cube_over (name ∷ []) (place ∷ []) ++ cube_over names row
unfolding cube_over
cube_over_cons name names None row = refl
cube_over_cons name names (Some bit) row = refl

pub cube_over_none : (names : List (List ℕ)) (row : List (Option Bool)) → (names ≡ []) ⊎ (row ≡ []) → cube_over names row ≡ []
unfolding cube_over
cube_over_none [] row h = refl
cube_over_none (name ∷ names) [] h = refl
cube_over_none (name ∷ names) (place ∷ row) (inl e) = absurd cc
cube_over_none (name ∷ names) (place ∷ row) (inr e) = absurd cc

-- a loop that appends the literals of names
pub over_more : (name : List ℕ) (place : Option Bool) (names rest : List (List ℕ)) (row left : List (Option Bool)) (before after whole : List Literal)
    → after ≡ before ++ cube_over (name ∷ []) (place ∷ []) → names ≡ name ∷ rest → row ≡ place ∷ left → before ++ cube_over names row ≡ whole → after ++ cube_over rest left ≡ whole
over_more name place names rest row left before after whole put first second h =
    ap (λ (xs : List Literal). xs ++ cube_over rest left) put
    ∙ append_assoc before (cube_over (name ∷ []) (place ∷ [])) (cube_over rest left)
    ∙ ap (λ (xs : List Literal). before ++ xs) (sym (cube_over_cons name rest place left) ∙ sym (ap₂ cube_over first second))
    ∙ h

pub over_all : (names : List (List ℕ)) (row : List (Option Bool)) (made whole : List Literal) → (names ≡ []) ⊎ (row ≡ []) → made ++ cube_over names row ≡ whole → made ≡ whole
over_all names row made whole h e = sym (append-nil made) ∙ ap (λ (xs : List Literal). made ++ xs) (sym (cube_over_none names row h)) ∙ e

pub map_twice : {X Y Z : Type 0} (f : X → Y) (g : Y → Z) (xs : List X) → map g (map f xs) ≡ map (λ x. g (f x)) xs
map_twice f g [] = refl
map_twice f g (x ∷ xs) = ap (λ zs. g (f x) ∷ zs) (map_twice f g xs)
