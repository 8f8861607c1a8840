-- Products and what remains outside rows, step by step; and whether one of the functions built is
-- too big.
use Rattle.std.proofs.Common.{◌≡◌, ℕ, Bool, Option, List, [], ◌∷◌}
use Rattle.std.proofs.Common.{refl, sym, subst, ◌⊎◌, inl, inr, ◌↔◌}
use Rattle.func_core.specs.Trees.{BooleanFunction}
use Rattle.odc_simplify.specs.Products.{with_literal, product, without, outside}
use Rattle.odc_simplify.specs.Products.{IsBigWith, IsBigAlong, IsBigWithout, IsBigOutside}

-- what is left to do of a product makes the whole of it, and is refused exactly if the whole is
pub record IsAlong (limit : ℕ) (f : BooleanFunction) (inputs : List BooleanFunction)
    (row : List (Option Bool)) (now : BooleanFunction) (left : List BooleanFunction)
    (coming : List (Option Bool)) : Type 0 where
  pub same : product now left coming ≡ product f inputs row
  pub refuses : IsBigAlong limit now left coming ↔ IsBigAlong limit f inputs row

pub along_first : (limit : ℕ) (f : BooleanFunction) (inputs : List BooleanFunction)
    (row : List (Option Bool)) → IsAlong limit f inputs row f inputs row
along_first limit f inputs row = record { same = refl; refuses = (λ h. h, λ h. h) }

pub along_more : (limit : ℕ) (f : BooleanFunction) (inputs : List BooleanFunction)
    (row : List (Option Bool)) (now next : BooleanFunction) (left rest : List BooleanFunction)
    (coming later : List (Option Bool)) (input : BooleanFunction) (place : Option Bool)
    → IsAlong limit f inputs row now left coming → left ≡ input ∷ rest → coming ≡ place ∷ later
    → next ≡ with_literal now input place → (IsBigWith limit now input place → ⊥)
    → IsAlong limit f inputs row next rest later
along_more limit f inputs row now next left rest coming later input place h e d made passed =
    subst (λ (x : BooleanFunction). IsAlong limit f inputs row x rest later) (sym made)
    (record {
      same = there.same;
      refuses = (
        λ t. there.refuses.0 (inr t),
        λ t. cases
            (there.refuses.1 t),
      );
    })
  where
    there : IsAlong limit f inputs row now (input ∷ rest) (place ∷ later)
    there =
        subst (λ (x : List (Option Bool)). IsAlong limit f inputs row now (input ∷ rest) x) d
        (subst (λ (x : List BooleanFunction). IsAlong limit f inputs row now x coming) e h)

    cases : IsBigWith limit now input place ⊎ IsBigAlong limit
        (with_literal now input place) rest later
        → IsBigAlong limit (with_literal now input place) rest later
    cases (inl big) = absurd (passed big)
    cases (inr big) = big

pub along_refused : (limit : ℕ) (f : BooleanFunction) (inputs : List BooleanFunction)
    (row : List (Option Bool)) (now : BooleanFunction) (left rest : List BooleanFunction)
    (coming later : List (Option Bool)) (input : BooleanFunction) (place : Option Bool)
    → IsAlong limit f inputs row now left coming → left ≡ input ∷ rest → coming ≡ place ∷ later
    → IsBigWith limit now input place → IsBigAlong limit f inputs row
along_refused limit f inputs row now left rest coming later input place h e d big =
    there.refuses.0 (inl big)
  where
    there : IsAlong limit f inputs row now (input ∷ rest) (place ∷ later)
    there =
        subst (λ (x : List (Option Bool)). IsAlong limit f inputs row now (input ∷ rest) x) d
        (subst (λ (x : List BooleanFunction). IsAlong limit f inputs row now x coming) e h)

pub along_last : (limit : ℕ) (f : BooleanFunction) (inputs : List BooleanFunction)
    (row : List (Option Bool)) (now : BooleanFunction) (left : List BooleanFunction)
    (coming : List (Option Bool)) → IsAlong limit f inputs row now left coming → left ≡ []
    → (now ≡ product f inputs row) × (IsBigAlong limit f inputs row → ⊥)
along_last limit f inputs row now left coming h e = (there.same, λ big. there.refuses.1 big)
  where
    there : IsAlong limit f inputs row now [] coming
    there = subst (λ (x : List BooleanFunction). IsAlong limit f inputs row now x coming) e h

-- what is left to remove makes the whole, and is refused exactly if the whole is
pub record IsTaking (limit : ℕ) (f : BooleanFunction) (inputs : List BooleanFunction)
    (rows : List (List (Option Bool))) (now : BooleanFunction)
    (coming : List (List (Option Bool))) : Type 0 where
  pub same : outside now inputs coming ≡ outside f inputs rows
  pub refuses : IsBigOutside limit now inputs coming ↔ IsBigOutside limit f inputs rows

pub taking_first : (limit : ℕ) (f : BooleanFunction) (inputs : List BooleanFunction)
    (rows : List (List (Option Bool))) → IsTaking limit f inputs rows f rows
taking_first limit f inputs rows = record { same = refl; refuses = (λ h. h, λ h. h) }

pub taking_more : (limit : ℕ) (f : BooleanFunction) (inputs : List BooleanFunction)
    (rows : List (List (Option Bool))) (now next : BooleanFunction)
    (coming later : List (List (Option Bool))) (row : List (Option Bool))
    → IsTaking limit f inputs rows now coming → coming ≡ row ∷ later
    → next ≡ without now inputs row → (IsBigWithout limit now inputs row → ⊥)
    → IsTaking limit f inputs rows next later
taking_more limit f inputs rows now next coming later row h e made passed =
    subst (λ (x : BooleanFunction). IsTaking limit f inputs rows x later) (sym made)
    (record {
      same = there.same;
      refuses = (
        λ t. there.refuses.0 (inr t),
        λ t. cases
            (there.refuses.1 t),
      );
    })
  where
    there : IsTaking limit f inputs rows now (row ∷ later)
    there = subst (IsTaking limit f inputs rows now) e h

    cases : IsBigWithout limit now inputs row ⊎ IsBigOutside limit
        (without now inputs row) inputs later
        → IsBigOutside limit (without now inputs row) inputs later
    cases (inl big) = absurd (passed big)
    cases (inr big) = big

pub taking_refused : (limit : ℕ) (f : BooleanFunction) (inputs : List BooleanFunction)
    (rows : List (List (Option Bool))) (now : BooleanFunction)
    (coming later : List (List (Option Bool))) (row : List (Option Bool))
    → IsTaking limit f inputs rows now coming → coming ≡ row ∷ later
    → IsBigWithout limit now inputs row → IsBigOutside limit f inputs rows
taking_refused limit f inputs rows now coming later row h e big =
    (subst (IsTaking limit f inputs rows now) e h).refuses.0 (inl big)

pub taking_last : (limit : ℕ) (f : BooleanFunction) (inputs : List BooleanFunction)
    (rows : List (List (Option Bool))) (now : BooleanFunction)
    (coming : List (List (Option Bool))) → IsTaking limit f inputs rows now coming → coming ≡ []
    → (now ≡ outside f inputs rows) × (IsBigOutside limit f inputs rows → ⊥)
taking_last limit f inputs rows now coming h e = (there.same, λ big. there.refuses.1 big)
  where
    there : IsTaking limit f inputs rows now []
    there = subst (IsTaking limit f inputs rows now) e h
