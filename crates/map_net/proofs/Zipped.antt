-- Loops over two lists side by side.
use Rattle.std.proofs.Common.{◌≡◌, ◌⊎◌, List, [], ◌∷◌, ◌++◌, sym, ap, ap₂, ◌∙◌, append_assoc}
use Rattle.std.proofs.Common.{append-nil, inl, inr}

-- a list is made of two lists place by place
pub record IsZipped {A B C : Type 0} (step : A → B → List C) (made : List A → List B
    → List C) : Type 0 where
  pub more : (a : A) (firsts : List A) (b : B) (seconds : List B)
      → made (a ∷ firsts) (b ∷ seconds) ≡ step a b ++ made firsts seconds
  pub none_left : (seconds : List B) → made [] seconds ≡ []
  pub none_right : (firsts : List A) → made firsts [] ≡ []

pub zipped_more : {A B C : Type 0} (step : A → B → List C) (made : List A → List B → List C)
    → IsZipped step made → (a : A) (b : B) (firsts rest : List A) (seconds left : List B)
    (before after whole : List C)
    → after ≡ before ++ step a b → firsts ≡ a ∷ rest → seconds ≡ b ∷ left
    → before ++ made firsts seconds ≡ whole → after ++ made rest left ≡ whole
zipped_more step made by a b firsts rest seconds left before after whole put first second h =
    ap (λ xs. xs ++ made rest left) put
    ∙ append_assoc before (step a b) (made rest left)
    ∙ ap (λ xs. before ++ xs) (sym (by.more a rest b left) ∙ sym (ap₂ made first second))
    ∙ h

pub zipped_all : {A B C : Type 0} (step : A → B → List C) (made : List A → List B → List C)
    → IsZipped step made → (firsts : List A) (seconds : List B) (before whole : List C)
    → (firsts ≡ []) ⊎ (seconds ≡ []) → before ++ made firsts seconds ≡ whole → before ≡ whole
zipped_all step made by firsts seconds before whole h e =
    sym (append-nil before) ∙ ap (λ xs. before ++ xs) (sym (empty h)) ∙ e
  where
    empty : (firsts ≡ []) ⊎ (seconds ≡ []) → made firsts seconds ≡ []
    empty (inl none) = ap (λ xs. made xs seconds) none ∙ by.none_left seconds
    empty (inr none) = ap (λ xs. made firsts xs) none ∙ by.none_right firsts
