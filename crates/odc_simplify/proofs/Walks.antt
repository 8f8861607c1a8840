-- What holds while a product is made literal by literal, or row after row is removed from a
-- function, by numbers of one object.
use Rattle.std.proofs.Common.{◌≡◌, ℕ, ◌<◌, ◌≤◌, suc, ◌+◌, Bool, true, Option, None, List, [], ◌∷◌, length, map, get_or, drop}
use Rattle.std.proofs.Common.{refl, sym, ap, ◌∙◌, subst, inl, inr, ◌⊎◌, Result, Ok, Err, OnOk, add-one, arith}
use Rattle.std.proofs.Math.Seq.{drop-cons}
use Rattle.std.proofs.lemmas.List.{drop_all}
use Rattle.func_core.specs.Trees.{BooleanFunction, Tree, constant, complement, conjunction}
use Rattle.func_core.specs.Numbers.{Stays}
use Rattle.func_core.specs.declared.functions.Func.{Func}
use Rattle.odc_simplify.specs.Products.{with_literal, product, without, outside}
use Rattle.odc_simplify.specs.Products.{IsBigWith, IsBigAlong, IsBigWithout, IsBigOutside}
use Rattle.odc_simplify.specs.Held.{function_of, inputs_of, Gives, IsLiteral, AreLiterals}
use Rattle.odc_simplify.specs.declared.products.Literal.{Literal}
use Rattle.odc_simplify.proofs.Numbers.{stays_through, function_stays, gives_stays, literal_stays, inputs_stay, literal_at}
use Rattle.odc_simplify.proofs.Steps.{IsAlong, along_first, along_more, along_refused, along_last}
use Rattle.odc_simplify.proofs.Steps.{IsTaking, taking_first, taking_more, taking_refused, taking_last}

module _ {S : Type 0} (holds : S → ℕ → Type 0) (tree : S → ℕ → Tree) (limit : S → ℕ) where
  pub stays_itself : (s : S) → Stays holds tree limit s s
  stays_itself s = record { kept = λ n stands. (stands, refl); same = refl }

  -- what holds of a later state, for the numbers' functions there, holds of the earlier functions
  pub carried : (P : ℕ → BooleanFunction → List BooleanFunction → Type 0) (s t : S) (number : Func)
      (f : BooleanFunction) (literals : List Literal) → Stays holds tree limit s t
      → AreLiterals (holds s) (tree s) literals → Gives (holds t) (tree t) number f
      → P (limit t) (function_of (tree t) number) (inputs_of (tree t) literals)
      → P (limit s) f (inputs_of (tree s) literals)
  carried P s t number f literals stays are gives h =
      subst (λ (l : ℕ). P l f (inputs_of (tree s) literals)) stays.same
      (subst (λ (g : BooleanFunction). P (limit t) g (inputs_of (tree s) literals)) gives.computes
      (subst (λ (gs : List BooleanFunction). P (limit t) (function_of (tree t) number) gs)
      (inputs_stay holds tree limit s t literals stays are) h))

  pub carried_two : (P : ℕ → BooleanFunction → BooleanFunction → Type 0) (s t : S) (one two : Func)
      (f g : BooleanFunction) → Stays holds tree limit s t → Gives (holds t) (tree t) one f
      → Gives (holds t) (tree t) two g
      → P (limit t) (function_of (tree t) one) (function_of (tree t) two) → P (limit s) f g
  carried_two P s t one two f g stays first second h =
      subst (λ (l : ℕ). P l f g) stays.same
      (subst (λ (x : BooleanFunction). P (limit t) x g) first.computes
      (subst (λ (x : BooleanFunction). P (limit t) (function_of (tree t) one) x) second.computes h))

  -- a number that was valid gives its function later
  pub gives_then : (s t : S) (number : Func) → Stays holds tree limit s t → holds s number.0
      → Gives (holds t) (tree t) number (function_of (tree s) number)
  gives_then s t number stays stands =
      gives_stays holds tree limit s t number (function_of (tree s) number) stays
      (record { stands = stands; computes = refl })

  -- literals so far, from the first
  pub record IsMultiplying (first now : S) (from made : Func) (literals : List Literal)
      (row : List (Option Bool)) (place : ℕ) : Type 0 where
    pub stays : Stays holds tree limit first now
    pub stands : holds now made.0
    pub along : IsAlong (limit first) (function_of (tree first) from)
        (inputs_of (tree first) literals) row (function_of (tree now) made)
        (inputs_of (tree first) (drop place literals)) (drop place row)

  pub multiplying_first : (s : S) (from : Func) (literals : List Literal) (row : List (Option Bool))
      → holds s from.0 → IsMultiplying s s from from literals row 0
  multiplying_first s from literals row stands = record {
    stays = stays_itself s;
    stands = stands;
    along = along_first (limit s) (function_of (tree s) from) (inputs_of (tree s) literals) row;
  }

  pub literal_due : (first now : S) (literals : List Literal) (place : ℕ) (literal : Literal)
      → Stays holds tree limit first now → AreLiterals (holds first) (tree first) literals
      → place < length literals → IsLiteral (holds now) (tree now) (get_or literals place literal)
  literal_due first now literals place literal stays are low =
      literal_stays holds tree limit first now (get_or literals place literal) stays
      (literal_at holds tree limit first literals place literal low are)

  module _ (first now : S) (from made : Func) (literals : List Literal) (row : List (Option Bool))
      (place : ℕ) (literal : Literal) (bit : Option Bool)
      (multiplying : IsMultiplying first now from made literals row place)
      (are : AreLiterals (holds first) (tree first) literals) (low : place < length literals)
      (wide : length row ≡ length literals) (is : bit ≡ get_or row place None) where
    abbrev input : BooleanFunction
    input = function_of (tree first) (get_or literals place literal).positive

    input_stays : function_of (tree now) (get_or literals place literal).positive ≡ input
    input_stays =
        function_stays holds tree limit first now (get_or literals place literal).positive
        multiplying.stays
        (literal_at holds tree limit first literals place literal low are).positive

    inputs_here : inputs_of (tree first) (drop place literals)
        ≡ input ∷ inputs_of (tree first) (drop (suc place) literals)
    inputs_here = ap (inputs_of (tree first)) (drop-cons literals place literal low)

    row_here : drop place row ≡ bit ∷ drop (suc place) row
    row_here =
        let within : place < length row = omega arith in
        drop-cons row place None within ∙ ap (λ (x : Option Bool). x ∷ drop (suc place) row)
        (sym is)

    pub multiplying_more : (next : S) (later : Func) → Stays holds tree limit now next
        → Gives (holds next) (tree next) later (with_literal (function_of (tree now) made)
        (function_of (tree now) (get_or literals place literal).positive) bit)
        → (IsBigWith (limit now) (function_of (tree now) made)
        (function_of (tree now) (get_or literals place literal).positive) bit → ⊥)
        → IsMultiplying first next from later literals row (place + 1)
    multiplying_more next later stays gives passed =
        rw add-one (record {
          stays = stays_through holds tree limit first now next multiplying.stays stays;
          stands = gives.stands;
          along =
              along_more (limit first) (function_of (tree first) from)
              (inputs_of (tree first) literals) row (function_of (tree now) made)
              (function_of (tree next) later) (inputs_of (tree first) (drop place literals))
              (inputs_of (tree first) (drop (suc place) literals)) (drop place row)
              (drop (suc place) row) input bit multiplying.along inputs_here row_here
              (gives.computes
              ∙ ap (λ (x : BooleanFunction). with_literal (function_of (tree now) made) x bit)
              input_stays)
              (λ big.
              passed
              (subst (λ (x : BooleanFunction). IsBigWith (limit now) (function_of (tree now) made) x
              bit) (sym input_stays)
              (subst (λ (l : ℕ). IsBigWith l (function_of (tree now) made) input bit)
              (sym multiplying.stays.same) big)));
        })

    pub multiplying_refused : IsBigWith (limit now) (function_of (tree now) made)
        (function_of (tree now) (get_or literals place literal).positive) bit
        → IsBigAlong (limit first) (function_of (tree first) from)
        (inputs_of (tree first) literals) row
    multiplying_refused big =
        along_refused (limit first) (function_of (tree first) from)
        (inputs_of (tree first) literals) row (function_of (tree now) made)
        (inputs_of (tree first) (drop place literals))
        (inputs_of (tree first) (drop (suc place) literals)) (drop place row)
        (drop (suc place) row) input bit multiplying.along inputs_here row_here
        (subst (λ (l : ℕ). IsBigWith l (function_of (tree now) made) input bit)
        multiplying.stays.same
        (subst (λ (x : BooleanFunction). IsBigWith (limit now) (function_of (tree now) made) x bit)
        input_stays big))

  pub multiplying_last : (first now : S) (from made : Func) (literals : List Literal)
      (row : List (Option Bool)) (place : ℕ) → IsMultiplying first now from made literals row place
      → length literals ≤ place
      → Gives (holds now) (tree now) made (product (function_of (tree first) from)
      (inputs_of (tree first) literals) row)
      × (IsBigAlong (limit first) (function_of (tree first) from)
      (inputs_of (tree first) literals) row → ⊥)
  multiplying_last first now from made literals row place multiplying done =
      let last = along_last (limit first) (function_of (tree first) from)
      (inputs_of (tree first) literals) row (function_of (tree now) made)
      (inputs_of (tree first) (drop place literals)) (drop place row) multiplying.along
      (ap (inputs_of (tree first)) (drop_all place literals done)) in
      (record { stands = multiplying.stands; computes = last.0 }, last.1)

  -- the complement of the product of a row
  pub outside_given : (first one two three : S) (all made left : Func) (literals : List Literal)
      (row : List (Option Bool)) → Stays holds tree limit first one
      → AreLiterals (holds first) (tree first) literals
      → Gives (holds one) (tree one) all (constant true)
      → Gives (holds two) (tree two) made (product (function_of (tree one) all)
      (inputs_of (tree one) literals) row)
      → Gives (holds three) (tree three) left (complement (function_of (tree two) made))
      → Gives (holds three) (tree three) left
      (complement (product (constant true) (inputs_of (tree first) literals) row))
  outside_given first one two three all made left literals row stays are always whole h = record {
    stands = h.stands;
    computes =
        h.computes ∙ ap complement (whole.computes
        ∙ ap (λ (f : BooleanFunction). product f (inputs_of (tree one) literals) row)
        always.computes
        ∙ ap (λ (fs : List BooleanFunction). product (constant true) fs row)
        (inputs_stay holds tree limit first one literals stays are));
  }

  -- what holds of the product with it holds of the function without the row
  pub without_carried : (P : ℕ → BooleanFunction → Type 0) (first one two three : S)
      (from all made left : Func) (literals : List Literal) (row : List (Option Bool))
      → holds first from.0 → AreLiterals (holds first) (tree first) literals
      → Stays holds tree limit first one → Stays holds tree limit one two
      → Stays holds tree limit two three
      → Gives (holds one) (tree one) all (constant true)
      → Gives (holds two) (tree two) made (product (function_of (tree one) all)
      (inputs_of (tree one) literals) row)
      → Gives (holds three) (tree three) left (complement (function_of (tree two) made))
      → P (limit three)
      (conjunction (function_of (tree three) from) (function_of (tree three) left))
      → P (limit first)
      (without (function_of (tree first) from) (inputs_of (tree first) literals) row)
  without_carried P s t u v from all made left literals row stands are a b c one whole gives h =
      let stays : Stays holds tree limit s v
      = stays_through holds tree limit s u v (stays_through holds tree limit s t u a b) c in
      carried_two (λ l f g. P l (conjunction f g)) s v from left (function_of (tree s) from)
      (complement (product (constant true) (inputs_of (tree s) literals) row)) stays
      (gives_then s v from stays stands)
      (outside_given s t u v all made left literals row a are one whole gives) h

  -- rows so far, from the first
  pub record IsTakingOut (first now : S) (from left : Func) (literals : List Literal)
      (rows : List (List (Option Bool))) (coming : List (List (Option Bool))) : Type 0 where
    pub stays : Stays holds tree limit first now
    pub stands : holds now left.0
    pub taking : IsTaking (limit first) (function_of (tree first) from)
        (inputs_of (tree first) literals) rows (function_of (tree now) left) coming

  pub taking_out_first : (s : S) (from : Func) (literals : List Literal)
      (rows : List (List (Option Bool))) → holds s from.0
      → IsTakingOut s s from from literals rows rows
  taking_out_first s from literals rows stands = record {
    stays = stays_itself s;
    stands = stands;
    taking = taking_first (limit s) (function_of (tree s) from) (inputs_of (tree s) literals) rows;
  }

  pub taking_out_more : (first now next : S) (from left later : Func) (literals : List Literal)
      (rows coming rest : List (List (Option Bool))) (row : List (Option Bool))
      → IsTakingOut first now from left literals rows coming
      → AreLiterals (holds first) (tree first) literals → coming ≡ row ∷ rest
      → Stays holds tree limit now next
      → Gives (holds next) (tree next) later
      (without (function_of (tree now) left) (inputs_of (tree now) literals) row)
      → (IsBigWithout (limit now) (function_of (tree now) left) (inputs_of (tree now) literals) row
      → ⊥)
      → IsTakingOut first next from later literals rows rest
  taking_out_more s t u from left later literals rows coming rest row out are e st h p = record {
    stays = stays_through holds tree limit s t u out.stays st;
    stands = h.stands;
    taking =
        taking_more (limit s) (function_of (tree s) from) (inputs_of (tree s) literals)
        rows (function_of (tree t) left) (function_of (tree u) later) coming rest row
        out.taking e
        (h.computes
        ∙ ap (λ (fs : List BooleanFunction). without (function_of (tree t) left) fs row)
        (inputs_stay holds tree limit s t literals out.stays are))
        (λ big.
        p
        (subst (λ (fs : List BooleanFunction). IsBigWithout (limit t)
        (function_of (tree t) left) fs row)
        (sym (inputs_stay holds tree limit s t literals out.stays are))
        (subst (λ (l : ℕ). IsBigWithout l (function_of (tree t) left)
        (inputs_of (tree s) literals) row) (sym out.stays.same) big)));
  }

  pub taking_out_refused : (first now : S) (from left : Func) (literals : List Literal)
      (rows coming rest : List (List (Option Bool))) (row : List (Option Bool))
      → IsTakingOut first now from left literals rows coming
      → AreLiterals (holds first) (tree first) literals → coming ≡ row ∷ rest
      → IsBigWithout (limit now) (function_of (tree now) left) (inputs_of (tree now) literals) row
      → IsBigOutside (limit first) (function_of (tree first) from)
      (inputs_of (tree first) literals) rows
  taking_out_refused first now from left literals rows coming rest row out are here big =
      taking_refused (limit first) (function_of (tree first) from)
      (inputs_of (tree first) literals) rows (function_of (tree now) left) coming rest row
      out.taking here
      (subst (λ (l : ℕ). IsBigWithout l (function_of (tree now) left)
      (inputs_of (tree first) literals) row) out.stays.same
      (subst (λ (fs : List BooleanFunction). IsBigWithout (limit now) (function_of (tree now) left)
      fs row) (inputs_stay holds tree limit first now literals out.stays are) big))

  pub taking_out_last : (first now : S) (from left : Func) (literals : List Literal)
      (rows coming : List (List (Option Bool)))
      → IsTakingOut first now from left literals rows coming
      → coming ≡ []
      → Gives (holds now) (tree now) left (outside (function_of (tree first) from)
      (inputs_of (tree first) literals) rows)
      × (IsBigOutside (limit first) (function_of (tree first) from)
      (inputs_of (tree first) literals) rows → ⊥)
  taking_out_last first now from left literals rows coming out done =
      let last = taking_last (limit first) (function_of (tree first) from)
      (inputs_of (tree first) literals) rows (function_of (tree now) left) coming out.taking done in
      (record { stands = out.stands; computes = last.0 }, last.1)

-- the rows from an index on
pub rows_from : {X : Type 0} (f : X → List (Option Bool)) (rows : List X) (i : ℕ) (row : X)
    → i < length rows → row ≡ get_or rows i row
    → map f (drop i rows) ≡ f row ∷ map f (drop (i + 1) rows)
rows_from {X} f rows i row low is =
    rw add-one (ap (map f) (drop-cons rows i row low ∙ ap (λ (x : X). x ∷ drop (suc i) rows)
    (sym is)))

-- neither of two, if it is not the one and not the other
pub neither : (A B : Type 0) → (A → ⊥) → (B → ⊥) → A ⊎ B → ⊥
neither A B first second (inl a) = first a
neither A B first second (inr b) = second b

pub more_on_ok : {T E : Type 0} (P Q : Type 0) (result : Result T E) → (P → Q) → OnOk result P
    → OnOk result Q
more_on_ok P Q (Ok value) more h = more h
more_on_ok P Q (Err fault) more h = tt
