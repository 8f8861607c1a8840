-- The value of a map from rows to numbers at any row, also at one that is no key.
use Rattle.std.proofs.Common.{◌≡◌, ℕ, Bool, true, false, cond, Option, Some, None, List, refl, sym, ap, ◌∙◌, subst, inl, inr, true≢false, is_some}
use Rattle.std.specs.HashMap.{HashMap, UpdatesBy}
use Rattle.std.specs.Map.{lookup, IsKeyTest, AreApart, KeepsOthers}
use Rattle.std.specs.declared.vec.Vec.{Vec}
use Rattle.alg_div.specs.Cubes.{row_eq}
use Rattle.alg_div.specs.Steps.{number_in, or_last}
use Rattle.alg_div.proofs.Lists.{bool_cases, same_from_eq, eq_from_same}

eq_other : (x y : List (Option Bool)) → row_eq x y ≡ false → row_eq y x ≡ false
eq_other x y h = elim (bool_cases (row_eq y x)) as (λ _. row_eq y x ≡ false) [ inl t ↦ absurd (true≢false (sym (eq_from_same x y (sym (same_from_eq y x t))) ∙ h)) | inr f ↦ f ]

apart : (x y k : List (Option Bool)) → row_eq x y ≡ false → row_eq x k ≡ true → row_eq y k ≡ false
apart x y k h e = subst (λ (z : List (Option Bool)). row_eq y z ≡ false) (same_from_eq x k e) (eq_other x y h)

module _ {K : Type 0} (eq : K → K → Bool) (test : K → Bool) where
  other_entries : {X : Type 0} (old new : List (K × X)) → KeepsOthers eq test old new → (other : K → Bool) → IsKeyTest eq other → AreApart test other → lookup other new ≡ lookup other old
  unfolding KeepsOthers
  other_entries old new h = h

pub updates_row : {Y S : Type 0} (m n : HashMap (Vec (Option Bool) Y) ℕ S) (r : List (Option Bool)) (w : Option ℕ)
    → UpdatesBy (λ x y. row_eq x.items y.items) (λ key. row_eq r key.items) m n w → (s : List (Option Bool)) → number_in n s ≡ cond (row_eq r s) w (number_in m s)
updates_row m n r w h s = elim (bool_cases (row_eq r s)) as (λ _. number_in n s ≡ cond (row_eq r s) w (number_in m s)) [
  | inl t ↦ subst (λ (z : List (Option Bool)). number_in n z ≡ w) (same_from_eq r s t) h.1 ∙ sym (ap (λ (b : Bool). cond b w (number_in m s)) t)
  | inr f ↦ other_entries _ _ _ _ h.3 (λ key. row_eq s key.items) (λ x y g. ap (λ (z : List (Option Bool)). row_eq z y.items) (same_from_eq s x.items g)) (λ key. apart r s key.items f) ∙ sym (ap (λ (b : Bool). cond b w (number_in m s)) f)
]

pub none_from : (x : Option ℕ) → is_some x ≡ false → x ≡ None
none_from None h = refl
none_from (Some i) h = absurd (true≢false h)

last_other : (x : Option ℕ) (n : ℕ) → or_last x false n ≡ x
last_other None n = refl
last_other (Some i) n = refl

last_none : (x : Option ℕ) (n : ℕ) → x ≡ None → or_last x true n ≡ Some n
last_none x n e = ap (λ (y : Option ℕ). or_last y true n) e

last_some : (x : Option ℕ) (t : Bool) (n : ℕ) → is_some x ≡ true → or_last x t n ≡ x
last_some None t n h = absurd (true≢false (sym h))
last_some (Some i) t n h = refl

-- a row is inserted with its number if it is new; else the map stays
pub added-new : {Y S : Type 0} (m n : HashMap (Vec (Option Bool) Y) ℕ S) (last : List (Option Bool)) (i : ℕ) → number_in m last ≡ None → UpdatesBy (λ x y. row_eq x.items y.items) (λ key. row_eq last key.items) m n (Some i)
    → (r : List (Option Bool)) → number_in n r ≡ or_last (number_in m r) (row_eq r last) i
added-new m n last i none h r = updates_row m n last (Some i) h r ∙ sym (elim (bool_cases (row_eq last r)) as (λ _. or_last (number_in m r) (row_eq r last) i ≡ cond (row_eq last r) (Some i) (number_in m r)) [
  | inl t ↦
      let same : last ≡ r = same_from_eq last r t in
      let gone : number_in m r ≡ None = subst (λ (z : List (Option Bool)). number_in m z ≡ None) same none in
      ap (λ (b : Bool). or_last (number_in m r) b i) (eq_from_same r last (sym same)) ∙ last_none _ _ gone ∙ sym (ap (λ (b : Bool). cond b (Some i) (number_in m r)) t)
  | inr f ↦ ap (λ (b : Bool). or_last (number_in m r) b i) (eq_other last r f) ∙ last_other (number_in m r) i ∙ sym (ap (λ (b : Bool). cond b (Some i) (number_in m r)) f)
])

pub added-old : {Y S : Type 0} (m : HashMap (Vec (Option Bool) Y) ℕ S) (last : List (Option Bool)) (i : ℕ) → is_some (number_in m last) ≡ true → (r : List (Option Bool)) → number_in m r ≡ or_last (number_in m r) (row_eq r last) i
added-old m last i some r = sym (elim (bool_cases (row_eq r last)) as (λ _. or_last (number_in m r) (row_eq r last) i ≡ number_in m r) [
  | inl t ↦ last_some _ (row_eq r last) i (subst (λ (z : List (Option Bool)). is_some (number_in m z) ≡ true) (sym (same_from_eq r last t)) some)
  | inr f ↦ ap (λ (b : Bool). or_last (number_in m r) b i) f ∙ last_other (number_in m r) i
])
