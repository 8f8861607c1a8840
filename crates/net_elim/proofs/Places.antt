-- Tables by index: what holds of each, and what they become together.
use Rattle.std.proofs.Common.{◌≡◌, ℕ, zero, suc, Bool, true, false, ◌&&◌, Result, Ok, Err, IfOk, Option, Some, None, List, [], ◌∷◌, map, slice_get, refl, sym, ap, ◌∙◌, subst}
use Rattle.std.specs.List.{AllByRecursion, list_all}
use Rattle.std.specs.Option.{option_map}
use Rattle.std.proofs.lemmas.Bool.{false≢true}
use Rattle.std.proofs.lemmas.Option.{same_Some}
use Rattle.circuit_model.specs.Names.{all_different}
use Rattle.circuit_model.specs.Values.{driver}
use Rattle.circuit_model.specs.Soundness.{outputs_of}
use Rattle.circuit_model.specs.declared.circuit.Table.{Table}
use Rattle.net_work.specs.Placed.{standing, table_at}

-- two lists that have the same item at each index are the same
pub same_lists : {X : Type 0} (xs ys : List X) → ((at : ℕ) → slice_get xs at ≡ slice_get ys at) → xs ≡ ys
same_lists [] [] h = refl
same_lists [] (y ∷ ys) h = absurd (let e : None ≡ Some y = h 0 in cc)
same_lists (x ∷ xs) [] h = absurd (let e : Some x ≡ None = h 0 in cc)
same_lists {X} (x ∷ xs) (y ∷ ys) h = ap (λ (z : X). z ∷ xs) (same_Some x y (h 0)) ∙ ap (λ (zs : List X). y ∷ zs) (same_lists xs ys (λ at. h (suc at)))

-- tests of all tables
pub tests_all : (test : Table → Bool) (slots : List (Option Table)) → ((at : ℕ) (t : Table) → table_at slots at ≡ Some t → test t ≡ true) → list_all test (standing slots) ≡ true
unfolding standing
tests_all test [] h = refl
tests_all test (None ∷ slots) h = tests_all test slots (λ at. h (suc at))
tests_all test (Some s ∷ slots) h = ap (λ (b : Bool). b && list_all test (standing slots)) (h 0 s refl) ∙ tests_all test slots (λ at. h (suc at))

pub tests_none : (test : Table → Bool) (slots : List (Option Table)) (at : ℕ) (t : Table) → table_at slots at ≡ Some t → test t ≡ false → list_all test (standing slots) ≡ false
unfolding standing
tests_none test [] at t e f = absurd (let z : None ≡ Some t = e in cc)
tests_none test (None ∷ slots) zero t e f = absurd (let z : None ≡ Some t = e in cc)
tests_none test (None ∷ slots) (suc at) t e f = tests_none test slots at t e f
tests_none test (Some s ∷ slots) zero t e f = ap (λ (b : Bool). b && list_all test (standing slots)) (ap test (same_Some s t e) ∙ f)
tests_none test (Some s ∷ slots) (suc at) t e f = ap (λ (b : Bool). test s && b) (tests_none test slots at t e f) ∙ none (test s)
  where
    none : (b : Bool) → (b && false) ≡ false
    none true = refl
    none false = refl

pub tests_each : (test : Table → Bool) (slots : List (Option Table)) → list_all test (standing slots) ≡ true → (at : ℕ) (t : Table) → table_at slots at ≡ Some t → test t ≡ true
tests_each test slots h at t e = cases (test t) refl
  where
    cases : (b : Bool) → test t ≡ b → b ≡ true
    cases true k = refl
    cases false k = absurd (false≢true (sym (tests_none test slots at t e k) ∙ h))

-- two facts of a result
pub ok_both : {T E : Type 0} (r : Result T E) (P Q S : T → Type 0) → ((x : T) → P x → Q x → S x) → IfOk r P → IfOk r Q → IfOk r S
ok_both (Ok x) P Q S f p q = f x p q
ok_both (Err e) P Q S f p q = tt
