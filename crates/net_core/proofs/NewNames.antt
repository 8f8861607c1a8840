-- A new name is a word that nothing drives, and not the control; and it is one.
use Rattle.std.proofs.Common.{◌≡◌, ℕ, ◌+◌, ◌^◌, ◌<◌, ◌%◌, true, false, ◌&&◌, eqb, List, [], ◌∷◌, ◌++◌, refl, sym, ap, ◌∙◌, arith, inl, inr}
use Rattle.std.specs.List.{list_all}
use Rattle.std.specs.Fmt.{decimal}
use Rattle.std.proofs.lemmas.Fmt.{decimal_by_steps}
use Rattle.std.proofs.lemmas.List.Folds.{list_all-append}
use Rattle.std.proofs.lemmas.Bool.{false≢true, cases_order}
use Rattle.std.proofs.lemmas.Bool.Decides.{nat_tests}
use Rattle.sis_base.specs.Written.{is_word, is_word_byte}
use Rattle.circuit_model.specs.Names.{has}
use Rattle.circuit_model.specs.Soundness.{given, control_of, names_of, IsSound}
use Rattle.circuit_model.specs.declared.circuit.Circuit.{Circuit}
use Rattle.circuit_laws.specs.Edits.{with_added}
use Rattle.circuit_laws.specs.Fitting.{IsFitting}
use Rattle.circuit_laws.proofs.Names.{has_neither}
use Rattle.circuit_laws.proofs.Sound.{sound_added}
use Rattle.net_core.specs.declared.table.CoverTable.{CoverTable}
use Rattle.net_core.specs.Tables.{named}
use Rattle.net_core.specs.Fresh.{bracketed, used_names, IsNewName}

digit_in_word : (n : ℕ) → n < 10 → is_word_byte (48 + n) ≡ true
digit_in_word n h =
    let a : eqb (48 + n) 9 ≡ false = grind (arith, nat_tests) in
    let b : eqb (48 + n) 13 ≡ false = grind (arith, nat_tests) in
    let c : eqb (48 + n) 32 ≡ false = grind (arith, nat_tests) in
    let d : eqb (48 + n) 10 ≡ false = grind (arith, nat_tests) in
    let e : eqb (48 + n) 35 ≡ false = grind (arith, nat_tests) in
    rw (a, b, c, d, e) refl

digits_in_word : (n : ℕ) → n < 2 ^ 64 → list_all is_word_byte (decimal n) ≡ true
digits_in_word n h =
    decimal_by_steps (λ m ds. list_all is_word_byte ds ≡ true)
    (λ m lt. rw (digit_in_word m lt) refl)
    (λ m ds ge k. list_all-append is_word_byte ds ((48 + m % 10) ∷ []) ∙ (ap (λ b. b && list_all is_word_byte ((48 + m % 10) ∷ [])) k ∙ rw (digit_in_word (m % 10) (omega arith)) refl))
    n h

pub bracketed_is_word : (n : ℕ) → n < 2 ^ 64 → is_word (bracketed n) ≡ true
unfolding is_word bracketed
bracketed_is_word n h = list_all-append is_word_byte (decimal n) (93 ∷ []) ∙ ap (λ b. b && list_all is_word_byte (93 ∷ [])) (digits_in_word n h)

pub new_is_word : (circuit : Circuit) (name : List ℕ) → IsNewName circuit name → is_word name ≡ true
new_is_word circuit name new = ap is_word new.is ∙ bracketed_is_word new.number new.fits

pub new_is_free : (circuit : Circuit) (name : List ℕ) → IsNewName circuit name → (has (given circuit) name ≡ false) × (has (control_of circuit.timing) name ≡ false)
unfolding used_names
new_is_free circuit name new =
    let first = has_neither (given circuit) (circuit.outputs ++ (circuit.clocks ++ (control_of circuit.timing ++ names_of circuit.dont_care))) name (ap (has (used_names circuit)) new.is ∙ new.free) in
    let second = has_neither circuit.outputs (circuit.clocks ++ (control_of circuit.timing ++ names_of circuit.dont_care)) name first.1 in
    let third = has_neither circuit.clocks (control_of circuit.timing ++ names_of circuit.dont_care) name second.1 in
    (first.0, (has_neither (control_of circuit.timing) (names_of circuit.dont_care) name third.1).0)

-- the least free name is one
pub new_name_one : (circuit : Circuit) (name other : List ℕ) → IsNewName circuit name → IsNewName circuit other → name ≡ other
new_name_one circuit name other new second =
    elim (cases_order new.number second.number) as (λ _. name ≡ other) [
      | inl same ↦ new.is ∙ (ap bracketed same ∙ sym second.is)
      | inr (inl less) ↦ absurd (false≢true (sym new.free ∙ second.least new.number less))
      | inr (inr more) ↦ absurd (false≢true (sym second.free ∙ new.least second.number more))
    ]

-- a table added under a new name leaves the circuit sound
pub sound_new : {R : Type 0} (c : Circuit) (q : List ℕ) (table : CoverTable R) → IsSound c → IsNewName c q → IsFitting c (named q table) → IsSound (with_added c (named q table))
unfolding named
sound_new c q table h n f = let free = new_is_free c q n in sound_added c (named q table) h (new_is_word c q n) free.0 free.1 f
