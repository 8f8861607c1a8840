-- New names are words, all different, and stand nowhere in the circuit.
use Rattle.std.proofs.Common.{◌≡◌, ◌⊎◌, ℕ, ◌+◌, ◌^◌, ◌<◌, ◌≤◌, true, false, List, [], ◌∷◌}
use Rattle.std.proofs.Common.{◌++◌, bytes_eq, codes, decimal, sym, ap, ◌∙◌, inl, inr}
use Rattle.std.proofs.Common.{arith}
use Rattle.std.proofs.lemmas.Bool.{false≢true, or_cases}
use Rattle.std.proofs.lemmas.Fmt.{decimal_injective}
use Rattle.std.proofs.lemmas.List.{append_cancel_left, append_cancel_right}
use Rattle.sis_base.specs.Written.{is_word}
use Rattle.circuit_model.specs.Names.{has, all_different}
use Rattle.circuit_model.specs.Soundness.{given, control_of, names_of}
use Rattle.circuit_model.specs.declared.circuit.Circuit.{Circuit}
use Rattle.circuit_laws.proofs.Names.{different_none, different_cons, has_not, has_neither}
use Rattle.circuit_laws.proofs.Names.{all_from_has, same_name}
use Rattle.circuit_laws.proofs.Sound.{IsWord}
use Rattle.net_core.specs.Fresh.{bracketed, used_names}
use Rattle.net_core.proofs.NewNames.{bracketed_is_word}
use Rattle.map_net.specs.Naming.{AreNewTo, AreNew}
use Rattle.map_net.proofs.Netting.{AreFresh}

bracketed_injective : (m n : ℕ) → m < 2 ^ 64 → n < 2 ^ 64 → bracketed m ≡ bracketed n → m ≡ n
unfolding bracketed
bracketed_injective m n low high e =
    decimal_injective m n low high (append_cancel_right (decimal m) (decimal n) (codes "]")
    (append_cancel_left (codes "[") (decimal m ++ codes "]") (decimal n ++ codes "]") e))

-- a new name is a number in brackets, from a number on
pub record IsFrom (used : List (List ℕ)) (start : ℕ) (name : List ℕ) : Type 0 where
  pub number : ℕ
  pub low : start ≤ number
  pub fits : number < 2 ^ 64
  pub is : name ≡ bracketed number
  pub free : has used name ≡ false

new_from : (used : List (List ℕ)) (start stop : ℕ) (names : List (List ℕ))
    → AreNewTo used start names stop → (name : List ℕ) → has names name ≡ true
    → IsFrom used start name
unfolding AreNewTo
new_from used start stop [] new name h = absurd (false≢true h)
new_from used start stop (first ∷ names) (number, from, fits, is, free, taken, rest) name h =
    by (or_cases (bytes_eq name first) (has names name) h)
    (λ k. new_from used (number + 1) stop names rest name k)
  where
    by : (bytes_eq name first ≡ true) ⊎ (has names name ≡ true)
        → (has names name ≡ true → IsFrom used (number + 1) name) → IsFrom used start name
    by (inl e) behind = record {
      number = number;
      low = from;
      fits = fits;
      is = same_name name first e ∙ is;
      free = ap (has used) (same_name name first e ∙ is) ∙ free;
    }
    by (inr k) behind =
        let it = behind k in
        let low = it.low in
        record {
          number = it.number;
          low = omega (arith, low, from);
          fits = it.fits;
          is = it.is;
          free = it.free;
        }

new_different : (used : List (List ℕ)) (start stop : ℕ) (names : List (List ℕ))
    → AreNewTo used start names stop → all_different names ≡ true
unfolding AreNewTo
new_different used start stop [] new = different_none
new_different used start stop (first ∷ names) (number, from, fits, is, free, taken, rest) =
    different_cons first names
    (has_not names first (λ h. off (new_from used (number + 1) stop names rest first h)))
    (new_different used (number + 1) stop names rest)
  where
    off : IsFrom used (number + 1) first → ⊥
    off it =
        let low = it.low in
        let same : number ≡ it.number = bracketed_injective number it.number fits it.fits (sym is ∙
        it.is) in
        absurd (omega (arith, low, same))

pub new_fresh : (circuit : Circuit) (fresh : List (List ℕ)) → AreNew (used_names circuit) fresh
    → AreFresh circuit fresh
unfolding used_names
new_fresh circuit fresh (stop, new) = record {
  different = new_different (used_names circuit) 0 stop fresh new;
  words = all_from_has IsWord fresh (λ name h. word name (from name h));
  apart = λ name h. (parts name h).0;
  control = λ name h. (has_neither (control_of circuit.timing) (names_of circuit.dont_care) name
      (has_neither circuit.clocks (control_of circuit.timing ++ names_of circuit.dont_care) name
      (has_neither circuit.outputs (circuit.clocks ++ (control_of circuit.timing ++ names_of
      circuit.dont_care)) name (parts name h).1).1).1).0;
}
  where
    from : (name : List ℕ) → has fresh name ≡ true → IsFrom (used_names circuit) 0 name
    from name h = new_from (used_names circuit) 0 stop fresh new name h

    word : (name : List ℕ) → IsFrom (used_names circuit) 0 name → is_word name ≡ true
    word name it = ap is_word it.is ∙ bracketed_is_word it.number it.fits

    parts : (name : List ℕ) → has fresh name ≡ true
        → (has (given circuit) name ≡ false) × (has (circuit.outputs ++ (circuit.clocks ++
        (control_of circuit.timing ++ names_of circuit.dont_care))) name ≡ false)
    parts name h = has_neither (given circuit) (circuit.outputs ++ (circuit.clocks ++ (control_of
        circuit.timing ++ names_of circuit.dont_care))) name (from name h).free
