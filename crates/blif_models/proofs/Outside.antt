-- What the signals of an instance are named outside, and the steps over its lines.
use Rattle.std.proofs.Common.{◌≡◌, ℕ, Bool, true, false, ◌||◌, cond, if◌then◌else◌, Option, Some, None, option_map, List, [], ◌∷◌, ◌++◌, find, is_some, bytes_eq, codes, refl, sym, ap, ◌∙◌}
use Rattle.std.specs.Option.{option_map_or}
use Rattle.circuit_model.specs.Names.{has}
use Rattle.blif_gates.specs.GateLines.{pin_in, signal_in, pins_of, signal_for}
use Rattle.blif_models.specs.Renaming.{actual_of}
use Rattle.blif_models.specs.Flat.{Instance, outside}

-- a signal outside, by its actual
outside_by : (pairs : List (List ℕ)) (signal other : List ℕ)
    → (if has (pins_of pairs) signal then signal_for pairs signal else other) ≡ option_map_or (λ (actual : List ℕ). actual) (actual_of pairs signal) other
unfolding actual_of signal_for
outside_by [] signal other = refl
outside_by (pair ∷ pairs) signal other =
    by (bytes_eq signal (pin_in pair)) (has (pins_of pairs) signal) (find (λ (one : List ℕ). bytes_eq signal (pin_in one)) pairs) (outside_by pairs signal other)
  where
    by : (b among : Bool) (found : Option (List ℕ))
        → (if among then option_map_or signal_in found [] else other) ≡ option_map_or (λ (actual : List ℕ). actual) (option_map signal_in found) other
        → (if b || among then option_map_or signal_in (cond b (Some pair) found) [] else other) ≡ option_map_or (λ (actual : List ℕ). actual) (option_map signal_in (cond b (Some pair) found)) other
    by true among found e = refl
    by false among found e = e

-- a formal is its actual
pub outside_formal : (instance : Instance) (signal actual : List ℕ) → Some actual ≡ actual_of instance.pairs signal → outside instance signal ≡ actual
unfolding outside
outside_formal instance signal actual e =
    outside_by instance.pairs signal (instance.path ++ codes "." ++ signal)
    ∙ ap (λ (o : Option (List ℕ)). option_map_or (λ (one : List ℕ). one) o (instance.path ++ codes "." ++ signal)) (sym e)

-- any other signal is a path
pub outside_other : (instance : Instance) (signal : List ℕ) → None ≡ actual_of instance.pairs signal → outside instance signal ≡ instance.path ++ codes "." ++ signal
unfolding outside
outside_other instance signal e =
    outside_by instance.pairs signal (instance.path ++ codes "." ++ signal)
    ∙ ap (λ (o : Option (List ℕ)). option_map_or (λ (one : List ℕ). one) o (instance.path ++ codes "." ++ signal)) (sym e)

-- a formal has an actual
pub formal_known : (pairs : List (List ℕ)) (signal : List ℕ) → is_some (actual_of pairs signal) ≡ has (pins_of pairs) signal
unfolding actual_of
formal_known [] signal = refl
formal_known (pair ∷ pairs) signal = by (bytes_eq signal (pin_in pair)) (has (pins_of pairs) signal) (find (λ (one : List ℕ). bytes_eq signal (pin_in one)) pairs) (formal_known pairs signal)
  where
    by : (b among : Bool) (found : Option (List ℕ)) → is_some (option_map signal_in found) ≡ among → is_some (option_map signal_in (cond b (Some pair) found)) ≡ (b || among)
    by true among found e = refl
    by false among found e = e
