-- Leaf assignments are the valuations of indices: the value of a signal, and where it is
-- observable, depend only on the bits at the indices of the leaves.
use Rattle.std.proofs.Common.{◌≡◌, ℕ, zero, suc, ◌+◌, ◌<◌, Bool, true, false, not, ◌&&◌, ◌||◌, List, [], ◌∷◌, ◌++◌, map, length}
use Rattle.std.proofs.Common.{bytes_eq, refl, sym, ap, ap₂, ◌∙◌, append-nil, inl, inr, ◌⊎◌, arith}
use Rattle.std.proofs.lemmas.Bool.{false≢true, or_cases, or_parts}
use Rattle.std.specs.List.{list_any}
use Rattle.circuit_model.specs.Names.{has}
use Rattle.circuit_model.specs.Values.{Leaves, signal_value, is_free_under}
use Rattle.circuit_model.specs.Runs.{leaves_of}
use Rattle.circuit_model.specs.Soundness.{latch_inputs}
use Rattle.circuit_model.specs.declared.circuit.Circuit.{Circuit}
use Rattle.circuit_laws.specs.Same.{IsAssignment}
use Rattle.circuit_laws.proofs.Names.{same_name}
use Rattle.func_core.specs.Trees.{BooleanFunction, differ}
use Rattle.odc_simplify.specs.Seen.{valuation}
use Rattle.net_func.specs.Signals.{bits_from, leaves_at, fixed, own_function, is_changed, is_shown, is_seen}

-- the bits of a list are those of its valuation
bits_shift : (place count : ℕ) (bit : Bool) (bits : List Bool)
    → bits_from (suc place) count (valuation (bit ∷ bits)) ≡ bits_from place count (valuation bits)
unfolding bits_from
bits_shift place zero bit bits = refl
bits_shift place (suc count) bit bits =
    ap (λ (x : List Bool). valuation bits place ∷ x) (bits_shift (suc place) count bit bits)

bits_all : (bits : List Bool) → bits_from 0 (length bits) (valuation bits) ≡ bits
unfolding bits_from
bits_all [] = refl
bits_all (bit ∷ bits) =
    ap (λ (x : List Bool). bit ∷ x) (bits_shift 0 (length bits) bit bits ∙ bits_all bits)

bits_first : (row state : List Bool) → bits_from 0 (length row) (valuation (row ++ state)) ≡ row
unfolding bits_from
bits_first [] state = refl
bits_first (bit ∷ row) state =
    ap (λ (x : List Bool). bit ∷ x)
    (bits_shift 0 (length row) bit (row ++ state) ∙ bits_first row state)

bits_behind : (row state : List Bool)
    → bits_from (length row) (length state) (valuation (row ++ state)) ≡ state
bits_behind [] state = bits_all state
bits_behind (bit ∷ row) state =
    bits_shift (length row) (length state) bit (row ++ state) ∙ bits_behind row state

-- each leaf assignment is that of a valuation
abbrev pub point_of : List Bool → List Bool → ℕ → Bool
point_of state row = valuation (row ++ state)

pub leaves_there : (circuit : Circuit) (state row : List Bool) → IsAssignment circuit state row
    → leaves_at circuit (point_of state row) ≡ leaves_of circuit state row
unfolding leaves_at
leaves_there circuit state row wide =
    ap₂ {C = Leaves} (λ (s r : List Bool). leaves_of circuit s r)
    (ap₂ {C = List Bool} (λ (n m : ℕ). bits_from n m (point_of state row)) (sym wide.1) (sym wide.0)
    ∙ bits_behind row state)
    (ap (λ (n : ℕ). bits_from 0 n (point_of state row)) (sym wide.1) ∙ bits_first row state)

-- valuations that agree at the indices of the leaves give one leaf assignment
bits_same : (place count : ℕ) (one other : ℕ → Bool)
    → ((leaf : ℕ) → leaf < place + count → one leaf ≡ other leaf)
    → bits_from place count one ≡ bits_from place count other
unfolding bits_from
bits_same place zero one other same = refl
bits_same place (suc count) one other same =
    ap (λ (b : Bool). b ∷ bits_from (suc place) count one) (same place (omega arith))
    ∙ ap (λ (x : List Bool). other place ∷ x)
    (bits_same (suc place) count one other (λ leaf low. same leaf (omega arith)))

pub leaves_agree : (circuit : Circuit) (one other : ℕ → Bool)
    → ((leaf : ℕ) → leaf < length circuit.inputs + length circuit.latches → one leaf ≡ other leaf)
    → leaves_at circuit one ≡ leaves_at circuit other
unfolding leaves_at
leaves_agree circuit one other same =
    ap₂ {C = Leaves} (λ (s r : List Bool). leaves_of circuit s r)
    (bits_same (length circuit.inputs) (length circuit.latches) one other same)
    (bits_same 0 (length circuit.inputs) one other (λ leaf low. same leaf (omega arith)))

-- some of the functions of names, which agree at two valuations
any_agree : (F : List ℕ → BooleanFunction) (one other : ℕ → Bool)
    → ((name : List ℕ) → F name one ≡ F name other) → (rest : List BooleanFunction)
    → list_any (λ (f : BooleanFunction). f one) rest ≡ list_any (λ
    (f : BooleanFunction). f other) rest
    → (names : List (List ℕ))
    → list_any (λ (f : BooleanFunction). f one) (map F names ++ rest)
    ≡ list_any (λ (f : BooleanFunction). f other) (map F names ++ rest)
any_agree F one other same rest ends [] = ends
any_agree F one other same rest ends (name ∷ names) =
    ap₂ ◌||◌ (same name) (any_agree F one other same rest ends names)

-- where a signal is observable depends only on the leaf assignment
pub own_agrees : (circuit : Circuit) (signal : List ℕ) (one other : ℕ → Bool)
    → leaves_at circuit one ≡ leaves_at circuit other
    → own_function circuit signal one ≡ own_function circuit signal other
own_agrees circuit signal one other same =
    ap (λ (leaves : Leaves). signal_value circuit.tables leaves signal) same

pub changed_agrees : (circuit : Circuit) (name signal : List ℕ) (one other : ℕ → Bool)
    → leaves_at circuit one ≡ leaves_at circuit other
    → is_changed circuit name signal one ≡ is_changed circuit name signal other
changed_agrees circuit name signal one other same =
    ap (λ (leaves : Leaves). differ (signal_value circuit.tables leaves signal)
    (signal_value circuit.tables (fixed name (not (signal_value circuit.tables leaves name)) leaves)
    signal)) same

pub shown_agrees : (circuit : Circuit) (name output : List ℕ) (one other : ℕ → Bool)
    → leaves_at circuit one ≡ leaves_at circuit other
    → is_shown circuit name output one ≡ is_shown circuit name output other
shown_agrees circuit name output one other same =
    ap₂ ◌&&◌
    (ap (λ (leaves : Leaves). not (is_free_under circuit.dont_care leaves output)) same)
    (changed_agrees circuit name output one other same)

pub seen_agrees : (circuit : Circuit) (name : List ℕ) (one other : ℕ → Bool)
    → leaves_at circuit one ≡ leaves_at circuit other
    → is_seen circuit name one ≡ is_seen circuit name other
seen_agrees circuit name one other same =
    any_agree (is_changed circuit name) one other
    (λ signal. changed_agrees circuit name signal one other same)
    (map (is_shown circuit name) circuit.outputs) (outputs circuit.outputs) (latch_inputs circuit)
  where
    outputs : (names : List (List ℕ))
        → list_any (λ (f : BooleanFunction). f one) (map (is_shown circuit name) names)
        ≡ list_any (λ (f : BooleanFunction). f other) (map (is_shown circuit name) names)
    outputs [] = refl
    outputs (output ∷ names) = ap₂ ◌||◌ (shown_agrees circuit name output one other same)
        (outputs names)

-- a signal that is not observable changes no latch input, and is shown by no output
none_before : (F : List ℕ → BooleanFunction) (point : ℕ → Bool) (rest : List BooleanFunction)
    (names : List (List ℕ))
    → list_any (λ (f : BooleanFunction). f point) (map F names ++ rest) ≡ false
    → ((name : List ℕ) → has names name ≡ true → F name point ≡ false)
    × (list_any (λ (f : BooleanFunction). f point) rest ≡ false)
none_before F point rest [] none = (λ name among. absurd (false≢true among), none)
none_before F point rest (first ∷ names) none =
    let parts = or_parts (F first point)
    (list_any (λ (f : BooleanFunction). f point) (map F names ++ rest)) none in
    let behind = none_before F point rest names parts.1 in (
      λ name among. cases name (or_cases (bytes_eq name first)
          (has names name) among) parts.0 behind.0,
      behind.1,
    )
  where
    cases : (name : List ℕ) → (bytes_eq name first ≡ true) ⊎ (has names name ≡ true)
        → F first point ≡ false → ((other : List ℕ) → has names other ≡ true
        → F other point ≡ false)
        → F name point ≡ false
    cases name (inl here) is more = ap (λ (n : List ℕ). F n point) (same_name name first here) ∙ is
    cases name (inr there) is more = more name there

pub unseen : (circuit : Circuit) (name : List ℕ) (point : ℕ → Bool)
    → is_seen circuit name point ≡ false
    → ((signal : List ℕ) → has (latch_inputs circuit) signal ≡ true
    → is_changed circuit name signal point ≡ false)
    × ((output : List ℕ) → has circuit.outputs output ≡ true
    → is_shown circuit name output point ≡ false)
unseen circuit name point none =
    let taken = none_before (is_changed circuit name) point
    (map (is_shown circuit name) circuit.outputs) (latch_inputs circuit) none in
    let ends : list_any (λ (f : BooleanFunction). f point)
    (map (is_shown circuit name) circuit.outputs ++ []) ≡ false
    = ap (list_any (λ (f : BooleanFunction). f point))
    (append-nil (map (is_shown circuit name) circuit.outputs)) ∙ taken.1 in
    (taken.0, (none_before (is_shown circuit name) point [] circuit.outputs ends).0)
