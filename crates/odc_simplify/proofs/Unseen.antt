-- A table is replaced by another one that differs from it only where its signal is not observable:
-- the circuit is the same to whoever drives and watches it.
use Rattle.std.proofs.Common.{◌≡◌, ℕ, Bool, true, false, not, ◌&&◌, Some, List, refl, sym, ap, ◌∙◌, inl, inr}
use Rattle.circuit_model.specs.Names.{has}
use Rattle.circuit_model.specs.Values.{Leaves, driver, driven_value, signal_value, is_free_under}
use Rattle.circuit_model.specs.Runs.{value_in, is_free}
use Rattle.circuit_model.specs.Soundness.{latch_inputs}
use Rattle.circuit_model.specs.declared.circuit.Table.{Table}
use Rattle.circuit_model.specs.declared.circuit.Circuit.{Circuit}
use Rattle.circuit_laws.specs.Edits.{replaced, with_replaced}
use Rattle.circuit_laws.specs.Same.{IsAssignment, IsSame, IsSettled}
use Rattle.circuit_laws.proofs.Same.{same_where}
use Rattle.func_core.specs.Trees.{differ}
use Rattle.net_func.specs.Signals.{leaves_at, fixed, is_changed, is_shown, is_seen}
use Rattle.odc_simplify.proofs.Leaves.{point_of, leaves_there, unseen}
use Rattle.odc_simplify.proofs.Turned.{turned_values, KeepsOrTurns, either_each}

differ_none : (a b : Bool) → differ a b ≡ false → a ≡ b
differ_none true true e = refl
differ_none true false e = e
differ_none false true e = sym e
differ_none false false e = refl

left_open : (a b : Bool) → a ≡ false → (not a && b) ≡ false → b ≡ false
left_open true b e h = cc
left_open false b e h = h

-- complementing a signal changes another one exactly if that one then has another value
changed_there : (circuit : Circuit) (name signal : List ℕ) (state row : List Bool)
    → IsAssignment circuit state row → is_changed circuit name signal (point_of state row)
    ≡ differ (value_in circuit state row signal) (turned_values circuit name state row signal)
unfolding value_in
changed_there circuit name signal state row wide =
    ap (λ (leaves : Leaves). differ (signal_value circuit.tables leaves signal)
    (signal_value circuit.tables (fixed name (not (signal_value circuit.tables leaves name)) leaves)
    signal)) (leaves_there circuit state row wide)

free_there : (circuit : Circuit) (output : List ℕ) (state row : List Bool)
    → IsAssignment circuit state row
    → is_free_under circuit.dont_care (leaves_at circuit (point_of state row)) output
    ≡ is_free circuit state row output
unfolding is_free
free_there circuit output state row wide =
    ap (λ (leaves : Leaves). is_free_under circuit.dont_care leaves output)
    (leaves_there circuit state row wide)

pub unseen_same : (circuit : Circuit) (old new : Table) → IsSettled circuit
    → driver circuit.tables new.output ≡ Some old
    → ((name : List ℕ) → has new.inputs name ≡ true → has old.inputs name ≡ true)
    → ((state row : List Bool) → IsAssignment circuit state row
    → (driven_value (Some new) (value_in circuit state row)
    ≡ driven_value (Some old) (value_in circuit state row) → ⊥)
    → is_seen circuit new.output (point_of state row) ≡ false)
    → IsSame circuit (with_replaced circuit new)
unfolding with_replaced
unseen_same circuit old new settled at reads hidden =
    same_where circuit (replaced circuit.tables new)
    (λ state row wide output among bound.
    outputs state row wide output among bound
    (either_each circuit old new settled at reads state row))
    (λ state row wide signal among.
    inputs state row wide signal among (either_each circuit old new settled at reads state row))
  where
    outputs : (state row : List Bool) → IsAssignment circuit state row → (output : List ℕ)
        → has circuit.outputs output ≡ true → is_free circuit state row output ≡ false
        → KeepsOrTurns circuit old new state row
        → value_in circuit state row output ≡ value_in (with_replaced circuit new) state row output
    outputs state row wide output among bound (inl keeps) = keeps output
    outputs state row wide output among bound (inr (other, turns)) =
        let shown : is_shown circuit new.output output (point_of state row) ≡ false
        = (unseen circuit new.output (point_of state row)
        (hidden state row wide other)).1 output among in
        let stays : is_changed circuit new.output output (point_of state row) ≡ false
        = left_open _ _ (free_there circuit output state row wide ∙ bound) shown in
        differ_none _ _ (sym (changed_there circuit new.output output state row wide) ∙ stays)
        ∙ turns output

    inputs : (state row : List Bool) → IsAssignment circuit state row → (signal : List ℕ)
        → has (latch_inputs circuit) signal ≡ true → KeepsOrTurns circuit old new state row
        → value_in circuit state row signal ≡ value_in (with_replaced circuit new) state row signal
    inputs state row wide signal among (inl keeps) = keeps signal
    inputs state row wide signal among (inr (other, turns)) =
        let stays : is_changed circuit new.output signal (point_of state row) ≡ false
        = (unseen circuit new.output (point_of state row)
        (hidden state row wide other)).0 signal among in
        differ_none _ _ (sym (changed_there circuit new.output signal state row wide) ∙ stays)
        ∙ turns signal
