-- A latch that always holds one bit becomes the constant table of its name.
use Rattle.std.proofs.Common.{◌≡◌, ℕ, suc, Bool, true, false, not, ◌||◌, ◌&&◌, cond, if◌then◌else◌, Option, Some, None, unwrap_or, List, [], ◌∷◌, ◌++◌, map, bytes_eq, refl, sym, ap, ap₂, ◌∙◌, subst, inl, inr, ◌⊎◌}
use Rattle.std.specs.List.{AllByRecursion}
use Rattle.std.specs.Option.{option_or}
use Rattle.std.proofs.lemmas.Bool.{false≢true, not_from_true, not_from_false, not-false}
use Rattle.std.proofs.lemmas.Option.{same_Some}
use Rattle.sis_base.specs.Rows.{matches, some_matches, value_by_phase}
use Rattle.circuit_model.specs.Names.{has}
use Rattle.circuit_model.specs.Values.{driver, driven_value, table_value}
use Rattle.circuit_model.specs.Runs.{bit_of, latch_outputs, leaves_of, value_in, is_free, next_state, may_start, Refines}
use Rattle.circuit_model.specs.Soundness.{outputs_of, Leads, IsAcyclic}
use Rattle.circuit_model.specs.declared.circuit.Table.{Table}
use Rattle.circuit_model.specs.declared.circuit.Latch.{Latch}
use Rattle.circuit_model.specs.declared.circuit.Circuit.{Circuit}
use Rattle.circuit_laws.specs.Edits.{tables_kept, with_kept, with_added, with_fixed, is_other, constant_table}
use Rattle.circuit_laws.specs.Fixed.{IsConstant, IsFixed}
use Rattle.circuit_laws.specs.Kept.{bits_kept}
use Rattle.circuit_laws.specs.Same.{IsSettled}
use Rattle.circuit_laws.specs.Valuations.{due}
use Rattle.circuit_laws.proofs.Names.{name_itself, name_cases, name_turned}
use Rattle.circuit_laws.proofs.Drivers.{driver_kept}
use Rattle.circuit_laws.proofs.Paths.{AreWays, ways_acyclic, kept_acyclic, driver_added_other, driver_added_own}
use Rattle.circuit_laws.proofs.Ranks.{leads_one}
use Rattle.circuit_laws.proofs.Values.{value_only}
use Rattle.circuit_laws.proofs.Same.{outputs_same}
use Rattle.circuit_laws.proofs.Tables.{bit_none, value_due, value_obeys}
use Rattle.circuit_laws.proofs.Kept.{bit_kept, bit_dropped, bits_filled, first_bit, other_bits, all_weaker, has_tables_kept, IsShrunk, shrunk_refines, free_by_leaves}

pub constant_value : (name : List ℕ) (bit : Bool) → table_value (constant_table name bit) [] ≡ bit
unfolding table_value value_by_phase some_matches matches
constant_value name true = refl
constant_value name false = refl

-- no path leads on from a constant
pub constant_acyclic : (tables : List Table) (name : List ℕ) (bit : Bool) → has (outputs_of tables) name ≡ false → IsAcyclic tables → IsAcyclic (tables ++ constant_table name bit ∷ [])
unfolding AreWays
constant_acyclic tables name bit free acyclic =
    ways_acyclic tables (tables ++ constant_table name bit ∷ [])
    (λ signal table input at reads. step signal table input at reads (name_cases signal name)) acyclic
  where
    step : (signal : List ℕ) (table : Table) (input : List ℕ) → driver (tables ++ constant_table name bit ∷ []) signal ≡ Some table → has table.inputs input ≡ true
        → (signal ≡ name) ⊎ (bytes_eq signal name ≡ false) → (steps : ℕ) × Leads tables (suc steps) signal input
    step signal table input at reads (inl own) =
        let is : constant_table name bit ≡ table = same_Some (constant_table name bit) table (sym (driver_added_own tables (constant_table name bit) free) ∙ ap (driver (tables ++ constant_table name bit ∷ [])) (sym own) ∙ at) in
        absurd (false≢true (subst (λ (t : Table). has t.inputs input ≡ true) (sym is) reads))
    step signal table input at reads (inr other) = (0, leads_one tables signal input table (sym (driver_added_other tables (constant_table name bit) signal other) ∙ at) reads)

-- the signal's own name fails the test, and every other one passes it
pub own_fails : (name : List ℕ) → is_other name name ≡ false
own_fails name = not_from_true (bytes_eq name name) (name_itself name)

pub other_passes : (name other : List ℕ) → bytes_eq other name ≡ false → is_other name other ≡ true
other_passes name other apart = not_from_false (bytes_eq name other) (name_turned other name apart)

pub fixed_tables : (circuit : Circuit) (name : List ℕ) → has (outputs_of (tables_kept (is_other name) circuit.tables)) name ≡ false
fixed_tables circuit name = has_tables_kept (is_other name) circuit.tables name ∙ ap (λ (b : Bool). b && has (outputs_of circuit.tables) name) (own_fails name)

pub fixed_acyclic : (circuit : Circuit) (name : List ℕ) (bit : Bool) → IsAcyclic circuit.tables → IsAcyclic (with_fixed circuit name bit).tables
unfolding with_fixed with_added with_kept
fixed_acyclic circuit name bit acyclic =
    constant_acyclic (tables_kept (is_other name) circuit.tables) name bit (fixed_tables circuit name) (kept_acyclic (is_other name) circuit.tables acyclic)

-- the latch has its bit in a state
abbrev pub HasBit : Circuit → List ℕ → Bool → List Bool → Type 0
HasBit circuit name bit state = bit_of (latch_outputs circuit) state name ≡ Some bit

-- the leaves: the latch is one before and none after; the others keep their bits
leaf_before : (circuit : Circuit) (name : List ℕ) (bit : Bool) → has circuit.inputs name ≡ false → (state row : List Bool) → HasBit circuit name bit state → leaves_of circuit state row name ≡ Some bit
unfolding leaves_of
leaf_before circuit name bit apart state row bound = ap (λ (found : Option Bool). option_or found (bit_of (latch_outputs circuit) state name)) (bit_none circuit.inputs row name apart) ∙ bound

leaf_after : (circuit : Circuit) (name : List ℕ) (bit : Bool) → has circuit.inputs name ≡ false → (bits row : List Bool) → leaves_of (with_fixed circuit name bit) bits row name ≡ None
unfolding leaves_of with_fixed with_added with_kept
leaf_after circuit name bit apart bits row =
    ap (λ (found : Option Bool). option_or found (bit_of (latch_outputs (with_fixed circuit name bit)) bits name)) (bit_none circuit.inputs row name apart)
    ∙ bit_dropped (is_other name) circuit.latches bits name (own_fails name)

leaf_other : (circuit : Circuit) (name : List ℕ) (bit : Bool) (state row : List Bool) (other : List ℕ) → is_other name other ≡ true
    → leaves_of circuit state row other ≡ leaves_of (with_fixed circuit name bit) (bits_kept (is_other name) circuit.latches state) row other
unfolding leaves_of with_fixed with_added with_kept
leaf_other circuit name bit state row other passes = ap (option_or (bit_of circuit.inputs row other)) (sym (bit_kept (is_other name) circuit.latches state other passes))

-- each signal has its old value where the latch has its bit
pub fixed_values : (circuit : Circuit) (name : List ℕ) (bit : Bool) → IsAcyclic circuit.tables → has circuit.inputs name ≡ false → (state row : List Bool) → HasBit circuit name bit state
    → (signal : List ℕ) → value_in circuit state row signal ≡ value_in (with_fixed circuit name bit) (bits_kept (is_other name) circuit.latches state) row signal
unfolding value_in with_fixed with_added with_kept
fixed_values circuit name bit acyclic apart state row bound signal =
    value_only (tables_kept (is_other name) circuit.tables ++ constant_table name bit ∷ []) (leaves_of (with_fixed circuit name bit) (bits_kept (is_other name) circuit.latches state) row)
    (constant_acyclic (tables_kept (is_other name) circuit.tables) name bit (fixed_tables circuit name) (kept_acyclic (is_other name) circuit.tables acyclic))
    (value_in circuit state row)
    (λ other. fits other (name_cases other name))
    signal
  where
    fits : (other : List ℕ) → (other ≡ name) ⊎ (bytes_eq other name ≡ false)
        → value_in circuit state row other
        ≡ due (tables_kept (is_other name) circuit.tables ++ constant_table name bit ∷ []) (leaves_of (with_fixed circuit name bit) (bits_kept (is_other name) circuit.latches state) row) (value_in circuit state row) other
    fits other (inl own) =
        value_due circuit acyclic state row other
        ∙ ap (λ (found : Option Bool). unwrap_or found (driven_value (driver circuit.tables other) (value_in circuit state row)))
        (ap (leaves_of circuit state row) own ∙ leaf_before circuit name bit apart state row bound)
        ∙ sym (constant_value name bit)
        ∙ sym (ap₂ (λ (found : Option Bool) (table : Option Table). unwrap_or found (driven_value table (value_in circuit state row)))
        (ap (leaves_of (with_fixed circuit name bit) (bits_kept (is_other name) circuit.latches state) row) own ∙ leaf_after circuit name bit apart (bits_kept (is_other name) circuit.latches state) row)
        (ap (driver (tables_kept (is_other name) circuit.tables ++ constant_table name bit ∷ [])) own
        ∙ driver_added_own (tables_kept (is_other name) circuit.tables) (constant_table name bit) (fixed_tables circuit name)))
    fits other (inr off) =
        value_due circuit acyclic state row other
        ∙ ap₂ (λ (found : Option Bool) (table : Option Table). unwrap_or found (driven_value table (value_in circuit state row)))
        (leaf_other circuit name bit state row other (other_passes name other off))
        (sym (driver_added_other (tables_kept (is_other name) circuit.tables) (constant_table name bit) other off ∙ driver_kept (is_other name) circuit.tables other (other_passes name other off)))

-- the latch has its bit at the start and after each step
bit_filled : (name : List ℕ) (bit : Bool) (latches : List Latch) (bits : List Bool) → has (map (λ (latch : Latch). latch.output) latches) name ≡ true
    → bit_of (map (λ (latch : Latch). latch.output) latches) (bits_filled (is_other name) (λ latch. bit) latches bits) name ≡ Some bit
unfolding bit_of bits_filled
bit_filled name bit [] bits h = absurd (false≢true h)
bit_filled name bit (latch ∷ latches) bits h = cases (bytes_eq name latch.output) refl h (bit_filled name bit latches)
  where
    cases : (b : Bool) → bytes_eq name latch.output ≡ b → (b || has (map (λ (l : Latch). l.output) latches) name) ≡ true
        → ((some : List Bool) → has (map (λ (l : Latch). l.output) latches) name ≡ true → bit_of (map (λ (l : Latch). l.output) latches) (bits_filled (is_other name) (λ l. bit) latches some) name ≡ Some bit)
        → bit_of (latch.output ∷ map (λ (l : Latch). l.output) latches)
        (if not b then first_bit bits ∷ bits_filled (is_other name) (λ l. bit) latches (other_bits bits) else bit ∷ bits_filled (is_other name) (λ l. bit) latches bits) name ≡ Some bit
    cases true same k more = rw same refl
    cases false apart k more = rw apart (more (other_bits bits) k)

bit_next : (name : List ℕ) (bit : Bool) (value : List ℕ → Bool) (latches : List Latch) → has (map (λ (latch : Latch). latch.output) latches) name ≡ true
    → AllByRecursion (λ (latch : Latch). bytes_eq name latch.output ≡ true → value latch.input ≡ bit) latches
    → bit_of (map (λ (latch : Latch). latch.output) latches) (map (λ (latch : Latch). value latch.input) latches) name ≡ Some bit
unfolding bit_of
bit_next name bit value [] h stays = absurd (false≢true h)
bit_next name bit value (latch ∷ latches) h stays = cases (bytes_eq name latch.output) refl h (λ k. bit_next name bit value latches k stays.1)
  where
    cases : (b : Bool) → bytes_eq name latch.output ≡ b → (b || has (map (λ (l : Latch). l.output) latches) name) ≡ true
        → (has (map (λ (l : Latch). l.output) latches) name ≡ true → bit_of (map (λ (l : Latch). l.output) latches) (map (λ (l : Latch). value l.input) latches) name ≡ Some bit)
        → cond b (Some (value latch.input)) (bit_of (map (λ (l : Latch). l.output) latches) (map (λ (l : Latch). value l.input) latches) name) ≡ Some bit
    cases true same k more = ap (λ (x : Bool). Some x) (stays.0 same)
    cases false apart k more = more k

pub fixed_next : (circuit : Circuit) (name : List ℕ) (bit : Bool) → IsSettled circuit → IsFixed circuit name bit → (state row : List Bool) → HasBit circuit name bit (next_state circuit state row)
unfolding next_state
fixed_next circuit name bit settled fixed state row =
    bit_next name bit (value_in circuit state row) circuit.latches fixed.latch
    (all_weaker (λ (latch : Latch). bytes_eq name latch.output ≡ true → (table : Table) × (driver circuit.tables latch.input ≡ Some table) × IsConstant table bit)
    (λ (latch : Latch). bytes_eq name latch.output ≡ true → value_in circuit state row latch.input ≡ bit)
    (λ latch is same.
    let (table, at, constant) = is same in
    value_obeys circuit settled state row latch.input table at ∙ constant (value_in circuit state row))
    circuit.latches fixed.stays)

fixed_free : (circuit : Circuit) (name : List ℕ) (bit : Bool) → IsFixed circuit name bit → (state row : List Bool) (output : List ℕ)
    → is_free circuit state row output ≡ is_free (with_fixed circuit name bit) (bits_kept (is_other name) circuit.latches state) row output
unfolding is_free with_fixed with_added with_kept
fixed_free circuit name bit fixed state row output =
    free_by_leaves (is_other name) circuit.dont_care (leaves_of circuit state row) (leaves_of (with_fixed circuit name bit) (bits_kept (is_other name) circuit.latches state) row)
    (leaf_other circuit name bit state row) fixed.unread output

fixed_step : (circuit : Circuit) (name : List ℕ) (bit : Bool) → IsSettled circuit → has circuit.inputs name ≡ false → IsFixed circuit name bit
    → (state row : List Bool) → HasBit circuit name bit state → IsShrunk (is_other name) (HasBit circuit name bit) circuit (with_fixed circuit name bit) state row
unfolding with_fixed with_added with_kept
fixed_step circuit name bit settled apart fixed state row bound = record {
  shows =
      outputs_same circuit (with_fixed circuit name bit) refl state (bits_kept (is_other name) circuit.latches state) row
      (λ output among. fixed_free circuit name bit fixed state row output)
      (λ output among shown. fixed_values circuit name bit settled.acyclic apart state row bound output);
  takes =
      all_weaker (λ (latch : Latch). bytes_eq name latch.output ≡ true → may_start latch.init bit)
      (λ (latch : Latch). is_other name latch.output ≡ true → value_in circuit state row latch.input ≡ value_in (with_fixed circuit name bit) (bits_kept (is_other name) circuit.latches state) row latch.input)
      (λ latch starts passes. fixed_values circuit name bit settled.acyclic apart state row bound latch.input) circuit.latches fixed.starts;
  stays = fixed_next circuit name bit settled fixed state row;
}

pub fixed_refines : (circuit : Circuit) (name : List ℕ) (bit : Bool) → IsSettled circuit → has circuit.inputs name ≡ false → IsFixed circuit name bit → Refines circuit (with_fixed circuit name bit)
unfolding with_fixed with_added with_kept
fixed_refines circuit name bit settled apart fixed =
    shrunk_refines (is_other name) (HasBit circuit name bit) (λ latch. bit) circuit (with_fixed circuit name bit) refl refl refl
    (all_weaker (λ (latch : Latch). bytes_eq name latch.output ≡ true → may_start latch.init bit) (λ (latch : Latch). is_other name latch.output ≡ false → may_start latch.init bit)
    (λ latch starts fails. starts (not-false (bytes_eq name latch.output) fails)) circuit.latches fixed.starts)
    (λ bits. bit_filled name bit circuit.latches bits fixed.latch)
    (λ state row bound long. fixed_step circuit name bit settled apart fixed state row bound)
