-- Changes of tables: what stays the same, and which signals keep their values.
use Rattle.std.proofs.Common.{◌≡◌, ℕ, Bool, true, false, ◌||◌, Option, Some, None, option_map, unwrap_or, cond, List, [], ◌∷◌, ◌++◌, map, bytes_eq, refl, sym, ap, ◌∙◌, subst, inl, inr, ◌⊎◌}
use Rattle.std.specs.List.{AllByRecursion}
use Rattle.std.proofs.lemmas.Bool.{false≢true}
use Rattle.circuit_model.specs.Names.{has}
use Rattle.circuit_model.specs.Values.{Leaves, driver, driven_value, signal_value}
use Rattle.circuit_model.specs.Runs.{bit_of, latch_outputs, leaves_of, value_in}
use Rattle.circuit_model.specs.Soundness.{outputs_of, latch_inputs, table_inputs, leaf_names, given, taken, IsAcyclic}
use Rattle.circuit_model.specs.declared.circuit.Table.{Table}
use Rattle.circuit_model.specs.declared.circuit.Circuit.{Circuit}
use Rattle.circuit_laws.specs.Edits.{replaced, with_tables, with_replaced, with_added}
use Rattle.circuit_laws.specs.Valuations.{due, IsValued, Obeys}
use Rattle.circuit_laws.specs.Same.{IsSame, KeepsValues, KeepsEach, IsSettled}
use Rattle.circuit_laws.proofs.Names.{name_cases, name_not, has_none, has_neither, all_from_has}
use Rattle.circuit_laws.proofs.Drivers.{driver_name, driver_all, driver_reads, driver_output, driver_replaced_other, driver_replaced_own, driver_mapped}
use Rattle.circuit_laws.proofs.Paths.{driver_added_other, driver_added_own, reads_added, added_acyclic}
use Rattle.circuit_laws.proofs.Values.{value_same, valued, value_within, value_only, obeyed}
use Rattle.circuit_laws.proofs.Same.{leaves_same, same_where, same_itself, same_through}

-- names that are no leaves have no bit
pub bit_none : (names : List (List ℕ)) (bits : List Bool) (name : List ℕ) → has names name ≡ false → bit_of names bits name ≡ None
unfolding bit_of
bit_none [] bits name h = refl
bit_none (first ∷ names) [] name h = refl
bit_none (first ∷ names) (bit ∷ bits) name h = cases (bytes_eq name first) h (bit_none names bits name)
  where
    cases : (b : Bool) → (b || has names name) ≡ false → (has names name ≡ false → bit_of names bits name ≡ None) → cond b (Some bit) (bit_of names bits name) ≡ None
    cases true k more = absurd (false≢true (sym k))
    cases false k more = more k

pub leaf_none : (circuit : Circuit) (state row : List Bool) (name : List ℕ) → has (leaf_names circuit) name ≡ false → leaves_of circuit state row name ≡ None
unfolding leaves_of
leaf_none circuit state row name h =
    let parts = has_neither circuit.inputs (latch_outputs circuit) name h in
    rw (bit_none circuit.inputs row name parts.0, bit_none (latch_outputs circuit) state name parts.1) refl

pub driven_free : (circuit : Circuit) → IsSettled circuit → (state row : List Bool) (signal : List ℕ) (table : Table) → driver circuit.tables signal ≡ Some table → leaves_of circuit state row signal ≡ None
driven_free circuit settled state row signal table at =
    leaf_none circuit state row signal
    (subst (λ (name : List ℕ). has (leaf_names circuit) name ≡ false) (driver_name circuit.tables signal table at)
    (driver_all (λ (t : Table). has (leaf_names circuit) t.output ≡ false) circuit.tables settled.apart signal table at))

-- the values of a circuit's signals are what is due, and obey its tables
pub value_due : (circuit : Circuit) → IsAcyclic circuit.tables → (state row : List Bool) → IsValued circuit.tables (leaves_of circuit state row) (value_in circuit state row)
unfolding value_in
value_due circuit acyclic state row signal = valued circuit.tables (leaves_of circuit state row) acyclic signal

pub value_obeys : (circuit : Circuit) → IsSettled circuit → (state row : List Bool) → Obeys circuit.tables (value_in circuit state row)
unfolding value_in
value_obeys circuit settled state row = obeyed circuit.tables (leaves_of circuit state row) settled.acyclic (driven_free circuit settled state row)

-- a valuation that solves the equations of other tables on a closed set of names is the signals'
-- value with those tables
pub values_on : (P : List ℕ → Type 0) (circuit : Circuit) (tables : List Table) → IsAcyclic tables
    → ((signal : List ℕ) (table : Table) → P signal → driver tables signal ≡ Some table → AllByRecursion P table.inputs)
    → (state row : List Bool) (value : List ℕ → Bool) → ((signal : List ℕ) → P signal → value signal ≡ due tables (leaves_of circuit state row) value signal)
    → (signal : List ℕ) → P signal → value signal ≡ value_in (with_tables circuit tables) state row signal
unfolding value_in
values_on P circuit tables acyclic closed state row value fits signal within =
    value_within P tables (leaves_of circuit state row) acyclic closed value fits signal within
    ∙ ap (λ (leaves : Leaves). signal_value tables leaves signal) (leaves_same circuit (with_tables circuit tables) refl refl state row)

-- tables that the values of the old circuit fit too: all is kept
pub fitting_keeps : (circuit : Circuit) (tables : List Table) → IsAcyclic tables
    → ((state row : List Bool) → IsValued tables (leaves_of circuit state row) (value_in circuit state row)) → KeepsEach circuit (with_tables circuit tables)
unfolding value_in
fitting_keeps circuit tables acyclic fits = record {
  same = same_where circuit tables (λ state row a output among bound. each state row output) (λ state row a signal among. each state row signal);
  values = each;
}
  where
    each : (state row : List Bool) (signal : List ℕ) → value_in circuit state row signal ≡ value_in (with_tables circuit tables) state row signal
    each state row signal =
        value_only tables (leaves_of circuit state row) acyclic (value_in circuit state row) (fits state row) signal
        ∙ ap (λ (leaves : Leaves). signal_value tables leaves signal) (leaves_same circuit (with_tables circuit tables) refl refl state row)

-- one table is replaced by one that has its value wherever the equations of all tables hold
pub obeying_turned : (circuit : Circuit) (old new : Table) → IsSettled circuit → driver circuit.tables new.output ≡ Some old → IsAcyclic (replaced circuit.tables new)
    → ((value : List ℕ → Bool) → Obeys circuit.tables value → driven_value (Some new) value ≡ driven_value (Some old) value) → KeepsEach circuit (with_replaced circuit new)
unfolding with_replaced
obeying_turned circuit old new settled at acyclic turns =
    fitting_keeps circuit (replaced circuit.tables new) acyclic
    (λ state row signal. fits state row signal (name_cases signal new.output) (value_obeys circuit settled state row) (value_due circuit settled.acyclic state row signal))
  where
    fits : (state row : List Bool) (signal : List ℕ) → (signal ≡ new.output) ⊎ (bytes_eq signal new.output ≡ false) → Obeys circuit.tables (value_in circuit state row)
        → value_in circuit state row signal ≡ due circuit.tables (leaves_of circuit state row) (value_in circuit state row) signal
        → value_in circuit state row signal ≡ due (replaced circuit.tables new) (leaves_of circuit state row) (value_in circuit state row) signal
    fits state row signal (inl own) obeys is =
        ap (value_in circuit state row) own ∙ obeys new.output old at ∙ sym (turns (value_in circuit state row) obeys)
        ∙ sym (ap (λ (bit : Option Bool). unwrap_or bit (driven_value (Some new) (value_in circuit state row))) (ap (leaves_of circuit state row) own ∙ driven_free circuit settled state row new.output old at))
        ∙ sym (ap (λ (found : Option Table). unwrap_or (leaves_of circuit state row signal) (driven_value found (value_in circuit state row)))
        (ap (driver (replaced circuit.tables new)) own ∙ driver_replaced_own circuit.tables new (driver_output circuit.tables new.output old at)))
    fits state row signal (inr other) obeys is =
        is ∙ sym (ap (λ (found : Option Table). unwrap_or (leaves_of circuit state row signal) (driven_value found (value_in circuit state row))) (driver_replaced_other circuit.tables new signal other))

-- each table becomes one of its signal that has its value wherever the equations of all tables hold
pub obeying_mapped : (circuit : Circuit) (turn : Table → Table) → IsSettled circuit → ((table : Table) → (turn table).output ≡ table.output) → IsAcyclic (map turn circuit.tables)
    → ((value : List ℕ → Bool) → Obeys circuit.tables value → (signal : List ℕ) (table : Table) → driver circuit.tables signal ≡ Some table
    → driven_value (Some (turn table)) value ≡ driven_value (Some table) value)
    → KeepsEach circuit (with_tables circuit (map turn circuit.tables))
obeying_mapped circuit turn settled keeps acyclic turns =
    fitting_keeps circuit (map turn circuit.tables) acyclic
    (λ state row signal.
    value_due circuit settled.acyclic state row signal
    ∙ ap (λ (b : Bool). unwrap_or (leaves_of circuit state row signal) b)
    (cases state row signal (value_obeys circuit settled state row) (driver circuit.tables signal) refl
    ∙ sym (ap (λ (found : Option Table). driven_value found (value_in circuit state row)) (driver_mapped turn keeps circuit.tables signal))))
  where
    cases : (state row : List Bool) (signal : List ℕ) → Obeys circuit.tables (value_in circuit state row) → (found : Option Table) → driver circuit.tables signal ≡ found
        → driven_value found (value_in circuit state row) ≡ driven_value (option_map turn found) (value_in circuit state row)
    cases state row signal obeys None at = refl
    cases state row signal obeys (Some table) at = sym (turns (value_in circuit state row) obeys signal table at)

-- tables in another order, or others among which each signal finds the same one
pub found_same : (circuit : Circuit) (tables : List Table) → IsAcyclic circuit.tables → IsAcyclic tables → ((signal : List ℕ) → driver tables signal ≡ driver circuit.tables signal)
    → KeepsEach circuit (with_tables circuit tables)
found_same circuit tables before acyclic finds =
    fitting_keeps circuit tables acyclic
    (λ state row signal.
    value_due circuit before state row signal
    ∙ sym (ap (λ (found : Option Table). unwrap_or (leaves_of circuit state row signal) (driven_value found (value_in circuit state row))) (finds signal)))

-- a table is added whose signal nothing drives and nothing reads
pub added_each : (circuit : Circuit) (new : Table) → IsAcyclic circuit.tables → has (table_inputs circuit.tables) new.output ≡ false → has new.inputs new.output ≡ false
    → (state row : List Bool) (signal : List ℕ) → bytes_eq signal new.output ≡ false → value_in circuit state row signal ≡ value_in (with_added circuit new) state row signal
unfolding with_added
added_each circuit new acyclic unread apart state row signal other =
    values_on (λ name. bytes_eq name new.output ≡ false) circuit (circuit.tables ++ new ∷ []) (added_acyclic circuit.tables new acyclic unread apart)
    (λ name table within at. all_from_has (λ input. bytes_eq input new.output ≡ false) table.inputs (λ input reads.
    name_not input new.output (λ e.
    false≢true (sym (reads_added circuit.tables new new.output unread apart)
    ∙ subst (λ x. has (table_inputs (circuit.tables ++ new ∷ [])) x ≡ true) e (driver_reads (circuit.tables ++ new ∷ []) name table input at reads)))))
    state row (value_in circuit state row)
    (λ name within.
    value_due circuit acyclic state row name
    ∙ sym (ap (λ (found : Option Table). unwrap_or (leaves_of circuit state row name) (driven_value found (value_in circuit state row))) (driver_added_other circuit.tables new name within)))
    signal other

-- names that nothing drives are no leaves and no table's output; those that nothing reads are
-- nowhere among what is read
pub given_not : (circuit : Circuit) (name : List ℕ) → has (given circuit) name ≡ false → (has (leaf_names circuit) name ≡ false) × (has (outputs_of circuit.tables) name ≡ false)
unfolding given
given_not circuit name h =
    let first = has_neither circuit.inputs (latch_outputs circuit ++ outputs_of circuit.tables) name h in
    let second = has_neither (latch_outputs circuit) (outputs_of circuit.tables) name first.1 in
    (has_none circuit.inputs (latch_outputs circuit) name first.0 second.0, second.1)

pub taken_not : (circuit : Circuit) (name : List ℕ) → has (taken circuit) name ≡ false
    → (has (table_inputs circuit.tables) name ≡ false) × (has (latch_inputs circuit) name ≡ false) × (has circuit.outputs name ≡ false)
unfolding taken
taken_not circuit name h =
    let first = has_neither (table_inputs circuit.tables) (latch_inputs circuit ++ circuit.outputs) name h in
    let second = has_neither (latch_inputs circuit) circuit.outputs name first.1 in
    (first.0, second.0, second.1)

-- the value of an added table's signal
pub added_value : (circuit : Circuit) (new : Table) → IsAcyclic circuit.tables → has (given circuit) new.output ≡ false → has (taken circuit) new.output ≡ false → has new.inputs new.output ≡ false
    → (state row : List Bool) → value_in (with_added circuit new) state row new.output ≡ driven_value (Some new) (value_in circuit state row)
unfolding with_added
added_value circuit new acyclic fresh unread apart state row =
    let reads : has (table_inputs circuit.tables) new.output ≡ false = (taken_not circuit new.output unread).0 in
    let stays : IsAcyclic (circuit.tables ++ new ∷ []) = added_acyclic circuit.tables new acyclic reads apart in
    value_due (with_added circuit new) stays state row new.output
    ∙ ap (λ (bit : Option Bool). unwrap_or bit (driven_value (driver (circuit.tables ++ new ∷ []) new.output) (value_in (with_added circuit new) state row)))
    (ap (λ (leaves : Leaves). leaves new.output) (sym (leaves_same circuit (with_added circuit new) refl refl state row)) ∙ leaf_none circuit state row new.output (given_not circuit new.output fresh).0)
    ∙ ap (λ (found : Option Table). driven_value found (value_in (with_added circuit new) state row)) (driver_added_own circuit.tables new (given_not circuit new.output fresh).1)
    ∙ value_same new (value_in (with_added circuit new) state row) (value_in circuit state row)
    (all_from_has (λ input. value_in (with_added circuit new) state row input ≡ value_in circuit state row input) new.inputs (λ input among.
    sym (added_each circuit new acyclic reads apart state row input
    (name_not input new.output (λ e. false≢true (sym apart ∙ subst (λ (x : List ℕ). has new.inputs x ≡ true) e among))))))

pub added_same : (circuit : Circuit) (new : Table) → IsAcyclic circuit.tables → has (taken circuit) new.output ≡ false → has new.inputs new.output ≡ false → IsSame circuit (with_added circuit new)
unfolding with_added
added_same circuit new acyclic unread apart =
    let parts = taken_not circuit new.output unread in
    same_where circuit (circuit.tables ++ new ∷ [])
    (λ state row a output among bound. added_each circuit new acyclic parts.0 apart state row output
    (name_not output new.output (λ e. false≢true (sym parts.2 ∙ subst (λ (x : List ℕ). has circuit.outputs x ≡ true) e among))))
    (λ state row a signal among. added_each circuit new acyclic parts.0 apart state row signal
    (name_not signal new.output (λ e. false≢true (sym parts.1 ∙ subst (λ (x : List ℕ). has (latch_inputs circuit) x ≡ true) e among))))

pub added_keeps : (circuit : Circuit) (new : Table) → IsAcyclic circuit.tables → has (given circuit) new.output ≡ false → has (taken circuit) new.output ≡ false → has new.inputs new.output ≡ false
    → KeepsValues circuit (with_added circuit new)
added_keeps circuit new acyclic fresh unread apart = record {
  kept = λ state row a signal here there.
      added_each circuit new acyclic (taken_not circuit new.output unread).0 apart state row signal
      (name_not signal new.output (λ e. false≢true (sym fresh ∙ subst (λ (x : List ℕ). has (given circuit) x ≡ true) e here)));
}

-- circuits that keep each value
pub each_itself : (circuit : Circuit) → KeepsEach circuit circuit
each_itself circuit = record { same = same_itself circuit; values = λ state row signal. refl }

pub each_through : (first second third : Circuit) → KeepsEach first second → KeepsEach second third → KeepsEach first third
each_through first second third p q = record {
  same = same_through first second third p.same q.same;
  values = λ state row signal. p.values state row signal ∙ q.values state row signal;
}

pub each_keeps : (old new : Circuit) → KeepsEach old new → KeepsValues old new
each_keeps old new each = record { kept = λ state row a signal here there. each.values state row signal }
