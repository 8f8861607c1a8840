-- A rule of sweep beside a table without fanout: it applies in the same way once that table is
-- emptied, or it changes that table alone.
use Rattle.std.proofs.Common.{◌≡◌, ℕ, Bool, true, false, not, ◌&&◌, Option, Some, None, is_some, List, map, find, bytes_eq, refl, sym, ap, ◌∙◌, subst, inl, inr, ◌⊎◌}
use Rattle.std.specs.List.{AllByRecursion}
use Rattle.std.specs.Option.{option_map, option_map_or}
use Rattle.std.proofs.lemmas.Bool.{false≢true, and_parts, and_from, or_parts, false_from_ne_true}
use Rattle.circuit_model.specs.Names.{has, all_different}
use Rattle.circuit_model.specs.Soundness.{outputs_of, latch_inputs, table_inputs}
use Rattle.circuit_model.specs.declared.circuit.Table.{Table}
use Rattle.circuit_model.specs.declared.circuit.Circuit.{Circuit}
use Rattle.circuit_laws.specs.Edits.{replaced, is_other, with_tables, with_replaced, constant_table, is_read, is_root}
use Rattle.circuit_laws.proofs.Names.{name_not}
use Rattle.circuit_laws.proofs.Fixed.{own_fails}
use Rattle.circuit_laws.proofs.Kept.{unread_closed}
use Rattle.circuit_tables.specs.Tidy.{used_places, rows_differ, is_tidy, tidied}
use Rattle.circuit_tables.proofs.Tidied.{tidied_output}
use Rattle.net_wires.specs.Points.{written_bit}
use Rattle.net_wires.specs.Needed.{needed_within}
use Rattle.net_wires.specs.Rules.{tidy_table, unwritten_bit, with_constant, write_constant, tables_read, at_bit, with_constant_propagated, propagate_constant, rewired, only_input, is_inverter, with_single_input_collapsed, collapse_single_input}
use Rattle.net_wires.specs.Idle.{IsIdle}
use Rattle.net_wires.proofs.Least.{within_least}
use Rattle.net_wires.proofs.Turned.{at_output, at_either, rewired_output, rewired_either}
use Rattle.circuit_laws.proofs.Found.{find_test}
use Rattle.net_wires.proofs.Steps.{applied, some_is}
use Rattle.net_wires.proofs.Swept.{all_tidy, all_written, all_propagated, all_collapsed}
use Rattle.net_wires.proofs.Emptied.{emptied, emptied_reads, emptied_unread, find_emptied, find_emptied_none, emptied_replaced_own, emptied_replaced_other, emptied_apart, emptied_turned}

-- the circuit in which the table of a signal is emptied, table by table
abbrev pub beside : Circuit → List ℕ → Circuit
beside circuit name = with_tables circuit (map (emptied name) circuit.tables)

-- a step of a rule changes the emptied table alone, or the rule takes the same step beside that
-- table
abbrev pub Goes : (Circuit → Option Circuit) → List ℕ → Circuit → Circuit → Type 0
Goes rule name circuit new = (beside new name ≡ beside circuit name) ⊎ (rule (beside circuit name) ≡ Some (beside new name))

-- what is idle

pub idle_unread : (circuit : Circuit) (name : List ℕ) → IsIdle circuit name → has (table_inputs circuit.tables) name ≡ false
unfolding is_read
idle_unread circuit name idle = (or_parts (has (table_inputs circuit.tables) name) (not (has (outputs_of circuit.dont_care) name) && has (table_inputs circuit.dont_care) name) idle.unread).0

pub idle_unasked : (circuit : Circuit) (name : List ℕ) → IsIdle circuit name → has (latch_inputs circuit) name ≡ false
unfolding is_root
idle_unasked circuit name idle = (or_parts (has circuit.outputs name) (has (latch_inputs circuit) name) idle.unasked).1

-- what tables read is another signal
read_apart : (circuit : Circuit) (name : List ℕ) → IsIdle circuit name → (other : List ℕ) → tables_read circuit other ≡ true → bytes_eq name other ≡ false
read_apart circuit name idle other reads =
    name_not name other (λ same. false≢true (sym (idle_unread circuit name idle) ∙ subst (λ (x : List ℕ). tables_read circuit x ≡ true) (sym same) reads))

pub idle_unneeded : (circuit : Circuit) (name : List ℕ) → IsIdle circuit name → (steps : ℕ) → needed_within circuit steps name ≡ false
idle_unneeded circuit name idle steps =
    false_from_ne_true (needed_within circuit steps name) (λ needed.
    false≢true (sym (own_fails name) ∙ within_least circuit (is_other name) (unread_closed circuit name idle.unread idle.unasked) steps name needed))

-- a table is replaced by another one

replaced_goes : (rule : Circuit → Option Circuit) (name : List ℕ) (circuit : Circuit) (new : Table)
    → (bytes_eq name new.output ≡ false → rule (beside circuit name) ≡ Some (with_replaced (beside circuit name) new)) → Goes rule name circuit (with_replaced circuit new)
unfolding with_replaced
replaced_goes rule name circuit new takes = cases (bytes_eq name new.output) refl
  where
    cases : (t : Bool) → bytes_eq name new.output ≡ t → Goes rule name circuit (with_tables circuit (replaced circuit.tables new))
    cases true own = inl (ap (with_tables circuit) (emptied_replaced_own name circuit.tables new own))
    cases false other = inr (takes other ∙ ap (λ (tables : List Table). Some (with_tables circuit tables)) (sym (emptied_replaced_other name circuit.tables new other)))

constant_is_tidy : (name : List ℕ) → not (is_tidy (constant_table name false)) ≡ false
unfolding is_tidy all_different used_places rows_differ
constant_is_tidy name = refl

pub tidy_goes : (name : List ℕ) (circuit new : Circuit) → tidy_table circuit ≡ Some new → Goes tidy_table name circuit new
unfolding tidy_table
tidy_goes name circuit new h =
    let (table, found, is) = applied (λ table. with_replaced circuit (tidied table)) (find (λ table. not (is_tidy table)) circuit.tables) new h in
    subst (Goes tidy_table name circuit) is
    (replaced_goes tidy_table name circuit (tidied table) (λ other.
    ap (option_map (λ t. with_replaced (beside circuit name) (tidied t)))
    (find_emptied (λ t. not (is_tidy t)) (λ t. not (is_tidy t)) name (constant_is_tidy name) (λ t k. k) circuit.tables table found
    (ap (bytes_eq name) (sym (tidied_output table)) ∙ other) (find_test (λ t. not (is_tidy t)) circuit.tables table found))))

pub tidy_none : (name : List ℕ) (circuit : Circuit) → tidy_table circuit ≡ None → tidy_table (beside circuit name) ≡ None
unfolding tidy_table
tidy_none name circuit h =
    ap (option_map (λ t. with_replaced (beside circuit name) (tidied t)))
    (find_emptied_none (λ t. not (is_tidy t)) (λ t. not (is_tidy t)) name (constant_is_tidy name) (λ t k. k) circuit.tables (all_tidy circuit h))

constant_is_written : (name : List ℕ) → is_some (unwritten_bit (constant_table name false)) ≡ false
unfolding unwritten_bit written_bit
constant_is_written name = refl

pub constant_goes : (name : List ℕ) (circuit new : Circuit) → write_constant circuit ≡ Some new → Goes write_constant name circuit new
unfolding write_constant
constant_goes name circuit new h =
    let (table, found, is) = applied (with_constant circuit) (find (λ table. is_some (unwritten_bit table)) circuit.tables) new h in
    let passes = find_test (λ table. is_some (unwritten_bit table)) circuit.tables table found in
    let (bit, at) = some_is (unwritten_bit table) passes in
    let made : (some : Circuit) → with_constant some table ≡ with_replaced some (constant_table table.output bit) =
    λ some. ap (λ (o : Option Bool). option_map_or (λ (b : Bool). with_replaced some (constant_table table.output b)) o some) at in
    subst (Goes write_constant name circuit) (sym (made circuit) ∙ is)
    (replaced_goes write_constant name circuit (constant_table table.output bit) (λ other.
    ap (option_map (with_constant (beside circuit name)))
    (find_emptied (λ t. is_some (unwritten_bit t)) (λ t. is_some (unwritten_bit t)) name (constant_is_written name) (λ t k. k) circuit.tables table found other passes)
    ∙ ap Some (made (beside circuit name))))

pub constant_none : (name : List ℕ) (circuit : Circuit) → write_constant circuit ≡ None → write_constant (beside circuit name) ≡ None
unfolding write_constant
constant_none name circuit h =
    ap (option_map (with_constant (beside circuit name)))
    (find_emptied_none (λ t. is_some (unwritten_bit t)) (λ t. is_some (unwritten_bit t)) name (constant_is_written name) (λ t k. k) circuit.tables (all_written circuit h))

-- readers of a signal are turned

mapped_goes : (rule : Circuit → Option Circuit) (name : List ℕ) (circuit : Circuit) (turn : Table → Table) → ((table : Table) → (turn table).output ≡ table.output)
    → (signal : List ℕ) → ((table : Table) → has table.inputs signal ≡ false → turn table ≡ table)
    → (tables_read (beside circuit name) signal ≡ true → rule (beside circuit name) ≡ Some (with_tables circuit (map turn (map (emptied name) circuit.tables))))
    → Goes rule name circuit (with_tables circuit (map turn circuit.tables))
mapped_goes rule name circuit turn keeps signal stays takes = cases (tables_read (beside circuit name) signal) refl
  where
    cases : (t : Bool) → tables_read (beside circuit name) signal ≡ t → Goes rule name circuit (with_tables circuit (map turn circuit.tables))
    cases true reads =
        inr (takes reads ∙ ap (λ (tables : List Table). Some (with_tables circuit tables)) (sym (emptied_turned name turn keeps (stays (constant_table name false) refl) circuit.tables)))
    cases false none = inl (ap (with_tables circuit) (emptied_apart name turn keeps signal stays circuit.tables none))

-- a test on a table, and that tables read it
abbrev IsReadWith : (Table → Bool) → Circuit → Table → Bool
IsReadWith test circuit table = test table && tables_read circuit table.output

constant_unread : (test : Table → Bool) (circuit : Circuit) (name : List ℕ) → IsIdle circuit name → IsReadWith test (beside circuit name) (constant_table name false) ≡ false
constant_unread test circuit name idle = by (test (constant_table name false)) (tables_read (beside circuit name) name) (emptied_unread name circuit.tables name (idle_unread circuit name idle))
  where
    by : (a b : Bool) → b ≡ false → (a && b) ≡ false
    by true b e = e
    by false b e = refl

read_before : (test : Table → Bool) (circuit : Circuit) (name : List ℕ) (table : Table) → IsReadWith test (beside circuit name) table ≡ true → IsReadWith test circuit table ≡ true
read_before test circuit name table h =
    let parts = and_parts (test table) (tables_read (beside circuit name) table.output) h in
    and_from (test table) (tables_read circuit table.output) parts.0 (emptied_reads name circuit.tables table.output parts.1)

found_beside : (test : Table → Bool) (circuit : Circuit) (name : List ℕ) → IsIdle circuit name → (table : Table) → find (IsReadWith test circuit) circuit.tables ≡ Some table
    → tables_read (beside circuit name) table.output ≡ true → find (IsReadWith test (beside circuit name)) (map (emptied name) circuit.tables) ≡ Some table
found_beside test circuit name idle table found reads =
    let parts = and_parts (test table) (tables_read circuit table.output) (find_test (IsReadWith test circuit) circuit.tables table found) in
    find_emptied (IsReadWith test circuit) (IsReadWith test (beside circuit name)) name (constant_unread test circuit name idle) (read_before test circuit name) circuit.tables table found
    (read_apart circuit name idle table.output parts.1) (and_from (test table) (tables_read (beside circuit name) table.output) parts.0 reads)

none_beside : (test : Table → Bool) (circuit : Circuit) (name : List ℕ) → IsIdle circuit name → AllByRecursion (λ (table : Table). IsReadWith test circuit table ≡ false) circuit.tables
    → find (IsReadWith test (beside circuit name)) (map (emptied name) circuit.tables) ≡ None
none_beside test circuit name idle all =
    find_emptied_none (IsReadWith test circuit) (IsReadWith test (beside circuit name)) name (constant_unread test circuit name idle) (read_before test circuit name) circuit.tables all

at_bit_stays : (signal : List ℕ) (bit : Bool) (table : Table) → has table.inputs signal ≡ false → at_bit signal bit table ≡ table
at_bit_stays signal bit table none = at_either (λ (made : Table). made ≡ table) signal bit table (λ reads. absurd (false≢true (sym none ∙ reads))) (λ unread. refl)

rewired_stays : (from to : List ℕ) (inverts : Bool) (table : Table) → has table.inputs from ≡ false → rewired from to inverts table ≡ table
rewired_stays from to inverts table none =
    rewired_either (λ (made : Table). made ≡ table) from to inverts table (λ reads. absurd (false≢true (sym none ∙ reads))) (λ unread. refl)

pub propagate_goes : (name : List ℕ) (circuit new : Circuit) → IsIdle circuit name → propagate_constant circuit ≡ Some new → Goes propagate_constant name circuit new
unfolding propagate_constant
propagate_goes name circuit new idle h =
    let (table, found, is) = applied (with_constant_propagated circuit) (find (IsReadWith (λ t. is_some (written_bit t)) circuit) circuit.tables) new h in
    let test = and_parts (is_some (written_bit table)) (tables_read circuit table.output) (find_test (IsReadWith (λ t. is_some (written_bit t)) circuit) circuit.tables table found) in
    let (bit, at) = some_is (written_bit table) test.0 in
    let made : (some : Circuit) → with_constant_propagated some table ≡ with_tables some (map (at_bit table.output bit) some.tables) =
    λ some. ap (λ (o : Option Bool). option_map_or (λ (b : Bool). with_tables some (map (at_bit table.output b) some.tables)) o some) at in
    subst (Goes propagate_constant name circuit) (sym (made circuit) ∙ is)
    (mapped_goes propagate_constant name circuit (at_bit table.output bit) (at_output table.output bit) table.output (at_bit_stays table.output bit) (λ reads.
    ap (option_map (with_constant_propagated (beside circuit name))) (found_beside (λ t. is_some (written_bit t)) circuit name idle table found reads) ∙ ap Some (made (beside circuit name))))

pub propagate_none : (name : List ℕ) (circuit : Circuit) → IsIdle circuit name → propagate_constant circuit ≡ None → propagate_constant (beside circuit name) ≡ None
unfolding propagate_constant
propagate_none name circuit idle h =
    ap (option_map (with_constant_propagated (beside circuit name))) (none_beside (λ t. is_some (written_bit t)) circuit name idle (all_propagated circuit h))

pub collapse_goes : (name : List ℕ) (circuit new : Circuit) → IsIdle circuit name → collapse_single_input circuit ≡ Some new → Goes collapse_single_input name circuit new
unfolding collapse_single_input
collapse_goes name circuit new idle h =
    let (table, found, is) = applied (with_single_input_collapsed circuit) (find (IsReadWith (λ t. is_some (only_input t.inputs)) circuit) circuit.tables) new h in
    let test = and_parts (is_some (only_input table.inputs)) (tables_read circuit table.output) (find_test (IsReadWith (λ t. is_some (only_input t.inputs)) circuit) circuit.tables table found) in
    let (input, at) = some_is (only_input table.inputs) test.0 in
    let made : (some : Circuit) → with_single_input_collapsed some table ≡ with_tables some (map (rewired table.output input (is_inverter table)) some.tables) =
    λ some. ap (λ (o : Option (List ℕ)). option_map_or (λ (x : List ℕ). with_tables some (map (rewired table.output x (is_inverter table)) some.tables)) o some) at in
    subst (Goes collapse_single_input name circuit) (sym (made circuit) ∙ is)
    (mapped_goes collapse_single_input name circuit (rewired table.output input (is_inverter table)) (rewired_output table.output input (is_inverter table)) table.output
    (rewired_stays table.output input (is_inverter table)) (λ reads.
    ap (option_map (with_single_input_collapsed (beside circuit name))) (found_beside (λ t. is_some (only_input t.inputs)) circuit name idle table found reads) ∙ ap Some (made (beside circuit name))))

pub collapse_none : (name : List ℕ) (circuit : Circuit) → IsIdle circuit name → collapse_single_input circuit ≡ None → collapse_single_input (beside circuit name) ≡ None
unfolding collapse_single_input
collapse_none name circuit idle h =
    ap (option_map (with_single_input_collapsed (beside circuit name))) (none_beside (λ t. is_some (only_input t.inputs)) circuit name idle (all_collapsed circuit h))
