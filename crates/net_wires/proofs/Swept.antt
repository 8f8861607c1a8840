-- The circuit to which no rule of sweep applies.
use Rattle.std.proofs.Common.{◌≡◌, ℕ, Bool, true, false, not, ◌&&◌, if◌then◌else◌, Option, Some, None, is_some, List, [], ◌∷◌, length, refl, sym, ap, ◌∙◌, arith}
use Rattle.std.specs.List.{AllByRecursion, list_all}
use Rattle.std.specs.Option.{option_map_or, option_or}
use Rattle.std.proofs.lemmas.Bool.{false≢true, and_parts, not-false}
use Rattle.std.proofs.lemmas.Option.{none-some}
use Rattle.circuit_model.specs.Values.{driver}
use Rattle.circuit_model.specs.declared.circuit.Table.{Table}
use Rattle.circuit_model.specs.declared.circuit.Latch.{Latch}
use Rattle.circuit_model.specs.declared.circuit.Circuit.{Circuit}
use Rattle.circuit_laws.specs.Edits.{with_replaced}
use Rattle.circuit_laws.proofs.Drivers.{driver_all}
use Rattle.circuit_tables.specs.Tidy.{is_tidy, tidied}
use Rattle.net_wires.specs.Points.{constant_bit, written_bit}
use Rattle.net_wires.specs.Needed.{dont_care_reads, is_needed, all_needed, only_needed}
use Rattle.net_wires.specs.Rules.{tidy_table, unwritten_bit, with_constant, write_constant, tables_read, with_constant_propagated, propagate_constant, only_input, with_single_input_collapsed, collapse_single_input, starts_at, bit_from_start, fixed_bit, with_latch_fixed, fix_constant_latch, remove_dangling, sweep_step}
use Rattle.net_wires.specs.Sweeping.{IsSweptTable, IsSweptLatch, IsSwept}
use Rattle.net_wires.proofs.Points.{written_bit_constant}
use Rattle.net_wires.proofs.Steps.{nothing_found}

pub none_some_of : {X : Type 0} (o : Option X) → is_some o ≡ false → o ≡ None
none_some_of None h = refl
none_some_of (Some x) h = absurd (false≢true (sym h))

-- no rule applies, in the order of the rules
pub record AppliesNone (circuit : Circuit) : Type 0 where
  pub tidy : tidy_table circuit ≡ None
  pub constant : write_constant circuit ≡ None
  pub propagate : propagate_constant circuit ≡ None
  pub collapse : collapse_single_input circuit ≡ None
  pub latch : fix_constant_latch circuit ≡ None
  pub dangling : remove_dangling circuit ≡ None

pub none_applies : (circuit : Circuit) → sweep_step circuit ≡ None → AppliesNone circuit
unfolding sweep_step
none_applies circuit h =
    let a = parts (tidy_table circuit) (option_or (write_constant circuit) (option_or (propagate_constant circuit) (option_or (collapse_single_input circuit) (option_or (fix_constant_latch circuit) (remove_dangling circuit))))) h in
    let b = parts (write_constant circuit) (option_or (propagate_constant circuit) (option_or (collapse_single_input circuit) (option_or (fix_constant_latch circuit) (remove_dangling circuit)))) a.1 in
    let c = parts (propagate_constant circuit) (option_or (collapse_single_input circuit) (option_or (fix_constant_latch circuit) (remove_dangling circuit))) b.1 in
    let d = parts (collapse_single_input circuit) (option_or (fix_constant_latch circuit) (remove_dangling circuit)) c.1 in
    let e = parts (fix_constant_latch circuit) (remove_dangling circuit) d.1 in
    record { tidy = a.0; constant = b.0; propagate = c.0; collapse = d.0; latch = e.0; dangling = e.1 }
  where
    parts : (first others : Option Circuit) → option_or first others ≡ None → (first ≡ None) × (others ≡ None)
    parts None others e = (refl, e)
    parts (Some new) others e = absurd (none-some new (sym e))

pub all_tidy : (circuit : Circuit) → tidy_table circuit ≡ None → AllByRecursion (λ (table : Table). not (is_tidy table) ≡ false) circuit.tables
unfolding tidy_table
all_tidy circuit h = nothing_found (λ table. with_replaced circuit (tidied table)) (λ table. not (is_tidy table)) circuit.tables h

pub all_written : (circuit : Circuit) → write_constant circuit ≡ None → AllByRecursion (λ (table : Table). is_some (unwritten_bit table) ≡ false) circuit.tables
unfolding write_constant
all_written circuit h = nothing_found (with_constant circuit) (λ table. is_some (unwritten_bit table)) circuit.tables h

pub all_propagated : (circuit : Circuit) → propagate_constant circuit ≡ None → AllByRecursion (λ (table : Table). (is_some (written_bit table) && tables_read circuit table.output) ≡ false) circuit.tables
unfolding propagate_constant
all_propagated circuit h = nothing_found (with_constant_propagated circuit) (λ (table : Table). is_some (written_bit table) && tables_read circuit table.output) circuit.tables h

pub all_collapsed : (circuit : Circuit) → collapse_single_input circuit ≡ None → AllByRecursion (λ (table : Table). (is_some (only_input table.inputs) && tables_read circuit table.output) ≡ false) circuit.tables
unfolding collapse_single_input
all_collapsed circuit h = nothing_found (with_single_input_collapsed circuit) (λ (table : Table). is_some (only_input table.inputs) && tables_read circuit table.output) circuit.tables h

all_unfixed : (circuit : Circuit) → fix_constant_latch circuit ≡ None → AllByRecursion (λ (latch : Latch). is_some (fixed_bit circuit latch) ≡ false) circuit.latches
unfolding fix_constant_latch
all_unfixed circuit h = nothing_found (with_latch_fixed circuit) (λ (latch : Latch). is_some (fixed_bit circuit latch)) circuit.latches h

each_needed : (circuit : Circuit) → remove_dangling circuit ≡ None → all_needed circuit ≡ true
unfolding remove_dangling
each_needed circuit h = cases (all_needed circuit) h
  where
    cases : (t : Bool) → (if t then None else Some (only_needed circuit)) ≡ None → t ≡ true
    cases true e = refl
    cases false e = absurd (none-some (only_needed circuit) (sym e))

all_true : {X : Type 0} (p : X → Bool) (xs : List X) → list_all p xs ≡ true → AllByRecursion (λ x. p x ≡ true) xs
all_true p [] h = tt
all_true p (x ∷ xs) h = let q = and_parts (p x) (list_all p xs) h in (q.0, all_true p xs q.1)

-- a table is written as a constant just where it is one
pub written_same : (table : Table) → is_some (unwritten_bit table) ≡ false → constant_bit table ≡ written_bit table
unfolding unwritten_bit
written_same table h = cases (written_bit table) refl h
  where
    cases : (o : Option Bool) → written_bit table ≡ o → is_some (if is_some o then None else constant_bit table) ≡ false → constant_bit table ≡ o
    cases None e k = none_some_of (constant_bit table) k
    cases (Some bit) e k = written_bit_constant table bit e

-- of two tests of which one fails, the first fails where the second holds
pub fails_where : {X : Type 0} (o : Option X) (b : Bool) → (is_some o && b) ≡ false → b ≡ true → o ≡ None
fails_where None b h e = refl
fails_where (Some x) b h e = absurd (false≢true (sym h ∙ e))

swept_tables : (circuit : Circuit) (tables : List Table) → AllByRecursion (λ (table : Table). not (is_tidy table) ≡ false) tables
    → AllByRecursion (λ (table : Table). is_some (unwritten_bit table) ≡ false) tables
    → AllByRecursion (λ (table : Table). (is_some (written_bit table) && tables_read circuit table.output) ≡ false) tables
    → AllByRecursion (λ (table : Table). (is_some (only_input table.inputs) && tables_read circuit table.output) ≡ false) tables
    → AllByRecursion (λ (table : Table). is_needed circuit table.output ≡ true) tables → AllByRecursion (IsSweptTable circuit) tables
swept_tables circuit [] a b c d e = tt
swept_tables circuit (table ∷ tables) a b c d e = (
  record {
    tidy = not-false (is_tidy table) a.0;
    written = written_same table b.0;
    not_constant = λ reads. written_same table b.0 ∙ fails_where (written_bit table) (tables_read circuit table.output) c.0 reads;
    not_single = λ reads one. several table.inputs one (fails_where (only_input table.inputs) (tables_read circuit table.output) d.0 reads);
    needed = e.0;
  },
  swept_tables circuit tables a.1 b.1 c.1 d.1 e.1,
)
  where
    several : (names : List (List ℕ)) → length names ≡ 1 → only_input names ≡ None → ⊥
    several [] one h = omega arith
    several (name ∷ []) one h = none-some name (sym h)
    several (name ∷ (other ∷ names)) one h = omega arith

-- a latch that no rule fixes, though it may start at the constant that its input is, is read by the
-- don't-care part
fixed_read : (circuit : Circuit) (latch : Latch) (bit : Bool) (table : Table) → fixed_bit circuit latch ≡ None → starts_at latch.init bit ≡ true
    → driver circuit.tables latch.input ≡ Some table → written_bit table ≡ Some bit → dont_care_reads circuit latch.output ≡ true
unfolding fixed_bit
fixed_read circuit latch bit table none starts drives written =
    by (starts_at latch.init bit) (dont_care_reads circuit latch.output) starts
    (sym (ap (λ (o : Option Bool). option_map_or (bit_from_start circuit latch) o None) (ap (λ (found : Option Table). option_map_or written_bit found None) drives ∙ written)) ∙ none)
  where
    by : (s d : Bool) → s ≡ true → (if s && not d then Some bit else None) ≡ None → d ≡ true
    by s true h e = refl
    by true false h e = absurd (none-some bit (sym e))
    by false false h e = absurd (false≢true h)

swept_latches : (circuit : Circuit) (latches : List Latch) → AllByRecursion (λ (table : Table). constant_bit table ≡ written_bit table) circuit.tables → AllByRecursion (λ (latch : Latch). is_some (fixed_bit circuit latch) ≡ false) latches
    → AllByRecursion (λ (latch : Latch). is_needed circuit latch.output ≡ true) latches → AllByRecursion (IsSweptLatch circuit) latches
swept_latches circuit [] same a b = tt
swept_latches circuit (latch ∷ latches) same a b = (
  record {
    not_fixed = λ bit table starts drives constant.
        fixed_read circuit latch bit table (none_some_of (fixed_bit circuit latch) a.0) starts drives
        (sym (driver_all (λ (t : Table). constant_bit t ≡ written_bit t) circuit.tables same latch.input table drives) ∙ constant);
    needed = b.0;
  },
  swept_latches circuit latches same a.1 b.1,
)

-- each constant is written as one
each_written : (tables : List Table) → AllByRecursion (λ (table : Table). is_some (unwritten_bit table) ≡ false) tables → AllByRecursion (λ (table : Table). constant_bit table ≡ written_bit table) tables
each_written [] all = tt
each_written (table ∷ tables) all = (written_same table all.0, each_written tables all.1)

-- the end of the chain
pub swept : (circuit : Circuit) → sweep_step circuit ≡ None → IsSwept circuit
swept circuit h =
    let none = none_applies circuit h in
    let needed = and_parts (list_all (λ (table : Table). is_needed circuit table.output) circuit.tables) (list_all (λ (latch : Latch). is_needed circuit latch.output) circuit.latches) (each_needed circuit none.dangling) in record {
      tables = swept_tables circuit circuit.tables (all_tidy circuit none.tidy) (all_written circuit none.constant) (all_propagated circuit none.propagate) (all_collapsed circuit none.collapse)
          (all_true (λ (table : Table). is_needed circuit table.output) circuit.tables needed.0);
      latches = swept_latches circuit circuit.latches (each_written circuit.tables (all_written circuit none.constant)) (all_unfixed circuit none.latch) (all_true (λ (latch : Latch). is_needed circuit latch.output) circuit.latches needed.1);
    }
