-- Latches in slots: the indices of the tables, which latches always hold one bit, and the step that
-- fixes one.
use Rattle.std.proofs.Common.{◌≡◌, ℕ, zero, suc, ◌<◌, ◌≤◌, Bool, true, false, not, ◌&&◌, ◌||◌, ◌==◌, cond, if◌then◌else◌, Option, Some, None, is_some, List, [], ◌∷◌, ◌++◌, length, map, set, find, slice_get, bytes_eq, inl, inr, refl, sym, ap, ◌∙◌, subst, arith}
use Rattle.std.specs.Option.{option_map_or}
use Rattle.std.proofs.lemmas.Bool.{false≢true, eqb-true, eqb-false}
use Rattle.std.proofs.lemmas.Option.{same_Some}
use Rattle.circuit_model.specs.Names.{has, all_different}
use Rattle.circuit_model.specs.Values.{driver}
use Rattle.circuit_model.specs.Soundness.{outputs_of, table_inputs, IsSound}
use Rattle.circuit_model.specs.declared.circuit.Table.{Table}
use Rattle.circuit_model.specs.declared.circuit.Latch.{Latch}
use Rattle.circuit_model.specs.declared.circuit.Circuit.{Circuit}
use Rattle.circuit_laws.specs.Edits.{constant_table, with_added, latches_kept, is_other}
use Rattle.circuit_laws.proofs.Names.{same_name, name_is, name_not, has_head, different_head, different_tail}
use Rattle.circuit_laws.proofs.Drivers.{driver_name, driver_none}
use Rattle.circuit_laws.proofs.Paths.{driver_added_other}
use Rattle.circuit_laws.proofs.Places.{placed_driver, latches_stay}
use Rattle.net_core.proofs.Lookups.{get_set_same, get_set_other, get_push_at, get_push_left, get_push_cases}
use Rattle.circuit_tables.specs.Tidy.{is_tidy}
use Rattle.net_wires.specs.Places.{item_at, LeadsToTables}
use Rattle.net_wires.proofs.Taking.{tables_differ}
use Rattle.net_wires.specs.Points.{written_bit}
use Rattle.net_wires.specs.Needed.{dont_care_reads}
use Rattle.net_wires.specs.Rules.{fixed_bit, bit_from_start, starts_at}
use Rattle.net_sweep.specs.declared.queues.Rule.{Rule}
use Rattle.net_sweep.specs.Settled.{rule_applied, listed, may_apply_to_written, AreWaiting, AreCandidates, AreAlikeBut, AreSound}
use Rattle.net_readers.specs.Fanouts.{is_in}
use Rattle.net_sweep.specs.Latches.{left_at, slot_bit, is_fixed, IsFirstFixed, IsPlaced, AreInFanout, IsBeside}
use Rattle.net_sweep.proofs.Marking.{least_first, read_by, reads_at}
use Rattle.net_sweep.proofs.Changing.{there, alike_before, still_passes, constant_tidy, written_asks, applied_names, applied_cares, applied_outputs}

-- tables of a sound circuit
pub sound_tables : (circuit : Circuit) → IsSound circuit → AreSound circuit.tables
sound_tables circuit h = record { differ = tables_differ circuit h; shaped = h.shaped; table_inputs_once = h.table_inputs_once; acyclic = h.acyclic }

-- names and their indices

has_at : (names : List (List ℕ)) (name : List ℕ) → has names name ≡ true → (place : ℕ) × (slice_get names place ≡ Some name)
has_at [] name h = absurd (false≢true h)
has_at (first ∷ names) name h = cases (bytes_eq name first) refl h (λ k. has_at names name k)
  where
    cases : (b : Bool) → bytes_eq name first ≡ b → (b || has names name) ≡ true → (has names name ≡ true → (place : ℕ) × (slice_get names place ≡ Some name))
        → (place : ℕ) × (slice_get (first ∷ names) place ≡ Some name)
    cases true e k rest = (0, ap Some (sym (same_name name first e)))
    cases false e k rest = let (place, at) = rest k in (suc place, at)

pub at_has : (names : List (List ℕ)) (place : ℕ) (name : List ℕ) → slice_get names place ≡ Some name → has names name ≡ true
at_has [] place name at = let z : None ≡ Some name = at in absurd cc
at_has (first ∷ names) zero name at = subst (λ (n : List ℕ). has (first ∷ names) n ≡ true) (same_Some first name at) (has_head first names)
at_has (first ∷ names) (suc place) name at = by (bytes_eq name first) (at_has names place name at)
  where
    by : (b : Bool) → has names name ≡ true → (b || has names name) ≡ true
    by true h = refl
    by false h = h

named_at : (tables : List Table) (place : ℕ) (name : List ℕ) → slice_get (outputs_of tables) place ≡ Some name → (table : Table) × (slice_get tables place ≡ Some table) × (table.output ≡ name)
named_at [] place name at = let z : None ≡ Some name = at in absurd cc
named_at (first ∷ tables) zero name at = (first, refl, same_Some first.output name at)
named_at (first ∷ tables) (suc place) name at = named_at tables place name at

-- the indices of names lead to tables
pub placed_leads : (places : List ℕ → Option ℕ) (tables : List Table) → all_different (outputs_of tables) ≡ true → IsPlaced places (outputs_of tables) → LeadsToTables places tables
placed_leads places tables differ h signal = cases (places signal) refl
  where
    nowhere : places signal ≡ None → (b : Bool) → has (outputs_of tables) signal ≡ b → driver tables signal ≡ None
    nowhere e true k = let (i, at) = has_at (outputs_of tables) signal k in let z : Some i ≡ None = sym (h.placed i signal at) ∙ e in absurd cc
    nowhere e false k = driver_none tables signal k

    cases : (o : Option ℕ) → places signal ≡ o → item_at tables o ≡ driver tables signal
    cases None e = sym (nowhere e (has (outputs_of tables) signal) refl)
    cases (Some i) e =
        let (table, at, is) = named_at tables i signal (h.only signal i e) in
        at ∙ sym (subst (λ (n : List ℕ). driver tables n ≡ Some table) is (placed_driver tables i table differ at))

-- one more name is indexed, last
pub placed_more : (before after : List ℕ → Option ℕ) (names : List (List ℕ)) (name : List ℕ) → IsPlaced before names → has names name ≡ false
    → ((other : List ℕ) → after other ≡ (if bytes_eq name other then Some (length names) else before other)) → IsPlaced after (names ++ name ∷ [])
placed_more before after names name h new put = record { placed = placed; only = λ other place e. only other place (bytes_eq name other) refl (sym (put other) ∙ e) }
  where
    placed : (place : ℕ) (other : List ℕ) → slice_get (names ++ name ∷ []) place ≡ Some other → after other ≡ Some place
    placed place other at =
        elim (get_push_cases names name other place at) as (λ _. after other ≡ Some place) [
          | inl old ↦
              let apart : bytes_eq name other ≡ false = name_not name other (λ same. false≢true (sym new ∙ subst (λ (n : List ℕ). has names n ≡ true) (sym same) (at_has names place other old))) in
              put other ∙ (ap (λ (b : Bool). if b then Some (length names) else before other) apart ∙ h.placed place other old)
          | inr last ↦ put other ∙ (ap (λ (b : Bool). if b then Some (length names) else before other) (name_is name other last.1) ∙ ap Some (sym last.0))
        ]

    only : (other : List ℕ) (place : ℕ) (b : Bool) → bytes_eq name other ≡ b → (if b then Some (length names) else before other) ≡ Some place → slice_get (names ++ name ∷ []) place ≡ Some other
    only other place true same e =
        subst (λ (p : ℕ). slice_get (names ++ name ∷ []) p ≡ Some other) (same_Some (length names) place e) (get_push_at names name ∙ ap Some (same_name name other same))
    only other place false same e = get_push_left names name other place (h.only other place e)

pub placed_none : (places : List ℕ → Option ℕ) → ((name : List ℕ) → places name ≡ None) → IsPlaced places []
placed_none places none = record {
  placed = λ place name at. let z : None ≡ Some name = at in absurd cc;
  only = λ name place e. let z : None ≡ Some place = sym (none name) ∙ e in absurd cc;
}

-- the bit that a latch always has

cares_same : (old new : Circuit) (name : List ℕ) → new.dont_care ≡ old.dont_care → dont_care_reads new name ≡ dont_care_reads old name
unfolding dont_care_reads
cares_same old new name e = ap (λ (part : List Table). not (has (outputs_of part) name) && has (table_inputs part) name) e

fixed_alike : (old new : Circuit) (latch : Latch) → new.dont_care ≡ old.dont_care → option_map_or written_bit (driver new.tables latch.input) None ≡ option_map_or written_bit (driver old.tables latch.input) None
    → fixed_bit new latch ≡ fixed_bit old latch
unfolding fixed_bit
fixed_alike old new latch cares bits =
    ap (λ (o : Option Bool). option_map_or (bit_from_start new latch) o None) bits
    ∙ by (option_map_or written_bit (driver old.tables latch.input) None)
  where
    from_start : (bit : Bool) → bit_from_start new latch bit ≡ bit_from_start old latch bit
    from_start bit = ap (λ (b : Bool). if starts_at latch.init bit && not b then Some bit else None) (cares_same old new latch.output cares)

    by : (o : Option Bool) → option_map_or (bit_from_start new latch) o None ≡ option_map_or (bit_from_start old latch) o None
    by None = refl
    by (Some bit) = from_start bit

pub fixed_same : (old new : Circuit) (latch : Latch) → new.dont_care ≡ old.dont_care → driver new.tables latch.input ≡ driver old.tables latch.input → fixed_bit new latch ≡ fixed_bit old latch
fixed_same old new latch cares drives = fixed_alike old new latch cares (ap (λ (o : Option Table). option_map_or written_bit o None) drives)

pub fixed_written : (circuit : Circuit) (latch : Latch) → is_some (fixed_bit circuit latch) ≡ true → (table : Table) × (driver circuit.tables latch.input ≡ Some table) × (is_some (written_bit table) ≡ true)
unfolding fixed_bit
fixed_written circuit latch h = by (driver circuit.tables latch.input) refl h
  where
    written : (o : Option Bool) → is_some (option_map_or (bit_from_start circuit latch) o None) ≡ true → is_some o ≡ true
    written None k = absurd (false≢true k)
    written (Some bit) k = refl

    by : (o : Option Table) → driver circuit.tables latch.input ≡ o → is_some (option_map_or (bit_from_start circuit latch) (option_map_or written_bit o None) None) ≡ true
        → (table : Table) × (driver circuit.tables latch.input ≡ Some table) × (is_some (written_bit table) ≡ true)
    by None e k = absurd (false≢true k)
    by (Some table) e k = (table, e, written (written_bit table) k)

-- after some tables have changed, the latches wait that have one bit: those that had one before,
-- and those that read a changed table which is a constant now
pub waiting_applied : (slots : List (Option Latch)) (lists : List ℕ → Option (List ℕ)) (places : List ℕ → Option ℕ) (old new : Circuit) (changed : List ℕ) (before after : ℕ → Bool)
    → all_different (outputs_of old.tables) ≡ true → IsPlaced places (outputs_of old.tables) → outputs_of new.tables ≡ outputs_of old.tables → new.dont_care ≡ old.dont_care
    → AreAlikeBut changed old.tables new.tables → AreInFanout lists slots → AreWaiting (is_fixed old) before slots
    → ((place : ℕ) (table : Table) (latch : ℕ) → is_in changed place ≡ true → slice_get new.tables place ≡ Some table → is_some (written_bit table) ≡ true → is_in (listed (lists table.output)) latch ≡ true → after latch ≡ true)
    → ((latch : ℕ) → before latch ≡ true → after latch ≡ true) → AreWaiting (is_fixed new) after slots
waiting_applied slots lists places old new changed before after differ placed names cares alike fanout all put kept = marked
  where
    old_leads : LeadsToTables places old.tables
    old_leads = placed_leads places old.tables differ placed

    new_leads : LeadsToTables places new.tables
    new_leads = placed_leads places new.tables (ap all_different names ∙ differ) (subst (IsPlaced places) (sym names) placed)

    still : (place : ℕ) (latch : Latch) → slice_get slots place ≡ Some (Some latch) → is_some (fixed_bit new latch) ≡ true
        → option_map_or written_bit (driver new.tables latch.input) None ≡ option_map_or written_bit (driver old.tables latch.input) None → after place ≡ true
    still place latch at fixed bits = kept place (all place (Some latch) at (sym (ap (λ (o : Option Bool). is_some o) (fixed_alike old new latch cares bits)) ∙ fixed))

    at_place : (place : ℕ) (latch : Latch) → slice_get slots place ≡ Some (Some latch) → is_some (fixed_bit new latch) ≡ true → (o : Option ℕ) → places latch.input ≡ o → after place ≡ true
    at_place place latch at fixed None e =
        let (table, drives, written) = fixed_written new latch fixed in
        let z : None ≡ Some table = ap (item_at new.tables) (sym e) ∙ (new_leads latch.input ∙ drives) in absurd cc
    at_place place latch at fixed (Some i) e = by (is_in changed i) refl
      where
        by : (b : Bool) → is_in changed i ≡ b → after place ≡ true
        by true k =
            let (table, drives, written) = fixed_written new latch fixed in
            put i table place k (ap (item_at new.tables) (sym e) ∙ (new_leads latch.input ∙ drives)) written
            (subst (λ (n : List ℕ). is_in (listed (lists n)) place ≡ true) (sym (driver_name new.tables latch.input table drives)) (fanout place latch at))
        by false k =
            let (table, drives, written) = fixed_written new latch fixed in
            let (before, there, like) = alike_before changed old.tables new.tables i table alike k (ap (item_at new.tables) (sym e) ∙ (new_leads latch.input ∙ drives)) in
            let drove : driver old.tables latch.input ≡ Some before = sym (old_leads latch.input) ∙ (ap (item_at old.tables) e ∙ there) in
            still place latch at fixed
            (ap (λ (o : Option Table). option_map_or written_bit o None) drives ∙ (like.written ∙ sym (ap (λ (o : Option Table). option_map_or written_bit o None) drove)))

    marked : (place : ℕ) (slot : Option Latch) → slice_get slots place ≡ Some slot → is_fixed new slot ≡ true → after place ≡ true
    marked place None at fixed = absurd (false≢true fixed)
    marked place (Some latch) at fixed = at_place place latch at fixed (places latch.input) refl

names_long : (tables : List Table) → length (outputs_of tables) ≡ length tables
names_long [] = refl
names_long (table ∷ tables) = omega (arith, names_long tables)

names_added : (tables : List Table) (table : Table) → outputs_of (tables ++ table ∷ []) ≡ outputs_of tables ++ table.output ∷ []
names_added [] table = refl
names_added (first ∷ tables) table = ap (λ (ns : List (List ℕ)). first.output ∷ ns) (names_added tables table)

placed_added : (circuit : Circuit) (latch : Latch) (bit : Bool) (before after : List ℕ → Option ℕ) → IsPlaced before (outputs_of circuit.tables) → has (outputs_of circuit.tables) latch.output ≡ false
    → ((other : List ℕ) → after other ≡ (if bytes_eq latch.output other then Some (length (outputs_of circuit.tables)) else before other)) → IsPlaced after (outputs_of (with_added circuit (constant_table latch.output bit)).tables)
unfolding with_added
placed_added circuit latch bit before after h new put =
    subst (IsPlaced after) (sym (names_added circuit.tables (constant_table latch.output bit))) (placed_more before after (outputs_of circuit.tables) latch.output h new put)

added_ports : (circuit : Circuit) (table : Table) → (with_added circuit table).outputs ≡ circuit.outputs
unfolding with_added
added_ports circuit table = refl

added_cares : (circuit : Circuit) (table : Table) (name : List ℕ) → dont_care_reads (with_added circuit table) name ≡ dont_care_reads circuit name
unfolding with_added
added_cares circuit table name = cares_same circuit (record circuit { tables = circuit.tables ++ table ∷ [] }) name refl

-- a latch's slot is cleared

cleared : (slots : List (Option Latch)) (place other : ℕ) (here latch : Latch) → slice_get slots place ≡ Some (Some here) → slice_get (set slots place None) other ≡ Some (Some latch) → slice_get slots other ≡ Some (Some latch)
cleared slots place other here latch there at = cases (other == place) refl
  where
    cases : (b : Bool) → (other == place) ≡ b → slice_get slots other ≡ Some (Some latch)
    cases true e =
        let same : other ≡ place = eqb-true other place e in
        let z : Some None ≡ Some (Some latch) = sym (get_set_same slots place (Some here) None there) ∙ subst (λ (n : ℕ). slice_get (set slots place None) n ≡ Some (Some latch)) same at in
        let y : None ≡ Some latch = same_Some None (Some latch) z in absurd cc
    cases false e = sym (get_set_other slots place other None (eqb-false other place e)) ∙ at

pub fanout_cleared : (lists : List ℕ → Option (List ℕ)) (slots : List (Option Latch)) (place : ℕ) (here : Latch) → slice_get slots place ≡ Some (Some here) → AreInFanout lists slots → AreInFanout lists (set slots place None)
fanout_cleared lists slots place here there fanout other latch at = fanout other latch (cleared slots place other here latch there at)

-- the constant table of a latch's name is added
pub waiting_fixed : (slots : List (Option Latch)) (lists : List ℕ → Option (List ℕ)) (old : Circuit) (place : ℕ) (here : Latch) (bit : Bool) (before after : ℕ → Bool)
    → slice_get slots place ≡ Some (Some here) → AreInFanout lists slots → AreWaiting (is_fixed old) before slots
    → ((latch : ℕ) → is_in (listed (lists here.output)) latch ≡ true → after latch ≡ true) → ((latch : ℕ) → before latch ≡ true → after latch ≡ true)
    → AreWaiting (is_fixed (with_added old (constant_table here.output bit))) after (set slots place None)
unfolding with_added
waiting_fixed slots lists old place here bit before after there fanout all put kept = marked
  where
    new : Circuit
    new = record old { tables = old.tables ++ constant_table here.output bit ∷ [] }

    at_place : (other : ℕ) (latch : Latch) → slice_get slots other ≡ Some (Some latch) → is_some (fixed_bit new latch) ≡ true → (b : Bool) → bytes_eq latch.input here.output ≡ b → after other ≡ true
    at_place other latch at fixed true e = put other (subst (λ (n : List ℕ). is_in (listed (lists n)) other ≡ true) (same_name latch.input here.output e) (fanout other latch at))
    at_place other latch at fixed false e =
        kept other (all other (Some latch) at
        (sym (ap (λ (o : Option Bool). is_some o) (fixed_same old new latch refl (driver_added_other old.tables (constant_table here.output bit) latch.input e))) ∙ fixed))

    marked : (other : ℕ) (slot : Option Latch) → slice_get (set slots place None) other ≡ Some slot → is_fixed new slot ≡ true → after other ≡ true
    marked other None at fixed = absurd (false≢true fixed)
    marked other (Some latch) at fixed = at_place other latch (cleared slots place other here latch there at) fixed (bytes_eq latch.input here.output) refl

-- a constant table, last, reads nothing

added_reads : (tables : List Table) (name : List ℕ) (bit : Bool) (read : List ℕ) → has (table_inputs (tables ++ constant_table name bit ∷ [])) read ≡ true → has (table_inputs tables) read ≡ true
added_reads tables name bit read h =
    let (place, table, at, reads) = read_by (tables ++ constant_table name bit ∷ []) read h in
    elim (get_push_cases tables (constant_table name bit) table place at) as (λ _. has (table_inputs tables) read ≡ true) [
      | inl old ↦ reads_at tables place table read old reads
      | inr last ↦ absurd (false≢true (subst (λ (t : Table). has t.inputs read ≡ true) (sym last.1) reads))
    ]

pub marked_added : (before after : Rule → ℕ → Bool) (tables : List Table) (name : List ℕ) (bit : Bool) → AreCandidates before tables
    → ((rule : Rule) (place : ℕ) → after rule place ≡ ((may_apply_to_written rule && length tables == place) || before rule place)) → AreCandidates after (tables ++ constant_table name bit ∷ [])
marked_added before after tables name bit all put rule place table at passed =
    elim (get_push_cases tables (constant_table name bit) table place at) as (λ _. after rule place ≡ true) [
      | inl old ↦ put rule place ∙ by (may_apply_to_written rule && length tables == place) (all rule place table old (still_passes rule tables (tables ++ constant_table name bit ∷ []) table (λ n h. added_reads tables name bit n h) passed))
      | inr last ↦
          put rule place
          ∙ last_one (length tables == place) refl last.0 (written_asks rule (tables ++ constant_table name bit ∷ []) table (ap is_tidy (sym last.1) ∙ constant_tidy name bit) passed)
    ]
  where
    by : (b : Bool) → before rule place ≡ true → (b || before rule place) ≡ true
    by true h = refl
    by false h = h

    last_one : (b : Bool) → (length tables == place) ≡ b → place ≡ length tables → may_apply_to_written rule ≡ true → ((may_apply_to_written rule && b) || before rule place) ≡ true
    last_one true e same asks = rw (asks) refl
    last_one false e same asks = absurd (eqb-false (length tables) place e (sym same))

-- the first latch that always has one bit

pub found_left : (circuit : Circuit) (slots : List (Option Latch)) (latch : Latch) → find (is_fixed circuit) slots ≡ Some (Some latch) → find (λ (l : Latch). is_some (fixed_bit circuit l)) (left_at slots) ≡ Some latch
unfolding left_at
found_left circuit [] latch h = let z : None ≡ Some (Some latch) = h in absurd cc
found_left circuit (None ∷ slots) latch h = found_left circuit slots latch h
found_left circuit (Some first ∷ slots) latch h = cases (is_some (fixed_bit circuit first)) h (λ k. found_left circuit slots latch k)
  where
    cases : (b : Bool) → cond b (Some (Some first)) (find (is_fixed circuit) slots) ≡ Some (Some latch)
        → (find (is_fixed circuit) slots ≡ Some (Some latch) → find (λ (l : Latch). is_some (fixed_bit circuit l)) (left_at slots) ≡ Some latch)
        → cond b (Some first) (find (λ (l : Latch). is_some (fixed_bit circuit l)) (left_at slots)) ≡ Some latch
    cases true k rest = same_Some (Some first) (Some latch) k
    cases false k rest = rest k

pub none_left : (circuit : Circuit) (slots : List (Option Latch)) → find (is_fixed circuit) slots ≡ None → find (λ (l : Latch). is_some (fixed_bit circuit l)) (left_at slots) ≡ None
unfolding left_at
none_left circuit [] h = refl
none_left circuit (None ∷ slots) h = none_left circuit slots h
none_left circuit (Some first ∷ slots) h = cases (is_some (fixed_bit circuit first)) h (λ k. none_left circuit slots k)
  where
    cases : (b : Bool) → cond b (Some (Some first)) (find (is_fixed circuit) slots) ≡ None
        → (find (is_fixed circuit) slots ≡ None → find (λ (l : Latch). is_some (fixed_bit circuit l)) (left_at slots) ≡ None)
        → cond b (Some first) (find (λ (l : Latch). is_some (fixed_bit circuit l)) (left_at slots)) ≡ None
    cases true k rest = let z : Some (Some first) ≡ None = k in absurd cc
    cases false k rest = rest k

-- the remaining latches after one is removed

pub left_has : (slots : List (Option Latch)) (place : ℕ) (latch : Latch) → slice_get slots place ≡ Some (Some latch) → has (map (λ (l : Latch). l.output) (left_at slots)) latch.output ≡ true
unfolding left_at
left_has [] place latch at = let z : None ≡ Some (Some latch) = at in absurd cc
left_has (None ∷ slots) zero latch at = let z : None ≡ Some latch = same_Some None (Some latch) at in absurd cc
left_has (None ∷ slots) (suc place) latch at = left_has slots place latch at
left_has (Some first ∷ slots) zero latch at =
    subst (λ (l : Latch). has (map (λ (x : Latch). x.output) (first ∷ left_at slots)) l.output ≡ true) (same_Some first latch (same_Some (Some first) (Some latch) at)) (has_head first.output (map (λ (x : Latch). x.output) (left_at slots)))
left_has (Some first ∷ slots) (suc place) latch at = by (bytes_eq latch.output first.output) (left_has slots place latch at)
  where
    by : (b : Bool) → has (map (λ (l : Latch). l.output) (left_at slots)) latch.output ≡ true → (b || has (map (λ (l : Latch). l.output) (left_at slots)) latch.output) ≡ true
    by true h = refl
    by false h = h

pub left_cleared : (slots : List (Option Latch)) (place : ℕ) (latch : Latch) → all_different (map (λ (l : Latch). l.output) (left_at slots)) ≡ true → slice_get slots place ≡ Some (Some latch)
    → latches_kept (is_other latch.output) (left_at slots) ≡ left_at (set slots place None)
unfolding left_at latches_kept
left_cleared [] place latch differ at = let z : None ≡ Some (Some latch) = at in absurd cc
left_cleared (None ∷ slots) zero latch differ at = let z : None ≡ Some latch = same_Some None (Some latch) at in absurd cc
left_cleared (None ∷ slots) (suc place) latch differ at = left_cleared slots place latch differ at
left_cleared (Some first ∷ slots) zero latch differ at =
    let same : first ≡ latch = same_Some first latch (same_Some (Some first) (Some latch) at) in
    ap (λ (b : Bool). cond (not b) (first ∷ latches_kept (is_other latch.output) (left_at slots)) (latches_kept (is_other latch.output) (left_at slots))) (name_is latch.output first.output (ap (λ (l : Latch). l.output) (sym same)))
    ∙ latches_stay (left_at slots) latch.output (subst (λ (l : Latch). has (map (λ (x : Latch). x.output) (left_at slots)) l.output ≡ false) same (different_head first.output (map (λ (x : Latch). x.output) (left_at slots)) differ))
left_cleared (Some first ∷ slots) (suc place) latch differ at =
    let apart : bytes_eq latch.output first.output ≡ false = name_not latch.output first.output (λ same.
    false≢true (sym (different_head first.output (map (λ (x : Latch). x.output) (left_at slots)) differ) ∙ subst (λ (n : List ℕ). has (map (λ (x : Latch). x.output) (left_at slots)) n ≡ true) same (left_has slots place latch at))) in
    ap (λ (b : Bool). cond (not b) (first ∷ latches_kept (is_other latch.output) (left_at slots)) (latches_kept (is_other latch.output) (left_at slots))) apart
    ∙ ap (λ (ls : List Latch). first ∷ ls) (left_cleared slots place latch (different_tail first.output (map (λ (x : Latch). x.output) (left_at slots)) differ) at)

-- what is maintained beside the circuit afterwards

pub applied_beside : (rule : Rule) (circuit new : Circuit) (place : ℕ) (slots : List (Option Latch)) (fanout : List ℕ → Option (List ℕ)) (places : List ℕ → Option ℕ) (read : List (List ℕ)) (before after : ℕ → Bool) (changed now : List ℕ)
    → AreSound circuit.tables → place < length circuit.tables → IsBeside slots fanout places read before circuit
    → ((table : Table) → slice_get circuit.tables place ≡ Some table → new ≡ rule_applied rule circuit table) → AreAlikeBut changed circuit.tables new.tables → now ≡ changed
    → ((i : ℕ) (table : Table) (latch : ℕ) → is_in now i ≡ true → slice_get new.tables i ≡ Some table → is_some (written_bit table) ≡ true → is_in (listed (fanout table.output)) latch ≡ true → after latch ≡ true)
    → ((latch : ℕ) → before latch ≡ true → after latch ≡ true) → IsBeside slots fanout places read after new
applied_beside rule circuit new place slots fanout places read before after changed now sound lt h turned alike is put kept =
    let (table, at) = there circuit.tables place lt in
    let names : outputs_of new.tables ≡ outputs_of circuit.tables = ap (λ (c : Circuit). outputs_of c.tables) (turned table at) ∙ applied_names rule circuit place table sound at in
    let cares : new.dont_care ≡ circuit.dont_care = ap (λ (c : Circuit). c.dont_care) (turned table at) ∙ applied_cares rule circuit table in
    let ports : new.outputs ≡ circuit.outputs = ap (λ (c : Circuit). c.outputs) (turned table at) ∙ applied_outputs rule circuit table in record {
      placed = subst (IsPlaced places) (sym names) h.placed;
      read = λ name. h.read name ∙ sym (cares_same circuit new name cares);
      fanout = h.fanout;
      asked = λ name asks. h.asked name (ap (λ (names : List (List ℕ)). has names name) (sym ports) ∙ asks);
      waiting = waiting_applied slots fanout places circuit new changed before after sound.differ h.placed names cares alike h.fanout h.waiting
          (λ i t latch k at_new. put i t latch (subst (λ (ps : List ℕ). is_in ps i ≡ true) (sym is) k) at_new) kept;
    }

pub fixed_beside : (circuit new : Circuit) (place last : ℕ) (latch : Latch) (bit : Bool) (output key : List ℕ) (slots slots_after : List (Option Latch)) (fanout : List ℕ → Option (List ℕ)) (places places_after : List ℕ → Option ℕ) (read : List (List ℕ)) (before after : ℕ → Bool)
    → has (outputs_of circuit.tables) latch.output ≡ false → IsBeside slots fanout places read before circuit → slice_get slots place ≡ Some (Some latch)
    → output ≡ latch.output → new ≡ with_added circuit (constant_table output bit) → last ≡ length circuit.tables → key ≡ latch.output → slots_after ≡ set slots place None
    → ((other : List ℕ) → places_after other ≡ (if bytes_eq key other then Some last else places other))
    → ((q : ℕ) → is_in (listed (fanout latch.output)) q ≡ true → after q ≡ true) → ((q : ℕ) → before q ≡ true → after q ≡ true) → IsBeside slots_after fanout places_after read after new
fixed_beside circuit new place last latch bit output key slots slots_after fanout places places_after read before after undriven h at o n l k s put_place put kept =
    let made : new ≡ with_added circuit (constant_table latch.output bit) = n ∙ ap (λ (name : List ℕ). with_added circuit (constant_table name bit)) o in
    subst (λ (c : Circuit). IsBeside slots_after fanout places_after read after c) (sym made)
    (subst (λ (ss : List (Option Latch)). IsBeside ss fanout places_after read after (with_added circuit (constant_table latch.output bit))) (sym s) record {
      placed = placed_added circuit latch bit places places_after h.placed undriven
          (λ other. put_place other ∙ (ap (λ (name : List ℕ). if bytes_eq name other then Some last else places other) k ∙ ap (λ (p : ℕ). if bytes_eq latch.output other then Some p else places other) (l ∙ sym (names_long circuit.tables))));
      read = λ name. h.read name ∙ sym (added_cares circuit (constant_table latch.output bit) name);
      fanout = fanout_cleared fanout slots place latch at h.fanout;
      asked = λ name asks. h.asked name (ap (λ (names : List (List ℕ)). has names name) (sym (added_ports circuit (constant_table latch.output bit))) ∙ asks);
      waiting = waiting_fixed slots fanout circuit place latch bit before after at h.fanout h.waiting put kept;
    })

pub fixed_marked : (circuit new : Circuit) (last : ℕ) (output : List ℕ) (bit : Bool) (before after : Rule → ℕ → Bool) → new ≡ with_added circuit (constant_table output bit) → last ≡ length circuit.tables
    → AreCandidates before circuit.tables → ((rule : Rule) (place : ℕ) → after rule place ≡ ((may_apply_to_written rule && last == place) || before rule place)) → AreCandidates after new.tables
unfolding with_added
fixed_marked circuit new last output bit before after n l all put =
    subst (λ (c : Circuit). AreCandidates after c.tables) (sym n)
    (marked_added before after circuit.tables output bit all (λ rule place. put rule place ∙ ap (λ (p : ℕ). (may_apply_to_written rule && p == place) || before rule place) l))

pub first_is_fixed : (circuit : Circuit) (slots : List (Option Latch)) (waiting : ℕ → Bool) (place : ℕ) (bit : Bool) → AreWaiting (is_fixed circuit) waiting slots → ((i : ℕ) → waiting i ≡ true → place ≤ i)
    → option_map_or (slot_bit circuit) (slice_get slots place) None ≡ Some bit → IsFirstFixed circuit slots (Some (place, bit))
first_is_fixed circuit slots waiting place bit all least has_bit = by (slice_get slots place) refl has_bit
  where
    first : (latch : Latch) → slice_get slots place ≡ Some (Some latch) → fixed_bit circuit latch ≡ Some bit → find (is_fixed circuit) slots ≡ Some (Some latch)
    first latch at h =
        let (lt, slot, here, found) = least_first (is_fixed circuit) waiting slots place all least (ap (λ (o : Option (Option Latch)). option_map_or (is_fixed circuit) o false) at ∙ ap (λ (o : Option Bool). is_some o) h) in
        found ∙ (sym here ∙ at)

    by : (o : Option (Option Latch)) → slice_get slots place ≡ o → option_map_or (slot_bit circuit) o None ≡ Some bit
        → (latch : Latch) × (slice_get slots place ≡ Some (Some latch)) × (fixed_bit circuit latch ≡ Some bit) × (find (is_fixed circuit) slots ≡ Some (Some latch))
    by None at h = let z : None ≡ Some bit = h in absurd cc
    by (Some None) at h = let z : None ≡ Some bit = h in absurd cc
    by (Some (Some latch)) at h = (latch, at, h, first latch at h)
