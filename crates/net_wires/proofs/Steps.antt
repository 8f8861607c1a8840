-- Each rule of sweep keeps a circuit sound, refines it, and keeps the values of what remains.
use Rattle.std.proofs.Common.{◌≡◌, ℕ, zero, suc, Bool, true, false, not, ◌&&◌, if◌then◌else◌, Option, Some, None, option_map, is_some, List, [], ◌∷◌, map, find, bytes_eq, refl, sym, ap, ◌∙◌, subst, inl, inr, ◌⊎◌}
use Rattle.std.specs.List.{AllByRecursion}
use Rattle.std.specs.Option.{option_map_or}
use Rattle.std.proofs.lemmas.Bool.{false≢true, and_parts, or_parts, not-true, not_from_false}
use Rattle.std.proofs.lemmas.Option.{none-some, same_Some}
use Rattle.circuit_model.specs.Names.{has, all_different}
use Rattle.circuit_model.specs.Values.{driver, driven_value}
use Rattle.circuit_model.specs.Runs.{latch_outputs, may_start}
use Rattle.circuit_model.specs.Soundness.{outputs_of, table_inputs, given, Leads, IsShaped, IsSound}
use Rattle.circuit_model.specs.declared.circuit.Table.{Table}
use Rattle.circuit_model.specs.declared.circuit.Latch.{Latch}
use Rattle.circuit_model.specs.declared.circuit.Circuit.{Circuit}
use Rattle.circuit_laws.specs.Edits.{with_tables, with_replaced, with_kept, with_fixed, constant_table, is_other, with_added}
use Rattle.circuit_laws.specs.Fixed.{IsConstant, IsFixed}
use Rattle.circuit_laws.specs.Valuations.{Obeys}
use Rattle.circuit_laws.proofs.Names.{same_name, name_cases, has_head, has_tail, all_from_has, different_none, different_cons, different_head, different_tail}
use Rattle.circuit_laws.proofs.Drivers.{driver_reads}
use Rattle.circuit_laws.proofs.Ranks.{leads_one}
use Rattle.circuit_laws.proofs.Kept.{kept_refines, has_latches_kept}
use Rattle.circuit_laws.proofs.Sound.{sound_settled, sound_kept}
use Rattle.circuit_laws.proofs.Fixed.{own_fails, fixed_next}
use Rattle.circuit_laws.proofs.FixedSound.{sound_fixed, sound_refines}
use Rattle.circuit_laws.proofs.Left.{kept_left, fixed_left}
use Rattle.circuit_tables.specs.Tidy.{is_tidy, tidied}
use Rattle.circuit_tables.proofs.Tidied.{tidied_value, tidied_output, tidied_reads, tidied_once, tidied_shaped}
use Rattle.net_wires.specs.Points.{constant_bit, written_bit}
use Rattle.net_wires.specs.Needed.{dont_care_reads, is_needed, all_needed, only_needed}
use Rattle.net_wires.specs.Rules.{tidy_table, unwritten_bit, with_constant, write_constant, tables_read, at_bit, with_constant_propagated, propagate_constant, rewired, only_input, is_inverter, with_single_input_collapsed, collapse_single_input, starts_at, fixed_bit, with_latch_fixed, fix_constant_latch, remove_dangling, bit_from_start}
use Rattle.net_wires.specs.Keeping.{IsKept}
use Rattle.net_wires.proofs.Points.{constant_turned, written_constant, only_is, single_value}
use Rattle.net_wires.proofs.Turned.{at_value, at_output, at_reads, at_once, at_shaped, rewired_value, rewired_output, rewired_reads, rewired_once, rewired_shaped}
use Rattle.circuit_laws.proofs.Found.{find_test, find_all, find_none, found_driver}
use Rattle.circuit_laws.proofs.Mapped.{outputs_different, latches_different, live_reads}
use Rattle.net_wires.proofs.Mapped.{replaced_kept, mapped_kept}
use Rattle.net_wires.proofs.Closing.{needed_closed}
use Rattle.net_wires.proofs.Begun.{found_begins}

-- a rule that applies: where it applied, and what came of it
pub applied : {X : Type 0} (turn : X → Circuit) (found : Option X) (new : Circuit) → option_map turn found ≡ Some new → (x : X) × (found ≡ Some x) × (turn x ≡ new)
applied turn None new e = absurd (none-some new e)
applied turn (Some x) new e = (x, refl, same_Some (turn x) new e)

unapplied : {X : Type 0} (turn : X → Circuit) (found : Option X) → option_map turn found ≡ None → found ≡ None
unapplied turn None e = refl
unapplied turn (Some x) e = absurd (none-some (turn x) (sym e))

pub nothing_found : {X : Type 0} (turn : X → Circuit) (p : X → Bool) (xs : List X) → option_map turn (find p xs) ≡ None → AllByRecursion (λ x. p x ≡ false) xs
nothing_found turn p xs e = find_none p xs (unapplied turn (find p xs) e)

pub some_is : {X : Type 0} (o : Option X) → is_some o ≡ true → (x : X) × (o ≡ Some x)
some_is None h = absurd (false≢true h)
some_is (Some x) h = (x, refl)

pub tidy_kept : (circuit new : Circuit) → IsSound circuit → tidy_table circuit ≡ Some new → IsKept circuit new
unfolding tidy_table
tidy_kept circuit new sound h =
    let (table, found, is) = applied (λ table. with_replaced circuit (tidied table)) (find (λ table. not (is_tidy table)) circuit.tables) new h in
    subst (IsKept circuit) is
    (replaced_kept circuit table (tidied table) sound (found_driver (λ table. not (is_tidy table)) circuit.tables table (outputs_different circuit sound) found)
    (tidied_output table) (λ name reads. tidied_reads table name reads) (tidied_once table)
    (tidied_shaped table (find_all (λ table. not (is_tidy table)) IsShaped circuit.tables table sound.shaped found).0) (λ value. tidied_value table value))

constant_once : all_different [] ≡ true
unfolding all_different
constant_once = refl

constant_shaped : (name : List ℕ) (bit : Bool) → IsShaped (constant_table name bit)
constant_shaped name true = ((refl, tt), λ e. refl)
constant_shaped name false = (tt, λ e. refl)

pub unwritten_is : (table : Table) (bit : Bool) → unwritten_bit table ≡ Some bit → constant_bit table ≡ Some bit
unfolding unwritten_bit
unwritten_is table bit h = cases (is_some (written_bit table)) h
  where
    cases : (t : Bool) → (if t then None else constant_bit table) ≡ Some bit → constant_bit table ≡ Some bit
    cases true e = absurd (none-some bit e)
    cases false e = e

pub constant_kept : (circuit new : Circuit) → IsSound circuit → write_constant circuit ≡ Some new → IsKept circuit new
unfolding write_constant
constant_kept circuit new sound h =
    let (table, found, is) = applied (with_constant circuit) (find (λ table. is_some (unwritten_bit table)) circuit.tables) new h in
    let (bit, at) = some_is (unwritten_bit table) (find_test (λ table. is_some (unwritten_bit table)) circuit.tables table found) in
    let made : with_replaced circuit (constant_table table.output bit) ≡ with_constant circuit table =
    ap (λ (o : Option Bool). option_map_or (λ (b : Bool). with_replaced circuit (constant_table table.output b)) o circuit) (sym at) in
    subst (IsKept circuit) (made ∙ is)
    (replaced_kept circuit table (constant_table table.output bit) sound (found_driver (λ table. is_some (unwritten_bit table)) circuit.tables table (outputs_different circuit sound) found)
    refl (λ name reads. absurd (false≢true reads)) constant_once (constant_shaped table.output bit) (constant_turned table bit (unwritten_is table bit at)))

-- a signal of a table has the table's value
obeyed_value : (circuit : Circuit) (value : List ℕ → Bool) → Obeys circuit.tables value → (table : Table) → driver circuit.tables table.output ≡ Some table → value table.output ≡ driven_value (Some table) value
obeyed_value circuit value obeys table at = obeys table.output table at

pub propagate_kept : (circuit new : Circuit) → IsSound circuit → propagate_constant circuit ≡ Some new → IsKept circuit new
unfolding propagate_constant
propagate_kept circuit new sound h =
    let (table, found, is) = applied (with_constant_propagated circuit) (find (λ (t : Table). is_some (written_bit t) && tables_read circuit t.output) circuit.tables) new h in
    let test = and_parts (is_some (written_bit table)) (tables_read circuit table.output) (find_test (λ (t : Table). is_some (written_bit t) && tables_read circuit t.output) circuit.tables table found) in
    let (bit, at) = some_is (written_bit table) test.0 in
    let drives : driver circuit.tables table.output ≡ Some table = found_driver (λ (t : Table). is_some (written_bit t) && tables_read circuit t.output) circuit.tables table (outputs_different circuit sound) found in
    let made : with_tables circuit (map (at_bit table.output bit) circuit.tables) ≡ with_constant_propagated circuit table =
    ap (λ (o : Option Bool). option_map_or (λ (b : Bool). with_tables circuit (map (at_bit table.output b) circuit.tables)) o circuit) (sym at) in
    subst (IsKept circuit) (made ∙ is)
    (mapped_kept circuit (at_bit table.output bit) sound
    (record {
      keeps = λ t. at_output table.output bit t;
      once = λ t. at_once table.output bit t;
      shaped = λ t. at_shaped table.output bit t;
      reads = λ t name reads. inl (at_reads table.output bit t name reads);
    })
    (λ signal t input drawn reads. (0, leads_one circuit.tables signal input t drawn (at_reads table.output bit t input reads)))
    (λ value obeys t. at_value table.output bit t value (obeyed_value circuit value obeys table drives ∙ written_constant table bit at value)))

leads_two : (circuit : Circuit) (signal from to : List ℕ) (reader table : Table) → driver circuit.tables signal ≡ Some reader → has reader.inputs from ≡ true
    → driver circuit.tables from ≡ Some table → has table.inputs to ≡ true → Leads circuit.tables 2 signal to
unfolding Leads
leads_two circuit signal from to reader table at reads drives within = (reader, at, from, reads, (table, drives, to, within, refl))

-- a table of one input that is no constant, and that tables read
pub collapse_kept : (circuit new : Circuit) → IsSound circuit
    → AllByRecursion (λ (table : Table). tables_read circuit table.output ≡ true → constant_bit table ≡ None) circuit.tables
    → collapse_single_input circuit ≡ Some new → IsKept circuit new
unfolding collapse_single_input
collapse_kept circuit new sound vary h =
    let (table, found, is) = applied (with_single_input_collapsed circuit) (find (λ (t : Table). is_some (only_input t.inputs) && tables_read circuit t.output) circuit.tables) new h in
    let test = and_parts (is_some (only_input table.inputs)) (tables_read circuit table.output) (find_test (λ (t : Table). is_some (only_input t.inputs) && tables_read circuit t.output) circuit.tables table found) in
    let (input, at) = some_is (only_input table.inputs) test.0 in
    let one : table.inputs ≡ input ∷ [] = only_is table.inputs input at in
    let within : has table.inputs input ≡ true = subst (λ (names : List (List ℕ)). has names input ≡ true) (sym one) (has_head input []) in
    let drives : driver circuit.tables table.output ≡ Some table = found_driver (λ (t : Table). is_some (only_input t.inputs) && tables_read circuit t.output) circuit.tables table (outputs_different circuit sound) found in
    let none : constant_bit table ≡ None =
    find_all (λ (t : Table). is_some (only_input t.inputs) && tables_read circuit t.output) (λ (t : Table). tables_read circuit t.output ≡ true → constant_bit t ≡ None) circuit.tables table vary found test.1 in
    let made : with_tables circuit (map (rewired table.output input (is_inverter table)) circuit.tables) ≡ with_single_input_collapsed circuit table =
    ap (λ (o : Option (List ℕ)). option_map_or (λ (name : List ℕ). with_tables circuit (map (rewired table.output name (is_inverter table)) circuit.tables)) o circuit) (sym at) in
    subst (IsKept circuit) (made ∙ is)
    (mapped_kept circuit (rewired table.output input (is_inverter table)) sound
    (record {
      keeps = λ t. rewired_output table.output input (is_inverter table) t;
      once = λ t. rewired_once table.output input (is_inverter table) t;
      shaped = λ t. rewired_shaped table.output input (is_inverter table) t;
      reads = λ t name reads.
          elim (rewired_reads table.output input (is_inverter table) t name reads) as (λ _. (has t.inputs name ≡ true) ⊎ (has (given circuit) name ≡ true)) [
            | inl old ↦ inl old
            | inr to ↦ inr (subst (λ (x : List ℕ). has (given circuit) x ≡ true) (sym to.0) (live_reads circuit sound input (driver_reads circuit.tables table.output table input drives within)))
          ];
    })
    (λ signal t name drawn reads.
    elim (rewired_reads table.output input (is_inverter table) t name reads) as (λ _. (steps : ℕ) × Leads circuit.tables (suc steps) signal name) [
      | inl old ↦ (0, leads_one circuit.tables signal name t drawn old)
      | inr to ↦ (1, subst (Leads circuit.tables 2 signal) (sym to.0) (leads_two circuit signal table.output input t table drawn to.1 drives within))
    ])
    (λ value obeys t. rewired_value table.output input (is_inverter table) t value
    (obeyed_value circuit value obeys table drives ∙ single_value table input one none value)))

pub found_latch : (p : Latch → Bool) (latches : List Latch) (latch : Latch) → find p latches ≡ Some latch → has (map (λ (l : Latch). l.output) latches) latch.output ≡ true
found_latch p [] latch e = absurd (none-some latch e)
found_latch p (one ∷ others) latch e = by (p one) e (found_latch p others latch)
  where
    by : (t : Bool) → (if t then Some one else find p others) ≡ Some latch → (find p others ≡ Some latch → has (map (λ (l : Latch). l.output) others) latch.output ≡ true)
        → has (one.output ∷ map (λ (l : Latch). l.output) others) latch.output ≡ true
    by true k rest = subst (λ (l : Latch). has (one.output ∷ map (λ (m : Latch). m.output) others) l.output ≡ true) (same_Some one latch k) (has_head one.output (map (λ (l : Latch). l.output) others))
    by false k rest = has_tail one.output (map (λ (l : Latch). l.output) others) latch.output (rest k)

-- where no latch has a name, those of that name have whatever is asked
no_latch : (P : Latch → Type 0) (name : List ℕ) (latches : List Latch) → has (map (λ (l : Latch). l.output) latches) name ≡ false → AllByRecursion (λ (l : Latch). bytes_eq name l.output ≡ true → P l) latches
no_latch P name [] none = tt
no_latch P name (first ∷ latches) none =
    let parts = or_parts (bytes_eq name first.output) (has (map (λ (l : Latch). l.output) latches) name) none in
    (λ same. absurd (false≢true (sym parts.0 ∙ same)), no_latch P name latches parts.1)

-- a latch that is found is the only one of its name
only_latch : (P : Latch → Type 0) (p : Latch → Bool) (latches : List Latch) (latch : Latch) → all_different (map (λ (l : Latch). l.output) latches) ≡ true → find p latches ≡ Some latch → P latch
    → AllByRecursion (λ (l : Latch). bytes_eq latch.output l.output ≡ true → P l) latches
only_latch P p [] latch different e holds = tt
only_latch P p (first ∷ latches) latch different e holds = cases (p first) e (only_latch P p latches latch (different_tail first.output (map (λ (l : Latch). l.output) latches) different))
  where
    cases : (t : Bool) → (if t then Some first else find p latches) ≡ Some latch
        → (find p latches ≡ Some latch → P latch → AllByRecursion (λ (l : Latch). bytes_eq latch.output l.output ≡ true → P l) latches)
        → AllByRecursion (λ (l : Latch). bytes_eq latch.output l.output ≡ true → P l) (first ∷ latches)
    cases true k rest = (
      λ same. subst P (sym (same_Some first latch k)) holds,
      no_latch P latch.output latches (subst (λ (l : Latch). has (map (λ (m : Latch). m.output) latches) l.output ≡ false) (same_Some first latch k) (different_head first.output (map (λ (l : Latch). l.output) latches) different)),
    )
    cases false k rest = (
      λ same. absurd (false≢true (sym (different_head first.output (map (λ (l : Latch). l.output) latches) different)
          ∙ subst (λ (name : List ℕ). has (map (λ (l : Latch). l.output) latches) name ≡ true) (same_name latch.output first.output same) (found_latch p latches latch k))),
      rest k holds,
    )

starts : (init : ℕ) (bit : Bool) → starts_at init bit ≡ true → may_start init bit
starts zero true h = absurd (false≢true h)
starts zero false h = refl
starts (suc zero) true h = refl
starts (suc zero) false h = absurd (false≢true h)
starts (suc (suc n)) bit h = tt

-- the latch is one that always has the bit
pub record HasOneBit (circuit : Circuit) (latch : Latch) (bit : Bool) : Type 0 where
  pub begins : starts_at latch.init bit ≡ true
  pub stays : (table : Table) × (driver circuit.tables latch.input ≡ Some table) × IsConstant table bit
  pub unread : dont_care_reads circuit latch.output ≡ false

pub one_bit : (circuit : Circuit) (latch : Latch) (bit : Bool) → fixed_bit circuit latch ≡ Some bit → HasOneBit circuit latch bit
unfolding fixed_bit
one_bit circuit latch bit h = by (driver circuit.tables latch.input) refl h
  where
    test : (table : Table) → driver circuit.tables latch.input ≡ Some table → (written : Bool) → written_bit table ≡ Some written → (t : Bool) → (starts_at latch.init written && not (dont_care_reads circuit latch.output)) ≡ t
        → (if t then Some written else None) ≡ Some bit → HasOneBit circuit latch bit
    test table drives written at false d k = absurd (none-some bit k)
    test table drives written at true d k =
        let p = and_parts (starts_at latch.init written) (not (dont_care_reads circuit latch.output)) d in
        let same : written ≡ bit = same_Some written bit k in record {
          begins = subst (λ (b : Bool). starts_at latch.init b ≡ true) same p.0;
          stays = (table, drives, written_constant table bit (at ∙ k));
          unread = not-true (dont_care_reads circuit latch.output) p.1;
        }

    written : (table : Table) → driver circuit.tables latch.input ≡ Some table → (o : Option Bool) → written_bit table ≡ o → option_map_or (bit_from_start circuit latch) o None ≡ Some bit → HasOneBit circuit latch bit
    written table drives None at k = absurd (none-some bit k)
    written table drives (Some w) at k = test table drives w at (starts_at latch.init w && not (dont_care_reads circuit latch.output)) refl k

    by : (found : Option Table) → driver circuit.tables latch.input ≡ found → option_map_or (bit_from_start circuit latch) (option_map_or written_bit found None) None ≡ Some bit → HasOneBit circuit latch bit
    by None drives k = absurd (none-some bit k)
    by (Some table) drives k = written table drives (written_bit table) refl k

pub latch_fixed : (circuit : Circuit) (p : Latch → Bool) (latch : Latch) (bit : Bool) → IsSound circuit → find p circuit.latches ≡ Some latch → HasOneBit circuit latch bit → IsFixed circuit latch.output bit
unfolding dont_care_reads
latch_fixed circuit p latch bit sound found one = record {
  latch = found_latch p circuit.latches latch found;
  starts = only_latch (λ (l : Latch). may_start l.init bit) p circuit.latches latch (latches_different circuit sound) found (starts latch.init bit one.begins);
  stays = only_latch (λ (l : Latch). (table : Table) × (driver circuit.tables l.input ≡ Some table) × IsConstant table bit) p circuit.latches latch (latches_different circuit sound) found one.stays;
  unread = all_from_has (λ other. (has (outputs_of circuit.dont_care) other ≡ true) ⊎ (is_other latch.output other ≡ true)) (table_inputs circuit.dont_care) (λ other reads.
      elim (name_cases latch.output other) as (λ _. (has (outputs_of circuit.dont_care) other ≡ true) ⊎ (is_other latch.output other ≡ true)) [
        | inl same ↦ inl (subst (λ (name : List ℕ). has (outputs_of circuit.dont_care) name ≡ true) same
            (own (has (outputs_of circuit.dont_care) latch.output) (has (table_inputs circuit.dont_care) latch.output) (subst (λ (name : List ℕ). has (table_inputs circuit.dont_care) name ≡ true) (sym same) reads) one.unread))
        | inr apart ↦ inr (not_from_false (bytes_eq latch.output other) apart)
      ]);
}
  where
    own : (a b : Bool) → b ≡ true → (not a && b) ≡ false → a ≡ true
    own true b e h = refl
    own false b e h = absurd (false≢true (sym h ∙ e))

fixed_gone : (circuit : Circuit) (name : List ℕ) (bit : Bool) → has (latch_outputs (with_fixed circuit name bit)) name ≡ false
unfolding with_fixed with_added with_kept
fixed_gone circuit name bit = has_latches_kept (is_other name) circuit.latches name ∙ ap (λ (b : Bool). b && has (latch_outputs circuit) name) (own_fails name)

pub latch_kept : (circuit new : Circuit) → IsSound circuit → fix_constant_latch circuit ≡ Some new → IsKept circuit new
unfolding fix_constant_latch
latch_kept circuit new sound h =
    let (latch, found, is) = applied (with_latch_fixed circuit) (find (λ (l : Latch). is_some (fixed_bit circuit l)) circuit.latches) new h in
    let (bit, at) = some_is (fixed_bit circuit latch) (find_test (λ (l : Latch). is_some (fixed_bit circuit l)) circuit.latches latch found) in
    let one : HasOneBit circuit latch bit = one_bit circuit latch bit at in
    let fixed : IsFixed circuit latch.output bit = latch_fixed circuit (λ (l : Latch). is_some (fixed_bit circuit l)) latch bit sound found one in
    let made : with_fixed circuit latch.output bit ≡ with_latch_fixed circuit latch =
    ap (λ (o : Option Bool). option_map_or (λ (b : Bool). with_fixed circuit latch.output b) o circuit) (sym at) in
    subst (IsKept circuit) (made ∙ is) (record {
      sound = sound_fixed circuit latch.output bit sound fixed;
      refines = sound_refines circuit latch.output bit sound fixed;
      held = (latch.output, bit) ∷ [];
      different = different_cons latch.output [] refl different_none;
      begun = (found_begins circuit (λ (l : Latch). is_some (fixed_bit circuit l)) latch bit found one.begins, tt);
      stays = λ state row a has_bits. (fixed_next circuit latch.output bit (sound_settled circuit sound) fixed state row, tt);
      gone = (fixed_gone circuit latch.output bit, tt);
      left = fixed_left circuit latch.output bit sound fixed;
    })

pub dangling_kept : (circuit new : Circuit) → IsSound circuit → remove_dangling circuit ≡ Some new → IsKept circuit new
unfolding remove_dangling only_needed
dangling_kept circuit new sound h = cases (all_needed circuit) h
  where
    cases : (t : Bool) → (if t then None else Some (with_kept circuit (is_needed circuit))) ≡ Some new → IsKept circuit new
    cases true e = absurd (none-some new e)
    cases false e =
        subst (IsKept circuit) (same_Some (with_kept circuit (is_needed circuit)) new e) (record {
          sound = sound_kept circuit (is_needed circuit) sound (needed_closed circuit);
          refines = kept_refines circuit (is_needed circuit) sound.acyclic (needed_closed circuit);
          held = [];
          different = different_none;
          begun = tt;
          stays = λ state row a has_bits. tt;
          gone = tt;
          left = kept_left circuit (is_needed circuit) sound.acyclic (needed_closed circuit);
        })
