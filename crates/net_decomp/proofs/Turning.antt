-- A table is decomposed at its index: the circuit after that, and that the steps at one index end.
use Rattle.std.proofs.Common.{◌≡◌, ℕ, ◌+◌, ◌-◌, ◌*◌, ◌<◌, ◌≤◌, suc, ltb, cond, Bool, true, false, Option, Some, List, [], ◌∷◌, map, length, refl, sym, ap, ◌∙◌, subst, inl, inr, arith}
use Rattle.std.specs.List.{AllByRecursion}
use Rattle.std.proofs.lemmas.Bool.{lt-ltb, le-ltb, cases_lt}
use Rattle.std.proofs.lemmas.List.{length-map, nil_from_length}
use Rattle.std.proofs.lemmas.Option.{same_Some}
use Rattle.sis_base.specs.Rows.{HasWidth}
use Rattle.circuit_model.specs.Soundness.{IsSound}
use Rattle.circuit_model.specs.declared.circuit.Table.{Table}
use Rattle.circuit_model.specs.declared.circuit.Circuit.{Circuit}
use Rattle.circuit_laws.specs.Edits.{with_tables, with_replaced}
use Rattle.circuit_laws.proofs.Sound.{all_append}
use Rattle.circuit_laws.proofs.Mapped.{outputs_different}
use Rattle.circuit_tables.specs.Tidy.{is_tidy}
use Rattle.net_core.specs.Fresh.{node_count}
use Rattle.net_core.specs.Reads.{IsBounded}
use Rattle.net_core.specs.Tables.{places_of}
use Rattle.net_decomp.specs.Partings.{Parting, rows_of, parted_table, ArePartsAdded, IsOverfull}
use Rattle.net_decomp.specs.Rules.{IsDecomposable}
use Rattle.net_decomp.specs.declared.rule.Rule.{Rule}
use Rattle.net_decomp.proofs.Values.{due_keeps}
use Rattle.net_decomp.proofs.Adding.{parts_hold}
use Rattle.net_decomp.proofs.PartedSteps.{parted_output, parted_tidy}
use Rattle.net_decomp.proofs.Bounded.{replaced_nodes, parted_within, with_replaced_all}
use Rattle.net_work.specs.Placed.{Placed, standing, circuit_of, table_at}
use Rattle.net_decomp.specs.Cursor.{ArePut, IsTurned, IsPartedAt, HasRoomFor, row_count, weight}
use Rattle.net_work.proofs.Indexed.{place_within, drives, standing_set}
use Rattle.net_decomp.proofs.Slots.{standing_behind, table_before, table_set, table_other}
use Rattle.net_decomp.proofs.Putting.{put_nodes, put_names}
use Rattle.net_decomp.proofs.Falling.{due_falls}
use Rattle.sis_base.specs.declared.limits.TheConstants.{MAX_NODES}

-- the table at an index stays if parts are added after the last one
pub put_at : (inputs : List (List ℕ)) (parts : List (List (List (Option Bool)))) (names : List (List ℕ)) (place : ℕ) (table : Table) (before now : Placed) → ArePut inputs parts names before now
    → table_at before.slots place ≡ Some table → table_at now.slots place ≡ Some table
put_at inputs parts names place table before now put there =
    ap (λ (slots : List (Option Table)). table_at slots place) put.slots
    ∙ table_before before.slots (map Some put.more) place (place_within before.slots place table there) ∙ there

put_sound : (rule : Rule) (table : Table) (parting : Parting) (place : ℕ) (before now : Placed) → (turned : IsTurned table parting place before now) → IsSound (circuit_of before)
    → table_at before.slots place ≡ Some table → HasWidth (length table.inputs) (rows_of table) → IsDecomposable rule table parting → IsSound (circuit_of turned.between)
put_sound rule table parting place before now turned sound there wide due =
    (parts_hold table parting.parts (circuit_of before) turned.names (circuit_of turned.between) sound (drives before place table sound there)
    (due_keeps rule table parting wide due).parts (turned.put.added table refl)).extended.change.sound

turned_circuit : (rule : Rule) (table : Table) (parting : Parting) (place : ℕ) (before now : Placed) → (turned : IsTurned table parting place before now) → IsSound (circuit_of before)
    → table_at before.slots place ≡ Some table → HasWidth (length table.inputs) (rows_of table) → IsDecomposable rule table parting
    → circuit_of now ≡ with_replaced (circuit_of turned.between) (parted_table table turned.names parting.rows)
unfolding with_replaced
turned_circuit rule table parting place before now turned sound there wide due =
    ap (λ (p : Placed). circuit_of p) turned.set
    ∙ ap (λ (tables : List Table). with_tables turned.between.frame tables)
    (standing_set turned.between.slots place table (parted_table table turned.names parting.rows)
    (outputs_different (circuit_of turned.between) (put_sound rule table parting place before now turned sound there wide due))
    (put_at table.inputs parting.parts turned.names place table before turned.between turned.put there) (parted_output table turned.names parting.rows))

turned_nodes : (rule : Rule) (table : Table) (parting : Parting) (place : ℕ) (before now : Placed) → IsTurned table parting place before now → IsSound (circuit_of before)
    → table_at before.slots place ≡ Some table → HasWidth (length table.inputs) (rows_of table) → IsDecomposable rule table parting
    → node_count (circuit_of now) ≡ node_count (circuit_of before) + length parting.parts
turned_nodes rule table parting place before now turned sound there wide due =
    ap (λ (c : Circuit). node_count c) (turned_circuit rule table parting place before now turned sound there wide due)
    ∙ replaced_nodes (circuit_of turned.between) (parted_table table turned.names parting.rows)
    ∙ put_nodes table.inputs parting.parts turned.names before turned.between turned.put

turned_at : (table : Table) (parting : Parting) (place : ℕ) (before now : Placed) → (turned : IsTurned table parting place before now) → table_at before.slots place ≡ Some table
    → table_at now.slots place ≡ Some (parted_table table turned.names parting.rows)
turned_at table parting place before now turned there =
    ap (λ (p : Placed). table_at p.slots place) turned.set
    ∙ table_set turned.between.slots place table (parted_table table turned.names parting.rows) (put_at table.inputs parting.parts turned.names place table before turned.between turned.put there)

-- without parts the table has one row afterwards
one_row : (rule : Rule) (table : Table) (parting : Parting) (names : List (List ℕ)) → IsDecomposable rule table parting → HasWidth (length table.inputs) (rows_of table) → parting.parts ≡ [] → names ≡ []
    → length (parted_table table names parting.rows).rows ≤ 1
one_row rule table parting names due wide none no_names =
    let one : length parting.rows ≡ 1 = (due_falls rule table parting due none).one in
    let width : length table.inputs + length parting.parts ≡ length table.inputs + length names =
    ap (λ (n : ℕ). length table.inputs + n) (ap length none ∙ sym (ap length no_names)) in
    let few : length (parted_table table names parting.rows).rows ≤ length parting.rows =
    (parted_within table names parting.rows (subst (λ (n : ℕ). HasWidth n parting.rows) width (due_keeps rule table parting wide due).wide) (omega (arith, one))).0 in
    omega (arith, one, few)

-- the number that falls
bit_bound : (b : Bool) → cond {A = ℕ} b 1 0 ≤ 1
bit_bound true = omega arith
bit_bound false = omega arith

falls_by_room : (nodes more : ℕ) (before now : Bool) → 1 ≤ more → nodes + more ≤ MAX_NODES
    → 2 * ((MAX_NODES + 1) - (nodes + more)) + cond {A = ℕ} now 1 0 < 2 * ((MAX_NODES + 1) - nodes) + cond {A = ℕ} before 1 0
falls_by_room nodes more before now some room = omega (arith, some, room, bit_bound now)

pub turned_falls : (rule : Rule) (table : Table) (parting : Parting) (place : ℕ) (before now : Placed) → IsTurned table parting place before now → IsSound (circuit_of before)
    → table_at before.slots place ≡ Some table → HasWidth (length table.inputs) (rows_of table) → IsDecomposable rule table parting
    → HasRoomFor (node_count (circuit_of before)) (length parting.parts) → weight place now < weight place before
unfolding weight
turned_falls rule table parting place before now turned sound there wide due room = cases parting.parts refl (turned.put.added table refl)
  where
    nodes : node_count (circuit_of now) ≡ node_count (circuit_of before) + length parting.parts
    nodes = turned_nodes rule table parting place before now turned sound there wide due

    several : Bool
    several = ltb 1 (row_count (table_at before.slots place))

    left : Bool
    left = ltb 1 (row_count (table_at now.slots place))

    cases : (parts : List (List (List (Option Bool)))) → parting.parts ≡ parts → ArePartsAdded table parts (circuit_of before) turned.names (circuit_of turned.between)
        → 2 * ((MAX_NODES + 1) - node_count (circuit_of now)) + cond {A = ℕ} left 1 0 < 2 * ((MAX_NODES + 1) - node_count (circuit_of before)) + cond {A = ℕ} several 1 0
    cases [] none added =
        let long : 1 < length (rows_of table) = (due_falls rule table parting due none).several in
        let same : length (rows_of table) ≡ length table.rows = length-map table.rows places_of in
        let few : length (parted_table table turned.names parting.rows).rows ≤ 1 = one_row rule table parting turned.names due wide none added.0 in
        let first : several ≡ true = ap (λ (t : Option Table). ltb 1 (row_count t)) there ∙ lt-ltb 1 (length table.rows) (omega (arith, long, same)) in
        let last : left ≡ false = ap (λ (t : Option Table). ltb 1 (row_count t)) (turned_at table parting place before now turned there) ∙ le-ltb 1 (length (parted_table table turned.names parting.rows).rows) few in
        let first_is : ◌≡◌ {A = ℕ} (cond several 1 0) 1 = ap (λ (b : Bool). cond {A = ℕ} b 1 0) first in
        let last_is : ◌≡◌ {A = ℕ} (cond left 1 0) 0 = ap (λ (b : Bool). cond {A = ℕ} b 1 0) last in
        let as_many : node_count (circuit_of now) ≡ node_count (circuit_of before) + 0 = nodes ∙ ap (λ (l : List (List (List (Option Bool)))). node_count (circuit_of before) + length l) none in
        omega (arith, first_is, last_is, as_many)
    cases (part ∷ parts) some added =
        let many : length parting.parts ≡ suc (length parts) = ap length some in
        subst (λ (n : ℕ). 2 * ((MAX_NODES + 1) - n) + cond {A = ℕ} left 1 0 < 2 * ((MAX_NODES + 1) - node_count (circuit_of before)) + cond {A = ℕ} several 1 0) (sym nodes)
        (falls_by_room (node_count (circuit_of before)) (length parting.parts) several left (omega (arith, many)) (room (omega (arith, many))))

-- if there is room for the parts, there are not too many nodes; if there is none, there are
room_not_full : (circuit : Circuit) (parting : Parting) → HasRoomFor (node_count circuit) (length parting.parts) → IsOverfull circuit parting → ⊥
room_not_full circuit parting room (some, over) = some (nil_from_length parting.parts (grind (arith, room, over)))

pub over_full : (circuit : Circuit) (parting : Parting) → (HasRoomFor (node_count circuit) (length parting.parts) → ⊥) → IsOverfull circuit parting
over_full circuit parting over = (
  λ none. let zero : length parting.parts ≡ 0 = ap length none in over (λ some. absurd (omega (arith, zero, some))),
  elim (cases_lt MAX_NODES (node_count circuit + length parting.parts)) as (λ _. MAX_NODES < node_count circuit + length parting.parts) [
    | inl more ↦ more
    | inr fits ↦ absurd (over (λ some. fits))
  ],
)

pub turned_parted : (rule : Rule) (table : Table) (parting : Parting) (place : ℕ) (before now : Placed) → IsTurned table parting place before now → IsSound (circuit_of before)
    → table_at before.slots place ≡ Some table → HasWidth (length table.inputs) (rows_of table) → IsDecomposable rule table parting
    → HasRoomFor (node_count (circuit_of before)) (length parting.parts)
    → IsPartedAt rule place before now × (node_count (circuit_of now) ≡ node_count (circuit_of before) + length parting.parts)
turned_parted rule table parting place before now turned sound there wide due room = (
  record {
    table = table;
    parting = parting;
    there = there;
    due = due;
    parted = record {
      room = room_not_full (circuit_of before) parting room;
      names = turned.names;
      between = circuit_of turned.between;
      added = turned.put.added table refl;
      made = turned_circuit rule table parting place before now turned sound there wide due;
    };
    others = λ at below.
        ap (λ (p : Placed). table_at p.slots at) turned.set
        ∙ table_other turned.between.slots place at (parted_table table turned.names parting.rows) below
        ∙ ap (λ (slots : List (Option Table)). table_at slots at) turned.put.slots
        ∙ table_before before.slots (map Some turned.put.more) at (let within : place < length before.slots = place_within before.slots place table there in omega (arith, within, below));
    tidy = λ left here.
        subst (λ (t : Table). is_tidy t ≡ true) (same_Some (parted_table table turned.names parting.rows) left (sym (turned_at table parting place before now turned there) ∙ here))
        (parted_tidy table turned.names parting.rows
        (subst (λ (n : ℕ). HasWidth (length table.inputs + n) parting.rows) (sym (put_names table.inputs parting.parts turned.names before turned.between turned.put))
        (due_keeps rule table parting wide due).wide));
    bounded = λ all.
        subst (λ (c : Circuit). AllByRecursion IsBounded c.tables) (sym (turned_circuit rule table parting place before now turned sound there wide due))
        (with_replaced_all IsBounded (circuit_of turned.between) (parted_table table turned.names parting.rows)
        (subst (AllByRecursion IsBounded) (sym (ap (λ (slots : List (Option Table)). standing slots) turned.put.slots ∙ standing_behind before.slots turned.put.more))
        (all_append IsBounded (standing before.slots) turned.put.more all turned.put.bounded)) turned.bounded);
    fewer = turned_falls rule table parting place before now turned sound there wide due room;
  },
  turned_nodes rule table parting place before now turned sound there wide due,
)
