-- The sizes of tables after a step, and after steps that follow one another: parts have no more
-- rows and inputs than the table; the rewritten table has at most one input more for each part, and
-- rows as `Counts` says. A step adds a node for each part, and if it adds some there is room for
-- all.
use Rattle.std.proofs.Common.{◌≡◌, ◌≢◌, ℕ, ◌+◌, ◌<◌, ◌≤◌, ◌^◌, Bool, true, false, cond, Option, List, [], ◌∷◌, ◌++◌, map, length, bytes_eq, refl, sym, ap, ◌∙◌, subst, arith, inl, inr, ◌⊎◌}
use Rattle.std.specs.List.{AllByRecursion}
use Rattle.std.proofs.lemmas.Bool.{cases_lt}
use Rattle.std.proofs.lemmas.List.{length-append, length-map}
use Rattle.sis_base.specs.Rows.{HasWidth}
use Rattle.circuit_model.specs.Soundness.{IsShaped, IsSound}
use Rattle.circuit_model.specs.declared.circuit.Table.{Table}
use Rattle.circuit_model.specs.declared.circuit.Circuit.{Circuit}
use Rattle.circuit_laws.specs.Edits.{replaced, with_tables, with_replaced, with_added}
use Rattle.circuit_laws.proofs.Drivers.{driver_all, outputs-replaced}
use Rattle.circuit_laws.proofs.Kept.{all_weaker}
use Rattle.circuit_laws.proofs.Sound.{all_append}
use Rattle.circuit_laws.proofs.Greedy.{reached_kept}
use Rattle.net_core.specs.Fresh.{node_count}
use Rattle.net_core.specs.Reads.{IsBounded, HasBounds}
use Rattle.net_core.specs.Tables.{characters_of, places_of}
use Rattle.circuit_tables.specs.Folding.{folded}
use Rattle.circuit_tables.proofs.Folded.{folded_shaped, folded_input_count, folded_row_count}
use Rattle.circuit_tables.specs.Tidy.{used_places, rows_once, chosen, narrowed, with_rows_once, tidied}
use Rattle.circuit_tables.proofs.Tidied.{chosen_small, once_small, phase_kept, shaped_some}
use Rattle.net_decomp.specs.Partings.{rows_of, part_table, parted_table, ArePartsAdded}
use Rattle.net_decomp.specs.Decomposed.{IsStep, IsReached}
use Rattle.net_decomp.specs.declared.rule.Rule.{Rule}
use Rattle.net_decomp.proofs.Values.{KeepsRows}
use Rattle.net_decomp.proofs.Adding.{characters_wide, HoldsParts, parts_hold, found_many}
use Rattle.net_decomp.proofs.PartedSteps.{over_names, parted_wide, next_at, next_keeps, step_extended, reached_extended}
use Rattle.net_decomp.proofs.Counts.{HasCounts, sums_of, due_counts}
use Rattle.sis_base.specs.declared.limits.TheConstants.{MAX_NODES}

-- a table has at most so many rows and inputs
abbrev pub IsWithin : ℕ → ℕ → Table → Type 0
IsWithin rows inputs table = (length table.rows ≤ rows) × (length table.inputs ≤ inputs)

pub narrowed_within : (table : Table) → IsWithin (length table.rows) (length table.inputs) (narrowed (with_rows_once table))
unfolding narrowed
narrowed_within table =
    let same : length (map (chosen (used_places table.inputs (rows_once table.rows))) (rows_once table.rows)) ≡ length (rows_once table.rows) =
    length-map (rows_once table.rows) (chosen (used_places table.inputs (rows_once table.rows))) in
    (omega (arith, same, once_small table.rows), chosen_small (used_places table.inputs (rows_once table.rows)) table.inputs)

pub tidied_within : (table : Table) → IsShaped table → IsWithin (length table.rows) (length table.inputs) (tidied table)
unfolding tidied
tidied_within table shaped =
    let small = narrowed_within (folded table) in
    subst (λ (made : Table). IsWithin (length table.rows) (length table.inputs) (narrowed (with_rows_once made)))
    (sym (phase_kept (folded table) (shaped_some (folded table).rows (folded table).phase (folded_shaped table shaped).1)))
    (omega (arith, small.0, folded_row_count table shaped), omega (arith, small.1, folded_input_count table))

-- the tables of parts, and the rewritten one
pub part_within : (table : Table) (part : List (List (Option Bool))) (name : List ℕ) → HasWidth (length table.inputs) part → IsWithin (length part) (length table.inputs) (part_table table part name)
unfolding part_table
part_within table part name wide =
    let small = tidied_within (record { inputs = table.inputs; output = name; rows = map characters_of part; phase = true }) (characters_wide (length table.inputs) part wide, λ none. refl) in
    let same : length (map characters_of part) ≡ length part = length-map part characters_of in
    (omega (arith, small.0, same), small.1)

pub parted_within : (table : Table) (names : List (List ℕ)) (rows : List (List (Option Bool))) → HasWidth (length table.inputs + length names) rows → 1 ≤ length rows
    → IsWithin (length rows) (length table.inputs + length names) (parted_table table names rows)
unfolding parted_table
parted_within table names rows wide some =
    let small = tidied_within (over_names table names rows) (parted_wide table names rows wide, λ none. absurd (nothing none)) in
    let same : length (map characters_of rows) ≡ length rows = length-map rows characters_of in
    let all : length (table.inputs ++ names) ≡ length table.inputs + length names = length-append table.inputs names in
    (omega (arith, small.0, same), omega (arith, small.1, all))
  where
    nothing : map characters_of rows ≡ [] → ⊥
    nothing none =
        let same : length (map characters_of rows) ≡ length rows = length-map rows characters_of in
        let zero : length (map characters_of rows) ≡ 0 = ap length none in
        omega (arith, same, zero, some)

-- what holds of all tables, after tables are added or one is replaced by another one
pub replaced_all : (P : Table → Type 0) (tables : List Table) (new : Table) → AllByRecursion P tables → P new → AllByRecursion P (replaced tables new)
unfolding replaced
replaced_all P [] new all this = tt
replaced_all P (first ∷ tables) new all this = cases (bytes_eq new.output first.output) (replaced_all P tables new all.1 this)
  where
    cases : (t : Bool) → AllByRecursion P (replaced tables new) → AllByRecursion P (cond t (new ∷ tables) (first ∷ replaced tables new))
    cases true rest = (this, all.1)
    cases false rest = (all.0, rest)

pub with_replaced_all : (P : Table → Type 0) (circuit : Circuit) (new : Table) → AllByRecursion P circuit.tables → P new → AllByRecursion P (with_replaced circuit new).tables
unfolding with_replaced
with_replaced_all P circuit new all this = replaced_all P circuit.tables new all this

pub with_added_all : (P : Table → Type 0) (circuit : Circuit) (new : Table) → AllByRecursion P circuit.tables → P new → AllByRecursion P (with_added circuit new).tables
unfolding with_added
with_added_all P circuit new all this = all_append P circuit.tables (new ∷ []) all (this, tt)

pub parts_all : (P : Table → Type 0) (table : Table) (parts : List (List (List (Option Bool)))) (circuit : Circuit) (names : List (List ℕ)) (new : Circuit)
    → ArePartsAdded table parts circuit names new → AllByRecursion (λ part. (name : List ℕ) → P (part_table table part name)) parts
    → AllByRecursion P circuit.tables → AllByRecursion P new.tables
parts_all P table [] circuit names new added each all = subst (λ (c : Circuit). AllByRecursion P c.tables) (sym added.1) all
parts_all P table (part ∷ parts) circuit [] new added each all = absurd added
parts_all P table (part ∷ parts) circuit (name ∷ names) new added each all =
    parts_all P table parts (with_added circuit (part_table table part name)) names new added.1 each.1 (with_added_all P circuit (part_table table part name) all (each.0 name))

-- how many nodes there are
pub added_nodes : (circuit : Circuit) (new : Table) → node_count (with_added circuit new) ≡ node_count circuit + 1
unfolding with_added
added_nodes circuit new = let all : length (circuit.tables ++ new ∷ []) ≡ length circuit.tables + 1 = length-append circuit.tables (new ∷ []) in omega (arith, all)

pub replaced_nodes : (circuit : Circuit) (new : Table) → node_count (with_replaced circuit new) ≡ node_count circuit
unfolding with_replaced
replaced_nodes circuit new =
    ap (λ (n : ℕ). n + length circuit.latches + length circuit.dont_care)
    (sym (length-map (replaced circuit.tables new) (λ (table : Table). table.output))
    ∙ (ap length (outputs-replaced circuit.tables new) ∙ length-map circuit.tables (λ (table : Table). table.output)))

pub parts_nodes : (table : Table) (parts : List (List (List (Option Bool)))) (circuit : Circuit) (names : List (List ℕ)) (new : Circuit)
    → ArePartsAdded table parts circuit names new → node_count new ≡ node_count circuit + length parts
parts_nodes table [] circuit names new added = let same : node_count new ≡ node_count circuit = ap (λ (c : Circuit). node_count c) added.1 in omega (arith, same)
parts_nodes table (part ∷ parts) circuit [] new added = absurd added
parts_nodes table (part ∷ parts) circuit (name ∷ names) new added =
    let one : node_count (with_added circuit (part_table table part name)) ≡ node_count circuit + 1 = added_nodes circuit (part_table table part name) in
    let rest : node_count new ≡ node_count (with_added circuit (part_table table part name)) + length parts =
    parts_nodes table parts (with_added circuit (part_table table part name)) names new added.1 in
    omega (arith, one, rest)

-- a step adds a node for each part
pub step_nodes : (rule : Rule) (circuit new : Circuit) (step : IsStep rule circuit new) → node_count new ≡ node_count circuit + length step.parting.parts
step_nodes rule circuit new step =
    ap (λ (c : Circuit). node_count c) step.parted.made
    ∙ (replaced_nodes step.parted.between (parted_table step.table step.parted.names step.parting.rows)
    ∙ parts_nodes step.table step.parting.parts circuit step.parted.names step.parted.between step.parted.added)

-- no node was added, or there is room for all
abbrev pub HadRoom : Circuit → Circuit → Type 0
HadRoom old new = (node_count new ≡ node_count old) ⊎ (node_count new ≤ MAX_NODES)

pub room_through : (first second third : Circuit) → HadRoom first second → HadRoom second third → HadRoom first third
room_through first second third (inl one) (inl two) = inl (two ∙ one)
room_through first second third (inr room) (inl two) = inr (omega (arith, room, two))
room_through first second third one (inr room) = inr room

-- what is not too much if there is something
pub none_or_room : {X : Type 0} (list : List X) (count most : ℕ) → ((list ≢ []) × (most < count + length list) → ⊥) → (length list ≡ 0) ⊎ (count + length list ≤ most)
none_or_room [] count most room = inl refl
none_or_room (first ∷ list) count most room =
    elim (cases_lt most (count + length (first ∷ list))) as (λ _. (length (first ∷ list) ≡ 0) ⊎ (count + length (first ∷ list) ≤ most)) [
      | inl over ↦ absurd (room ((λ none. let zero : length (first ∷ list) ≡ 0 = ap length none in omega (arith, zero)), over))
      | inr within ↦ inr within
    ]

pub step_room : (rule : Rule) (circuit new : Circuit) → IsStep rule circuit new → HadRoom circuit new
step_room rule circuit new step =
    let same : node_count new ≡ node_count circuit + length step.parting.parts = step_nodes rule circuit new step in
    elim (none_or_room step.parting.parts (node_count circuit) MAX_NODES step.parted.room) as (λ _. HadRoom circuit new) [
      | inl none ↦ inl (omega (arith, same, none))
      | inr room ↦ inr (omega (arith, same, room))
    ]

-- parts of tables that are within bounds are within them
pub parts_within : (rows inputs : ℕ) (table : Table) (parts : List (List (List (Option Bool)))) → length table.inputs ≤ inputs → AllByRecursion (HasWidth (length table.inputs)) parts
    → AllByRecursion (λ (part : List (List (Option Bool))). length part ≤ rows) parts → AllByRecursion (λ part. (name : List ℕ) → IsWithin rows inputs (part_table table part name)) parts
parts_within rows inputs table [] most wide few = tt
parts_within rows inputs table (part ∷ parts) most wide few = (
  λ name. let small = part_within table part name wide.0 in (omega (arith, small.0, few.0), omega (arith, small.1, most)),
  parts_within rows inputs table parts most wide.1 few.1,
)

-- a step by a rule that makes sums of a row or more: no table has more rows than there were before,
-- and at most one input more for each node more
pub step_within : (rule : Rule) (circuit new : Circuit) (rows inputs : ℕ) → IsSound circuit → (step : IsStep rule circuit new) → 1 ≤ sums_of rule
    → AllByRecursion (IsWithin rows inputs) circuit.tables → AllByRecursion (IsWithin rows (inputs + length step.parting.parts)) new.tables
step_within rule circuit new rows inputs sound step one all =
    subst (λ (c : Circuit). AllByRecursion (IsWithin rows (inputs + length step.parting.parts)) c.tables) (sym step.parted.made)
    (with_replaced_all (IsWithin rows (inputs + length step.parting.parts)) step.parted.between (parted_table step.table step.parted.names step.parting.rows)
    (parts_all (IsWithin rows (inputs + length step.parting.parts)) step.table step.parting.parts circuit step.parted.names step.parted.between step.parted.added
    (parts_within rows (inputs + length step.parting.parts) step.table step.parting.parts (omega (arith, own.1)) keeps.parts
    (all_weaker (λ (part : List (List (Option Bool))). length part ≤ length (rows_of step.table)) (λ (part : List (List (Option Bool))). length part ≤ rows)
    (λ part few. omega (arith, few, same, own.0)) step.parting.parts counts.parts))
    (all_weaker (IsWithin rows inputs) (IsWithin rows (inputs + length step.parting.parts)) (λ table within. (within.0, omega (arith, within.1))) circuit.tables all))
    (let small = parted_within step.table step.parted.names step.parting.rows
    (subst (λ (n : ℕ). HasWidth (length step.table.inputs + n) step.parting.rows) (sym many) keeps.wide) counts.some in
    (omega (arith, small.0, counts.fewer one, same, own.0), omega (arith, small.1, own.1, many))))
  where
    own : IsWithin rows inputs step.table
    own = driver_all (IsWithin rows inputs) circuit.tables all step.table.output step.table (next_at rule circuit step.table step.parting sound step.next)

    keeps : KeepsRows (length step.table.inputs) (rows_of step.table) step.parting
    keeps = next_keeps rule circuit step.table step.parting sound step.next

    counts : HasCounts (sums_of rule) (length (rows_of step.table)) step.parting
    counts = due_counts rule step.table step.parting step.next.fails

    same : length (rows_of step.table) ≡ length step.table.rows
    same = length-map step.table.rows places_of

    held : HoldsParts step.table step.parting.parts step.parted.names circuit step.parted.between
    held = parts_hold step.table step.parting.parts circuit step.parted.names step.parted.between sound (next_at rule circuit step.table step.parting sound step.next) keeps.parts step.parted.added

    many : length step.parted.names ≡ length step.parting.parts
    many = found_many step.parted.between.tables step.table step.parting.parts step.parted.names held.found

-- a sound circuit of at least as many nodes as at the start, whose tables have at most so many
-- rows, and at most one input more for each node more
pub record IsWithinNodes (start rows inputs : ℕ) (circuit : Circuit) : Type 0 where
  pub sound : IsSound circuit
  pub added : ℕ
  pub nodes : node_count circuit ≡ start + added
  pub tables : AllByRecursion (IsWithin rows (inputs + added)) circuit.tables

pub step_within_nodes : (rule : Rule) (start rows inputs : ℕ) → 1 ≤ sums_of rule → (circuit new : Circuit) → IsWithinNodes start rows inputs circuit → IsStep rule circuit new
    → IsWithinNodes start rows inputs new × HadRoom circuit new
step_within_nodes rule start rows inputs one circuit new within step =
    let nodes : node_count new ≡ node_count circuit + length step.parting.parts = step_nodes rule circuit new step in (
      record {
        sound = (step_extended rule circuit new within.sound step).change.sound;
        added = within.added + length step.parting.parts;
        nodes = omega (arith, nodes, within.nodes);
        tables = all_weaker (IsWithin rows (inputs + within.added + length step.parting.parts)) (IsWithin rows (inputs + (within.added + length step.parting.parts)))
            (λ table small. (small.0, omega (arith, small.1))) new.tables
            (step_within rule circuit new rows (inputs + within.added) within.sound step one within.tables);
      },
      step_room rule circuit new step,
    )

pub reached_within_nodes : (rule : Rule) (start rows inputs : ℕ) → 1 ≤ sums_of rule → (circuit new : Circuit) → IsWithinNodes start rows inputs circuit → IsReached rule circuit new
    → IsWithinNodes start rows inputs new × HadRoom circuit new
reached_within_nodes rule start rows inputs one circuit new within reached =
    reached_kept (IsWithinNodes start rows inputs) HadRoom (IsStep rule) (λ same good. inl refl) room_through (step_within_nodes rule start rows inputs one)
    circuit new within reached

-- if only tables change, and there was room for each node more, the bounds are kept
pub room_bounds : (inputs : ℕ) (circuit new : Circuit) → inputs + MAX_NODES < 2 ^ 30 → HasBounds circuit → new ≡ with_tables circuit new.tables
    → IsWithinNodes (node_count circuit) 8589934591 inputs new → HadRoom circuit new → HasBounds new
room_bounds inputs circuit new narrow bounds rest within had = cases had
  where
    latches : length new.latches ≡ length circuit.latches
    latches = ap (λ (c : Circuit). length c.latches) rest

    others : length new.dont_care ≡ length circuit.dont_care
    others = ap (λ (c : Circuit). length c.dont_care) rest

    tables : within.added ≤ MAX_NODES → AllByRecursion IsBounded new.tables
    tables few =
        all_weaker (IsWithin 8589934591 (inputs + within.added)) IsBounded
        (λ table small. record { rows = omega (arith, small.0); inputs = omega (arith, small.1, few, narrow) }) new.tables within.tables

    cases : HadRoom circuit new → HasBounds new
    cases (inl same) = record { nodes = omega (arith, same, latches, others, bounds.nodes); tables = tables (omega (arith, same, within.nodes)) }
    cases (inr room) = record { nodes = omega (arith, room); tables = tables (omega (arith, room, within.nodes)) }

-- a network keeps its bounds if the inputs of each table are `MAX_NODES` below them, and the rule
-- makes sums of a row or more
pub reached_bounds : (rule : Rule) (inputs : ℕ) (circuit new : Circuit) → 1 ≤ sums_of rule → inputs + MAX_NODES < 2 ^ 30 → IsSound circuit → HasBounds circuit
    → AllByRecursion (λ (table : Table). length table.inputs ≤ inputs) circuit.tables → IsReached rule circuit new → HasBounds new
reached_bounds rule inputs circuit new one narrow sound bounds all reached =
    let made = reached_within_nodes rule (node_count circuit) 8589934591 inputs one circuit new (record {
      sound = sound;
      added = 0;
      nodes = omega arith;
      tables = all_pair (λ (table : Table). length table.inputs ≤ inputs) IsBounded (IsWithin 8589934591 (inputs + 0))
          (λ table few bounded. (omega (arith, bounded.rows), omega (arith, few))) circuit.tables all bounds.tables;
    }) reached in
    room_bounds inputs circuit new narrow bounds (reached_extended rule circuit new sound reached).change.rest made.0 made.1
  where
    all_pair : (P Q S : Table → Type 0) → ((table : Table) → P table → Q table → S table) → (tables : List Table) → AllByRecursion P tables → AllByRecursion Q tables → AllByRecursion S tables
    all_pair P Q S both [] p q = tt
    all_pair P Q S both (table ∷ tables) p q = (both table p.0 q.0, all_pair P Q S both tables p.1 q.1)
