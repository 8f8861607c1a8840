-- All steps at a table of single literals. The working network has the new tables, and at the index
-- still has the first table; with the table of the current literals there, steps lead to it.
use Rattle.std.proofs.Common.{◌≡◌, ℕ, ◌+◌, ◌-◌, ◌<◌, ◌≤◌, ◌^◌, zero, suc, Bool, true, false, Option, Some, List, [], ◌∷◌, ◌++◌, length, map, take, drop, set, slice_get, refl, sym, ap, ◌∙◌, subst, inl, inr, arith}
use Rattle.std.specs.List.{AllByRecursion}
use Rattle.std.proofs.lemmas.Bool.{false≢true}
use Rattle.std.proofs.lemmas.List.{length-append, length-map, length-drop, take-append-drop, drop-drop, drop-append-le}
use Rattle.std.proofs.lemmas.Option.{same_Some}
use Rattle.circuit_model.specs.Names.{has, all_different}
use Rattle.circuit_model.specs.Runs.{latch_outputs}
use Rattle.circuit_model.specs.Values.{driver}
use Rattle.circuit_model.specs.Soundness.{outputs_of, names_of, control_of, given, IsShaped, IsSound}
use Rattle.circuit_model.specs.declared.circuit.Tri.{Tri}
use Rattle.circuit_model.specs.declared.circuit.Table.{Table}
use Rattle.circuit_model.specs.declared.circuit.Circuit.{Circuit}
use Rattle.circuit_laws.proofs.Drivers.{driver_all, driver_reads}
use Rattle.circuit_laws.proofs.Kept.{all_weaker}
use Rattle.circuit_laws.proofs.Mapped.{live_reads}
use Rattle.circuit_laws.proofs.Names.{all_has, all_from_has, has_not}
use Rattle.circuit_laws.proofs.Sound.{all_append, all_parts, one_more}
use Rattle.circuit_laws.proofs.Splitting.{given_more}
use Rattle.circuit_tables.specs.Tidy.{is_tidy, rows_differ, tidied}
use Rattle.circuit_tables.proofs.Tidied.{IsTidy, tidied_output, tidied_same, tidy_parts}
use Rattle.net_core.specs.Fresh.{IsNewName, bracketed, used_names, node_count}
use Rattle.net_core.specs.Reads.{IsBounded}
use Rattle.net_core.specs.Tables.{characters_of}
use Rattle.net_core.proofs.NewNames.{new_is_free}
use Rattle.net_core.proofs.Rows.{all_characters_back}
use Rattle.net_work.specs.Placed.{Placed, standing, circuit_of, table_at, with_slot, with_last}
use Rattle.net_work.proofs.Indexed.{place_within, drives}
use Rattle.net_work.proofs.Standing.{place_there, outputs_set}
use Rattle.net_decomp.specs.Cursor.{AreDone, IsAlong, ArePut, IsTurned, IsPartedAt, weight}
use Rattle.net_decomp.specs.Decomposed.{IsFull}
use Rattle.net_decomp.specs.Partings.{part_table}
use Rattle.net_decomp.specs.Sums.{sum_rows, sum_table, IsBelow, IsGiven, IsSumBound, IsSumAt, IsFirstParted, IsSumOn}
use Rattle.net_decomp.specs.declared.rule.Rule.{Rule}
use Rattle.net_decomp.specs.declared.rule.Rule.TheVariants.{Gates}
use Rattle.net_decomp.specs.declared.sums.Literal.{Literal}
use Rattle.net_decomp.specs.declared.sums.Sum.{Sum}
use Rattle.net_decomp.proofs.Along.{along_begin, along_more, along_over}
use Rattle.net_decomp.proofs.Bounded.{tidied_within}
use Rattle.net_decomp.proofs.Putting.{put_begin, put_more, last_circuit}
use Rattle.net_decomp.proofs.Slots.{table_before, table_set}
use Rattle.net_decomp.proofs.SumSteps.{HasOnePart, IsSumStep, drawn, drawn_long, last_literal, literals_due, literals_step, rest_differ}
use Rattle.net_decomp.proofs.Turning.{turned_parted}
use Rattle.sis_base.specs.declared.limits.TheConstants.{MAX_NODES}

-- a write over another write, and a write of the value that is there
set_over : {X : Type 0} (xs ys : List X) (i : ℕ) (x y : X) → i < length xs → set (set xs i x ++ ys) i y ≡ set (xs ++ ys) i y
set_over [] ys i x y below = absurd (omega (arith, below))
set_over (z ∷ xs) ys zero x y below = refl
set_over {X} (z ∷ xs) ys (suc i) x y below = ap (λ (l : List X). z ∷ l) (set_over xs ys i x y (omega (arith, below)))

set_back : {X : Type 0} (xs : List X) (i : ℕ) (x : X) → slice_get xs i ≡ Some x → set xs i x ≡ xs
set_back [] i x h = refl
set_back {X} (z ∷ xs) zero x h = ap (λ (y : X). y ∷ xs) (sym (same_Some z x h))
set_back {X} (z ∷ xs) (suc i) x h = ap (λ (l : List X). z ∷ l) (set_back xs i x h)

-- the table at an index is replaced by another one of the same name
module _ (now : Placed) (place : ℕ) (old new : Table) (there : table_at now.slots place ≡ Some old) (same : new.output ≡ old.output) where
  outputs_same : outputs_of (standing (set now.slots place (Some new))) ≡ outputs_of (standing now.slots)
  outputs_same = outputs_set now.slots place old new (place_there now.slots place old there) same

  nodes_same : node_count (circuit_of (with_slot now place (Some new))) ≡ node_count (circuit_of now)
  nodes_same =
      ap (λ (n : ℕ). n + length now.frame.latches + length now.frame.dont_care)
      (sym (length-map (standing (set now.slots place (Some new))) (λ (t : Table). t.output)) ∙ ap length outputs_same ∙ length-map (standing now.slots) (λ (t : Table). t.output))

  used_same : used_names (circuit_of (with_slot now place (Some new))) ≡ used_names (circuit_of now)
  unfolding used_names given
  used_same =
      ap (λ (outputs : List (List ℕ)). (now.frame.inputs ++ (latch_outputs now.frame ++ outputs)) ++ (now.frame.outputs ++ (now.frame.clocks ++ (control_of now.frame.timing ++ names_of now.frame.dont_care)))) outputs_same

  fresh_same : (name : List ℕ) → IsNewName (circuit_of now) name → IsNewName (circuit_of (with_slot now place (Some new))) name
  fresh_same name fresh = record {
    number = fresh.number;
    fits = fresh.fits;
    is = fresh.is;
    free = ap (λ (names : List (List ℕ)). has names (bracketed fresh.number)) used_same ∙ fresh.free;
    least = λ other below. ap (λ (names : List (List ℕ)). has names (bracketed other)) used_same ∙ fresh.least other below;
  }

-- the table of literals over names
sum_output : (names : List (List ℕ)) (name : List ℕ) (phase : Bool) (literals : List Literal) → (sum_table names name phase literals).output ≡ name
sum_output names name phase literals = tidied_output (record { inputs = names; output = name; rows = drawn (length names) literals; phase = phase })

sum_bounded : (names : List (List ℕ)) (name : List ℕ) (phase : Bool) (literals : List Literal) → 1 ≤ length literals → length names < 2 ^ 30 → length literals < 2 ^ 33 → IsBounded (sum_table names name phase literals)
sum_bounded names name phase literals some few short =
    let small = tidied_within (record { inputs = names; output = name; rows = drawn (length names) literals; phase = phase }) (drawn_long (length names) literals, λ none. absurd (nothing none)) in
    record { rows = omega (arith, small.0, rows_many, short); inputs = omega (arith, small.1, few) }
  where
    rows_many : length (drawn (length names) literals) ≡ length literals
    rows_many = length-map (sum_rows (length names) literals) characters_of ∙ length-map literals _

    nothing : drawn (length names) literals ≡ [] → ⊥
    nothing none = let zero_rows : length (drawn (length names) literals) ≡ 0 = ap length none in omega (arith, zero_rows, rows_many, some)

-- the network with that table at the index
abbrev pub turned_to : ℕ → Placed → Table → List (List ℕ) → Bool → List Literal → Placed
turned_to place now table names phase literals = with_slot now place (Some (sum_table names table.output phase literals))

-- at the start
pub sum_begin : (rule : Rule) (place : ℕ) (sum : Sum) (now : Placed) → IsSound (circuit_of now) → AreDone rule place now.slots → ((table : Table) → table_at now.slots place ≡ Some table → is_tidy table ≡ true)
    → IsSumAt rule now.slots place sum → IsSumOn rule place sum.phase now sum.names sum.literals.items now
sum_begin rule place sum now sound done tidy at = record {
  table = at.table;
  there = at.there;
  different = ap all_different at.is.names ∙ parts.once;
  known = subst (AllByRecursion (IsGiven now)) (sym at.is.names) (all_from_has (IsGiven now) at.table.inputs (λ input among. live_reads (circuit_of now) sound input (driver_reads (standing now.slots) at.table.output at.table input driven among)));
  below = subst (λ (n : ℕ). AllByRecursion (IsBelow n) sum.literals.items) (sym width) at.is.below;
  differ = ap rows_differ (sym rows_are) ∙ parts.differ;
  along = subst (IsAlong rule place now) (sym here) (along_begin rule place now sound done);
  light = let same : weight place (turned_to place now at.table sum.names sum.phase sum.literals.items) ≡ weight place now = ap (weight place) here in omega (arith, same);
}
  where
    parts : IsTidy at.table
    parts = tidy_parts at.table (tidy at.table at.there)

    driven : driver (standing now.slots) at.table.output ≡ Some at.table
    driven = drives now place at.table sound at.there

    width : length sum.names ≡ length at.table.inputs
    width = ap length at.is.names

    rows_are : at.table.rows ≡ drawn (length sum.names) sum.literals.items
    rows_are =
        sym (all_characters_back at.table.rows)
        ∙ ap (λ (rows : List (List (Option Bool))). map characters_of rows) at.is.rows
        ∙ ap (λ (n : ℕ). drawn n sum.literals.items) (sym width)

    table_is : sum_table sum.names at.table.output sum.phase sum.literals.items ≡ at.table
    table_is =
        ap (λ (rows : List (List Tri)). tidied (record { inputs = sum.names; output = at.table.output; rows = rows; phase = sum.phase })) (sym rows_are)
        ∙ ap (λ (names : List (List ℕ)). tidied (record { inputs = names; output = at.table.output; rows = at.table.rows; phase = sum.phase })) at.is.names
        ∙ ap (λ (phase : Bool). tidied (record { inputs = at.table.inputs; output = at.table.output; rows = at.table.rows; phase = phase })) at.is.phase
        ∙ tidied_same at.table (driver_all IsShaped (standing now.slots) sound.shaped at.table.output at.table driven).0 (tidy at.table at.there)

    here : turned_to place now at.table sum.names sum.phase sum.literals.items ≡ now
    here =
        ap (λ (t : Table). with_slot now place (Some t)) table_is
        ∙ ap (λ (slots : List (Option Table)). record now { slots = slots }) (set_back now.slots place (Some at.table) (place_there now.slots place at.table at.there))

-- a step
module _ (products most place : ℕ) (phase : Bool) (before now : Placed) (names : List (List ℕ)) (literals : List Literal) (on : IsSumOn (Gates products most) place phase before names literals now) (two : 2 ≤ most) (more : most < length literals) where
  abbrev rule : Rule
  rule = Gates products most

  abbrev table : Table
  table = sum_table names on.table.output phase literals

  abbrev virtual : Placed
  virtual = turned_to place now on.table names phase literals

  output_same : table.output ≡ on.table.output
  output_same = sum_output names on.table.output phase literals

  virtual_there : table_at virtual.slots place ≡ Some table
  virtual_there = table_set now.slots place on.table table on.there

  virtual_nodes : node_count (circuit_of virtual) ≡ node_count (circuit_of now)
  virtual_nodes = nodes_same now place on.table table on.there output_same

  -- there is no room
  pub sum_full : MAX_NODES ≤ node_count (circuit_of now) → IsFull rule (circuit_of before)
  sum_full full =
      let due : HasOnePart rule table = literals_due names on.table.output phase products most literals on.different on.below on.differ two more in
      let one : length due.parting.parts ≡ 1 = ap length due.parts in
      along_over rule place before virtual on.along (record {
        table = table;
        parting = due.parting;
        there = virtual_there;
        due = due.due;
        over = (λ none. absurd (let nil : length due.parting.parts ≡ 0 = ap length none in omega (arith, nil, one)), omega (arith, one, virtual_nodes, full));
      })

  -- there is room
  module _ (new : Placed) (name : List ℕ) (room : node_count (circuit_of now) < MAX_NODES) (fresh : IsNewName (circuit_of now) name)
      (added : new ≡ with_last now (sum_table names name true (take most literals))) (bounded : IsBounded (sum_table names name true (take most literals)))
      (few : length names + 1 < 2 ^ 30) (short : length literals + 1 < 2 ^ 33) where
    abbrev left : List Literal
    left = drop most literals ++ last_literal (length names) ∷ []

    abbrev made : Table
    made = sum_table names name true (take most literals)

    abbrev rewritten : Table
    rewritten = sum_table (names ++ name ∷ []) on.table.output phase left

    free : has names name ≡ false
    free = has_not names name (λ h. false≢true (sym (new_is_free (circuit_of now) name fresh).0 ∙ all_has (IsGiven now) names on.known name h))

    step : IsSumStep rule table name made rewritten
    step = literals_step names on.table.output phase products most literals on.different on.below on.differ two more name free

    longer : length (names ++ name ∷ []) ≡ length names + 1
    longer = length-append names (name ∷ [])

    left_many : length left ≡ length (drop most literals) + 1
    left_many = length-append (drop most literals) (last_literal (length names) ∷ [])

    left_short : length left < 2 ^ 33
    left_short =
        let rest : length (take most literals) + length (drop most literals) ≡ length literals = sym (length-append (take most literals) (drop most literals)) ∙ ap length (take-append-drop most literals) in
        omega (arith, left_many, rest, short)

    abbrev between : Placed
    between = with_last virtual made

    abbrev turned_new : Placed
    turned_new = turned_to place (with_last now made) on.table (names ++ name ∷ []) phase left

    put : ArePut table.inputs step.one.parting.parts (name ∷ []) virtual between
    unfolding part_table
    put =
        subst (λ (parts : List (List (List (Option Bool)))). ArePut table.inputs parts (name ∷ []) virtual between) (sym step.one.parts)
        (put_more table.inputs [] step.one.part [] name virtual virtual between (put_begin table.inputs virtual) (fresh_same now place on.table table on.there output_same name fresh)
        (ap (λ (t : Table). with_last virtual t) (sym step.made_is)) (subst IsBounded (sym step.made_is) bounded))

    turned : IsTurned table step.one.parting place virtual turned_new
    turned = record {
      names = name ∷ [];
      between = between;
      put = put;
      set =
          ap (λ (slots : List (Option Table)). record now { slots = slots })
          (sym (set_over now.slots (Some made ∷ []) place (Some table) (Some rewritten) (place_within now.slots place on.table on.there))
          ∙ ap (λ (t : Table). set (set now.slots place (Some table) ++ Some made ∷ []) place (Some t)) (sym step.rest_is));
      bounded = subst IsBounded (sym step.rest_is) (sum_bounded (names ++ name ∷ []) on.table.output phase left (omega (arith, left_many)) (omega (arith, longer, few)) left_short);
    }

    one : length step.one.parting.parts ≡ 1
    one = ap length step.one.parts

    parted : IsPartedAt rule place virtual turned_new
    parted =
        (turned_parted rule table step.one.parting place virtual turned_new turned on.along.sound virtual_there step.one.wide step.one.due
        (λ some. omega (arith, one, virtual_nodes, room))).0

    known_more : AllByRecursion (IsGiven (with_last now made)) (names ++ name ∷ [])
    known_more =
        subst (λ (c : Circuit). AllByRecursion (λ x. has (given c) x ≡ true) (names ++ name ∷ [])) (sym (last_circuit now made))
        (all_append (λ x. has (given _) x ≡ true) names (name ∷ [])
        (all_weaker (IsGiven now) _ (λ x h. given_more (circuit_of now) made x (inl h)) names on.known)
        (given_more (circuit_of now) made name (inr (sym (sum_output names name true (take most literals)))), tt))

    below_more : AllByRecursion (IsBelow (length (names ++ name ∷ []))) left
    below_more =
        all_append (IsBelow (length (names ++ name ∷ []))) (drop most literals) (last_literal (length names) ∷ [])
        (all_weaker (IsBelow (length names)) (IsBelow (length (names ++ name ∷ []))) (λ literal h. omega (arith, h, longer)) (drop most literals)
        (all_parts (IsBelow (length names)) (take most literals) (drop most literals) (subst (AllByRecursion (IsBelow (length names))) (sym (take-append-drop most literals)) on.below)).1)
        (omega (arith, longer), tt)

    after : IsSumOn rule place phase before (names ++ name ∷ []) left (with_last now made)
    after = record {
      table = on.table;
      there = table_before now.slots (Some made ∷ []) place (place_within now.slots place on.table on.there) ∙ on.there;
      different = one_more names name on.different free;
      known = known_more;
      below = below_more;
      differ = rest_differ names on.table.output phase products most literals on.different on.below on.differ two more name;
      along = along_more rule place before virtual turned_new on.along parted;
      light = omega (arith, parted.fewer, on.light);
    }

    pub sum_stepped : IsSumOn rule place phase before (names ++ name ∷ []) left new
    sum_stepped = subst (IsSumOn rule place phase before (names ++ name ∷ []) left) (sym added) after

    pub stepped_nodes : node_count (circuit_of new) ≡ node_count (circuit_of now) + 1
    unfolding after
    stepped_nodes =
        let all = (turned_parted rule table step.one.parting place virtual turned_new turned on.along.sound virtual_there step.one.wide step.one.due
        (λ some. omega (arith, one, virtual_nodes, room))).1 in
        let same : node_count (circuit_of turned_new) ≡ node_count (circuit_of (with_last now made)) =
        nodes_same (with_last now made) place on.table rewritten after.there (sum_output (names ++ name ∷ []) on.table.output phase left) in
        let here : node_count (circuit_of new) ≡ node_count (circuit_of (with_last now made)) = ap (λ (p : Placed). node_count (circuit_of p)) added in
        omega (arith, all, same, here, one, virtual_nodes)

-- the first literals became a table
pub first_parted : (first most : ℕ) (names names_now : List (List ℕ)) (literals later front literals_now : List Literal) (before now : Placed) (name : List ℕ) (table_of : List ℕ → Table)
    → later ≡ drop first literals → front ≡ take most later → ((name : List ℕ) → table_of name ≡ sum_table names name true front) → ((name : List ℕ) → IsBounded (table_of name))
    → (node_count (circuit_of before) < MAX_NODES) × IsNewName (circuit_of before) name × (now ≡ with_last before (table_of name)) → names_now ≡ names ++ name ∷ []
    → literals_now ≡ literals ++ last_literal (length names) ∷ [] → (length names + 1 < 2 ^ 30) × (length literals + 1 < 2 ^ 33) → IsFirstParted first most names literals before names_now literals_now now
first_parted first most names names_now literals later front literals_now before now name table_of after parted tidy bounded (room, fresh, added) names_are literals_are small =
    let front_is : front ≡ take most (drop first literals) = parted ∙ ap (λ (list : List Literal). take most list) after in
    let made_is : table_of name ≡ sum_table names name true (take most (drop first literals)) = tidy name ∙ ap (λ (list : List Literal). sum_table names name true list) front_is in
    record {
      name = name;
      names_are = names_are;
      literals_are = literals_are;
      room = room;
      fresh = fresh;
      added = added ∙ ap (λ (t : Table). with_last before t) made_is;
      bounded = subst IsBounded made_is (bounded name);
      small = small;
    }

-- the same for the list of all literals, the first of which have become tables
pub sum_more : (rule : Rule) (first most place : ℕ) (phase : Bool) (before now new : Placed) (names names_now : List (List ℕ)) (literals literals_now : List Literal) → IsSumBound rule most
    → IsSumOn rule place phase before names (drop first literals) now → first + most < length literals → IsFirstParted first most names literals now names_now literals_now new
    → IsSumOn rule place phase before names_now (drop (first + most) literals_now) new × (node_count (circuit_of new) ≡ node_count (circuit_of now) + 1)
sum_more rule first most place phase before now new names names_now literals literals_now (products, is, two) on more parted =
    let here : IsSumOn (Gates products most) place phase before names (drop first literals) now = subst (λ (r : Rule). IsSumOn r place phase before names (drop first literals) now) is on in
    let rest : length (drop first literals) ≡ length literals - first = length-drop first literals in
    let some : most < length (drop first literals) = omega (arith, more, rest) in
    let short : length (drop first literals) + 1 < 2 ^ 33 = omega (arith, parted.small.1, rest) in
    let left_is : drop (first + most) literals_now ≡ drop most (drop first literals) ++ last_literal (length names) ∷ [] =
    ap (λ (list : List Literal). drop (first + most) list) parted.literals_are
    ∙ drop-append-le (first + most) literals (last_literal (length names) ∷ []) (omega (arith, more))
    ∙ ap (λ (list : List Literal). list ++ last_literal (length names) ∷ []) (sym (drop-drop most first literals)) in (
      subst (λ (r : Rule). IsSumOn r place phase before names_now (drop (first + most) literals_now) new) (sym is)
          (subst (λ (list : List (List ℕ)). IsSumOn (Gates products most) place phase before list (drop (first + most) literals_now) new) (sym parted.names_are)
          (subst (λ (list : List Literal). IsSumOn (Gates products most) place phase before (names ++ parted.name ∷ []) list new) (sym left_is)
          (sum_stepped products most place phase before now names (drop first literals) here two some new parted.name parted.room parted.fresh parted.added parted.bounded parted.small.0 short))),
      stepped_nodes products most place phase before now names (drop first literals) here two some new parted.name parted.room parted.fresh parted.added parted.bounded parted.small.0 short,
    )

pub sum_over : (rule : Rule) (first most place : ℕ) (phase : Bool) (before now : Placed) (names : List (List ℕ)) (literals : List Literal) → IsSumBound rule most
    → IsSumOn rule place phase before names (drop first literals) now → first + most < length literals → MAX_NODES ≤ node_count (circuit_of now) → IsFull rule (circuit_of before)
sum_over rule first most place phase before now names literals (products, is, two) on more full =
    subst (λ (r : Rule). IsFull r (circuit_of before)) (sym is)
    (sum_full products most place phase before now names (drop first literals) (subst (λ (r : Rule). IsSumOn r place phase before names (drop first literals) now) is on) two
    (omega (arith, more, length-drop first literals)) full)

-- at the end
pub record HasEnded (rule : Rule) (place : ℕ) (before now new : Placed) : Type 0 where
  pub along : IsAlong rule place before new
  pub light : weight place new ≤ weight place before
  pub nodes : node_count (circuit_of new) ≡ node_count (circuit_of now)

pub sum_ended : (rule : Rule) (place : ℕ) (phase : Bool) (before now new : Placed) (names : List (List ℕ)) (literals : List Literal) (on : IsSumOn rule place phase before names literals now)
    → new ≡ turned_to place now on.table names phase literals → HasEnded rule place before now new
sum_ended rule place phase before now new names literals on is = record {
  along = subst (IsAlong rule place before) (sym is) on.along;
  light = subst (λ (p : Placed). weight place p ≤ weight place before) (sym is) on.light;
  nodes =
      ap (λ (p : Placed). node_count (circuit_of p)) is
      ∙ nodes_same now place on.table (sum_table names on.table.output phase literals) on.there (sum_output names on.table.output phase literals);
}

pub sum_set : (rule : Rule) (place : ℕ) (phase : Bool) (before now new : Placed) (names : List (List ℕ)) (literals later : List Literal) (table_of : List ℕ → Table) → IsSumOn rule place phase before names literals now
    → later ≡ literals → ((name : List ℕ) → table_of name ≡ sum_table names name phase later) → ((old : Table) → table_at now.slots place ≡ Some old → new ≡ with_slot now place (Some (table_of old.output)))
    → HasEnded rule place before now new
sum_set rule place phase before now new names literals later table_of on same tidy set =
    sum_ended rule place phase before now new names literals on
    (set on.table on.there
    ∙ ap (λ (t : Table). with_slot now place (Some t)) (tidy on.table.output ∙ ap (λ (list : List Literal). sum_table names on.table.output phase list) same))
