-- A table that is to be decomposed, its decomposition, and what it becomes.
use Rattle.std.proofs.Common.{◌≡◌, ℕ, ◌+◌, Bool, Option, Some, None, List, ◌++◌, map, length, refl, sym, ap, ◌∙◌, subst, arith}
use Rattle.std.specs.Prelude.{MatchOption}
use Rattle.std.specs.List.{AllByRecursion}
use Rattle.std.proofs.lemmas.List.{length-append, length-map}
use Rattle.std.proofs.lemmas.Option.{none-some, same_Some}
use Rattle.sis_base.specs.Rows.{HasWidth}
use Rattle.circuit_model.specs.Soundness.{IsSound}
use Rattle.circuit_model.specs.declared.circuit.Table.{Table}
use Rattle.net_core.specs.Places.{written_of}
use Rattle.net_core.specs.Reads.{IsBounded}
use Rattle.net_core.specs.Tables.{named, characters_of, IsOverInputs}
use Rattle.net_core.specs.declared.places.Entry.{Entry}
use Rattle.net_core.specs.declared.table.CoverTable.{CoverTable}
use Rattle.net_core.proofs.Rows.{all_places_back}
use Rattle.circuit_tables.specs.Tidy.{tidied}
use Rattle.net_decomp.specs.Partings.{rows_of, parted_table}
use Rattle.net_decomp.specs.Rules.{IsDone, IsDecomposable}
use Rattle.net_decomp.specs.declared.rule.Rule.{Rule}
use Rattle.net_decomp.proofs.Values.{due_keeps}
use Rattle.net_core.specs.Fresh.{node_count}
use Rattle.net_work.specs.Placed.{Placed, circuit_of, table_at, with_slot}
use Rattle.net_decomp.specs.Told.{told}
use Rattle.net_decomp.specs.Cursor.{IsDecomposableOf, IsDecomposableAt, ArePut, IsTurned, IsPartedAt, HasRoomFor, IsOverAt}
use Rattle.net_decomp.specs.declared.parting.Parting.{Parting}
use Rattle.net_decomp.specs.declared.stepping.Due.{Due}
use Rattle.net_decomp.proofs.Putting.{put_names}
use Rattle.net_decomp.proofs.Turning.{put_at, over_full, turned_parted}

module _ {R : Type 0} (f : R → List (Option Bool)) (rule : Rule) where
  at_named : (table : CoverTable R) (found : Option (Parting R)) (name : List ℕ) → IsOverInputs table
      → ((written : Table) → length written.inputs ≡ table.cover.width → rows_of written ≡ table.cover.rows → MatchOption found (IsDone rule written) (λ parting. IsDecomposable rule written (told f parting)))
      → MatchOption found (IsDone rule (named name table)) (λ parting. IsDecomposable rule (named name table) (told f parting))
  unfolding named
  at_named table found name over is = is (named name table) (sym over) (all_places_back table.cover.rows)

  pub found_none : (table : CoverTable R) (found : Option (Parting R)) (name : List ℕ) → IsOverInputs table
      → ((written : Table) → length written.inputs ≡ table.cover.width → rows_of written ≡ table.cover.rows → MatchOption found (IsDone rule written) (λ parting. IsDecomposable rule written (told f parting)))
      → found ≡ None → IsDone rule (named name table)
  found_none table found name over is none =
      subst (λ (o : Option (Parting R)). MatchOption o (IsDone rule (named name table)) (λ parting. IsDecomposable rule (named name table) (told f parting))) none (at_named table found name over is)

  pub found_due : (table : CoverTable R) (found : Option (Parting R)) (name : List ℕ) (parting : Parting R) (inputs : List (List ℕ)) → IsOverInputs table → HasWidth table.cover.width table.cover.rows
      → ((written : Table) → length written.inputs ≡ table.cover.width → rows_of written ≡ table.cover.rows → MatchOption found (IsDone rule written) (λ parting. IsDecomposable rule written (told f parting)))
      → found ≡ Some parting → inputs ≡ table.inputs → IsDecomposableOf rule f (named name table) (record { inputs = inputs; phase = table.phase; parting = parting })
  unfolding named
  found_due table found name parting inputs over wide is some copied = record {
    inputs = sym copied;
    phase = refl;
    is_due = subst (λ (o : Option (Parting R)). MatchOption o (IsDone rule (named name table)) (λ parting. IsDecomposable rule (named name table) (told f parting))) some (at_named table found name over is);
    wide = subst (λ (n : ℕ). HasWidth n (rows_of (named name table))) over (subst (HasWidth table.cover.width) (sym (all_places_back table.cover.rows)) wide);
  }

  -- the same for the table at an index
  pub placed_due : (slots : List (Option Table)) (place : ℕ) (entry : Entry R) (found : Option (Due R)) → Some (written_of entry) ≡ table_at slots place
      → MatchOption found (IsDone rule (named entry.output entry.table)) (IsDecomposableOf rule f (named entry.output entry.table))
      → MatchOption found ((table : Table) → table_at slots place ≡ Some table → IsDone rule table) (IsDecomposableAt rule f slots place)
  placed_due slots place entry None there done = λ table at. subst (IsDone rule) (same_Some (written_of entry) table (there ∙ at)) done
  placed_due slots place entry (Some due) there told_of = record { table = written_of entry; there = sym there; told_of = told_of }

  pub none_due : (slots : List (Option Table)) (place : ℕ) → None ≡ table_at slots place → (table : Table) → table_at slots place ≡ Some table → IsDone rule table
  none_due slots place none table at = absurd (none-some table (none ∙ at))

  -- the widths of its parts, and of what it becomes
  pub due_parts_wide : (slots : List (Option Table)) (place : ℕ) (due : Due R) → IsDecomposableAt rule f slots place due → AllByRecursion (HasWidth (length due.inputs)) (map (λ part. map f part.items) due.parting.parts.items)
  due_parts_wide slots place due is =
      subst (λ (list : List (List ℕ)). AllByRecursion (HasWidth (length list)) (told f due.parting).parts) is.told_of.inputs
      (due_keeps rule is.table (told f due.parting) is.told_of.wide is.told_of.is_due).parts

  pub due_rows_wide : (slots : List (Option Table)) (place : ℕ) (due : Due R) (names joined : List (List ℕ)) (before now : Placed) → IsDecomposableAt rule f slots place due
      → ArePut due.inputs (map (λ part. map f part.items) due.parting.parts.items) names before now → joined ≡ due.inputs ++ names → HasWidth (length joined) (map f due.parting.rows.items)
  due_rows_wide slots place due names joined before now is put behind =
      let many : length names ≡ length (told f due.parting).parts = put_names due.inputs (told f due.parting).parts names before now put in
      let same : length is.table.inputs ≡ length due.inputs = ap length is.told_of.inputs in
      let all : length joined ≡ length due.inputs + length names = ap length behind ∙ length-append due.inputs names in
      let width : length is.table.inputs + length (told f due.parting).parts ≡ length joined = omega (arith, many, same, all) in
      subst (λ (n : ℕ). HasWidth n (map f due.parting.rows.items)) width (due_keeps rule is.table (told f due.parting) is.told_of.wide is.told_of.is_due).wide

  parted_is : (table : Table) (inputs names joined : List (List ℕ)) (phase : Bool) (rows : List (List (Option Bool))) → table.inputs ≡ inputs → table.phase ≡ phase → joined ≡ inputs ++ names
      → tidied (record { inputs = joined; output = table.output; rows = map characters_of rows; phase = phase }) ≡ parted_table table names rows
  unfolding parted_table
  parted_is table inputs names joined phase rows same turned behind =
      ap (λ (list : List (List ℕ)). tidied (record { inputs = list; output = table.output; rows = map characters_of rows; phase = phase })) (behind ∙ ap (λ (list : List (List ℕ)). list ++ names) (sym same))
      ∙ ap (λ (bit : Bool). tidied (record { inputs = table.inputs ++ names; output = table.output; rows = map characters_of rows; phase = bit })) (sym turned)

  -- the table is set at its index
  pub due_turned : (place : ℕ) (due : Due R) (made : CoverTable R) (names joined : List (List ℕ)) (before between now : Placed) → IsDecomposableAt rule f before.slots place due
      → ArePut due.inputs (map (λ part. map f part.items) due.parting.parts.items) names before between → joined ≡ due.inputs ++ names
      → ((name : List ℕ) → named name made ≡ tidied (record { inputs = joined; output = name; rows = map characters_of (map f due.parting.rows.items); phase = due.phase }))
      → ((name : List ℕ) → IsBounded (named name made))
      → ((old : Table) → table_at between.slots place ≡ Some old → now ≡ with_slot between place (Some (named old.output made)))
      → (table : Table) → table_at before.slots place ≡ Some table → IsTurned table (told f due.parting) place before now
  due_turned place due made names joined before between now is put behind tidy small set table at =
      let one : is.table ≡ table = same_Some is.table table (sym is.there ∙ at) in
      let inputs : table.inputs ≡ due.inputs = ap (λ (t : Table). t.inputs) (sym one) ∙ is.told_of.inputs in
      let phase : table.phase ≡ due.phase = ap (λ (t : Table). t.phase) (sym one) ∙ is.told_of.phase in
      let parted : named table.output made ≡ parted_table table names (map f due.parting.rows.items) =
      tidy table.output ∙ parted_is table due.inputs names joined due.phase (map f due.parting.rows.items) inputs phase behind in
      record {
        names = names;
        between = between;
        put = subst (λ (list : List (List ℕ)). ArePut list (told f due.parting).parts names before between) (sym inputs) put;
        set =
            set table (put_at due.inputs (told f due.parting).parts names place table before between put at)
            ∙ ap (λ (t : Table). with_slot between place (Some t)) parted;
        bounded = subst IsBounded parted (small table.output);
      }

  pub some_due : (slots : List (Option Table)) (place : ℕ) (found : Option (Due R)) (due : Due R) → MatchOption found ((table : Table) → table_at slots place ≡ Some table → IsDone rule table) (IsDecomposableAt rule f slots place)
      → found ≡ Some due → IsDecomposableAt rule f slots place due
  some_due slots place found due is some = subst (λ (o : Option (Due R)). MatchOption o ((table : Table) → table_at slots place ≡ Some table → IsDone rule table) (IsDecomposableAt rule f slots place)) some is

  -- there is room for its parts
  pub due_parted : (place : ℕ) (due : Due R) (before now : Placed) (nodes more : ℕ) → IsDecomposableAt rule f before.slots place due → IsSound (circuit_of before)
      → nodes ≡ node_count (circuit_of before) → length due.parting.parts.items ≡ more → HasRoomFor nodes more
      → ((table : Table) → table_at before.slots place ≡ Some table → IsTurned table (told f due.parting) place before now)
      → IsPartedAt rule place before now × (nodes + more ≡ node_count (circuit_of now))
  due_parted place due before now nodes more is sound counted all_parts room turned =
      let many : length (told f due.parting).parts ≡ more = length-map due.parting.parts.items (λ part. map f part.items) ∙ all_parts in
      let all = turned_parted rule is.table (told f due.parting) place before now (turned is.table is.there) sound is.there is.told_of.wide is.told_of.is_due
      (subst (λ (n : ℕ). HasRoomFor n (length (told f due.parting).parts)) counted (subst (HasRoomFor nodes) (sym many) room)) in
      (all.0, omega (arith, all.1, many, counted))

  -- there is no room for its parts
  pub due_over : (place : ℕ) (due : Due R) (before : Placed) → IsDecomposableAt rule f before.slots place due → (HasRoomFor (node_count (circuit_of before)) (length due.parting.parts.items) → ⊥) → IsOverAt rule place before
  due_over place due before is over =
      let many : length (told f due.parting).parts ≡ length due.parting.parts.items = length-map due.parting.parts.items (λ part. map f part.items) in
      record {
        table = is.table;
        parting = told f due.parting;
        there = is.there;
        due = is.told_of.is_due;
        over = over_full (circuit_of before) (told f due.parting) (λ room. over (subst (HasRoomFor (node_count (circuit_of before))) many room));
      }
