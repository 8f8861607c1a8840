-- What a cover saves does not depend on the name of its signal, as long as no table reads that
-- name.
use Rattle.std.proofs.Common.{◌≡◌, ℕ, ◌+◌, ◌-◌, ◌≤◌, Bool, true, false, List, [], ◌∷◌, ◌++◌, map, length, refl, sym, ap, ◌∙◌, subst, inl, inr, arith}
use Rattle.std.specs.List.{sum_by, list_any, AllByRecursion}
use Rattle.std.proofs.lemmas.Bool.{false≢true}
use Rattle.std.proofs.lemmas.List.{length-append}
use Rattle.std.proofs.lemmas.List.Sums.{sum_by-cons}
use Rattle.circuit_model.specs.Counts.{is_literal, literals_of_row, literals_of_table}
use Rattle.circuit_model.specs.Names.{has, all_different}
use Rattle.circuit_model.specs.declared.circuit.Table.{Table}
use Rattle.circuit_model.specs.declared.circuit.Tri.{Tri}
use Rattle.net_candidates.specs.Extracting.{IsNarrow}
use Rattle.net_candidates.proofs.Gains.{IsDivided, divided_or_not}
use Rattle.cover_names.specs.Literals.{NamedCover}
use Rattle.alg_tables.specs.Dividing.{rejoined, divided, cover_table}
use Rattle.alg_tables.proofs.Divisions.{divisor, found}
use Rattle.circuit_tables.specs.Tidy.{IsWide, front_place, behind_front, used_places, chosen, rows_once, narrowed, with_rows_once}
use Rattle.net_savings.specs.Saving.{lost_by, IsSaving}
use Rattle.net_savings.proofs.Reading.{divided_narrowed, divided_reads_name}
use Rattle.sis_base.specs.declared.limits.TheConstants.{MAX_INPUTS}

-- ---- tables over as many inputs

used_long : (inputs others : List (List ℕ)) (rows : List (List Tri)) → length inputs ≡ length others → used_places inputs rows ≡ used_places others rows
unfolding used_places
used_long [] [] rows long = refl
used_long [] (other ∷ others) rows long = absurd (omega (arith, long))
used_long (input ∷ inputs) [] rows long = absurd (omega (arith, long))
used_long (input ∷ inputs) (other ∷ others) rows long =
    ap (λ (marks : List Bool). list_any (λ row. is_literal (front_place row)) rows ∷ marks) (used_long inputs others (map behind_front rows) (omega (arith, long)))

chosen_long : (marks : List Bool) (inputs others : List (List ℕ)) → length inputs ≡ length others → length (chosen marks inputs) ≡ length (chosen marks others)
unfolding chosen
chosen_long [] inputs others long = refl
chosen_long (mark ∷ marks) [] [] long = refl
chosen_long (mark ∷ marks) [] (other ∷ others) long = absurd (omega (arith, long))
chosen_long (mark ∷ marks) (input ∷ inputs) [] long = absurd (omega (arith, long))
chosen_long (true ∷ marks) (input ∷ inputs) (other ∷ others) long =
    let rest : length (chosen marks inputs) ≡ length (chosen marks others) = chosen_long marks inputs others (omega (arith, long)) in
    omega (arith, rest)
chosen_long (false ∷ marks) (input ∷ inputs) (other ∷ others) long = chosen_long marks inputs others (omega (arith, long))

-- ---- one table

module _ (name other : List ℕ) (cover : NamedCover) (table : Table) where
  abbrev made : List ℕ → Table
  made signal = rejoined signal true table (divisor signal true cover table) (found signal true cover table)

  inputs_long : length (table.inputs ++ name ∷ []) ≡ length (table.inputs ++ other ∷ [])
  inputs_long = omega (arith, length-append table.inputs (name ∷ []), length-append table.inputs (other ∷ []))

  narrowed_rows : (narrowed (with_rows_once (made name))).rows ≡ (narrowed (with_rows_once (made other))).rows
  unfolding rejoined narrowed
  narrowed_rows =
      ap (λ (marks : List Bool). map (chosen marks) (rows_once (made name).rows))
      (used_long (table.inputs ++ name ∷ []) (table.inputs ++ other ∷ []) (rows_once (made name).rows) inputs_long)

  narrowed_long : length (narrowed (with_rows_once (made name))).inputs ≡ length (narrowed (with_rows_once (made other))).inputs
  unfolding rejoined narrowed
  narrowed_long =
      ap (λ (marks : List Bool). length (chosen marks (table.inputs ++ name ∷ [])))
      (used_long (table.inputs ++ name ∷ []) (table.inputs ++ other ∷ []) (rows_once (made name).rows) inputs_long)
      ∙ chosen_long (used_places (table.inputs ++ other ∷ []) (rows_once (made name).rows)) (table.inputs ++ name ∷ []) (table.inputs ++ other ∷ []) inputs_long

  -- no table reads either name
  pub record AreFree : Type 0 where
    pub wide : IsWide table
    pub once : all_different table.inputs ≡ true
    pub free : has table.inputs name ≡ false
    pub away : has table.inputs other ≡ false

  of_other : IsDivided name true cover table → IsDivided other true cover table
  of_other is = record { over = is.over; some = is.some }

  of_name : IsDivided other true cover table → IsDivided name true cover table
  of_name is = record { over = is.over; some = is.some }

  both_literals : AreFree → IsDivided name true cover table → literals_of_table (divided name true cover table) ≡ literals_of_table (divided other true cover table)
  unfolding literals_of_table
  both_literals are is =
      ap (λ (t : Table). sum_by literals_of_row t.rows) (divided_narrowed name true cover table are.once are.free is)
      ∙ (ap (λ (rows : List (List Tri)). sum_by literals_of_row rows) narrowed_rows
      ∙ sym (ap (λ (t : Table). sum_by literals_of_row t.rows) (divided_narrowed other true cover table are.once are.away (of_other is))))

  both_long : AreFree → IsDivided name true cover table → length (divided name true cover table).inputs ≡ length (divided other true cover table).inputs
  both_long are is =
      ap (λ (t : Table). length t.inputs) (divided_narrowed name true cover table are.once are.free is)
      ∙ (narrowed_long ∙ sym (ap (λ (t : Table). length t.inputs) (divided_narrowed other true cover table are.once are.away (of_other is))))

  pub same_literals : AreFree → literals_of_table (divided name true cover table) ≡ literals_of_table (divided other true cover table)
  same_literals are =
      elim (divided_or_not name true cover table) as (λ _. literals_of_table (divided name true cover table) ≡ literals_of_table (divided other true cover table)) [
        | inl is ↦ both_literals are is
        | inr e ↦ elim (divided_or_not other true cover table) as (λ _. literals_of_table (divided name true cover table) ≡ literals_of_table (divided other true cover table)) [
          | inl is ↦ both_literals are (of_name is)
          | inr k ↦ ap literals_of_table (e ∙ sym k)
        ]
      ]

  pub same_narrow : AreFree → IsNarrow name cover table → IsNarrow other cover table
  same_narrow are narrow =
      elim (divided_or_not other true cover table) as (λ _. IsNarrow other cover table) [
        | inl is ↦ elim narrow as (λ _. IsNarrow other cover table) [
          | inl stays ↦ absurd (false≢true (sym are.free ∙ (ap (λ (t : Table). has t.inputs name) (sym stays) ∙ divided_reads_name name true cover table are.once are.free (of_name is) are.wide)))
          | inr few ↦ inr (let long : length (divided name true cover table).inputs ≡ length (divided other true cover table).inputs = both_long are (of_name is) in omega (arith, few, long))
        ]
        | inr stays ↦ inl stays
      ]

  pub same_lost : AreFree → lost_by name cover table ≡ lost_by other cover table
  same_lost are = ap (λ (n : ℕ). literals_of_table table - n) (same_literals are)

-- ---- all tables

module _ (name other : List ℕ) (cover : NamedCover) where
  all_lost_same : (tables : List Table) → AllByRecursion (AreFree name other cover) tables → sum_by (lost_by name cover) tables ≡ sum_by (lost_by other cover) tables
  all_lost_same [] all = refl
  all_lost_same (first ∷ tables) all =
      let rest : sum_by (lost_by name cover) tables ≡ sum_by (lost_by other cover) tables = all_lost_same tables all.1 in
      let here : lost_by name cover first ≡ lost_by other cover first = same_lost name other cover first all.0 in
      omega (arith, rest, here, sum_by-cons (lost_by name cover) first tables, sum_by-cons (lost_by other cover) first tables)

  all_narrow_same : (tables : List Table) → AllByRecursion (AreFree name other cover) tables → AllByRecursion (IsNarrow name cover) tables → AllByRecursion (IsNarrow other cover) tables
  all_narrow_same [] all narrow = tt
  all_narrow_same (first ∷ tables) all narrow = (same_narrow name other cover first all.0 narrow.0, all_narrow_same tables all.1 narrow.1)

  table_inputs_same : length (cover_table name cover).inputs ≡ length (cover_table other cover).inputs
  unfolding cover_table
  table_inputs_same = refl

  table_literals_same : literals_of_table (cover_table name cover) ≡ literals_of_table (cover_table other cover)
  unfolding cover_table literals_of_table
  table_literals_same = refl

  pub saving_renamed : (tables : List Table) (number : ℕ) → AllByRecursion (AreFree name other cover) tables → IsSaving tables name cover number → IsSaving tables other cover number
  saving_renamed tables number all saving = record {
    narrow = record {
      added = subst (λ (n : ℕ). n ≤ MAX_INPUTS) table_inputs_same saving.narrow.added;
      changed = all_narrow_same tables all saving.narrow.changed;
    };
    exact = ap (λ (n : ℕ). number + n) (sym table_literals_same) ∙ (saving.exact ∙ all_lost_same tables all);
    some = saving.some;
  }
