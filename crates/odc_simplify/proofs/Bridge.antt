-- What the functions of a table in its step mean at points of its inputs: the table's own function,
-- with the points free that are its don't-cares.
use Rattle.std.proofs.Common.{◌≡◌, ℕ, Bool, true, false, not, ◌&&◌, Option, Some, List, map, length}
use Rattle.std.proofs.Common.{refl, sym, ap, ap₂, ◌∙◌, subst, inl, inr, ◌⊎◌}
use Rattle.std.specs.List.{AllByRecursion}
use Rattle.std.proofs.lemmas.List.{length-map}
use Rattle.std.proofs.lemmas.Bool.{and_from}
use Rattle.sis_base.specs.Rows.{HasWidth}
use Rattle.circuit_model.specs.Values.{driver, table_value}
use Rattle.circuit_model.specs.Soundness.{IsSound}
use Rattle.circuit_model.specs.declared.circuit.Table.{Table}
use Rattle.circuit_model.specs.declared.circuit.Circuit.{Circuit}
use Rattle.circuit_laws.proofs.Sound.{sound_settled}
use Rattle.circuit_laws.proofs.Tables.{driven_free}
use Rattle.circuit_laws.proofs.Values.{obeyed}
use Rattle.cube_cover.proofs.Points.{and_left, and_right, bool_cases}
use Rattle.cover_min.specs.Minimum.{minimum_rows}
use Rattle.cover_min.proofs.Minima.{minimum_same}
use Rattle.func_core.specs.Trees.{BooleanFunction, complement, conjunction}
use Rattle.net_func.specs.Signals.{leaves_at, own_function, is_seen}
use Rattle.sdc_simplify.specs.Minimized.{meaning_of}
use Rattle.odc_simplify.specs.Full.{leaf_count, is_dont_care}
use Rattle.odc_simplify.specs.Held.{held_meaning}
use Rattle.odc_simplify.specs.Seen.{IsOver, values, seen_at}
use Rattle.odc_simplify.specs.Tested.{tested}
use Rattle.odc_simplify.proofs.Points.{seen_here, seen_found}
use Rattle.odc_simplify.proofs.Kept.{own_over, inputs_over, seen_over, values_of_names}

-- a point is seen of what two functions are both true of, if the inputs determine the one
pub seen_both : (count : ℕ) (inputs : List BooleanFunction) (own care : BooleanFunction)
    (test : List Bool → Bool) → IsOver count own → IsOver count care
    → AllByRecursion (IsOver count) inputs
    → ((leaves : ℕ → Bool) → own leaves ≡ test (values inputs leaves)) → (point : List Bool)
    → seen_at count inputs (conjunction own care) point ≡
    (test point && seen_at count inputs care point)
seen_both count inputs own care test own_looks care_looks look tells point =
    cases (bool_cases (seen_at count inputs (conjunction own care) point))
    (bool_cases (test point && seen_at count inputs care point))
  where
    looks : IsOver count (conjunction own care)
    looks one other same = ap₂ ◌&&◌ (own_looks one other same) (care_looks one other same)

    forth : seen_at count inputs (conjunction own care) point ≡ true
        → (test point && seen_at count inputs care point) ≡ true
    forth seen =
        let (leaves, there, is) = seen_found count inputs (conjunction own care) point seen in
        let owns : own leaves ≡ true = and_left (own leaves) (care leaves) there in
        let cares : care leaves ≡ true = and_right (own leaves) (care leaves) there in
        and_from (test point) (seen_at count inputs care point)
        (ap test (sym is) ∙ sym (tells leaves) ∙ owns)
        (ap (seen_at count inputs care)
        (sym is) ∙ seen_here count inputs care leaves care_looks look cares)

    back : (test point && seen_at count inputs care point) ≡ true
        → seen_at count inputs (conjunction own care) point ≡ true
    back both =
        let (leaves, there, is) = seen_found count inputs care point
        (and_right (test point) (seen_at count inputs care point) both) in
        let owns : own leaves ≡ true
        = tells leaves ∙ ap test is ∙ and_left (test point)
        (seen_at count inputs care point) both in
        ap (seen_at count inputs (conjunction own care)) (sym is)
        ∙ seen_here count inputs (conjunction own care) leaves looks look
        (and_from (own leaves) (care leaves) owns there)

    cases : (seen_at count inputs (conjunction own care) point ≡ true)
        ⊎ (seen_at count inputs (conjunction own care) point ≡ false)
        → ((test point && seen_at count inputs care point) ≡ true)
        ⊎ ((test point && seen_at count inputs care point) ≡ false)
        → seen_at count inputs (conjunction own care) point
        ≡ (test point && seen_at count inputs care point)
    cases (inl seen) other = seen ∙ sym (forth seen)
    cases (inr unseen) (inl both) = back both ∙ sym both
    cases (inr unseen) (inr none) = unseen ∙ sym none

-- a table's signal has its value at the bits of its inputs
own_value : (circuit : Circuit) (table : Table) → IsSound circuit
    → driver circuit.tables table.output ≡ Some table → (leaves : ℕ → Bool)
    → own_function circuit table.output leaves
    ≡ table_value table (values (map (own_function circuit) table.inputs) leaves)
unfolding leaves_at
own_value circuit table sound at leaves =
    obeyed circuit.tables (leaves_at circuit leaves) sound.acyclic
    (driven_free circuit (sound_settled circuit sound) _ _) table.output table at
    ∙ ap (table_value table) (sym (values_of_names circuit table.inputs leaves))

not_twice : (a : Bool) → a ≡ not (not a)
not_twice true = refl
not_twice false = refl

module _ (circuit : Circuit) (table : Table) (sound : IsSound circuit)
    (at : driver circuit.tables table.output ≡ Some table) where
  free_there : (point : List Bool)
      → seen_at (leaf_count circuit) (map (own_function circuit) table.inputs)
      (is_seen circuit table.output) point ≡ not (is_dont_care circuit table point)
  unfolding is_dont_care
  free_there point = not_twice (seen_at (leaf_count circuit) (map
      (own_function circuit) table.inputs)
      (is_seen circuit table.output) point)

  on_there : (point : List Bool) → (held_meaning (tested circuit table)).on point
      ≡ (meaning_of table (is_dont_care circuit table)).on point
  on_there point =
      seen_both (leaf_count circuit) (map (own_function circuit) table.inputs)
      (own_function circuit table.output) (is_seen circuit table.output) (table_value table)
      (own_over circuit table.output) (seen_over circuit table.output)
      (inputs_over circuit table.inputs) (own_value circuit table sound at) point
      ∙ ap (λ (b : Bool). table_value table point && b) (free_there point)

  off_there : (point : List Bool) → (held_meaning (tested circuit table)).off point
      ≡ (meaning_of table (is_dont_care circuit table)).off point
  off_there point =
      seen_both (leaf_count circuit) (map (own_function circuit) table.inputs)
      (complement (own_function circuit table.output)) (is_seen circuit table.output)
      (λ bits. not (table_value table bits))
      (λ one other same. ap not (own_over circuit table.output one other same))
      (seen_over circuit table.output) (inputs_over circuit table.inputs)
      (λ leaves. ap not (own_value circuit table sound at leaves)) point
      ∙ ap (λ (b : Bool). not (table_value table point) && b) (free_there point)

  -- the minimum of rows by these functions is that under the table's don't-cares
  pub least_same : (rows : List (List (Option Bool))) → HasWidth (length table.inputs) rows
      → minimum_rows (held_meaning (tested circuit table)) rows
      ≡ minimum_rows (meaning_of table (is_dont_care circuit table)) rows
  least_same rows wide =
      minimum_same (held_meaning (tested circuit table)) (meaning_of table
      (is_dont_care circuit table))
      rows (subst (λ (n : ℕ). HasWidth n rows)
      (sym (length-map table.inputs (own_function circuit))) wide)
      (λ point long. on_there point) (λ point long. off_there point)
