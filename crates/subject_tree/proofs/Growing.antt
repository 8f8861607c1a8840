-- The trees of signals: there is one choice of them, and they have their signals' values.
use Rattle.std.proofs.Common.{◌≡◌, ℕ, zero, suc, ◌<◌, Bool, true, false, Option, Some, None, List, [], ◌∷◌, map, length, refl, sym, ap, ◌∙◌, subst, arith}
use Rattle.std.specs.List.{AllByRecursion}
use Rattle.std.specs.Option.{option_map_or}
use Rattle.std.proofs.lemmas.Bool.{false≢true}
use Rattle.std.proofs.lemmas.Option.{same_Some}
use Rattle.circuit_model.specs.Values.{driver, table_value}
use Rattle.circuit_model.specs.Soundness.{IsShaped}
use Rattle.circuit_model.specs.declared.circuit.Tri.{Tri}
use Rattle.circuit_model.specs.declared.circuit.Table.{Table}
use Rattle.circuit_model.specs.declared.circuit.Circuit.{Circuit}
use Rattle.circuit_laws.specs.Ranks.{HasRank}
use Rattle.circuit_laws.proofs.Names.{all_has, all_from_has}
use Rattle.circuit_laws.proofs.Drivers.{driver_all}
use Rattle.subject_tree.specs.Trees.{Tree, value_at}
use Rattle.subject_tree.specs.Tables.{table_tree, is_constant}
use Rattle.subject_tree.specs.Forest.{fate_by, fate_of, is_put_fate, is_put, AreTrees, PutObey}
use Rattle.subject_tree.proofs.TableValues.{table_tree-value}

put_full : (constant outer : Bool) (uses : ℕ) → is_put_fate (fate_by constant outer uses) ≡ true → constant ≡ false
put_full true outer uses e = absurd (false≢true e)
put_full false outer uses e = refl

-- a signal that is put into its reader has a table, which is not constant
pub put_table : (circuit : Circuit) (signal : List ℕ) → is_put circuit signal ≡ true → (table : Table) × (driver circuit.tables signal ≡ Some table) × (is_constant table ≡ false)
unfolding is_put fate_of
put_table circuit signal put = cases (driver circuit.tables signal) refl put
  where
    cases : (found : Option Table) → driver circuit.tables signal ≡ found → option_map_or (λ (table : Table). is_put_fate (fate_of circuit table)) found false ≡ true
        → (table : Table) × (driver circuit.tables signal ≡ Some table) × (is_constant table ≡ false)
    cases None e put = absurd (false≢true put)
    cases (Some table) e put = (table, e, put_full _ _ _ put)

pub same_map : {X : Type 0} (f g : List ℕ → X) (names : List (List ℕ)) → AllByRecursion (λ name. f name ≡ g name) names → map f names ≡ map g names
same_map f g [] h = refl
same_map {X} f g (name ∷ names) h =
    ap (λ (x : X). x ∷ map f names) h.0 ∙ ap (λ (xs : List X). g name ∷ xs) (same_map f g names h.1)

pub trees_only : (circuit : Circuit) (f g : List ℕ → Tree (List ℕ)) → HasRank circuit.tables → AreTrees circuit f → AreTrees circuit g → (signal : List ℕ) → f signal ≡ g signal
trees_only circuit f g r first second signal = below (suc (r.rank signal)) signal (omega arith)
  where
    below : (n : ℕ) (signal : List ℕ) → r.rank signal < n → f signal ≡ g signal
    below zero signal low = absurd (omega arith)
    below (suc n) signal low = cases (is_put circuit signal) refl (below n)
      where
        cases : (b : Bool) → is_put circuit signal ≡ b → ((name : List ℕ) → r.rank name < n → f name ≡ g name) → f signal ≡ g signal
        cases false e more = first.leaf signal e ∙ sym (second.leaf signal e)
        cases true e more =
            let (table, at, full) = put_table circuit signal e in
            let same : map f table.inputs ≡ map g table.inputs =
            same_map f g table.inputs (all_from_has (λ name. f name ≡ g name) table.inputs (λ name among.
            let falls : r.rank name < r.rank signal = all_has (λ input. r.rank input < r.rank signal) table.inputs (r.falls signal table at) name among in
            more name (omega arith))) in
            same_Some (f signal) (g signal) (sym (first.put signal table e at) ∙ (ap (λ (ts : List (Tree (List ℕ))). table_tree ts table) same ∙ second.put signal table e at))

mapped_value : (value : List ℕ → Bool) (tree : List ℕ → Tree (List ℕ)) (names : List (List ℕ)) → AllByRecursion (λ name. value_at value (tree name) ≡ value name) names → map (value_at value) (map tree names) ≡ map value names
mapped_value value tree [] h = refl
mapped_value value tree (name ∷ names) h =
    ap (λ (x : Bool). x ∷ map (value_at value) (map tree names)) h.0 ∙ ap (λ (xs : List Bool). value name ∷ xs) (mapped_value value tree names h.1)

pub mapped_length : (tree : List ℕ → Tree (List ℕ)) (names : List (List ℕ)) → length (map tree names) ≡ length names
mapped_length tree [] = refl
mapped_length tree (name ∷ names) = ap (λ (n : ℕ). suc n) (mapped_length tree names)

over_inputs : (value : List ℕ → Bool) (tree : List ℕ → Tree (List ℕ)) (table : Table) (t : Tree (List ℕ)) → IsShaped table → is_constant table ≡ false → table_tree (map tree table.inputs) table ≡ Some t
    → AllByRecursion (λ name. value_at value (tree name) ≡ value name) table.inputs → value_at value t ≡ table_value table (map value table.inputs)
over_inputs value tree table t shaped full made inputs =
    table_tree-value value (map tree table.inputs) table t
    (subst (λ (n : ℕ). AllByRecursion (λ (row : List Tri). length row ≡ n) table.rows) (sym (mapped_length tree table.inputs)) shaped.0) full made
    ∙ ap (table_value table) (mapped_value value tree table.inputs inputs)

-- the tree of a signal has the signal's value
signal_worth : (circuit : Circuit) (tree : List ℕ → Tree (List ℕ)) (value : List ℕ → Bool) → HasRank circuit.tables → AllByRecursion IsShaped circuit.tables → AreTrees circuit tree → PutObey circuit value
    → (signal : List ℕ) → value_at value (tree signal) ≡ value signal
unfolding value_at
signal_worth circuit tree value r shaped trees obey signal = below (suc (r.rank signal)) signal (omega arith)
  where
    below : (n : ℕ) (signal : List ℕ) → r.rank signal < n → value_at value (tree signal) ≡ value signal
    below zero signal low = absurd (omega arith)
    below (suc n) signal low = cases (is_put circuit signal) refl (below n)
      where
        cases : (b : Bool) → is_put circuit signal ≡ b → ((name : List ℕ) → r.rank name < n → value_at value (tree name) ≡ value name) → value_at value (tree signal) ≡ value signal
        cases false e more = ap (value_at value) (trees.leaf signal e)
        cases true e more =
            let (table, at, full) = put_table circuit signal e in
            over_inputs value tree table (tree signal) (driver_all IsShaped circuit.tables shaped signal table at) full (trees.put signal table e at)
            (all_from_has (λ name. value_at value (tree name) ≡ value name) table.inputs (λ name among.
            let falls : r.rank name < r.rank signal = all_has (λ input. r.rank input < r.rank signal) table.inputs (r.falls signal table at) name among in
            more name (omega arith)))
            ∙ sym (obey signal table e at)

pub trees_worth : (circuit : Circuit) (tree : List ℕ → Tree (List ℕ)) (value : List ℕ → Bool) → HasRank circuit.tables → AllByRecursion IsShaped circuit.tables → AreTrees circuit tree → PutObey circuit value
    → (signal : List ℕ) (table : Table) → driver circuit.tables signal ≡ Some table → is_constant table ≡ false → (t : Tree (List ℕ)) → table_tree (map tree table.inputs) table ≡ Some t
    → value_at value t ≡ table_value table (map value table.inputs)
trees_worth circuit tree value r shaped trees obey signal table at full t made =
    over_inputs value tree table t (driver_all IsShaped circuit.tables shaped signal table at) full made
    (all_from_has (λ name. value_at value (tree name) ≡ value name) table.inputs (λ name among. signal_worth circuit tree value r shaped trees obey name))
