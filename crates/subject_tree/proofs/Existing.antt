-- There are trees of signals: each is made over those of lower rank.
use Rattle.std.proofs.Common.{◌≡◌, ℕ, zero, suc, ◌<◌, Bool, true, false, if◌then◌else◌, Option, Some, None, List, map, length, unwrap_or, refl, sym, ap, ◌∙◌, subst, arith}
use Rattle.std.specs.List.{AllByRecursion}
use Rattle.std.proofs.lemmas.Option.{same_Some}
use Rattle.circuit_model.specs.Values.{driver}
use Rattle.circuit_model.specs.Soundness.{IsShaped}
use Rattle.circuit_model.specs.declared.circuit.Tri.{Tri}
use Rattle.circuit_model.specs.declared.circuit.Table.{Table}
use Rattle.circuit_model.specs.declared.circuit.Circuit.{Circuit}
use Rattle.circuit_laws.specs.Ranks.{HasRank}
use Rattle.circuit_laws.proofs.Names.{all_has, all_from_has}
use Rattle.circuit_laws.proofs.Drivers.{driver_all}
use Rattle.subject_tree.specs.Trees.{Tree, Leaf}
use Rattle.subject_tree.specs.Tables.{table_tree, is_constant}
use Rattle.subject_tree.specs.Forest.{is_put, AreTrees}
use Rattle.subject_tree.proofs.Growing.{put_table, same_map, mapped_length}
use Rattle.subject_tree.proofs.TableValues.{table_tree-there}

-- the tree of a signal that is put into its reader, over the trees of signals
put_tree : (List ℕ → Tree (List ℕ)) → List ℕ → Option Table → Tree (List ℕ)
put_tree tree signal None = Leaf signal
put_tree tree signal (Some table) = unwrap_or (table_tree (map tree table.inputs) table) (Leaf signal)

-- the trees of signals to a depth
tree_to : Circuit → ℕ → List ℕ → Tree (List ℕ)
tree_to circuit zero signal = Leaf signal
tree_to circuit (suc depth) signal =
    if is_put circuit signal then put_tree (tree_to circuit depth) signal (driver circuit.tables signal) else Leaf signal

-- the trees of lower signals to two depths are one
same_below : (circuit : Circuit) (r : HasRank circuit.tables) (f g : List ℕ → Tree (List ℕ)) (signal : List ℕ) (table : Table) → driver circuit.tables signal ≡ Some table
    → ((name : List ℕ) → r.rank name < r.rank signal → f name ≡ g name) → map f table.inputs ≡ map g table.inputs
same_below circuit r f g signal table at same =
    same_map f g table.inputs (all_from_has (λ name. f name ≡ g name) table.inputs (λ name among.
    same name (all_has (λ input. r.rank input < r.rank signal) table.inputs (r.falls signal table at) name among)))

-- past its rank the tree of a signal stays
settled : (circuit : Circuit) (r : HasRank circuit.tables) (m n : ℕ) (signal : List ℕ) → r.rank signal < m → r.rank signal < n → tree_to circuit m signal ≡ tree_to circuit n signal
unfolding tree_to put_tree
settled circuit r zero n signal low high = absurd (omega (arith, low))
settled circuit r (suc m) zero signal low high = absurd (omega (arith, high))
settled circuit r (suc m) (suc n) signal low high =
    ap (λ (t : Tree (List ℕ)). if is_put circuit signal then t else Leaf signal) (cases (driver circuit.tables signal) refl (λ name lower. settled circuit r m n name (omega (arith, low, lower)) (omega (arith, high, lower))))
  where
    cases : (found : Option Table) → driver circuit.tables signal ≡ found → ((name : List ℕ) → r.rank name < r.rank signal → tree_to circuit m name ≡ tree_to circuit n name)
        → put_tree (tree_to circuit m) signal found ≡ put_tree (tree_to circuit n) signal found
    cases None e same = refl
    cases (Some table) e same =
        ap (λ (ts : List (Tree (List ℕ))). unwrap_or (table_tree ts table) (Leaf signal)) (same_below circuit r (tree_to circuit m) (tree_to circuit n) signal table e same)

there : (found : Option (Tree (List ℕ))) (t : Tree (List ℕ)) → (found ≡ None → ⊥) → found ≡ Some (unwrap_or found t)
there None t some = absurd (some refl)
there (Some u) t some = refl

pub trees_there : (circuit : Circuit) → HasRank circuit.tables → AllByRecursion IsShaped circuit.tables → (tree : List ℕ → Tree (List ℕ)) × AreTrees circuit tree
unfolding tree_to put_tree
trees_there circuit r shaped = (tree, record { leaf = leaf; put = put })
  where
    tree : List ℕ → Tree (List ℕ)
    tree signal = tree_to circuit (suc (r.rank signal)) signal

    leaf : (signal : List ℕ) → is_put circuit signal ≡ false → tree signal ≡ Leaf signal
    leaf signal e = ap (λ (b : Bool). if b then put_tree (tree_to circuit (r.rank signal)) signal (driver circuit.tables signal) else Leaf signal) e

    full : (signal : List ℕ) (table : Table) → is_put circuit signal ≡ true → driver circuit.tables signal ≡ Some table → is_constant table ≡ false
    full signal table e at =
        let (other, there, is) = put_table circuit signal e in
        ap is_constant (same_Some table other (sym at ∙ there)) ∙ is

    put : (signal : List ℕ) (table : Table) → is_put circuit signal ≡ true → driver circuit.tables signal ≡ Some table → table_tree (map tree table.inputs) table ≡ Some (tree signal)
    put signal table e at =
        let widths : AllByRecursion (λ (row : List Tri). length row ≡ length (map tree table.inputs)) table.rows =
        subst (λ (n : ℕ). AllByRecursion (λ (row : List Tri). length row ≡ n) table.rows) (sym (mapped_length tree table.inputs)) (driver_all IsShaped circuit.tables shaped signal table at).0 in
        let lower : map tree table.inputs ≡ map (tree_to circuit (r.rank signal)) table.inputs =
        same_below circuit r tree (tree_to circuit (r.rank signal)) signal table at (λ name low. settled circuit r (suc (r.rank name)) (r.rank signal) name (omega arith) low) in
        there (table_tree (map tree table.inputs) table) (Leaf signal) (table_tree-there (λ name. true) (map tree table.inputs) table widths (full signal table e at))
        ∙ (ap (λ (ts : List (Tree (List ℕ))). Some (unwrap_or (table_tree ts table) (Leaf signal))) lower
        ∙ (ap (λ (o : Option Table). Some (put_tree (tree_to circuit (r.rank signal)) signal o)) (sym at)
        ∙ ap (λ (b : Bool). Some (if b then put_tree (tree_to circuit (r.rank signal)) signal (driver circuit.tables signal) else Leaf signal)) (sym e)))
