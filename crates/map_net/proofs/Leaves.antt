-- The leaves of the trees of tables.
use Rattle.std.proofs.Common.{◌≡◌, ◌⊎◌, ℕ, zero, suc, ◌+◌, ◌<◌, ◌≤◌, ◌&&◌, Bool, true}
use Rattle.std.proofs.Common.{false, if◌then◌else◌, Option, Some, None, List, [], ◌∷◌, ◌++◌, map}
use Rattle.std.proofs.Common.{bytes_eq, refl, sym, ap, subst, inl, inr, arith}
use Rattle.std.specs.Prelude.{option_map, option_to_list}
use Rattle.std.specs.Option.{option_map_or}
use Rattle.circuit_model.specs.Names.{has}
use Rattle.circuit_model.specs.Counts.{is_literal}
use Rattle.circuit_model.specs.Values.{driver}
use Rattle.circuit_model.specs.declared.circuit.Tri.{Tri}
use Rattle.circuit_model.specs.declared.circuit.Tri.TheVariants.{Zero, One, Free}
use Rattle.circuit_model.specs.declared.circuit.Table.{Table}
use Rattle.circuit_model.specs.declared.circuit.Circuit.{Circuit}
use Rattle.circuit_laws.specs.Ranks.{HasRank}
use Rattle.circuit_laws.proofs.Names.{name_itself, all_has, has_head, has_tail}
use Rattle.circuit_laws.proofs.Drivers.{driver_reads}
use Rattle.subject_tree.specs.Trees.{Tree, Leaf, Inv, Nand, complement_of, product_of, sum_of}
use Rattle.subject_tree.specs.Tables.{with_front, joined, literal_trees, row_tree}
use Rattle.subject_tree.specs.Tables.{row_trees, by_phase, table_tree}
use Rattle.subject_tree.specs.Forest.{uses_in_row, uses_in_rows, uses_of, is_put, is_put_fate}
use Rattle.subject_tree.specs.Forest.{fate_of, AreTrees}
use Rattle.subject_tree.specs.Roots.{tree_over}
use Rattle.map_net.specs.Standing.{IsLeafOf, IsTakenAsLeaf}

some_is : {A : Type 0} (x y : A) → Some x ≡ Some y → x ≡ y
some_is x y e = let off = e in cc

-- a leaf of a complement, of a product and of a sum
of_complement : {A : Type 0} (x : A) (t : Tree A) → IsLeafOf x (complement_of t) → IsLeafOf x t
of_complement x (Leaf y) h = h
of_complement x (Inv t) h = h
of_complement x (Nand t u) h = h

of_product : {A : Type 0} (x : A) (t u : Tree A) → IsLeafOf x (product_of t u)
    → IsLeafOf x t ⊎ IsLeafOf x u
of_product x t u h = h

of_sum : {A : Type 0} (x : A) (t u : Tree A) → IsLeafOf x (sum_of t u) → IsLeafOf x t ⊎ IsLeafOf x u
of_sum x t u (inl h) = inl (of_complement x t h)
of_sum x t u (inr h) = inr (of_complement x u h)

of_phase : {A : Type 0} (x : A) (phase : Bool) (t : Tree A) → IsLeafOf x (by_phase phase t)
    → IsLeafOf x t
of_phase x true t h = h
of_phase x false t h = of_complement x t h

-- a leaf of one of some trees
abbrev pub InSome : {A : Type 0} → A → List (Tree A) → Type 0
InSome x [] = ⊥
InSome x (t ∷ ts) = IsLeafOf x t ⊎ InSome x ts

-- joined trees have the leaves of their parts
of_joined : {A : Type 0} (x : A) (join : Tree A → Tree A → Tree A)
    → ((t u : Tree A) → IsLeafOf x (join t u) → IsLeafOf x t ⊎ IsLeafOf x u)
    → (ts : List (Tree A)) (made : Tree A) → joined join ts ≡ Some made → IsLeafOf x made
    → InSome x ts
unfolding joined
of_joined x join split [] made e h = absurd (let off = e in cc)
of_joined x join split (t ∷ ts) made e h = by (joined join ts) refl
    (subst (IsLeafOf x) (sym (some_is _ _ e)) h)
    (λ behind f k. of_joined x join split ts behind f k)
  where
    side : (behind : Tree _) → IsLeafOf x t ⊎ IsLeafOf x behind → (IsLeafOf x behind → InSome x ts)
        → IsLeafOf x t ⊎ InSome x ts
    side behind (inl k) rest = inl k
    side behind (inr k) rest = inr (rest k)

    by : (found : Option (Tree _)) → joined join ts ≡ found → IsLeafOf x (with_front join t found)
        → ((behind : Tree _) → joined join ts ≡ Some behind → IsLeafOf x behind → InSome x ts)
        → IsLeafOf x t ⊎ InSome x ts
    by None f k rest = inl k
    by (Some behind) f k rest = side behind (split t behind k) (rest behind f)

-- a leaf of an input whose character in a row is a literal
abbrev pub ReadsLeaf : {A : Type 0} → A → List (Tree A) → List Tri → Type 0
ReadsLeaf x [] row = ⊥
ReadsLeaf x (t ∷ ts) [] = ⊥
ReadsLeaf x (t ∷ ts) (character ∷ row) = ((is_literal character ≡ true)
    × IsLeafOf x t) ⊎ ReadsLeaf x ts row

of_literals : {A : Type 0} (x : A) (ts : List (Tree A)) (row : List Tri)
    → InSome x (literal_trees ts row) → ReadsLeaf x ts row
unfolding literal_trees
of_literals x [] row h = h
of_literals x (t ∷ ts) [] h = h
of_literals x (t ∷ ts) (Zero ∷ row) (inl h) = inl (refl, of_complement x t h)
of_literals x (t ∷ ts) (Zero ∷ row) (inr h) = inr (of_literals x ts row h)
of_literals x (t ∷ ts) (One ∷ row) (inl h) = inl (refl, h)
of_literals x (t ∷ ts) (One ∷ row) (inr h) = inr (of_literals x ts row h)
of_literals x (t ∷ ts) (Free ∷ row) h = inr (of_literals x ts row h)

-- a leaf of an input that has a literal in some row
abbrev pub ReadsSome : {A : Type 0} → A → List (Tree A) → List (List Tri) → Type 0
ReadsSome x inputs [] = ⊥
ReadsSome x inputs (row ∷ rows) = ReadsLeaf x inputs row ⊎ ReadsSome x inputs rows

of_rows : {A : Type 0} (x : A) (inputs : List (Tree A)) (rows : List (List Tri))
    → InSome x (row_trees inputs rows) → ReadsSome x inputs rows
unfolding row_trees
of_rows x inputs [] h = h
of_rows x inputs (row ∷ rows) h = by (row_tree inputs row) refl h (λ k. of_rows x inputs rows k)
  where
    by : (found : Option (Tree _)) → row_tree inputs row ≡ found
        → InSome x (option_to_list found ++ row_trees inputs rows)
        → (InSome x (row_trees inputs rows) → ReadsSome x inputs rows)
        → ReadsLeaf x inputs row ⊎ ReadsSome x inputs rows
    by None f k rest = inr (rest k)
    by (Some t) f (inl k) rest = inl (of_literals x inputs row (of_joined x product_of (of_product
        x) (literal_trees inputs row) t f k))
    by (Some t) f (inr k) rest = inr (rest k)

of_table : {A : Type 0} (x : A) (inputs : List (Tree A)) (table : Table) (made : Tree A)
    → table_tree inputs table ≡ Some made → IsLeafOf x made → ReadsSome x inputs table.rows
of_table x inputs table made e h = by (joined sum_of (row_trees inputs table.rows)) refl e
  where
    by : (found : Option (Tree _)) → joined sum_of (row_trees inputs table.rows) ≡ found
        → option_map (by_phase table.phase) found ≡ Some made → ReadsSome x inputs table.rows
    by None f k = absurd (let off = k in cc)
    by (Some t) f k =
        of_rows x inputs table.rows
        (of_joined x sum_of (of_sum x) (row_trees inputs table.rows) t f
        (of_phase x table.phase t (subst (IsLeafOf x) (sym (some_is _ _ k)) h)))

-- an input over whose tree a leaf stands, with how often rows use it
pub record HasUse (tree : List ℕ
    → Tree (List ℕ)) (x : List ℕ) (inputs : List (List ℕ)) (uses : List ℕ → ℕ) : Type 0 where
  pub name : List ℕ
  pub among : has inputs name ≡ true
  pub over : IsLeafOf x (tree name)
  pub used : 0 < uses name

row_use : (tree : List ℕ → Tree (List ℕ)) (x : List ℕ) (inputs : List (List ℕ)) (row : List Tri)
    → ReadsLeaf x (map tree inputs) row → HasUse tree x inputs (λ name. uses_in_row name inputs row)
unfolding uses_in_row
row_use tree x [] row h = absurd h
row_use tree x (input ∷ inputs) [] h = absurd h
row_use tree x (input ∷ inputs) (character ∷ row) (inl h) = record {
  name = input;
  among = has_head input inputs;
  over = h.1;
  used = counted (is_literal character && bytes_eq input input) (rw (h.0, name_itself input) refl);
}
  where
    counted : (b : Bool) → b ≡ true → 0 < (if b then 1 else 0) + uses_in_row input inputs row
    counted true e = omega arith
    counted false e = absurd (let off = e in cc)
row_use tree x (input ∷ inputs) (character ∷ row) (inr h) =
    let rest = row_use tree x inputs row h in
    let less : 0 < uses_in_row rest.name inputs row = rest.used in
    record {
      name = rest.name;
      among = has_tail input inputs rest.name rest.among;
      over = rest.over;
      used = omega (arith, less);
    }

rows_use : (tree : List ℕ
    → Tree (List ℕ)) (x : List ℕ) (inputs : List (List ℕ)) (rows : List (List Tri))
    → ReadsSome x (map tree inputs) rows
    → HasUse tree x inputs (λ name. uses_in_rows name inputs rows)
unfolding uses_in_rows
rows_use tree x inputs [] h = absurd h
rows_use tree x inputs (row ∷ rows) (inl h) =
    let first = row_use tree x inputs row h in
    let less : 0 < uses_in_row first.name inputs row = first.used in
    record { name = first.name; among = first.among; over = first.over; used = omega (arith, less) }
rows_use tree x inputs (row ∷ rows) (inr h) =
    let rest = rows_use tree x inputs rows h in
    let less : 0 < uses_in_rows rest.name inputs rows = rest.used in
    record { name = rest.name; among = rest.among; over = rest.over; used = omega (arith, less) }

-- what the table of a signal uses is used
driver_uses : (tables : List Table) (signal name : List ℕ) (table : Table)
    → driver tables signal ≡ Some table
    → uses_in_rows name table.inputs table.rows ≤ uses_of tables name
unfolding driver uses_of
driver_uses [] signal name table e = absurd (let off = e in cc)
driver_uses (first ∷ tables) signal name table e = by (bytes_eq signal first.output) e
    (λ h. driver_uses tables signal name table h)
  where
    by : (b : Bool) → (if b then Some first else driver tables signal) ≡ Some table
        → (driver tables signal ≡ Some table
        → uses_in_rows name table.inputs table.rows ≤ uses_of tables name)
        → uses_in_rows name table.inputs table.rows ≤ uses_in_rows name first.inputs first.rows +
        uses_of tables name
    by true h rest =
        let same : uses_in_rows name first.inputs first.rows ≡ uses_in_rows name table.inputs
        table.rows
        = ap (λ (t : Table). uses_in_rows name t.inputs t.rows) (some_is first table h) in
        omega (arith, same)
    by false h rest = let less = rest h in omega (arith, less)

-- a signal whose table is put into its reader has a table
put_driven : (circuit : Circuit) (signal : List ℕ) → is_put circuit signal ≡ true
    → (table : Table) × (driver circuit.tables signal ≡ Some table)
unfolding is_put
put_driven circuit signal h = by (driver circuit.tables signal) refl h
  where
    by : (found : Option Table) → driver circuit.tables signal ≡ found
        → option_map_or (λ (table : Table). is_put_fate (fate_of circuit table)) found false ≡ true
        → (table : Table) × (driver circuit.tables signal ≡ Some table)
    by None f k = absurd (let off = k in cc)
    by (Some table) f k = (table, f)

-- each leaf of the tree of a table is a signal that stands, of lower rank
pub record IsBelow (circuit : Circuit) (by : HasRank circuit.tables) (bound : ℕ) (signal : List ℕ) :
    Type 0 where
  pub taken : IsTakenAsLeaf circuit signal
  pub lower : by.rank signal < bound

pub leaf_below : (circuit : Circuit) (tree : List ℕ → Tree (List ℕ)) (r : HasRank circuit.tables)
    → AreTrees circuit tree → (n : ℕ) (signal : List ℕ) (table : Table) (made : Tree (List ℕ))
    (x : List ℕ)
    → r.rank signal < n → driver circuit.tables signal ≡ Some table
    → tree_over tree table ≡ Some made → IsLeafOf x made → IsBelow circuit r (r.rank signal) x
leaf_below circuit tree r trees zero signal table made x low at is h = absurd (omega arith)
leaf_below circuit tree r trees (suc n) signal table made x low at is h =
    by (rows_use tree x table.inputs table.rows (of_table x (map tree table.inputs) table made is
    h))
    (λ name other t below found over leaf. leaf_below circuit tree r trees n name other t x below
    found over leaf)
  where
    by : HasUse tree x table.inputs (λ name. uses_in_rows name table.inputs table.rows)
        → ((name : List ℕ) (other : Table) (t : Tree (List ℕ)) → r.rank name < n
        → driver circuit.tables name ≡ Some other → tree_over tree other ≡ Some t
        → IsLeafOf x t → IsBelow circuit r (r.rank name) x)
        → IsBelow circuit r (r.rank signal) x
    by one rest = cases (is_put circuit one.name) refl
      where
        falls : r.rank one.name < r.rank signal
        falls = all_has (λ input. r.rank input < r.rank signal) table.inputs
            (r.falls signal table at) one.name one.among

        used : 0 < uses_of circuit.tables one.name
        used =
            let some : 0 < uses_in_rows one.name table.inputs table.rows = one.used in
            let less = driver_uses circuit.tables signal one.name table at in
            omega (arith, some, less)

        wider : IsBelow circuit r (r.rank one.name) x → IsBelow circuit r (r.rank signal) x
        wider below = record {
          taken = below.taken;
          lower =
              (let less = below.lower in let more = falls in omega (arith, less, more));
        }

        leaf_is : Leaf one.name ≡ tree one.name → x ≡ one.name
        leaf_is e = let over : IsLeafOf x (Leaf one.name) = subst (IsLeafOf x) (sym e) one.over in
            sym over

        own : x ≡ one.name → is_put circuit one.name ≡ false → IsBelow circuit r (r.rank signal) x
        own e h = subst (λ (s : List ℕ). IsBelow circuit r (r.rank signal) s) (sym e)
            (record {
              taken = record {
                whole = h;
                used = used;
                read = driver_reads circuit.tables signal
                    table one.name at one.among;
              };
              lower = falls;
            })

        cases : (b : Bool) → is_put circuit one.name ≡ b → IsBelow circuit r (r.rank signal) x
        cases false h = own (leaf_is (sym (trees.leaf one.name h))) h
        cases true h =
            let (other, found) = put_driven circuit one.name h in
            wider (rest one.name other (tree one.name) (let more = falls in omega (arith, more))
            found (trees.put one.name other h found) one.over)

-- each leaf of the tree of a table is a signal that stands
pub leaf_stands : (circuit : Circuit) (tree : List ℕ → Tree (List ℕ)) → HasRank circuit.tables
    → AreTrees circuit tree → (signal : List ℕ) (table : Table) (made : Tree (List ℕ)) (x : List ℕ)
    → driver circuit.tables signal ≡ Some table → tree_over tree table ≡ Some made
    → IsLeafOf x made → IsTakenAsLeaf circuit x
leaf_stands circuit tree r trees signal table made x at is h =
    (leaf_below circuit tree r trees (suc (r.rank signal)) signal table made x (omega arith) at is
    h).taken
