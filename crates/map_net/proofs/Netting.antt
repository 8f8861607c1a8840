-- The tables of groups and those that no gates stand for, together.
use Rattle.std.proofs.Common.{◌≡◌, ◌⊎◌, ℕ, zero, suc, ◌<◌, Bool, true, false, not, ◌&&◌, ◌||◌}
use Rattle.std.proofs.Common.{Option, Some, None, List, [], ◌∷◌, ◌++◌, flat_map, filter}
use Rattle.std.proofs.Common.{slice_get, bytes_eq, cond, refl, sym, ap, ◌∙◌, subst, inl, inr, arith}
use Rattle.std.specs.List.{AllByRecursion}
use Rattle.std.proofs.lemmas.Bool.{false≢true, or_cases}
use Rattle.std.proofs.lemmas.Option.{none-some, same_Some}
use Rattle.sis_base.specs.Rows.{value_by_phase, some_matches, matches}
use Rattle.circuit_model.specs.Names.{has, all_different}
use Rattle.circuit_model.specs.Values.{driver, driven_value, table_value}
use Rattle.circuit_model.specs.Runs.{latch_outputs}
use Rattle.circuit_model.specs.Soundness.{outputs_of, control_of, leaf_names, given, IsShaped}
use Rattle.circuit_model.specs.Soundness.{IsSound}
use Rattle.circuit_model.specs.declared.circuit.Table.{Table}
use Rattle.circuit_model.specs.declared.circuit.Circuit.{Circuit}
use Rattle.circuit_laws.specs.Edits.{with_tables}
use Rattle.circuit_laws.specs.Ranks.{HasRank}
use Rattle.circuit_laws.specs.Valuations.{Obeys}
use Rattle.circuit_laws.proofs.Names.{AreApart, different_apart, apart_different, different_none}
use Rattle.circuit_laws.proofs.Names.{different_cons, different_head, different_tail, all_has}
use Rattle.circuit_laws.proofs.Names.{all_from_has, has_front, has_back, has_either, has_not}
use Rattle.circuit_laws.proofs.Names.{has_neither, has_head, same_name}
use Rattle.circuit_laws.proofs.Drivers.{driver_name, output_driver}
use Rattle.circuit_laws.proofs.Values.{value_same}
use Rattle.circuit_laws.proofs.Sound.{IsWord, words_parts, given_words}
use Rattle.subject_tree.specs.Trees.{Tree, Leaf, Inv, Nand, value_at}
use Rattle.subject_tree.specs.Tables.{is_constant}
use Rattle.subject_tree.specs.Forest.{fate_of, fate_by, AreTrees}
use Rattle.subject_tree.specs.Roots.{is_root_fate, roots_of, tree_over}
use Rattle.subject_tree.specs.declared.judging.Role.{Role}
use Rattle.subject_tree.specs.declared.judging.Role.TheVariants.{Constant, Put, Unused}
use Rattle.subject_tree.specs.declared.judging.Role.TheVariants.{Root}
use Rattle.subject_tree.proofs.Growing.{trees_worth}
use Rattle.subject_tree.proofs.Rooting.{never-none, root-full}
use Rattle.map_net.specs.Standing.{IsLeafOf}
use Rattle.map_net.specs.Mapping.{buffer, left_by, tables_left}
use Rattle.pattern_set.proofs.Exact.{In, in_left, in_right, in_either, in_flat, from_flat}
use Rattle.map_net.proofs.Inside.{in_place, place_in, all_in, in_all, in_filter, from_filter, driver_in}
use Rattle.map_net.proofs.Inside.{in_driver, in_output, output_in}
use Rattle.map_net.proofs.Leaves.{leaf_below}
use Rattle.map_net.proofs.Living.{stands_as, HasTable, IsLive, output_live, latch_live, constant_live}
use Rattle.map_net.proofs.Living.{leaf_live}
use Rattle.map_net.proofs.Realizing.{IsEarlier, IsGroup, Stands, IsGrouped, IsRealized, tables_different}
use Rattle.map_net.proofs.Realizing.{leaf_apart, given_leaf}
use Rattle.map_net.proofs.Grouping.{IsGated, AreMadeOf, HasGroup, OfGroup, root_group}
use Rattle.map_net.proofs.Grouping.{table_group, made_names, made_different, made_all, outputs_append}
use Rattle.map_net.proofs.Grouping.{GatedRoot}

-- names of new signals: words, all different, that the circuit does not drive and that are not the
-- control
pub record AreFresh (circuit : Circuit) (fresh : List (List ℕ)) : Type 0 where
  pub different : all_different fresh ≡ true
  pub words : AllByRecursion IsWord fresh
  pub apart : (name : List ℕ) → has fresh name ≡ true → has (given circuit) name ≡ false
  pub control : (name : List ℕ) → has fresh name ≡ true
      → has (control_of circuit.timing) name ≡ false

-- what is left of a table: itself, where it is constant, or the table that hands on a leaf
pub record IsHanded (circuit : Circuit) (tree : List ℕ → Tree (List ℕ)) (table x : Table) : Type 0
  where
    pub leaf : List ℕ
    pub root : is_root_fate (fate_of circuit table) ≡ true
    pub is : tree_over tree table ≡ Some (Leaf leaf)
    pub same : x ≡ buffer leaf table.output

abbrev pub IsLeft : Circuit → (List ℕ → Tree (List ℕ)) → Table → Table → Type 0
IsLeft circuit tree table x =
    ((fate_of circuit table ≡ Constant) × (x ≡ table)) ⊎ IsHanded circuit tree table x

left_is : (circuit : Circuit) (tree : List ℕ → Tree (List ℕ)) (table x : Table)
    → In x (left_by (fate_of circuit table) (tree_over tree table) table)
    → IsLeft circuit tree table x
left_is circuit tree table x h = by (fate_of circuit table) refl (tree_over tree table) refl h
  where
    by : (fate : Role) → fate_of circuit table ≡ fate → (found : Option (Tree (List ℕ)))
        → tree_over tree table ≡ found → In x (left_by fate found table)
        → IsLeft circuit tree table x
    by Constant e found is (inl same) = inl (e, sym same)
    by Constant e found is (inr off) = absurd off
    by Put e found is off = absurd off
    by Unused e found is off = absurd off
    by Root e None is off = absurd off
    by Root e (Some (Leaf leaf)) is (inl same) = inr (record {
      leaf = leaf;
      root = ap is_root_fate e;
      is = is;
      same = sym same;
    })
    by Root e (Some (Leaf leaf)) is (inr off) = absurd off
    by Root e (Some (Inv t)) is off = absurd off
    by Root e (Some (Nand t u)) is off = absurd off

constant_left : (circuit : Circuit) (tree : List ℕ → Tree (List ℕ)) (table : Table)
    → In table circuit.tables → fate_of circuit table ≡ Constant
    → In table (tables_left circuit tree)
unfolding tables_left
constant_left circuit tree table there e =
    in_flat (λ (t : Table). left_by (fate_of circuit t) (tree_over tree t) t) table table
    circuit.tables there
    (subst (λ (f : Role). In table (left_by f (tree_over tree table) table)) (sym e) (inl refl))

handed_left : (circuit : Circuit) (tree : List ℕ → Tree (List ℕ)) (table : Table) (leaf : List ℕ)
    → In table circuit.tables → fate_of circuit table ≡ Root
    → tree_over tree table ≡ Some (Leaf leaf)
    → In (buffer leaf table.output) (tables_left circuit tree)
unfolding tables_left
handed_left circuit tree table leaf there e is =
    in_flat (λ (t : Table). left_by (fate_of circuit t) (tree_over tree t) t) (buffer leaf
    table.output) table circuit.tables there
    (subst (λ (f : Role). In (buffer leaf table.output) (left_by f (tree_over tree table) table))
    (sym e) (subst (λ (found : Option (Tree (List ℕ))). In (buffer leaf table.output) (left_by
    Root found table)) (sym is) (inl refl)))

-- each table that is left is left of a table of the circuit
pub record OfTable (circuit : Circuit) (tree : List ℕ → Tree (List ℕ)) (x : Table) : Type 0 where
  pub table : Table
  pub there : In table circuit.tables
  pub left : IsLeft circuit tree table x

left_of_table : (circuit : Circuit) (tree : List ℕ → Tree (List ℕ)) (x : Table)
    → In x (tables_left circuit tree) → OfTable circuit tree x
unfolding tables_left
left_of_table circuit tree x h =
    let (table, there, k) = from_flat (λ (t : Table). left_by (fate_of circuit t) (tree_over tree
    t) t) x circuit.tables h in
    record { table = table; there = there; left = left_is circuit tree table x k }

left_output : (circuit : Circuit) (tree : List ℕ → Tree (List ℕ)) (table x : Table)
    → IsLeft circuit tree table x → x.output ≡ table.output
left_output circuit tree table x (inl it) = ap (λ (t : Table). t.output) it.1
left_output circuit tree table x (inr it) = ap (λ (t : Table). t.output) it.same

-- no table drives twice what each is left of
abbrev pub IsOneAtMost : Table → List Table → Type 0
IsOneAtMost table [] = Unit {0}
IsOneAtMost table (x ∷ []) = x.output ≡ table.output
IsOneAtMost table (x ∷ y ∷ more) = ⊥

left_one : (fate : Role) (found : Option (Tree (List ℕ))) (table : Table)
    → IsOneAtMost table (left_by fate found table)
left_one Constant found table = refl
left_one Put found table = tt
left_one Unused found table = tt
left_one Root None table = tt
left_one Root (Some (Leaf leaf)) table = refl
left_one Root (Some (Inv t)) table = tt
left_one Root (Some (Nand t u)) table = tt

flat_outputs : (f : Table → List Table) → ((table : Table) → IsOneAtMost table (f table))
    → (tables : List Table) (name : List ℕ) → has (outputs_of (flat_map f tables)) name ≡ true
    → has (outputs_of tables) name ≡ true
flat_outputs f one [] name h = h
flat_outputs f one (table ∷ tables) name h =
    by (f table) (one table) (has_either (outputs_of (f table)) (outputs_of (flat_map f tables))
    name (ap (λ (ns : List (List ℕ)). has ns name) (sym (outputs_append (f table) (flat_map f
    tables))) ∙ h)) (λ k. flat_outputs f one tables name k)
  where
    by : (made : List Table) → IsOneAtMost table made
        → (has (outputs_of made) name ≡ true) ⊎ (has (outputs_of (flat_map f tables)) name ≡ true)
        → (has (outputs_of (flat_map f tables)) name ≡ true → has (outputs_of tables) name ≡ true)
        → has (outputs_of (table ∷ tables)) name ≡ true
    by [] is (inl k) rest = absurd (false≢true k)
    by (x ∷ []) is (inl k) rest =
        has_front (table.output ∷ []) (outputs_of tables) name
        (ap (λ (n : List ℕ). has (n ∷ []) name) (sym is) ∙ k)
    by (x ∷ y ∷ more) is (inl k) rest = absurd is
    by made is (inr k) rest = has_back (table.output ∷ []) (outputs_of tables) name (rest k)

flat_different : (f : Table → List Table) → ((table : Table) → IsOneAtMost table (f table))
    → (tables : List Table) → all_different (outputs_of tables) ≡ true
    → all_different (outputs_of (flat_map f tables)) ≡ true
flat_different f one [] h = h
flat_different f one (table ∷ tables) h =
    ap all_different (outputs_append (f table) (flat_map f tables))
    ∙ by (f table) (one table) (flat_different f one tables (different_tail table.output (outputs_of
    tables) h))
  where
    new : has (outputs_of (flat_map f tables)) table.output ≡ false
    new = has_not (outputs_of (flat_map f tables)) table.output (λ k.
        false≢true (sym (different_head table.output (outputs_of tables) h)
        ∙ flat_outputs f one tables table.output k))

    by : (made : List Table) → IsOneAtMost table made
        → all_different (outputs_of (flat_map f tables)) ≡ true
        → all_different (outputs_of made ++ outputs_of (flat_map f tables)) ≡ true
    by [] is rest = rest
    by (x ∷ []) is rest =
        different_cons x.output (outputs_of (flat_map f tables))
        (ap (has (outputs_of (flat_map f tables))) is ∙ new) rest
    by (x ∷ y ∷ more) is rest = absurd is

-- a fate that is constant, or a root's
constant_fate : (constant outer : Bool) (uses : ℕ) → fate_by constant outer uses ≡ Constant
    → constant ≡ true
constant_fate true outer uses e = refl
constant_fate false true uses e = absurd (let off = e in cc)
constant_fate false false zero e = absurd (let off = e in cc)
constant_fate false false (suc zero) e = absurd (let off = e in cc)
constant_fate false false (suc (suc more)) e = absurd (let off = e in cc)

is_constant_fate : (circuit : Circuit) (table : Table) → fate_of circuit table ≡ Constant
    → is_constant table ≡ true
unfolding fate_of
is_constant_fate circuit table e = constant_fate _ _ _ e

buffer_value : (leaf output : List ℕ) (new : List ℕ → Bool)
    → driven_value (Some (buffer leaf output)) new ≡ new leaf
unfolding table_value value_by_phase some_matches matches
buffer_value leaf output new = by (new leaf)
  where
    by : (b : Bool) → ((b && true) || false) ≡ b
    by true = refl
    by false = refl

tree_same : (old new : List ℕ → Bool) (t : Tree (List ℕ))
    → ((x : List ℕ) → IsLeafOf x t → old x ≡ new x) → value_at old t ≡ value_at new t
unfolding value_at
tree_same old new (Leaf x) h = h x refl
tree_same old new (Inv t) h = ap not (tree_same old new t h)
tree_same old new (Nand t u) h =
    ap (λ (b : Bool). not (b && value_at old u)) (tree_same old new t (λ x k. h x (inl k)))
    ∙ ap (λ (b : Bool). not (value_at new t && b)) (tree_same old new u (λ x k. h x (inr k)))

-- a group of one table
one_group : (tables : List Table) (leaf : List ℕ → Type 0) (x : Table)
    → driver tables x.output ≡ Some x
    → ((input : List ℕ) → has x.inputs input ≡ true → leaf input) → IsGroup tables leaf (x ∷ [])
one_group tables leaf x at leafy = record {
  among = within;
  reads = λ k table input here h. inl (leafy input (read k table input here h));
}
  where
    within : (k : ℕ) (table : Table) → slice_get (x ∷ []) k ≡ Some table
        → driver tables table.output ≡ Some table
    within zero table here = subst (λ (t : Table). driver tables t.output ≡ Some t) (same_Some x
        table here) at
    within (suc k) table here = absurd (none-some table here)

    read : (k : ℕ) (table : Table) (input : List ℕ) → slice_get (x ∷ []) k ≡ Some table
        → has table.inputs input ≡ true → has x.inputs input ≡ true
    read zero table input here h = ap (λ (t : Table). has t.inputs input) (same_Some x table here)
        ∙ h
    read (suc k) table input here h = absurd (none-some table here)

weaker_group : (tables : List Table) (strict leaf : List ℕ → Type 0) (group : List Table)
    → ((x : List ℕ) → strict x → leaf x) → IsGroup tables strict group → IsGroup tables leaf group
weaker_group tables strict leaf group weaker wired = record {
  among = wired.among;
  reads = λ k table input here h. by k input (wired.reads k table input here h);
}
  where
    by : (k : ℕ) (input : List ℕ) → strict input ⊎ IsEarlier group k input
        → leaf input ⊎ IsEarlier group k input
    by k input (inl one) = inl (weaker input one)
    by k input (inr one) = inr one

value_leaf : (new : List ℕ → Bool) (leaf : List ℕ) → value_at new (Leaf leaf) ≡ new leaf
unfolding value_at
value_leaf new leaf = refl

-- the tables that pass a test
filter_outputs : (test : Table → Bool) (tables : List Table) (name : List ℕ)
    → has (outputs_of (filter test tables)) name ≡ true → has (outputs_of tables) name ≡ true
filter_outputs test tables name h =
    let (table, there, own) = output_in (filter test tables) name h in
    subst (λ (n : List ℕ). has (outputs_of tables) n ≡ true) own
    (in_output tables table (from_filter test table tables there).0)

filter_different : (test : Table → Bool) (tables : List Table)
    → all_different (outputs_of tables) ≡ true
    → all_different (outputs_of (filter test tables)) ≡ true
filter_different test [] h = h
filter_different test (table ∷ tables) h = by (test table) (filter_different test tables
    (different_tail table.output (outputs_of tables) h))
  where
    by : (b : Bool) → all_different (outputs_of (filter test tables)) ≡ true
        → all_different (outputs_of (cond b (table ∷ filter test tables) (filter test tables)))
        ≡ true
    by true rest =
        different_cons table.output (outputs_of (filter test tables))
        (has_not (outputs_of (filter test tables)) table.output (λ k.
        false≢true (sym (different_head table.output (outputs_of tables) h)
        ∙ filter_outputs test tables table.output k))) rest
    by false rest = rest

-- the circuit, its trees, the tables of the groups and new names
pub record IsNetted (circuit : Circuit) (tree : List ℕ → Tree (List ℕ)) (fresh : List (List ℕ))
    (gates : List Table) : Type 0 where
  pub sound : IsSound circuit
  pub trees : AreTrees circuit tree
  pub new : AreFresh circuit fresh
  pub made : AreMadeOf tree (roots_of circuit) fresh gates

abbrev pub net_of : Circuit → (List ℕ → Tree (List ℕ)) → List Table → List Table
net_of circuit tree gates = gates ++ tables_left circuit tree

module _ (circuit : Circuit) (tree : List ℕ → Tree (List ℕ)) (fresh : List (List ℕ))
    (gates : List Table) (is : IsNetted circuit tree fresh gates) (r : HasRank circuit.tables) where
  old_different : all_different (outputs_of circuit.tables) ≡ true
  old_different = tables_different circuit circuit.tables is.sound.one_driver

  old_given : (name : List ℕ) → has (outputs_of circuit.tables) name ≡ true
      → has (given circuit) name ≡ true
  unfolding given
  old_given name h = has_back circuit.inputs (latch_outputs circuit ++ outputs_of circuit.tables)
      name (has_back (latch_outputs circuit) (outputs_of circuit.tables) name h)

  -- what the net drives is new, or the circuit has a table of it
  root_is : (table : Table) → In table (roots_of circuit)
      → In table circuit.tables × (is_root_fate (fate_of circuit table) ≡ true)
  root_is table there = from_filter (λ (t : Table). is_root_fate (fate_of circuit t)) table
      circuit.tables there

  gates_named : (name : List ℕ) → has (outputs_of gates) name ≡ true
      → (has fresh name ≡ true) ⊎ (has (outputs_of circuit.tables) name ≡ true)
  gates_named name h = by (made_names tree (roots_of circuit) fresh gates is.made name h)
    where
      by : (has fresh name ≡ true) ⊎ GatedRoot tree (roots_of circuit) name
          → (has fresh name ≡ true) ⊎ (has (outputs_of circuit.tables) name ≡ true)
      by (inl k) = inl k
      by (inr k) =
          inr (subst (λ (n : List ℕ). has (outputs_of circuit.tables) n ≡ true) k.own
          (in_output circuit.tables k.root (root_is k.root k.there).0))

  left_named : (name : List ℕ) → has (outputs_of (tables_left circuit tree)) name ≡ true
      → has (outputs_of circuit.tables) name ≡ true
  unfolding tables_left
  left_named name h = flat_outputs (λ (t : Table). left_by (fate_of circuit t) (tree_over tree t) t)
      (λ t. left_one (fate_of circuit t) (tree_over tree t) t) circuit.tables name h

  net_named : (name : List ℕ) → has (outputs_of (net_of circuit tree gates)) name ≡ true
      → (has fresh name ≡ true) ⊎ (has (outputs_of circuit.tables) name ≡ true)
  net_named name h =
      by (has_either (outputs_of gates) (outputs_of (tables_left circuit tree)) name
      (ap (λ (ns : List (List ℕ)). has ns name)
      (sym (outputs_append gates (tables_left circuit tree))) ∙ h))
    where
      by : (has (outputs_of gates) name ≡ true)
          ⊎ (has (outputs_of (tables_left circuit tree)) name ≡ true)
          → (has fresh name ≡ true) ⊎ (has (outputs_of circuit.tables) name ≡ true)
      by (inl k) = gates_named name k
      by (inr k) = inr (left_named name k)

  new_apart : (name : List ℕ) → has fresh name ≡ true
      → has (outputs_of circuit.tables) name ≡ true → ⊥
  new_apart name new old = false≢true (sym (is.new.apart name new) ∙ old_given name old)

  one_table : (one other : Table) → In one circuit.tables → In other circuit.tables
      → one.output ≡ other.output → one ≡ other
  one_table one other here there same =
      same_Some one other (sym (in_driver circuit.tables old_different one here)
      ∙ ap (driver circuit.tables) same ∙ in_driver circuit.tables old_different other there)

  -- no gate drives what a table that is left drives: the tree of that is a leaf, if it has one
  gate_left_apart : (name : List ℕ) → has (outputs_of gates) name ≡ true
      → has (outputs_of (tables_left circuit tree)) name ≡ true → ⊥
  gate_left_apart name out left =
      let (y, there, same) = output_in (tables_left circuit tree) name left in
      by (made_names tree (roots_of circuit) fresh gates is.made name out)
      (left_of_table circuit tree y there) same
    where
      off : (root table y : Table) → root ≡ table → is_root_fate (fate_of circuit root) ≡ true
          → IsGated (tree_over tree root) → IsLeft circuit tree table y → ⊥
      off root table y e fate gated (inl it) =
          false≢true (sym (ap is_root_fate (ap (fate_of circuit) e ∙ it.0)) ∙ fate)
      off root table y e fate gated (inr it) =
          subst IsGated (ap (tree_over tree) e ∙ it.is) gated

      by : {y : Table} → (has fresh name ≡ true) ⊎ GatedRoot tree (roots_of circuit) name
          → OfTable circuit tree y → y.output ≡ name → ⊥
      by (inl new) of_table same = new_apart name new (left_named name left)
      by {y} (inr one) it same =
          off one.root it.table y
          (one_table one.root it.table (root_is one.root one.there).0 it.there
          (one.own ∙ sym same ∙ left_output circuit tree it.table y it.left))
          (root_is one.root one.there).1 one.gated it.left

  leaf_outputs : (name : List ℕ) → has (leaf_names circuit) name ≡ true
      → has (outputs_of circuit.tables) name ≡ true → ⊥
  leaf_outputs name leafy out =
      let (table, at) = output_driver circuit.tables name out in
      none-some table (sym (leaf_apart circuit circuit.tables is.sound.one_driver name leafy) ∙ at)

  leaf_net_apart : (name : List ℕ) → has (leaf_names circuit) name ≡ true
      → has (outputs_of (net_of circuit tree gates)) name ≡ true → ⊥
  leaf_net_apart name leafy out = by (net_named name out)
    where
      by : (has fresh name ≡ true) ⊎ (has (outputs_of circuit.tables) name ≡ true) → ⊥
      by (inl new) =
          false≢true (sym (is.new.apart name new) ∙ given_leaf circuit circuit.tables name leafy)
      by (inr old) = leaf_outputs name leafy old

  left_different : all_different (outputs_of (tables_left circuit tree)) ≡ true
  unfolding tables_left
  left_different = flat_different (λ (t : Table). left_by (fate_of circuit t) (tree_over tree t) t)
      (λ t. left_one (fate_of circuit t) (tree_over tree t) t) circuit.tables old_different

  roots_different : all_different (outputs_of (roots_of circuit)) ≡ true
  roots_different = filter_different (λ (t : Table). is_root_fate (fate_of circuit t))
      circuit.tables old_different

  outputs_different : all_different (outputs_of (net_of circuit tree gates)) ≡ true
  outputs_different =
      ap all_different (outputs_append gates (tables_left circuit tree))
      ∙ apart_different (outputs_of gates) (outputs_of (tables_left circuit tree)) (record {
        front = made_different tree (roots_of circuit) fresh gates is.made is.new.different
            roots_different (λ name new root. new_apart name new (filter_outputs (λ (t : Table).
            is_root_fate (fate_of circuit t)) circuit.tables name root));
        back = left_different;
        between = gate_left_apart;
      })

  net_different : all_different (given (with_tables circuit (net_of circuit tree gates))) ≡ true
  unfolding given
  net_different =
      apart_different circuit.inputs (latch_outputs circuit ++ outputs_of (net_of circuit tree
      gates)) (record {
        front = first.front;
        back = apart_different (latch_outputs circuit) (outputs_of (net_of circuit tree gates))
            (record {
              front = second.front;
              back = outputs_different;
              between = λ name here there. leaf_net_apart name (has_back circuit.inputs
                  (latch_outputs circuit) name here) there;
            });
        between = λ name here there. by name here (has_either (latch_outputs circuit) (outputs_of
            (net_of circuit tree gates)) name there);
      })
    where
      first : AreApart circuit.inputs (latch_outputs circuit ++ outputs_of circuit.tables)
      first = different_apart circuit.inputs (latch_outputs circuit ++ outputs_of circuit.tables)
          is.sound.one_driver

      second : AreApart (latch_outputs circuit) (outputs_of circuit.tables)
      second = different_apart (latch_outputs circuit) (outputs_of circuit.tables) first.back

      by : (name : List ℕ) → has circuit.inputs name ≡ true
          → (has (latch_outputs circuit) name ≡ true)
          ⊎ (has (outputs_of (net_of circuit tree gates)) name ≡ true) → ⊥
      by name here (inl k) =
          first.between name here (has_front (latch_outputs circuit) (outputs_of circuit.tables)
          name k)
      by name here (inr k) =
          leaf_net_apart name (has_front circuit.inputs (latch_outputs circuit) name here) k

  net_driver : (x : Table) → In x (net_of circuit tree gates)
      → driver (net_of circuit tree gates) x.output ≡ Some x
  net_driver x there = in_driver (net_of circuit tree gates) outputs_different x there

  gate_in : (x : Table) → In x gates → In x (net_of circuit tree gates)
  gate_in x h = in_left x gates (tables_left circuit tree) h

  left_in : (x : Table) → In x (tables_left circuit tree) → In x (net_of circuit tree gates)
  left_in x h = in_right x gates (tables_left circuit tree) h

  abbrev Below : List ℕ → List ℕ → Type 0
  Below signal x = IsLive circuit x × (r.rank x < r.rank signal)

  -- a group of a root, in the net
  leaf_under : (table : Table) (t : Tree (List ℕ)) (x : List ℕ) → In table circuit.tables
      → tree_over tree table ≡ Some t → IsLeafOf x t → Below table.output x
  leaf_under table t x there made leaf =
      let low = leaf_below circuit tree r is.trees (suc (r.rank table.output)) table.output table t
      x (omega arith) (in_driver circuit.tables old_different table there) made leaf in
      (leaf_live circuit is.sound x low.taken, low.lower)

  root_wired : (root : Table) → In root circuit.tables → (one : HasGroup tree root gates)
      → IsGroup (net_of circuit tree gates) (Below root.output) one.group
  root_wired root there one = record {
    among = λ k table at. net_driver table (gate_in table (one.inside table (place_in table
        one.group k at)));
    reads = λ k table input at h. by k input (one.made.reads k table input at h);
  }
    where
      by : (k : ℕ) (input : List ℕ) → IsLeafOf input one.t ⊎ IsEarlier one.group k input
          → Below root.output input ⊎ IsEarlier one.group k input
      by k input (inl leaf) = inl (leaf_under root one.t input there one.is leaf)
      by k input (inr early) = inr early

  -- a table that is left, in the net
  left_wired : (table x : Table) → In table circuit.tables → IsLeft circuit tree table x
      → In x (tables_left circuit tree)
      → IsGroup (net_of circuit tree gates) (Below table.output) (x ∷ [])
  left_wired table x there left inside =
      one_group (net_of circuit tree gates) (Below table.output) x (net_driver x (left_in x inside))
      (by left)
    where
      at : driver circuit.tables table.output ≡ Some table
      at = in_driver circuit.tables old_different table there

      by : IsLeft circuit tree table x → (input : List ℕ) → has x.inputs input ≡ true
          → Below table.output input
      by (inl it) input h =
          let reads = ap (λ (t : Table). has t.inputs input) (sym it.1) ∙ h in (
            constant_live circuit is.sound table.output table input at there (is_constant_fate
                circuit table it.0) reads,
            all_has (λ i. r.rank i < r.rank table.output) table.inputs (r.falls table.output table
                at) input reads,
          )
      by (inr it) input h =
          leaf_under table (Leaf it.leaf) input there it.is (same (ap (λ (t : Table). has t.inputs
          input) (sym it.same) ∙ h))
        where
          same : has (it.leaf ∷ []) input ≡ true → it.leaf ≡ input
          same k =
              elim (or_cases (bytes_eq input it.leaf) false k) as (λ _. it.leaf ≡ input) [
                | inl e ↦ sym (same_name input it.leaf e)
                | inr off ↦ absurd (false≢true off)
              ]

  -- the values of what is left and of roots
  root_value : (table : Table) (t : Tree (List ℕ)) → In table circuit.tables
      → is_root_fate (fate_of circuit table) ≡ true → tree_over tree table ≡ Some t
      → (old new : List ℕ → Bool) → Obeys circuit.tables old
      → ((x : List ℕ) → IsLive circuit x → r.rank x < r.rank table.output → old x ≡ new x)
      → old table.output ≡ value_at new t
  root_value table t there root made old new obeys same =
      obeys table.output table at
      ∙ sym (trees_worth circuit tree old r is.sound.shaped is.trees (λ signal other put found.
      obeys signal other found) table.output table at (root-full circuit table root) t made)
      ∙ tree_same old new t (λ x leaf. let under = leaf_under table t x there made leaf in
      same x under.0 under.1)
    where
      at : driver circuit.tables table.output ≡ Some table
      at = in_driver circuit.tables old_different table there

  constant_stands : (table : Table) → In table circuit.tables → fate_of circuit table ≡ Constant
      → Stands circuit (net_of circuit tree gates) r (IsLive circuit) table.output
  constant_stands table there e = record {
    group = table ∷ [];
    wired = left_wired table table there (inl (e, refl)) inside;
    place = 0;
    table = table;
    at = refl;
    own = refl;
    value = λ old new obeys obeyed same.
        obeys table.output table at
        ∙ value_same table old new (all_from_has (λ name. old name ≡ new name) table.inputs
        (λ name h. let under = left_reads name h in same name under.0 under.1))
        ∙ sym (obeyed table.output table (net_driver table (left_in table inside)));
  }
    where
      at : driver circuit.tables table.output ≡ Some table
      at = in_driver circuit.tables old_different table there

      inside : In table (tables_left circuit tree)
      inside = constant_left circuit tree table there e

      left_reads : (name : List ℕ) → has table.inputs name ≡ true → Below table.output name
      left_reads name h = (
        constant_live circuit is.sound table.output table name at there (is_constant_fate circuit
            table e) h,
        all_has (λ i. r.rank i < r.rank table.output) table.inputs (r.falls table.output table at)
            name h,
      )

  handed_stands : (table : Table) (leaf : List ℕ) → In table circuit.tables
      → fate_of circuit table ≡ Root → tree_over tree table ≡ Some (Leaf leaf)
      → Stands circuit (net_of circuit tree gates) r (IsLive circuit) table.output
  handed_stands table leaf there e made = record {
    group = buffer leaf table.output ∷ [];
    wired = left_wired table (buffer leaf table.output) there (inr (record {
      leaf = leaf;
      root = ap is_root_fate e;
      is = made;
      same = refl;
    })) inside;
    place = 0;
    table = buffer leaf table.output;
    at = refl;
    own = refl;
    value = λ old new obeys obeyed same.
        root_value table (Leaf leaf) there (ap is_root_fate e) made old new obeys same
        ∙ leaf_value new
        ∙ sym (buffer_value leaf table.output new)
        ∙ sym (obeyed table.output (buffer leaf table.output) (net_driver (buffer leaf table.output)
        (left_in (buffer leaf table.output) inside)));
  }
    where
      inside : In (buffer leaf table.output) (tables_left circuit tree)
      inside = handed_left circuit tree table leaf there e made

      leaf_value : (new : List ℕ → Bool) → value_at new (Leaf leaf) ≡ new leaf
      leaf_value new = value_leaf new leaf

  gated_stands : (table : Table) → In table circuit.tables
      → is_root_fate (fate_of circuit table) ≡ true → IsGated (tree_over tree table)
      → Stands circuit (net_of circuit tree gates) r (IsLive circuit) table.output
  gated_stands table there root gated =
      by (root_group tree (roots_of circuit) fresh gates is.made table (in_filter (λ (t : Table).
      is_root_fate (fate_of circuit t)) table circuit.tables there root) gated)
    where
      by : HasGroup tree table gates
          → Stands circuit (net_of circuit tree gates) r (IsLive circuit) table.output
      by one =
          let last = output_in one.group table.output (ap (λ (ns : List (List ℕ)). has ns
          table.output) one.made.outputs ∙ has_back one.inner (table.output ∷ []) table.output
          (has_head table.output [])) in
          let (place, at) = in_place last.0 one.group last.1 in
          record {
            group = one.group;
            wired = root_wired table there one;
            place = place;
            table = last.0;
            at = at;
            own = last.2;
            value = λ old new obeys obeyed same.
                root_value table one.t there root one.is old new obeys same
                ∙ sym (one.made.value new (λ x h. obeyed x.output x (net_driver x (gate_in x
                (one.inside x h)))));
          }

  table_stands : (signal : List ℕ) → HasTable circuit signal
      → Stands circuit (net_of circuit tree gates) r (IsLive circuit) signal
  table_stands signal it =
      subst (Stands circuit (net_of circuit tree gates) r (IsLive circuit))
      (driver_name circuit.tables signal it.table it.at)
      (by (fate_of circuit it.table) refl it.stays (tree_over tree it.table) refl)
    where
      there : In it.table circuit.tables
      there = driver_in circuit.tables signal it.table it.at

      shaped : IsShaped it.table
      shaped = all_in IsShaped circuit.tables is.sound.shaped it.table there

      by : (fate : Role) → fate_of circuit it.table ≡ fate → stands_as fate ≡ true
          → (found : Option (Tree (List ℕ))) → tree_over tree it.table ≡ found
          → Stands circuit (net_of circuit tree gates) r (IsLive circuit) it.table.output
      by Constant e stays found made = constant_stands it.table there e
      by Put e stays found made = absurd (false≢true stays)
      by Unused e stays found made = absurd (false≢true stays)
      by Root e stays None made =
          absurd (never-none tree it.table shaped (root-full circuit it.table (ap is_root_fate e))
          made)
      by Root e stays (Some (Leaf leaf)) made = handed_stands it.table leaf there e made
      by Root e stays (Some (Inv t)) made =
          gated_stands it.table there (ap is_root_fate e) (subst IsGated (sym made) tt)
      by Root e stays (Some (Nand t u)) made =
          gated_stands it.table there (ap is_root_fate e) (subst IsGated (sym made) tt)

  -- each table of the net is one of a group
  gate_grouped : (x : Table) → In x gates
      → IsGrouped (net_of circuit tree gates) (IsLive circuit) x
  gate_grouped x h = by (table_group tree (roots_of circuit) fresh gates is.made x h)
    where
      by : OfGroup tree (roots_of circuit) gates x
          → IsGrouped (net_of circuit tree gates) (IsLive circuit) x
      by it =
          let (place, at) = in_place x it.one.group it.member in
          record {
            group = it.one.group;
            wired = weaker_group (net_of circuit tree gates) (Below it.root.output) (IsLive
                circuit) it.one.group (λ name under. under.0) (root_wired it.root (root_is it.root
                it.there).0 it.one);
            place = place;
            at = at;
          }

  left_grouped : (x : Table) → In x (tables_left circuit tree)
      → IsGrouped (net_of circuit tree gates) (IsLive circuit) x
  left_grouped x h = by (left_of_table circuit tree x h)
    where
      by : OfTable circuit tree x → IsGrouped (net_of circuit tree gates) (IsLive circuit) x
      by it = record {
        group = x ∷ [];
        wired = weaker_group (net_of circuit tree gates) (Below it.table.output) (IsLive circuit)
            (x ∷ []) (λ name under. under.0) (left_wired it.table x it.there it.left h);
        place = 0;
        at = refl;
      }

  net_in : (P : Table → Type 0) → ((x : Table) → In x gates → P x)
      → ((x : Table) → In x (tables_left circuit tree) → P x)
      → AllByRecursion P (net_of circuit tree gates)
  net_in P gate left = in_all P (net_of circuit tree gates) (λ x h. by x (in_either x gates
      (tables_left circuit tree) h))
    where
      by : (x : Table) → In x gates ⊎ In x (tables_left circuit tree) → P x
      by x (inl h) = gate x h
      by x (inr h) = left x h

  left_shaped : (x : Table) → In x (tables_left circuit tree)
      → IsShaped x × (all_different x.inputs ≡ true)
  left_shaped x h = by (left_of_table circuit tree x h)
    where
      by : OfTable circuit tree x → IsShaped x × (all_different x.inputs ≡ true)
      by it = cases it.left
        where
          cases : IsLeft circuit tree it.table x → IsShaped x × (all_different x.inputs ≡ true)
          cases (inl same) = (
            subst IsShaped (sym same.1) (all_in IsShaped circuit.tables is.sound.shaped it.table
                it.there),
            subst (λ (t : Table). all_different t.inputs ≡ true) (sym same.1) (all_in (λ (t :
                Table). all_different t.inputs ≡ true) circuit.tables is.sound.table_inputs_once
                it.table it.there),
          )
          cases (inr handed) = (
            subst IsShaped (sym handed.same) ((refl, tt), λ e. refl),
            subst (λ (t : Table). all_different t.inputs ≡ true) (sym handed.same)
                (different_cons handed.leaf [] refl different_none),
          )

  net_words : AllByRecursion IsWord (outputs_of (net_of circuit tree gates))
  net_words = all_from_has IsWord (outputs_of (net_of circuit tree gates)) (λ name h. by name
      (net_named name h))
    where
      by : (name : List ℕ)
          → (has fresh name ≡ true) ⊎ (has (outputs_of circuit.tables) name ≡ true) → IsWord name
      by name (inl new) = all_has IsWord fresh is.new.words name new
      by name (inr old) =
          all_has IsWord (given circuit) (given_words circuit (words_parts circuit is.sound.words))
          name (old_given name old)

  net_control : AllByRecursion (λ name. has (outputs_of (net_of circuit tree gates)) name ≡ false)
      (control_of circuit.timing)
  net_control = all_from_has (λ name. has (outputs_of (net_of circuit tree gates)) name ≡ false)
      (control_of circuit.timing) (λ name h. has_not (outputs_of (net_of circuit tree gates)) name
      (λ out. by name h (net_named name out)))
    where
      by : (name : List ℕ) → has (control_of circuit.timing) name ≡ true
          → (has fresh name ≡ true) ⊎ (has (outputs_of circuit.tables) name ≡ true) → ⊥
      by name h (inl new) = false≢true (sym (is.new.control name new) ∙ h)
      by name h (inr old) =
          false≢true (sym (has_neither (latch_outputs circuit) (outputs_of circuit.tables) name
          (all_has (λ n. has (latch_outputs circuit ++ outputs_of circuit.tables) n ≡ false)
          (control_of circuit.timing) is.sound.control_undriven name h)).1 ∙ old)

  -- together they stand for the tables of the circuit
  pub netted_realized : IsRealized circuit (net_of circuit tree gates) r (IsLive circuit)
  netted_realized = record {
    different = net_different;
    words = net_words;
    control = net_control;
    shaped = net_in IsShaped (λ x h. made_all IsShaped tree (roots_of circuit) fresh gates is.made
        (λ signal t inner group one. one.shaped) x h) (λ x h. (left_shaped x h).0);
    once = net_in (λ (t : Table). all_different t.inputs ≡ true)
        (λ x h. made_all (λ (t : Table). all_different t.inputs ≡ true) tree (roots_of circuit)
        fresh gates is.made (λ signal t inner group one. one.once) x h)
        (λ x h. (left_shaped x h).1);
    latches = latch_live circuit is.sound;
    outputs = output_live circuit is.sound;
    stands = λ signal live. by signal live;
    grouped = net_in (IsGrouped (net_of circuit tree gates) (IsLive circuit)) gate_grouped
        left_grouped;
  }
    where
      by : (signal : List ℕ) → IsLive circuit signal
          → (has (leaf_names circuit) signal ≡ true)
          ⊎ Stands circuit (net_of circuit tree gates) r (IsLive circuit) signal
      by signal (inl leafy) = inl leafy
      by signal (inr it) = inr (table_stands signal it)
