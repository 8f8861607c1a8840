-- The signals of a circuit that stand in its netlist.
use Rattle.std.proofs.Common.{◌≡◌, ◌⊎◌, ℕ, zero, suc, ◌<◌, Bool, true, false, ◌||◌, Option}
use Rattle.std.proofs.Common.{Some, List, [], ◌∷◌, ◌++◌, filter, refl, sym, ap, ◌∙◌, subst}
use Rattle.std.proofs.Common.{inl, inr, arith, cond}
use Rattle.std.specs.Option.{option_map_or}
use Rattle.std.proofs.lemmas.Bool.{false≢true}
use Rattle.circuit_model.specs.Names.{has}
use Rattle.circuit_model.specs.Values.{driver}
use Rattle.circuit_model.specs.Runs.{latch_outputs}
use Rattle.circuit_model.specs.Soundness.{outputs_of, latch_inputs, leaf_names, table_inputs, given}
use Rattle.circuit_model.specs.Soundness.{taken, IsSound}
use Rattle.circuit_model.specs.declared.circuit.Table.{Table}
use Rattle.circuit_model.specs.declared.circuit.Circuit.{Circuit}
use Rattle.circuit_laws.proofs.Names.{all_has, has_front, has_back, has_either}
use Rattle.circuit_laws.proofs.Drivers.{driver_name, driver_reads, output_driver}
use Rattle.subject_tree.specs.Tables.{is_constant}
use Rattle.subject_tree.specs.Forest.{uses_of, is_outer, fate_by, fate_of, is_put_fate, is_put}
use Rattle.subject_tree.specs.declared.judging.Role.{Role}
use Rattle.subject_tree.specs.declared.judging.Role.TheVariants.{Constant, Put, Unused}
use Rattle.subject_tree.specs.declared.judging.Role.TheVariants.{Root}
use Rattle.map_net.specs.Standing.{IsTakenAsLeaf}
use Rattle.pattern_set.proofs.Exact.{In}

-- whether a table of a fate stands: as it is, or as the root of a tree
abbrev pub stands_as : Role → Bool
stands_as Constant = true
stands_as Put = false
stands_as Unused = false
stands_as Root = true

pub record HasTable (circuit : Circuit) (signal : List ℕ) : Type 0 where
  pub table : Table
  pub at : driver circuit.tables signal ≡ Some table
  pub stays : stands_as (fate_of circuit table) ≡ true

-- a signal stands: a leaf of the circuit, or one whose table is constant or a root
abbrev pub IsLive : Circuit → List ℕ → Type 0
IsLive circuit signal = (has (leaf_names circuit) signal ≡ true) ⊎ HasTable circuit signal

-- what something drives is a leaf or has a table
pub given_cases : (circuit : Circuit) (name : List ℕ) → has (given circuit) name ≡ true
    → (has (leaf_names circuit) name ≡ true) ⊎ ((table : Table) × (driver circuit.tables name ≡ Some
    table))
unfolding given
given_cases circuit name h =
    elim (has_either circuit.inputs (latch_outputs circuit ++ outputs_of circuit.tables) name h) as
    (λ _. (has (leaf_names circuit) name ≡ true) ⊎ ((table : Table) × (driver circuit.tables name ≡
    Some table))) [
      | inl e ↦ inl (has_front circuit.inputs (latch_outputs circuit) name e)
      | inr e ↦ behind (has_either (latch_outputs circuit) (outputs_of circuit.tables) name e)
    ]
  where
    behind : (has (latch_outputs circuit) name ≡ true) ⊎ (has (outputs_of circuit.tables) name ≡
        true)
        → (has (leaf_names circuit) name ≡ true) ⊎ ((table : Table) × (driver circuit.tables name ≡
        Some table))
    behind (inl e) = inl (has_back circuit.inputs (latch_outputs circuit) name e)
    behind (inr e) = inr (output_driver circuit.tables name e)

given_live : (circuit : Circuit) (name : List ℕ) → has (given circuit) name ≡ true
    → ((table : Table) → driver circuit.tables name ≡ Some table
    → stands_as (fate_of circuit table) ≡ true) → IsLive circuit name
given_live circuit name h each = by (given_cases circuit name h)
  where
    by : (has (leaf_names circuit) name ≡ true) ⊎ ((table : Table) × (driver circuit.tables name ≡
        Some table))
        → IsLive circuit name
    by (inl leafy) = inl leafy
    by (inr (table, at)) = inr (record { table = table; at = at; stays = each table at })

-- a signal that must stand does
outer_fate : (constant : Bool) (uses : ℕ) → stands_as (fate_by constant true uses) ≡ true
outer_fate true uses = refl
outer_fate false uses = refl

outer_stays : (circuit : Circuit) (name : List ℕ) (table : Table)
    → is_outer circuit name ≡ true → driver circuit.tables name ≡ Some table
    → stands_as (fate_of circuit table) ≡ true
unfolding fate_of
outer_stays circuit name table outer at =
    ap (λ (b : Bool). stands_as (fate_by (is_constant table) b (uses_of circuit.tables
    table.output))) (ap (is_outer circuit) (driver_name circuit.tables name table at) ∙ outer)
    ∙ outer_fate (is_constant table) (uses_of circuit.tables table.output)

taken_given : (circuit : Circuit) → IsSound circuit → (name : List ℕ)
    → has (taken circuit) name ≡ true → has (given circuit) name ≡ true
taken_given circuit sound name h =
    all_has (λ x. has (given circuit) x ≡ true) (taken circuit) sound.driven name h

pub output_live : (circuit : Circuit) → IsSound circuit → (name : List ℕ)
    → has circuit.outputs name ≡ true → IsLive circuit name
unfolding taken is_outer
output_live circuit sound name h =
    given_live circuit name (taken_given circuit sound name (has_back (table_inputs circuit.tables)
    (latch_inputs circuit ++ circuit.outputs) name (has_back (latch_inputs circuit) circuit.outputs
    name h))) (λ table at. outer_stays circuit name table (outer h) at)
  where
    outer : has circuit.outputs name ≡ true → is_outer circuit name ≡ true
    outer e = rw e refl

pub latch_live : (circuit : Circuit) → IsSound circuit → (name : List ℕ)
    → has (latch_inputs circuit) name ≡ true → IsLive circuit name
unfolding taken is_outer
latch_live circuit sound name h =
    given_live circuit name (taken_given circuit sound name (has_back (table_inputs circuit.tables)
    (latch_inputs circuit ++ circuit.outputs) name (has_front (latch_inputs circuit) circuit.outputs
    name h))) (λ table at. outer_stays circuit name table (outer (has circuit.outputs name) h) at)
  where
    outer : (b : Bool) → has (latch_inputs circuit) name ≡ true
        → ((b || has (latch_inputs circuit) name) || has (table_inputs (filter is_constant
        circuit.tables)) name) ≡ true
    outer true e = refl
    outer false e = rw e refl

-- what a constant table reads
constant_reads : (tables : List Table) (table : Table) (name : List ℕ) → In table tables
    → is_constant table ≡ true → has table.inputs name ≡ true
    → has (table_inputs (filter is_constant tables)) name ≡ true
constant_reads [] table name h constant reads = absurd h
constant_reads (first ∷ tables) table name h constant reads =
    cases (is_constant first) refl h (λ k. constant_reads tables table name k constant reads)
  where
    cases : (b : Bool) → is_constant first ≡ b → (first ≡ table) ⊎ In table tables
        → (In table tables → has (table_inputs (filter is_constant tables)) name ≡ true)
        → has (table_inputs (cond b (first ∷ filter is_constant tables) (filter is_constant
        tables))) name ≡ true
    cases true e (inl same) rest =
        has_front first.inputs (table_inputs (filter is_constant tables)) name
        (ap (λ (t : Table). has t.inputs name) same ∙ reads)
    cases true e (inr k) rest =
        has_back first.inputs (table_inputs (filter is_constant tables)) name (rest k)
    cases false e (inl same) rest = absurd (false≢true (sym e ∙ ap is_constant same ∙ constant))
    cases false e (inr k) rest = rest k

pub constant_live : (circuit : Circuit) → IsSound circuit → (signal : List ℕ) (table : Table)
    (name : List ℕ) → driver circuit.tables signal ≡ Some table → In table circuit.tables
    → is_constant table ≡ true → has table.inputs name ≡ true → IsLive circuit name
unfolding taken is_outer
constant_live circuit sound signal table name at there constant reads =
    given_live circuit name (taken_given circuit sound name (has_front (table_inputs
    circuit.tables) (latch_inputs circuit ++ circuit.outputs) name
    (driver_reads circuit.tables signal table name at reads)))
    (λ other found. outer_stays circuit name other (outer (has circuit.outputs name)
    (has (latch_inputs circuit) name)) found)
  where
    outer : (b c : Bool)
        → ((b || c) || has (table_inputs (filter is_constant circuit.tables)) name) ≡ true
    outer true c = refl
    outer false true = refl
    outer false false = constant_reads circuit.tables table name there constant reads

-- a leaf of a tree stands
kept_fate : (constant outer : Bool) (uses : ℕ) → is_put_fate (fate_by constant outer uses) ≡ false
    → 0 < uses → stands_as (fate_by constant outer uses) ≡ true
kept_fate true outer uses whole used = refl
kept_fate false true uses whole used = refl
kept_fate false false zero whole used = absurd (omega (arith, used))
kept_fate false false (suc zero) whole used = absurd (false≢true (sym whole))
kept_fate false false (suc (suc more)) whole used = refl

pub leaf_live : (circuit : Circuit) → IsSound circuit → (name : List ℕ)
    → IsTakenAsLeaf circuit name → IsLive circuit name
unfolding taken is_put fate_of
leaf_live circuit sound name leaf =
    given_live circuit name (taken_given circuit sound name (has_front (table_inputs
    circuit.tables) (latch_inputs circuit ++ circuit.outputs) name leaf.read)) stays
  where
    stays : (table : Table) → driver circuit.tables name ≡ Some table
        → stands_as (fate_of circuit table) ≡ true
    stays table at =
        kept_fate (is_constant table) (is_outer circuit table.output) (uses_of circuit.tables
        table.output)
        (ap (λ (found : Option Table). option_map_or (λ (t : Table). is_put_fate (fate_of circuit
        t)) found false) (sym at) ∙ leaf.whole)
        (subst (λ (s : List ℕ). 0 < uses_of circuit.tables s)
        (sym (driver_name circuit.tables name table at)) leaf.used)
