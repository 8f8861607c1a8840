-- The first four rules of sweep, which change tables and keep their number, their outputs and their
-- order; and what is maintained to find where one of them applies: worklists of indices. Source:
-- the SIS manual (UCB/ERL M92/41), `sweep`. Only clauses of private functions need this module.
use Rattle.std.specs.Prelude.{◌≡◌, ℕ, ◌<◌, ◌&&◌, Bool, true, false, not, Option, Some, None, is_some, List, [], ◌∷◌, ◌⊎◌, find, slice_get, length, bytes_eq, ⊤}
use Rattle.std.specs.Option.{option_or}
use Rattle.std.specs.List.{AllByRecursion}
use Rattle.std.specs.Ordering.{nat_cmp}
use Rattle.std.specs.BTreeSet.{contains}
use Rattle.circuit_model.specs.Names.{has, all_different}
use Rattle.circuit_model.specs.Soundness.{outputs_of, table_inputs, IsShaped, IsAcyclic, IsSound}
use Rattle.circuit_model.specs.declared.circuit.Table.{Table}
use Rattle.circuit_model.specs.declared.circuit.Circuit.{Circuit}
use Rattle.circuit_laws.specs.Edits.{with_replaced}
use Rattle.circuit_tables.specs.Tidy.{is_tidy, tidied}
use Rattle.net_wires.specs.Points.{written_bit}
use Rattle.net_wires.specs.Rules.{tidy_table, write_constant, propagate_constant, collapse_single_input, with_constant, with_constant_propagated, with_single_input_collapsed, unwritten_bit, only_input, at_bit, rewired, sweep_step}
use Rattle.net_wires.specs.Idle.{IsIdle, with_emptied}
use Rattle.net_readers.specs.Fanouts.{is_in}
use Rattle.net_sweep.specs.declared.queues.Rule.{Rule}
use Rattle.net_sweep.specs.declared.queues.Rule.TheVariants.{TidyTable, WriteConstant, PropagateConstant, CollapseSingleInput}
use Rattle.net_sweep.specs.declared.queues.Candidates.{Candidates}
use Rattle.net_sweep.specs.declared.applying.Change.{Change}
use Rattle.net_sweep.specs.declared.applying.Change.TheVariants.{Bit, Input}

-- the properties of a sound circuit's tables: each signal has one, rows are as wide as the inputs,
-- each input occurs once, and no table is reached from itself
pub record AreSound (tables : List Table) : Type 0 where
  pub differ : all_different (outputs_of tables) ≡ true
  pub shaped : AllByRecursion IsShaped tables
  pub table_inputs_once : AllByRecursion (λ (table : Table). all_different table.inputs ≡ true) tables
  pub acyclic : IsAcyclic tables

-- whether a rule applies to a table among others
abbrev pub passes : Rule → List Table → Table → Bool
passes TidyTable tables table = not (is_tidy table)
passes WriteConstant tables table = is_some (unwritten_bit table)
passes PropagateConstant tables table = is_some (written_bit table) && has (table_inputs tables) table.output
passes CollapseSingleInput tables table = is_some (only_input table.inputs) && has (table_inputs tables) table.output

-- the index of the first item that passes a test
abbrev pub IsFirst : {X : Type 0} → (X → Bool) → List X → Option ℕ → Type 0
IsFirst test items None = find test items ≡ None
IsFirst {X} test items (Some place) = (place < length items) × (item : X) × (slice_get items place ≡ Some item) × (find test items ≡ Some item)

-- the circuit after a rule was applied to a table
abbrev pub rule_applied : Rule → Circuit → Table → Circuit
rule_applied TidyTable circuit table = with_replaced circuit (tidied table)
rule_applied WriteConstant circuit table = with_constant circuit table
rule_applied PropagateConstant circuit table = with_constant_propagated circuit table
rule_applied CollapseSingleInput circuit table = with_single_input_collapsed circuit table

-- one step of the rules that change tables
unfoldable pub table_step : Circuit → Option Circuit
table_step circuit = option_or (tidy_table circuit) (option_or (write_constant circuit) (option_or (propagate_constant circuit) (collapse_single_input circuit)))

-- the rule and the index of the table of the next step of these rules, if there is one; a table of
-- one input is collapsed only if all tables are tidy
abbrev pub IsNext : Circuit → Option (Rule × ℕ) → Type 0
IsNext circuit None = table_step circuit ≡ None
IsNext circuit (Some (rule, place)) =
    (table : Table) × (slice_get circuit.tables place ≡ Some table) × (table_step circuit ≡ Some (rule_applied rule circuit table))
    × (rule ≡ CollapseSingleInput → find (passes TidyTable circuit.tables) circuit.tables ≡ None)

-- a table with a signal replaced by a bit, or by another signal
abbrev pub changed_by : List ℕ → Change → Table → Table
changed_by name (Bit bit) table = at_bit name bit table
changed_by name (Input to inverts) table = rewired name to inverts table

-- whether the signal that replaces another one differs from it
abbrev pub is_apart : List ℕ → Change → Bool
is_apart name (Bit bit) = true
is_apart name (Input to inverts) = not (bytes_eq name to)

-- whether a rule may apply to a rewritten table: every rule but the one that tidies, since what is
-- written is tidy
abbrev pub may_apply_to_written : Rule → Bool
may_apply_to_written TidyTable = false
may_apply_to_written WriteConstant = true
may_apply_to_written PropagateConstant = true
may_apply_to_written CollapseSingleInput = true

-- the indices of a list, none if there is no list
abbrev pub listed : Option (List ℕ) → List ℕ
listed None = []
listed (Some places) = places

-- each index of an item that passes a test is in the worklist
abbrev pub AreWaiting : {X : Type 0} → (X → Bool) → (ℕ → Bool) → List X → Type 0
AreWaiting {X} test waits items = (place : ℕ) (item : X) → slice_get items place ≡ Some item → test item ≡ true → waits place ≡ true

-- each index at which a rule applies is one of its candidates
abbrev pub AreCandidates : (Rule → ℕ → Bool) → List Table → Type 0
AreCandidates candidates tables = (rule : Rule) → AreWaiting (passes rule tables) (candidates rule) tables

-- whether an index is in the worklist of a rule
abbrev pub is_candidate : Candidates → Rule → ℕ → Bool
is_candidate candidates TidyTable place = contains nat_cmp candidates.untidy place
is_candidate candidates WriteConstant place = contains nat_cmp candidates.unwritten place
is_candidate candidates PropagateConstant place = contains nat_cmp candidates.constants place
is_candidate candidates CollapseSingleInput place = contains nat_cmp candidates.singles place

-- two tables that agree in all that a rule asks of a table alone: the signal, whether it is tidy,
-- the constant as which it should be written, the one as which it is written, and whether it has
-- one input
pub record IsAlike (old new : Table) : Type 0 where
  pub output : new.output ≡ old.output
  pub tidy : is_tidy new ≡ is_tidy old
  pub unwritten : unwritten_bit new ≡ unwritten_bit old
  pub written : written_bit new ≡ written_bit old
  pub single : is_some (only_input new.inputs) ≡ is_some (only_input old.inputs)

-- tables that are alike, or no table in either place
abbrev pub IsAlikeThere : Option Table → Option Table → Type 0
IsAlikeThere None None = ⊤
IsAlikeThere None (Some new) = ⊥
IsAlikeThere (Some old) None = ⊥
IsAlikeThere (Some old) (Some new) = IsAlike old new

-- at each index but the given ones there is a table exactly if there was one, and the two are alike
abbrev pub AreAlikeBut : List ℕ → List Table → List Table → Type 0
AreAlikeBut places old new = (place : ℕ) → is_in places place ≡ false → IsAlikeThere (slice_get old place) (slice_get new place)

-- a step of sweep, or the emptying of a table without fanout, which changes no chain's end
abbrev pub IsMove : Circuit → Circuit → Type 0
IsMove from to = (sweep_step from ≡ Some to) ⊎ ((name : List ℕ) × IsIdle from name × (to ≡ with_emptied from name))

-- moves lead from one circuit to another, through some between them
abbrev pub Goes : List Circuit → Circuit → Circuit → Type 0
Goes [] from to = from ≡ to
Goes (next ∷ rest) from to = IsMove from next × Goes rest next to

-- moves have led from one circuit to another, which is sound: the circuits between them, and how
-- they follow
pub record HasLed (from to : Circuit) : Type 0 where
  pub between : List Circuit
  pub goes : Goes between from to
  pub sound : IsSound to
