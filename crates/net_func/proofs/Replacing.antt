-- A table is replaced by another one with its signal that reads nothing else: the order of tables
-- stays, and so do the functions of the signals that the table does not reach.
use Rattle.std.proofs.Common.{◌≡◌, ℕ, ◌<◌, cond, [], ◌∷◌, Bool, true, false, ◌||◌, Option, Some, None, is_some, List, set, slice_get, length, bytes_eq, refl, sym, ap, ◌∙◌, subst, inl, inr, ◌⊎◌}
use Rattle.std.proofs.lemmas.Bool.{cases_eq, false≢true}
use Rattle.std.proofs.lemmas.Option.{same_Some, none-some}
use Rattle.circuit_model.specs.Names.{has, all_different}
use Rattle.circuit_model.specs.Values.{driver}
use Rattle.circuit_model.specs.Runs.{leaves_of}
use Rattle.circuit_model.specs.Soundness.{outputs_of, leaf_names, IsAcyclic}
use Rattle.circuit_model.specs.declared.circuit.Table.{Table}
use Rattle.circuit_model.specs.declared.circuit.Circuit.{Circuit}
use Rattle.circuit_laws.specs.Edits.{replaced, with_tables, with_replaced}
use Rattle.circuit_laws.specs.Fitting.{IsFitting}
use Rattle.circuit_laws.proofs.Drivers.{output_driver, driver_replaced_own, driver_replaced_other, outputs-replaced}
use Rattle.circuit_laws.proofs.Names.{name_cases}
use Rattle.circuit_laws.proofs.Places.{set_replaced}
use Rattle.circuit_laws.proofs.Sound.{sound_replaced}
use Rattle.indexmap.specs.IndexMap.{get}
use Rattle.circuit_order.specs.Order.{IsOrdered}
use Rattle.circuit_order.specs.Places.{IsIndex}
use Rattle.circuit_order.proofs.Indexing.{within}
use Rattle.net_core.proofs.Lookups.{get_set_same, get_set_other}
use Rattle.func_core.specs.Trees.{BooleanFunction, Tree}
use Rattle.func_core.specs.Numbers.{Stays}
use Rattle.func_core.specs.declared.functions.Func.{Func}
use Rattle.func_core.proofs.Meanings.{Means-same}
use Rattle.net_func.specs.Numbering.{number_in, has_number, AreSome}
use Rattle.net_func.specs.Signals.{leaves_at, own_function, free_function}
use Rattle.net_func.specs.Kept.{is_signal, is_free_signal, IsInOrder, IsUnreached}
use Rattle.net_func.specs.Held.{circuit_of, IsReady, AreKept, AreLess, KeepsNone, KeepsSome}
use Rattle.net_func.specs.declared.kept.KeptFunctions.{KeptFunctions}
use Rattle.net_func.specs.declared.ordered.OrderedCircuit.{OrderedCircuit}
use Rattle.net_func.proofs.Circuits.{own_settled}
use Rattle.net_func.proofs.Keeping.{some_none, some_later}
use Rattle.net_func.proofs.Reach.{unreached_replaced}

-- each table is still after those that it reads
ordered_replaced : (tables : List Table) (names : List (List ℕ)) (new : Table)
    → has (outputs_of tables) new.output ≡ true
    → ((old : Table) → driver tables new.output ≡ Some old → (input : List ℕ)
    → has new.inputs input ≡ true → has old.inputs input ≡ true)
    → IsOrdered tables names → IsOrdered (replaced tables new) names
ordered_replaced tables names new driven reads was = record {
  once = was.once;
  each = λ name. was.each name
      ∙ sym (ap (λ (outputs : List (List ℕ)). has outputs name) (outputs-replaced tables new));
  behind = λ before after name input table is at among there.
      was.behind before after name input
      (standing name table at (name_cases name new.output)).0 is
      (standing name table at (name_cases name new.output)).1
      ((standing name table at (name_cases name new.output)).2 input among)
      (ap (λ (outputs : List (List ℕ)). has outputs input) (sym (outputs-replaced tables new))
      ∙ there);
}
  where
    standing : (name : List ℕ) (table : Table) → driver (replaced tables new) name ≡ Some table
        → (name ≡ new.output) ⊎ (bytes_eq name new.output ≡ false)
        → (old : Table) × (driver tables name ≡ Some old) × ((input : List ℕ)
        → has table.inputs input ≡ true → has old.inputs input ≡ true)
    standing name table at (inr other) =
        (table, sym (driver_replaced_other tables new name other) ∙ at, λ input among. among)
    standing name table at (inl same) =
        let (old, there) = output_driver tables new.output driven in
        let is : new ≡ table = same_Some new table (sym (driver_replaced_own tables new driven)
        ∙ ap (driver (replaced tables new)) (sym same) ∙ at) in (
          old,
          ap (driver tables) same ∙ there,
          λ input among. reads old there input
              (ap (λ (t : Table). has t.inputs input) is ∙ among),
        )

-- and each has its index
module _ (tables : List Table) (place : List ℕ → Option ℕ) (new : Table) (i : ℕ)
    (once : all_different (outputs_of tables) ≡ true) (index : IsIndex tables place)
    (at : place new.output ≡ Some i) where
  old_there : (old : Table) × (slice_get tables i ≡ Some old) × (old.output ≡ new.output)
  old_there = index.only new.output i at

  pub place_within : i < length tables
  place_within = within tables i old_there.0 old_there.1

  pub set_is : set tables i new ≡ replaced tables new
  set_is = set_replaced tables i old_there.0 new once old_there.1 old_there.2

  index_set : IsIndex (set tables i new) place
  index_set = record {
    placed = λ j table there. placed j (cases_eq j i) table there;
    only = λ name j there. only j (cases_eq j i) name there;
  }
    where
      placed : (j : ℕ) → (j ≡ i) ⊎ (j ≡ i → ⊥) → (table : Table)
          → slice_get (set tables i new) j ≡ Some table → place table.output ≡ Some j
      placed j (inl same) table there =
          let is : new ≡ table = same_Some new table
          (sym (get_set_same tables i old_there.0 new old_there.1)
          ∙ ap (slice_get (set tables i new)) (sym same) ∙ there) in
          ap (λ (t : Table). place t.output) (sym is) ∙ at ∙ ap (λ (n : ℕ). Some n) (sym same)
      placed j (inr other) table there =
          index.placed j table (sym (get_set_other tables i j new other) ∙ there)

      only : (j : ℕ) → (j ≡ i) ⊎ (j ≡ i → ⊥) → (name : List ℕ) → place name ≡ Some j
          → (table : Table) × (slice_get (set tables i new) j ≡ Some table) × (table.output ≡ name)
      only j (inl same) name there =
          let (table, stands, output) = index.only name j there in
          let is : old_there.0 ≡ table = same_Some old_there.0 table
          (sym old_there.1 ∙ ap (slice_get tables) (sym same) ∙ stands) in (
            new,
            ap (slice_get (set tables i new)) same
                ∙ get_set_same tables i old_there.0 new old_there.1,
            sym old_there.2 ∙ ap (λ (t : Table). t.output) is ∙ output,
          )
      only j (inr other) name there =
          let (table, stands, output) = index.only name j there in
          (table, get_set_other tables i j new other ∙ stands, output)

  index_replaced : IsIndex (replaced tables new) place
  index_replaced = subst (λ (ts : List Table). IsIndex ts place) set_is index_set

-- the circuit stays sound and in order
module _ (before : OrderedCircuit) (new : Table) (ready : IsInOrder before) (i : ℕ)
    (at : Some i ≡ get bytes_eq before.tables.places new.output)
    (driven : has (outputs_of before.circuit.tables) new.output ≡ true)
    (fitting : IsFitting before.circuit new)
    (acyclic : IsAcyclic (replaced before.circuit.tables new))
    (reads : (old : Table) → driver before.circuit.tables new.output ≡ Some old
    → (input : List ℕ) → has new.inputs input ≡ true → has old.inputs input ≡ true) where
  pub place_there : i < length before.circuit.tables
  place_there =
      place_within before.circuit.tables (get bytes_eq before.tables.places) new i
      (own_settled before.circuit ready.sound).once ready.tables.places (sym at)

  pub table_set : (tables : List Table) → tables ≡ set before.circuit.tables i new
      → tables ≡ replaced before.circuit.tables new
  table_set tables is =
      is ∙ set_is before.circuit.tables (get bytes_eq before.tables.places) new i
      (own_settled before.circuit ready.sound).once ready.tables.places (sym at)

  in_order_after : IsInOrder
      (record before { circuit = with_tables before.circuit (replaced before.circuit.tables new) })
  unfolding with_replaced
  in_order_after = record {
    sound = sound_replaced before.circuit new ready.sound driven fitting acyclic;
    leaves = ready.leaves;
    tables = record {
      places = index_replaced before.circuit.tables (get bytes_eq before.tables.places) new i
          (own_settled before.circuit ready.sound).once ready.tables.places (sym at);
      names = ordered_replaced before.circuit.tables before.tables.names new driven reads
          ready.tables.names;
    };
    dont_care = ready.dont_care;
  }

  pub in_order_replaced : (tables : List Table) → tables ≡ set before.circuit.tables i new
      → IsInOrder (record before { circuit = with_tables before.circuit tables })
  in_order_replaced tables is =
      subst (λ (ts : List Table).
      IsInOrder (record before { circuit = with_tables before.circuit ts }))
      (sym (table_set tables is)) in_order_after

-- numbers that are kept
pub own_less : (circuit : Circuit) (new : Table) → IsAcyclic circuit.tables
    → IsAcyclic (replaced circuit.tables new) → (number some : List ℕ → Option Func)
    → IsUnreached circuit.tables new.output number some
    → AreLess (is_signal circuit) (is_signal (with_replaced circuit new)) (own_function circuit)
    (own_function (with_replaced circuit new)) number some
unfolding with_replaced
own_less circuit new acyclic later number some unreached = record {
  tests = λ name.
      ap (λ (outputs : List (List ℕ)). has (leaf_names circuit) name || has outputs name)
      (outputs-replaced circuit.tables new);
  same = unreached.same;
  stays = λ name f at.
      unreached_replaced circuit new acyclic later number some unreached name
      (ap (λ (found : Option Func). is_some found) at);
}

pub free_less : (circuit : Circuit) (new : Table) (number : List ℕ → Option Func)
    → AreLess (is_free_signal circuit) (is_free_signal (with_replaced circuit new))
    (free_function circuit) (free_function (with_replaced circuit new)) number number
unfolding with_replaced leaves_at leaves_of
free_less circuit new number = record {
  tests = λ name. refl;
  same = λ name f at. at;
  stays = λ name f at point. refl;
}

-- what is kept is still right
module _ {S : Type 0} (holds : S → ℕ → Type 0) (tree : S → ℕ → Tree) (limit : S → ℕ) where
  pub less_right : (state : S) (test later_test : List ℕ → Bool)
      (value later : List ℕ → BooleanFunction) (number some : List ℕ → Option Func)
      → AreLess test later_test value later number some
      → AreSome holds tree limit state test value number
      → AreSome holds tree limit state later_test later some
  less_right state test later_test value later number some less are = record {
    among = λ name there. less.tests name ∙ are.among name
        (there_before name (some name) refl there);
    right = λ name f at.
        Means-same holds tree limit state f.0 (value name) (later name)
        (are.right name f (less.same name f at)) (λ point. sym (less.stays name f at point));
  }
    where
      there_before : (name : List ℕ) (found : Option Func) → some name ≡ found
          → is_some (some name) ≡ true → has_number number name ≡ true
      there_before name None at there =
          absurd (false≢true (sym (ap (λ (o : Option Func). is_some o) at) ∙ there))
      there_before name (Some f) at there =
          ap (λ (o : Option Func). is_some o) (less.same name f at)

  pub less_kept : (state : S) (before after : KeptFunctions) → KeepsSome before after
      → AreKept holds tree limit state before → AreKept holds tree limit state after
  less_kept state before after less kept = record {
    own = less_right state (is_signal (circuit_of before)) (is_signal (circuit_of after))
        (own_function (circuit_of before)) (own_function (circuit_of after))
        (number_in before.own) (number_in after.own) less.own kept.own;
    free = less_right state (is_free_signal (circuit_of before)) (is_free_signal (circuit_of after))
        (free_function (circuit_of before)) (free_function (circuit_of after))
        (number_in before.free) (number_in after.free) less.free kept.free;
  }

  pub later_kept : (first second : S) (kept : KeptFunctions) → Stays holds tree limit first second
      → AreKept holds tree limit first kept → AreKept holds tree limit second kept
  later_kept first second kept stays are = record {
    own = some_later holds tree limit first second (is_signal (circuit_of kept))
        (own_function (circuit_of kept)) (number_in kept.own) stays are.own;
    free = some_later holds tree limit first second (is_free_signal (circuit_of kept))
        (free_function (circuit_of kept)) (number_in kept.free) stays are.free;
  }

  pub none_kept : (state : S) (kept : KeptFunctions) → KeepsNone kept
      → AreKept holds tree limit state kept
  none_kept state kept none = record {
    own = some_none holds tree limit state (is_signal (circuit_of kept))
        (own_function (circuit_of kept)) (number_in kept.own) none.own;
    free = some_none holds tree limit state (is_free_signal (circuit_of kept))
        (free_function (circuit_of kept)) (number_in kept.free) none.free;
  }

-- all is kept if a table is replaced by itself
pub replaced_itself : (tables : List Table) (table : Table)
    → driver tables table.output ≡ Some table → replaced tables table ≡ tables
unfolding driver replaced
replaced_itself [] table at = absurd (none-some table at)
replaced_itself (first ∷ tables) table at =
    cases (bytes_eq table.output first.output) at (replaced_itself tables table)
  where
    cases : (b : Bool) → cond b (Some first) (driver tables table.output) ≡ Some table
        → (driver tables table.output ≡ Some table → replaced tables table ≡ tables)
        → cond b (table ∷ tables) (first ∷ replaced tables table) ≡ first ∷ tables
    cases true here rest = ap (λ (t : Table). t ∷ tables) (sym (same_Some first table here))
    cases false there rest = ap (λ (ts : List Table). first ∷ ts) (rest there)

pub all_left : (kept : KeptFunctions) → KeepsSome kept kept
all_left kept = record {
  own = record { tests = λ name. refl; same = λ name f at. at; stays = λ name f at point. refl };
  free = record { tests = λ name. refl; same = λ name f at. at; stays = λ name f at point. refl };
}

-- what is kept if a table is replaced by another one
pub some_left : (before after : KeptFunctions) (new : Table) → IsReady before → IsReady after
    → circuit_of after ≡ with_replaced (circuit_of before) new
    → IsUnreached (circuit_of before).tables new.output (number_in before.own) (number_in after.own)
    → number_in after.free ≡ number_in before.free → KeepsSome before after
unfolding with_replaced
some_left before after new ready later is unreached free_is = record {
  own = subst (λ (c : Circuit). AreLess (is_signal (circuit_of before)) (is_signal c)
      (own_function (circuit_of before)) (own_function c) (number_in before.own)
      (number_in after.own)) (sym is)
      (own_less (circuit_of before) new ready.sound.acyclic
      (subst (λ (c : Circuit). IsAcyclic c.tables) is later.sound.acyclic) (number_in before.own)
      (number_in after.own) unreached);
  free = subst (λ (c : Circuit). AreLess (is_free_signal (circuit_of before)) (is_free_signal c)
      (free_function (circuit_of before)) (free_function c) (number_in before.free)
      (number_in after.free)) (sym is)
      (subst (λ (number : List ℕ → Option Func). AreLess (is_free_signal (circuit_of before))
      (is_free_signal (with_replaced (circuit_of before) new)) (free_function (circuit_of before))
      (free_function (with_replaced (circuit_of before) new)) (number_in before.free) number)
      (sym free_is) (free_less (circuit_of before) new (number_in before.free)));
}
