-- Signals that a signal does not reach: their functions stay if it is fixed, and if its table is
-- replaced by another one.
use Rattle.std.proofs.Common.{◌≡◌, ℕ, Bool, true, false, if◌then◌else◌, Option, Some, None, is_some, unwrap_or, List, [], ◌∷◌, bytes_eq, refl, sym, ap, ◌∙◌}
use Rattle.std.specs.List.{AllByRecursion, list_all}
use Rattle.std.proofs.lemmas.Bool.{false≢true, and_parts, and_from}
use Rattle.std.proofs.lemmas.Option.{none-some}
use Rattle.circuit_model.specs.Values.{driver, driven_value}
use Rattle.circuit_model.specs.Runs.{leaves_of}
use Rattle.circuit_model.specs.Soundness.{IsAcyclic}
use Rattle.circuit_model.specs.declared.circuit.Table.{Table}
use Rattle.circuit_model.specs.declared.circuit.Circuit.{Circuit}
use Rattle.circuit_laws.specs.Edits.{replaced, with_replaced}
use Rattle.circuit_laws.proofs.Drivers.{driver_replaced_other}
use Rattle.circuit_laws.proofs.Names.{name_not, same_name}
use Rattle.circuit_laws.proofs.Values.{valued, value_within}
use Rattle.func_core.specs.declared.functions.Func.{Func}
use Rattle.net_func.specs.Numbering.{has_number}
use Rattle.net_func.specs.Signals.{leaves_at, own_function, forced_function, fixed}
use Rattle.net_func.specs.Kept.{IsUnreached}

-- none have been copied yet
pub unreached_none : (tables : List Table) (name : List ℕ) (number some : List ℕ → Option Func)
    → ((signal : List ℕ) → some signal ≡ None) → IsUnreached tables name number some
unreached_none tables name number some none = record {
  same = λ signal f at. absurd (none-some f (sym (none signal) ∙ at));
  apart = none name;
  closed = λ signal table at there.
      absurd (false≢true (sym (ap (λ (found : Option Func). is_some found) (none signal)) ∙ there));
}

-- a test that more items pass
all_more : (test other : List ℕ → Bool) (names : List (List ℕ))
    → ((name : List ℕ) → test name ≡ true → other name ≡ true) → list_all test names ≡ true
    → list_all other names ≡ true
all_more test other [] more all = refl
all_more test other (name ∷ names) more all =
    let parts = and_parts (test name) (list_all test names) all in
    and_from (other name) (list_all other names) (more name parts.0)
    (all_more test other names more parts.1)

-- one more is copied
pub unreached_more : (tables : List Table) (name signal : List ℕ)
    (number old new : List ℕ → Option Func) (f : Func)
    → IsUnreached tables name number old → bytes_eq signal name ≡ false
    → ((table : Table) → driver tables signal ≡ Some table
    → list_all (has_number old) table.inputs ≡ true)
    → number signal ≡ Some f
    → ((other : List ℕ) → new other ≡ (if bytes_eq signal other then Some f else old other))
    → IsUnreached tables name number new
unreached_more tables name signal number old new f was apart reads there put = record {
  same = λ other g at. same other g (bytes_eq signal other) refl (sym (put other) ∙ at);
  apart = put name
      ∙ ap (λ (b : Bool). if b then Some f else old name) apart ∙ was.apart;
  closed = λ other table at known.
      all_more (has_number old) (has_number new) table.inputs more
      (closed other table at (bytes_eq signal other) refl
      (sym (ap (λ (found : Option Func). is_some found) (put other)) ∙ known));
}
  where
    same : (other : List ℕ) (g : Func) (b : Bool) → bytes_eq signal other ≡ b
        → (if b then Some f else old other) ≡ Some g → number other ≡ Some g
    same other g true is at = sym (ap number (same_name signal other is)) ∙ there ∙ at
    same other g false is at = was.same other g at

    more : (other : List ℕ) → has_number old other ≡ true → has_number new other ≡ true
    more other known =
        ap (λ (found : Option Func). is_some found) (put other) ∙ cases (bytes_eq signal other)
      where
        cases : (b : Bool) → is_some (if b then Some f else old other) ≡ true
        cases true = refl
        cases false = known

    closed : (other : List ℕ) (table : Table) → driver tables other ≡ Some table → (b : Bool)
        → bytes_eq signal other ≡ b → is_some (if b then Some f else old other) ≡ true
        → list_all (has_number old) table.inputs ≡ true
    closed other table at true is known =
        reads table (ap (driver tables) (same_name signal other is) ∙ at)
    closed other table at false is known = was.closed other table at known

-- signals that are not reached are other signals, and so are those that their tables read
apart_from : (name : List ℕ) (some : List ℕ → Option Func) → some name ≡ None
    → (signal : List ℕ) → has_number some signal ≡ true → bytes_eq signal name ≡ false
apart_from name some none signal known =
    name_not signal name (λ e.
    false≢true (sym (ap (λ (found : Option Func). is_some found) (ap some e ∙ none)) ∙ known))

each_passes : (test : List ℕ → Bool) (names : List (List ℕ)) → list_all test names ≡ true
    → AllByRecursion (λ name. test name ≡ true) names
each_passes test [] all = tt
each_passes test (name ∷ names) all =
    let parts = and_parts (test name) (list_all test names) all in
    (parts.0, each_passes test names parts.1)

module _ (circuit : Circuit) (acyclic : IsAcyclic circuit.tables) (name : List ℕ)
    (number some : List ℕ → Option Func)
    (unreached : IsUnreached circuit.tables name number some) where
  closed_there : (signal : List ℕ) (table : Table) → has_number some signal ≡ true
      → driver circuit.tables signal ≡ Some table
      → AllByRecursion (λ input. has_number some input ≡ true) table.inputs
  closed_there signal table known at =
      each_passes (has_number some) table.inputs (unreached.closed signal table at known)

  -- the signal is fixed
  pub unreached_forced : (bit : Bool) (signal : List ℕ) → has_number some signal ≡ true
      → (point : ℕ → Bool)
      → forced_function circuit name bit signal point ≡ own_function circuit signal point
  unfolding fixed
  unreached_forced bit signal known point =
      value_within (λ other. has_number some other ≡ true) circuit.tables (leaves_at circuit point)
      acyclic closed_there (λ other. forced_function circuit name bit other point)
      (λ other there.
      valued circuit.tables (fixed name bit (leaves_at circuit point)) acyclic other
      ∙ ap (λ (b : Bool). unwrap_or (if b then Some bit else leaves_at circuit point other)
      (driven_value (driver circuit.tables other)
      (λ s. forced_function circuit name bit s point)))
      (apart_from name some unreached.apart other there))
      signal known

-- its table is replaced by another one
pub unreached_replaced : (circuit : Circuit) (new : Table) → IsAcyclic circuit.tables
    → IsAcyclic (replaced circuit.tables new) → (number some : List ℕ → Option Func)
    → IsUnreached circuit.tables new.output number some
    → (signal : List ℕ) → has_number some signal ≡ true → (point : ℕ → Bool)
    → own_function (with_replaced circuit new) signal point ≡ own_function circuit signal point
unfolding with_replaced leaves_at leaves_of
unreached_replaced circuit new acyclic later number some unreached signal known point =
    value_within (λ other. has_number some other ≡ true) circuit.tables (leaves_at circuit point)
    acyclic (closed_there circuit acyclic new.output number some unreached)
    (λ other. own_function (with_replaced circuit new) other point)
    (λ other there.
    valued (replaced circuit.tables new) (leaves_at circuit point) later other
    ∙ ap (λ (found : Option Table). unwrap_or (leaves_at circuit point other)
    (driven_value found (λ s. own_function (with_replaced circuit new) s point)))
    (driver_replaced_other circuit.tables new other
    (apart_from new.output some unreached.apart other there)))
    signal known
