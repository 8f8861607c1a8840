-- Numbers that some signals have already, and those that the other ones get.
use Rattle.std.proofs.Common.{◌≡◌, ℕ, Bool, true, false, ◌||◌, if◌then◌else◌, Option, Some, None, is_some, List, bytes_eq, refl, sym, ap, ◌∙◌, subst}
use Rattle.std.proofs.lemmas.Bool.{false≢true, or_right}
use Rattle.std.proofs.lemmas.Option.{none-some}
use Rattle.circuit_model.specs.Names.{has}
use Rattle.circuit_model.specs.Values.{driver}
use Rattle.circuit_model.specs.Soundness.{outputs_of, leaf_names, IsSound}
use Rattle.circuit_model.specs.declared.circuit.Table.{Table}
use Rattle.circuit_model.specs.declared.circuit.Circuit.{Circuit}
use Rattle.circuit_laws.proofs.Names.{name_itself, name_not, same_name}
use Rattle.circuit_laws.proofs.Drivers.{none_driver}
use Rattle.func_core.specs.Trees.{BooleanFunction, Tree}
use Rattle.func_core.specs.Numbers.{Stays}
use Rattle.func_core.specs.declared.functions.Func.{Func}
use Rattle.func_core.proofs.Meanings.{Means-same, Means-kept}
use Rattle.net_func.specs.Numbering.{has_number, NumbersStand, AreSome, AreAll, Adds, IsBlamed, FitsOver}
use Rattle.net_func.specs.declared.parts.Part.{Part}
use Rattle.net_func.specs.Parts.{part_tables, part_function}
use Rattle.net_func.specs.Signals.{leaves_at, own_function, forced_function, fixed, IsBigAt}
use Rattle.net_func.specs.Kept.{is_signal, IsUnreached}
use Rattle.net_func.proofs.Circuits.{part_fits, over_fits, own_none, fixed_itself}
use Rattle.net_func.proofs.LeafBits.{leaves_same}
use Rattle.net_func.proofs.Reach.{unreached_forced}

-- functions of a circuit fit, whatever has a number already
pub part_fits_over : (part : Part) (circuit : Circuit) → IsSound circuit
    → (number : List ℕ → Option Func)
    → FitsOver (leaf_names circuit) (part_tables part circuit) number (part_function part circuit)
part_fits_over part circuit sound number = record {
  leaf = (part_fits part circuit sound).leaf;
  rest = λ name table at unnumbered. (part_fits part circuit sound).rest name table at refl;
}

pub forced_fits_over : (circuit : Circuit) → IsSound circuit → (name : List ℕ) (bit : Bool)
    (number : List ℕ → Option Func) → has (outputs_of circuit.tables) name ≡ true
    → has_number number name ≡ true
    → FitsOver (leaf_names circuit) circuit.tables number (forced_function circuit name bit)
unfolding fixed
forced_fits_over circuit sound name bit number driven known =
    over_fits circuit.tables (λ point. fixed name bit (leaves_at circuit point))
    (leaf_names circuit) number sound.acyclic
    (λ other free point.
    ap (λ (b : Bool). if b then Some bit else leaves_at circuit point other)
    (name_not other name (λ e.
    none-other other free (ap (has (outputs_of circuit.tables)) e ∙ driven)))
    ∙ leaves_same circuit point other)
    (λ other table at unnumbered point.
    ap (λ (b : Bool). if b then Some bit else leaves_at circuit point other)
    (name_not other name (λ e.
    false≢true (sym (ap (λ (found : Option Func). is_some found) (sym (ap number e) ∙ unnumbered))
    ∙ known)))
    ∙ own_none circuit sound other table at point)
  where
    none-other : (other : List ℕ) → driver circuit.tables other ≡ None
        → has (outputs_of circuit.tables) other ≡ true → ⊥
    none-other other free there =
        false≢true (sym (none_driver circuit.tables other free) ∙ there)

module _ {S : Type 0} (holds : S → ℕ → Type 0) (tree : S → ℕ → Tree) (limit : S → ℕ) where
  pub some_stands : (state : S) (test : List ℕ → Bool) (value : List ℕ → BooleanFunction)
      (number : List ℕ → Option Func) → AreSome holds tree limit state test value number
      → NumbersStand holds state number
  some_stands state test value number some name f at = (some.right name f at).stands

  -- no numbers, numbers of all, and numbers later on
  pub some_none : (state : S) (test : List ℕ → Bool) (value : List ℕ → BooleanFunction)
      (number : List ℕ → Option Func) → ((name : List ℕ) → number name ≡ None)
      → AreSome holds tree limit state test value number
  some_none state test value number none = record {
    among = λ name there.
        absurd (false≢true (sym (ap (λ (found : Option Func). is_some found) (none name)) ∙ there));
    right = λ name f at. absurd (none-some f (sym (none name) ∙ at));
  }

  pub all_some : (state : S) (test : List ℕ → Bool) (value : List ℕ → BooleanFunction)
      (number : List ℕ → Option Func) → AreAll holds tree limit state test value number
      → AreSome holds tree limit state test value number
  all_some state test value number all = record {
    among = λ name there. sym (all.known name) ∙ there;
    right = all.right;
  }

  pub some_later : (before after : S) (test : List ℕ → Bool) (value : List ℕ → BooleanFunction)
      (number : List ℕ → Option Func) → Stays holds tree limit before after
      → AreSome holds tree limit before test value number
      → AreSome holds tree limit after test value number
  some_later before after test value number stays some = record {
    among = some.among;
    right = λ name f at.
        Means-kept holds tree limit before after f.0 (value name) stays (some.right name f at);
  }

  -- the other ones get theirs
  some_all : (before after : S) (old new : List ℕ → Option Func) (test : List ℕ → Bool)
      (Fits : (List ℕ → BooleanFunction) → Type 0) (value : List ℕ → BooleanFunction) → Fits value
      → AreSome holds tree limit before test value old
      → Adds holds tree limit before after old new test Fits
      → AreAll holds tree limit after test value new
  some_all before after old new test Fits value fits some adds = record {
    known = λ name. adds.known name ∙ within (has_number old name) (test name) (some.among name);
    right = adds.right value some.right fits;
  }
    where
      within : (a b : Bool) → (a ≡ true → b ≡ true) → (a || b) ≡ b
      within true true h = refl
      within true false h = sym (h refl)
      within false b h = refl

  module _ (before : S) (leaves names : List (List ℕ)) (tables drivers : List Table)
      (value : List ℕ → BooleanFunction) (old : List ℕ → Option Func) (leaves_are : leaves ≡ names)
      (tables_are : tables ≡ drivers) (fits : FitsOver names drivers old value)
      (some : AreSome holds tree limit before
      (λ name. has names name || has (outputs_of drivers) name) value old) where
    pub completed : (after : S) (new : List ℕ → Option Func)
        → Adds holds tree limit before after old new
        (λ name. has leaves name || has (outputs_of tables) name) (FitsOver leaves tables old)
        → AreAll holds tree limit after
        (λ name. has names name || has (outputs_of drivers) name) value new
    completed after new adds =
        some_all before after old new (λ name. has names name || has (outputs_of drivers) name)
        (FitsOver names drivers old) value fits some
        (subst (λ (ts : List Table). Adds holds tree limit before after old new
        (λ name. has names name || has (outputs_of ts) name) (FitsOver names ts old)) tables_are
        (subst (λ (ls : List (List ℕ)). Adds holds tree limit before after old new
        (λ name. has ls name || has (outputs_of tables) name) (FitsOver ls tables old))
        leaves_are adds))

    pub completed_big : (blamed : List ℕ)
        → IsBlamed holds tree limit before tables old (FitsOver leaves tables old) blamed
        → (old blamed ≡ None) × IsBigAt (limit before) drivers value blamed
    completed_big blamed cause = (
      cause.unnumbered,
      (subst (λ (ts : List Table). IsBlamed holds tree limit before ts old (FitsOver names ts old)
          blamed) tables_are
          (subst (λ (ls : List (List ℕ)). IsBlamed holds tree limit before tables old
          (FitsOver ls tables old) blamed) leaves_are cause)).big value some.right fits,
    )

  -- if a signal is fixed those that it does not reach keep their numbers, and it gets its own
  module _ (circuit : Circuit) (sound : IsSound circuit) (name : List ℕ) (bit : Bool) where
    known_there : (number some : List ℕ → Option Func)
        → ((signal : List ℕ) (f : Func) → some signal ≡ Some f → number signal ≡ Some f)
        → (signal : List ℕ) → has_number some signal ≡ true → has_number number signal ≡ true
    known_there number some same signal there = cases (some signal) refl there
      where
        cases : (found : Option Func) → some signal ≡ found → is_some found ≡ true
            → has_number number signal ≡ true
        cases None at known = absurd (false≢true known)
        cases (Some f) at known =
            ap (λ (found : Option Func). is_some found) (same signal f at)

    pub forced_start : (state : S) (number some : List ℕ → Option Func)
        → IsUnreached circuit.tables name number some
        → AreSome holds tree limit state (is_signal circuit) (own_function circuit) number
        → AreSome holds tree limit state (is_signal circuit) (forced_function circuit name bit) some
    forced_start state number some unreached own = record {
      among = λ signal there.
          own.among signal (known_there number some unreached.same signal there);
      right = λ signal f at.
          Means-same holds tree limit state f.0 (own_function circuit signal)
          (forced_function circuit name bit signal)
          (own.right signal f (unreached.same signal f at))
          (λ point. sym (unreached_forced circuit sound.acyclic name number some unreached bit
          signal (ap (λ (found : Option Func). is_some found) at) point));
    }

    forced_fixed : (first second : S) (old new : List ℕ → Option Func)
        → has (outputs_of circuit.tables) name ≡ true
        → AreSome holds tree limit first (is_signal circuit) (forced_function circuit name bit) old
        → Adds holds tree limit first second old new (λ other. bytes_eq other name)
        (λ value. (point : ℕ → Bool) → value name point ≡ bit)
        → AreSome holds tree limit second (is_signal circuit) (forced_function circuit name bit) new
    forced_fixed first second old new driven some adds = record {
      among = λ signal there.
          cases signal (has_number old signal) refl (bytes_eq signal name) refl
          (sym (adds.known signal) ∙ there);
      right = adds.right (forced_function circuit name bit) some.right
          (fixed_itself circuit sound name bit);
    }
      where
        cases : (signal : List ℕ) (a : Bool) → has_number old signal ≡ a → (b : Bool)
            → bytes_eq signal name ≡ b → (a || b) ≡ true → is_signal circuit signal ≡ true
        cases signal true known b is h = some.among signal known
        cases signal false known true is h =
            or_right (has (leaf_names circuit) signal) (has (outputs_of circuit.tables) signal)
            (ap (has (outputs_of circuit.tables)) (same_name signal name is) ∙ driven)
        cases signal false known false is h = absurd (false≢true h)

    pub forced_some : (first second : S) (number some new : List ℕ → Option Func)
        → IsUnreached circuit.tables name number some
        → has (outputs_of circuit.tables) name ≡ true
        → AreSome holds tree limit first (is_signal circuit) (own_function circuit) number
        → Adds holds tree limit first second some new (λ other. bytes_eq other name)
        (λ value. (point : ℕ → Bool) → value name point ≡ bit)
        → AreSome holds tree limit second (is_signal circuit) (forced_function circuit name bit) new
    forced_some first second number some new unreached driven own adds =
        forced_fixed first second some new driven (forced_start first number some unreached own)
        adds

    pub fixed_known : (first second : S) (old new : List ℕ → Option Func)
        → Adds holds tree limit first second old new (λ other. bytes_eq other name)
        (λ value. (point : ℕ → Bool) → value name point ≡ bit) → has_number new name ≡ true
    fixed_known first second old new adds =
        adds.known name ∙ or_right (has_number old name) (bytes_eq name name) (name_itself name)

    pub other_blamed : (number : List ℕ → Option Func) (blamed : List ℕ)
        → has_number number name ≡ true → number blamed ≡ None → bytes_eq blamed name ≡ false
    other_blamed number blamed known none =
        name_not blamed name (λ e.
        false≢true (sym (ap (λ (found : Option Func). is_some found) (sym (ap number e) ∙ none))
        ∙ known))
