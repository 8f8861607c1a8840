-- The functions of a sound circuit: its leaves are apart from its tables, its functions solve the
-- equations of its tables, and so do those of its don't-care part and those with one signal fixed.
use Rattle.std.proofs.Common.{◌≡◌, ℕ, Bool, true, false, ◌||◌, if◌then◌else◌, Option, Some, None, is_some, unwrap_or, List, ◌++◌, bytes_eq, refl, sym, ap, ◌∙◌, subst, inl, inr}
use Rattle.std.proofs.lemmas.Bool.{false≢true, or_left, or_right}
use Rattle.std.proofs.lemmas.Option.{none-some}
use Rattle.std.proofs.Math.Path.{fun_ext}
use Rattle.circuit_model.specs.Names.{has, all_different}
use Rattle.circuit_model.specs.Values.{Leaves, driver, driven_value, signal_value, dont_care_leaves}
use Rattle.circuit_model.specs.Runs.{latch_outputs}
use Rattle.circuit_model.specs.Soundness.{outputs_of, table_inputs, leaf_names, given, taken, latch_inputs, IsAcyclic, IsSound}
use Rattle.circuit_model.specs.declared.circuit.Table.{Table}
use Rattle.circuit_model.specs.declared.circuit.Circuit.{Circuit}
use Rattle.circuit_laws.proofs.Names.{name_itself, has_front, has_back, has_either, has_append, has_not, all_has, AreApart, different_apart, apart_different, same_name}
use Rattle.circuit_laws.proofs.Drivers.{driver_output, none_driver}
use Rattle.circuit_laws.proofs.Values.{valued}
use Rattle.func_core.specs.Trees.{BooleanFunction, Tree}
use Rattle.func_core.specs.Numbers.{Stays}
use Rattle.func_core.specs.declared.functions.Func.{Func}
use Rattle.net_func.specs.declared.parts.Part.{Part}
use Rattle.net_func.specs.declared.parts.Part.TheVariants.{Tables, DontCare}
use Rattle.net_func.specs.Parts.{part_tables, part_function, is_part_signal}
use Rattle.net_func.specs.Signals.{leaves_at, function_over, own_function, free_function, forced_function, fixed, IsBigAt}
use Rattle.net_func.specs.Numbering.{has_number, Solves, AreSettled, AreOver, AreAll, Adds, IsBlamed, no_numbers, leaf_bits, FitsOver}
use Rattle.net_func.proofs.LeafBits.{bits_none, bits_some, leaves_same}

-- inputs, latches and tables drive different signals
pub own_apart : (circuit : Circuit) → IsSound circuit
    → AreApart circuit.inputs (latch_outputs circuit ++ outputs_of circuit.tables)
unfolding given
own_apart circuit sound =
    different_apart circuit.inputs (latch_outputs circuit ++ outputs_of circuit.tables)
    sound.one_driver

pub latches_apart : (circuit : Circuit) → IsSound circuit
    → AreApart (latch_outputs circuit) (outputs_of circuit.tables)
latches_apart circuit sound =
    different_apart (latch_outputs circuit) (outputs_of circuit.tables) (own_apart circuit
    sound).back

pub leaves_once : (circuit : Circuit) → IsSound circuit → all_different (leaf_names circuit) ≡ true
leaves_once circuit sound =
    apart_different circuit.inputs (latch_outputs circuit) (record {
      front = (own_apart circuit sound).front;
      back = (latches_apart circuit sound).front;
      between = λ name input latch.
          (own_apart circuit sound).between name input
          (has_front (latch_outputs circuit) (outputs_of circuit.tables) name latch);
    })

pub driven_no_leaf : (circuit : Circuit) → IsSound circuit → (name : List ℕ)
    → has (outputs_of circuit.tables) name ≡ true → has (leaf_names circuit) name ≡ false
driven_no_leaf circuit sound name driven =
    has_not (leaf_names circuit) name (λ leaf.
    elim (has_either circuit.inputs (latch_outputs circuit) name leaf) as (λ _. ⊥) [
      | inl input ↦
          (own_apart circuit sound).between name input
          (has_back (latch_outputs circuit) (outputs_of circuit.tables) name driven)
      | inr latch ↦ (latches_apart circuit sound).between name latch driven
    ])

-- the tables are settled, and read only leaves and signals that are driven
pub own_settled : (circuit : Circuit) → IsSound circuit → AreSettled circuit.tables
own_settled circuit sound = record {
  once = (latches_apart circuit sound).back;
  acyclic = sound.acyclic;
  shaped = sound.shaped;
}

pub free_settled : (circuit : Circuit) → IsSound circuit → AreSettled circuit.dont_care
free_settled circuit sound = record {
  once = sound.dont_care_once;
  acyclic = sound.dont_care_acyclic;
  shaped = sound.dont_care_shaped;
}

pub own_over : (circuit : Circuit) → IsSound circuit → AreOver (leaf_names circuit) circuit.tables
unfolding given taken
own_over circuit sound input reads =
    let known : has (given circuit) input ≡ true =
    all_has (λ name. has (given circuit) name ≡ true) (taken circuit) sound.driven input
    (has_front (table_inputs circuit.tables) (latch_inputs circuit ++ circuit.outputs) input reads)
    in
    elim (has_either circuit.inputs (latch_outputs circuit ++ outputs_of circuit.tables) input
    known) as
    (λ _. (has (outputs_of circuit.tables) input || has (leaf_names circuit) input) ≡ true) [
      | inl leaf ↦
          or_right (has (outputs_of circuit.tables) input) (has (leaf_names circuit) input)
          (has_front circuit.inputs (latch_outputs circuit) input leaf)
      | inr other ↦
          elim (has_either (latch_outputs circuit) (outputs_of circuit.tables) input other) as
          (λ _. (has (outputs_of circuit.tables) input || has (leaf_names circuit) input) ≡ true) [
            | inl latch ↦
                or_right (has (outputs_of circuit.tables) input) (has (leaf_names circuit) input)
                (has_back circuit.inputs (latch_outputs circuit) input latch)
            | inr driven ↦
                or_left (has (outputs_of circuit.tables) input) (has (leaf_names circuit) input)
                driven
          ]
    ]

free_over : (circuit : Circuit) → IsSound circuit → AreOver (leaf_names circuit)
    circuit.dont_care
free_over circuit sound input reads =
    sym (has_append (outputs_of circuit.dont_care) (leaf_names circuit) input)
    ∙ all_has (λ name. has (outputs_of circuit.dont_care ++ leaf_names circuit) name ≡ true)
    (table_inputs circuit.dont_care) sound.dont_care_known input reads

pub part_settled : (part : Part) (circuit : Circuit) → IsSound circuit
    → AreSettled (part_tables part circuit)
part_settled Tables circuit sound = own_settled circuit sound
part_settled DontCare circuit sound = free_settled circuit sound

pub part_over : (part : Part) (circuit : Circuit) → IsSound circuit
    → AreOver (leaf_names circuit) (part_tables part circuit)
part_over Tables circuit sound = own_over circuit sound
part_over DontCare circuit sound = free_over circuit sound

-- a leaf has its bit, and what a table drives solves its equation
pub over_leaf : (tables : List Table) (leaves : (ℕ → Bool) → Leaves) → IsAcyclic tables → (name :
    List ℕ)
    (point : ℕ → Bool) (bit : Bool) → leaves point name ≡ Some bit
    → function_over tables leaves name point ≡ bit
over_leaf tables leaves acyclic name point bit at =
    valued tables (leaves point) acyclic name
    ∙ ap (λ (found : Option Bool). unwrap_or found (driven_value (driver tables name)
    (signal_value tables (leaves point))))
    at

pub over_table : (tables : List Table) (leaves : (ℕ → Bool) → Leaves) → IsAcyclic tables → (name :
    List ℕ)
    (table : Table) → driver tables name ≡ Some table → ((point : ℕ → Bool) → leaves point name ≡
    None)
    → Solves (function_over tables leaves) name table
over_table tables leaves acyclic name table at none point =
    valued tables (leaves point) acyclic name
    ∙ ap (λ (found : Option Bool). unwrap_or found (driven_value (driver tables name)
    (signal_value tables (leaves point))))
    (none point)
    ∙ ap (λ (found : Option Table). driven_value found (signal_value tables (leaves point))) at

some_is : (found : Option Bool) → is_some found ≡ true → (value : Bool)
    → ((bit : Bool) → found ≡ Some bit → value ≡ bit) → found ≡ Some value
some_is None there value is = absurd (false≢true there)
some_is (Some bit) there value is = ap (λ (b : Bool). Some b) (sym (is bit refl))

pub over_fits : (tables : List Table) (leaves : (ℕ → Bool) → Leaves) (names : List (List ℕ))
    (number : List ℕ → Option Func) → IsAcyclic tables
    → ((name : List ℕ) → driver tables name ≡ None → (point : ℕ → Bool)
    → leaves point name ≡ leaf_bits 0 names point name)
    → ((name : List ℕ) (table : Table) → driver tables name ≡ Some table → number name ≡ None
    → (point : ℕ → Bool) → leaves point name ≡ None)
    → FitsOver names tables number (function_over tables leaves)
over_fits tables leaves names number acyclic same none = record {
  leaf = λ name free among point.
      some_is (leaf_bits 0 names point name) (bits_some 0 names name point ∙ among)
      (function_over tables leaves name point)
      (λ bit at. over_leaf tables leaves acyclic name point bit (same name free point ∙ at));
  rest = λ name table at unnumbered.
      over_table tables leaves acyclic name table at (none name table at unnumbered);
}

pub own_none : (circuit : Circuit) → IsSound circuit → (name : List ℕ) (table : Table)
    → driver circuit.tables name ≡ Some table → (point : ℕ → Bool) → leaves_at circuit point name ≡
    None
own_none circuit sound name table at point =
    leaves_same circuit point name
    ∙ bits_none 0 (leaf_names circuit) name point
    (driven_no_leaf circuit sound name (driver_output circuit.tables name table at))

own_fits : (circuit : Circuit) → IsSound circuit
    → FitsOver (leaf_names circuit) circuit.tables no_numbers (own_function circuit)
own_fits circuit sound =
    over_fits circuit.tables (leaves_at circuit) (leaf_names circuit) no_numbers sound.acyclic
    (λ name free point. leaves_same circuit point name)
    (λ name table at unnumbered. own_none circuit sound name table at)

free_fits : (circuit : Circuit) → IsSound circuit
    → FitsOver (leaf_names circuit) circuit.dont_care no_numbers (free_function circuit)
unfolding dont_care_leaves
free_fits circuit sound =
    over_fits circuit.dont_care (λ point. dont_care_leaves circuit.dont_care (leaves_at circuit
    point))
    (leaf_names circuit) no_numbers sound.dont_care_acyclic
    (λ name free point.
    ap (λ (found : Option Table). if is_some found then None else leaves_at circuit point name) free
    ∙ leaves_same circuit point name)
    (λ name table at unnumbered point.
    ap (λ (found : Option Table). if is_some found then None else leaves_at circuit point name) at)

pub part_fits : (part : Part) (circuit : Circuit) → IsSound circuit
    → FitsOver (leaf_names circuit) (part_tables part circuit) no_numbers
    (part_function part circuit)
part_fits Tables circuit sound = own_fits circuit sound
part_fits DontCare circuit sound = free_fits circuit sound

-- one signal is fixed
pub fixed_itself : (circuit : Circuit) → IsSound circuit → (name : List ℕ) (bit : Bool) (point : ℕ →
    Bool)
    → forced_function circuit name bit name point ≡ bit
unfolding fixed
fixed_itself circuit sound name bit point =
    over_leaf circuit.tables (λ p. fixed name bit (leaves_at circuit p)) sound.acyclic name point
    bit
    (ap (λ (b : Bool). if b then Some bit else leaves_at circuit point name) (name_itself name))

pub forced_fits : (circuit : Circuit) → IsSound circuit → (name : List ℕ) (bit : Bool)
    (number : List ℕ → Option Func) → has (outputs_of circuit.tables) name ≡ true
    → ((other : List ℕ) → has_number number other ≡ bytes_eq other name)
    → FitsOver (leaf_names circuit) circuit.tables number (forced_function circuit name bit)
unfolding fixed
forced_fits circuit sound name bit number driven known =
    over_fits circuit.tables (λ point. fixed name bit (leaves_at circuit point)) (leaf_names
    circuit) number
    sound.acyclic
    (λ other free point.
    ap (λ (b : Bool). if b then Some bit else leaves_at circuit point other) (apart other free)
    ∙ leaves_same circuit point other)
    (λ other table at unnumbered point.
    ap (λ (b : Bool). if b then Some bit else leaves_at circuit point other)
    (sym (known other) ∙ ap (λ (found : Option Func). is_some found) unnumbered)
    ∙ own_none circuit sound other table at point)
  where
    apart : (other : List ℕ) → driver circuit.tables other ≡ None → bytes_eq other name ≡ false
    apart other free = cases (bytes_eq other name) refl
      where
        cases : (b : Bool) → bytes_eq other name ≡ b → b ≡ false
        cases false e = refl
        cases true e =
            absurd (false≢true (sym (none_driver circuit.tables other free)
            ∙ ap (has (outputs_of circuit.tables)) (same_name other name e) ∙ driven))

module _ {S : Type 0} (holds : S → ℕ → Type 0) (tree : S → ℕ → Tree) (limit : S → ℕ) where
  pub all_right : (before after : S) (new : List ℕ → Option Func) (test : List ℕ → Bool)
      (Fits : (List ℕ → BooleanFunction) → Type 0) (value : List ℕ → BooleanFunction)
      → Fits value → Adds holds tree limit before after no_numbers new test Fits
      → AreAll holds tree limit after test value new
  all_right before after new test Fits value fits adds = record {
    known = adds.known;
    right = adds.right value (λ name f at. absurd (none-some f at)) fits;
  }

  pub all_big : (before : S) (tables : List Table) (Fits : (List ℕ → BooleanFunction) → Type 0)
      (value : List ℕ → BooleanFunction) → Fits value → (blamed : List ℕ)
      → IsBlamed holds tree limit before tables no_numbers Fits blamed
      → IsBigAt (limit before) tables value blamed
  all_big before tables Fits value fits blamed cause =
      cause.big value (λ name f at. absurd (none-some f at)) fits

  pub forced_right : (first second third : S) (circuit : Circuit) (name : List ℕ) (bit : Bool)
      (old new : List ℕ → Option Func) → IsSound circuit → has (outputs_of circuit.tables) name ≡
      true
      → Adds holds tree limit first second no_numbers old (λ other. bytes_eq other name)
      (λ value. (point : ℕ → Bool) → value name point ≡ bit)
      → Adds holds tree limit second third old new
      (λ other. has (leaf_names circuit) other || has (outputs_of circuit.tables) other)
      (FitsOver (leaf_names circuit) circuit.tables old)
      → AreAll holds tree limit third
      (λ other. has (leaf_names circuit) other || has (outputs_of circuit.tables) other)
      (forced_function circuit name bit) new
  forced_right first second third circuit name bit old new sound driven a b = record {
    known = λ other.
        b.known other
        ∙ ap (λ (t : Bool). t || (has (leaf_names circuit) other || has (outputs_of circuit.tables)
        other))
        (a.known other)
        ∙ within other (bytes_eq other name) refl;
    right =
        b.right (forced_function circuit name bit)
        (a.right (forced_function circuit name bit) (λ n f at. absurd (none-some f at))
        (fixed_itself circuit sound name bit))
        (forced_fits circuit sound name bit old driven a.known);
  }
    where
      ends : (b : Bool) → (b || true) ≡ true
      ends true = refl
      ends false = refl

      within : (other : List ℕ) (t : Bool) → bytes_eq other name ≡ t
          → (t || (has (leaf_names circuit) other || has (outputs_of circuit.tables) other))
          ≡ (has (leaf_names circuit) other || has (outputs_of circuit.tables) other)
      within other false e = refl
      within other true e =
          sym (ap (λ (d : Bool). has (leaf_names circuit) other || d)
          (ap (has (outputs_of circuit.tables)) (same_name other name e) ∙ driven)
          ∙ ends (has (leaf_names circuit) other))

  pub forced_big : (first second : S) (circuit : Circuit) (name : List ℕ) (bit : Bool)
      (old : List ℕ → Option Func) → IsSound circuit → has (outputs_of circuit.tables) name ≡ true
      → Stays holds tree limit first second
      → Adds holds tree limit first second no_numbers old (λ other. bytes_eq other name)
      (λ value. (point : ℕ → Bool) → value name point ≡ bit)
      → (blamed : List ℕ)
      → IsBlamed holds tree limit second circuit.tables old (FitsOver (leaf_names circuit)
      circuit.tables old)
      blamed
      → (bytes_eq blamed name ≡ false)
      × IsBigAt (limit first) circuit.tables (forced_function circuit name bit) blamed
  forced_big first second circuit name bit old sound driven stays a blamed cause = (
    sym (a.known blamed) ∙ ap (λ (found : Option Func). is_some found) cause.unnumbered,
    subst (λ (l : ℕ). IsBigAt l circuit.tables (forced_function circuit name bit) blamed) stays.same
        (cause.big (forced_function circuit name bit)
        (a.right (forced_function circuit name bit) (λ n f at. absurd (none-some f at))
        (fixed_itself circuit sound name bit))
        (forced_fits circuit sound name bit old driven a.known)),
  )

-- numbers over leaves and tables are those of a circuit
module _ {S : Type 0} (holds : S → ℕ → Type 0) (tree : S → ℕ → Tree) (limit : S → ℕ) where
  -- from no numbers
  over_none : (before after : S) (old new : List ℕ → Option Func) (leaves names : List (List ℕ))
      (tables : List Table) → ((name : List ℕ) → old name ≡ None) → leaves ≡ names
      → Adds holds tree limit before after old new
      (λ name. has leaves name || has (outputs_of tables) name) (FitsOver leaves tables old)
      → Adds holds tree limit before after no_numbers new
      (λ name. has names name || has (outputs_of tables) name) (FitsOver names tables no_numbers)
  over_none before after old new leaves names tables none same adds =
      subst (λ (ls : List (List ℕ)). Adds holds tree limit before after no_numbers new
      (λ name. has ls name || has (outputs_of tables) name) (FitsOver ls tables no_numbers)) same
      (subst (λ (number : List ℕ → Option Func). Adds holds tree limit before after number new
      (λ name. has leaves name || has (outputs_of tables) name) (FitsOver leaves tables number))
      (fun_ext none) adds)

  blamed_none : (before : S) (old : List ℕ → Option Func) (leaves names : List (List ℕ)) (tables
      : List Table)
      → ((name : List ℕ) → old name ≡ None) → leaves ≡ names → (blamed : List ℕ)
      → IsBlamed holds tree limit before tables old (FitsOver leaves tables old) blamed
      → IsBlamed holds tree limit before tables no_numbers (FitsOver names tables no_numbers) blamed
  blamed_none before old leaves names tables none same blamed cause =
      subst (λ (ls : List (List ℕ)). IsBlamed holds tree limit before tables no_numbers
      (FitsOver ls tables no_numbers) blamed) same
      (subst (λ (number : List ℕ → Option Func). IsBlamed holds tree limit before tables number
      (FitsOver leaves tables number) blamed) (fun_ext none) cause)

  pub part_made : (before after : S) (part : Part) (circuit : Circuit) (leaves : List (List ℕ))
      (tables : List Table) (old new : List ℕ → Option Func) → IsSound circuit
      → ((name : List ℕ) → old name ≡ None) → leaves ≡ leaf_names circuit
      → tables ≡ part_tables part circuit
      → Adds holds tree limit before after old new
      (λ name. has leaves name || has (outputs_of tables) name) (FitsOver leaves tables old)
      → AreAll holds tree limit after (is_part_signal part circuit) (part_function part circuit) new
  part_made before after part circuit leaves tables old new sound none leaves_are same adds =
      all_right holds tree limit before after new (is_part_signal part circuit)
      (FitsOver (leaf_names circuit) (part_tables part circuit) no_numbers)
      (part_function part circuit) (part_fits part circuit sound)
      (subst (λ (ts : List Table). Adds holds tree limit before after no_numbers new
      (λ name. has (leaf_names circuit) name || has (outputs_of ts) name)
      (FitsOver (leaf_names circuit) ts no_numbers)) same
      (over_none before after old new leaves (leaf_names circuit) tables none leaves_are adds))

  pub part_blamed : (before : S) (part : Part) (circuit : Circuit) (leaves : List (List ℕ))
      (tables : List Table) (old : List ℕ → Option Func) → IsSound circuit
      → ((name : List ℕ) → old name ≡ None) → leaves ≡ leaf_names circuit
      → tables ≡ part_tables part circuit → (blamed : List ℕ)
      → IsBlamed holds tree limit before tables old (FitsOver leaves tables old) blamed
      → IsBigAt (limit before) (part_tables part circuit) (part_function part circuit) blamed
  part_blamed before part circuit leaves tables old sound none leaves_are same blamed cause =
      all_big holds tree limit before (part_tables part circuit)
      (FitsOver (leaf_names circuit) (part_tables part circuit) no_numbers)
      (part_function part circuit) (part_fits part circuit sound) blamed
      (subst (λ (ts : List Table). IsBlamed holds tree limit before ts no_numbers
      (FitsOver (leaf_names circuit) ts no_numbers) blamed) same
      (blamed_none before old leaves (leaf_names circuit) tables none leaves_are blamed cause))

  pub forced_made : (first second third : S) (circuit : Circuit) (leaves : List (List ℕ)) (tables :
      List Table)
      (name : List ℕ) (bit : Bool) (old new : List ℕ → Option Func) → IsSound circuit
      → has (outputs_of circuit.tables) name ≡ true → leaves ≡ leaf_names circuit → tables ≡
      circuit.tables
      → Adds holds tree limit first second no_numbers old (λ other. bytes_eq other name)
      (λ value. (point : ℕ → Bool) → value name point ≡ bit)
      → Adds holds tree limit second third old new
      (λ other. has leaves other || has (outputs_of tables) other) (FitsOver leaves tables old)
      → AreAll holds tree limit third
      (λ other. has (leaf_names circuit) other || has (outputs_of circuit.tables) other)
      (forced_function circuit name bit) new
  forced_made first second third circuit leaves tables name bit old new sound driven same also a b =
      forced_right holds tree limit first second third circuit name bit old new sound driven a
      (subst (λ (ts : List Table). Adds holds tree limit second third old new
      (λ other. has (leaf_names circuit) other || has (outputs_of ts) other)
      (FitsOver (leaf_names circuit) ts old)) also
      (subst (λ (ls : List (List ℕ)). Adds holds tree limit second third old new
      (λ other. has ls other || has (outputs_of tables) other) (FitsOver ls tables old)) same b))

  pub forced_blamed : (first second : S) (circuit : Circuit) (leaves : List (List ℕ)) (tables : List
      Table)
      (name : List ℕ) (bit : Bool) (old : List ℕ → Option Func) → IsSound circuit
      → has (outputs_of circuit.tables) name ≡ true → leaves ≡ leaf_names circuit → tables ≡
      circuit.tables
      → Stays holds tree limit first second
      → Adds holds tree limit first second no_numbers old (λ other. bytes_eq other name)
      (λ value. (point : ℕ → Bool) → value name point ≡ bit)
      → (blamed : List ℕ)
      → IsBlamed holds tree limit second tables old (FitsOver leaves tables old) blamed
      → (bytes_eq blamed name ≡ false)
      × IsBigAt (limit first) circuit.tables (forced_function circuit name bit) blamed
  forced_blamed first second circuit leaves tables name bit old sound driven same also stays a
      blamed cause =
      forced_big holds tree limit first second circuit name bit old sound driven stays a blamed
      (subst (λ (ts : List Table). IsBlamed holds tree limit second ts old
      (FitsOver (leaf_names circuit) ts old) blamed) also
      (subst (λ (ls : List (List ℕ)). IsBlamed holds tree limit second tables old
      (FitsOver ls tables old) blamed) same cause))
