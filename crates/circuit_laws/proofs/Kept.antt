-- Tables and latches that nothing needs are removed: the outputs stay the same, and each remaining
-- signal keeps its value.
use Rattle.std.proofs.Common.{◌≡◌, ℕ, zero, suc, Bool, true, false, not, ◌||◌, ◌&&◌, cond, if◌then◌else◌, Option, Some, None, is_some, unwrap_or, List, [], ◌∷◌, ◌++◌, map, filter, length, bytes_eq, refl, sym, ap, ap₂, ◌∙◌, subst, inl, inr, ◌⊎◌, arith}
use Rattle.std.specs.List.{AllByRecursion, AllZip}
use Rattle.std.specs.Option.{option_or}
use Rattle.std.proofs.lemmas.Bool.{false≢true, not_from_false, or_parts, and_parts}
use Rattle.circuit_model.specs.Names.{has}
use Rattle.circuit_model.specs.Values.{Leaves, driver, driven_value, value_to, signal_value, dont_care_leaves, is_free_under}
use Rattle.circuit_model.specs.Runs.{bit_of, latch_outputs, leaves_of, value_in, is_free, outputs_at, next_state, may_start, IsStart, Refines}
use Rattle.circuit_model.specs.Soundness.{outputs_of, latch_inputs, table_inputs, given, IsAcyclic}
use Rattle.circuit_model.specs.declared.circuit.Table.{Table}
use Rattle.circuit_model.specs.declared.circuit.Latch.{Latch}
use Rattle.circuit_model.specs.declared.circuit.Circuit.{Circuit}
use Rattle.circuit_laws.specs.Edits.{tables_kept, latches_kept, with_kept, with_removed, is_other, is_read, is_root}
use Rattle.circuit_laws.specs.Kept.{IsClosed, bits_kept}
use Rattle.circuit_laws.specs.Same.{IsAssignment, IsSame, KeepsValues}
use Rattle.circuit_laws.proofs.Names.{same_name, name_cases, name_not, all_has, all_from_has, has_either, has_neither}
use Rattle.circuit_laws.proofs.Drivers.{is_driven, driver_name, driver_all, driver_reads, driver_kept}
use Rattle.circuit_laws.proofs.Paths.{kept_acyclic}
use Rattle.circuit_laws.proofs.Values.{value_same, value_within}
use Rattle.circuit_laws.proofs.Tables.{value_due}
use Rattle.circuit_laws.proofs.Simulated.{simulated, start_long}
use Rattle.circuit_laws.proofs.Same.{outputs_same, next_long}

-- what holds of each element, weakened
pub all_weaker : {X : Type 0} (P Q : X → Type 0) → ((x : X) → P x → Q x) → (xs : List X) → AllByRecursion P xs → AllByRecursion Q xs
all_weaker P Q h [] all = tt
all_weaker P Q h (x ∷ xs) all = (h x all.0, all_weaker P Q h xs all.1)

-- a latch that is kept has its bit, and one that is not has none
pub bit_kept : (test : List ℕ → Bool) (latches : List Latch) (bits : List Bool) (name : List ℕ) → test name ≡ true
    → bit_of (map (λ (latch : Latch). latch.output) (latches_kept test latches)) (bits_kept test latches bits) name ≡ bit_of (map (λ (latch : Latch). latch.output) latches) bits name
unfolding bit_of latches_kept bits_kept
bit_kept test [] bits name passes = refl
bit_kept test (latch ∷ latches) [] name passes = none (latches_kept test (latch ∷ latches))
  where
    none : (some : List Latch) → bit_of (map (λ (l : Latch). l.output) some) [] name ≡ None
    none [] = refl
    none (first ∷ some) = refl
bit_kept test (latch ∷ latches) (bit ∷ bits) name passes = cases (test latch.output) refl (bytes_eq name latch.output) refl (bit_kept test latches bits name passes)
  where
    cases : (k : Bool) → test latch.output ≡ k → (b : Bool) → bytes_eq name latch.output ≡ b
        → bit_of (map (λ (l : Latch). l.output) (latches_kept test latches)) (bits_kept test latches bits) name ≡ bit_of (map (λ (l : Latch). l.output) latches) bits name
        → bit_of (map (λ (l : Latch). l.output) (cond k (latch ∷ latches_kept test latches) (latches_kept test latches))) (cond k (bit ∷ bits_kept test latches bits) (bits_kept test latches bits)) name
        ≡ cond b (Some bit) (bit_of (map (λ (l : Latch). l.output) latches) bits name)
    cases true stays true same rest = rw same refl
    cases true stays false apart rest = rw apart rest
    cases false goes true same rest = absurd (false≢true (sym goes ∙ ap test (sym (same_name name latch.output same)) ∙ passes))
    cases false goes false apart rest = rest

pub bit_dropped : (test : List ℕ → Bool) (latches : List Latch) (bits : List Bool) (name : List ℕ) → test name ≡ false
    → bit_of (map (λ (latch : Latch). latch.output) (latches_kept test latches)) bits name ≡ None
unfolding bit_of latches_kept
bit_dropped test [] bits name fails = refl
bit_dropped test (latch ∷ latches) bits name fails = cases (test latch.output) refl bits (λ some. bit_dropped test latches some name fails)
  where
    cases : (k : Bool) → test latch.output ≡ k → (some : List Bool) → ((left : List Bool) → bit_of (map (λ (l : Latch). l.output) (latches_kept test latches)) left name ≡ None)
        → bit_of (map (λ (l : Latch). l.output) (cond k (latch ∷ latches_kept test latches) (latches_kept test latches))) some name ≡ None
    cases true stays [] more = refl
    cases true stays (bit ∷ some) more =
        elim (name_cases name latch.output) as (λ _. cond (bytes_eq name latch.output) (Some bit) (bit_of (map (λ (l : Latch). l.output) (latches_kept test latches)) some name) ≡ None) [
          | inl same ↦ absurd (false≢true (sym fails ∙ ap test same ∙ stays))
          | inr apart ↦ rw apart (more some)
        ]
    cases false goes some more = more some

-- bits for all latches from those of the kept ones
abbrev pub first_bit : List Bool → Bool
first_bit [] = false
first_bit (bit ∷ bits) = bit

abbrev pub other_bits : List Bool → List Bool
other_bits [] = []
other_bits (bit ∷ bits) = bits

unfoldable pub bits_filled : (List ℕ → Bool) → (Latch → Bool) → List Latch → List Bool → List Bool
bits_filled test fill [] bits = []
bits_filled test fill (latch ∷ latches) bits =
    if test latch.output then first_bit bits ∷ bits_filled test fill latches (other_bits bits) else fill latch ∷ bits_filled test fill latches bits

filled_long : (test : List ℕ → Bool) (fill : Latch → Bool) (latches : List Latch) (bits : List Bool) → length (bits_filled test fill latches bits) ≡ length latches
unfolding bits_filled
filled_long test fill [] bits = refl
filled_long test fill (latch ∷ latches) bits = cases (test latch.output) (filled_long test fill latches)
  where
    cases : (k : Bool) → ((some : List Bool) → length (bits_filled test fill latches some) ≡ length latches)
        → length (cond k (first_bit bits ∷ bits_filled test fill latches (other_bits bits)) (fill latch ∷ bits_filled test fill latches bits)) ≡ suc (length latches)
    cases true rest = ap suc (rest (other_bits bits))
    cases false rest = ap suc (rest bits)

kept_filled : (test : List ℕ → Bool) (fill : Latch → Bool) (latches : List Latch) (bits : List Bool) → length bits ≡ length (latches_kept test latches)
    → bits_kept test latches (bits_filled test fill latches bits) ≡ bits
unfolding bits_filled bits_kept latches_kept
kept_filled test fill [] [] e = refl
kept_filled test fill [] (bit ∷ bits) e = absurd (omega arith)
kept_filled test fill (latch ∷ latches) bits e = cases (test latch.output) refl bits e (kept_filled test fill latches)
  where
    cases : (k : Bool) → test latch.output ≡ k → (some : List Bool) → length some ≡ length (cond k (latch ∷ latches_kept test latches) (latches_kept test latches))
        → ((left : List Bool) → length left ≡ length (latches_kept test latches) → bits_kept test latches (bits_filled test fill latches left) ≡ left)
        → bits_kept test (latch ∷ latches) (cond k (first_bit some ∷ bits_filled test fill latches (other_bits some)) (fill latch ∷ bits_filled test fill latches some)) ≡ some
    cases true stays [] l rest = absurd (omega arith)
    cases true stays (bit ∷ some) l rest = rw (stays, rest some (omega arith)) refl
    cases false goes some l rest = rw goes (rest some l)

AreStarts : List Latch → List Bool → Type 0
AreStarts latches bits = AllZip (λ (latch : Latch) bit. may_start latch.init bit) latches bits

start_filled : (test : List ℕ → Bool) (fill : Latch → Bool) (latches : List Latch) (bits : List Bool) → AllByRecursion (λ (latch : Latch). test latch.output ≡ false → may_start latch.init (fill latch)) latches
    → AreStarts (latches_kept test latches) bits → AreStarts latches (bits_filled test fill latches bits)
unfolding bits_filled latches_kept AreStarts
start_filled test fill [] bits fills begins = tt
start_filled test fill (latch ∷ latches) bits fills begins = cases (test latch.output) refl bits begins (λ some. start_filled test fill latches some fills.1)
  where
    cases : (k : Bool) → test latch.output ≡ k → (some : List Bool) → AreStarts (cond k (latch ∷ latches_kept test latches) (latches_kept test latches)) some
        → ((left : List Bool) → AreStarts (latches_kept test latches) left → AreStarts latches (bits_filled test fill latches left))
        → AreStarts (latch ∷ latches) (cond k (first_bit some ∷ bits_filled test fill latches (other_bits some)) (fill latch ∷ bits_filled test fill latches some))
    cases true stays [] h rest = absurd h
    cases true stays (bit ∷ some) h rest = (h.0, rest some h.1)
    cases false goes some h rest = (fills.0 goes, rest some h)

start_kept : (test : List ℕ → Bool) (latches : List Latch) (bits : List Bool) → AreStarts latches bits → AreStarts (latches_kept test latches) (bits_kept test latches bits)
unfolding bits_kept latches_kept AreStarts
start_kept test [] bits begins = tt
start_kept test (latch ∷ latches) [] begins = absurd begins
start_kept test (latch ∷ latches) (bit ∷ bits) begins = cases (test latch.output) (start_kept test latches bits begins.1)
  where
    cases : (k : Bool) → AreStarts (latches_kept test latches) (bits_kept test latches bits)
        → AreStarts (cond k (latch ∷ latches_kept test latches) (latches_kept test latches)) (cond k (bit ∷ bits_kept test latches bits) (bits_kept test latches bits))
    cases true rest = (begins.0, rest)
    cases false rest = rest

-- each latch may start at one bit at least
abbrev pub start_bit : ℕ → Bool
start_bit (suc zero) = true
start_bit init = false

may_start_bit : (init : ℕ) → may_start init (start_bit init)
may_start_bit zero = refl
may_start_bit (suc zero) = refl
may_start_bit (suc (suc init)) = tt

all_start : (test : List ℕ → Bool) (latches : List Latch) → AllByRecursion (λ (latch : Latch). test latch.output ≡ false → may_start latch.init (start_bit latch.init)) latches
all_start test [] = tt
all_start test (latch ∷ latches) = (λ goes. may_start_bit latch.init, all_start test latches)

-- the next bits of the kept latches
pub kept_next : (test : List ℕ → Bool) (f g : List ℕ → Bool) (latches : List Latch) → AllByRecursion (λ (latch : Latch). test latch.output ≡ true → f latch.input ≡ g latch.input) latches
    → bits_kept test latches (map (λ (latch : Latch). f latch.input) latches) ≡ map (λ (latch : Latch). g latch.input) (latches_kept test latches)
unfolding bits_kept latches_kept
kept_next test f g [] h = refl
kept_next test f g (latch ∷ latches) h = cases (test latch.output) refl (kept_next test f g latches h.1)
  where
    cases : (k : Bool) → test latch.output ≡ k
        → bits_kept test latches (map (λ (l : Latch). f l.input) latches) ≡ map (λ (l : Latch). g l.input) (latches_kept test latches)
        → cond k (f latch.input ∷ bits_kept test latches (map (λ (l : Latch). f l.input) latches)) (bits_kept test latches (map (λ (l : Latch). f l.input) latches))
        ≡ map (λ (l : Latch). g l.input) (cond k (latch ∷ latches_kept test latches) (latches_kept test latches))
    cases true stays rest = rw (h.0 stays, rest) refl
    cases false goes rest = rest

-- one step of a circuit and of one that has only some of its latches, at a state of which something
-- is known
pub record IsShrunk (test : List ℕ → Bool) (Knows : List Bool → Type 0) (circuit new : Circuit) (state row : List Bool) : Type 0 where
  pub shows : outputs_at circuit state row ≡ outputs_at new (bits_kept test circuit.latches state) row
  pub takes : AllByRecursion (λ (latch : Latch). test latch.output ≡ true → value_in circuit state row latch.input ≡ value_in new (bits_kept test circuit.latches state) row latch.input) circuit.latches
  pub stays : Knows (next_state circuit state row)

shrunk_next : (test : List ℕ → Bool) (Knows : List Bool → Type 0) (circuit new : Circuit) → new.latches ≡ latches_kept test circuit.latches → (state row : List Bool)
    → IsShrunk test Knows circuit new state row → bits_kept test circuit.latches (next_state circuit state row) ≡ next_state new (bits_kept test circuit.latches state) row
unfolding next_state
shrunk_next test Knows circuit new latches state row step =
    kept_next test (value_in circuit state row) (value_in new (bits_kept test circuit.latches state) row) circuit.latches step.takes
    ∙ ap (map (λ (latch : Latch). value_in new (bits_kept test circuit.latches state) row latch.input)) (sym latches)

-- related states: the smaller one has the kept latches' bits of the greater one
abbrev AreParts : (List ℕ → Bool) → (List Bool → Type 0) → Circuit → List Bool → List Bool → Type 0
AreParts test Knows circuit start state = (length start ≡ length circuit.latches) × (bits_kept test circuit.latches start ≡ state) × Knows start

pub shrunk_refines : (test : List ℕ → Bool) (Knows : List Bool → Type 0) (fill : Latch → Bool) (circuit new : Circuit)
    → circuit.inputs ≡ new.inputs → circuit.outputs ≡ new.outputs → new.latches ≡ latches_kept test circuit.latches
    → AllByRecursion (λ (latch : Latch). test latch.output ≡ false → may_start latch.init (fill latch)) circuit.latches
    → ((bits : List Bool) → Knows (bits_filled test fill circuit.latches bits))
    → ((state row : List Bool) → Knows state → length state ≡ length circuit.latches → IsShrunk test Knows circuit new state row)
    → Refines circuit new
unfolding IsStart AreStarts
shrunk_refines test Knows fill circuit new inputs outputs latches fills knows step =
    simulated (AreParts test Knows circuit) circuit new inputs outputs
    (λ state begins. (
      bits_filled test fill circuit.latches state,
      start_filled test fill circuit.latches state fills (subst (λ (some : List Latch). AllZip (λ (latch : Latch) bit. may_start latch.init bit) some state) latches begins),
      (filled_long test fill circuit.latches state, kept_filled test fill circuit.latches state (start_long new state begins ∙ ap length latches), knows state),
    ))
    (λ start state row related wide.
    let now = step start row related.2 related.0 in record {
      shows = now.shows ∙ ap (λ (s : List Bool). outputs_at new s row) related.1;
      stays = (
        next_long circuit start row,
        shrunk_next test Knows circuit new latches start row now ∙ ap (λ (s : List Bool). next_state new s row) related.1,
        now.stays,
      );
    })

pub shrunk_refined : (test : List ℕ → Bool) (circuit new : Circuit)
    → circuit.inputs ≡ new.inputs → circuit.outputs ≡ new.outputs → new.latches ≡ latches_kept test circuit.latches
    → ((state row : List Bool) → length state ≡ length circuit.latches → IsShrunk test (λ s. Unit {0}) circuit new state row)
    → Refines new circuit
unfolding IsStart AreStarts
shrunk_refined test circuit new inputs outputs latches step =
    simulated (λ start state. (length state ≡ length circuit.latches) × (bits_kept test circuit.latches state ≡ start)) new circuit (sym inputs) (sym outputs)
    (λ state begins. (
      bits_kept test circuit.latches state,
      subst (λ (some : List Latch). AllZip (λ (latch : Latch) bit. may_start latch.init bit) some (bits_kept test circuit.latches state)) (sym latches) (start_kept test circuit.latches state begins),
      (start_long circuit state begins, refl),
    ))
    (λ start state row related wide.
    let now = step state row related.0 in record {
      shows = sym (now.shows ∙ ap (λ (s : List Bool). outputs_at new s row) related.1);
      stays = (
        next_long circuit state row,
        shrunk_next test (λ s. Unit {0}) circuit new latches state row now ∙ ap (λ (s : List Bool). next_state new s row) related.1,
      );
    })

-- which outputs are free depends on the leaves that the don't-care part reads
part_value : (P : List ℕ → Type 0) (part : List Table) (some others : Leaves) → ((name : List ℕ) → P name → some name ≡ others name)
    → ((signal : List ℕ) (table : Table) → driver part signal ≡ Some table → AllByRecursion P table.inputs)
    → (depth : ℕ) (signal : List ℕ) → P signal → value_to part some depth signal ≡ value_to part others depth signal
unfolding value_to
part_value P part some others same closed zero signal within = ap (λ (bit : Option Bool). unwrap_or bit false) (same signal within)
part_value P part some others same closed (suc depth) signal within =
    ap₂ (λ (bit : Option Bool) (value : Bool). unwrap_or bit value) (same signal within)
    (cases (driver part signal) refl (part_value P part some others same closed depth))
  where
    cases : (found : Option Table) → driver part signal ≡ found → ((name : List ℕ) → P name → value_to part some depth name ≡ value_to part others depth name)
        → driven_value found (value_to part some depth) ≡ driven_value found (value_to part others depth)
    cases None at rest = refl
    cases (Some table) at rest =
        value_same table (value_to part some depth) (value_to part others depth)
        (all_from_has (λ name. value_to part some depth name ≡ value_to part others depth name) table.inputs (λ name among.
        rest name (all_has P table.inputs (closed signal table at) name among)))

pub free_by_leaves : (test : List ℕ → Bool) (part : List Table) (some others : Leaves) → ((name : List ℕ) → test name ≡ true → some name ≡ others name)
    → AllByRecursion (λ name. (has (outputs_of part) name ≡ true) ⊎ (test name ≡ true)) (table_inputs part)
    → (output : List ℕ) → is_free_under part some output ≡ is_free_under part others output
unfolding is_free_under signal_value dont_care_leaves
free_by_leaves test part some others same reads output = cases (is_some (driver part output)) refl
  where
    leaf : (name : List ℕ) → (has (outputs_of part) name ≡ true) ⊎ (test name ≡ true)
        → (if is_some (driver part name) then None else some name) ≡ (if is_some (driver part name) then None else others name)
    leaf name (inl own) = rw (is_driven part name ∙ own) refl
    leaf name (inr passes) = ap (λ (bit : Option Bool). if is_some (driver part name) then None else bit) (same name passes)

    cases : (b : Bool) → is_some (driver part output) ≡ b
        → (b && value_to part (dont_care_leaves part some) (length part) output) ≡ (b && value_to part (dont_care_leaves part others) (length part) output)
    cases false none = refl
    cases true there =
        part_value (λ name. (has (outputs_of part) name ≡ true) ⊎ (test name ≡ true)) part (dont_care_leaves part some) (dont_care_leaves part others) leaf
        (λ signal table at. all_from_has (λ name. (has (outputs_of part) name ≡ true) ⊎ (test name ≡ true)) table.inputs (λ name among.
        all_has (λ x. (has (outputs_of part) x ≡ true) ⊎ (test x ≡ true)) (table_inputs part) reads name (driver_reads part signal table name at among)))
        (length part) output (inl (sym (is_driven part output) ∙ there))

-- a circuit without what is not needed
leaves_kept : (circuit : Circuit) (test : List ℕ → Bool) (state row : List Bool) (name : List ℕ) → test name ≡ true
    → leaves_of circuit state row name ≡ leaves_of (with_kept circuit test) (bits_kept test circuit.latches state) row name
unfolding leaves_of with_kept
leaves_kept circuit test state row name passes = ap (option_or (bit_of circuit.inputs row name)) (sym (bit_kept test circuit.latches state name passes))

pub kept_values : (circuit : Circuit) (test : List ℕ → Bool) → IsAcyclic circuit.tables → IsClosed circuit test
    → (state row : List Bool) (signal : List ℕ) → test signal ≡ true
    → value_in circuit state row signal ≡ value_in (with_kept circuit test) (bits_kept test circuit.latches state) row signal
unfolding value_in with_kept
kept_values circuit test acyclic closed state row signal passes =
    value_within (λ name. test name ≡ true) (tables_kept test circuit.tables) (leaves_of (with_kept circuit test) (bits_kept test circuit.latches state) row)
    (kept_acyclic test circuit.tables acyclic)
    (λ name table within at.
    let before : driver circuit.tables name ≡ Some table = sym (driver_kept test circuit.tables name within) ∙ at in
    driver_all (λ (t : Table). test t.output ≡ true → AllByRecursion (λ x. test x ≡ true) t.inputs) circuit.tables closed.tables name table before
    (ap test (driver_name circuit.tables name table before) ∙ within))
    (value_in circuit state row)
    (λ name within.
    value_due circuit acyclic state row name
    ∙ ap₂ (λ (bit : Option Bool) (found : Option Table). unwrap_or bit (driven_value found (value_in circuit state row)))
    (leaves_kept circuit test state row name within) (sym (driver_kept test circuit.tables name within)))
    signal passes

kept_free : (circuit : Circuit) (test : List ℕ → Bool) → IsClosed circuit test → (state row : List Bool) (output : List ℕ)
    → is_free circuit state row output ≡ is_free (with_kept circuit test) (bits_kept test circuit.latches state) row output
unfolding is_free with_kept
kept_free circuit test closed state row output =
    free_by_leaves test circuit.dont_care (leaves_of circuit state row) (leaves_of (with_kept circuit test) (bits_kept test circuit.latches state) row)
    (leaves_kept circuit test state row) closed.dont_care output

kept_step : (circuit : Circuit) (test : List ℕ → Bool) → IsAcyclic circuit.tables → IsClosed circuit test → (state row : List Bool)
    → IsShrunk test (λ s. Unit {0}) circuit (with_kept circuit test) state row
unfolding with_kept
kept_step circuit test acyclic closed state row = record {
  shows =
      outputs_same circuit (with_kept circuit test) refl state (bits_kept test circuit.latches state) row
      (λ output among. kept_free circuit test closed state row output)
      (λ output among bound. kept_values circuit test acyclic closed state row output (all_has (λ name. test name ≡ true) circuit.outputs closed.outputs output among));
  takes =
      all_weaker (λ (latch : Latch). test latch.output ≡ true → test latch.input ≡ true)
      (λ (latch : Latch). test latch.output ≡ true → value_in circuit state row latch.input ≡ value_in (with_kept circuit test) (bits_kept test circuit.latches state) row latch.input)
      (λ latch needs passes. kept_values circuit test acyclic closed state row latch.input (needs passes)) circuit.latches closed.latches;
  stays = tt;
}

pub kept_refines : (circuit : Circuit) (test : List ℕ → Bool) → IsAcyclic circuit.tables → IsClosed circuit test → Refines circuit (with_kept circuit test)
unfolding with_kept
kept_refines circuit test acyclic closed =
    shrunk_refines test (λ s. Unit {0}) (λ latch. start_bit latch.init) circuit (with_kept circuit test) refl refl refl (all_start test circuit.latches) (λ bits. tt)
    (λ state row knows long. kept_step circuit test acyclic closed state row)

pub kept_refined : (circuit : Circuit) (test : List ℕ → Bool) → IsAcyclic circuit.tables → IsClosed circuit test → Refines (with_kept circuit test) circuit
unfolding with_kept
kept_refined circuit test acyclic closed =
    shrunk_refined test circuit (with_kept circuit test) refl refl refl (λ state row long. kept_step circuit test acyclic closed state row)

-- where all latches stay, the circuit is the same
pub latches_all : (test : List ℕ → Bool) (latches : List Latch) → AllByRecursion (λ (latch : Latch). test latch.output ≡ true) latches → latches_kept test latches ≡ latches
unfolding latches_kept
latches_all test [] all = refl
latches_all test (latch ∷ latches) all = rw (all.0, latches_all test latches all.1) refl

pub bits_all : (test : List ℕ → Bool) (latches : List Latch) (bits : List Bool) → AllByRecursion (λ (latch : Latch). test latch.output ≡ true) latches → length bits ≡ length latches → bits_kept test latches bits ≡ bits
unfolding bits_kept
bits_all test [] [] all e = refl
bits_all test [] (bit ∷ bits) all e = absurd (omega arith)
bits_all test (latch ∷ latches) [] all e = refl
bits_all test (latch ∷ latches) (bit ∷ bits) all e = rw (all.0, bits_all test latches bits all.1 (omega arith)) refl

pub kept_same : (circuit : Circuit) (test : List ℕ → Bool) → IsAcyclic circuit.tables → IsClosed circuit test → AllByRecursion (λ (latch : Latch). test latch.output ≡ true) circuit.latches
    → IsSame circuit (with_kept circuit test)
unfolding with_kept
kept_same circuit test acyclic closed all = record {
  inputs = refl;
  outputs = refl;
  latches = sym (latches_all test circuit.latches all);
  dont_care = refl;
  shows = λ state row a.
      (kept_step circuit test acyclic closed state row).shows
      ∙ ap (λ (s : List Bool). outputs_at (with_kept circuit test) s row) (bits_all test circuit.latches state all a.0);
  takes = λ state row a.
      sym (bits_all test circuit.latches (next_state circuit state row) all (next_long circuit state row))
      ∙ shrunk_next test (λ s. Unit {0}) circuit (with_kept circuit test) refl state row (kept_step circuit test acyclic closed state row)
      ∙ ap (λ (s : List Bool). next_state (with_kept circuit test) s row) (bits_all test circuit.latches state all a.0);
}

-- names of what passes a test
pub has_kept : {X : Type 0} (name_of : X → List ℕ) (test : List ℕ → Bool) (xs : List X) (name : List ℕ)
    → has (map name_of (filter (λ x. test (name_of x)) xs)) name ≡ (test name && has (map name_of xs) name)
has_kept name_of test [] name = sym (and_none (test name))
  where
    and_none : (b : Bool) → (b && false) ≡ false
    and_none true = refl
    and_none false = refl
has_kept name_of test (x ∷ xs) name = cases (test (name_of x)) refl (bytes_eq name (name_of x)) refl (has_kept name_of test xs name)
  where
    cases : (k : Bool) → test (name_of x) ≡ k → (b : Bool) → bytes_eq name (name_of x) ≡ b
        → has (map name_of (filter (λ y. test (name_of y)) xs)) name ≡ (test name && has (map name_of xs) name)
        → has (map name_of (cond k (x ∷ filter (λ y. test (name_of y)) xs) (filter (λ y. test (name_of y)) xs))) name ≡ (test name && (b || has (map name_of xs) name))
    cases true stays true same rest = rw (same, ap test (same_name name (name_of x) same) ∙ stays) refl
    cases true stays false apart rest = rw apart rest
    cases false goes true same rest = rw (ap test (same_name name (name_of x) same) ∙ goes) (rest ∙ rw (ap test (same_name name (name_of x) same) ∙ goes) refl)
    cases false goes false apart rest = rest

pub has_tables_kept : (test : List ℕ → Bool) (tables : List Table) (name : List ℕ) → has (outputs_of (tables_kept test tables)) name ≡ (test name && has (outputs_of tables) name)
unfolding tables_kept
has_tables_kept test tables name = has_kept (λ (table : Table). table.output) test tables name

pub has_latches_kept : (test : List ℕ → Bool) (latches : List Latch) (name : List ℕ)
    → has (map (λ (latch : Latch). latch.output) (latches_kept test latches)) name ≡ (test name && has (map (λ (latch : Latch). latch.output) latches) name)
unfolding latches_kept
has_latches_kept test latches name = has_kept (λ (latch : Latch). latch.output) test latches name

-- an input has its bit, whatever else a circuit holds
bit_there : (names : List (List ℕ)) (bits : List Bool) (name : List ℕ) → length bits ≡ length names → has names name ≡ true → (bit : Bool) × (bit_of names bits name ≡ Some bit)
unfolding bit_of
bit_there [] bits name long h = absurd (false≢true h)
bit_there (first ∷ names) [] name long h = absurd (omega arith)
bit_there (first ∷ names) (bit ∷ bits) name long h = cases (bytes_eq name first) h (bit_there names bits name (omega arith))
  where
    cases : (b : Bool) → (b || has names name) ≡ true → (has names name ≡ true → (found : Bool) × (bit_of names bits name ≡ Some found))
        → (found : Bool) × (cond b (Some bit) (bit_of names bits name) ≡ Some found)
    cases true k more = (bit, refl)
    cases false k more = more k

pub input_value : (circuit : Circuit) → IsAcyclic circuit.tables → (state row : List Bool) (name : List ℕ) (bit : Bool) → bit_of circuit.inputs row name ≡ Some bit → value_in circuit state row name ≡ bit
unfolding leaves_of
input_value circuit acyclic state row name bit is =
    value_due circuit acyclic state row name
    ∙ ap (λ (found : Option Bool). unwrap_or (option_or found (bit_of (latch_outputs circuit) state name)) (driven_value (driver circuit.tables name) (value_in circuit state row))) is

pub kept_keeps : (circuit : Circuit) (test : List ℕ → Bool) → IsAcyclic circuit.tables → IsClosed circuit test
    → (state row : List Bool) → IsAssignment circuit state row → (signal : List ℕ) → has (given (with_kept circuit test)) signal ≡ true
    → value_in circuit state row signal ≡ value_in (with_kept circuit test) (bits_kept test circuit.latches state) row signal
unfolding given with_kept
kept_keeps circuit test acyclic closed state row a signal there =
    elim (has_either circuit.inputs (latch_outputs (with_kept circuit test) ++ outputs_of (tables_kept test circuit.tables)) signal there)
    as (λ _. value_in circuit state row signal ≡ value_in (with_kept circuit test) (bits_kept test circuit.latches state) row signal) [
      | inl input ↦
          let (bit, is) = bit_there circuit.inputs row signal a.1 input in
          input_value circuit acyclic state row signal bit is
          ∙ sym (input_value (with_kept circuit test) (kept_acyclic test circuit.tables acyclic) (bits_kept test circuit.latches state) row signal bit is)
      | inr other ↦
          kept_values circuit test acyclic closed state row signal
          (elim (has_either (latch_outputs (with_kept circuit test)) (outputs_of (tables_kept test circuit.tables)) signal other) as (λ _. test signal ≡ true) [
            | inl latch ↦ (and_parts (test signal) (has (latch_outputs circuit) signal) (sym (has_latches_kept test circuit.latches signal) ∙ latch)).0
            | inr table ↦ (and_parts (test signal) (has (outputs_of circuit.tables) signal) (sym (has_tables_kept test circuit.tables signal) ∙ table)).0
          ])
    ]

-- one signal that nothing reads, and that is no output and no latch's input
pub unread_closed : (circuit : Circuit) (name : List ℕ) → is_read circuit name ≡ false → is_root circuit name ≡ false → IsClosed circuit (is_other name)
unfolding is_read is_root
unread_closed circuit name unread rootless =
    let reads = or_parts (has (table_inputs circuit.tables) name) (not (has (outputs_of circuit.dont_care) name) && has (table_inputs circuit.dont_care) name) unread in
    let roots = or_parts (has circuit.outputs name) (has (latch_inputs circuit) name) rootless in record {
      outputs = others circuit.outputs roots.0;
      tables = by_tables circuit.tables reads.0;
      latches = by_latches circuit.latches roots.1;
      dont_care = all_from_has (λ x. (has (outputs_of circuit.dont_care) x ≡ true) ⊎ (is_other name x ≡ true)) (table_inputs circuit.dont_care) (λ x among.
          elim (name_cases name x) as (λ _. (has (outputs_of circuit.dont_care) x ≡ true) ⊎ (is_other name x ≡ true)) [
            | inl same ↦ inl (own x same among (has (outputs_of circuit.dont_care) name) refl reads.1)
            | inr apart ↦ inr (not_from_false (bytes_eq name x) apart)
          ]);
    }
  where
    others : (names : List (List ℕ)) → has names name ≡ false → AllByRecursion (λ x. is_other name x ≡ true) names
    others names none = all_from_has (λ x. is_other name x ≡ true) names (λ x among.
        not_from_false (bytes_eq name x) (name_not name x (λ e. false≢true (sym none ∙ subst (λ (y : List ℕ). has names y ≡ true) (sym e) among))))

    by_tables : (tables : List Table) → has (table_inputs tables) name ≡ false
        → AllByRecursion (λ (table : Table). is_other name table.output ≡ true → AllByRecursion (λ x. is_other name x ≡ true) table.inputs) tables
    by_tables [] none = tt
    by_tables (table ∷ tables) none =
        let parts = has_neither table.inputs (table_inputs tables) name none in
        (λ stays. others table.inputs parts.0, by_tables tables parts.1)

    by_latches : (latches : List Latch) → has (map (λ (latch : Latch). latch.input) latches) name ≡ false
        → AllByRecursion (λ (latch : Latch). is_other name latch.output ≡ true → is_other name latch.input ≡ true) latches
    by_latches [] none = tt
    by_latches (latch ∷ latches) none =
        let parts = or_parts (bytes_eq name latch.input) (has (map (λ (l : Latch). l.input) latches) name) none in
        (λ stays. not_from_false (bytes_eq name latch.input) parts.0, by_latches latches parts.1)

    own : (x : List ℕ) → name ≡ x → has (table_inputs circuit.dont_care) x ≡ true → (b : Bool) → has (outputs_of circuit.dont_care) name ≡ b
        → (not b && has (table_inputs circuit.dont_care) name) ≡ false → has (outputs_of circuit.dont_care) x ≡ true
    own x same among true there none = subst (λ (y : List ℕ). has (outputs_of circuit.dont_care) y ≡ true) same there
    own x same among false there none = absurd (false≢true (sym none ∙ subst (λ (y : List ℕ). has (table_inputs circuit.dont_care) y ≡ true) (sym same) among))

pub others_all : (name : List ℕ) (latches : List Latch) → has (map (λ (latch : Latch). latch.output) latches) name ≡ false → AllByRecursion (λ (latch : Latch). is_other name latch.output ≡ true) latches
others_all name [] none = tt
others_all name (latch ∷ latches) none =
    let parts = or_parts (bytes_eq name latch.output) (has (map (λ (l : Latch). l.output) latches) name) none in
    (not_from_false (bytes_eq name latch.output) parts.0, others_all name latches parts.1)

pub kept_each : (circuit : Circuit) (test : List ℕ → Bool) → IsAcyclic circuit.tables → IsClosed circuit test → AllByRecursion (λ (latch : Latch). test latch.output ≡ true) circuit.latches
    → KeepsValues circuit (with_kept circuit test)
kept_each circuit test acyclic closed all = record {
  kept = λ state row a signal here there.
      kept_keeps circuit test acyclic closed state row a signal there
      ∙ ap (λ (s : List Bool). value_in (with_kept circuit test) s row signal) (bits_all test circuit.latches state all a.0);
}

pub others_latches : (circuit : Circuit) (name : List ℕ) → has (latch_outputs circuit) name ≡ false → AllByRecursion (λ (latch : Latch). is_other name latch.output ≡ true) circuit.latches
others_latches circuit name none = others_all name circuit.latches none

-- a signal is removed that nothing reads and that is no output and no latch's input
pub removed_refines : (circuit : Circuit) (name : List ℕ) → IsAcyclic circuit.tables → is_read circuit name ≡ false → is_root circuit name ≡ false → Refines circuit (with_removed circuit name)
removed_refines circuit name acyclic unread rootless = kept_refines circuit (is_other name) acyclic (unread_closed circuit name unread rootless)

pub removed_refined : (circuit : Circuit) (name : List ℕ) → IsAcyclic circuit.tables → is_read circuit name ≡ false → is_root circuit name ≡ false → Refines (with_removed circuit name) circuit
removed_refined circuit name acyclic unread rootless = kept_refined circuit (is_other name) acyclic (unread_closed circuit name unread rootless)

pub removed_values : (circuit : Circuit) (name : List ℕ) → IsAcyclic circuit.tables → is_read circuit name ≡ false → is_root circuit name ≡ false
    → (state row : List Bool) → IsAssignment circuit state row → (signal : List ℕ) → has (given (with_removed circuit name)) signal ≡ true
    → value_in circuit state row signal ≡ value_in (with_removed circuit name) (bits_kept (is_other name) circuit.latches state) row signal
removed_values circuit name acyclic unread rootless = kept_keeps circuit (is_other name) acyclic (unread_closed circuit name unread rootless)

pub removed_same : (circuit : Circuit) (name : List ℕ) → IsAcyclic circuit.tables → is_read circuit name ≡ false → is_root circuit name ≡ false → has (latch_outputs circuit) name ≡ false
    → IsSame circuit (with_removed circuit name)
removed_same circuit name acyclic unread rootless none = kept_same circuit (is_other name) acyclic (unread_closed circuit name unread rootless) (others_latches circuit name none)

pub removed_keeps : (circuit : Circuit) (name : List ℕ) → IsAcyclic circuit.tables → is_read circuit name ≡ false → is_root circuit name ≡ false → has (latch_outputs circuit) name ≡ false
    → KeepsValues circuit (with_removed circuit name)
removed_keeps circuit name acyclic unread rootless none = kept_each circuit (is_other name) acyclic (unread_closed circuit name unread rootless) (others_latches circuit name none)
