-- A step of sweep beside a table without fanout: the table is idle after it too, or it is removed.
use Rattle.std.proofs.Common.{◌≡◌, ℕ, zero, suc, ◌+◌, Bool, true, false, ◌&&◌, ◌||◌, if◌then◌else◌, Option, Some, None, is_some, List, [], ◌∷◌, ◌++◌, length, map, find, bytes_eq, refl, sym, ap, ap₂, ◌∙◌, subst}
use Rattle.std.specs.List.{AllByRecursion, list_all}
use Rattle.std.specs.Option.{option_map, option_map_or}
use Rattle.std.proofs.lemmas.Bool.{or_parts}
use Rattle.std.proofs.lemmas.List.{length-map}
use Rattle.std.proofs.lemmas.Option.{none-some}
use Rattle.std.proofs.Math.Path.{fun_ext}
use Rattle.circuit_model.specs.Names.{has}
use Rattle.circuit_model.specs.Runs.{latch_outputs}
use Rattle.circuit_model.specs.Soundness.{outputs_of, given, IsSound}
use Rattle.circuit_model.specs.declared.circuit.Table.{Table}
use Rattle.circuit_model.specs.declared.circuit.Latch.{Latch}
use Rattle.circuit_model.specs.declared.circuit.Circuit.{Circuit}
use Rattle.circuit_laws.specs.Edits.{tables_kept, is_other, with_tables, with_added, with_kept, with_fixed, constant_table}
use Rattle.circuit_laws.proofs.Names.{name_not, different_apart}
use Rattle.circuit_laws.proofs.Kept.{all_weaker}
use Rattle.net_wires.specs.Points.{written_bit}
use Rattle.net_wires.specs.Needed.{dont_care_reads, needed_within, is_needed, all_needed, only_needed}
use Rattle.net_wires.specs.Rules.{bit_from_start, fixed_bit, with_latch_fixed, fix_constant_latch, remove_dangling}
use Rattle.net_wires.specs.Idle.{IsIdle}
use Rattle.net_wires.proofs.Closing.{tables_reach, latches_reach, within_more}
use Rattle.circuit_laws.proofs.Found.{find_test, find_all}
use Rattle.net_wires.proofs.Steps.{applied, some_is, found_latch}
use Rattle.net_wires.proofs.Emptied.{emptied, emptied_driver, emptied_kept, emptied_dropped, emptied_added, emptied_reach, emptied_all}
use Rattle.net_wires.proofs.Beside.{beside, idle_unasked, idle_unneeded}

-- a latch becomes a constant

fixed_bit_beside : (circuit : Circuit) (name : List ℕ) (latch : Latch) → bytes_eq name latch.input ≡ false → fixed_bit (beside circuit name) latch ≡ fixed_bit circuit latch
unfolding fixed_bit dont_care_reads
fixed_bit_beside circuit name latch other =
    ap (λ (found : Option Table). option_map_or (bit_from_start circuit latch) (option_map_or written_bit found None) None) (emptied_driver name circuit.tables latch.input other)

find_same : (p q : Latch → Bool) (latches : List Latch) → AllByRecursion (λ latch. p latch ≡ q latch) latches → find p latches ≡ find q latches
find_same p q [] all = refl
find_same p q (latch ∷ latches) all = ap₂ (λ (b : Bool) (rest : Option Latch). if b then Some latch else rest) all.0 (find_same p q latches all.1)

-- an idle signal is no latch's input
inputs_apart : (latches : List Latch) (name : List ℕ) → has (map (λ (latch : Latch). latch.input) latches) name ≡ false → AllByRecursion (λ (latch : Latch). bytes_eq name latch.input ≡ false) latches
inputs_apart [] name none = tt
inputs_apart (latch ∷ latches) name none =
    let parts = or_parts (bytes_eq name latch.input) (has (map (λ (l : Latch). l.input) latches) name) none in
    (parts.0, inputs_apart latches name parts.1)

latch_found_same : (circuit : Circuit) (name : List ℕ) → IsIdle circuit name
    → find (λ (latch : Latch). is_some (fixed_bit (beside circuit name) latch)) circuit.latches ≡ find (λ (latch : Latch). is_some (fixed_bit circuit latch)) circuit.latches
latch_found_same circuit name idle =
    find_same (λ (latch : Latch). is_some (fixed_bit (beside circuit name) latch)) (λ (latch : Latch). is_some (fixed_bit circuit latch)) circuit.latches
    (all_weaker (λ (latch : Latch). bytes_eq name latch.input ≡ false) (λ (latch : Latch). is_some (fixed_bit (beside circuit name) latch) ≡ is_some (fixed_bit circuit latch))
    (λ latch other. ap (λ (o : Option Bool). is_some o) (fixed_bit_beside circuit name latch other)) circuit.latches (inputs_apart circuit.latches name (idle_unasked circuit name idle)))

-- a latch's output is another signal than a table's
pub latch_apart : (circuit : Circuit) (name other : List ℕ) → IsSound circuit → has (outputs_of circuit.tables) name ≡ true → has (latch_outputs circuit) other ≡ true → bytes_eq name other ≡ false
unfolding given
latch_apart circuit name other sound driven latch =
    name_not name other (λ same.
    (different_apart (latch_outputs circuit) (outputs_of circuit.tables) (different_apart circuit.inputs (latch_outputs circuit ++ outputs_of circuit.tables) sound.one_driver).back).between other latch
    (subst (λ (x : List ℕ). has (outputs_of circuit.tables) x ≡ true) same driven))

fixed_beside : (circuit : Circuit) (name other : List ℕ) (bit : Bool) → bytes_eq name other ≡ false → with_fixed (beside circuit name) other bit ≡ beside (with_fixed circuit other bit) name
unfolding with_fixed with_added with_kept
fixed_beside circuit name other bit apart =
    ap (λ (tables : List Table). with_tables (with_fixed circuit other bit) tables)
    (ap (λ (tables : List Table). tables ++ constant_table other bit ∷ []) (emptied_kept name (is_other other) circuit.tables)
    ∙ sym (emptied_added name (tables_kept (is_other other) circuit.tables) (constant_table other bit) apart))

pub latch_goes : (name : List ℕ) (circuit new : Circuit) → IsSound circuit → IsIdle circuit name → fix_constant_latch circuit ≡ Some new → fix_constant_latch (beside circuit name) ≡ Some (beside new name)
unfolding fix_constant_latch
latch_goes name circuit new sound idle h =
    let (latch, found, is) = applied (with_latch_fixed circuit) (find (λ (l : Latch). is_some (fixed_bit circuit l)) circuit.latches) new h in
    let (bit, at) = some_is (fixed_bit circuit latch) (find_test (λ (l : Latch). is_some (fixed_bit circuit l)) circuit.latches latch found) in
    let made : with_latch_fixed circuit latch ≡ with_fixed circuit latch.output bit =
    ap (λ (o : Option Bool). option_map_or (λ (b : Bool). with_fixed circuit latch.output b) o circuit) at in
    let there : fixed_bit (beside circuit name) latch ≡ Some bit =
    fixed_bit_beside circuit name latch (find_all (λ (l : Latch). is_some (fixed_bit circuit l)) (λ (l : Latch). bytes_eq name l.input ≡ false) circuit.latches latch (inputs_apart circuit.latches name (idle_unasked circuit name idle)) found) ∙ at in
    let beside_made : with_latch_fixed (beside circuit name) latch ≡ with_fixed (beside circuit name) latch.output bit =
    ap (λ (o : Option Bool). option_map_or (λ (b : Bool). with_fixed (beside circuit name) latch.output b) o (beside circuit name)) there in
    let apart : bytes_eq name latch.output ≡ false = latch_apart circuit name latch.output sound idle.driven (found_latch (λ (l : Latch). is_some (fixed_bit circuit l)) circuit.latches latch found) in
    ap (option_map (with_latch_fixed (beside circuit name))) (latch_found_same circuit name idle ∙ found)
    ∙ ap Some (beside_made ∙ fixed_beside circuit name latch.output bit apart ∙ ap (λ (some : Circuit). beside some name) (sym made ∙ is))

pub latch_none : (name : List ℕ) (circuit : Circuit) → IsIdle circuit name → fix_constant_latch circuit ≡ None → fix_constant_latch (beside circuit name) ≡ None
unfolding fix_constant_latch
latch_none name circuit idle h =
    ap (option_map (with_latch_fixed (beside circuit name))) (latch_found_same circuit name idle ∙ nothing (find (λ (l : Latch). is_some (fixed_bit circuit l)) circuit.latches) h)
  where
    nothing : (found : Option Latch) → option_map (with_latch_fixed circuit) found ≡ None → found ≡ None
    nothing None e = refl
    nothing (Some latch) e = absurd (none-some (with_latch_fixed circuit latch) (sym e))

-- what is not needed is removed

within_beside : (circuit : Circuit) (name : List ℕ) → IsIdle circuit name → (steps : ℕ) (signal : List ℕ) → needed_within (beside circuit name) steps signal ≡ needed_within circuit steps signal
unfolding needed_within dont_care_reads
within_beside circuit name idle zero signal = refl
within_beside circuit name idle (suc steps) signal =
    let before : needed_within (beside circuit name) steps ≡ needed_within circuit steps = fun_ext (within_beside circuit name idle steps) in
    within_more (beside circuit name) steps signal
    ∙ ap (λ (seen : List ℕ → Bool). (seen signal || tables_reach seen signal (map (emptied name) circuit.tables)) || latches_reach seen signal circuit.latches) before
    ∙ ap (λ (b : Bool). (needed_within circuit steps signal || b) || latches_reach (needed_within circuit steps) signal circuit.latches)
    (emptied_reach name (needed_within circuit steps) (idle_unneeded circuit name idle steps) signal circuit.tables)
    ∙ sym (within_more circuit steps signal)

needed_beside : (circuit : Circuit) (name : List ℕ) → IsIdle circuit name → is_needed (beside circuit name) ≡ is_needed circuit
unfolding is_needed
needed_beside circuit name idle =
    fun_ext (λ signal.
    ap (λ (count : ℕ). needed_within (beside circuit name) (count + length circuit.latches) signal) (length-map circuit.tables (emptied name))
    ∙ within_beside circuit name idle (length circuit.tables + length circuit.latches) signal)

pub idle_goes : (circuit : Circuit) (name : List ℕ) → IsIdle circuit name → is_needed circuit name ≡ false
unfolding is_needed
idle_goes circuit name idle = idle_unneeded circuit name idle (length circuit.tables + length circuit.latches)

all_needed_beside : (circuit : Circuit) (name : List ℕ) → IsIdle circuit name → all_needed (beside circuit name) ≡ all_needed circuit
all_needed_beside circuit name idle =
    ap (λ (test : List ℕ → Bool). list_all (λ (table : Table). test table.output) (map (emptied name) circuit.tables) && list_all (λ (latch : Latch). test latch.output) circuit.latches) (needed_beside circuit name idle)
    ∙ ap (λ (b : Bool). b && list_all (λ (latch : Latch). is_needed circuit latch.output) circuit.latches) (emptied_all name (is_needed circuit) circuit.tables)

only_needed_beside : (circuit : Circuit) (name : List ℕ) → IsIdle circuit name → only_needed (beside circuit name) ≡ only_needed circuit
unfolding only_needed with_kept
only_needed_beside circuit name idle =
    ap (with_kept (beside circuit name)) (needed_beside circuit name idle)
    ∙ ap (λ (tables : List Table). with_tables (with_kept circuit (is_needed circuit)) tables) (emptied_dropped name (is_needed circuit) (idle_goes circuit name idle) circuit.tables)

-- what is needed is the same beside the idle table, which is removed
pub dangling_same : (name : List ℕ) (circuit : Circuit) → IsIdle circuit name → remove_dangling (beside circuit name) ≡ remove_dangling circuit
unfolding remove_dangling
dangling_same name circuit idle = ap₂ (λ (all : Bool) (some : Circuit). if all then None else Some some) (all_needed_beside circuit name idle) (only_needed_beside circuit name idle)
