-- The step of the last rule of sweep.
use Rattle.std.proofs.Common.{◌≡◌, ℕ, Bool, true, false, ◌&&◌, if◌then◌else◌, Some, None, List, [], ◌∷◌, ◌++◌, filter, refl, sym, ap, ◌∙◌}
use Rattle.std.specs.List.{list_all}
use Rattle.circuit_model.specs.Names.{has, all_different}
use Rattle.circuit_model.specs.Runs.{latch_outputs}
use Rattle.circuit_model.specs.Soundness.{outputs_of, given, IsSound}
use Rattle.circuit_model.specs.declared.circuit.Table.{Table}
use Rattle.circuit_model.specs.declared.circuit.Latch.{Latch}
use Rattle.circuit_model.specs.declared.circuit.Circuit.{Circuit}
use Rattle.circuit_laws.specs.Edits.{with_kept, tables_kept, latches_kept, timing_with}
use Rattle.circuit_laws.proofs.Names.{different_apart}
use Rattle.net_wires.specs.Needed.{is_needed, all_needed, only_needed}
use Rattle.net_wires.specs.Rules.{remove_dangling}
use Rattle.net_wires.specs.Reading.{held_by}

-- the signals of a sound circuit differ
pub tables_differ : (circuit : Circuit) → IsSound circuit → all_different (outputs_of circuit.tables) ≡ true
unfolding given
tables_differ circuit h =
    (different_apart (latch_outputs circuit) (outputs_of circuit.tables) (different_apart circuit.inputs (latch_outputs circuit ++ outputs_of circuit.tables) h.one_driver).back).back

pub latches_differ : (circuit : Circuit) → IsSound circuit → all_different (held_by circuit.latches) ≡ true
unfolding given
latches_differ circuit h =
    (different_apart (latch_outputs circuit) (outputs_of circuit.tables) (different_apart circuit.inputs (latch_outputs circuit ++ outputs_of circuit.tables) h.one_driver).back).front

-- what is not needed
all_same : {X : Type 0} (p q : X → Bool) → ((x : X) → p x ≡ q x) → (xs : List X) → list_all p xs ≡ list_all q xs
all_same p q h [] = refl
all_same p q h (x ∷ xs) = rw (h x, all_same p q h xs) refl

filter_same : {X : Type 0} (p q : X → Bool) → ((x : X) → p x ≡ q x) → (xs : List X) → filter p xs ≡ filter q xs
filter_same p q h [] = refl
filter_same p q h (x ∷ xs) = rw (h x, filter_same p q h xs) refl

all_marked : (circuit : Circuit) (names : List (List ℕ)) → ((name : List ℕ) → has names name ≡ is_needed circuit name)
    → (list_all (λ (table : Table). has names table.output) circuit.tables && list_all (λ (latch : Latch). has names latch.output) circuit.latches) ≡ all_needed circuit
all_marked circuit names h =
    rw (
      all_same (λ (table : Table). has names table.output) (λ (table : Table). is_needed circuit table.output) (λ t. h t.output) circuit.tables,
      all_same (λ (latch : Latch). has names latch.output) (λ (latch : Latch). is_needed circuit latch.output) (λ l. h l.output) circuit.latches,
    ) refl

pub dangling_none : (circuit : Circuit) (names : List (List ℕ)) → ((name : List ℕ) → has names name ≡ is_needed circuit name)
    → (list_all (λ (table : Table). has names table.output) circuit.tables && list_all (λ (latch : Latch). has names latch.output) circuit.latches) ≡ true → None ≡ remove_dangling circuit
unfolding remove_dangling
dangling_none circuit names h e =
    sym (ap (λ (b : Bool). if b then None else Some (only_needed circuit)) (sym (all_marked circuit names h) ∙ e))

pub dangling_taken : (circuit : Circuit) (names : List (List ℕ)) (tables : List Table) (latches : List Latch) (new : Circuit) → ((name : List ℕ) → has names name ≡ is_needed circuit name)
    → (list_all (λ (table : Table). has names table.output) circuit.tables && list_all (λ (latch : Latch). has names latch.output) circuit.latches) ≡ false
    → tables ≡ tables_kept (has names) circuit.tables → latches ≡ latches_kept (has names) circuit.latches
    → new ≡ record circuit { tables = tables; latches = latches; timing = timing_with latches circuit.timing } → Some new ≡ remove_dangling circuit
unfolding remove_dangling only_needed with_kept tables_kept latches_kept
dangling_taken circuit names tables latches new h e t l n =
    let ts : tables ≡ filter (λ (table : Table). is_needed circuit table.output) circuit.tables =
    t ∙ filter_same (λ (table : Table). has names table.output) (λ (table : Table). is_needed circuit table.output) (λ x. h x.output) circuit.tables in
    let ls : latches ≡ filter (λ (latch : Latch). is_needed circuit latch.output) circuit.latches =
    l ∙ filter_same (λ (latch : Latch). has names latch.output) (λ (latch : Latch). is_needed circuit latch.output) (λ x. h x.output) circuit.latches in
    ap Some (n ∙ rw (ts, ls) refl)
    ∙ sym (ap (λ (b : Bool). if b then None else Some (only_needed circuit)) (sym (all_marked circuit names h) ∙ e))
