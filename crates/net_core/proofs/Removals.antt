-- The removal of a table or a latch from a sound circuit.
use Rattle.std.proofs.Common.{◌≡◌, ℕ, Bool, true, false, not, ◌||◌, ◌&&◌, cond, Option, None, List, [], ◌∷◌, ◌++◌, map, bytes_eq, refl, sym, ap}
use Rattle.std.specs.List.{filter}
use Rattle.circuit_model.specs.Names.{has, all_different}
use Rattle.circuit_model.specs.Runs.{latch_outputs}
use Rattle.circuit_model.specs.Soundness.{outputs_of, given, IsSound}
use Rattle.circuit_model.specs.declared.circuit.Latch.{Latch}
use Rattle.circuit_model.specs.declared.circuit.Timing.{Timing}
use Rattle.circuit_model.specs.declared.circuit.Circuit.{Circuit}
use Rattle.circuit_laws.specs.Edits.{without, is_other, latches_kept, timing_with, with_kept, with_removed}
use Rattle.net_core.proofs.Lookups.{apart_parts}

outputs_of_latches : List Latch → List (List ℕ)
outputs_of_latches latches = map (λ (latch : Latch). latch.output) latches

latches_stay : (latches : List Latch) (q : List ℕ) → has (map (λ (latch : Latch). latch.output) latches) q ≡ false → latches_kept (is_other q) latches ≡ latches
unfolding latches_kept
latches_stay [] q h = refl
latches_stay (latch ∷ latches) q h = cases (bytes_eq q latch.output) h (λ k. latches_stay latches q k)
  where
    cases : (b : Bool) → (b || has (map (λ (latch : Latch). latch.output) latches) q) ≡ false → (has (map (λ (latch : Latch). latch.output) latches) q ≡ false → filter (λ (latch : Latch). not (bytes_eq q latch.output)) latches ≡ latches)
        → cond (not b) (latch ∷ filter (λ (latch : Latch). not (bytes_eq q latch.output)) latches) (filter (λ (latch : Latch). not (bytes_eq q latch.output)) latches) ≡ latch ∷ latches
    cases true k rest = cc
    cases false k rest = ap (λ (ls : List Latch). latch ∷ ls) (rest k)

no_timing : (latches : List Latch) (timing : Option Timing) → (latches ≡ [] → timing ≡ None) → timing_with latches timing ≡ timing
no_timing [] timing h = sym (h refl)
no_timing (latch ∷ latches) timing h = refl

second_part : (xs ys : List (List ℕ)) → all_different (xs ++ ys) ≡ true → all_different ys ≡ true
unfolding all_different
second_part [] ys h = h
second_part (x ∷ xs) ys h = second_part xs ys (second (has (xs ++ ys) x) (all_different (xs ++ ys)) h)
  where
    second : (a b : Bool) → (not a && b) ≡ true → b ≡ true
    second true b e = cc
    second false b e = e

-- no latch has the name of a table
pub no_latch : (circuit : Circuit) (q : List ℕ) → IsSound circuit → has (outputs_of circuit.tables) q ≡ true → has (latch_outputs circuit) q ≡ false
unfolding given
no_latch circuit q h k = apart_parts (latch_outputs circuit) (outputs_of circuit.tables) q (second_part circuit.inputs (latch_outputs circuit ++ outputs_of circuit.tables) h.one_driver) k

pub removed_table : (circuit : Circuit) (q : List ℕ) → IsSound circuit → has (outputs_of circuit.tables) q ≡ true → with_removed circuit q ≡ record circuit { tables = without circuit.tables q }
unfolding with_kept
removed_table circuit q h k =
    let l : latches_kept (is_other q) circuit.latches ≡ circuit.latches = latches_stay circuit.latches q (no_latch circuit q h k) in
    rw l (ap (λ (t : Option Timing). record circuit { tables = without circuit.tables q; timing = t }) (no_timing circuit.latches circuit.timing h.untimed_without_latches))

pub removed_latch : (circuit : Circuit) (q : List ℕ) → with_removed circuit q ≡ record circuit { tables = without circuit.tables q; latches = latches_kept (is_other q) circuit.latches; timing = timing_with (latches_kept (is_other q) circuit.latches) circuit.timing }
unfolding with_kept
removed_latch circuit q = refl

pub tables_differ : (circuit : Circuit) → IsSound circuit → all_different (outputs_of circuit.tables) ≡ true
unfolding given
tables_differ circuit h = second_part (latch_outputs circuit) (outputs_of circuit.tables) (second_part circuit.inputs (latch_outputs circuit ++ outputs_of circuit.tables) h.one_driver)
