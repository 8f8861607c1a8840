-- Tables by index: what holds of each, the signal that it drives, and what is left after one is
-- replaced.
use Rattle.std.proofs.Common.{◌≡◌, ℕ, ◌<◌, zero, suc, true, Option, Some, None, List, [], ◌∷◌, map, length, slice_get, set, refl, sym, ap, ◌∙◌, subst, arith}
use Rattle.std.specs.List.{AllByRecursion}
use Rattle.std.specs.Option.{option_map}
use Rattle.std.proofs.lemmas.Option.{none-some, same_Some}
use Rattle.circuit_model.specs.Names.{has, all_different}
use Rattle.circuit_model.specs.Soundness.{outputs_of, IsSound}
use Rattle.circuit_model.specs.Values.{driver}
use Rattle.circuit_model.specs.declared.circuit.Table.{Table}
use Rattle.circuit_laws.specs.Edits.{replaced}
use Rattle.circuit_laws.proofs.Places.{placed_name, placed_driver, set_replaced}
use Rattle.net_core.proofs.Removals.{tables_differ}
use Rattle.net_work.specs.Placed.{Placed, standing, circuit_of, table_at}

pub place_within : (slots : List (Option Table)) (place : ℕ) (table : Table) → table_at slots place ≡ Some table → place < length slots
place_within [] place table there = absurd (none-some table there)
place_within (slot ∷ slots) zero table there = omega arith
place_within (slot ∷ slots) (suc place) table there = let below : place < length slots = place_within slots place table there in omega (arith, below)

-- what holds of all tables holds at each index, and conversely
pub all_at : (P : Table → Type 0) (slots : List (Option Table)) → AllByRecursion P (standing slots) → (place : ℕ) (table : Table) → table_at slots place ≡ Some table → P table
unfolding standing
all_at P [] all place table there = absurd (none-some table there)
all_at P (None ∷ slots) all zero table there = absurd (none-some table there)
all_at P (None ∷ slots) all (suc place) table there = all_at P slots all place table there
all_at P (Some first ∷ slots) all zero table there = subst P (same_Some first table there) all.0
all_at P (Some first ∷ slots) all (suc place) table there = all_at P slots all.1 place table there

pub all_standing : (P : Table → Type 0) (slots : List (Option Table)) → ((place : ℕ) (table : Table) → table_at slots place ≡ Some table → P table) → AllByRecursion P (standing slots)
unfolding standing
all_standing P [] each = tt
all_standing P (None ∷ slots) each = all_standing P slots (λ place. each (suc place))
all_standing P (Some first ∷ slots) each = (each 0 first refl, all_standing P slots (λ place. each (suc place)))

-- all tables changed
pub standing_map : (turn : Table → Table) (slots : List (Option Table)) → standing (map (option_map turn) slots) ≡ map turn (standing slots)
unfolding standing
standing_map turn [] = refl
standing_map turn (None ∷ slots) = standing_map turn slots
standing_map turn (Some first ∷ slots) = ap (λ (tables : List Table). turn first ∷ tables) (standing_map turn slots)

-- a table at an index among those that stand, and what stands after another one is put there
pub standing_at : (slots : List (Option Table)) (place : ℕ) (old : Table) → table_at slots place ≡ Some old
    → (i : ℕ) × (slice_get (standing slots) i ≡ Some old) × ((new : Table) → standing (set slots place (Some new)) ≡ set (standing slots) i new)
unfolding standing
standing_at [] place old there = absurd (none-some old there)
standing_at (None ∷ slots) zero old there = absurd (none-some old there)
standing_at (Some first ∷ slots) zero old there = (0, there, λ new. refl)
standing_at (None ∷ slots) (suc place) old there = standing_at slots place old there
standing_at (Some first ∷ slots) (suc place) old there =
    let (i, here, over) = standing_at slots place old there in
    (suc i, here, λ new. ap (λ (tables : List Table). first ∷ tables) (over new))

-- the signal of a table at an index is driven, by that table if the signals are different
pub there_named : (slots : List (Option Table)) (place : ℕ) (table : Table) → table_at slots place ≡ Some table → has (outputs_of (standing slots)) table.output ≡ true
there_named slots place table there = let (i, here, over) = standing_at slots place table there in placed_name (λ (t : Table). t.output) (standing slots) i table here

pub drives_at : (slots : List (Option Table)) → all_different (outputs_of (standing slots)) ≡ true → (place : ℕ) (table : Table) → table_at slots place ≡ Some table → driver (standing slots) table.output ≡ Some table
drives_at slots different place table there = let (i, here, over) = standing_at slots place table there in placed_driver (standing slots) i table different here

pub drives : (placed : Placed) (place : ℕ) (table : Table) → IsSound (circuit_of placed) → table_at placed.slots place ≡ Some table → driver (standing placed.slots) table.output ≡ Some table
drives placed place table sound there = drives_at placed.slots (tables_differ (circuit_of placed) sound) place table there

-- a table that is replaced by another one with its signal
pub standing_set : (slots : List (Option Table)) (place : ℕ) (old new : Table) → all_different (outputs_of (standing slots)) ≡ true → table_at slots place ≡ Some old → new.output ≡ old.output
    → standing (set slots place (Some new)) ≡ replaced (standing slots) new
standing_set slots place old new different there same =
    let (i, here, over) = standing_at slots place old there in
    over new ∙ set_replaced (standing slots) i old new different here (sym same)
