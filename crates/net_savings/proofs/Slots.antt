-- Tables by index: one that is written, and the tables before and after an index.
use Rattle.std.proofs.Common.{◌≡◌, ℕ, ◌<◌, zero, suc, Option, Some, None, List, [], ◌∷◌, ◌++◌, length, take, drop, set, refl, sym, ap, inl, inr, arith}
use Rattle.std.specs.List.{AllByRecursion}
use Rattle.std.proofs.lemmas.Option.{none-some, same_Some}
use Rattle.circuit_model.specs.declared.circuit.Table.{Table}
use Rattle.alg_div.specs.Cubes.{Has}
use Rattle.net_work.specs.Placed.{standing, table_at}
use Rattle.net_savings.specs.Listing.{told}

-- a table at an index is one of all tables
pub stands : (slots : List (Option Table)) (at : ℕ) (table : Table) → table_at slots at ≡ Some table → Has table (standing slots)
unfolding standing
stands [] at table e = absurd (none-some table e)
stands (None ∷ slots) zero table e = absurd (none-some table e)
stands (None ∷ slots) (suc at) table e = stands slots at table e
stands (Some first ∷ slots) zero table e = inl (sym (same_Some first table e))
stands (Some first ∷ slots) (suc at) table e = inr (stands slots at table e)

-- an index whose own table is written there
pub set_same : (slots : List (Option Table)) (at : ℕ) (slot : Option Table) → slot ≡ table_at slots at → set slots at slot ≡ slots
set_same [] at slot e = refl
set_same (first ∷ slots) zero slot e = ap (λ (s : Option Table). s ∷ slots) e
set_same (first ∷ slots) (suc at) slot e = ap (λ (rest : List (Option Table)). first ∷ rest) (set_same slots at slot e)

-- a table that is written keeps what holds of all
pub all_set : (P : Table → Type 0) (slots : List (Option Table)) (at : ℕ) (table : Table) → P table → AllByRecursion P (standing slots) → AllByRecursion P (standing (set slots at (Some table)))
unfolding standing
all_set P [] at table h all = all
all_set P (None ∷ slots) zero table h all = (h, all)
all_set P (None ∷ slots) (suc at) table h all = all_set P slots at table h all
all_set P (Some first ∷ slots) zero table h all = (h, all.1)
all_set P (Some first ∷ slots) (suc at) table h all = (all.0, all_set P slots at table h all.1)

-- one more index is taken
pub standing_next : (slots : List (Option Table)) (at : ℕ) → at < length slots → standing (take (suc at) slots) ≡ standing (take at slots) ++ told (table_at slots at)
unfolding standing
standing_next [] at h = absurd (omega (arith, h))
standing_next (None ∷ slots) zero h = refl
standing_next (Some first ∷ slots) zero h = refl
standing_next (None ∷ slots) (suc at) h = standing_next slots at (omega (arith, h))
standing_next (Some first ∷ slots) (suc at) h = ap (λ (rest : List Table). first ∷ rest) (standing_next slots at (omega (arith, h)))

-- the tables before and after one at an index
pub standing_around : (slots : List (Option Table)) (at : ℕ) (table : Table) → table_at slots at ≡ Some table
    → standing slots ≡ standing (take at slots) ++ table ∷ standing (drop (suc at) slots)
unfolding standing
standing_around [] at table e = absurd (none-some table e)
standing_around (None ∷ slots) zero table e = absurd (none-some table e)
standing_around (None ∷ slots) (suc at) table e = standing_around slots at table e
standing_around (Some first ∷ slots) zero table e = ap (λ (t : Table). t ∷ standing slots) (same_Some first table e)
standing_around (Some first ∷ slots) (suc at) table e = ap (λ (rest : List Table). first ∷ rest) (standing_around slots at table e)
