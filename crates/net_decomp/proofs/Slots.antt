-- Tables by index: others added after the last index, one written at an index, and that of an index
-- among all.
use Rattle.std.proofs.Common.{◌≡◌, ℕ, ◌<◌, zero, suc, Option, Some, None, List, [], ◌∷◌, ◌++◌, map, length, set, refl, ap, arith}
use Rattle.std.specs.List.{AllByRecursion}
use Rattle.std.proofs.lemmas.Option.{none-some, same_Some}
use Rattle.circuit_model.specs.declared.circuit.Table.{Table}
use Rattle.net_core.proofs.Lookups.{get_set_same, get_set_other}
use Rattle.net_work.specs.Placed.{standing, joined, table_at}
use Rattle.net_work.proofs.Standing.{place_there}

-- the tables of slots that all have one
standing_all : (more : List Table) → standing (map Some more) ≡ more
unfolding standing
standing_all [] = refl
standing_all (table ∷ more) = ap (λ (tables : List Table). table ∷ tables) (standing_all more)

pub standing_behind : (slots : List (Option Table)) (more : List Table) → standing (slots ++ map Some more) ≡ standing slots ++ more
unfolding standing
standing_behind [] more = standing_all more
standing_behind (None ∷ slots) more = standing_behind slots more
standing_behind (Some table ∷ slots) more = ap (λ (tables : List Table). table ∷ tables) (standing_behind slots more)

-- the table at an index stays if others are added after the last
pub table_before : (slots others : List (Option Table)) (at : ℕ) → at < length slots → table_at (slots ++ others) at ≡ table_at slots at
table_before [] others at below = absurd (omega (arith, below))
table_before (slot ∷ slots) others zero below = refl
table_before (slot ∷ slots) others (suc at) below = table_before slots others at (omega (arith, below))

-- the table at an index that is written, and those at others
pub table_set : (slots : List (Option Table)) (place : ℕ) (old new : Table) → table_at slots place ≡ Some old → table_at (set slots place (Some new)) place ≡ Some new
table_set slots place old new there = ap joined (get_set_same slots place (Some old) (Some new) (place_there slots place old there))

pub table_other : (slots : List (Option Table)) (place at : ℕ) (new : Table) → at < place → table_at (set slots place (Some new)) at ≡ table_at slots at
table_other slots place at new below = ap joined (get_set_other slots place at (Some new) (λ same. omega (arith, same, below)))

-- the table at an index among all; what holds of the tables at lower indices holds of those before
-- it
pub record IsAmong (P : Table → Type 0) (tables : List Table) (table : Table) : Type 0 where
  pub before : List Table
  pub after : List Table
  pub is : tables ≡ before ++ table ∷ after
  pub all : AllByRecursion P before

pub among : (P : Table → Type 0) (slots : List (Option Table)) (place : ℕ) (table : Table) → table_at slots place ≡ Some table
    → ((at : ℕ) (other : Table) → at < place → table_at slots at ≡ Some other → P other) → IsAmong P (standing slots) table
unfolding standing
among P [] place table there each = absurd (none-some table there)
among P (None ∷ slots) zero table there each = absurd (none-some table there)
among P (Some first ∷ slots) zero table there each = record {
  before = [];
  after = standing slots;
  is = ap (λ (t : Table). t ∷ standing slots) (same_Some first table there);
  all = tt;
}
among P (None ∷ slots) (suc place) table there each = among P slots place table there (λ at other below here. each (suc at) other (omega (arith, below)) here)
among P (Some first ∷ slots) (suc place) table there each =
    let rest = among P slots place table there (λ at other below here. each (suc at) other (omega (arith, below)) here) in
    record {
      before = first ∷ rest.before;
      after = rest.after;
      is = ap (λ (tables : List Table). first ∷ tables) rest.is;
      all = (each 0 first (omega arith) refl, rest.all);
    }
