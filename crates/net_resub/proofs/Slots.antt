-- Tables by index: the names that they drive, one that is replaced, and two of them in their order.
use Rattle.std.proofs.Common.{◌≡◌, ℕ, ◌+◌, ◌<◌, zero, suc, Bool, true, cond, Option, Some, None, List, [], ◌∷◌, ◌++◌, length, set, refl, sym, ap, ◌∙◌, subst, inl, inr, arith}
use Rattle.std.specs.List.{AllByRecursion, sum_by}
use Rattle.std.proofs.lemmas.Bool.{false≢true}
use Rattle.std.proofs.lemmas.List.Sums.{sum_by-cons}
use Rattle.std.proofs.lemmas.Option.{none-some, same_Some}
use Rattle.alg_div.specs.Cubes.{Has}
use Rattle.alg_div.proofs.Lists.{Has-right}
use Rattle.circuit_model.specs.Counts.{literals_of_table}
use Rattle.circuit_model.specs.Names.{has, all_different}
use Rattle.circuit_model.specs.Soundness.{outputs_of}
use Rattle.circuit_model.specs.Values.{driver}
use Rattle.circuit_model.specs.declared.circuit.Table.{Table}
use Rattle.circuit_laws.specs.Edits.{replaced}
use Rattle.circuit_laws.proofs.Names.{name_is, name_not, different_head, different_tail, has_head, has_tail}
use Rattle.net_candidates.specs.Candidates.{ArePair}
use Rattle.net_work.specs.Placed.{standing, table_at}
use Rattle.net_work.proofs.Indexed.{there_named}

-- a later table drives another signal
pub later_apart : (first : Table) (slots : List (Option Table)) (place : ℕ) (table : Table) → all_different (first.output ∷ outputs_of (standing slots)) ≡ true → table_at slots place ≡ Some table → table.output ≡ first.output → ⊥
later_apart first slots place table different there same =
    false≢true (sym (different_head first.output (outputs_of (standing slots)) different)
    ∙ subst (λ (n : List ℕ). has (outputs_of (standing slots)) n ≡ true) same (there_named slots place table there))

-- a table has an index
pub has_place : (slots : List (Option Table)) (table : Table) → Has table (standing slots) → (place : ℕ) × (table_at slots place ≡ Some table)
unfolding standing
has_place [] table m = absurd m
has_place (None ∷ slots) table m = let (place, there) = has_place slots table m in (suc place, there)
has_place (Some first ∷ slots) table m =
    elim m as (λ _. (place : ℕ) × (table_at (Some first ∷ slots) place ≡ Some table)) [
      | inl e ↦ (zero, ap (λ (t : Table). Some t) (sym e))
      | inr n ↦ (let (place, there) = has_place slots table n in (suc place, there))
    ]

pub place_has : (slots : List (Option Table)) (place : ℕ) (table : Table) → table_at slots place ≡ Some table → Has table (standing slots)
unfolding standing
place_has [] place table there = absurd (none-some table there)
place_has (None ∷ slots) zero table there = absurd (none-some table there)
place_has (None ∷ slots) (suc place) table there = place_has slots place table there
place_has (Some first ∷ slots) zero table there = inl (sym (same_Some first table there))
place_has (Some first ∷ slots) (suc place) table there = inr (place_has slots place table there)

-- the indices of two tables in their order
abbrev pub ArePlaces : List (Option Table) → Table → Table → Type 0
ArePlaces slots first second = (one : ℕ) × (other : ℕ) × (one < other) × (table_at slots one ≡ Some first) × (table_at slots other ≡ Some second)

later_places : (slot : Option Table) (slots : List (Option Table)) (first second : Table) → ArePlaces slots first second → ArePlaces (slot ∷ slots) first second
later_places slot slots first second (one, other, below, here, there) = (suc one, suc other, omega (arith, below), here, there)

split_places : (slots : List (Option Table)) (before between after : List Table) (first second : Table) → standing slots ≡ before ++ first ∷ (between ++ second ∷ after) → ArePlaces slots first second
unfolding standing
split_places [] [] between after first second e = absurd (let z : [] ≡ first ∷ (between ++ second ∷ after) = e in cc)
split_places [] (t ∷ before) between after first second e = absurd (let z : [] ≡ t ∷ (before ++ first ∷ (between ++ second ∷ after)) = e in cc)
split_places (None ∷ slots) before between after first second e = later_places None slots first second (split_places slots before between after first second e)
split_places (Some s ∷ slots) [] between after first second e =
    let head : s ≡ first = cc in
    let rest : standing slots ≡ between ++ second ∷ after = cc in
    let (other, there) = has_place slots second (subst (λ (ts : List Table). Has second ts) (sym rest) (Has-right second between (second ∷ after) (inl refl))) in
    (zero, suc other, omega arith, ap (λ (t : Table). Some t) head, there)
split_places (Some s ∷ slots) (t ∷ before) between after first second e =
    let rest : standing slots ≡ before ++ first ∷ (between ++ second ∷ after) = cc in
    later_places (Some s) slots first second (split_places slots before between after first second rest)

pub pair_places : (slots : List (Option Table)) (first second : Table) → ArePair (standing slots) first second → ArePlaces slots first second
pair_places slots first second pair = split_places slots pair.before pair.between pair.after first second pair.among

-- the number of literals after that
pub literals_set : (slots : List (Option Table)) (place : ℕ) (old new : Table) → table_at slots place ≡ Some old
    → sum_by literals_of_table (standing (set slots place (Some new))) + literals_of_table old ≡ sum_by literals_of_table (standing slots) + literals_of_table new
unfolding standing
literals_set [] place old new there = absurd (none-some old there)
literals_set (None ∷ slots) zero old new there = absurd (none-some old there)
literals_set (None ∷ slots) (suc place) old new there = literals_set slots place old new there
literals_set (Some first ∷ slots) zero old new there =
    let same : literals_of_table first ≡ literals_of_table old = ap literals_of_table (same_Some first old there) in
    omega (arith, same, sum_by-cons literals_of_table new (standing slots), sum_by-cons literals_of_table first (standing slots))
literals_set (Some first ∷ slots) (suc place) old new there =
    omega (arith, literals_set slots place old new there, sum_by-cons literals_of_table first (standing (set slots place (Some new))), sum_by-cons literals_of_table first (standing slots))

-- what holds of all tables after that
pub set_all : (P : Table → Type 0) (slots : List (Option Table)) (place : ℕ) (old new : Table) → table_at slots place ≡ Some old → P new → AllByRecursion P (standing slots)
    → AllByRecursion P (standing (set slots place (Some new))) × (length (standing (set slots place (Some new))) ≡ length (standing slots))
unfolding standing
set_all P [] place old new there this all = absurd (none-some old there)
set_all P (None ∷ slots) zero old new there this all = absurd (none-some old there)
set_all P (None ∷ slots) (suc place) old new there this all = set_all P slots place old new there this all
set_all P (Some first ∷ slots) zero old new there this all = ((this, all.1), refl)
set_all P (Some first ∷ slots) (suc place) old new there this all =
    let (rest, long) = set_all P slots place old new there this all.1 in ((all.0, rest), ap suc long)
