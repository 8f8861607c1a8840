-- The tables that read all that a cover reads are fanouts of the name of its first literal; indices
-- in order, each once.
use Rattle.std.proofs.Common.{◌≡◌, ℕ, ◌<◌, ◌==◌, zero, suc, eqb, cond, Bool, true, false, Option, Some, List, [], ◌∷◌, length, slice_get, refl, sym, ap, ◌∙◌, subst, inl, inr, arith}
use Rattle.std.specs.List.{dedup, dedup_from}
use Rattle.std.proofs.lemmas.Bool.{false≢true, eqb-true, or_left, or_right, or_cases}
use Rattle.std.proofs.lemmas.Option.{none-some, same_Some}
use Rattle.circuit_model.specs.Names.{has}
use Rattle.circuit_model.specs.declared.circuit.Table.{Table}
use Rattle.circuit_laws.proofs.Names.{has_head, has_tail, has_front, has_back}
use Rattle.alg_div.specs.Cubes.{Has}
use Rattle.net_readers.specs.Fanouts.{is_in}
use Rattle.cover_names.specs.Literals.{Cube, NamedCover}
use Rattle.cover_names.specs.Cubes.{names_in, is_over}
use Rattle.cover_names.specs.declared.literal.Literal.{Literal}
use Rattle.cover_names.proofs.Worth.{names_of}
use Rattle.net_work.specs.Placed.{table_at}
use Rattle.net_work.specs.Slots.{inputs_in, inputs_at}
use Rattle.alg_tables.proofs.CoverTables.{over_names}

-- the name of a literal of a cube of a cover
cube_named : (cube : Cube) (literal : Literal) → Has literal cube → has (names_of cube) literal.name ≡ true
cube_named [] literal m = absurd m
cube_named (first ∷ cube) literal m = elim m as (λ _. has (names_of (first ∷ cube)) literal.name ≡ true) [
  | inl e ↦ subst (λ (l : Literal). has (first.name ∷ names_of cube) l.name ≡ true) (sym e) (has_head first.name (names_of cube))
  | inr n ↦ has_tail first.name (names_of cube) literal.name (cube_named cube literal n)
]

pub literal_named : (cover : NamedCover) (cube : Cube) (literal : Literal) → Has cube cover → Has literal cube → has (names_in cover) literal.name ≡ true
literal_named [] cube literal m k = absurd m
literal_named (first ∷ cover) cube literal m k = elim m as (λ _. has (names_in (first ∷ cover)) literal.name ≡ true) [
  | inl e ↦ has_front (names_of first) (names_in cover) literal.name (cube_named first literal (subst (Has literal) e k))
  | inr n ↦ has_back (names_of first) (names_in cover) literal.name (literal_named cover cube literal n k)
]

pub first_has : (cube : Cube) (literal : Literal) → Some literal ≡ slice_get cube 0 → Has literal cube
first_has [] literal h = absurd (none-some literal (sym h))
first_has (first ∷ cube) literal h = inl (same_Some literal first h)

-- the fanouts of a name of the cover
pub readers_all : (slots : List (Option Table)) (cover : NamedCover) (name : List ℕ) (readers places : List ℕ) → has (names_in cover) name ≡ true
    → ((at : ℕ) → is_in readers at ≡ has (inputs_at slots at) name) → ((at : ℕ) → is_in readers at ≡ true → is_in places at ≡ true)
    → (at : ℕ) (table : Table) → table_at slots at ≡ Some table → is_over table.inputs cover ≡ true → is_in places at ≡ true
readers_all slots cover name readers places named exact kept at table there over =
    kept at (exact at ∙ (ap (λ (o : Option Table). has (inputs_in o) name) there ∙ over_names table.inputs cover name over named))

-- what a list keeps if repeated neighbours are removed
from_kept : (first : ℕ) (places : List ℕ) (at : ℕ) → is_in (first ∷ places) at ≡ true → is_in (dedup_from eqb first places) at ≡ true
from_kept first [] at h = h
from_kept first (next ∷ places) at h = cases (eqb next first) refl (from_kept first places at) (from_kept next places at)
  where
    cases : (b : Bool) → eqb next first ≡ b → (is_in (first ∷ places) at ≡ true → is_in (dedup_from eqb first places) at ≡ true)
        → (is_in (next ∷ places) at ≡ true → is_in (dedup_from eqb next places) at ≡ true) → is_in (cond b (dedup_from eqb first places) (first ∷ dedup_from eqb next places)) at ≡ true
    cases true e here there =
        let same : next ≡ first = eqb-true next first e in
        here (elim (or_cases (first == at) (is_in (next ∷ places) at) h) as (λ _. is_in (first ∷ places) at ≡ true) [
          | inl k ↦ or_left (first == at) (is_in places at) k
          | inr k ↦ subst (λ (n : ℕ). is_in (n ∷ places) at ≡ true) same k
        ])
    cases false e here there = elim (or_cases (first == at) (is_in (next ∷ places) at) h) as (λ _. is_in (first ∷ dedup_from eqb next places) at ≡ true) [
      | inl k ↦ or_left (first == at) (is_in (dedup_from eqb next places) at) k
      | inr k ↦ or_right (first == at) (is_in (dedup_from eqb next places) at) (there k)
    ]

pub dedup_kept : (places : List ℕ) (at : ℕ) → is_in places at ≡ true → is_in (dedup eqb places) at ≡ true
dedup_kept [] at h = h
dedup_kept (first ∷ places) at h = from_kept first places at h

of_kept : (first : ℕ) (places : List ℕ) (at : ℕ) → is_in (dedup_from eqb first places) at ≡ true → is_in (first ∷ places) at ≡ true
of_kept first [] at h = h
of_kept first (next ∷ places) at h = cases (eqb next first) h (of_kept first places at) (of_kept next places at)
  where
    cases : (b : Bool) → is_in (cond b (dedup_from eqb first places) (first ∷ dedup_from eqb next places)) at ≡ true → (is_in (dedup_from eqb first places) at ≡ true → is_in (first ∷ places) at ≡ true)
        → (is_in (dedup_from eqb next places) at ≡ true → is_in (next ∷ places) at ≡ true) → is_in (first ∷ (next ∷ places)) at ≡ true
    cases true m here there = elim (or_cases (first == at) (is_in places at) (here m)) as (λ _. is_in (first ∷ (next ∷ places)) at ≡ true) [
      | inl e ↦ or_left (first == at) (is_in (next ∷ places) at) e
      | inr k ↦ or_right (first == at) (is_in (next ∷ places) at) (or_right (next == at) (is_in places at) k)
    ]
    cases false m here there = elim (or_cases (first == at) (is_in (dedup_from eqb next places) at) m) as (λ _. is_in (first ∷ (next ∷ places)) at ≡ true) [
      | inl e ↦ or_left (first == at) (is_in (next ∷ places) at) e
      | inr k ↦ or_right (first == at) (is_in (next ∷ places) at) (there k)
    ]

pub of_dedup : (places : List ℕ) (at : ℕ) → is_in (dedup eqb places) at ≡ true → is_in places at ≡ true
of_dedup [] at h = h
of_dedup (first ∷ places) at h = of_kept first places at h

-- the index of a table that reads a name is within the network
pub reads_within : (slots : List (Option Table)) (name : List ℕ) (at : ℕ) → has (inputs_at slots at) name ≡ true → at < length slots
reads_within [] name at h = absurd (false≢true h)
reads_within (slot ∷ slots) name zero h = omega arith
reads_within (slot ∷ slots) name (suc at) h = let below : at < length slots = reads_within slots name at h in omega (arith, below)
