-- Tables stay without cycles after an edit.
use Rattle.std.proofs.Common.{◌≡◌, ℕ, zero, suc, ◌+◌, ◌<◌, ◌≤◌, Bool, true, false, Option, Some, None, cond, option_map, List, [], ◌∷◌, ◌++◌, map, bytes_eq, refl, sym, ap, ◌∙◌, subst, inl, inr, ◌⊎◌, arith}
use Rattle.std.specs.Option.{option_or}
use Rattle.std.proofs.lemmas.Bool.{false≢true}
use Rattle.std.proofs.lemmas.Option.{none-some, same_Some}
use Rattle.circuit_model.specs.Names.{has}
use Rattle.circuit_model.specs.Values.{driver}
use Rattle.circuit_model.specs.Soundness.{outputs_of, table_inputs, Leads, IsAcyclic}
use Rattle.circuit_model.specs.declared.circuit.Table.{Table}
use Rattle.circuit_laws.specs.Edits.{replaced, tables_kept}
use Rattle.circuit_laws.specs.Ranks.{HasRank}
use Rattle.circuit_laws.proofs.Names.{name_itself, name_cases, name_apart, name_not, has_none, has_neither}
use Rattle.circuit_laws.proofs.Drivers.{driver_none, driver_reads, driver_append, driver_one, driver_replaced_other, driver_replaced_own, driver_kept, driver_dropped, driver_mapped, replaced_none}
use Rattle.circuit_laws.proofs.Ranks.{leads_one, leads_joined, falls_along}

-- if each step of the new tables is a path of the old ones, so is each path of the new ones
unfoldable pub AreWays : List Table → List Table → Type 0
AreWays old new = (signal : List ℕ) (table : Table) (input : List ℕ) → driver new signal ≡ Some table → has table.inputs input ≡ true → (steps : ℕ) × Leads old (suc steps) signal input

ways : (old new : List Table) → AreWays old new → (n : ℕ) (from to : List ℕ) → Leads new (suc n) from to → (m : ℕ) × Leads old (suc m) from to
unfolding AreWays Leads
ways old new are zero from to (table, at, next, read, end) =
    let (m, way) = are from table next at read in (m, subst (λ x. Leads old (suc m) from x) end way)
ways old new are (suc n) from to (table, at, next, read, rest) =
    let (m, way) = are from table next at read in
    let (k, more) = ways old new are n next to rest in
    let e : suc m + suc k ≡ suc (m + suc k) = omega arith in
    (m + suc k, subst (λ i. Leads old i from to) e (leads_joined old (suc m) (suc k) from next to way more))

pub ways_acyclic : (old new : List Table) → AreWays old new → IsAcyclic old → IsAcyclic new
unfolding IsAcyclic
ways_acyclic old new are acyclic signal steps way = let (m, back) = ways old new are steps signal signal way in acyclic signal m back

pub no_return : (tables : List Table) → IsAcyclic tables → (signal : List ℕ) (steps : ℕ) → Leads tables (suc steps) signal signal → ⊥
unfolding IsAcyclic
no_return tables acyclic = acyclic

-- tables are removed
pub kept_acyclic : (test : List ℕ → Bool) (tables : List Table) → IsAcyclic tables → IsAcyclic (tables_kept test tables)
unfolding AreWays
kept_acyclic test tables acyclic = ways_acyclic tables (tables_kept test tables) (λ signal table input at reads. step signal table input (test signal) refl at reads) acyclic
  where
    step : (signal : List ℕ) (table : Table) (input : List ℕ) (k : Bool) → test signal ≡ k → driver (tables_kept test tables) signal ≡ Some table → has table.inputs input ≡ true
        → (steps : ℕ) × Leads tables (suc steps) signal input
    step signal table input true stays at reads = (0, leads_one tables signal input table (sym (driver_kept test tables signal stays) ∙ at) reads)
    step signal table input false goes at reads = absurd (none-some table (sym (driver_dropped test tables signal goes) ∙ at))

-- each table becomes one that reads only what its signal leads to
pub mapped_acyclic : (turn : Table → Table) → ((table : Table) → (turn table).output ≡ table.output) → (tables : List Table)
    → ((signal : List ℕ) (table : Table) (input : List ℕ) → driver tables signal ≡ Some table → has (turn table).inputs input ≡ true → (steps : ℕ) × Leads tables (suc steps) signal input)
    → IsAcyclic tables → IsAcyclic (map turn tables)
unfolding AreWays
mapped_acyclic turn keeps tables reads acyclic =
    ways_acyclic tables (map turn tables)
    (λ signal table input at read. step signal table input read (driver tables signal) refl (sym (driver_mapped turn keeps tables signal) ∙ at))
    acyclic
  where
    step : (signal : List ℕ) (table : Table) (input : List ℕ) → has table.inputs input ≡ true → (found : Option Table) → driver tables signal ≡ found → option_map turn found ≡ Some table
        → (steps : ℕ) × Leads tables (suc steps) signal input
    step signal table input read None at e = absurd (none-some table e)
    step signal table input read (Some old) at e = reads signal old input at (subst (λ (t : Table). has t.inputs input ≡ true) (sym (same_Some (turn old) table e)) read)

-- a path in the tables with one replaced: it avoids the new table, or it reaches it and leaves it
-- by an input
Passes : List Table → Table → List ℕ → List ℕ → Type 0
Passes tables new from to =
    ((before : ℕ) × Leads tables before from new.output) × ((input : List ℕ) × (has new.inputs input ≡ true) × (after : ℕ) × Leads tables after input to)

passing : (tables : List Table) (new : Table) → has (outputs_of tables) new.output ≡ true → (n : ℕ) (from to : List ℕ)
    → Leads (replaced tables new) n from to → Leads tables n from to ⊎ Passes tables new from to
unfolding Leads Passes
passing tables new driven zero from to way = inl way
passing tables new driven (suc n) from to (table, at, next, read, rest) =
    cases (name_cases from new.output) (passing tables new driven n next to rest)
  where
    cases : (from ≡ new.output) ⊎ (bytes_eq from new.output ≡ false) → Leads tables n next to ⊎ Passes tables new next to → Leads tables (suc n) from to ⊎ Passes tables new from to
    cases (inl here) more =
        let is : new ≡ table = same_Some new table (sym (driver_replaced_own tables new driven) ∙ ap (driver (replaced tables new)) (sym here) ∙ at) in
        let reads : has new.inputs next ≡ true = subst (λ (t : Table). has t.inputs next ≡ true) (sym is) read in
        elim more as (λ _. Leads tables (suc n) from to ⊎ Passes tables new from to) [
          | inl way ↦ inr ((0, here), (next, reads, n, way))
          | inr passed ↦ inr ((0, here), passed.1)
        ]
    cases (inr other) more =
        let before : driver tables from ≡ Some table = sym (driver_replaced_other tables new from other) ∙ at in
        elim more as (λ _. Leads tables (suc n) from to ⊎ Passes tables new from to) [
          | inl way ↦ inl (table, before, next, read, way)
          | inr passed ↦ let (k, way) = passed.0 in inr ((suc k, (table, before, next, read, way)), passed.1)
        ]

-- a table is replaced by one whose inputs do not lead to its signal
pub replaced_acyclic : (tables : List Table) (new : Table) → IsAcyclic tables
    → ((input : List ℕ) (steps : ℕ) → has new.inputs input ≡ true → Leads tables steps input new.output → ⊥) → IsAcyclic (replaced tables new)
unfolding IsAcyclic Passes
replaced_acyclic tables new acyclic apart = cases (has (outputs_of tables) new.output) refl
  where
    cases : (b : Bool) → has (outputs_of tables) new.output ≡ b → (signal : List ℕ) (steps : ℕ) → Leads (replaced tables new) (suc steps) signal signal → ⊥
    cases false nowhere signal steps way = acyclic signal steps (subst (λ (ts : List Table). Leads ts (suc steps) signal signal) (replaced_none tables new nowhere) way)
    cases true driven signal steps way =
        elim (passing tables new driven (suc steps) signal signal way) as (λ _. ⊥) [
          | inl round ↦ acyclic signal steps round
          | inr passed ↦
              let ((before, come), (input, reads, after, leave)) = passed in
              apart input (after + before) reads (leads_joined tables after before input signal new.output leave come)
        ]

-- what a signal leads to does not lead back to it
pub reached_apart : (tables : List Table) → IsAcyclic tables → (signal input : List ℕ) (n : ℕ) → Leads tables (suc n) signal input → (steps : ℕ) → Leads tables steps input signal → ⊥
reached_apart tables acyclic signal input n there steps back =
    let e : suc n + steps ≡ suc (n + steps) = omega arith in
    no_return tables acyclic signal (n + steps) (subst (λ k. Leads tables k signal signal) e (leads_joined tables (suc n) steps signal input signal there back))

-- what has a lower rank does not lead to the signal
pub lower_apart : (tables : List Table) (r : HasRank tables) (signal input : List ℕ) → r.rank input < r.rank signal → (steps : ℕ) → Leads tables steps input signal → ⊥
lower_apart tables r signal input low steps way = let f : r.rank signal + steps ≤ r.rank input = falls_along tables r steps input signal way in absurd (omega arith)

-- another table does not lead to a signal that leads to all inputs of that table
pub beside_apart : (tables : List Table) → IsAcyclic tables → (signal other : List ℕ) (table : Table) → bytes_eq other signal ≡ false → driver tables other ≡ Some table
    → ((input : List ℕ) → has table.inputs input ≡ true → (n : ℕ) × Leads tables (suc n) signal input) → (steps : ℕ) → Leads tables steps other signal → ⊥
unfolding Leads
beside_apart tables acyclic signal other table apart at below zero way = name_apart other signal apart way
beside_apart tables acyclic signal other table apart at below (suc steps) (first, found, next, read, rest) =
    let is : first ≡ table = same_Some first table (sym found ∙ at) in
    let (n, there) = below next (subst (λ (t : Table). has t.inputs next ≡ true) is read) in
    reached_apart tables acyclic signal next n there steps rest

-- a table is replaced by one that reads only inputs of the old one
pub narrowed_acyclic : (tables : List Table) (old new : Table) → IsAcyclic tables → driver tables new.output ≡ Some old
    → ((input : List ℕ) → has new.inputs input ≡ true → has old.inputs input ≡ true) → IsAcyclic (replaced tables new)
narrowed_acyclic tables old new acyclic at within =
    replaced_acyclic tables new acyclic (λ input steps reads. reached_apart tables acyclic new.output input 0 (leads_one tables new.output input old at (within input reads)) steps)

-- a table is added last
pub driver_added_other : (tables : List Table) (new : Table) (signal : List ℕ) → bytes_eq signal new.output ≡ false → driver (tables ++ new ∷ []) signal ≡ driver tables signal
driver_added_other tables new signal other =
    driver_append tables (new ∷ []) signal
    ∙ ap (option_or (driver tables signal)) (driver_one new signal ∙ ap (λ (b : Bool). cond b (Some new) None) other)
    ∙ or_none (driver tables signal)
  where
    or_none : (found : Option Table) → option_or found None ≡ found
    or_none None = refl
    or_none (Some table) = refl

pub driver_added_own : (tables : List Table) (new : Table) → has (outputs_of tables) new.output ≡ false → driver (tables ++ new ∷ []) new.output ≡ Some new
driver_added_own tables new fresh =
    driver_append tables (new ∷ []) new.output
    ∙ ap (λ (found : Option Table). option_or found (driver (new ∷ []) new.output)) (driver_none tables new.output fresh)
    ∙ driver_one new new.output ∙ ap (λ (b : Bool). cond b (Some new) None) (name_itself new.output)

pub reads_added : (tables : List Table) (new : Table) (name : List ℕ) → has (table_inputs tables) name ≡ false → has new.inputs name ≡ false → has (table_inputs (tables ++ new ∷ [])) name ≡ false
reads_added [] new name unread apart = has_none new.inputs [] name apart refl
reads_added (first ∷ tables) new name unread apart =
    let parts = has_neither first.inputs (table_inputs tables) name unread in
    has_none first.inputs (table_inputs (tables ++ new ∷ [])) name parts.0 (reads_added tables new name parts.1 apart)

-- a path that begins elsewhere does not reach a signal that nothing reads
added_way : (tables : List Table) (new : Table) → has (table_inputs (tables ++ new ∷ [])) new.output ≡ false
    → (n : ℕ) (from to : List ℕ) → bytes_eq from new.output ≡ false → Leads (tables ++ new ∷ []) n from to → Leads tables n from to
unfolding Leads
added_way tables new unread zero from to apart way = way
added_way tables new unread (suc n) from to apart (table, at, next, read, rest) =
    let off : bytes_eq next new.output ≡ false =
    name_not next new.output (λ e. false≢true (sym unread ∙ subst (λ x. has (table_inputs (tables ++ new ∷ [])) x ≡ true) e (driver_reads (tables ++ new ∷ []) from table next at read))) in
    (table, sym (driver_added_other tables new from apart) ∙ at, next, read, added_way tables new unread n next to off rest)

-- what a path reaches is read
comes_read : (tables : List Table) (n : ℕ) (from to : List ℕ) → Leads tables (suc n) from to → has (table_inputs tables) to ≡ true
unfolding Leads
comes_read tables zero from to (table, at, next, read, end) = subst (λ x. has (table_inputs tables) x ≡ true) end (driver_reads tables from table next at read)
comes_read tables (suc n) from to (table, at, next, read, rest) = comes_read tables n next to rest

pub added_acyclic : (tables : List Table) (new : Table) → IsAcyclic tables → has (table_inputs tables) new.output ≡ false → has new.inputs new.output ≡ false → IsAcyclic (tables ++ new ∷ [])
unfolding IsAcyclic
added_acyclic tables new acyclic unread apart signal steps way =
    let none : has (table_inputs (tables ++ new ∷ [])) new.output ≡ false = reads_added tables new new.output unread apart in
    elim (name_cases signal new.output) as (λ _. ⊥) [
      | inl same ↦ false≢true (sym none ∙ subst (λ x. has (table_inputs (tables ++ new ∷ [])) x ≡ true) same (comes_read (tables ++ new ∷ []) steps signal signal way))
      | inr other ↦ acyclic signal steps (added_way tables new none (suc steps) signal signal other way)
    ]
