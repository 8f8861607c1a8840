-- Tables of which the one of a signal is emptied: it is the constant 0.
use Rattle.std.proofs.Common.{◌≡◌, ℕ, Bool, true, false, ◌&&◌, ◌||◌, cond, if◌then◌else◌, Option, Some, None, List, [], ◌∷◌, ◌++◌, map, find, bytes_eq, refl, sym, ap, ap₂, ◌∙◌, subst, inl, inr, ◌⊎◌}
use Rattle.std.specs.List.{AllByRecursion, list_all}
use Rattle.std.specs.Option.{option_map}
use Rattle.std.proofs.lemmas.Bool.{false≢true, false_from_ne_true}
use Rattle.std.proofs.lemmas.Option.{none-some, same_Some}
use Rattle.circuit_model.specs.Names.{has, all_different}
use Rattle.circuit_model.specs.Values.{driver}
use Rattle.circuit_model.specs.Soundness.{outputs_of, table_inputs}
use Rattle.circuit_model.specs.declared.circuit.Table.{Table}
use Rattle.circuit_laws.specs.Edits.{replaced, tables_kept, constant_table}
use Rattle.circuit_laws.proofs.Names.{same_name, has_neither, different_head, different_tail}
use Rattle.circuit_laws.proofs.Drivers.{driver_mapped, driver_name}
use Rattle.net_wires.proofs.Closing.{tables_reach}
use Rattle.net_wires.proofs.Weight.{mapped_reads}

-- the table of a signal replaced by the constant 0; other tables stay
unfoldable pub emptied : List ℕ → Table → Table
emptied name table = if bytes_eq name table.output then constant_table name false else table

abbrev pub EmptiedCases : List ℕ → Table → Type 0
EmptiedCases name table =
    ((bytes_eq name table.output ≡ true) × (emptied name table ≡ constant_table name false)) ⊎ ((bytes_eq name table.output ≡ false) × (emptied name table ≡ table))

pub emptied_cases : (name : List ℕ) (table : Table) → EmptiedCases name table
unfolding emptied
emptied_cases name table = by (bytes_eq name table.output) refl
  where
    by : (t : Bool) → bytes_eq name table.output ≡ t
        → ((bytes_eq name table.output ≡ true) × ((if t then constant_table name false else table) ≡ constant_table name false))
        ⊎ ((bytes_eq name table.output ≡ false) × ((if t then constant_table name false else table) ≡ table))
    by true e = inl (e, refl)
    by false e = inr (e, refl)

pub emptied_own : (name : List ℕ) (table : Table) → bytes_eq name table.output ≡ true → emptied name table ≡ constant_table name false
unfolding emptied
emptied_own name table h = ap (λ (b : Bool). if b then constant_table name false else table) h

pub emptied_other : (name : List ℕ) (table : Table) → bytes_eq name table.output ≡ false → emptied name table ≡ table
unfolding emptied
emptied_other name table h = ap (λ (b : Bool). if b then constant_table name false else table) h

pub emptied_output : (name : List ℕ) (table : Table) → (emptied name table).output ≡ table.output
emptied_output name table =
    elim (emptied_cases name table) as (λ _. (emptied name table).output ≡ table.output) [
      | inl own ↦ ap (λ (t : Table). t.output) own.1 ∙ same_name name table.output own.0
      | inr other ↦ ap (λ (t : Table). t.output) other.1
    ]

pub emptied_inputs : (name : List ℕ) (table : Table) (x : List ℕ) → has (emptied name table).inputs x ≡ true → has table.inputs x ≡ true
emptied_inputs name table x h =
    elim (emptied_cases name table) as (λ _. has table.inputs x ≡ true) [
      | inl own ↦ absurd (false≢true (subst (λ (t : Table). has t.inputs x ≡ true) own.1 h))
      | inr other ↦ subst (λ (t : Table). has t.inputs x ≡ true) other.1 h
    ]

-- what the tables read then, they read before
pub emptied_reads : (name : List ℕ) (tables : List Table) (x : List ℕ) → has (table_inputs (map (emptied name) tables)) x ≡ true → has (table_inputs tables) x ≡ true
emptied_reads name tables x h = known (mapped_reads (emptied name) ⊥ x (λ t k. inl (emptied_inputs name t x k)) tables h)
  where
    known : (has (table_inputs tables) x ≡ true) ⊎ ⊥ → has (table_inputs tables) x ≡ true
    known (inl k) = k
    known (inr never) = absurd never

pub emptied_unread : (name : List ℕ) (tables : List Table) (x : List ℕ) → has (table_inputs tables) x ≡ false → has (table_inputs (map (emptied name) tables)) x ≡ false
emptied_unread name tables x none = false_from_ne_true (has (table_inputs (map (emptied name) tables)) x) (λ h. false≢true (sym none ∙ emptied_reads name tables x h))

-- what is found

fails_emptied : (p q : Table → Bool) (name : List ℕ) → q (constant_table name false) ≡ false → ((table : Table) → q table ≡ true → p table ≡ true)
    → (table : Table) → p table ≡ false → q (emptied name table) ≡ false
fails_emptied p q name none within table fails =
    elim (emptied_cases name table) as (λ _. q (emptied name table) ≡ false) [
      | inl own ↦ ap q own.1 ∙ none
      | inr other ↦ ap q other.1 ∙ false_from_ne_true (q table) (λ h. false≢true (sym fails ∙ within table h))
    ]

-- where the emptied table fails a test, and what passes it passes another one, the first that
-- passes the other one is the first that passes it, if it does
pub find_emptied : (p q : Table → Bool) (name : List ℕ) → q (constant_table name false) ≡ false → ((table : Table) → q table ≡ true → p table ≡ true)
    → (tables : List Table) (table : Table) → find p tables ≡ Some table → bytes_eq name table.output ≡ false → q table ≡ true → find q (map (emptied name) tables) ≡ Some table
find_emptied p q name none within [] table e other holds = absurd (none-some table e)
find_emptied p q name none within (first ∷ tables) table e other holds =
    cases (p first) refl e (λ k. find_emptied p q name none within tables table k other holds)
  where
    passes : first ≡ table → cond (q (emptied name first)) (Some (emptied name first)) (find q (map (emptied name) tables)) ≡ Some table
    passes same =
        ap (λ (t : Table). cond (q t) (Some t) (find q (map (emptied name) tables))) (ap (emptied name) same ∙ emptied_other name table other)
        ∙ ap (λ (b : Bool). cond b (Some table) (find q (map (emptied name) tables))) holds

    cases : (t : Bool) → p first ≡ t → cond t (Some first) (find p tables) ≡ Some table → (find p tables ≡ Some table → find q (map (emptied name) tables) ≡ Some table)
        → cond (q (emptied name first)) (Some (emptied name first)) (find q (map (emptied name) tables)) ≡ Some table
    cases true h k rest = passes (same_Some first table k)
    cases false h k rest =
        ap (λ (b : Bool). cond b (Some (emptied name first)) (find q (map (emptied name) tables))) (fails_emptied p q name none within first h) ∙ rest k

pub find_emptied_none : (p q : Table → Bool) (name : List ℕ) → q (constant_table name false) ≡ false → ((table : Table) → q table ≡ true → p table ≡ true)
    → (tables : List Table) → AllByRecursion (λ table. p table ≡ false) tables → find q (map (emptied name) tables) ≡ None
find_emptied_none p q name none within [] all = refl
find_emptied_none p q name none within (first ∷ tables) all =
    ap (λ (b : Bool). cond b (Some (emptied name first)) (find q (map (emptied name) tables))) (fails_emptied p q name none within first all.0)
    ∙ find_emptied_none p q name none within tables all.1

pub emptied_driver : (name : List ℕ) (tables : List Table) (signal : List ℕ) → bytes_eq name signal ≡ false → driver (map (emptied name) tables) signal ≡ driver tables signal
emptied_driver name tables signal other = driver_mapped (emptied name) (emptied_output name) tables signal ∙ by (driver tables signal) refl
  where
    by : (found : Option Table) → driver tables signal ≡ found → option_map (emptied name) found ≡ found
    by None e = refl
    by (Some table) e = ap Some (emptied_other name table (ap (bytes_eq name) (driver_name tables signal table e) ∙ other))

-- the emptied table is at the position of the signal's table

emptied_stays : (name : List ℕ) (tables : List Table) → has (outputs_of tables) name ≡ false → map (emptied name) tables ≡ tables
emptied_stays name [] none = refl
emptied_stays name (table ∷ tables) none =
    let parts = has_neither (table.output ∷ []) (outputs_of tables) name none in
    ap₂ (λ (t : Table) (ts : List Table). t ∷ ts)
    (elim (emptied_cases name table) as (λ _. emptied name table ≡ table) [
      | inl own ↦ absurd (false≢true (sym parts.0 ∙ ap (λ (b : Bool). b || false) own.0))
      | inr other ↦ other.1
    ])
    (emptied_stays name tables parts.1)

pub emptied_is_replaced : (name : List ℕ) (tables : List Table) → all_different (outputs_of tables) ≡ true → replaced tables (constant_table name false) ≡ map (emptied name) tables
unfolding replaced
emptied_is_replaced name [] different = refl
emptied_is_replaced name (table ∷ tables) different =
    cases (emptied_cases name table) (emptied_is_replaced name tables (different_tail table.output (outputs_of tables) different))
  where
    cases : EmptiedCases name table → replaced tables (constant_table name false) ≡ map (emptied name) tables
        → cond (bytes_eq name table.output) (constant_table name false ∷ tables) (table ∷ replaced tables (constant_table name false)) ≡ emptied name table ∷ map (emptied name) tables
    cases (inl own) rest =
        ap (λ (b : Bool). cond b (constant_table name false ∷ tables) (table ∷ replaced tables (constant_table name false))) own.0
        ∙ ap₂ (λ (t : Table) (ts : List Table). t ∷ ts) (sym own.1)
        (sym (emptied_stays name tables
        (subst (λ (x : List ℕ). has (outputs_of tables) x ≡ false) (sym (same_name name table.output own.0)) (different_head table.output (outputs_of tables) different))))
    cases (inr other) rest =
        ap (λ (b : Bool). cond b (constant_table name false ∷ tables) (table ∷ replaced tables (constant_table name false))) other.0
        ∙ ap₂ (λ (t : Table) (ts : List Table). t ∷ ts) (sym other.1) rest

-- a change of the emptied table alone is not seen
pub emptied_replaced_own : (name : List ℕ) (tables : List Table) (new : Table) → bytes_eq name new.output ≡ true → map (emptied name) (replaced tables new) ≡ map (emptied name) tables
unfolding replaced
emptied_replaced_own name [] new own = refl
emptied_replaced_own name (table ∷ tables) new own = cases (bytes_eq new.output table.output) refl (emptied_replaced_own name tables new own)
  where
    cases : (t : Bool) → bytes_eq new.output table.output ≡ t → map (emptied name) (replaced tables new) ≡ map (emptied name) tables
        → map (emptied name) (cond t (new ∷ tables) (table ∷ replaced tables new)) ≡ emptied name table ∷ map (emptied name) tables
    cases true e rest =
        ap (λ (t : Table). t ∷ map (emptied name) tables)
        (emptied_own name new own ∙ sym (emptied_own name table (subst (λ (x : List ℕ). bytes_eq name x ≡ true) (same_name new.output table.output e) own)))
    cases false e rest = ap (λ (ts : List Table). emptied name table ∷ ts) rest

-- a change of another table is made beside it
pub emptied_replaced_other : (name : List ℕ) (tables : List Table) (new : Table) → bytes_eq name new.output ≡ false → map (emptied name) (replaced tables new) ≡ replaced (map (emptied name) tables) new
unfolding replaced
emptied_replaced_other name [] new other = refl
emptied_replaced_other name (table ∷ tables) new other =
    cases (bytes_eq new.output table.output) refl (emptied_replaced_other name tables new other)
    ∙ ap (λ (x : List ℕ). cond (bytes_eq new.output x) (new ∷ map (emptied name) tables) (emptied name table ∷ replaced (map (emptied name) tables) new)) (sym (emptied_output name table))
  where
    cases : (t : Bool) → bytes_eq new.output table.output ≡ t → map (emptied name) (replaced tables new) ≡ replaced (map (emptied name) tables) new
        → map (emptied name) (cond t (new ∷ tables) (table ∷ replaced tables new)) ≡ cond t (new ∷ map (emptied name) tables) (emptied name table ∷ replaced (map (emptied name) tables) new)
    cases true e rest = ap (λ (t : Table). t ∷ map (emptied name) tables) (emptied_other name new other)
    cases false e rest = ap (λ (ts : List Table). emptied name table ∷ ts) rest

-- so with a turn of all tables
pub emptied_apart : (name : List ℕ) (turn : Table → Table) → ((table : Table) → (turn table).output ≡ table.output) → (x : List ℕ) → ((table : Table) → has table.inputs x ≡ false → turn table ≡ table)
    → (tables : List Table) → has (table_inputs (map (emptied name) tables)) x ≡ false → map (emptied name) (map turn tables) ≡ map (emptied name) tables
emptied_apart name turn keeps x stays [] none = refl
emptied_apart name turn keeps x stays (table ∷ tables) none =
    let parts = has_neither (emptied name table).inputs (table_inputs (map (emptied name) tables)) x none in
    ap₂ (λ (t : Table) (ts : List Table). t ∷ ts)
    (elim (emptied_cases name table) as (λ _. emptied name (turn table) ≡ emptied name table) [
      | inl own ↦ emptied_own name (turn table) (ap (bytes_eq name) (keeps table) ∙ own.0) ∙ sym own.1
      | inr other ↦ ap (emptied name) (stays table (subst (λ (t : Table). has t.inputs x ≡ false) other.1 parts.0))
    ])
    (emptied_apart name turn keeps x stays tables parts.1)

pub emptied_turned : (name : List ℕ) (turn : Table → Table) → ((table : Table) → (turn table).output ≡ table.output) → turn (constant_table name false) ≡ constant_table name false
    → (tables : List Table) → map (emptied name) (map turn tables) ≡ map turn (map (emptied name) tables)
emptied_turned name turn keeps still [] = refl
emptied_turned name turn keeps still (table ∷ tables) =
    ap₂ (λ (t : Table) (ts : List Table). t ∷ ts)
    (elim (emptied_cases name table) as (λ _. emptied name (turn table) ≡ turn (emptied name table)) [
      | inl own ↦ emptied_own name (turn table) (ap (bytes_eq name) (keeps table) ∙ own.0) ∙ sym still ∙ ap turn (sym own.1)
      | inr other ↦ emptied_other name (turn table) (ap (bytes_eq name) (keeps table) ∙ other.0) ∙ ap turn (sym other.1)
    ])
    (emptied_turned name turn keeps still tables)

-- tables are removed or added
pub emptied_kept : (name : List ℕ) (test : List ℕ → Bool) (tables : List Table) → tables_kept test (map (emptied name) tables) ≡ map (emptied name) (tables_kept test tables)
unfolding tables_kept
emptied_kept name test [] = refl
emptied_kept name test (table ∷ tables) =
    ap (λ (x : List ℕ). cond (test x) (emptied name table ∷ tables_kept test (map (emptied name) tables)) (tables_kept test (map (emptied name) tables))) (emptied_output name table)
    ∙ cases (test table.output) (emptied_kept name test tables)
  where
    cases : (t : Bool) → tables_kept test (map (emptied name) tables) ≡ map (emptied name) (tables_kept test tables)
        → cond t (emptied name table ∷ tables_kept test (map (emptied name) tables)) (tables_kept test (map (emptied name) tables))
        ≡ map (emptied name) (cond t (table ∷ tables_kept test tables) (tables_kept test tables))
    cases true rest = ap (λ (ts : List Table). emptied name table ∷ ts) rest
    cases false rest = rest

pub emptied_dropped : (name : List ℕ) (test : List ℕ → Bool) → test name ≡ false → (tables : List Table) → tables_kept test (map (emptied name) tables) ≡ tables_kept test tables
unfolding tables_kept
emptied_dropped name test none [] = refl
emptied_dropped name test none (table ∷ tables) = cases (emptied_cases name table) (emptied_dropped name test none tables)
  where
    cases : EmptiedCases name table → tables_kept test (map (emptied name) tables) ≡ tables_kept test tables
        → cond (test (emptied name table).output) (emptied name table ∷ tables_kept test (map (emptied name) tables)) (tables_kept test (map (emptied name) tables))
        ≡ cond (test table.output) (table ∷ tables_kept test tables) (tables_kept test tables)
    cases (inl own) rest =
        let here : test table.output ≡ false = ap test (sym (same_name name table.output own.0)) ∙ none in
        ap (λ (b : Bool). cond b (emptied name table ∷ tables_kept test (map (emptied name) tables)) (tables_kept test (map (emptied name) tables))) (ap test (emptied_output name table) ∙ here)
        ∙ rest ∙ ap (λ (b : Bool). cond b (table ∷ tables_kept test tables) (tables_kept test tables)) (sym here)
    cases (inr other) rest = ap₂ (λ (t : Table) (ts : List Table). cond (test t.output) (t ∷ ts) ts) other.1 rest

pub emptied_added : (name : List ℕ) (tables : List Table) (new : Table) → bytes_eq name new.output ≡ false → map (emptied name) (tables ++ new ∷ []) ≡ map (emptied name) tables ++ new ∷ []
emptied_added name [] new other = ap (λ (t : Table). t ∷ []) (emptied_other name new other)
emptied_added name (table ∷ tables) new other = ap (λ (ts : List Table). emptied name table ∷ ts) (emptied_added name tables new other)

-- what tables reach, and what holds of their signals
pub emptied_reach : (name : List ℕ) (test : List ℕ → Bool) → test name ≡ false → (x : List ℕ) (tables : List Table) → tables_reach test x (map (emptied name) tables) ≡ tables_reach test x tables
unfolding tables_reach
emptied_reach name test none x [] = refl
emptied_reach name test none x (table ∷ tables) =
    ap₂ (λ (a b : Bool). a || b)
    (elim (emptied_cases name table) as (λ _. (test (emptied name table).output && has (emptied name table).inputs x) ≡ (test table.output && has table.inputs x)) [
      | inl own ↦
          let here : test table.output ≡ false = ap test (sym (same_name name table.output own.0)) ∙ none in
          ap (λ (b : Bool). b && has (emptied name table).inputs x) (ap test (emptied_output name table) ∙ here) ∙ ap (λ (b : Bool). b && has table.inputs x) (sym here)
      | inr other ↦ ap (λ (t : Table). test t.output && has t.inputs x) other.1
    ])
    (emptied_reach name test none x tables)

pub emptied_all : (name : List ℕ) (test : List ℕ → Bool) (tables : List Table) → list_all (λ (table : Table). test table.output) (map (emptied name) tables) ≡ list_all (λ (table : Table). test table.output) tables
emptied_all name test [] = refl
emptied_all name test (table ∷ tables) = ap₂ (λ (a b : Bool). a && b) (ap test (emptied_output name table)) (emptied_all name test tables)
