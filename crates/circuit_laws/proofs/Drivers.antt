-- Which table drives a signal, and how an edit of the tables changes that.
use Rattle.std.proofs.Common.{◌≡◌, ℕ, Bool, true, false, ◌||◌, cond, Option, Some, None, option_map, is_some, List, [], ◌∷◌, ◌++◌, map, bytes_eq, refl, sym, ap, ◌∙◌, subst, inl, inr}
use Rattle.std.specs.List.{AllByRecursion}
use Rattle.std.specs.Option.{option_or}
use Rattle.std.proofs.lemmas.Bool.{false≢true}
use Rattle.std.proofs.lemmas.Option.{none-some, same_Some}
use Rattle.circuit_model.specs.Names.{has}
use Rattle.circuit_model.specs.Values.{driver}
use Rattle.circuit_model.specs.Soundness.{outputs_of, table_inputs}
use Rattle.circuit_model.specs.declared.circuit.Table.{Table}
use Rattle.circuit_laws.specs.Edits.{replaced, tables_kept}
use Rattle.circuit_laws.proofs.Names.{same_name, name_itself, name_cases, has_front, has_back}

-- a signal is driven where it is an output of a table
pub is_driven : (tables : List Table) (signal : List ℕ) → is_some (driver tables signal) ≡ has (outputs_of tables) signal
unfolding driver
is_driven [] signal = refl
is_driven (first ∷ tables) signal = cases (bytes_eq signal first.output) (is_driven tables signal)
  where
    cases : (b : Bool) → is_some (driver tables signal) ≡ has (outputs_of tables) signal
        → is_some (cond b (Some first) (driver tables signal)) ≡ (b || has (outputs_of tables) signal)
    cases true rest = refl
    cases false rest = rest

pub driver_output : (tables : List Table) (signal : List ℕ) (table : Table) → driver tables signal ≡ Some table → has (outputs_of tables) signal ≡ true
driver_output tables signal table at = sym (is_driven tables signal) ∙ ap (λ (found : Option Table). is_some found) at

pub output_driver : (tables : List Table) (signal : List ℕ) → has (outputs_of tables) signal ≡ true → (table : Table) × (driver tables signal ≡ Some table)
output_driver tables signal h = cases (driver tables signal) (is_driven tables signal ∙ h)
  where
    cases : (found : Option Table) → is_some found ≡ true → (table : Table) × (found ≡ Some table)
    cases None e = absurd (false≢true e)
    cases (Some table) e = (table, refl)

pub driver_none : (tables : List Table) (signal : List ℕ) → has (outputs_of tables) signal ≡ false → driver tables signal ≡ None
driver_none tables signal h = cases (driver tables signal) (is_driven tables signal ∙ h)
  where
    cases : (found : Option Table) → is_some found ≡ false → found ≡ None
    cases None e = refl
    cases (Some table) e = absurd (false≢true (sym e))

pub none_driver : (tables : List Table) (signal : List ℕ) → driver tables signal ≡ None → has (outputs_of tables) signal ≡ false
none_driver tables signal h = sym (is_driven tables signal) ∙ ap (λ (found : Option Table). is_some found) h

-- a signal's driver has its name, is one of the tables, and its inputs are among theirs
pub driver_name : (tables : List Table) (signal : List ℕ) (table : Table) → driver tables signal ≡ Some table → table.output ≡ signal
unfolding driver
driver_name [] signal table at = absurd (none-some table at)
driver_name (first ∷ tables) signal table at = cases (bytes_eq signal first.output) refl at (driver_name tables signal table)
  where
    cases : (b : Bool) → bytes_eq signal first.output ≡ b → cond b (Some first) (driver tables signal) ≡ Some table
        → (driver tables signal ≡ Some table → table.output ≡ signal) → table.output ≡ signal
    cases true same e more = ap (λ (t : Table). t.output) (sym (same_Some first table e)) ∙ sym (same_name signal first.output same)
    cases false other e more = more e

pub driver_all : (P : Table → Type 0) (tables : List Table) → AllByRecursion P tables → (signal : List ℕ) (table : Table) → driver tables signal ≡ Some table → P table
unfolding driver
driver_all P [] all signal table at = absurd (none-some table at)
driver_all P (first ∷ tables) all signal table at = cases (bytes_eq signal first.output) at (driver_all P tables all.1 signal table)
  where
    cases : (b : Bool) → cond b (Some first) (driver tables signal) ≡ Some table → (driver tables signal ≡ Some table → P table) → P table
    cases true e more = subst P (same_Some first table e) all.0
    cases false e more = more e

pub driver_reads : (tables : List Table) (signal : List ℕ) (table : Table) (input : List ℕ) → driver tables signal ≡ Some table → has table.inputs input ≡ true → has (table_inputs tables) input ≡ true
unfolding driver
driver_reads [] signal table input at reads = absurd (none-some table at)
driver_reads (first ∷ tables) signal table input at reads = cases (bytes_eq signal first.output) at (λ e. driver_reads tables signal table input e reads)
  where
    cases : (b : Bool) → cond b (Some first) (driver tables signal) ≡ Some table → (driver tables signal ≡ Some table → has (table_inputs tables) input ≡ true)
        → has (table_inputs (first ∷ tables)) input ≡ true
    cases true e more = has_front first.inputs (table_inputs tables) input (subst (λ (t : Table). has t.inputs input ≡ true) (sym (same_Some first table e)) reads)
    cases false e more = has_back first.inputs (table_inputs tables) input (more e)

-- tables one after the other
pub driver_append : (xs ys : List Table) (signal : List ℕ) → driver (xs ++ ys) signal ≡ option_or (driver xs signal) (driver ys signal)
unfolding driver
driver_append [] ys signal = refl
driver_append (first ∷ xs) ys signal = cases (bytes_eq signal first.output) (driver_append xs ys signal)
  where
    cases : (b : Bool) → driver (xs ++ ys) signal ≡ option_or (driver xs signal) (driver ys signal)
        → cond b (Some first) (driver (xs ++ ys) signal) ≡ option_or (cond b (Some first) (driver xs signal)) (driver ys signal)
    cases true rest = refl
    cases false rest = rest

pub driver_one : (table : Table) (signal : List ℕ) → driver (table ∷ []) signal ≡ cond (bytes_eq signal table.output) (Some table) None
unfolding driver
driver_one table signal = refl

-- the new table drives its signal if something drove it, and nothing else changes
pub driver_replaced_other : (tables : List Table) (new : Table) (signal : List ℕ) → bytes_eq signal new.output ≡ false → driver (replaced tables new) signal ≡ driver tables signal
unfolding driver replaced
driver_replaced_other [] new signal other = refl
driver_replaced_other (first ∷ tables) new signal other = cases (bytes_eq new.output first.output) refl (driver_replaced_other tables new signal other)
  where
    cases : (b : Bool) → bytes_eq new.output first.output ≡ b → driver (replaced tables new) signal ≡ driver tables signal
        → driver (cond b (new ∷ tables) (first ∷ replaced tables new)) signal ≡ driver (first ∷ tables) signal
    cases true same rest = rw (other, ap (bytes_eq signal) (sym (same_name new.output first.output same)) ∙ other) refl
    cases false apart rest = ap (λ (found : Option Table). cond (bytes_eq signal first.output) (Some first) found) rest

pub driver_replaced_own : (tables : List Table) (new : Table) → has (outputs_of tables) new.output ≡ true → driver (replaced tables new) new.output ≡ Some new
unfolding driver replaced
driver_replaced_own [] new h = absurd (false≢true h)
driver_replaced_own (first ∷ tables) new h = cases (bytes_eq new.output first.output) refl h (driver_replaced_own tables new)
  where
    cases : (b : Bool) → bytes_eq new.output first.output ≡ b → (b || has (outputs_of tables) new.output) ≡ true
        → (has (outputs_of tables) new.output ≡ true → driver (replaced tables new) new.output ≡ Some new)
        → driver (cond b (new ∷ tables) (first ∷ replaced tables new)) new.output ≡ Some new
    cases true same k more = rw (name_itself new.output) refl
    cases false apart k more = rw apart (more k)

-- if nothing drove the new table's signal, nothing changes
pub replaced_none : (tables : List Table) (new : Table) → has (outputs_of tables) new.output ≡ false → replaced tables new ≡ tables
unfolding replaced
replaced_none [] new h = refl
replaced_none (first ∷ tables) new h = cases (bytes_eq new.output first.output) h (replaced_none tables new)
  where
    cases : (b : Bool) → (b || has (outputs_of tables) new.output) ≡ false → (has (outputs_of tables) new.output ≡ false → replaced tables new ≡ tables)
        → cond b (new ∷ tables) (first ∷ replaced tables new) ≡ first ∷ tables
    cases true k more = absurd (false≢true (sym k))
    cases false k more = ap (λ (rest : List Table). first ∷ rest) (more k)

pub outputs-replaced : (tables : List Table) (new : Table) → outputs_of (replaced tables new) ≡ outputs_of tables
unfolding replaced
outputs-replaced [] new = refl
outputs-replaced (first ∷ tables) new = cases (bytes_eq new.output first.output) refl (outputs-replaced tables new)
  where
    cases : (b : Bool) → bytes_eq new.output first.output ≡ b → outputs_of (replaced tables new) ≡ outputs_of tables
        → outputs_of (cond b (new ∷ tables) (first ∷ replaced tables new)) ≡ first.output ∷ outputs_of tables
    cases true same rest = ap (λ (name : List ℕ). name ∷ outputs_of tables) (same_name new.output first.output same)
    cases false apart rest = ap (λ (names : List (List ℕ)). first.output ∷ names) rest

-- tables whose signals pass a test
pub driver_kept : (test : List ℕ → Bool) (tables : List Table) (signal : List ℕ) → test signal ≡ true → driver (tables_kept test tables) signal ≡ driver tables signal
unfolding driver tables_kept
driver_kept test [] signal passes = refl
driver_kept test (first ∷ tables) signal passes = cases (test first.output) refl (bytes_eq signal first.output) refl (driver_kept test tables signal passes)
  where
    cases : (k : Bool) → test first.output ≡ k → (b : Bool) → bytes_eq signal first.output ≡ b → driver (tables_kept test tables) signal ≡ driver tables signal
        → driver (cond k (first ∷ tables_kept test tables) (tables_kept test tables)) signal ≡ cond b (Some first) (driver tables signal)
    cases true stays true same rest = rw same refl
    cases true stays false apart rest = rw apart rest
    cases false goes true same rest = absurd (false≢true (sym goes ∙ ap test (sym (same_name signal first.output same)) ∙ passes))
    cases false goes false apart rest = rest

pub driver_dropped : (test : List ℕ → Bool) (tables : List Table) (signal : List ℕ) → test signal ≡ false → driver (tables_kept test tables) signal ≡ None
unfolding driver tables_kept
driver_dropped test [] signal fails = refl
driver_dropped test (first ∷ tables) signal fails = cases (test first.output) refl (driver_dropped test tables signal fails)
  where
    cases : (k : Bool) → test first.output ≡ k → driver (tables_kept test tables) signal ≡ None
        → driver (cond k (first ∷ tables_kept test tables) (tables_kept test tables)) signal ≡ None
    cases true stays rest =
        elim (name_cases signal first.output) as (λ _. cond (bytes_eq signal first.output) (Some first) (driver (tables_kept test tables) signal) ≡ None) [
          | inl same ↦ absurd (false≢true (sym fails ∙ ap test same ∙ stays))
          | inr apart ↦ rw apart rest
        ]
    cases false goes rest = rest

-- each table made another one of the same signal
pub driver_mapped : (turn : Table → Table) → ((table : Table) → (turn table).output ≡ table.output) → (tables : List Table) (signal : List ℕ)
    → driver (map turn tables) signal ≡ option_map turn (driver tables signal)
unfolding driver
driver_mapped turn keeps [] signal = refl
driver_mapped turn keeps (first ∷ tables) signal =
    subst (λ (name : List ℕ). cond (bytes_eq signal name) (Some (turn first)) (driver (map turn tables) signal) ≡ option_map turn (driver (first ∷ tables) signal))
    (sym (keeps first))
    (cases (bytes_eq signal first.output) (driver_mapped turn keeps tables signal))
  where
    cases : (b : Bool) → driver (map turn tables) signal ≡ option_map turn (driver tables signal)
        → cond b (Some (turn first)) (driver (map turn tables) signal) ≡ option_map turn (cond b (Some first) (driver tables signal))
    cases true rest = refl
    cases false rest = rest
