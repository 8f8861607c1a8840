-- Steps of elimination: the least of the candidates is one of them; what a step keeps; which form
-- the last circuit has.
use Rattle.std.proofs.Common.{◌≡◌, ℕ, ℤ, Bool, true, false, not, ◌&&◌, cond, Option, Some, None, option_map, List, [], ◌∷◌, filter, int_lt, refl, sym, ap, ◌∙◌, subst, inl, inr, ◌⊎◌}
use Rattle.std.specs.List.{AllByRecursion}
use Rattle.std.proofs.lemmas.Bool.{false≢true, and_parts, not-true}
use Rattle.std.proofs.lemmas.Option.{none-some, same_Some}
use Rattle.circuit_model.specs.Names.{has, all_different}
use Rattle.circuit_model.specs.Values.{driver}
use Rattle.circuit_model.specs.Runs.{Refines}
use Rattle.circuit_model.specs.Soundness.{outputs_of, IsSound}
use Rattle.circuit_model.specs.declared.circuit.Table.{Table}
use Rattle.circuit_model.specs.declared.circuit.Circuit.{Circuit}
use Rattle.circuit_laws.specs.Chains.{Chain}
use Rattle.circuit_laws.specs.Edits.{is_root}
use Rattle.circuit_laws.proofs.Names.{name_itself, name_not, different_head, different_tail, has_head, has_tail}
use Rattle.circuit_laws.proofs.Among.{own_drivers}
use Rattle.circuit_laws.specs.Changes.{IsReduced}
use Rattle.circuit_laws.proofs.Changes.{chain_reduced, changed_refines}
use Rattle.net_core.specs.Reads.{value_of}
use Rattle.net_core.proofs.Removals.{tables_differ}
use Rattle.net_elim.specs.Eliminating.{all_take, is_candidate, lesser, least, with_eliminated, eliminate_step, IsEliminated}
use Rattle.net_elim.proofs.TakenIn.{eliminated_reduced}

-- what holds of all tables holds of the least
pub least_all : (P : Table → Type 0) (value : Table → ℤ) (tables : List Table) → AllByRecursion P tables → (table : Table) → least value tables ≡ Some table → P table
unfolding least
least_all P value [] all table e = absurd (none-some table e)
least_all P value (first ∷ tables) all table e =
    subst P (same_Some (lesser value first (least value tables)) table e) (either (least value tables) (λ other at. least_all P value tables all.1 other at))
  where
    pick : (other : Table) → P other → (b : Bool) → P (cond b other first)
    pick other h true = h
    pick other h false = all.0

    either : (later : Option Table) → ((other : Table) → later ≡ Some other → P other) → P (lesser value first later)
    either None more = all.0
    either (Some other) more = pick other (more other refl) (int_lt (value other) (value first))

pub least_none : (value : Table → ℤ) (tables : List Table) → least value tables ≡ None → tables ≡ []
unfolding least
least_none value [] e = refl
least_none value (first ∷ tables) e = absurd (none-some (lesser value first (least value tables)) (sym e))

-- filters
pub filter_all : (P : Table → Type 0) (test : Table → Bool) (tables : List Table) → AllByRecursion P tables → AllByRecursion (λ table. P table × (test table ≡ true)) (filter test tables)
filter_all P test [] all = tt
filter_all P test (first ∷ tables) all = cases (test first) refl (filter_all P test tables all.1)
  where
    cases : (b : Bool) → test first ≡ b → AllByRecursion (λ table. P table × (test table ≡ true)) (filter test tables) → AllByRecursion (λ table. P table × (test table ≡ true)) (cond b (first ∷ filter test tables) (filter test tables))
    cases true e rest = ((all.0, e), rest)
    cases false e rest = rest

filter_none : (test : Table → Bool) (tables : List Table) → filter test tables ≡ [] → AllByRecursion (λ table. test table ≡ false) tables
filter_none test [] e = tt
filter_none test (first ∷ tables) e = cases (test first) refl e (filter_none test tables)
  where
    cases : (b : Bool) → test first ≡ b → cond b (first ∷ filter test tables) (filter test tables) ≡ [] → (filter test tables ≡ [] → AllByRecursion (λ table. test table ≡ false) tables)
        → AllByRecursion (λ table. test table ≡ false) (first ∷ tables)
    cases true h k more = absurd (cc)
    cases false h k more = (h, more k)

-- what holds of all tables
pub all_weaker : (P Q : Table → Type 0) → ((table : Table) → P table → Q table) → (tables : List Table) → AllByRecursion P tables → AllByRecursion Q tables
all_weaker P Q h [] all = tt
all_weaker P Q h (first ∷ tables) all = (h first all.0, all_weaker P Q h tables all.1)

pub all_there : (tables : List Table) → AllByRecursion (λ (table : Table). has (outputs_of tables) table.output ≡ true) tables
all_there [] = tt
all_there (first ∷ tables) = (
  has_head first.output (outputs_of tables),
  all_weaker (λ table. has (outputs_of tables) table.output ≡ true) (λ table. has (outputs_of (first ∷ tables)) table.output ≡ true)
      (λ table h. has_tail first.output (outputs_of tables) table.output h) tables (all_there tables),
)

pub all_both : (P Q : Table → Type 0) (tables : List Table) → AllByRecursion P tables → AllByRecursion Q tables → AllByRecursion (λ table. P table × Q table) tables
all_both P Q [] p q = tt
all_both P Q (first ∷ tables) p q = ((p.0, q.0), all_both P Q tables p.1 q.1)

-- a step
stepped : {X Y : Type 0} (f : X → Y) (o : Option X) (y : Y) → option_map f o ≡ Some y → (x : X) × (o ≡ Some x) × (f x ≡ y)
stepped f None y e = absurd (none-some y e)
stepped f (Some x) y e = (x, refl, same_Some (f x) y e)

unstepped : {X Y : Type 0} (f : X → Y) (o : Option X) → option_map f o ≡ None → o ≡ None
unstepped f None e = refl
unstepped f (Some x) e = absurd (none-some (f x) (sym e))

candidate_inside : (threshold : ℤ) (rows : ℕ) (circuit : Circuit) (table : Table) → is_candidate threshold rows circuit table ≡ true → is_root circuit table.output ≡ false
unfolding is_candidate
candidate_inside threshold rows circuit table h =
    not-true (is_root circuit table.output)
    (and_parts (not (is_root circuit table.output)) (not (int_lt threshold (value_of circuit.tables table.output)) && all_take rows circuit table) h).0

pub step_reduced : (threshold : ℤ) (rows : ℕ) (circuit new : Circuit) → IsSound circuit → eliminate_step threshold rows circuit ≡ Some new → IsReduced circuit new
unfolding eliminate_step
step_reduced threshold rows circuit new sound e =
    let (inner, found, is) =
    stepped (with_eliminated circuit) (least (λ (table : Table). value_of circuit.tables table.output) (filter (is_candidate threshold rows circuit) circuit.tables)) new e in
    let both =
    least_all (λ table. (driver circuit.tables table.output ≡ Some table) × (is_candidate threshold rows circuit table ≡ true)) (λ (table : Table). value_of circuit.tables table.output)
    (filter (is_candidate threshold rows circuit) circuit.tables)
    (filter_all (λ table. driver circuit.tables table.output ≡ Some table) (is_candidate threshold rows circuit) circuit.tables (own_drivers circuit.tables (tables_differ circuit sound))) inner found in
    subst (IsReduced circuit) is (eliminated_reduced circuit inner sound both.0 (candidate_inside threshold rows circuit inner both.1))

-- if no step applies
pub step_finished : (threshold : ℤ) (rows : ℕ) (circuit : Circuit) → eliminate_step threshold rows circuit ≡ None → IsEliminated threshold rows circuit
unfolding eliminate_step is_candidate
step_finished threshold rows circuit e =
    all_weaker (λ table. is_candidate threshold rows circuit table ≡ false)
    (λ (table : Table). is_root circuit table.output ≡ false → (int_lt threshold (value_of circuit.tables table.output) ≡ true) ⊎ (all_take rows circuit table ≡ false))
    (λ table none inside. cases (is_root circuit table.output) inside (int_lt threshold (value_of circuit.tables table.output)) refl (all_take rows circuit table) refl none)
    circuit.tables
    (filter_none (is_candidate threshold rows circuit) circuit.tables
    (least_none (λ (table : Table). value_of circuit.tables table.output) (filter (is_candidate threshold rows circuit) circuit.tables)
    (unstepped (with_eliminated circuit) (least (λ (table : Table). value_of circuit.tables table.output) (filter (is_candidate threshold rows circuit) circuit.tables)) e)))
  where
    cases : (r : Bool) → r ≡ false → {x y : Bool} → (b : Bool) → x ≡ b → (t : Bool) → y ≡ t → (not r && (not b && t)) ≡ false → (x ≡ true) ⊎ (y ≡ false)
    cases r inside true over t fits none = inl over
    cases r inside false over false fits none = inr fits
    cases true inside false over true fits none = absurd (false≢true (sym inside))
    cases false inside false over true fits none = absurd (false≢true (sym none))

-- chains of steps
pub chain_keeps : (threshold : ℤ) (rows : ℕ) (circuit new : Circuit) → IsSound circuit → Chain (eliminate_step threshold rows) circuit new → IsReduced circuit new
chain_keeps threshold rows circuit new sound chain = chain_reduced (eliminate_step threshold rows) (step_reduced threshold rows) circuit new sound chain

pub chain_refines : (threshold : ℤ) (rows : ℕ) (circuit new : Circuit) → IsSound circuit → Chain (eliminate_step threshold rows) circuit new → Refines circuit new
chain_refines threshold rows circuit new sound chain = changed_refines circuit new sound (chain_keeps threshold rows circuit new sound chain).change

pub chain_finished : (threshold : ℤ) (rows : ℕ) (circuit new : Circuit) → Chain (eliminate_step threshold rows) circuit new → IsEliminated threshold rows new
chain_finished threshold rows circuit new chain = step_finished threshold rows new chain.done
