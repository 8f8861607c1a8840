-- Steps lead to a single end: what is next is unique, and so is its decomposition; if all tables
-- are done, or there is no room, there is no step.
use Rattle.std.proofs.Common.{◌≡◌, ℕ, Bool, Option, List, [], ◌∷◌, length, sym, ap₂, ◌∙◌, subst, arith}
use Rattle.std.proofs.lemmas.Bool.{false≢true}
use Rattle.circuit_model.specs.declared.circuit.Table.{Table}
use Rattle.circuit_model.specs.declared.circuit.Circuit.{Circuit}
use Rattle.circuit_laws.specs.Edits.{with_added, with_replaced}
use Rattle.circuit_laws.specs.Greedy.{IsFirstFailing}
use Rattle.circuit_laws.proofs.Greedy.{ends_one, end_no_stop, first_one, first_not_all}
use Rattle.alg_factor.proofs.Laws.{chosen-one}
use Rattle.net_core.proofs.NewNames.{new_name_one}
use Rattle.net_decomp.specs.Partings.{Parting, rows_of, part_table, parted_table, ArePartsAdded, IsParted, IsOverfull}
use Rattle.net_decomp.specs.Rules.{literal_parting, IsDone, IsDecomposable}
use Rattle.net_decomp.specs.Decomposed.{IsNext, IsStep, AllDone, IsDecomposed, IsOver, IsFull}
use Rattle.net_decomp.specs.declared.rule.Rule.{Rule}
use Rattle.net_decomp.specs.declared.rule.Rule.TheVariants.{Shared, Gates}

-- a table that is to be decomposed is not done, and is decomposed in one way
due_apart : (rule : Rule) (table : Table) (parting : Parting) → IsDecomposable rule table parting → IsDone rule table → ⊥
due_apart Shared table parting (place, bit, chosen, is) done = absurd (omega (arith, chosen.two, done place bit))
due_apart (Gates products sums) table parting (wrong, is) done = false≢true (sym wrong ∙ done)

due_one : (rule : Rule) (table : Table) (parting other : Parting) → IsDecomposable rule table parting → IsDecomposable rule table other → parting ≡ other
due_one Shared table parting other (place, bit, chosen, is) (second, turned, picked, same) =
    let one = chosen-one (rows_of table) place second bit turned chosen picked in
    is ∙ (ap₂ (λ (i : ℕ) (b : Bool). literal_parting (length table.inputs) i b (rows_of table)) one.0 one.1 ∙ sym same)
due_one (Gates products sums) table parting other (wrong, is) (false_too, same) = is ∙ sym same

-- a table that is to be decomposed in some way
abbrev IsDecomposableSome : Rule → Table → Type 0
IsDecomposableSome rule table = (parting : Parting) × IsDecomposable rule table parting

module _ (rule : Rule) (circuit : Circuit) where
  next_some : (table : Table) (parting : Parting) → IsNext rule circuit table parting → IsFirstFailing (IsDone rule) (IsDecomposableSome rule) circuit.tables table
  next_some table parting next = record { before = next.before; after = next.after; is = next.is; pass = next.pass; fails = (parting, next.fails) }

  next_table_one : (table other : Table) (parting second : Parting) → IsNext rule circuit table parting → IsNext rule circuit other second → table ≡ other
  next_table_one table other parting second next following =
      first_one (IsDone rule) (IsDecomposableSome rule) (λ t due done. due_apart rule t due.0 due.1 done) circuit.tables table other (next_some table parting next) (next_some other second following)

  next_parting_one : (table other : Table) (parting second : Parting) → IsNext rule circuit table parting → IsNext rule circuit other second → parting ≡ second
  next_parting_one table other parting second next following =
      due_one rule table parting second next.fails (subst (λ (t : Table). IsDecomposable rule t second) (sym (next_table_one table other parting second next following)) following.fails)

-- parts are added in one way
parts_one : (table : Table) (parts : List (List (List (Option Bool)))) (circuit : Circuit) (names others : List (List ℕ)) (new second : Circuit)
    → ArePartsAdded table parts circuit names new → ArePartsAdded table parts circuit others second → (names ≡ others) × (new ≡ second)
parts_one table [] circuit names others new second added again = (added.0 ∙ sym again.0, added.1 ∙ sym again.1)
parts_one table (part ∷ parts) circuit [] others new second added again = absurd added
parts_one table (part ∷ parts) circuit (name ∷ names) [] new second added again = absurd again
parts_one table (part ∷ parts) circuit (name ∷ names) (other ∷ others) new second added again =
    let same : name ≡ other = new_name_one circuit name other added.0 again.0 in
    let rest = parts_one table parts (with_added circuit (part_table table part name)) names others new second added.1
    (subst (λ (x : List ℕ). ArePartsAdded table parts (with_added circuit (part_table table part x)) others second) (sym same) again.1) in
    (ap₂ (λ (first : List ℕ) (list : List (List ℕ)). first ∷ list) same rest.0, rest.1)

parted_one : (circuit : Circuit) (table : Table) (parting : Parting) (new other : Circuit) → IsParted circuit table parting new → IsParted circuit table parting other → new ≡ other
parted_one circuit table parting new other parted second =
    let same = parts_one table parting.parts circuit parted.names second.names parted.between second.between parted.added second.added in
    parted.made
    ∙ (ap₂ (λ (between : Circuit) (names : List (List ℕ)). with_replaced between (parted_table table names parting.rows)) same.1 same.0 ∙ sym second.made)

-- a step has one outcome
step_one : (rule : Rule) (circuit new other : Circuit) → IsStep rule circuit new → IsStep rule circuit other → new ≡ other
step_one rule circuit new other step second =
    parted_one circuit step.table step.parting new other step.parted
    (subst (λ (parting : Parting). IsParted circuit step.table parting other) (sym (next_parting_one rule circuit step.table second.table step.parting second.parting step.next second.next))
    (subst (λ (table : Table). IsParted circuit table second.parting other) (sym (next_table_one rule circuit step.table second.table step.parting second.parting step.next second.next)) second.parted))

-- if all tables are done none is next; if there is no room for the next one there is no step
done_no_next : (rule : Rule) (circuit : Circuit) → AllDone rule circuit → (table : Table) (parting : Parting) → IsNext rule circuit table parting → ⊥
done_no_next rule circuit done table parting next = first_not_all (IsDone rule) (λ t. IsDecomposable rule t parting) (λ t. due_apart rule t parting) circuit.tables table next done

done_no_step : (rule : Rule) (circuit : Circuit) → AllDone rule circuit → (new : Circuit) → IsStep rule circuit new → ⊥
done_no_step rule circuit done new step = done_no_next rule circuit done step.table step.parting step.next

over_no_step : (rule : Rule) (circuit : Circuit) → IsOver rule circuit → (new : Circuit) → IsStep rule circuit new → ⊥
over_no_step rule circuit full new step =
    step.parted.room (subst (λ (p : Parting). IsOverfull circuit p) (next_parting_one rule circuit full.table step.table full.parting step.parting full.next step.next) full.over)

pub decomposed_one : (rule : Rule) (circuit new other : Circuit) → IsDecomposed rule circuit new → IsDecomposed rule circuit other → new ≡ other
decomposed_one rule = ends_one (IsStep rule) (step_one rule) (AllDone rule) (done_no_step rule)

pub decomposed_not_full : (rule : Rule) (circuit new : Circuit) → IsDecomposed rule circuit new → IsFull rule circuit → ⊥
decomposed_not_full rule =
    end_no_stop (IsStep rule) (step_one rule) (AllDone rule) (IsOver rule) (done_no_step rule) (over_no_step rule) (λ last done over. done_no_next rule last done over.table over.parting over.next)
