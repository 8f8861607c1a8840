-- Steps lead to a single end: the best candidate is unique, and if no candidate saves, there is no
-- room, or the candidates cannot be listed, there is no step.
use Rattle.std.proofs.Common.{◌≡◌, ℕ, ◌<◌, ◌≤◌, List, Ordering, Less, Equal, Greater, refl, sym, ap, ap₂, ◌∙◌, subst, arith}
use Rattle.std.specs.Ordering.{ordering_reverse}
use Rattle.circuit_model.specs.Counts.{literals_of}
use Rattle.circuit_model.specs.declared.circuit.Table.{Table}
use Rattle.circuit_model.specs.declared.circuit.Circuit.{Circuit}
use Rattle.circuit_laws.proofs.Greedy.{ends_one, stops_one, stops_apart, end_no_stop, best_one as best_choice_one, none_best, first_one, first_not_all}
use Rattle.net_candidates.specs.Extracting.{extracted, literals_after, IsOpen, IsBest, IsNext, IsStep, IsDone, IsExtracted, IsOver, IsFull, IsFirstMany, IsUnlistable, HasManyCandidates, IsListable}
use Rattle.net_candidates.specs.declared.rule.Rule.{Rule}
use Rattle.cover_names.specs.Literals.{NamedCover, cover_cmp}
use Rattle.cover_names.proofs.Orders.{IsOrder, cover_order}
use Rattle.net_core.specs.Fresh.{node_count}
use Rattle.net_core.proofs.NewNames.{new_name_one}
use Rattle.sis_base.specs.declared.limits.TheConstants.{MAX_NODES}

-- two items of which neither is less than the other are the same
neither_below : {X : Type 0} {cmp : X → X → Ordering} → IsOrder cmp → (x y : X) → (cmp x y ≡ Less → ⊥) → (cmp y x ≡ Less → ⊥) → x ≡ y
neither_below {cmp = cmp} order x y h k = cases (cmp x y) refl
  where
    cases : (o : Ordering) → cmp x y ≡ o → x ≡ y
    cases Less e = absurd (h e)
    cases Equal e = order.same x y e
    cases Greater e = absurd (k (order.total.antisymm y x ∙ ap ordering_reverse e))

-- the best candidate is unique
pub best_one : (rule : Rule) (circuit : Circuit) (name : List ℕ) (cover other : NamedCover) → IsBest rule circuit name cover → IsBest rule circuit name other → cover ≡ other
best_one rule circuit name =
    best_choice_one (IsOpen rule circuit name) (λ other one. cover_cmp other one ≡ Less) (literals_after circuit name) (literals_of circuit) (λ x y may might. neither_below cover_order x y)

-- a step has one outcome
step_one : (rule : Rule) (circuit new other : Circuit) → IsStep rule circuit new → IsStep rule circuit other → new ≡ other
step_one rule circuit new other step second =
    let same = new_name_one circuit step.name second.name step.next.free second.next.free in
    let one = best_one rule circuit step.name step.cover second.cover step.next.best (subst (λ (name : List ℕ). IsBest rule circuit name second.cover) (sym same) second.next.best) in
    step.made ∙ ap₂ (extracted circuit) same one ∙ sym second.made

-- if no candidate saves none is next
done_no_next : (rule : Rule) (circuit : Circuit) → IsDone rule circuit → (name : List ℕ) (cover : NamedCover) → IsNext rule circuit name cover → ⊥
done_no_next rule circuit done name cover next =
    none_best (IsOpen rule circuit name) (λ other one. cover_cmp other one ≡ Less) (literals_after circuit name) (literals_of circuit) (done.none name next.free) cover next.best

done_no_step : (rule : Rule) (circuit : Circuit) → IsDone rule circuit → (new : Circuit) → IsStep rule circuit new → ⊥
done_no_step rule circuit done new step = done_no_next rule circuit done step.name step.cover step.next

-- if there is no room, or a table has too many kernels, there is no step
over_no_step : (rule : Rule) (circuit : Circuit) → IsOver rule circuit → (new : Circuit) → IsStep rule circuit new → ⊥
over_no_step rule circuit over new step = no_room (node_count circuit) MAX_NODES step.room over.over
  where
    no_room : (m n : ℕ) → m < n → n ≤ m → ⊥
    no_room m n h k = absurd (omega (arith, h, k))

many_apart : (rule : Rule) (table : Table) → HasManyCandidates rule table → IsListable rule table → ⊥
many_apart rule table many listable = listable many

many_no_step : (rule : Rule) (name : List ℕ) (circuit : Circuit) → IsFirstMany rule circuit.tables name → (new : Circuit) → IsStep rule circuit new → ⊥
many_no_step rule name circuit many new step = first_not_all (IsListable rule) (HasManyCandidates rule) (many_apart rule) circuit.tables many.table many.first step.next.listable

pub extracted_one : (rule : Rule) (circuit new other : Circuit) → IsExtracted rule circuit new → IsExtracted rule circuit other → new ≡ other
extracted_one rule = ends_one (IsStep rule) (step_one rule) (IsDone rule) (done_no_step rule)

pub extracted_not_full : (rule : Rule) (circuit new : Circuit) → IsExtracted rule circuit new → IsFull rule circuit → ⊥
extracted_not_full rule =
    end_no_stop (IsStep rule) (step_one rule) (IsDone rule) (IsOver rule) (done_no_step rule) (over_no_step rule) (λ last done over. done_no_next rule last done over.name over.cover over.next)

pub extracted_not_unlistable : (rule : Rule) (circuit new : Circuit) (name : List ℕ) → IsExtracted rule circuit new → IsUnlistable rule circuit name → ⊥
extracted_not_unlistable rule circuit new name =
    end_no_stop (IsStep rule) (step_one rule) (IsDone rule) (λ last. IsFirstMany rule last.tables name) (done_no_step rule) (many_no_step rule name)
    (λ last done many. first_not_all (IsListable rule) (HasManyCandidates rule) (many_apart rule) last.tables many.table many.first done.listable) circuit new

pub full_not_unlistable : (rule : Rule) (circuit : Circuit) (name : List ℕ) → IsFull rule circuit → IsUnlistable rule circuit name → ⊥
full_not_unlistable rule circuit name =
    stops_apart (IsStep rule) (step_one rule) (IsOver rule) (λ last. IsFirstMany rule last.tables name) (over_no_step rule) (many_no_step rule name)
    (λ last over many. first_not_all (IsListable rule) (HasManyCandidates rule) (many_apart rule) last.tables many.table many.first over.next.listable) circuit

-- the first table with too many kernels is unique
many_one : (rule : Rule) (tables : List Table) (name other : List ℕ) → IsFirstMany rule tables name → IsFirstMany rule tables other → name ≡ other
many_one rule tables name other one second =
    sym one.named ∙ ap (λ (t : Table). t.output) (first_one (IsListable rule) (HasManyCandidates rule) (many_apart rule) tables one.table second.table one.first second.first) ∙ second.named

pub unlistable_one : (rule : Rule) (circuit : Circuit) (name other : List ℕ) → IsUnlistable rule circuit name → IsUnlistable rule circuit other → name ≡ other
unlistable_one rule circuit name other one second =
    let same = stops_one (IsStep rule) (step_one rule) (λ last. IsFirstMany rule last.tables name) (λ last. IsFirstMany rule last.tables other) (many_no_step rule name) (many_no_step rule other) circuit one second in
    many_one rule second.last.tables name other (subst (λ (last : Circuit). IsFirstMany rule last.tables name) same one.stops) second.stops
