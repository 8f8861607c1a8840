-- Collapse keeps a network within its bounds.
use Rattle.std.proofs.Common.{◌≡◌, ℕ, Option, Some, None, List, [], ◌∷◌, map, filter, fold, length, refl, sym, ap, ◌∙◌, subst, arith}
use Rattle.std.specs.List.{AllByRecursion}
use Rattle.std.specs.Option.{option_map, option_map_or, option_or}
use Rattle.std.proofs.lemmas.List.{length-map}
use Rattle.std.proofs.lemmas.Option.{none-some}
use Rattle.circuit_model.specs.Values.{driver}
use Rattle.circuit_model.specs.Soundness.{IsSound}
use Rattle.circuit_model.specs.declared.circuit.Table.{Table}
use Rattle.circuit_model.specs.declared.circuit.Circuit.{Circuit}
use Rattle.net_core.specs.Reads.{IsBounded, HasBounds}
use Rattle.circuit_order.specs.Order.{order_of}
use Rattle.alg_tables.specs.Taking.{composed_into, take_refusal}
use Rattle.alg_tables.specs.declared.taking.ComposeFault.{ComposeFault}
use Rattle.net_work.specs.Along.{refusal_along}
use Rattle.net_work.proofs.Along.{or_none, kept_along}
use Rattle.net_elim.specs.Eliminating.{with_taken}
use Rattle.net_elim.specs.Collapsing.{with_put, is_outer, refusal_among, put_refusal, collapse_refusal, collapsed}
use Rattle.net_elim.proofs.Small.{taken_bounded, kept_bounded}
use Rattle.net_elim.proofs.Gathered.{collapse_reduced}
use Rattle.net_elim.proofs.Leaving.{kept_tables}
use Rattle.sis_base.specs.declared.limits.TheConstants.{MAX_ROWS}

abbrev named_fault : List ℕ → ComposeFault → List ℕ × ComposeFault
named_fault name fault = (name, fault)

map_none : {A B : Type 0} (f : A → B) (found : Option A) → option_map f found ≡ None → found ≡ None
map_none f None h = refl
map_none f (Some x) h = absurd (none-some (f x) (sym h))

all_taken : (inner : Table) (tables : List Table) → refusal_among inner tables ≡ None → AllByRecursion IsBounded tables → AllByRecursion IsBounded (map (composed_into inner) tables)
unfolding refusal_among
all_taken inner [] none all = tt
all_taken inner (outer ∷ tables) none all =
    let (first, rest) = or_none (option_map (λ (fault : ComposeFault). named_fault outer.output fault) (take_refusal MAX_ROWS MAX_ROWS inner outer)) (refusal_among inner tables) none in
    (taken_bounded MAX_ROWS inner outer (omega arith) (map_none (λ (fault : ComposeFault). named_fault outer.output fault) (take_refusal MAX_ROWS MAX_ROWS inner outer) first) all.0, all_taken inner tables rest all.1)

all_put : (circuit : Circuit) (name : List ℕ) → put_refusal circuit name ≡ None → AllByRecursion IsBounded circuit.tables
    → AllByRecursion IsBounded (with_put circuit name).tables × (length (with_put circuit name).tables ≡ length circuit.tables)
unfolding with_put
all_put circuit name none all = cases (driver circuit.tables name) none
  where
    cases : (o : Option Table) → option_map_or (λ (inner : Table). refusal_among inner circuit.tables) o None ≡ None
        → AllByRecursion IsBounded (option_map_or (with_taken circuit) o circuit).tables × (length (option_map_or (with_taken circuit) o circuit).tables ≡ length circuit.tables)
    cases None h = (all, refl)
    cases (Some inner) h = (all_taken inner circuit.tables h all, length-map circuit.tables (composed_into inner))

-- the tables of a circuit are within bounds, and as many as given
abbrev AreSoMany : ℕ → Circuit → Type 0
AreSoMany count circuit = AllByRecursion IsBounded circuit.tables × (length circuit.tables ≡ count)

all_along : (names : List (List ℕ)) (circuit : Circuit) → refusal_along with_put put_refusal circuit names ≡ None → AllByRecursion IsBounded circuit.tables
    → AreSoMany (length circuit.tables) (fold with_put circuit names)
all_along names circuit none all =
    kept_along (AreSoMany (length circuit.tables)) with_put put_refusal
    (λ now name are first. let (bounded, long) = all_put now name first are.0 in (bounded, long ∙ are.1)) names circuit (all, refl) none

-- the collapsed circuit
collapsed_tables : (c : Circuit) → (collapsed c).tables ≡ filter (λ (table : Table). is_outer c table.output) (fold with_put c (order_of c.tables)).tables
unfolding collapsed
collapsed_tables c = kept_tables (fold with_put c (order_of c.tables)) (is_outer c)

pub collapsed_bounded : (circuit : Circuit) → IsSound circuit → collapse_refusal circuit ≡ None → HasBounds circuit → HasBounds (collapsed circuit)
collapsed_bounded circuit sound none bounds =
    let (all, long) = all_along (order_of circuit.tables) circuit none bounds.tables in
    kept_bounded circuit (collapsed circuit) (λ (table : Table). is_outer circuit table.output) (fold with_put circuit (order_of circuit.tables)).tables (collapsed_tables circuit)
    (ap (λ (c : Circuit). length c.latches) (collapse_reduced circuit sound).change.rest) all long bounds

pub bounds_kept : (network circuit made : Circuit) → IsSound network → circuit ≡ network → made ≡ collapsed circuit → collapse_refusal circuit ≡ None → HasBounds network → HasBounds made
bounds_kept network circuit made sound same is none bounds =
    subst HasBounds (sym (is ∙ ap collapsed same)) (collapsed_bounded network sound (ap collapse_refusal (sym same) ∙ none) bounds)
