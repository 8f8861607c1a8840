-- The tables that are put into their readers, from the order of all tables.
use Rattle.std.proofs.Common.{◌≡◌, ℕ, zero, suc, ◌+◌, ◌<◌, ◌≤◌, Bool, true, false, if◌then◌else◌, Option, Some, None, IfSome, List, [], ◌∷◌, ◌++◌, map, length, take, drop, get_or, slice_get, bytes_eq, refl, sym, ap, ◌∙◌, subst, inl, inr, arith}
use Rattle.std.specs.List.{AllByRecursion}
use Rattle.std.specs.Option.{option_map_or}
use Rattle.std.proofs.lemmas.Bool.{false≢true, or_cases}
use Rattle.std.proofs.lemmas.Option.{same_Some, none-some}
use Rattle.std.proofs.lemmas.List.{take_more, drop_more, take-append-drop}
use Rattle.circuit_model.specs.Names.{has, all_different}
use Rattle.circuit_model.specs.Values.{driver}
use Rattle.circuit_model.specs.Soundness.{outputs_of, IsShaped}
use Rattle.circuit_model.specs.declared.circuit.Table.{Table}
use Rattle.circuit_model.specs.declared.circuit.Circuit.{Circuit}
use Rattle.circuit_laws.proofs.Names.{same_name, has_append}
use Rattle.circuit_laws.proofs.Drivers.{driver_name, driver_all}
use Rattle.circuit_laws.proofs.Places.{placed_driver}
use Rattle.circuit_order.specs.Order.{IsOrdered}
use Rattle.circuit_order.specs.Places.{IsIndex}
use Rattle.subject_tree.specs.Trees.{Tree}
use Rattle.subject_tree.specs.Forest.{fate_of, is_put_fate, is_put, put_driver, AreTrees}
use Rattle.subject_tree.specs.Reading.{AllTaken, AreRead, IsGrown, IsReady}
use Rattle.subject_tree.specs.declared.judging.Role.{Role}
use Rattle.subject_tree.specs.declared.arena.Vertex.{Vertex}
use Rattle.subject_tree.proofs.Growing.{put_table}
use Rattle.subject_tree.proofs.Planting.{inputs-read}

pub mapped_get : {X Y : Type 0} (f : X → Y) (xs : List X) (i : ℕ) (x : X) → slice_get xs i ≡ Some x → slice_get (map f xs) i ≡ Some (f x)
mapped_get f [] i x at = absurd (none-some x at)
mapped_get {X} {Y} f (y ∷ xs) zero x at = ap (λ (z : X). Some (f z)) (same_Some y x at)
mapped_get f (y ∷ xs) (suc i) x at = mapped_get f xs i x at

-- where the table of a signal stands
driver_place : (tables : List Table) (signal : List ℕ) (table : Table) → driver tables signal ≡ Some table → (i : ℕ) × (slice_get tables i ≡ Some table)
unfolding driver
driver_place [] signal table e = absurd (none-some table e)
driver_place (first ∷ tables) signal table e = cases (bytes_eq signal first.output) e (λ at. driver_place tables signal table at)
  where
    cases : (b : Bool) → (if b then Some first else driver tables signal) ≡ Some table → (driver tables signal ≡ Some table → (i : ℕ) × (slice_get tables i ≡ Some table)) → (i : ℕ) × (slice_get (first ∷ tables) i ≡ Some table)
    cases true e rest = (0, e)
    cases false e rest = let (i, at) = rest e in (suc i, at)

-- a table that a place is found for is put where its fate says so
pub put-here : (circuit : Circuit) (fates : List Role) (place : List ℕ → Option ℕ) (signal : List ℕ) (i : ℕ) → all_different (outputs_of circuit.tables) ≡ true → fates ≡ map (fate_of circuit) circuit.tables → IsIndex circuit.tables place → place signal ≡ Some i
    → put_driver circuit signal ≡ (if option_map_or is_put_fate (slice_get fates i) false then slice_get circuit.tables i else None)
unfolding put_driver is_put
put-here circuit fates place signal i different is index at =
    let (table, there, name) = index.only signal i at in
    let drives : driver circuit.tables signal ≡ Some table = ap (driver circuit.tables) (sym name) ∙ placed_driver circuit.tables i table different there in
    let fate : option_map_or is_put_fate (slice_get fates i) false ≡ is_put_fate (fate_of circuit table) =
    ap (λ (fs : List Role). option_map_or is_put_fate (slice_get fs i) false) is ∙ ap (λ (o : Option Role). option_map_or is_put_fate o false) (mapped_get (fate_of circuit) circuit.tables i table there) in
    ap (λ (o : Option Table). if option_map_or (λ (t : Table). is_put_fate (fate_of circuit t)) o false then o else None) drives
    ∙ (ap (λ (b : Bool). if b then Some table else None) (sym fate) ∙ ap (λ (o : Option Table). if option_map_or is_put_fate (slice_get fates i) false then o else None) (sym there))

-- a signal without a place has no table
pub put-nowhere : (circuit : Circuit) (place : List ℕ → Option ℕ) (signal : List ℕ) → IsIndex circuit.tables place → place signal ≡ None → put_driver circuit signal ≡ None
unfolding put_driver
put-nowhere circuit place signal index none = cases (driver circuit.tables signal) refl
  where
    both : (b : Bool) → ◌≡◌ {A = Option Table} (if b then None else None) None
    both true = refl
    both false = refl

    cases : (found : Option Table) → driver circuit.tables signal ≡ found → (if is_put circuit signal then found else None) ≡ None
    cases None e = both (is_put circuit signal)
    cases (Some table) e =
        let (i, there) = driver_place circuit.tables signal table e in
        absurd (none-some i (sym none ∙ (ap place (sym (driver_name circuit.tables signal table e)) ∙ index.placed i table there)))

pub put_found : (circuit : Circuit) (signal : List ℕ) (table : Table) → put_driver circuit signal ≡ Some table → (is_put circuit signal ≡ true) × (driver circuit.tables signal ≡ Some table)
unfolding put_driver
put_found circuit signal table e = cases (is_put circuit signal) refl e
  where
    cases : (b : Bool) → is_put circuit signal ≡ b → (if b then driver circuit.tables signal else None) ≡ Some table → (is_put circuit signal ≡ true) × (driver circuit.tables signal ≡ Some table)
    cases true is e = (is, e)
    cases false is e = absurd (none-some table e)

-- what the table of the next name reads is listed
pub next_ready : (tables : List Table) (names : List (List ℕ)) (k : ℕ) (name : List ℕ) → IsOrdered tables names → k < length names → name ≡ get_or names k name → IsReady tables (take k names) name
next_ready tables names k name ordered lt is table input at among driven =
    ordered.behind (take k names) (drop (k + 1) names) name input table
    (sym (take-append-drop k names) ∙ ap (λ (rest : List (List ℕ)). take k names ++ rest) (drop_more names k name lt ∙ ap (λ (first : List ℕ). first ∷ drop (k + 1) names) (sym is))) at among driven

pub next_listed : (names : List (List ℕ)) (k : ℕ) (name : List ℕ) → k < length names → name ≡ get_or names k name → take k names ++ name ∷ [] ≡ take (k + 1) names
next_listed names k name lt is = ap (λ (n : List ℕ). take k names ++ n ∷ []) is ∙ sym (take_more names k name lt)

-- a name whose table is put into no reader
pub grown-past : (circuit : Circuit) (vs : List Vertex) (leaves : List (List ℕ)) (numbers : List ℕ → Option ℕ) (tree : List ℕ → Tree (List ℕ)) (listed : List (List ℕ)) (name : List ℕ) → put_driver circuit name ≡ None
    → IsGrown circuit vs leaves numbers tree listed → IsGrown circuit vs leaves numbers tree (listed ++ name ∷ [])
unfolding put_driver
grown-past circuit vs leaves numbers tree listed name none grown = record {
  trees = grown.trees;
  each = λ signal among put nothing.
      elim (or_cases (has listed signal) (has (name ∷ []) signal) (sym (has_append listed (name ∷ []) signal) ∙ among)) as (λ _. ⊥) [
        | inl before ↦ grown.each signal before put nothing
        | inr last ↦ elim (or_cases (bytes_eq signal name) false last) as (λ _. ⊥) [
          | inl here ↦
              let (table, at, full) = put_table circuit signal put in
              let same : signal ≡ name = same_name signal name here in
              none-some table (sym none ∙ (ap (λ (n : List ℕ). if is_put circuit n then driver circuit.tables n else None) (sym same) ∙ (ap (λ (b : Bool). if b then driver circuit.tables signal else None) put ∙ at)))
          | inr no-one ↦ false≢true no-one
        ]
      ];
}

-- all signals read as their trees once all tables are listed
pub all-read : (circuit : Circuit) (vs : List Vertex) (leaves : List (List ℕ)) (numbers : List ℕ → Option ℕ) (names : List (List ℕ)) (tree : List ℕ → Tree (List ℕ)) → IsOrdered circuit.tables names → AreTrees circuit tree → IsGrown circuit vs leaves numbers tree names
    → (signals : List (List ℕ)) → AreRead vs leaves numbers tree signals
all-read circuit vs leaves numbers names tree ordered trees grown signals =
    inputs-read circuit vs leaves numbers tree names signals trees grown (λ input among driven. ordered.each input ∙ driven)

-- all signals are read before any number is noted
pub taken-nothing : (vs : List Vertex) (numbers : List ℕ → Option ℕ) → ((signal : List ℕ) → numbers signal ≡ None) → AllTaken vs numbers
taken-nothing vs numbers none signal = subst (λ (o : Option ℕ). IfSome o (λ n. n < length vs)) (sym (none signal)) tt

pub grown-nothing : (circuit : Circuit) (vs : List Vertex) (leaves : List (List ℕ)) (numbers : List ℕ → Option ℕ) (tree : List ℕ → Tree (List ℕ)) → ((signal : List ℕ) → numbers signal ≡ None) → IsGrown circuit vs leaves numbers tree []
grown-nothing circuit vs leaves numbers tree none = record {
  trees = λ signal n e. absurd (none-some n (sym (none signal) ∙ e));
  each = λ signal among put nothing. false≢true among;
}

-- the table of a name that is put into its reader is shaped
pub found-shaped : (circuit : Circuit) (name : List ℕ) (found : Option Table) → found ≡ put_driver circuit name → AllByRecursion IsShaped circuit.tables → IfSome found IsShaped
found-shaped circuit name None e shaped = tt
found-shaped circuit name (Some table) e shaped =
    driver_all IsShaped circuit.tables shaped name table (put_found circuit name table (sym e)).1

-- a name whose table was put in
pub grown-name : (circuit : Circuit) (old new : List Vertex) (leaves more : List (List ℕ)) (before after : List ℕ → Option ℕ) (tree : List ℕ → Tree (List ℕ)) (listed : List (List ℕ)) (name : List ℕ) (table : Table)
    → put_driver circuit name ≡ Some table → IsReady circuit.tables listed name → AreTrees circuit tree → IsGrown circuit old leaves before tree listed
    → (AreTrees circuit tree → is_put circuit table.output ≡ true → driver circuit.tables table.output ≡ Some table → IsReady circuit.tables listed table.output → IsGrown circuit old leaves before tree listed → IsGrown circuit new more after tree (listed ++ table.output ∷ []))
    → IsGrown circuit new more after tree (listed ++ name ∷ [])
grown-name circuit old new leaves more before after tree listed name table e ready trees grown step =
    let (put, at) = put_found circuit name table e in
    let same : table.output ≡ name = driver_name circuit.tables name table at in
    subst (λ (n : List ℕ). IsGrown circuit new more after tree (listed ++ n ∷ [])) same
    (step trees (ap (is_put circuit) same ∙ put) (ap (driver circuit.tables) same ∙ at) (subst (IsReady circuit.tables listed) (sym same) ready) grown)

pub listed_all : (names : List (List ℕ)) (k : ℕ) → length names ≤ k → take k names ≡ names
listed_all [] zero le = refl
listed_all [] (suc k) le = refl
listed_all (n ∷ names) zero le = absurd (omega (arith, le))
listed_all (n ∷ names) (suc k) le = ap (λ (ns : List (List ℕ)). n ∷ ns) (listed_all names k (omega (arith, le)))
