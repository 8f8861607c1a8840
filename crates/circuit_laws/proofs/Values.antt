-- The value of a signal without depth: it is the one valuation that agrees with the tables.
use Rattle.std.proofs.Common.{◌≡◌, ℕ, zero, suc, ◌<◌, ◌≤◌, Bool, false, Option, Some, None, List, [], ◌∷◌, map, length, unwrap_or, refl, sym, ap, ◌∙◌, arith}
use Rattle.std.specs.List.{AllByRecursion}
use Rattle.circuit_model.specs.Values.{Leaves, driver, driven_value, table_value, value_to, signal_value}
use Rattle.circuit_model.specs.Soundness.{IsAcyclic}
use Rattle.circuit_model.specs.declared.circuit.Table.{Table}
use Rattle.circuit_laws.specs.Ranks.{HasRank}
use Rattle.circuit_laws.specs.Valuations.{due, IsValued, Obeys}
use Rattle.circuit_laws.proofs.Names.{all_has, all_from_has}
use Rattle.circuit_laws.proofs.Ranks.{above, height, height_small, height_is, height_falls, acyclic_rank}

-- values that agree at each name give one list
pub map_same : (f g : List ℕ → Bool) (names : List (List ℕ)) → AllByRecursion (λ name. f name ≡ g name) names → map f names ≡ map g names
map_same f g [] h = refl
map_same f g (name ∷ names) h = rw (h.0, map_same f g names h.1) refl

pub value_same : (table : Table) (f g : List ℕ → Bool) → AllByRecursion (λ name. f name ≡ g name) table.inputs → driven_value (Some table) f ≡ driven_value (Some table) g
value_same table f g h = ap (table_value table) (map_same f g table.inputs h)

-- the value does not depend on the depth from the signal's height on
stays : (tables : List Table) (leaves : Leaves) → IsAcyclic tables → (n k : ℕ) (signal : List ℕ) → height tables signal ≤ n → height tables signal ≤ k
    → value_to tables leaves n signal ≡ value_to tables leaves k signal
unfolding value_to
stays tables leaves acyclic zero zero signal low under = refl
stays tables leaves acyclic zero (suc k) signal low under = cases (driver tables signal) (height_is tables acyclic signal)
  where
    cases : (found : Option Table) → height tables signal ≡ above found (height tables)
        → unwrap_or (leaves signal) false ≡ unwrap_or (leaves signal) (driven_value found (value_to tables leaves k))
    cases None is = refl
    cases (Some table) is = absurd (omega arith)
stays tables leaves acyclic (suc n) zero signal low under = cases (driver tables signal) (height_is tables acyclic signal)
  where
    cases : (found : Option Table) → height tables signal ≡ above found (height tables)
        → unwrap_or (leaves signal) (driven_value found (value_to tables leaves n)) ≡ unwrap_or (leaves signal) false
    cases None is = refl
    cases (Some table) is = absurd (omega arith)
stays tables leaves acyclic (suc n) (suc k) signal low under = cases (driver tables signal) refl (stays tables leaves acyclic n k)
  where
    cases : (found : Option Table) → driver tables signal ≡ found
        → ((name : List ℕ) → height tables name ≤ n → height tables name ≤ k → value_to tables leaves n name ≡ value_to tables leaves k name)
        → unwrap_or (leaves signal) (driven_value found (value_to tables leaves n)) ≡ unwrap_or (leaves signal) (driven_value found (value_to tables leaves k))
    cases None at more = refl
    cases (Some table) at more =
        ap (λ (b : Bool). unwrap_or (leaves signal) b)
        (value_same table (value_to tables leaves n) (value_to tables leaves k)
        (all_from_has (λ name. value_to tables leaves n name ≡ value_to tables leaves k name) table.inputs (λ name among.
        let falls : height tables name < height tables signal =
        all_has (λ input. height tables input < height tables signal) table.inputs (height_falls tables acyclic signal table at) name among in
        more name (omega arith) (omega arith))))

pub valued : (tables : List Table) (leaves : Leaves) → IsAcyclic tables → IsValued tables leaves (signal_value tables leaves)
unfolding signal_value value_to
valued tables leaves acyclic signal =
    let small : height tables signal ≤ length tables = height_small tables acyclic signal in
    stays tables leaves acyclic (length tables) (suc (length tables)) signal small (omega arith)

-- two valuations that have what is due on a part of the names which is closed under inputs agree on that part
pub agree : (P : List ℕ → Type 0) (tables : List Table) (leaves : Leaves) → HasRank tables
    → ((signal : List ℕ) (table : Table) → P signal → driver tables signal ≡ Some table → AllByRecursion P table.inputs)
    → (f g : List ℕ → Bool) → ((signal : List ℕ) → P signal → f signal ≡ due tables leaves f signal) → ((signal : List ℕ) → P signal → g signal ≡ due tables leaves g signal)
    → (signal : List ℕ) → P signal → f signal ≡ g signal
agree P tables leaves r closed f g fits meets signal within = below (suc (r.rank signal)) signal (omega arith) within
  where
    below : (n : ℕ) (signal : List ℕ) → r.rank signal < n → P signal → f signal ≡ g signal
    below zero signal low within = absurd (omega arith)
    below (suc n) signal low within = fits signal within ∙ cases (driver tables signal) refl (below n) ∙ sym (meets signal within)
      where
        cases : (found : Option Table) → driver tables signal ≡ found → ((name : List ℕ) → r.rank name < n → P name → f name ≡ g name)
            → unwrap_or (leaves signal) (driven_value found f) ≡ unwrap_or (leaves signal) (driven_value found g)
        cases None at more = refl
        cases (Some table) at more =
            ap (λ (b : Bool). unwrap_or (leaves signal) b)
            (value_same table f g (all_from_has (λ name. f name ≡ g name) table.inputs (λ name among.
            let falls : r.rank name < r.rank signal = all_has (λ input. r.rank input < r.rank signal) table.inputs (r.falls signal table at) name among in
            more name (omega arith) (all_has P table.inputs (closed signal table within at) name among))))

-- what has the due value on a closed part has the signals' values there
pub value_within : (P : List ℕ → Type 0) (tables : List Table) (leaves : Leaves) → IsAcyclic tables
    → ((signal : List ℕ) (table : Table) → P signal → driver tables signal ≡ Some table → AllByRecursion P table.inputs)
    → (value : List ℕ → Bool) → ((signal : List ℕ) → P signal → value signal ≡ due tables leaves value signal)
    → (signal : List ℕ) → P signal → value signal ≡ signal_value tables leaves signal
value_within P tables leaves acyclic closed value fits signal within =
    agree P tables leaves (acyclic_rank tables acyclic) closed value (signal_value tables leaves) fits (λ name inside. valued tables leaves acyclic name) signal within

pub value_only : (tables : List Table) (leaves : Leaves) → IsAcyclic tables → (value : List ℕ → Bool) → IsValued tables leaves value → (signal : List ℕ) → value signal ≡ signal_value tables leaves signal
value_only tables leaves acyclic value fits signal =
    value_within (λ name. Unit {0}) tables leaves acyclic (λ name table within at. all_from_has (λ input. Unit {0}) table.inputs (λ input among. tt)) value (λ name within. fits name) signal tt

-- leaves that no table drives: the values obey the tables
pub obeyed : (tables : List Table) (leaves : Leaves) → IsAcyclic tables → ((signal : List ℕ) (table : Table) → driver tables signal ≡ Some table → leaves signal ≡ None)
    → Obeys tables (signal_value tables leaves)
obeyed tables leaves acyclic free signal table at =
    valued tables leaves acyclic signal ∙ ap (λ (bit : Option Bool). unwrap_or bit (driven_value (driver tables signal) (signal_value tables leaves))) (free signal table at)
    ∙ ap (λ (found : Option Table). driven_value found (signal_value tables leaves)) at
