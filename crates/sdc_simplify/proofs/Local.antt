-- Where the equations of all tables hold, what a table reads is no local don't-care of it.
use Rattle.std.proofs.Common.{◌≡◌, ℕ, Bool, true, false, not, ◌&&◌, ◌||◌, cond, Option, Some, None, List, [], ◌∷◌, map, unwrap_or, bytes_eq, refl, sym, ap, ◌∙◌}
use Rattle.std.specs.List.{list_any, list_all}
use Rattle.std.specs.Option.{option_map_or}
use Rattle.std.proofs.lemmas.Bool.{false≢true, and_parts, or_from}
use Rattle.sis_base.specs.Rows.{agrees}
use Rattle.circuit_model.specs.Names.{has}
use Rattle.circuit_model.specs.Runs.{bit_of}
use Rattle.circuit_model.specs.Values.{driver, table_value}
use Rattle.circuit_model.specs.declared.circuit.Table.{Table}
use Rattle.circuit_model.specs.declared.circuit.Circuit.{Circuit}
use Rattle.circuit_laws.specs.Valuations.{Obeys}
use Rattle.circuit_laws.proofs.Names.{same_name, has_head, has_tail}
use Rattle.sdc_simplify.specs.Local.{input_bit, reads_within, differs, is_local}

-- where bits are the values of names, that of a name among them is its own value
bit_given : (names : List (List ℕ)) (value : List ℕ → Bool) (name : List ℕ) → has names name ≡ true → bit_of names (map value names) name ≡ Some (value name)
unfolding bit_of
bit_given [] value name h = absurd (false≢true h)
bit_given (first ∷ names) value name h = cases (bytes_eq name first) refl h (bit_given names value name)
  where
    cases : (b : Bool) → bytes_eq name first ≡ b → (b || has names name) ≡ true → (has names name ≡ true → bit_of names (map value names) name ≡ Some (value name))
        → cond b (Some (value first)) (bit_of names (map value names) name) ≡ Some (value name)
    cases true same k more = ap (λ (n : List ℕ). Some (value n)) (sym (same_name name first same))
    cases false other k more = more k

pub input_given : (table : Table) (value : List ℕ → Bool) (name : List ℕ) → has table.inputs name ≡ true → input_bit table (map value table.inputs) name ≡ value name
input_given table value name h = ap (λ (bit : Option Bool). unwrap_or bit false) (bit_given table.inputs value name h)

inputs_given : (table : Table) (value : List ℕ → Bool) (names : List (List ℕ)) → list_all (has table.inputs) names ≡ true → map (input_bit table (map value table.inputs)) names ≡ map value names
inputs_given table value [] h = refl
inputs_given table value (name ∷ names) h =
    let parts = and_parts (has table.inputs name) (list_all (has table.inputs) names) h in
    rw (input_given table value name parts.0, inputs_given table value names parts.1) refl

agrees_itself : (bit : Bool) → agrees (Some bit) bit ≡ true
agrees_itself true = refl
agrees_itself false = refl

-- an input whose table's equation holds has the bit that this table gives
differs_nowhere : (table inner : Table) (value : List ℕ → Bool) (input : List ℕ) → has table.inputs input ≡ true → value input ≡ table_value inner (map value inner.inputs)
    → differs table (map value table.inputs) input inner ≡ false
differs_nowhere table inner value input reads is = cases (reads_within inner table) refl
  where
    given : List Bool
    given = map value table.inputs

    cases : (b : Bool) → reads_within inner table ≡ b → (b && not (agrees (Some (input_bit table given input)) (table_value inner (map (input_bit table given) inner.inputs)))) ≡ false
    cases false e = refl
    cases true e =
        let here : input_bit table given input ≡ table_value inner (map value inner.inputs) = input_given table value input reads ∙ is in
        let there : map (input_bit table given) inner.inputs ≡ map value inner.inputs = inputs_given table value inner.inputs e in
        rw (here, there, agrees_itself (table_value inner (map value inner.inputs))) refl

none_of : (test : List ℕ → Bool) (names : List (List ℕ)) → ((name : List ℕ) → has names name ≡ true → test name ≡ false) → list_any test names ≡ false
none_of test [] h = refl
none_of test (name ∷ names) h = or_from (test name) (list_any test names) (h name (has_head name names)) (none_of test names (λ other among. h other (has_tail name names other among)))

pub local_nowhere : (circuit : Circuit) (table : Table) (value : List ℕ → Bool) → Obeys circuit.tables value → is_local circuit table (map value table.inputs) ≡ false
unfolding is_local
local_nowhere circuit table value obeys =
    none_of (λ input. option_map_or (differs table (map value table.inputs) input) (driver circuit.tables input) false) table.inputs (λ input reads. cases input reads (driver circuit.tables input) refl)
  where
    cases : (input : List ℕ) → has table.inputs input ≡ true → (found : Option Table) → driver circuit.tables input ≡ found
        → option_map_or (differs table (map value table.inputs) input) found false ≡ false
    cases input reads None at = refl
    cases input reads (Some inner) at = differs_nowhere table inner value input reads (obeys input inner at)
