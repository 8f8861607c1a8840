-- Constants, and tables of one input.
use Rattle.std.proofs.Common.{◌≡◌, ℕ, zero, suc, Bool, true, false, not, ◌&&◌, if◌then◌else◌, Some, None, List, [], ◌∷◌, length, map, refl, sym, ap, ◌∙◌, arith}
use Rattle.std.proofs.lemmas.Bool.{and_parts, not-true}
use Rattle.std.proofs.lemmas.List.{length-map}
use Rattle.std.proofs.lemmas.Option.{none-some, same_Some}
use Rattle.sis_base.specs.Rows.{value_by_phase, some_matches, matches}
use Rattle.circuit_model.specs.Values.{table_value, driven_value}
use Rattle.circuit_model.specs.declared.circuit.Tri.{Tri}
use Rattle.circuit_model.specs.declared.circuit.Table.{Table}
use Rattle.circuit_laws.specs.Edits.{constant_table}
use Rattle.circuit_laws.specs.Fixed.{IsConstant}
use Rattle.circuit_laws.proofs.Fixed.{constant_value}
use Rattle.net_wires.specs.Points.{every_point, constant_bit, bit_by, written_bit}
use Rattle.net_wires.specs.Rules.{only_input, is_inverter}

-- a test that holds at every point holds at each point of the width
pub point_at : (width : ℕ) (test : List Bool → Bool) → every_point width test ≡ true → (point : List Bool) → length point ≡ width → test point ≡ true
unfolding every_point
point_at zero test h [] e = h
point_at zero test h (bit ∷ point) e = absurd (omega arith)
point_at (suc width) test h [] e = absurd (omega arith)
point_at (suc width) test h (false ∷ point) e =
    point_at width (λ rest. test (false ∷ rest)) (and_parts (every_point width (λ rest. test (false ∷ rest))) (every_point width (λ rest. test (true ∷ rest))) h).0 point (omega arith)
point_at (suc width) test h (true ∷ point) e =
    point_at width (λ rest. test (true ∷ rest)) (and_parts (every_point width (λ rest. test (false ∷ rest))) (every_point width (λ rest. test (true ∷ rest))) h).1 point (omega arith)

-- a constant table has its bit at each point
pub constant_at : (table : Table) (bit : Bool) → constant_bit table ≡ Some bit → (point : List Bool) → length point ≡ length table.inputs → table_value table point ≡ bit
unfolding constant_bit
constant_at table bit h point e =
    cases (every_point (length table.inputs) (λ some. table_value table some)) refl (every_point (length table.inputs) (λ some. not (table_value table some))) refl h
  where
    cases : (t : Bool) → every_point (length table.inputs) (λ some. table_value table some) ≡ t → (u : Bool) → every_point (length table.inputs) (λ some. not (table_value table some)) ≡ u
        → (if t then Some true else (if u then Some false else None)) ≡ Some bit → table_value table point ≡ bit
    cases true one u none h = point_at (length table.inputs) (λ some. table_value table some) one point e ∙ same_Some true bit h
    cases false one true none h = not-true (table_value table point) (point_at (length table.inputs) (λ some. not (table_value table some)) none point e) ∙ same_Some false bit h
    cases false one false none h = absurd (none-some bit h)

-- a table that is written as a constant is the constant table
pub written_is : (table : Table) (bit : Bool) → written_bit table ≡ Some bit → table ≡ constant_table table.output bit
unfolding written_bit
written_is table bit h = by table.inputs table.phase table.rows h
  where
    by : (inputs : List (List ℕ)) (phase : Bool) (rows : List (List Tri)) → bit_by inputs phase rows ≡ Some bit
        → record table { inputs = inputs; phase = phase; rows = rows } ≡ constant_table table.output bit
    by [] true [] e = ap (constant_table table.output) (same_Some false bit e)
    by [] true ([] ∷ []) e = ap (constant_table table.output) (same_Some true bit e)
    by [] true ([] ∷ (row ∷ rows)) e = absurd (none-some bit e)
    by [] true ((place ∷ row) ∷ rows) e = absurd (none-some bit e)
    by [] false rows e = absurd (none-some bit e)
    by (input ∷ inputs) phase rows e = absurd (none-some bit e)

pub constant_written : (name : List ℕ) (bit : Bool) → written_bit (constant_table name bit) ≡ Some bit
unfolding written_bit
constant_written name true = refl
constant_written name false = refl

pub constant_constant : (name : List ℕ) (bit : Bool) → constant_bit (constant_table name bit) ≡ Some bit
unfolding constant_bit every_point table_value value_by_phase some_matches matches
constant_constant name true = refl
constant_constant name false = refl

pub written_constant : (table : Table) (bit : Bool) → written_bit table ≡ Some bit → IsConstant table bit
written_constant table bit h value =
    ap (λ (made : Table). driven_value (Some made) value) (written_is table bit h) ∙ constant_value table.output bit

pub written_bit_constant : (table : Table) (bit : Bool) → written_bit table ≡ Some bit → constant_bit table ≡ Some bit
written_bit_constant table bit h = ap constant_bit (written_is table bit h) ∙ constant_constant table.output bit

-- a table that is constant as a function replaced by a constant table
pub constant_turned : (table : Table) (bit : Bool) → constant_bit table ≡ Some bit → (value : List ℕ → Bool)
    → driven_value (Some (constant_table table.output bit)) value ≡ driven_value (Some table) value
constant_turned table bit h value = constant_value table.output bit ∙ sym (constant_at table bit h (map value table.inputs) (length-map table.inputs value))

pub only_is : (inputs : List (List ℕ)) (input : List ℕ) → only_input inputs ≡ Some input → inputs ≡ input ∷ []
only_is [] input h = absurd (none-some input h)
only_is (first ∷ []) input h = ap (λ (name : List ℕ). name ∷ []) (same_Some first input h)
only_is (first ∷ (second ∷ inputs)) input h = absurd (none-some input h)

-- a table of one input that is no constant is that input or its inverse
pub single_value : (table : Table) (input : List ℕ) → table.inputs ≡ input ∷ [] → constant_bit table ≡ None → (value : List ℕ → Bool)
    → driven_value (Some table) value ≡ (if is_inverter table then not (value input) else value input)
unfolding constant_bit every_point
single_value table input one varies value =
    ap (λ (names : List (List ℕ)). table_value table (map value names)) one
    ∙ by (table_value table (false ∷ [])) refl (table_value table (true ∷ [])) refl (value input)
    (sym (ap (λ (width : ℕ). if every_point width (λ point. table_value table point) then Some true else (if every_point width (λ point. not (table_value table point)) then Some false else None)) (ap length one)) ∙ varies)
  where
    by : (f : Bool) → table_value table (false ∷ []) ≡ f → (g : Bool) → table_value table (true ∷ []) ≡ g → (v : Bool)
        → (if (table_value table (false ∷ []) && table_value table (true ∷ [])) then Some true else (if (not (table_value table (false ∷ [])) && not (table_value table (true ∷ []))) then Some false else None)) ≡ None
        → table_value table (v ∷ []) ≡ (if not (table_value table (true ∷ [])) then not v else v)
    by true d true e v h = absurd (none-some true (sym (rw (d, e) at h)))
    by false d false e v h = absurd (none-some false (sym (rw (d, e) at h)))
    by true d false e true h = rw e refl
    by true d false e false h = rw (e, d) refl
    by false d true e true h = rw e refl
    by false d true e false h = rw (e, d) refl
