-- Written constants.
use Rattle.std.proofs.Common.{◌≡◌, ℕ, suc, Bool, true, false, eqb, if◌then◌else◌, Option, Some, None, List, [], ◌∷◌, length, refl, sym, ap, ◌∙◌, arith}
use Rattle.std.proofs.lemmas.Bool.Decides.{nat_tests}
use Rattle.circuit_model.specs.declared.circuit.Tri.{Tri}
use Rattle.circuit_model.specs.declared.circuit.Table.{Table}
use Rattle.net_wires.specs.Points.{bit_by, written_bit}
use Rattle.net_wires.specs.Written.{is_one_row}

pub nil_of : {X : Type 0} (xs : List X) → eqb (length xs) 0 ≡ true → xs ≡ []
nil_of [] e = refl
nil_of (x ∷ xs) e = let z : suc (length xs) ≡ 0 = grind (arith, nat_tests) in absurd (omega (arith, z))

-- written constants
pub not_written_inputs : (table : Table) → eqb (length table.inputs) 0 ≡ false → written_bit table ≡ None
unfolding written_bit
not_written_inputs table h = by_inputs table.inputs h
  where
    by_inputs : (inputs : List (List ℕ)) → eqb (length inputs) 0 ≡ false → bit_by inputs table.phase table.rows ≡ None
    by_inputs [] h = let z : true ≡ false = h in absurd cc
    by_inputs (input ∷ inputs) h = refl

pub not_written_phase : (table : Table) → eqb (length table.inputs) 0 ≡ true → table.phase ≡ false → written_bit table ≡ None
unfolding written_bit
not_written_phase table h p = rw (nil_of table.inputs h, p) refl

abbrev bit_of_rows : List (List Tri) → Option Bool
bit_of_rows [] = Some false
bit_of_rows (row ∷ rows) = if is_one_row (row ∷ rows) then Some true else None

written_rows : (table : Table) → eqb (length table.inputs) 0 ≡ true → table.phase ≡ true → written_bit table ≡ bit_of_rows table.rows
unfolding written_bit
written_rows table h p = rw (nil_of table.inputs h, p) (by_rows table.rows)
  where
    by_rows : (rows : List (List Tri)) → bit_by [] true rows ≡ bit_of_rows rows
    by_rows [] = refl
    by_rows ([] ∷ []) = refl
    by_rows ((c ∷ row) ∷ []) = refl
    by_rows ([] ∷ other ∷ rows) = refl
    by_rows ((c ∷ row) ∷ other ∷ rows) = refl

pub written_no_row : (table : Table) → eqb (length table.inputs) 0 ≡ true → table.phase ≡ true → eqb (length table.rows) 0 ≡ true → written_bit table ≡ Some false
written_no_row table h p n = written_rows table h p ∙ ap bit_of_rows (nil_of table.rows n)

pub written_by_row : (table : Table) (rows : List (List Tri)) (bit : Bool) → eqb (length table.inputs) 0 ≡ true → table.phase ≡ true → eqb (length table.rows) 0 ≡ false → rows ≡ table.rows
    → is_one_row rows ≡ bit → written_bit table ≡ (if bit then Some true else None)
written_by_row table rows bit h p n same one = written_rows table h p ∙ (by_rows table.rows n ∙ ap (λ (b : Bool). if b then Some true else None) (ap is_one_row (sym same) ∙ one))
  where
    by_rows : (rows : List (List Tri)) → eqb (length rows) 0 ≡ false → bit_of_rows rows ≡ (if is_one_row rows then Some true else None)
    by_rows [] n = let z : true ≡ false = n in absurd cc
    by_rows (row ∷ rows) n = refl
