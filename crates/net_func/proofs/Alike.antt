-- Tests that two tables of one signal are the same.
use Rattle.std.proofs.Common.{◌≡◌, Bool, true, false, not, List, refl}
use Rattle.std.specs.Bool.{beq}
use Rattle.std.specs.Cmp.Lexicographic.{pointwise}
use Rattle.std.specs.Prelude.{Decides, bytes_eq}
use Rattle.std.proofs.lemmas.Slice.Eq.{slice_eq-Decides, bytes_eq-Decides}
use Rattle.circuit_model.specs.contracts.circuit.TriPartialEq as tri
use Rattle.circuit_model.specs.declared.circuit.Tri.{Tri}
use Rattle.circuit_model.specs.declared.circuit.Tri.TheVariants.{Zero, One, Free}
use Rattle.circuit_model.specs.declared.circuit.Table.{Table}

tri_decides : (a b : Tri) → Decides (tri.TheImpl.ghosts.eq a b) (a ≡ b)
tri_decides Zero Zero = (λ _. refl, λ _. refl)
tri_decides Zero One = (λ e. cc, λ e. cc)
tri_decides Zero Free = (λ e. cc, λ e. cc)
tri_decides One Zero = (λ e. cc, λ e. cc)
tri_decides One One = (λ _. refl, λ _. refl)
tri_decides One Free = (λ e. cc, λ e. cc)
tri_decides Free Zero = (λ e. cc, λ e. cc)
tri_decides Free One = (λ e. cc, λ e. cc)
tri_decides Free Free = (λ _. refl, λ _. refl)

same_bit : (a b : Bool) → not (beq a b) ≡ false → a ≡ b
same_bit true true e = refl
same_bit true false e = cc
same_bit false true e = cc
same_bit false false e = refl

pub same_tables : (one other : Table) → one.output ≡ other.output
    → not (beq one.phase other.phase) ≡ false
    → pointwise bytes_eq one.inputs other.inputs ≡ true
    → pointwise (λ x y. pointwise tri.TheImpl.ghosts.eq x y) one.rows other.rows ≡ true
    → one ≡ other
same_tables one other output phase inputs rows =
    let names : one.inputs ≡ other.inputs =
    (slice_eq-Decides bytes_eq-Decides one.inputs other.inputs
    (pointwise bytes_eq one.inputs other.inputs) refl).0 inputs in
    let lines : one.rows ≡ other.rows =
    (slice_eq-Decides (λ (x y : List Tri). slice_eq-Decides tri_decides x y
    (pointwise tri.TheImpl.ghosts.eq x y) refl) one.rows other.rows
    (pointwise (λ x y. pointwise tri.TheImpl.ghosts.eq x y) one.rows other.rows) refl).0 rows in
    let bits : one.phase ≡ other.phase = same_bit one.phase other.phase phase in
    λ i. record { inputs = names i; output = output i; rows = lines i; phase = bits i }
