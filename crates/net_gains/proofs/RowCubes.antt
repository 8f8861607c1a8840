-- Cubes of rows, and cubes of quotients: what is in a quotient, and how many literals a row has.
use Rattle.std.proofs.Common.{◌≡◌, ℕ, ◌+◌, ◌*◌, ◌-◌, ◌≤◌, Bool, true, Option, List, [], ◌∷◌, length, ◌∙◌, arith}
use Rattle.std.specs.List.{sum_by}
use Rattle.std.proofs.lemmas.List.Sums.{sum_by-cons}
use Rattle.std.proofs.Math.Nat.{suc-mul}
use Rattle.circuit_model.specs.Names.{has, all_different}
use Rattle.cube_cover.specs.Literals.{row_literals}
use Rattle.alg_div.specs.Cubes.{Has}
use Rattle.alg_div.specs.Quotient.{IsTerm, IsQuotient}
use Rattle.net_candidates.proofs.Divisors.{row_over_literals}
use Rattle.net_candidates.proofs.Local.{cube_of}
use Rattle.net_candidates.proofs.Products.{literals_in_all}
use Rattle.net_candidates.proofs.Usable.{IsAmong}
use Rattle.cover_names.specs.Literals.{Cube}
use Rattle.cover_names.specs.Cubes.{cube_over, row_over}
use Rattle.cover_names.specs.declared.literal.Literal.{Literal}
use Rattle.cover_names.proofs.Names.{over_different, over_is_over, sorted_different}
use Rattle.cover_names.proofs.Orders.{literal_order}
use Rattle.cover_names.proofs.Worth.{all_sorted}

-- the names of a row's cube are different, and among the names
pub cube_among : (names : List (List ℕ)) (row : List (Option Bool)) → all_different names ≡ true → IsAmong names (cube_of names row)
cube_among names row once = record {
  apart = sorted_different (cube_over names row) (over_different names row once);
  over = all_sorted literal_order (λ (literal : Literal). has names literal.name) (cube_over names row) ∙ over_is_over names row;
}

-- and the row of such a cube has as many literals
pub among_literals : (names : List (List ℕ)) (cube : Cube) → all_different names ≡ true → IsAmong names cube → row_literals (row_over names cube) ≡ length cube
among_literals names cube once among = row_over_literals names cube once among.apart among.over

-- if a divisor has a row, each term is in the quotient
pub quotient_every : (width : ℕ) (f d q : List (List (Option Bool))) → IsQuotient width f d q → (k : List (Option Bool)) → Has k d → (cube : List (Option Bool)) → IsTerm width f d cube → Has cube q
quotient_every width f [] q is k m cube term = absurd m
quotient_every width f (first ∷ d) q is k m cube term = is.every cube term

-- the sum over rows of their literals and a number, less one
pub sum_more : (more : ℕ) (rows : List (List (Option Bool))) → 1 ≤ more
    → sum_by (λ row. row_literals row + more - 1) rows + length rows ≡ literals_in_all rows + length rows * more
sum_more more [] some = let z : 0 ≡ 0 + 0 * more = omega arith in z
sum_more more (row ∷ rows) some =
    let rest : sum_by (λ x. row_literals x + more - 1) rows + length rows ≡ literals_in_all rows + length rows * more = sum_more more rows some in
    omega (arith, rest, some, sum_by-cons (λ (x : List (Option Bool)). row_literals x + more - 1) row rows, sum_by-cons row_literals row rows, suc-mul (length rows) more)
