-- What is printed of a table is one text: its factored form is unique, and two lists of all its
-- kernels in rising order are equal.
use Rattle.std.proofs.Common.{◌≡◌, ℕ, List, [], ◌∷◌, ◌++◌, flat_map, refl, sym, ap, ◌∙◌, subst, inl, inr, Ordering, Less, Equal}
use Rattle.std.specs.Cmp.{IsTotalOrder}
use Rattle.std.specs.Prelude.{Bool, Option, length}
use Rattle.std.proofs.lemmas.Cmp.{tied_itself}
use Rattle.circuit_model.specs.declared.circuit.Table.{Table}
use Rattle.alg_div.specs.Cubes.{Has}
use Rattle.alg_factor.proofs.Laws.{factored-one}
use Rattle.alg_kernel.specs.Kernels.{Ascends, AreKernels, rows_cmp}
use Rattle.alg_kernel.proofs.Orders.{rows_total}
use Rattle.net_decomp.specs.Partings.{rows_of}
use Rattle.sis_session.specs.Told.{form_line, IsFactorLine, AreFactorLines, kernel_line, AreKernelLines}

not_below : {X : Type 0} (cmp : X → X → Ordering) (total : IsTotalOrder cmp) (x : X) → cmp x x ≡ Less → ⊥
not_below cmp total x h =
    let same : cmp x x ≡ Equal = tied_itself total x in
    cc

same_heads : {X : Type 0} (cmp : X → X → Ordering) (total : IsTotalOrder cmp) (x y : X) (xs ys : List X) → Ascends cmp (x ∷ xs) → Ascends cmp (y ∷ ys)
    → Has x (y ∷ ys) → Has y (x ∷ xs) → x ≡ y
unfolding Ascends
same_heads cmp total x y xs ys h k (inl e) other = e
same_heads cmp total x y xs ys h k (inr there) (inl e) = sym e
same_heads cmp total x y xs ys h k (inr there) (inr here) = absurd (not_below cmp total x (total.trans x y x (h.0 y here) (k.0 x there)))

tail_has : {X : Type 0} (cmp : X → X → Ordering) (total : IsTotalOrder cmp) (x y z : X) (xs ys : List X) → x ≡ y → Ascends cmp (x ∷ xs) → Has z xs
    → Has z (y ∷ ys) → Has z ys
unfolding Ascends
tail_has cmp total x y z xs ys same h there (inl e) = absurd (not_below cmp total x (subst (λ w. cmp x w ≡ Less) (e ∙ sym same) (h.0 z there)))
tail_has cmp total x y z xs ys same h there (inr found) = found

-- two rising lists of the same elements are one
ascending_once : {X : Type 0} (cmp : X → X → Ordering) (total : IsTotalOrder cmp) (xs ys : List X) → Ascends cmp xs → Ascends cmp ys
    → ((z : X) → Has z xs → Has z ys) → ((z : X) → Has z ys → Has z xs) → xs ≡ ys
unfolding Ascends
ascending_once cmp total [] [] h k to from = refl
ascending_once cmp total [] (y ∷ ys) h k to from = absurd (from y (inl refl))
ascending_once cmp total (x ∷ xs) [] h k to from = absurd (to x (inl refl))
ascending_once {X} cmp total (x ∷ xs) (y ∷ ys) h k to from =
    let same : x ≡ y = same_heads cmp total x y xs ys h k (to x (inl refl)) (from y (inl refl)) in
    let tails : xs ≡ ys = ascending_once cmp total xs ys h.1 k.1
    (λ z there. tail_has cmp total x y z xs ys same h there (to z (inr there)))
    (λ z there. tail_has cmp total y x z ys xs (sym same) k there (from z (inr there))) in
    ap (λ (w : X). w ∷ xs) same ∙ ap (λ (ws : List X). y ∷ ws) tails

pub factor_line_once : (table : Table) (line other : List ℕ) → IsFactorLine table line → IsFactorLine table other → line ≡ other
factor_line_once table line other (form, is, told) (form', is', told') =
    told ∙ ap (form_line table) (factored-one (rows_of table) form form' is is') ∙ sym told'

pub factor_lines_once : (tables : List Table) (text other : List ℕ) → AreFactorLines tables text → AreFactorLines tables other → text ≡ other
unfolding AreFactorLines
factor_lines_once [] text other h k = h ∙ sym k
factor_lines_once (table ∷ tables) text other (line, rest, is, are, told) (line', rest', is', are', told') =
    told ∙ ap (λ (l : List ℕ). l ++ rest) (factor_line_once table line line' is is')
    ∙ ap (λ (r : List ℕ). line' ++ r) (factor_lines_once tables rest rest' are are') ∙ sym told'

kernels_once : (width : ℕ) (rows : List (List (Option Bool))) (ks js : List (List (List (Option Bool)))) → AreKernels width rows ks → AreKernels width rows js → ks ≡ js
kernels_once width rows ks js h k =
    ascending_once rows_cmp rows_total ks js h.order k.order (λ z there. k.every z (h.only z there)) (λ z there. h.every z (k.only z there))

pub kernel_lines_once : (table : Table) (text other : List ℕ) → AreKernelLines table text → AreKernelLines table other → text ≡ other
kernel_lines_once table text other (ks, are, told) (js, are', told') =
    told ∙ ap (flat_map (kernel_line table.inputs)) (kernels_once (length table.inputs) (rows_of table) ks js are are') ∙ sym told'
