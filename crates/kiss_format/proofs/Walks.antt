-- The walks over characters and rows, one step on and at their ends.
use Rattle.std.proofs.Common.{◌≡◌, ℕ, ◌+◌, ◌<◌, ◌≤◌, true, ◌&&◌, Some, None, List, [], ◌∷◌, ◌++◌, length, take, drop, get_or, refl, sym, ◌∙◌, ap, arith, if◌then◌else◌}
use Rattle.std.specs.Option.{option_map, option_or}
use Rattle.std.proofs.lemmas.List.{drop_more, drop_all, take_more, length-take-le}
use Rattle.circuit_model.specs.declared.circuit.Tri.{Tri}
use Rattle.circuit_model.specs.declared.circuit.Tri.TheVariants.{Zero}
use Rattle.circuit_model.specs.declared.machine.MachineRow.{MachineRow}
use Rattle.circuit_model.specs.Clashes.{may_agree, agree_all, clash, clash_with, clash_behind}

pub agree-more : (row other : List Tri) (i : ℕ) → i < length row → i < length other
    → agree_all (drop i row) (drop i other) ≡ (may_agree (get_or row i Zero) (get_or other i Zero) && agree_all (drop (i + 1) row) (drop (i + 1) other))
unfolding agree_all
agree-more row other i h k = rw (drop_more row i Zero h, drop_more other i Zero k) refl

pub agree-done : (row other : List Tri) (i : ℕ) → length row ≤ i → agree_all (drop i row) (drop i other) ≡ true
unfolding agree_all
agree-done row other i h = rw (drop_all i row h) refl

pub agree-short : (row other : List Tri) (i : ℕ) → length other ≤ i → agree_all (drop i row) (drop i other) ≡ true
unfolding agree_all
agree-short row other i h = rw (drop_all i other h) (by (drop i row))
  where
    by : (rest : List Tri) → agree_all rest [] ≡ true
    by [] = refl
    by (first ∷ rest) = refl

pub with-more : (front : List MachineRow) (row earlier : MachineRow) (i : ℕ) → i < length front → earlier ≡ get_or front i earlier
    → clash_with i (drop i front) row ≡ (if clash earlier row then Some i else clash_with (i + 1) (drop (i + 1) front) row)
unfolding clash_with
with-more front row earlier i h is = rw (drop_more front i earlier h, sym is) refl

pub with-done : (front : List MachineRow) (row : MachineRow) (i : ℕ) → length front ≤ i → clash_with i (drop i front) row ≡ None
unfolding clash_with
with-done front row i h = rw (drop_all i front h) refl

pub behind-more : (rows : List MachineRow) (row : MachineRow) (i : ℕ) → i < length rows → row ≡ get_or rows i row
    → clash_behind (take i rows) (drop i rows) ≡ option_or (option_map (λ earlier. record { earlier = earlier; later = i }) (clash_with 0 (take i rows) row)) (clash_behind (take (i + 1) rows) (drop (i + 1) rows))
unfolding clash_behind
behind-more rows row i h is =
    let long : length (take i rows) ≡ i = length-take-le i rows (omega arith) in
    let next : take (i + 1) rows ≡ take i rows ++ row ∷ [] = take_more rows i row h ∙ ap (λ one. take i rows ++ one ∷ []) (sym is) in
    rw (drop_more rows i row h, sym is, next, long) refl

pub behind-done : (rows : List MachineRow) (i : ℕ) → length rows ≤ i → clash_behind (take i rows) (drop i rows) ≡ None
unfolding clash_behind
behind-done rows i h = rw (drop_all i rows h) refl

pub behind-on : (rows : List MachineRow) (row : MachineRow) (i : ℕ) → i < length rows → row ≡ get_or rows i row → clash_with 0 (take i rows) row ≡ None
    → clash_behind (take i rows) (drop i rows) ≡ clash_behind (take (i + 1) rows) (drop (i + 1) rows)
behind-on rows row i h is e = rw (behind-more rows row i h is, e) refl

pub behind-hit : (rows : List MachineRow) (row : MachineRow) (i earlier : ℕ) → i < length rows → row ≡ get_or rows i row → clash_with 0 (take i rows) row ≡ Some earlier
    → clash_behind (take i rows) (drop i rows) ≡ Some (record { earlier = earlier; later = i })
behind-hit rows row i earlier h is e = rw (behind-more rows row i h is, e) refl
