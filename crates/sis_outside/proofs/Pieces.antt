-- A piece that is taken off the front of what is left.
use Rattle.std.proofs.Common.{◌≡◌, ◌+◌, ◌-◌, ◌≤◌, ◌↔◌, ℕ, min, List, [], ◌++◌, length, drop, ap, sym, ◌∙◌, arith, length-take, length-drop}
use Rattle.std.specs.List.{slice_range}
use Rattle.std.proofs.Math.ListN.{drop_of_length-le}
use Rattle.std.proofs.lemmas.List.Folds.{drop_split}

pub length_of_piece : (bytes piece : List ℕ) (taken count : ℕ) → piece ≡ slice_range bytes taken (taken + count) →
    length piece ≡ min (taken + count - taken) (length bytes - taken)
length_of_piece bytes piece taken count is = ap length is ∙ simp (length-take, length-drop)

-- the piece and what is left after it are what was left; the piece is empty where nothing was left
pub takes_front : (bytes piece : List ℕ) (taken count : ℕ) → piece ≡ slice_range bytes taken (taken + count) →
    taken + count ≤ length bytes → (count ≡ 0 → length bytes ≤ taken) →
    (drop taken bytes ≡ piece ++ drop (taken + count) bytes) × (piece ≡ [] ↔ drop taken bytes ≡ [])
takes_front bytes piece taken count is within ends =
    let size = length_of_piece bytes piece taken count is in (
      drop_split bytes taken (taken + count) (omega arith) ∙ ap (λ (front : List ℕ). front ++ drop (taken + count) bytes) (sym is),
      (
        λ none.
            let short : length piece ≡ 0 = ap length none in
            drop_of_length-le bytes (ends (omega (arith, size, short))),
        λ none.
            let short : length (drop taken bytes) ≡ 0 = ap length none in
            drop_of_length-le piece {i = 0} (omega (arith, size, short, length-drop taken bytes)),
      ),
    )
