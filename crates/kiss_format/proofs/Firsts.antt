-- The first current state of some rows, one row on and at the end.
use Rattle.std.proofs.Common.{◌≡◌, ℕ, ◌+◌, ◌<◌, ◌≤◌, Option, Some, None, List, ◌∷◌, length, drop, get_or, refl, sym, ◌∙◌, ap}
use Rattle.std.specs.List.{filter_map}
use Rattle.std.specs.Option.{option_or}
use Rattle.std.proofs.lemmas.List.{drop_more, drop_all}
use Rattle.circuit_model.specs.declared.machine.MachineRow.{MachineRow}
use Rattle.kiss_format.specs.Lines.{first_item}

abbrev pub currents : List MachineRow → List ℕ
currents rows = filter_map (λ (row : MachineRow). row.current) rows

pub one-first : (row : MachineRow) (current : Option ℕ) (rows : List MachineRow) → row.current ≡ current → first_item (currents (row ∷ rows)) ≡ option_or current (first_item (currents rows))
one-first row None rows e = rw e refl
one-first row (Some state) rows e = rw e refl

pub first_more : (rows : List MachineRow) (row : MachineRow) (i : ℕ) → i < length rows → row ≡ get_or rows i row
    → first_item (currents (drop i rows)) ≡ option_or row.current (first_item (currents (drop (i + 1) rows)))
first_more rows row i h is =
    ap (λ rest. first_item (currents rest)) (drop_more rows i row h ∙ ap (λ one. one ∷ drop (i + 1) rows) (sym is))
    ∙ one-first row row.current (drop (i + 1) rows) refl

pub first_done : (rows : List MachineRow) (i : ℕ) → length rows ≤ i → first_item (currents (drop i rows)) ≡ None
first_done rows i h = ap (λ rest. first_item (currents rest)) (drop_all i rows h)

pub first_hit : (rows : List MachineRow) (row : MachineRow) (i state : ℕ) → i < length rows → row ≡ get_or rows i row → row.current ≡ Some state → first_item (currents (drop i rows)) ≡ Some state
first_hit rows row i state h is e = first_more rows row i h is ∙ ap (λ o. option_or o (first_item (currents (drop (i + 1) rows)))) e

pub first_on : (rows : List MachineRow) (row : MachineRow) (i : ℕ) → i < length rows → row ≡ get_or rows i row → row.current ≡ None → first_item (currents (drop i rows)) ≡ first_item (currents (drop (i + 1) rows))
first_on rows row i h is e = first_more rows row i h is ∙ ap (λ o. option_or o (first_item (currents (drop (i + 1) rows)))) e
