-- What the textbook says of the minimum of rows.
use Rattle.std.proofs.Common.{◌≡◌, ℕ, Bool, true, false, Option, List, [], ◌∷◌, length, map, refl, sym, ap, ◌∙◌, ◌⊎◌, inl, inr}
use Rattle.std.specs.List.{AllByRecursion}
use Rattle.std.proofs.lemmas.Bool.{or_parts, or_from}
use Rattle.sis_base.specs.Rows.{matches, some_matches, HasWidth, IsPoint}
use Rattle.cube_cover.proofs.Points.{bool_cases}
use Rattle.cover_min.specs.Points.{has_point}
use Rattle.cover_min.specs.Minimum.{Meaning, widened, needed_behind, minimum_rows}
use Rattle.cover_min.specs.Primes.{Agrees, IsPrime, IsIrredundant}
use Rattle.cover_min.proofs.Points.{no_point_at, no_point_of}
use Rattle.cover_min.proofs.Widened.{off-widened_to, prime-widened, HasWidth-widened, matches-widened, all_widened_same}
use Rattle.cover_min.proofs.Needed.{all_needed, HasWidth-needed, on-needed, irredundant-needed, needed_same}

-- no row has a point at which the function must be 0
abbrev pub AreOutside : (List Bool → Bool) → List (List (Option Bool)) → Type 0
AreOutside off rows = AllByRecursion (λ row. has_point off row ≡ false) rows

pub outside_of : (off : List Bool → Bool) (w : ℕ) (rows : List (List (Option Bool))) → HasWidth w rows → ((p : List Bool) → IsPoint w p → off p ≡ true → some_matches rows p ≡ false) → AreOutside off rows
unfolding some_matches HasWidth
outside_of off w [] wide h = tt
outside_of off w (row ∷ rows) wide h = (
  no_point_of off row (λ p d m. free p (d ∙ wide.0) m (bool_cases (off p))),
  outside_of off w rows wide.1 (λ p d o. (or_parts (matches row p) (some_matches rows p) (h p d o)).1),
)
  where
    free : (p : List Bool) → IsPoint w p → matches row p ≡ true → (off p ≡ true) ⊎ (off p ≡ false) → off p ≡ false
    free p d m (inl o) = let clash : true ≡ false = sym m ∙ (or_parts (matches row p) (some_matches rows p) (h p d o)).0 in absurd cc
    free p d m (inr o) = o

pub outside_at : (off : List Bool → Bool) (w : ℕ) (rows : List (List (Option Bool))) (p : List Bool) → HasWidth w rows → AreOutside off rows → IsPoint w p → off p ≡ true → some_matches rows p ≡ false
unfolding some_matches HasWidth
outside_at off w [] p wide h d o = refl
outside_at off w (row ∷ rows) p wide h d o = or_from _ _ (first (bool_cases (matches row p))) (outside_at off w rows p wide.1 h.1 d o)
  where
    first : (matches row p ≡ true) ⊎ (matches row p ≡ false) → matches row p ≡ false
    first (inl m) = let clash : true ≡ false = sym o ∙ no_point_at off row p h.0 (d ∙ sym wide.0) m in absurd cc
    first (inr m) = m

pub outside-widened : (off : List Bool → Bool) (rows : List (List (Option Bool))) → AreOutside off rows → AreOutside off (map (widened off) rows)
outside-widened off [] h = tt
outside-widened off (row ∷ rows) h = (off-widened_to off row (length row) h.0, outside-widened off rows h.1)

pub primes-widened : (m : Meaning) (rows : List (List (Option Bool))) → AreOutside m.off rows → AllByRecursion (IsPrime m) (map (widened m.off) rows)
primes-widened m [] h = tt
primes-widened m (row ∷ rows) h = (prime-widened m row h.0, primes-widened m rows h.1)

pub HasWidth-minimum : (m : Meaning) (rows : List (List (Option Bool))) → HasWidth m.width rows → HasWidth m.width (minimum_rows m rows)
unfolding minimum_rows HasWidth
HasWidth-minimum m rows wide = HasWidth-needed m.on m.width [] (map (widened m.off) rows) tt (HasWidth-widened m.off m.width rows wide)

pub agrees-minimum : (m : Meaning) (rows : List (List (Option Bool))) → HasWidth m.width rows → Agrees m rows → Agrees m (minimum_rows m rows)
unfolding minimum_rows
agrees-minimum m rows wide h =
    let spread : HasWidth m.width (map (widened m.off) rows) = HasWidth-widened m.off m.width rows wide in
    let outside : AreOutside m.off (map (widened m.off) rows) = outside-widened m.off rows (outside_of m.off m.width rows wide h.off) in record {
      on = λ p d o. on-needed m.on m.width [] (map (widened m.off) rows) p spread d o (matches-widened m.off rows p (h.on p d o));
      off = λ p d o. outside_at m.off m.width (needed_behind m.on [] (map (widened m.off) rows)) p (HasWidth-minimum m rows wide)
          (all_needed (λ row. has_point m.off row ≡ false) m.on [] (map (widened m.off) rows) tt outside) d o;
    }

pub prime-minimum : (m : Meaning) (rows : List (List (Option Bool))) → HasWidth m.width rows → Agrees m rows → AllByRecursion (IsPrime m) (minimum_rows m rows)
unfolding minimum_rows
prime-minimum m rows wide h = all_needed (IsPrime m) m.on [] (map (widened m.off) rows) tt (primes-widened m rows (outside_of m.off m.width rows wide h.off))

pub irredundant-minimum : (m : Meaning) (rows : List (List (Option Bool))) → IsIrredundant m (minimum_rows m rows)
unfolding minimum_rows
irredundant-minimum m rows before after row e = irredundant-needed m.on (map (widened m.off) rows) before after row e

pub minimum_same : (m other : Meaning) (rows : List (List (Option Bool))) → HasWidth m.width rows → ((p : List Bool) → IsPoint m.width p → m.on p ≡ other.on p) → ((p : List Bool) → IsPoint m.width p → m.off p ≡ other.off p)
    → minimum_rows m rows ≡ minimum_rows other rows
unfolding minimum_rows
minimum_same m other rows wide on off =
    needed_same m.on other.on m.width [] (map (widened m.off) rows) (HasWidth-widened m.off m.width rows wide) on
    ∙ ap (needed_behind other.on []) (all_widened_same m.off other.off m.width rows wide off)
