-- Choices as they are kept: their costs, their gates and where their pins begin in lists of their
-- own, and all pins one after the other.
-- Source: the usual form of lists of lists in one list; Gustavson, "Some basic techniques for
-- solving sparse systems of linear equations" (Sparse Matrices and Their Applications, 1972): rows
-- one after the other, and where each begins.
use Rattle.std.specs.Prelude.{◌≡◌, ℕ, ◌-◌, ◌≤◌, List, [], ◌∷◌, length, take, drop, slice_index_or}
use Rattle.std.specs.List.{AllByRecursion}
use Rattle.tree_cover.specs.declared.choice.Choice.{Choice}

-- the items from one position to another
abbrev pub part : ℕ → ℕ → List ℕ → List ℕ
part start end pins = take (end - start) (drop start pins)

-- where the pins of a number begin; past the last number, where the pins end
abbrev pub start_at : List ℕ → List ℕ → ℕ → ℕ
start_at starts pins n = slice_index_or starts n (length pins)

-- the choices, each with its pins up to where the next ones begin
unfoldable pub choices_in : List ℕ → List ℕ → List ℕ → List ℕ → List Choice
choices_in [] places starts pins = []
choices_in (cost ∷ costs) [] starts pins = []
choices_in (cost ∷ costs) (place ∷ places) [] pins = []
choices_in (cost ∷ costs) (place ∷ places) (start ∷ starts) pins =
    record { cost = cost; place = place; pins = part start (start_at starts pins 0) pins } ∷ choices_in costs places starts pins

-- there are as many gates and beginnings as costs, and no pins begin past the last
pub record AreFlat (costs places starts pins : List ℕ) : Type 0 where
  pub gates : length places ≡ length costs
  pub beginnings : length starts ≡ length costs
  pub within : AllByRecursion (λ start. start ≤ length pins) starts
