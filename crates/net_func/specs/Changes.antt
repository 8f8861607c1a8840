-- Changes of signals by the numbers of functions, and where they are observed.
-- Source: De Micheli, "Synthesis and Optimization of Digital Circuits", chapter 8 (the Boolean
-- difference of a function with regard to a signal, and observability don't-cares).
use Rattle.std.specs.Prelude.{◌≡◌, ℕ, false, not, ◌&&◌, Option, Some, None, List, ◌++◌, ◌⊎◌, map, take, is_some, slice_get, if◌then◌else◌}
use Rattle.std.specs.List.{AllByRecursion}
use Rattle.func_core.specs.Trees.{BooleanFunction, Tree, differ}
use Rattle.func_core.specs.Numbers.{IsBig}
use Rattle.func_core.specs.declared.functions.Func.{Func}
use Rattle.net_func.specs.Numbered.{computed}
use Rattle.net_func.specs.Signals.{seen_among}
use Rattle.net_func.specs.declared.seen.Change.{Change}

-- where a change is don't-care: nowhere if there is no function
abbrev pub free_bit : {S : Type 0} → (S → ℕ → Tree) → S → Option Func → BooleanFunction
free_bit tree state None point = false
free_bit tree state (Some number) point = computed tree state number point

-- where a signal changes that has one function or the other
abbrev pub changed_by : {S : Type 0} → (S → ℕ → Tree) → S → Change → BooleanFunction
changed_by tree state change = λ point.
    differ (computed tree state change.low point) (computed tree state change.high point)

-- where it changes, outside the don't-cares
abbrev pub shown_by : {S : Type 0} → (S → ℕ → Tree) → S → Change → BooleanFunction
shown_by tree state change = λ point.
    not (free_bit tree state change.free point) && changed_by tree state change point

-- the number of a function is valid, if there is one
abbrev pub FreeStands : {S : Type 0} → (S → ℕ → Type 0) → S → Option Func → Type 0
FreeStands holds state None = Unit {0}
FreeStands holds state (Some number) = holds state number.0

-- the numbers of a change are valid
pub record ChangeStands {S : Type 0} (holds : S → ℕ → Type 0) (state : S) (change : Change) : Type 0
  where
    pub low : holds state change.low.0
    pub high : holds state change.high.0
    pub free : FreeStands holds state change.free

abbrev pub ChangesStand : {S : Type 0} → (S → ℕ → Type 0) → S → List Change → Type 0
ChangesStand holds state changes = AllByRecursion (ChangeStands holds state) changes

-- a change is too big, or its part outside the don't-cares, or the sum of the first changes
abbrev pub HasBigChange : {S : Type 0} → (S → ℕ → Tree) → S → ℕ → List Change → Type 0
HasBigChange tree state limit changes =
    ((i : ℕ) × (change : Change) × (slice_get changes i ≡ Some change)
    × (IsBig limit (changed_by tree state change) ⊎ IsBig limit (shown_by tree state change)))
    ⊎ ((count : ℕ) × IsBig limit (seen_among (take count (map (shown_by tree state) changes))))

-- the number of a name that has an index
abbrev pub free_in : (List ℕ → Option Func) → (List ℕ → Option ℕ) → List ℕ → Option Func
free_in number place output = if is_some (place output) then number output else None

-- the changes of signals, in order, by the numbers of their names
pub record AreChanges (low high free : List ℕ → Option Func) (roots : List (List ℕ))
    (changes : List Change) : Type 0 where
  pub lows : map (λ (change : Change). Some change.low) changes ≡ map low roots
  pub highs : map (λ (change : Change). Some change.high) changes ≡ map high roots
  pub frees : map (λ (change : Change). change.free) changes ≡ map free roots

-- the changes of signals that are never don't-care, and then those of other signals
pub record AreAllChanges (low high free : List ℕ → Option Func) (latched shown : List (List ℕ))
    (changes : List Change) : Type 0 where
  pub front : List Change
  pub back : List Change
  pub whole : changes ≡ front ++ back
  pub latches : AreChanges low high (λ root. None) latched front
  pub outputs : AreChanges low high free shown back
