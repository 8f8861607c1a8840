-- Steps that are taken as long as they may be, for any kind of thing that is changed: where they
-- lead, where they end, and which choice a step makes. Source: Brayton, Rudell,
-- Sangiovanni-Vincentelli and Wang, "MIS: A Multiple-Level Logic Optimization System" (1987): a
-- command applies an operation again and again, always where it saves most, until it saves nothing;
-- De Micheli, "Synthesis and Optimization of Digital Circuits", chapter 8 (heuristic algorithms
-- that transform a network step by step).
use Rattle.std.specs.Prelude.{◌≡◌, ℕ, ◌<◌, ◌≤◌, List, [], ◌∷◌, ◌++◌}
use Rattle.std.specs.List.{AllByRecursion}

-- some things, one after the other, lead from one to another, each by a step from the one before
abbrev pub Follows : {N : Type 0} → (N → N → Type 0) → List N → N → N → Type 0
Follows Step [] from to = from ≡ to
Follows Step (next ∷ rest) from to = Step from next × Follows Step rest next to

-- steps lead from one thing to another
pub record Reaches {N : Type 0} (Step : N → N → Type 0) (from to : N) : Type 0 where
  pub between : List N
  pub steps : Follows Step between from to

-- steps lead to a thing that is done
pub record HasEnd {N : Type 0} (Step : N → N → Type 0) (IsDone : N → Type 0) (from to : N) : Type 0 where
  pub reached : Reaches Step from to
  pub done : IsDone to

-- steps lead to a thing that stops them
pub record HasStop {N : Type 0} (Step : N → N → Type 0) (Stops : N → Type 0) (from : N) : Type 0 where
  pub last : N
  pub reached : Reaches Step from last
  pub stops : Stops last

-- of the choices that may be made one that leaves least, and less than there is now; of those that
-- leave as much the first
pub record IsBestChoice {C : Type 0} (May : C → Type 0) (Before : C → C → Type 0) (after : C → ℕ) (now : ℕ) (choice : C) : Type 0 where
  pub may : May choice
  pub saves : after choice < now
  pub most : (other : C) → May other → after choice ≤ after other
  pub first : (other : C) → May other → after other ≡ after choice → Before other choice → ⊥

-- no choice that may be made leaves less than there is now
abbrev pub NoneSaves : {C : Type 0} → (C → Type 0) → (C → ℕ) → ℕ → Type 0
NoneSaves {C} May after now = (choice : C) → May choice → now ≤ after choice

-- the first thing of a list that fails a test: those before it pass
pub record IsFirstFailing {X : Type 0} (Passes Fails : X → Type 0) (list : List X) (x : X) : Type 0 where
  pub before : List X
  pub after : List X
  pub is : list ≡ before ++ x ∷ after
  pub pass : AllByRecursion Passes before
  pub fails : Fails x
