-- The inner subtrees of the trees of an operation.
use Rattle.std.proofs.Common.{◌≡◌, ℕ, Bool, true, false, if◌then◌else◌, refl, sym, subst}
use Rattle.std.specs.Set.{is_member}
use Rattle.func_core.specs.Trees.{Tree, Node}
use Rattle.func_core.specs.Sizes.{tree_eq, inner}
use Rattle.func_core.proofs.Trees.{tree_eq-same}
use Rattle.func_shared.specs.Merging.{joined}
use Rattle.func_shared.proofs.Inner.{inner-low, inner-high}

-- the inner subtrees of a tree are among those of another one
abbrev pub IsWithin : Tree → Tree → Type 0
IsWithin s t = (x : Tree) → is_member tree_eq (inner s) x ≡ true →
    is_member tree_eq (inner t) x ≡ true

-- each half's are among those of the joined tree
pub low_within : (place : ℕ) (low high : Tree) → IsWithin low (joined place low high)
unfolding joined
low_within place low high x h = cases (tree_eq low high)
  where
    cases : (b : Bool) → is_member tree_eq (inner (if b then low else Node place low high)) x ≡ true
    cases true = h
    cases false = inner-low place low high x h

pub high_within : (place : ℕ) (low high : Tree) → IsWithin high (joined place low high)
unfolding joined
high_within place low high x h = cases (tree_eq low high) refl
  where
    cases : (b : Bool) → tree_eq low high ≡ b →
        is_member tree_eq (inner (if b then low else Node place low high)) x ≡ true
    cases true e =
        subst (λ (t : Tree). is_member tree_eq (inner t) x ≡ true) (sym (tree_eq-same low high e)) h
    cases false e = inner-high place low high x h
