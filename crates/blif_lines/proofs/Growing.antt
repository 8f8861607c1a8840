-- A list with what a line adds to it, while it still grows.

use Rattle.std.specs.Prelude.{◌≡◌, Bool, true, false, List, [], ◌∷◌, ◌++◌}
use Rattle.std.proofs.Common.{refl, sym}
use Rattle.std.proofs.lemmas.List.{append-nil}
use Rattle.blif_lines.specs.Steps.{with_more}

pub more_own : {A : Type 0} (had : Bool) (items more : List A) → had ≡ false → with_more had items more ≡ items ++ more
more_own true items more h = absurd (cc)
more_own false items [] h = sym (append-nil items)
more_own false items (first ∷ rest) h = refl

pub more_kept : {A : Type 0} (had : Bool) (items more : List A) → had ≡ true → with_more had items more ≡ items
more_kept had items [] h = refl
more_kept true items (first ∷ rest) h = refl
more_kept false items (first ∷ rest) h = absurd (cc)
