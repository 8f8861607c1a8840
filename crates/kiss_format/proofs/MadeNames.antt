-- One made name more.
use Rattle.std.proofs.Common.{◌≡◌, ℕ, ◌+◌, List, [], ◌∷◌, ◌++◌, arith}
use Rattle.std.specs.Prelude.{decimal}
use Rattle.std.proofs.lemmas.List.FromFn.{map-range_with_len_more}
use Rattle.kiss_format.specs.Reader.{made_names}

pub made_more : (prefix : List ℕ) (count : ℕ) → made_names prefix (count + 1) ≡ made_names prefix count ++ (prefix ++ decimal count) ∷ []
made_more prefix count = map-range_with_len_more (λ k. prefix ++ decimal k) 0 count count (omega arith)
