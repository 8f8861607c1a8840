-- Steps of the generator, and signals by their numbers.
use Rattle.std.proofs.Common.{◌≡◌, ℕ, ◌+◌, ◌*◌, ◌%◌, ◌^◌, ◌<◌, List, [], ◌∷◌, ◌++◌, map, length, get_or, refl, sym, ap, ◌∙◌, add-one, arith}
use Rattle.std.specs.List.{range_with_len}
use Rattle.std.proofs.lemmas.List.FromFn.{map-range_with_len_more, length-map-range_with_len, get_or-map-range_with_len}
use Rattle.circuit_gen.specs.Draws.{next}
use Rattle.circuit_gen.specs.Generated.{signal, signals, number_at, table_at, latch_at}

pub stepped : (number : ℕ) → (number * 6364136223846793005 % 2 ^ 64 + 1442695040888963407) % 2 ^ 64 ≡ (number * 6364136223846793005 + 1442695040888963407) % 2 ^ 64
stepped number = omega arith

-- one more
pub signals_more : (first count number : ℕ) → first + count ≡ number → signals first (count + 1) ≡ signals first count ++ signal number ∷ []
signals_more first count number e = map-range_with_len_more signal first count number e

pub tables_more : (seed count : ℕ) → map (table_at seed) (range_with_len 0 (count + 1)) ≡ map (table_at seed) (range_with_len 0 count) ++ table_at seed count ∷ []
tables_more seed count = map-range_with_len_more (table_at seed) 0 count count (omega arith)

pub latches_more : (tables count : ℕ) → map (latch_at tables) (range_with_len 0 (count + 1)) ≡ map (latch_at tables) (range_with_len 0 count) ++ latch_at tables count ∷ []
latches_more tables count = map-range_with_len_more (latch_at tables) 0 count count (omega arith)

pub number_none : (seed : ℕ) → seed ≡ number_at seed 0
unfolding number_at
number_none seed = refl

pub number_more : (seed place : ℕ) → number_at seed (place + 1) ≡ next (next (next (number_at seed place)))
unfolding number_at
number_more seed place = ap (number_at seed) (add-one place)

-- the names of all signals from the first on
pub all_named : (names : List (List ℕ)) (count : ℕ) → names ≡ signals 0 count → (names ≡ signals 0 (length names)) × (length names ≡ count)
all_named names count e =
    let n : length names ≡ count = ap length e ∙ length-map-range_with_len signal 0 count in
    (e ∙ ap (signals 0) (sym n), n)

pub named : (names : List (List ℕ)) (number : ℕ) (read : List ℕ) → names ≡ signals 0 (length names) → number < length names → get_or names number read ≡ signal number
named names number read e inside =
    ap (λ (all : List (List ℕ)). get_or all number read) e
    ∙ get_or-map-range_with_len signal 0 (length names) number number read inside (omega arith)
