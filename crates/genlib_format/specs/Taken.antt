-- The words that the first entries leave. Source: the genlib format of SIS (UCB/ERL M92/41): a file
-- is its entries, one after the other.
use Rattle.std.specs.Prelude.{ℕ, zero, suc, List, []}
use Rattle.std.specs.Option.{option_map_or}
use Rattle.genlib_format.specs.declared.words.Lined.{Lined}
use Rattle.genlib_format.specs.Entries.{entry_at}

-- the words after the first entries, at most so many
unfoldable pub words_left : ℕ → List Lined → List Lined
words_left zero words = words
words_left (suc count) words = option_map_or (λ part. words_left count part.rest) (entry_at words) []
