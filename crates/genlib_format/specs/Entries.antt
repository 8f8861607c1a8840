-- The entries of a library file. Source: the genlib format of SIS (UCB/ERL M92/41): `GATE` begins
-- the entry of a gate, `LATCH` that of a latch, which runs to the next `GATE` or `LATCH`.
use Rattle.std.specs.Prelude.{ℕ, zero, suc, Bool, not, ◌||◌, if◌then◌else◌, Option, Some, None, List, [], ◌∷◌, length, drop, bytes_eq, codes}
use Rattle.std.specs.List.{take_while}
use Rattle.std.specs.Option.{option_map_or}
use Rattle.genlib_format.specs.declared.words.Lined.{Lined}
use Rattle.genlib_format.specs.declared.gates.GateLines.{GateLines}
use Rattle.genlib_format.specs.declared.entries.Entry.{Entry}
use Rattle.genlib_format.specs.declared.entries.Entry.TheVariants.{Gate, Latch, Misshapen}
use Rattle.genlib_format.specs.Statements.{Part}
use Rattle.genlib_format.specs.Gates.{gate_at}

-- whether a word begins the entry of a gate, and whether it begins that of a latch
abbrev pub is_gate : Lined → Bool
is_gate lined = bytes_eq lined.word (codes "GATE")

abbrev pub is_latch : Lined → Bool
is_latch lined = bytes_eq lined.word (codes "LATCH")

-- the words from the next one on that begins an entry
unfoldable pub from_entry : List Lined → List Lined
from_entry words = drop (length (take_while (λ word. not (is_gate word || is_latch word)) words)) words

-- a gate that was read; if none was, an entry without the right shape, after which nothing is read
abbrev pub gate_entry : ℕ → Option (Part GateLines) → Part Entry
gate_entry line None = record { made = Misshapen line; rest = [] }
gate_entry line (Some part) = record { made = Gate part.made; rest = part.rest }

-- a latch, which is skipped
abbrev pub latch_entry : List Lined → Part Entry
latch_entry words = record { made = Latch; rest = from_entry words }

-- an entry that begins with another word; nothing is read after it
abbrev pub other_entry : ℕ → Part Entry
other_entry line = record { made = Misshapen line; rest = [] }

-- the first entry, by its first word and the words after that
unfoldable pub entry_from : Lined → List Lined → Part Entry
entry_from first words =
    if is_gate first then gate_entry first.line (gate_at (first ∷ words))
    else (if is_latch first then latch_entry words else other_entry first.line)

-- the first entry; none if no word is left
unfoldable pub entry_at : List Lined → Option (Part Entry)
entry_at [] = None
entry_at (first ∷ words) = Some (entry_from first words)

-- the first entries, at most so many
unfoldable pub entries_within : ℕ → List Lined → List Entry
entries_within zero words = []
entries_within (suc count) words = option_map_or (λ part. part.made ∷ entries_within count part.rest) (entry_at words) []

-- all entries of words: each has at least one word, so there are no more entries than words
unfoldable pub entries_of : List Lined → List Entry
entries_of words = entries_within (length words) words
