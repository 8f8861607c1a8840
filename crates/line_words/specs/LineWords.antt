-- The words of a line, and the names and cube characters in it. Source: SIS report (UCB/ERL
-- M92/41), BLIF and KISS2: a line is known by its first word, a cube by its characters `0`, `1` and
-- `-`. The limit on names is the project's own.
use Rattle.std.specs.Prelude.{ℕ, Bool, ◌||◌, ◌==◌, nat_lt, Option, List, [], ◌∷◌, map, find, length, if◌then◌else◌}
use Rattle.std.specs.Borrow.{Bor}
use Rattle.std.specs.Option.{option_map}
use Rattle.circuit_model.specs.declared.circuit.Tri.{Tri}
use Rattle.circuit_model.specs.declared.circuit.Tri.TheVariants.{Zero, One, Free}
use Rattle.sis_base.specs.declared.limits.TheConstants.{MAX_NAME}

-- the bytes of words that are slices of a text
abbrev pub texts : List (Bor (List ℕ)) → List (List ℕ)
texts words = map (λ (word : Bor (List ℕ)). word.now) words

-- the first of some words
abbrev pub first_word : List (List ℕ) → List ℕ
first_word [] = []
first_word (word ∷ words) = word

-- the words after the first
abbrev pub other_words : List (List ℕ) → List (List ℕ)
other_words [] = []
other_words (word ∷ words) = words

-- the length of the first name of more than `MAX_NAME` bytes
unfoldable pub long_name : List (List ℕ) → Option ℕ
long_name names = option_map (λ (name : List ℕ). length name) (find (λ name. nat_lt MAX_NAME (length name)) names)

-- whether a byte is a cube character
abbrev pub is_character : ℕ → Bool
is_character byte = byte == 48 || byte == 49 || byte == 45

-- the cube character of a byte; any byte but `0` and `1` is a dash
abbrev pub character_of : ℕ → Tri
character_of byte = if byte == 48 then Zero else (if byte == 49 then One else Free)
