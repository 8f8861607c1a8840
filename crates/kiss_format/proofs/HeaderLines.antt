-- The first line of a kind in a text, by its number.
use Rattle.std.proofs.Common.{◌≡◌, ℕ, Bool, true, false, Some, List, [], ◌∷◌, map, cond, refl, ◌∙◌, ap}
use Rattle.std.specs.Prelude.{find}
use Rattle.std.specs.Option.{option_map}
use Rattle.sis_text.specs.declared.places.Line.{Line}
use Rattle.sis_text.specs.Entries.{Entry, entry_at}
use Rattle.kiss_format.specs.Keywords.{kind_of, before_end}
use Rattle.kiss_format.specs.Reader.{header_line}
use Rattle.kiss_format.specs.declared.keyword.Keyword.{Keyword}

number_at : (is_kind : Keyword → Bool) (source : List ℕ) (lines : List Line) →
    option_map (λ (line : Line). line.number) (find (λ (line : Line). is_kind (kind_of (entry_at source line))) lines)
    ≡ option_map (λ (line : Entry). line.number) (find (λ (line : Entry). is_kind (kind_of line)) (map (entry_at source) lines))
number_at is_kind source [] = refl
number_at is_kind source (line ∷ lines) = by (is_kind (kind_of (entry_at source line))) (number_at is_kind source lines)
  where
    by : (b : Bool) → option_map (λ (line : Line). line.number) (find (λ (line : Line). is_kind (kind_of (entry_at source line))) lines)
        ≡ option_map (λ (line : Entry). line.number) (find (λ (line : Entry). is_kind (kind_of line)) (map (entry_at source) lines))
        → option_map (λ (line : Line). line.number) (cond b (Some line) (find (λ (line : Line). is_kind (kind_of (entry_at source line))) lines))
        ≡ option_map (λ (line : Entry). line.number) (cond b (Some (entry_at source line)) (find (λ (line : Entry). is_kind (kind_of line)) (map (entry_at source) lines)))
    by true rest = refl
    by false rest = rest

pub header_at : (is_kind : Keyword → Bool) (source : List ℕ) (front lines : List Line) → map (entry_at source) front ≡ before_end (map (entry_at source) lines)
    → option_map (λ (line : Line). line.number) (find (λ (line : Line). is_kind (kind_of (entry_at source line))) front) ≡ header_line is_kind (map (entry_at source) lines)
header_at is_kind source front lines e =
    number_at is_kind source front ∙ ap (λ (entries : List Entry). option_map (λ (line : Entry). line.number) (find (λ (line : Entry). is_kind (kind_of line)) entries)) e
