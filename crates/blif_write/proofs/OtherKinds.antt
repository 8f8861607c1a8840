-- Kinds of lines that are not written, or only in the first line: no line of a circuit, and of gates
-- beside it, is of such a kind, or none behind the first.
use Rattle.std.proofs.Common.{◌≡◌, ℕ, ◌+◌, Bool, false, ◌||◌, List, [], ◌∷◌, ◌++◌, drop, refl, sym, ap, ◌∙◌, subst, flat_map}
use Rattle.std.specs.List.{AllByRecursion, list_any}
use Rattle.sis_base.specs.Written.{Written}
use Rattle.sis_text.specs.Entries.{Entry}
use Rattle.sis_text.specs.Written.{numbered}
use Rattle.circuit_model.specs.declared.circuit.Table.{Table}
use Rattle.circuit_model.specs.declared.circuit.Circuit.{Circuit}
use Rattle.circuit_model.specs.Text.{table_lines}
use Rattle.netlist.specs.Lines.{lines_with_gates}
use Rattle.netlist.specs.declared.mapped.Placed.{Placed}
use Rattle.blif_lines.specs.Keyword.{keyword_of, kind_of}
use Rattle.blif_lines.specs.declared.keyword.Keyword.{Keyword}
use Rattle.blif_lines.specs.declared.keyword.Keyword.TheVariants.{Model, DontCare, End}
use Rattle.blif_lines.proofs.NameLists.{all_append}
use Rattle.blif_write.proofs.Words.{own_lines, part_written, end_lines, lines_split}
use Rattle.blif_write.proofs.Said.{IsNot, OnNone, own_behind, all_own, own_tables, lines_of}

part_without : (test : Keyword → Bool) → OnNone test → test DontCare ≡ false → (part : List Table) → AllByRecursion (IsNot test) (part_written part)
unfolding keyword_of
part_without test none begins [] = tt
part_without test none begins (table ∷ part) =
    (begins, all_append (IsNot test) (flat_map table_lines (table ∷ part)) end_lines (own_tables test none (table ∷ part)) (none End refl, tt))

all_without : (test : Keyword → Bool) → test Model ≡ false → OnNone test → test DontCare ≡ false → (gates : List Placed) (circuit : Circuit) → AllByRecursion (IsNot test) (lines_with_gates gates circuit)
all_without test first none begins gates circuit =
    subst (AllByRecursion (IsNot test)) (sym (lines_split gates circuit))
    (all_append (IsNot test) (own_lines gates circuit) (part_written circuit.dont_care) (all_own test first none gates circuit) (part_without test none begins circuit.dont_care))

behind_without : (test : Keyword → Bool) → OnNone test → test DontCare ≡ false → (gates : List Placed) (circuit : Circuit) → AllByRecursion (IsNot test) (drop 1 (own_lines gates circuit ++ part_written circuit.dont_care))
unfolding own_lines
behind_without test none begins gates circuit =
    all_append (IsNot test) (drop 1 (own_lines gates circuit)) (part_written circuit.dont_care) (own_behind test none gates circuit) (part_without test none begins circuit.dont_care)

-- the same of entries
abbrev pub IsOther : (Keyword → Bool) → Entry → Type 0
IsOther test line = test (kind_of line) ≡ false

others_numbered : (test : Keyword → Bool) (number : ℕ) (lines : List Written) → AllByRecursion (IsNot test) lines → AllByRecursion (IsOther test) (numbered number lines)
unfolding numbered kind_of
others_numbered test number [] h = tt
others_numbered test number (line ∷ lines) h = (h.0, others_numbered test (number + 1) lines h.1)

drop_numbered : (number : ℕ) (lines : List Written) → drop 1 (numbered number lines) ≡ numbered (number + 1) (drop 1 lines)
unfolding numbered
drop_numbered number [] = refl
drop_numbered number (line ∷ lines) = refl

none_of_kind : (test : Keyword → Bool) (lines : List Entry) → AllByRecursion (IsOther test) lines → list_any (λ (line : Entry). test (kind_of line)) lines ≡ false
none_of_kind test [] h = refl
none_of_kind test (line ∷ lines) h = ap (λ b. b || list_any (λ (line : Entry). test (kind_of line)) lines) h.0 ∙ none_of_kind test lines h.1

pub others_written : (test : Keyword → Bool) → test Model ≡ false → OnNone test → test DontCare ≡ false → (gates : List Placed) (circuit : Circuit) → AllByRecursion (IsOther test) (lines_of gates circuit)
others_written test first none begins gates circuit = others_numbered test 1 (lines_with_gates gates circuit) (all_without test first none begins gates circuit)

pub none_written : (test : Keyword → Bool) → test Model ≡ false → OnNone test → test DontCare ≡ false → (gates : List Placed) (circuit : Circuit) → list_any (λ (line : Entry). test (kind_of line)) (lines_of gates circuit) ≡ false
none_written test first none begins gates circuit = none_of_kind test (lines_of gates circuit) (others_written test first none begins gates circuit)

pub none_behind_first : (test : Keyword → Bool) → OnNone test → test DontCare ≡ false → (gates : List Placed) (circuit : Circuit) → list_any (λ (line : Entry). test (kind_of line)) (drop 1 (lines_of gates circuit)) ≡ false
none_behind_first test none begins gates circuit =
    ap (λ (lines : List Written). list_any (λ (line : Entry). test (kind_of line)) (drop 1 (numbered 1 lines))) (lines_split gates circuit)
    ∙ ap (list_any (λ (line : Entry). test (kind_of line))) (drop_numbered 1 (own_lines gates circuit ++ part_written circuit.dont_care))
    ∙ none_of_kind test (numbered 2 (drop 1 (own_lines gates circuit ++ part_written circuit.dont_care))) (others_numbered test 2 (drop 1 (own_lines gates circuit ++ part_written circuit.dont_care)) (behind_without test none begins gates circuit))
