-- The names that are made, name by name, up to the first that is too long. Only clauses of this
-- crate's own functions cite this module.
use Rattle.std.specs.Prelude.{◌≡◌, ℕ, ◌==◌, nat_lt, not, Option, Some, None, Result, Ok, Err, List, [], ◌∷◌, ◌++◌, flat_map, map, length, if◌then◌else◌}
use Rattle.std.specs.List.{filter}
use Rattle.sis_text.specs.Entries.{Entry}
use Rattle.line_words.specs.LineWords.{other_words}
use Rattle.blif_gates.specs.GateLines.{signals_of}
use Rattle.blif_lines.specs.declared.keyword.Keyword.{Keyword}
use Rattle.genlib_format.specs.declared.gate.Gate.{Gate as TheGate}
use Rattle.blif_lines.specs.declared.fault.LimitKind.TheVariants as limit
use Rattle.blif_lines.specs.declared.fault.BlifFault.{BlifFault}
use Rattle.blif_lines.specs.declared.fault.BlifFault.TheVariants.{Limit}
use Rattle.sis_text.specs.declared.read_fault.ReadFault.{ReadFault}
use Rattle.sis_text.specs.declared.read_fault.ReadFault.TheVariants as read_fault
use Rattle.blif_lines.specs.Keyword.{kind_of}
use Rattle.blif_lines.specs.Lines.{long_fault}
use Rattle.blif_models.specs.Models.{is_instance, model_of, pairs_of, body_of, size_of}
use Rattle.blif_models.specs.Flat.{Instance, is_formal, path_word, outside, numbered, instance_of, flat_lines}
use Rattle.blif_models.specs.Made.{mentioned, names_by, signals_in, names_on, lists_ports, made_by, made_in}
use Rattle.blif_models.specs.declared.mentions.Extent.{Extent}
use Rattle.blif_models.specs.declared.mentions.Extent.TheVariants as extent
use Rattle.sis_base.specs.declared.limits.TheConstants.{MAX_NAME}

-- the next step after one without a fault; a fault stays
abbrev pub after_made : Result (List (List ℕ)) BlifFault → (List (List ℕ) → Result (List (List ℕ)) BlifFault) → Result (List (List ℕ)) BlifFault
after_made (Ok made) next = next made
after_made (Err fault) next = Err fault

-- the names with one more, or the fault that it is too long
unfoldable pub make_one : List (List ℕ) → List ℕ → Result (List (List ℕ)) BlifFault
make_one made name = if nat_lt MAX_NAME (length name) then Err (Limit limit.Name (length name)) else Ok (made ++ name ∷ [])

-- the names with more, up to the first that is too long
unfoldable pub make_all : List (List ℕ) → List (List ℕ) → Result (List (List ℕ)) BlifFault
make_all made [] = Ok made
make_all made (name ∷ names) = after_made (make_one made name) (λ next. make_all next names)

-- the answer and the names, compared with what they should be; want of memory is always allowed
abbrev pub Makes : Result (Unit {0}) (ReadFault BlifFault) → List (List ℕ)
    → Result (List (List ℕ)) BlifFault → Type 0
Makes (Ok done) made should = should ≡ Ok made
Makes (Err (read_fault.Fault fault)) made should = should ≡ Err fault
Makes (Err read_fault.Memory) made should = Unit {0}

-- what a signal is named outside of all of some instances, the outermost first
unfoldable pub outside_all : List Instance → List ℕ → List ℕ
outside_all [] name = name
outside_all (frame ∷ frames) name = outside frame (outside_all frames name)

-- the names that the own signals of an instance get outside of it and of those around it
abbrev pub own_names : List Instance → Instance → List (List ℕ) → List (List ℕ)
own_names frames instance signals = map (λ signal. outside_all frames (outside instance signal)) (filter (λ signal. not (is_formal instance signal)) signals)

-- the names that a line adds
abbrev pub item_names : Option (List TheGate) → List (List Entry) → ℕ → ℕ → Entry → List (List ℕ)
item_names library models depth place line =
    if not (is_instance line) then []
    else (if size_of models (model_of line) == 0 then []
    else made_by (instance_of library models place line (flat_lines library models depth (body_of models (model_of line)))) (signals_in (body_of models (model_of line)))
    (made_in library models depth (body_of models (model_of line))))

-- the names that lines add, from one on with so many instances before it
unfoldable pub names_from : Option (List TheGate) → List (List Entry) → ℕ → ℕ → List Entry → List (List ℕ)
names_from library models depth place lines = flat_map (λ (item : ℕ × Entry). item_names library models depth item.0 item.1) (numbered place lines)

-- an instance by its line alone, without the signals after which a control is named
abbrev pub bare_instance : ℕ → Entry → Instance
bare_instance place line = record { path = path_word (model_of line) place; pairs = pairs_of line; controls = [] }

-- the names that are made, or the fault of the first that is too long; want of memory is always
-- allowed
abbrev pub IsMade : Result (List (List ℕ)) (ReadFault BlifFault) → List (List ℕ) → Type 0
IsMade (Ok made) names = (made ≡ names) × (long_fault names ≡ None)
IsMade (Err (read_fault.Fault fault)) names = long_fault names ≡ Some fault
IsMade (Err read_fault.Memory) names = Unit {0}

-- the names of a line that are asked for, by its kind and its words after the first
abbrev pub named_as : Extent → Keyword → List (List ℕ) → List (List ℕ)
named_as extent.Signals kind words = mentioned kind words
named_as extent.All kind words = names_by kind words

-- the names of a line that are asked for
abbrev pub named_on : Extent → Entry → List (List ℕ)
named_on extent line = if is_instance line then signals_of (pairs_of line) else named_as extent (kind_of line) (other_words line.words)

-- all names of lines of a don't-care part, in which ports are skipped
abbrev pub part_names : List Entry → List (List ℕ)
part_names lines = flat_map names_on (filter (λ line. not (lists_ports (kind_of line))) lines)
