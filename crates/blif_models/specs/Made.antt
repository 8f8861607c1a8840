-- The names that are made for the signals of instances, and those that stand in a model. A signal
-- that is no formal of its instance gets a name that is made; no other signal may have it. The
-- order is the project's own: an instance before those within it.
use Rattle.std.specs.Prelude.{ℕ, zero, suc, Bool, true, false, not, Option, List, [], ◌++◌, map, flat_map, take, if◌then◌else◌}
use Rattle.std.specs.List.{filter}
use Rattle.sis_text.specs.Entries.{Entry}
use Rattle.line_words.specs.LineWords.{other_words}
use Rattle.genlib_format.specs.declared.gate.Gate.{Gate as TheGate}
use Rattle.circuit_checks.specs.NameChecks.{first_listed_twice}
use Rattle.circuit_tables.specs.Folding.{each_once}
use Rattle.blif_gates.specs.GateLines.{signals_of}
use Rattle.blif_lines.specs.declared.keyword.Keyword.{Keyword}
use Rattle.blif_lines.specs.declared.keyword.Keyword.TheVariants.{Inputs, Outputs, Clock, Names, Latch, Gate}
use Rattle.blif_lines.specs.Keyword.{kind_of}
use Rattle.blif_lines.specs.Lines.{latch_names}
use Rattle.blif_lines.specs.Reader.{model_lines, part_lines}
use Rattle.blif_models.specs.Models.{is_instance, pairs_of}
use Rattle.blif_models.specs.Flat.{Instance, is_formal, outside, instance_of, from_instances, flat_lines}

-- the signals that a line mentions, by its kind and its words after the first
abbrev pub mentioned : Keyword → List (List ℕ) → List (List ℕ)
mentioned Inputs words = words
mentioned Outputs words = words
mentioned Names words = words
mentioned Latch words = take 2 words
mentioned Gate words = signals_of (other_words words)
mentioned kind words = []

-- the signals of a line: those that it mentions, or the actuals of an instance
abbrev pub signals_on : Entry → List (List ℕ)
signals_on line = if is_instance line then signals_of (pairs_of line) else mentioned (kind_of line) (other_words line.words)

-- the signals of a model, each once, in file order
unfoldable pub signals_in : List Entry → List (List ℕ)
signals_in lines = each_once (flat_map signals_on lines)

-- all names of a line, also those of clocks and of the control of a latch
abbrev pub names_by : Keyword → List (List ℕ) → List (List ℕ)
names_by Clock words = words
names_by Latch words = latch_names words
names_by kind words = mentioned kind words

abbrev pub names_on : Entry → List (List ℕ)
names_on line = if is_instance line then signals_of (pairs_of line) else names_by (kind_of line) (other_words line.words)

-- whether a kind is that of ports, which are skipped in a don't-care part
abbrev pub lists_ports : Keyword → Bool
lists_ports Inputs = true
lists_ports Outputs = true
lists_ports kind = false

-- all names of a model, with those of its don't-care part
unfoldable pub names_in : List Entry → List (List ℕ)
names_in model = flat_map names_on (model_lines model ++ filter (λ line. not (lists_ports (kind_of line))) (part_lines model))

-- the names made for an instance with these signals of its own and these made within it
unfoldable pub made_by : Instance → List (List ℕ) → List (List ℕ) → List (List ℕ)
made_by instance own within = map (outside instance) (filter (λ signal. not (is_formal instance signal)) own ++ within)

-- the names made within the lines of a model by its instances
unfoldable pub made_in : Option (List TheGate) → List (List Entry) → ℕ → List Entry → List (List ℕ)
made_in library models zero lines = []
made_in library models (suc depth) lines = from_instances models
    (λ place line body. made_by (instance_of library models place line (flat_lines library models depth body))
    (signals_in body) (made_in library models depth body))
    (λ line. []) lines

-- the first made name that was made for another signal too, or that is in the first model: the
-- first that occurs twice among the model's names, each once, and the made ones
unfoldable pub first_clash : List (List ℕ) → List (List ℕ) → Option (List ℕ)
first_clash names made = first_listed_twice (each_once names ++ made) [] made
