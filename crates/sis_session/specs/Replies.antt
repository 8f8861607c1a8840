-- The texts that the program prints: replies, lines of refusals and of faults. Source: the SIS
-- manual (UCB/ERL M92/41), `print_stats`; the wording of refusals is the project's own.
use Rattle.std.specs.Prelude.{ℕ, Bool, true, false, List, [], ◌∷◌, ◌++◌, flat_map, map, length, sum_by, codes, decimal}
use Rattle.sis_base.specs.Written.{spaced}
use Rattle.circuit_model.specs.Counts.{literals_of}
use Rattle.circuit_model.specs.Runs.{tri_of}
use Rattle.circuit_model.specs.Text.{character}
use Rattle.circuit_model.specs.declared.circuit.Circuit.{Circuit}
use Rattle.fault_texts.specs.Texts.{blif_text, kiss_text, library_text}
use Rattle.net_core.specs.Reads.{sizes_of}
use Rattle.state_code.specs.declared.codes.Code.{Code}
use Rattle.sis_text.specs.Decimals.{decimal_text}
use Rattle.netlist.specs.declared.mapped.Mapped.{Mapped}
use Rattle.netlist.specs.declared.mapped.TreeFigure.{TreeFigure}
use Rattle.sis_script.specs.declared.command.ScriptFault.{ScriptFault}
use Rattle.sis_script.specs.declared.command.ScriptFault.TheVariants.{BadCommand, BadOption, MissingWord}
use Rattle.sis_session.specs.declared.refusal.Refusal.{Refusal}
use Rattle.sis_session.specs.declared.refusal.Refusal.TheVariants.{Script, Nested, NoNetwork, NoMachine, NoLibrary, NotMapped, NothingToUndo, NoSignal, CubeLimit, TooWide, NodeLimit, KernelLimit, TooBig, NoInverter, NoNand, TreeLimit, Missing, TooLong, Blif, Kiss, Lib, LongScript}
use Rattle.sis_session.specs.declared.texts.Stats.{Stats}

-- words as a line, separated by one blank
unfoldable pub echo_line : List (List ℕ) → List ℕ
echo_line [] = codes "\n"
echo_line (word ∷ words) = word ++ (flat_map spaced words ++ codes "\n")

-- the size of a circuit, in numbers
unfoldable pub stats_of : Circuit → Stats
stats_of circuit = record { sizes = sizes_of circuit; lits = literals_of circuit }

-- a name and numbers: inputs, outputs, tables, latches, literals, don't-care tables
unfoldable pub numbers_line : List ℕ → Stats → List ℕ
numbers_line name stats =
    name ++ (codes " pi=" ++ (decimal stats.sizes.inputs ++ (codes " po=" ++ (decimal stats.sizes.outputs
    ++ (codes " nodes=" ++ (decimal stats.sizes.tables ++ (codes " latches=" ++ (decimal stats.sizes.latches
    ++ (codes " lits=" ++ (decimal stats.lits ++ (codes " dc=" ++ (decimal stats.sizes.dont_cares ++ codes "\n"))))))))))))

-- the size of a circuit, after its name
abbrev pub stats_line : Circuit → List ℕ
stats_line circuit = numbers_line circuit.name (stats_of circuit)

-- the bits of a code, with a blank before them; nothing if there are none
abbrev pub code_bits : List Bool → List ℕ
code_bits [] = []
code_bits (bit ∷ bits) = spaced (map (λ each. character (tri_of each)) (bit ∷ bits))

-- a state and its code
unfoldable pub code_line : Code → List ℕ
code_line code = codes "code " ++ (code.state ++ (code_bits code.bits ++ codes "\n"))

-- all codes, a line for each
abbrev pub codes_text : List Code → List ℕ
codes_text each = flat_map code_line each

-- a tree of a netlist and its area
unfoldable pub tree_line : TreeFigure → List ℕ
tree_line tree =
    codes "tree " ++ (tree.name ++ (codes " area=" ++ (decimal_text tree.figure ++ codes "\n")))

-- an area, and the number of gates
unfoldable pub total_text : ℕ → ℕ → List ℕ
total_text area gates =
    codes "total area=" ++ (decimal_text area
    ++ (codes " gates=" ++ (decimal gates ++ codes "\n")))

-- the area of all trees of a netlist, and its number of gates
abbrev pub total_line : Mapped → List ℕ
total_line mapped =
    total_text (sum_by (λ (tree : TreeFigure). tree.figure) mapped.trees) (length mapped.gates)

-- what `map` prints: a line for each tree unless it is brief, and the total
abbrev pub map_text : Bool → Mapped → List ℕ
map_text true mapped = total_line mapped
map_text false mapped = flat_map tree_line mapped.trees ++ total_line mapped

-- why the words of a command are refused
abbrev pub script_fault_text : ScriptFault → List ℕ
script_fault_text BadCommand = codes "unknown command"
script_fault_text BadOption = codes "bad option"
script_fault_text MissingWord = codes "missing word"

-- what is wrong with a file, after its name
abbrev pub file_text : List ℕ → List ℕ → List ℕ
file_text file what = file ++ (codes ": " ++ what)

-- the text of a refusal
unfoldable pub refusal_text : Refusal → List ℕ
refusal_text (Script fault) = script_fault_text fault
refusal_text Nested = codes "sources nested deeper than 16"
refusal_text NoNetwork = codes "no network"
refusal_text NoMachine = codes "no machine"
refusal_text NoLibrary = codes "no library"
refusal_text NotMapped = codes "no mapped netlist"
refusal_text NothingToUndo = codes "nothing to undo"
refusal_text (NoSignal name) = codes "no table " ++ name
refusal_text (CubeLimit name) = codes "too many rows at " ++ name
refusal_text (TooWide name count) = decimal count ++ (codes " inputs at " ++ name)
refusal_text NodeLimit = codes "too many nodes"
refusal_text (KernelLimit name) = codes "too many kernels at " ++ name
refusal_text (TooBig name) = codes "function too big at " ++ name
refusal_text NoInverter = codes "no inverter in the library"
refusal_text NoNand = codes "no nand in the library"
refusal_text TreeLimit = codes "too many tree vertices"
refusal_text (Missing file) = codes "no file " ++ file
refusal_text (TooLong file) = codes "file " ++ (file ++ codes " is longer than 67108864 bytes")
refusal_text (Blif file fault) = file_text file (blif_text fault)
refusal_text (Kiss file fault) = file_text file (kiss_text fault)
refusal_text (Lib file fault) = file_text file (library_text fault)
refusal_text LongScript = codes "script is longer than 67108864 bytes"

-- a line on the error output: the line of the script, and a text
unfoldable pub error_line : ℕ → List ℕ → List ℕ
error_line line text = codes "sis: line " ++ (decimal line ++ (codes ": " ++ (text ++ codes "\n")))

-- the line of a refusal
unfoldable pub refusal_line : ℕ → Refusal → List ℕ
refusal_line line refusal = error_line line (refusal_text refusal)
