-- What is wrong with a file, as a text. Source: the wording is the project's own; the faults are
-- those of the readers of BLIF, KISS2 and genlib.
use Rattle.std.specs.Prelude.{ℕ, List, ◌++◌, codes, decimal}
use Rattle.blif_lines.specs.declared.fault.BlifFault.{BlifFault}
use Rattle.blif_lines.specs.declared.fault.BlifFault.TheVariants as blif
use Rattle.blif_lines.specs.declared.fault.LimitKind.{LimitKind as BlifLimit}
use Rattle.blif_lines.specs.declared.fault.LimitKind.TheVariants as blif_limit
use Rattle.kiss_format.specs.declared.fault.KissFault.{KissFault}
use Rattle.kiss_format.specs.declared.fault.KissFault.TheVariants as kiss
use Rattle.kiss_format.specs.declared.fault.LimitKind.{LimitKind as KissLimit}
use Rattle.kiss_format.specs.declared.fault.LimitKind.TheVariants as kiss_limit
use Rattle.genlib_format.specs.declared.fault.LibFault.{LibFault}
use Rattle.genlib_format.specs.declared.fault.LibFault.TheVariants as library
use Rattle.genlib_format.specs.declared.fault.LimitKind.{LimitKind as LibraryLimit}
use Rattle.genlib_format.specs.declared.fault.LimitKind.TheVariants as library_limit

-- what is wrong with a line, after its number
unfoldable pub line_text : ℕ → List ℕ → List ℕ
line_text line what = codes "line " ++ (decimal line ++ (codes ": " ++ what))

-- a limit that is exceeded: what it is on, and what was reached
unfoldable pub limit_text : List ℕ → ℕ → List ℕ
limit_text kind reached = codes "limit " ++ (kind ++ (codes " " ++ decimal reached))

-- the word for what a limit of circuits is on
abbrev pub blif_limit_word : BlifLimit → List ℕ
blif_limit_word blif_limit.Name = codes "name"
blif_limit_word blif_limit.Tables = codes "tables"
blif_limit_word blif_limit.Rows = codes "rows"
blif_limit_word blif_limit.Inputs = codes "inputs"
blif_limit_word blif_limit.Depth = codes "depth"

-- the word for what a limit of machines is on
abbrev pub kiss_limit_word : KissLimit → List ℕ
kiss_limit_word kiss_limit.Name = codes "name"
kiss_limit_word kiss_limit.Rows = codes "rows"
kiss_limit_word kiss_limit.States = codes "states"

-- the word for what a limit of libraries is on
abbrev pub library_limit_word : LibraryLimit → List ℕ
library_limit_word library_limit.Name = codes "name"
library_limit_word library_limit.Depth = codes "depth"
library_limit_word library_limit.Pins = codes "pins"
library_limit_word library_limit.Gates = codes "gates"

-- a fault of a table of a machine
unfoldable pub kiss_text : KissFault → List ℕ
kiss_text (kiss.BadHeader line) = line_text line (codes "bad header")
kiss_text (kiss.BadRow line) = line_text line (codes "bad row")
kiss_text (kiss.RowClash earlier later) = codes "rows " ++ (decimal earlier ++ (codes " and " ++ (decimal later ++ codes " clash")))
kiss_text (kiss.NoReset name) = codes "no reset " ++ name
kiss_text kiss.NoRows = codes "no rows"
kiss_text (kiss.Limit kind reached) = limit_text (kiss_limit_word kind) reached

-- a fault of a file of a circuit, or of one that describes a machine
unfoldable pub blif_text : BlifFault → List ℕ
blif_text (blif.UnknownWord line) = line_text line (codes "unknown word")
blif_text (blif.BadArity line) = line_text line (codes "bad arity")
blif_text (blif.BadRow line) = line_text line (codes "bad row")
blif_text (blif.MixedPhase line) = line_text line (codes "mixed phase")
blif_text (blif.BadLatch line) = line_text line (codes "bad latch")
blif_text (blif.ModelTwice line) = line_text line (codes "model twice")
blif_text (blif.NoLibrary line) = line_text line (codes "no library")
blif_text (blif.UnknownGate line) = line_text line (codes "unknown gate")
blif_text (blif.BadPins line) = line_text line (codes "bad pins")
blif_text (blif.UnknownModel line) = line_text line (codes "unknown model")
blif_text (blif.BadPorts line) = line_text line (codes "bad ports")
blif_text (blif.Limit kind reached) = limit_text (blif_limit_word kind) reached
blif_text (blif.Recursion name) = codes "recursion in " ++ name
blif_text (blif.NameClash name) = codes "name clash at " ++ name
blif_text (blif.NameTwice name) = name ++ codes " listed twice"
blif_text (blif.BadKiss fault) = kiss_text fault
blif_text (blif.MixedClock line) = line_text line (codes "mixed clock")
blif_text (blif.GatedClock name) = codes "gated clock " ++ name
blif_text (blif.TwoDrivers name) = codes "two drivers of " ++ name
blif_text (blif.Undriven name) = codes "undriven " ++ name
blif_text (blif.BadExdc name) = codes "bad don't-care " ++ name
blif_text (blif.Cycle name) = codes "cycle through " ++ name

-- a fault of a file of gates
unfoldable pub library_text : LibFault → List ℕ
library_text (library.BadEntry line) = line_text line (codes "bad entry")
library_text (library.BadNumber line) = line_text line (codes "bad number")
library_text (library.BadExpr line) = line_text line (codes "bad expression")
library_text (library.Limit kind reached) = limit_text (library_limit_word kind) reached
library_text (library.BadPin name) = codes "bad pin " ++ name
library_text (library.GateTwice name) = codes "gate " ++ (name ++ codes " twice")
