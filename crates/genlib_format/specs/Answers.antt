-- What a reader answers, compared with what it should; want of memory is always allowed. Source:
-- the project's own.
use Rattle.std.specs.Prelude.{◌≡◌, ℕ, Option, Some, None, Result, Ok, Err, List}
use Rattle.genlib_expr.specs.Text.{pins_of, depth_of}
use Rattle.genlib_expr.specs.declared.expression.Parsed.{Parsed}
use Rattle.genlib_format.specs.Spelling.{nodes_in}
use Rattle.genlib_format.specs.declared.gate.Gate.{Gate}
use Rattle.genlib_format.specs.declared.fault.LibFault.{LibFault}
use Rattle.genlib_format.specs.declared.fault.LibFault.TheVariants.{BadExpr}
use Rattle.sis_text.specs.declared.read_fault.ReadFault.{ReadFault}
use Rattle.sis_text.specs.declared.read_fault.ReadFault.TheVariants as read_fault

-- the value of a step, and the fault that it should have
abbrev pub Gives : {A : Type 0} → Result A (ReadFault LibFault) → Option LibFault → A → Type 0
Gives (Ok value) fault should = (fault ≡ None) × (value ≡ should)
Gives (Err (read_fault.Fault found)) fault should = fault ≡ Some found
Gives (Err read_fault.Memory) fault should = Unit {0}

-- the result of a step, and the fault that it should have
abbrev pub Leaves : {A : Type 0} → Result (Unit {0}) (ReadFault LibFault) → A → Option LibFault
    → A → Type 0
Leaves (Ok done) new fault should = (fault ≡ None) × (new ≡ should)
Leaves (Err (read_fault.Fault found)) new fault should = fault ≡ Some found
Leaves (Err read_fault.Memory) new fault should = Unit {0}

-- the expression of a text, with its pins and its depth, or the fault of its line if it spells none
abbrev pub Parses : Result Parsed (ReadFault LibFault) → ℕ → List ℕ → Type 0
Parses (Ok parsed) line text =
    (nodes_in text ≡ Some parsed.expr) × (parsed.pins ≡ pins_of text)
    × (parsed.depth ≡ depth_of text)
Parses (Err (read_fault.Fault fault)) line text = (nodes_in text ≡ None) × (fault ≡ BadExpr line)
Parses (Err read_fault.Memory) line text = Unit {0}

-- the library that was read, or the fault
abbrev pub Reads : Result (List Gate) (ReadFault LibFault) → Result (List Gate) LibFault → Type 0
Reads (Ok gates) should = should ≡ Ok gates
Reads (Err (read_fault.Fault fault)) should = should ≡ Err fault
Reads (Err read_fault.Memory) should = Unit {0}
