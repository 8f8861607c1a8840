-- What is printed of a table as algebra: its factored form on a line, and its kernels, one on a
-- line. Source: the SIS manual (UCB/ERL M92/41), `print_factor` and `print_kernel`; Brayton,
-- Rudell, Sangiovanni-Vincentelli and Wang, "MIS: A Multiple-Level Logic Optimization System"
-- (1987), for both forms. What `print_factor` prints of a table whose rows give its off-set is the
-- project's own: the form is that of the rows, so it is the form of the complement.
use Rattle.std.specs.Prelude.{◌≡◌, ℕ, Bool, Option, List, [], ◌∷◌, ◌++◌, length, map, flat_map, codes}
use Rattle.circuit_model.specs.declared.circuit.Table.{Table}
use Rattle.alg_factor.specs.Forms.{Form, IsFactored}
use Rattle.alg_factor.specs.Texts.{literal_text, row_text, sum_text, form_text}
use Rattle.alg_kernel.specs.Kernels.{AreKernels}
use Rattle.net_decomp.specs.Partings.{rows_of}

-- a table and a form of its rows: the table's name, with `!` before it if the rows say when it is
-- 0, and the form
unfoldable pub form_line : Table → Form → List ℕ
form_line table form = literal_text table.phase table.output ++ (codes " = " ++ (form_text table.inputs form ++ codes "\n"))

-- the line of a table's factored form
abbrev pub IsFactorLine : Table → List ℕ → Type 0
IsFactorLine table line = (form : Form) × IsFactored (rows_of table) form × (line ≡ form_line table form)

-- the lines of tables, in order
unfoldable pub AreFactorLines : List Table → List ℕ → Type 0
AreFactorLines [] text = text ≡ []
AreFactorLines (table ∷ tables) text =
    (line : List ℕ) × (rest : List ℕ) × IsFactorLine table line × AreFactorLines tables rest × (text ≡ line ++ rest)

-- a kernel over some inputs: the sum of its cubes
abbrev pub kernel_line : List (List ℕ) → List (List (Option Bool)) → List ℕ
kernel_line names kernel = sum_text (map (row_text names) kernel) ++ codes "\n"

-- the lines of a table's kernels, in their order
abbrev pub AreKernelLines : Table → List ℕ → Type 0
AreKernelLines table text =
    (kernels : List (List (List (Option Bool)))) × AreKernels (length table.inputs) (rows_of table) kernels
    × (text ≡ flat_map (kernel_line table.inputs) kernels)
