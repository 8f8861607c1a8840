-- Worked words: what the list of commands makes of them, each by computing.
use Rattle.std.proofs.Common.{◌≡◌, true, false, Some, None, [], ◌∷◌, pos, negsuc, refl}
use Rattle.std.specs.Prelude.{codes}
use Rattle.std.specs.Str.{is_utf8, chars}
use Rattle.std.proofs.Math.Utf8.{encode}
use Rattle.sis_text.specs.Decimals.{number_of}
use Rattle.sis_script.specs.Bounds.{most_rows, usual_rows, least_inputs, most_inputs, usual_inputs, most_seed, least_tables, most_tables}
use Rattle.sis_script.specs.Kinds.{number_within, integer_of, value_of}
use Rattle.sis_script.specs.Grammar.{fill, parse_at, parse}
use Rattle.sis_script.specs.Script.{form_named, number_given, op_by, op_of}
use Rattle.sis_script.specs.declared.command.Op.TheVariants.{Echo, Quit, ReadBlif, ReadKiss, ReadLibrary, Generate, WriteBlif, WriteKiss, WriteNetlist, Map, PrintStats, Print, PrintLatch, PrintFactor, PrintKernel, Change, StateAssign, Undo, Source, Bad}
use Rattle.sis_script.specs.declared.command.Change.TheVariants.{Sweep, Eliminate, Collapse, Simplify, FullSimplify, Fx, Gkx, Gcx, Resub, Decomp, TechDecomp}
use Rattle.sis_script.specs.declared.command.Style.TheVariants.{Natural, OneHot}
use Rattle.sis_script.specs.declared.command.ScriptFault.TheVariants.{BadCommand, BadOption, MissingWord}

-- each word of the list is its command

no_word : op_of ([]) ≡ Bad BadCommand
unfolding op_of
no_word = refl

no_command : op_of (codes "frob" ∷ []) ≡ Bad BadCommand
unfolding op_of op_by form_named
no_command = refl

prefix : op_of (codes "print_" ∷ []) ≡ Bad BadCommand
unfolding op_of op_by form_named
prefix = refl

quits : op_of (codes "quit" ∷ []) ≡ Quit
unfolding op_of op_by form_named number_given parse fill
quits = refl

reads_blif : op_of (codes "read_blif" ∷ codes "a" ∷ []) ≡ ReadBlif (codes "a")
unfolding op_of op_by form_named number_given parse fill value_of is_utf8 chars encode
reads_blif = refl

reads_kiss : op_of (codes "read_kiss" ∷ codes "a" ∷ []) ≡ ReadKiss (codes "a")
unfolding op_of op_by form_named number_given parse fill value_of is_utf8 chars encode
reads_kiss = refl

reads_library : op_of (codes "read_library" ∷ codes "a" ∷ []) ≡ ReadLibrary (codes "a")
unfolding op_of op_by form_named number_given parse fill value_of is_utf8 chars encode
reads_library = refl

writes_blif : op_of (codes "write_blif" ∷ []) ≡ WriteBlif None
unfolding op_of op_by form_named number_given parse fill parse_at
writes_blif = refl

writes_blif_to : op_of (codes "write_blif" ∷ codes "a" ∷ []) ≡ WriteBlif (Some (codes "a"))
unfolding op_of op_by form_named number_given parse fill parse_at value_of is_utf8 chars encode
writes_blif_to = refl

writes_kiss : op_of (codes "write_kiss" ∷ []) ≡ WriteKiss None
unfolding op_of op_by form_named number_given parse fill
writes_kiss = refl

writes_kiss_to : op_of (codes "write_kiss" ∷ codes "a" ∷ []) ≡ WriteKiss (Some (codes "a"))
unfolding op_of op_by form_named number_given parse fill value_of is_utf8 chars encode
writes_kiss_to = refl

prints_stats : op_of (codes "print_stats" ∷ []) ≡ PrintStats
unfolding op_of op_by form_named number_given parse fill
prints_stats = refl

prints_all : op_of (codes "print" ∷ []) ≡ Print None
unfolding op_of op_by form_named number_given parse fill
prints_all = refl

prints_name : op_of (codes "print" ∷ codes "a" ∷ []) ≡ Print (Some (codes "a"))
unfolding op_of op_by form_named number_given parse fill value_of
prints_name = refl

prints_latches : op_of (codes "print_latch" ∷ []) ≡ PrintLatch
unfolding op_of op_by form_named number_given parse fill
prints_latches = refl

prints_factors : op_of (codes "print_factor" ∷ []) ≡ PrintFactor None
unfolding op_of op_by form_named number_given parse fill
prints_factors = refl

prints_factor : op_of (codes "print_factor" ∷ codes "a" ∷ []) ≡ PrintFactor (Some (codes "a"))
unfolding op_of op_by form_named number_given parse fill value_of
prints_factor = refl

prints_kernels : op_of (codes "print_kernel" ∷ codes "a" ∷ []) ≡ PrintKernel (codes "a")
unfolding op_of op_by form_named number_given parse fill value_of
prints_kernels = refl

undoes : op_of (codes "undo" ∷ []) ≡ Undo
unfolding op_of op_by form_named number_given parse fill
undoes = refl

runs_file : op_of (codes "source" ∷ codes "a" ∷ []) ≡ Source (codes "a")
unfolding op_of op_by form_named number_given parse fill value_of is_utf8 chars encode
runs_file = refl

echoes_nothing : op_of (codes "echo" ∷ []) ≡ Echo []
unfolding op_of op_by form_named
echoes_nothing = refl

echoes : op_of (codes "echo" ∷ codes "-n" ∷ codes "a" ∷ []) ≡ Echo (codes "-n" ∷ codes "a" ∷ [])
unfolding op_of op_by form_named
echoes = refl

sweeps : op_of (codes "sweep" ∷ []) ≡ Change Sweep
unfolding op_of op_by form_named number_given parse fill
sweeps = refl

collapses : op_of (codes "collapse" ∷ []) ≡ Change Collapse
unfolding op_of op_by form_named number_given parse fill
collapses = refl

simplifies : op_of (codes "simplify" ∷ []) ≡ Change Simplify
unfolding op_of op_by form_named number_given parse fill parse_at
simplifies = refl

extracts_two_cubes : op_of (codes "fx" ∷ []) ≡ Change Fx
unfolding op_of op_by form_named number_given parse fill
extracts_two_cubes = refl

extracts_kernels : op_of (codes "gkx" ∷ []) ≡ Change Gkx
unfolding op_of op_by form_named number_given parse fill
extracts_kernels = refl

extracts_cubes : op_of (codes "gcx" ∷ []) ≡ Change Gcx
unfolding op_of op_by form_named number_given parse fill
extracts_cubes = refl

resubstitutes : op_of (codes "resub" ∷ []) ≡ Change Resub
unfolding op_of op_by form_named number_given parse fill parse_at
resubstitutes = refl

decomposes : op_of (codes "decomp" ∷ []) ≡ Change Decomp
unfolding op_of op_by form_named number_given parse fill
decomposes = refl

-- words that are missing, are one too many, or are of another kind

file_lacks : op_of (codes "read_blif" ∷ []) ≡ Bad MissingWord
unfolding op_of op_by form_named parse fill
file_lacks = refl

file_is_option : op_of (codes "read_blif" ∷ codes "-n" ∷ []) ≡ Bad BadOption
unfolding op_of op_by form_named parse fill value_of is_utf8 chars encode
file_is_option = refl

name_lacks : op_of (codes "print_kernel" ∷ []) ≡ Bad MissingWord
unfolding op_of op_by form_named parse fill
name_lacks = refl

name_is_option : op_of (codes "print" ∷ codes "-x" ∷ []) ≡ Print (Some (codes "-x"))
unfolding op_of op_by form_named number_given parse fill value_of
name_is_option = refl

second_file : op_of (codes "write_blif" ∷ codes "a" ∷ codes "-n" ∷ []) ≡ Bad BadOption
unfolding op_of op_by form_named parse fill parse_at value_of is_utf8 chars encode
second_file = refl

word_for_none : op_of (codes "quit" ∷ codes "now" ∷ []) ≡ Bad BadOption
unfolding op_of op_by form_named parse fill
word_for_none = refl

-- `eliminate [-l ROWS] T`, where T is an integer

negative_alone :
    op_of (codes "eliminate" ∷ codes "-1" ∷ []) ≡
    Change (Eliminate (negsuc 0) usual_rows)
unfolding op_of op_by form_named number_given parse fill parse_at
    value_of number_within integer_of number_of
negative_alone = refl

negative_after :
    op_of (codes "eliminate" ∷ codes "-l" ∷ codes "5" ∷ codes "-1" ∷ []) ≡
    Change (Eliminate (negsuc 0) 5)
unfolding op_of op_by form_named number_given parse fill parse_at
    value_of number_within integer_of number_of
negative_after = refl

leading_zeros : op_of (codes "eliminate" ∷ codes "007" ∷ []) ≡ Change (Eliminate (pos 7) usual_rows)
unfolding op_of op_by form_named number_given parse fill parse_at
    value_of number_within integer_of number_of
leading_zeros = refl

negative_zero : op_of (codes "eliminate" ∷ codes "-0" ∷ []) ≡ Change (Eliminate (pos 0) usual_rows)
unfolding op_of op_by form_named number_given parse fill parse_at
    value_of number_within integer_of number_of
negative_zero = refl

least_integer :
    op_of (codes "eliminate" ∷ codes "-2147483648" ∷ []) ≡
    Change (Eliminate (negsuc 2147483647) usual_rows)
unfolding op_of op_by form_named number_given parse fill parse_at
    value_of number_within integer_of number_of
least_integer = refl

past_integers : op_of (codes "eliminate" ∷ codes "2147483648" ∷ []) ≡ Bad BadOption
unfolding op_of op_by form_named parse fill parse_at value_of number_within integer_of number_of
past_integers = refl

two_signs : op_of (codes "eliminate" ∷ codes "--1" ∷ []) ≡ Bad BadOption
unfolding op_of op_by form_named parse fill parse_at value_of number_within integer_of number_of
two_signs = refl

no_threshold : op_of (codes "eliminate" ∷ []) ≡ Bad MissingWord
unfolding op_of op_by form_named parse fill parse_at
no_threshold = refl

no_rows : op_of (codes "eliminate" ∷ codes "-l" ∷ []) ≡ Bad MissingWord
unfolding op_of op_by form_named parse fill parse_at
no_rows = refl

last_rows :
    op_of (codes "eliminate" ∷ codes "-l" ∷ codes "1000000" ∷ codes "1" ∷ []) ≡
    Change (Eliminate (pos 1) most_rows)
unfolding op_of op_by form_named number_given parse fill parse_at
    value_of number_within integer_of number_of
last_rows = refl

past_rows : op_of (codes "eliminate" ∷ codes "-l" ∷ codes "1000001" ∷ codes "1" ∷ []) ≡ Bad BadOption
unfolding op_of op_by form_named parse fill parse_at value_of number_within integer_of number_of
past_rows = refl

zero_rows : op_of (codes "eliminate" ∷ codes "-l" ∷ codes "0" ∷ codes "1" ∷ []) ≡ Bad BadOption
unfolding op_of op_by form_named parse fill parse_at value_of number_within integer_of number_of
zero_rows = refl

rows_twice :
    op_of (codes "eliminate" ∷ codes "-l" ∷ codes "5" ∷ codes "-l" ∷ codes "6" ∷ codes "1" ∷ []) ≡
    Bad BadOption
unfolding op_of op_by form_named parse fill parse_at value_of number_within integer_of number_of
rows_twice = refl

rows_late : op_of (codes "eliminate" ∷ codes "1" ∷ codes "-l" ∷ codes "5" ∷ []) ≡ Bad BadOption
unfolding op_of op_by form_named parse fill parse_at value_of number_within integer_of number_of
rows_late = refl

-- `tech_decomp [-a N] [-o N]`

no_bounds : op_of (codes "tech_decomp" ∷ []) ≡ Change (TechDecomp usual_inputs usual_inputs)
unfolding op_of op_by form_named number_given parse fill parse_at
no_bounds = refl

products_alone :
    op_of (codes "tech_decomp" ∷ codes "-a" ∷ codes "3" ∷ []) ≡
    Change (TechDecomp 3 usual_inputs)
unfolding op_of op_by form_named number_given parse fill parse_at value_of number_within number_of
products_alone = refl

any_order :
    op_of (codes "tech_decomp" ∷ codes "-o" ∷ codes "3" ∷ codes "-a" ∷ codes "4" ∷ []) ≡
    Change (TechDecomp 4 3)
unfolding op_of op_by form_named number_given parse fill parse_at value_of number_within number_of
any_order = refl

option_for_number :
    op_of (codes "tech_decomp" ∷ codes "-a" ∷ codes "-o" ∷ codes "3" ∷ []) ≡
    Bad BadOption
unfolding op_of op_by form_named parse fill parse_at value_of number_within number_of
option_for_number = refl

least_bound :
    op_of (codes "tech_decomp" ∷ codes "-a" ∷ codes "2" ∷ codes "-o" ∷ codes "1000" ∷ []) ≡
    Change (TechDecomp least_inputs most_inputs)
unfolding op_of op_by form_named number_given parse fill parse_at value_of number_within number_of
least_bound = refl

below_bound : op_of (codes "tech_decomp" ∷ codes "-a" ∷ codes "1" ∷ []) ≡ Bad BadOption
unfolding op_of op_by form_named parse fill parse_at value_of number_within number_of
below_bound = refl

past_bound : op_of (codes "tech_decomp" ∷ codes "-o" ∷ codes "1001" ∷ []) ≡ Bad BadOption
unfolding op_of op_by form_named parse fill parse_at value_of number_within number_of
past_bound = refl

word_too_many :
    op_of (codes "tech_decomp" ∷ codes "-a" ∷ codes "2" ∷ codes "x" ∷ []) ≡
    Bad BadOption
unfolding op_of op_by form_named parse fill parse_at value_of number_within number_of
word_too_many = refl

-- `simplify [-m nocomp]` and `resub [-a]`

method : op_of (codes "simplify" ∷ codes "-m" ∷ codes "nocomp" ∷ []) ≡ Change Simplify
unfolding op_of op_by form_named number_given parse fill parse_at value_of
method = refl

method_lacks : op_of (codes "simplify" ∷ codes "-m" ∷ []) ≡ Bad MissingWord
unfolding op_of op_by form_named parse fill parse_at
method_lacks = refl

other_method : op_of (codes "simplify" ∷ codes "-m" ∷ codes "comp" ∷ []) ≡ Bad BadOption
unfolding op_of op_by form_named parse fill parse_at value_of
other_method = refl

letter : op_of (codes "resub" ∷ codes "-a" ∷ []) ≡ Change Resub
unfolding op_of op_by form_named number_given parse fill parse_at
letter = refl

letter_twice : op_of (codes "resub" ∷ codes "-a" ∷ codes "-a" ∷ []) ≡ Bad BadOption
unfolding op_of op_by form_named parse fill parse_at
letter_twice = refl

other_letter : op_of (codes "resub" ∷ codes "-d" ∷ []) ≡ Bad BadOption
unfolding op_of op_by form_named parse fill parse_at
other_letter = refl

-- `gen SEED TABLES`

least_circuit : op_of (codes "gen" ∷ codes "0" ∷ codes "8" ∷ []) ≡ Generate 0 least_tables
unfolding op_of op_by form_named parse fill value_of number_within number_of
least_circuit = refl

greatest_circuit :
    op_of (codes "gen" ∷ codes "18446744073709551615" ∷ codes "20000" ∷ []) ≡
    Generate most_seed most_tables
unfolding op_of op_by form_named parse fill value_of number_within number_of
greatest_circuit = refl

past_seeds : op_of (codes "gen" ∷ codes "18446744073709551616" ∷ codes "8" ∷ []) ≡ Bad BadOption
unfolding op_of op_by form_named parse fill value_of number_within number_of
past_seeds = refl

negative_seed : op_of (codes "gen" ∷ codes "-1" ∷ codes "8" ∷ []) ≡ Bad BadOption
unfolding op_of op_by form_named parse fill value_of number_within number_of
negative_seed = refl

too_few_tables : op_of (codes "gen" ∷ codes "1" ∷ codes "7" ∷ []) ≡ Bad BadOption
unfolding op_of op_by form_named parse fill value_of number_within number_of
too_few_tables = refl

past_tables : op_of (codes "gen" ∷ codes "1" ∷ codes "20001" ∷ []) ≡ Bad BadOption
unfolding op_of op_by form_named parse fill value_of number_within number_of
past_tables = refl

no_tables : op_of (codes "gen" ∷ codes "5" ∷ []) ≡ Bad MissingWord
unfolding op_of op_by form_named parse fill value_of number_within number_of
no_tables = refl

no_seed : op_of (codes "gen" ∷ []) ≡ Bad MissingWord
unfolding op_of op_by form_named parse fill
no_seed = refl

third_word : op_of (codes "gen" ∷ codes "1" ∷ codes "8" ∷ codes "9" ∷ []) ≡ Bad BadOption
unfolding op_of op_by form_named parse fill value_of number_within number_of
third_word = refl

-- `state_assign [natural or onehot]`

usual_codes : op_of (codes "state_assign" ∷ []) ≡ StateAssign Natural
unfolding op_of op_by form_named parse fill
usual_codes = refl

natural_codes : op_of (codes "state_assign" ∷ codes "natural" ∷ []) ≡ StateAssign Natural
unfolding op_of op_by form_named parse fill value_of
natural_codes = refl

one_hot_codes : op_of (codes "state_assign" ∷ codes "onehot" ∷ []) ≡ StateAssign OneHot
unfolding op_of op_by form_named parse fill value_of
one_hot_codes = refl

other_codes : op_of (codes "state_assign" ∷ codes "gray" ∷ []) ≡ Bad BadOption
unfolding op_of op_by form_named parse fill value_of
other_codes = refl

second_style : op_of (codes "state_assign" ∷ codes "onehot" ∷ codes "onehot" ∷ []) ≡ Bad BadOption
unfolding op_of op_by form_named parse fill value_of
second_style = refl

-- `full_simplify [-m nocomp]`

simplifies_fully : op_of (codes "full_simplify" ∷ []) ≡ Change FullSimplify
unfolding op_of op_by form_named number_given parse fill parse_at
simplifies_fully = refl

full_method :
    op_of (codes "full_simplify" ∷ codes "-m" ∷ codes "nocomp" ∷ []) ≡ Change FullSimplify
unfolding op_of op_by form_named parse fill parse_at value_of
full_method = refl

-- `map [-m 0] [-s]` and `write_blif [-n] [FILE]`

maps : op_of (codes "map" ∷ []) ≡ Map false
unfolding op_of op_by form_named number_given parse fill parse_at
maps = refl

maps_by_area : op_of (codes "map" ∷ codes "-m" ∷ codes "0" ∷ []) ≡ Map false
unfolding op_of op_by form_named parse fill parse_at value_of number_within number_of
maps_by_area = refl

maps_short : op_of (codes "map" ∷ codes "-s" ∷ codes "-m" ∷ codes "0" ∷ []) ≡ Map true
unfolding op_of op_by form_named parse fill parse_at value_of number_within number_of
maps_short = refl

maps_by_delay : op_of (codes "map" ∷ codes "-m" ∷ codes "1" ∷ []) ≡ Bad BadOption
unfolding op_of op_by form_named parse fill parse_at value_of number_within number_of
maps_by_delay = refl

writes_netlist : op_of (codes "write_blif" ∷ codes "-n" ∷ []) ≡ WriteNetlist None
unfolding op_of op_by form_named number_given parse fill parse_at
writes_netlist = refl

writes_netlist_to :
    op_of (codes "write_blif" ∷ codes "-n" ∷ codes "a" ∷ []) ≡ WriteNetlist (Some (codes "a"))
unfolding op_of op_by form_named parse fill parse_at value_of is_utf8 chars encode
writes_netlist_to = refl

late_option : op_of (codes "write_blif" ∷ codes "a" ∷ codes "-n" ∷ []) ≡ Bad BadOption
unfolding op_of op_by form_named parse fill parse_at value_of is_utf8 chars encode
late_option = refl
