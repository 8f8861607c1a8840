-- The commands one by one: the form of each, and the plans of a form. A new command is a new case.
-- Source: the SIS manual (UCB/ERL M92/41), the commands; the order of refusals is the project's
-- own: a command's words, then the nesting of scripts, then the parts that it needs, then names,
-- then the file that it loads, then what is read of it, then the command's own limits.
use Rattle.std.specs.Prelude.{◌≡◌, ◌⊎◌, ℕ, Bool, Option, Some, None, Result, Ok, Err, List, [], nat_le, nat_lt, min, flat_map, map, if◌then◌else◌}
use Rattle.sis_base.specs.Written.{lines_text}
use Rattle.sis_text.specs.Entries.{entries_of, script_entries_of}
use Rattle.circuit_model.specs.Text.{text_of, table_lines, latch_line}
use Rattle.circuit_model.specs.Values.{driver}
use Rattle.circuit_model.specs.declared.circuit.Circuit.{Circuit}
use Rattle.circuit_model.specs.declared.circuit.Table.{Table}
use Rattle.circuit_model.specs.MachineText.{machine_text_of}
use Rattle.circuit_gen.specs.Generated.{generated}
use Rattle.circuit_model.specs.declared.machine.Machine.{Machine}
use Rattle.circuit_model.specs.declared.machine.Spec.{Spec}
use Rattle.circuit_model.specs.declared.machine.Spec.TheVariants as spec
use Rattle.blif_read.specs.Reader.{read_lines}
use Rattle.kiss_format.specs.Reader.{read_machine_lines}
use Rattle.genlib_format.specs.Reader.{library_of}
use Rattle.genlib_format.specs.declared.fault.LibFault.{LibFault}
use Rattle.kiss_format.specs.declared.fault.KissFault.{KissFault}
use Rattle.blif_lines.specs.declared.fault.BlifFault.{BlifFault}
use Rattle.circuit_laws.specs.Chains.{Chain}
use Rattle.sis_session.specs.Told.{IsFactorLine, AreFactorLines, AreKernelLines}
use Rattle.net_wires.specs.Rules.{sweep_step}
use Rattle.alg_tables.specs.declared.taking.ComposeFault.{ComposeFault}
use Rattle.alg_tables.specs.declared.taking.ComposeFault.TheVariants.{CubeLimit, TooWide}
use Rattle.net_elim.specs.Eliminating.{eliminate_step}
use Rattle.sdc_simplify.specs.Simplified.{simplified, simplify_refusal}
use Rattle.odc_simplify.specs.Turns.{HasFullySimplified}
use Rattle.odc_simplify.specs.declared.fault.FullFault.TheVariants as unsimplified
use Rattle.net_candidates.specs.Extracting.{IsExtracted, IsUnlistable, IsFull as IsExtractionFull, HasManyKernels}
use Rattle.net_candidates.specs.declared.rule.Rule.{Rule as Extraction}
use Rattle.net_candidates.specs.declared.rule.Rule.TheVariants as extract
use Rattle.net_resub.specs.Resubbed.{IsResubbed}
use Rattle.net_decomp.specs.Decomposed.{IsDecomposed, IsFull}
use Rattle.net_decomp.specs.declared.rule.Rule.{Rule}
use Rattle.net_decomp.specs.declared.rule.Rule.TheVariants.{Shared, Gates}
use Rattle.net_elim.specs.Collapsing.{collapsed, collapse_refusal}
use Rattle.sis_base.specs.declared.limits.TheConstants.{MAX_INPUTS}
use Rattle.state_code.specs.Codes.{leaf_count}
use Rattle.state_code.specs.Codes.{codes_of}
use Rattle.state_code.specs.Encoded.{encoded}
use Rattle.state_code.specs.declared.codes.Style.{Style as Coding}
use Rattle.state_code.specs.declared.codes.Style.TheVariants as coded
use Rattle.circuit_model.specs.Soundness.{IsSound}
use Rattle.genlib_format.specs.Soundness.{IsSoundGates}
use Rattle.netlist.specs.Lines.{netlist_text_of}
use Rattle.map_net.specs.Mapping.{Maps}
use Rattle.map_net.specs.declared.mapping.MapFault.{MapFault}
use Rattle.map_net.specs.declared.mapping.MapFault.TheVariants as unmapped
use Rattle.sis_script.specs.Bounds.{most_tables}
use Rattle.sis_script.specs.Script.{command_of}
use Rattle.sis_script.specs.declared.command.Command.{Command}
use Rattle.sis_script.specs.declared.command.Change.{Change}
use Rattle.sis_script.specs.declared.command.Change.TheVariants as changing
use Rattle.sis_script.specs.declared.command.Style.{Style}
use Rattle.sis_script.specs.declared.command.Style.TheVariants as style
use Rattle.sis_script.specs.declared.command.Op.{Op}
use Rattle.sis_script.specs.declared.command.Op.TheVariants as command
use Rattle.sis_script.specs.declared.command.ScriptFault.{ScriptFault}
use Rattle.sis_session.specs.Plan.{MAX_DEPTH, MAX_FUNCTION, Outcome, Does, Refuses, Plan, Quiet, Loads, Reply, sends}
use Rattle.sis_session.specs.Replies.{stats_line, echo_line, codes_text, map_text}
use Rattle.sis_session.specs.State.{Held, Library, with_read, with_spec, held_spec, with_library, with_changed, with_encoded, with_exchanged, with_mapped, Netlist}
use Rattle.sis_session.specs.declared.refusal.Next.TheVariants as next
use Rattle.sis_session.specs.declared.refusal.Refusal.{Refusal}
use Rattle.sis_session.specs.declared.refusal.Refusal.TheVariants as refusal

-- the commands of a script's text
abbrev pub commands_in : List ℕ → List Command
commands_in text = map command_of (script_entries_of text)

-- the formats of circuits and machines
pub data Format : Type 0 where
  Blif : Format
  Kiss : Format

-- the result of reading a format, or the fault that its reader finds
abbrev pub blif_read : List ℕ → Result Spec BlifFault → Result Spec Refusal
blif_read name (Ok read) = Ok read
blif_read name (Err fault) = Err (refusal.Blif name fault)

abbrev pub kiss_read : List ℕ → Result Machine KissFault → Result Spec Refusal
kiss_read name (Ok machine) = Ok (spec.Machine machine)
kiss_read name (Err fault) = Err (refusal.Kiss name fault)

-- what the bytes of a file are read as: for BLIF a circuit or a machine, by the current library;
-- for KISS2 a machine
abbrev pub spec_in : Format → Held → List ℕ → List ℕ → Result Spec Refusal
spec_in Blif held name bytes = blif_read name (read_lines held.library (entries_of bytes))
spec_in Kiss held name bytes = kiss_read name (read_machine_lines (entries_of bytes))

-- what was read becomes current, or its fault is the refusal
abbrev pub spec_held : Held → Result Spec Refusal → Outcome
spec_held held (Ok read) = Does (with_spec held read) next.Go
spec_held held (Err why) = Refuses why

-- a library that was read becomes current, or its fault is the refusal
abbrev pub library_held : Held → List ℕ → Result Library LibFault → Outcome
library_held held name (Ok library) = Does (with_library held library) next.Go
library_held held name (Err fault) = Refuses (refusal.Lib name fault)

-- `gen`: the circuit of a seed and a number of tables. The cap changes nothing, since the grammar
-- lets no greater number pass; it says that the circuit is within the limits.
abbrev pub circuit_of : ℕ → ℕ → Circuit
circuit_of seed tables = generated seed (min tables most_tables)

-- what a command writes: the network, the machine or the netlist
pub data Part : Type 0 where
  TheNetwork : Part
  TheMachine : Part
  TheNetlist : Part

-- what is written: a circuit or a machine as it is, or a netlist over the current library
pub data Written : Type 0 where
  OfSpec : Spec → Written
  OfNetlist : Netlist → Written

-- the network, or the refusal if there is none; the same for the machine and the netlist
abbrev pub network_of : Option Circuit → Result Written Refusal
network_of None = Err refusal.NoNetwork
network_of (Some circuit) = Ok (OfSpec (spec.Circuit circuit))

abbrev pub machine_of : Option Machine → Result Written Refusal
machine_of None = Err refusal.NoMachine
machine_of (Some machine) = Ok (OfSpec (spec.Machine machine))

abbrev pub netlist_of : Option Netlist → Result Written Refusal
netlist_of None = Err refusal.NotMapped
netlist_of (Some netlist) = Ok (OfNetlist netlist)

abbrev pub part_of : Part → Held → Result Written Refusal
part_of TheNetwork held = network_of held.network
part_of TheMachine held = machine_of held.machine
part_of TheNetlist held = netlist_of held.netlist

-- the text of a circuit, of a machine, and of a netlist
abbrev pub text_of_written : Written → List ℕ
text_of_written (OfSpec (spec.Circuit circuit)) = text_of circuit
text_of_written (OfSpec (spec.Machine machine)) = machine_text_of machine
text_of_written (OfNetlist netlist) = netlist_text_of netlist

abbrev pub written_text : Result Written Refusal → Result (List ℕ) Refusal
written_text (Ok written) = Ok (text_of_written written)
written_text (Err why) = Err why

-- a text is the reply, and what is held stays; or the refusal
abbrev pub reply_with : Held → Result (List ℕ) Refusal → Result Reply Refusal
reply_with held (Ok text) = Ok (record { text = text; held = held })
reply_with held (Err why) = Err why

-- what may be printed of the network if a relation says it, or the refusal if there is none
abbrev pub ToldBy : (Circuit → Result (List ℕ) Refusal → Type 0) → Option Circuit → Result (List ℕ) Refusal → Type 0
ToldBy tells None what = what ≡ Err refusal.NoNetwork
ToldBy tells (Some circuit) what = tells circuit what

-- `print` of a name: its table as it is written, or a refusal if there is none
abbrev pub named_told : List ℕ → Option Table → Result (List ℕ) Refusal
named_told name None = Err (refusal.NoSignal name)
named_told name (Some table) = Ok (lines_text (table_lines table))

-- `print`: all tables as they are written, or the one that is named
abbrev pub tables_told : Option (List ℕ) → Circuit → Result (List ℕ) Refusal
tables_told None circuit = Ok (lines_text (flat_map table_lines circuit.tables))
tables_told (Some name) circuit = named_told name (driver circuit.tables name)

-- `print_latch`: the latches as they are written
abbrev pub latches_told : Circuit → Result (List ℕ) Refusal
latches_told circuit = Ok (lines_text (map (latch_line circuit.timing) circuit.latches))

-- `print_stats`: one line of numbers
abbrev pub stats_told : Circuit → Result (List ℕ) Refusal
stats_told circuit = Ok (stats_line circuit)

-- exactly this is printed
abbrev pub Just : {A : Type 0} → (A → Result (List ℕ) Refusal) → A → Result (List ℕ) Refusal → Type 0
Just told of what = told of ≡ what

-- `print_factor` of a name: the line of its table's factored form, or a refusal if there is none
abbrev pub FactorTold : List ℕ → Option Table → Result (List ℕ) Refusal → Type 0
FactorTold name None what = what ≡ Err (refusal.NoSignal name)
FactorTold name (Some table) what = (line : List ℕ) × IsFactorLine table line × (what ≡ Ok line)

-- `print_factor`: the lines of all tables, or that of the one that is named
abbrev pub FactorsTold : Option (List ℕ) → Circuit → Result (List ℕ) Refusal → Type 0
FactorsTold None circuit what = (text : List ℕ) × AreFactorLines circuit.tables text × (what ≡ Ok text)
FactorsTold (Some name) circuit what = FactorTold name (driver circuit.tables name) what

-- what is printed of a table's kernels: their lines, or a refusal exactly if there are more than
-- are listed
abbrev pub KernelsOf : List ℕ → Table → Result (List ℕ) Refusal → Type 0
KernelsOf name table (Ok text) = AreKernelLines table text × (HasManyKernels table → ⊥)
KernelsOf name table (Err why) = (why ≡ refusal.KernelLimit name) × HasManyKernels table

-- the same for the table of a name, or a refusal if there is none
abbrev pub KernelTold : List ℕ → Option Table → Result (List ℕ) Refusal → Type 0
KernelTold name None what = what ≡ Err (refusal.NoSignal name)
KernelTold name (Some table) what = KernelsOf name table what

-- `print_kernel`: the kernels of the table that is named
abbrev pub KernelsTold : List ℕ → Circuit → Result (List ℕ) Refusal → Type 0
KernelsTold name circuit what = KernelTold name (driver circuit.tables name) what

-- why a network is not collapsed: a table into which another cannot be eliminated
abbrev pub IsCollapseRefusal : Option (List ℕ × ComposeFault) → Refusal → Type 0
IsCollapseRefusal (Some (name, CubeLimit)) why = why ≡ refusal.CubeLimit name
IsCollapseRefusal (Some (name, TooWide count)) why = why ≡ refusal.TooWide name count
IsCollapseRefusal other why = ⊥

-- why a network is not simplified: a table whose list of rows is too long
abbrev pub IsSimplifyRefusal : Option (List ℕ) → Refusal → Type 0
IsSimplifyRefusal (Some name) why = why ≡ refusal.CubeLimit name
IsSimplifyRefusal None why = ⊥

-- why a network is not fully simplified: when a table's turn comes, its list of rows is too long or
-- a function is too big
abbrev pub IsFullRefusal : Circuit → Refusal → Type 0
IsFullRefusal old why =
    (name : List ℕ)
    × ((HasFullySimplified MAX_FUNCTION old (Err (unsimplified.CubeLimit name))
    × (why ≡ refusal.CubeLimit name))
    ⊎ (HasFullySimplified MAX_FUNCTION old (Err (unsimplified.TooBig name))
    × (why ≡ refusal.TooBig name)))

-- a network is decomposed by a rule, or there is no room for a table that is needed
abbrev pub Decomposes : Rule → Circuit → Result Circuit Refusal → Type 0
Decomposes rule old (Ok new) = IsDecomposed rule old new
Decomposes rule old (Err why) = IsFull rule old × (why ≡ refusal.NodeLimit)

-- why a network is not extracted by a rule: its steps reach a first table with too many kernels, or
-- a network that has no room for the next table
abbrev pub IsExtractionRefusal : Extraction → Circuit → Refusal → Type 0
IsExtractionRefusal rule old why =
    ((name : List ℕ) × IsUnlistable rule old name × (why ≡ refusal.KernelLimit name))
    ⊎ (IsExtractionFull rule old × (why ≡ refusal.NodeLimit))

-- a network is extracted by a rule, or refused
abbrev pub Extracts : Extraction → Circuit → Result Circuit Refusal → Type 0
Extracts rule old (Ok new) = IsExtracted rule old new
Extracts rule old (Err why) = IsExtractionRefusal rule old why

-- What a command that changes the network makes of it: a new network, or a refusal. `sweep`,
-- `eliminate`: steps are taken until none applies. `collapse`: all tables are eliminated into their
-- fanouts, or the first that is impossible is reported. `simplify`, `full_simplify`: each table is
-- minimized in its turn, or the first whose list is too long is reported, or one with a function
-- that is too big. `fx`, `gkx`, `gcx`: candidates become tables as long as one saves literals, or
-- the first table with too many kernels is reported, or there is no room. `resub`: tables are
-- divided by others as long as that saves literals. `decomp`, `tech_decomp`: tables are decomposed
-- until all are done, or there is no room.
abbrev pub Changes : Change → Circuit → Result Circuit Refusal → Type 0
Changes changing.Sweep old (Ok new) = Chain sweep_step old new
Changes changing.Sweep old (Err why) = ⊥
Changes (changing.Eliminate threshold rows) old (Ok new) = Chain (eliminate_step threshold rows) old new
Changes (changing.Eliminate threshold rows) old (Err why) = ⊥
Changes changing.Collapse old (Ok new) = (collapse_refusal old ≡ None) × (new ≡ collapsed old)
Changes changing.Collapse old (Err why) = IsCollapseRefusal (collapse_refusal old) why
Changes changing.Simplify old (Ok new) = (simplify_refusal old ≡ None) × (new ≡ simplified old)
Changes changing.Simplify old (Err why) = IsSimplifyRefusal (simplify_refusal old) why
Changes changing.FullSimplify old (Ok new) = HasFullySimplified MAX_FUNCTION old (Ok new)
Changes changing.FullSimplify old (Err why) = IsFullRefusal old why
Changes changing.Fx old what = Extracts extract.Fx old what
Changes changing.Gkx old what = Extracts extract.Gkx old what
Changes changing.Gcx old what = Extracts extract.Gcx old what
Changes changing.Resub old (Ok new) = IsResubbed old new
Changes changing.Resub old (Err why) = ⊥
Changes changing.Decomp old what = Decomposes Shared old what
Changes (changing.TechDecomp products sums) old what = Decomposes (Gates products sums) old what

-- the reply to a change: the new network becomes current, and the old one is the previous one;
-- nothing is printed
abbrev pub reply_changed : Held → Result Circuit Refusal → Result Reply Refusal
reply_changed held (Ok new) = Ok (record { text = []; held = with_changed held new })
reply_changed held (Err why) = Err why

-- the possible replies to a command that changes the network
abbrev pub ChangedBy : Held → Change → Option Circuit → Result Reply Refusal → Type 0
ChangedBy held change None reply = reply ≡ Err refusal.NoNetwork
ChangedBy held change (Some old) reply =
    (answer : Result Circuit Refusal) × Changes change old answer × (reply ≡ reply_changed held answer)

-- `map`: a reason against a netlist as a refusal; want of memory is not one
abbrev pub refusal_of : MapFault → Option Refusal
refusal_of unmapped.NoInverter = Some refusal.NoInverter
refusal_of unmapped.NoNand = Some refusal.NoNand
refusal_of unmapped.TreeLimit = Some refusal.TreeLimit
refusal_of unmapped.NodeLimit = Some refusal.NodeLimit
refusal_of unmapped.Memory = None

-- `map` is refused for the first reason against a netlist
abbrev pub Declines : Circuit → Library → Refusal → Type 0
Declines circuit library why =
    (reason : MapFault) × (refusal_of reason ≡ Some why) × Maps circuit library (Err reason)

-- `map`: the areas of a netlist are printed, and then it becomes current; or the first reason
-- against it. The circuit that is mapped is sound, and so is the library.
abbrev pub MapsNetwork : Bool → Held → Circuit → Library → Result Reply Refusal → Type 0
MapsNetwork brief held circuit library (Ok reply) =
    IsSound circuit × IsSoundGates library × (netlist : Netlist) × Maps circuit library (Ok netlist)
    × (reply ≡ record { text = map_text brief netlist; held = with_mapped held netlist })
MapsNetwork brief held circuit library (Err why) =
    IsSound circuit × IsSoundGates library × Declines circuit library why

-- the same for the current network and library, or the refusal if there is none
abbrev pub MappedBy : Bool → Held → Option Circuit → Option Library → Result Reply Refusal → Type 0
MappedBy brief held None library reply = reply ≡ Err refusal.NoNetwork
MappedBy brief held (Some circuit) None reply = reply ≡ Err refusal.NoLibrary
MappedBy brief held (Some circuit) (Some library) reply =
    MapsNetwork brief held circuit library reply

-- the coding that a style names
abbrev pub coding_of : Style → Coding
coding_of style.Natural = coded.Natural
coding_of style.OneHot = coded.OneHot

-- `state_assign`: the codes are printed, and then the machine's network becomes current; or its
-- inputs and state bits are too many
abbrev pub encoded_by : Coding → Held → Machine → Result Reply Refusal
encoded_by coding held machine =
    if nat_le (leaf_count coding machine) MAX_INPUTS
    then Ok (record {
      text = codes_text (codes_of coding machine);
      held = with_encoded held held.network (encoded coding machine);
    })
    else Err (refusal.TooWide machine.name (leaf_count coding machine))

-- the same for the current machine, or the refusal if there is none
abbrev pub encoded_reply : Coding → Held → Option Machine → Result Reply Refusal
encoded_reply coding held None = Err refusal.NoMachine
encoded_reply coding held (Some machine) = encoded_by coding held machine

-- `undo`: the network and the previous one are exchanged
abbrev pub undo_outcome : Held → Option Circuit → Outcome
undo_outcome held None = Refuses refusal.NothingToUndo
undo_outcome held (Some circuit) = Does (with_exchanged held) next.Go

-- `source`: the file's commands come next, unless scripts are nested too deep
abbrev pub source_plan : ℕ → Held → List ℕ → Plan
source_plan depth held name =
    if nat_lt depth MAX_DEPTH
    then Loads name (λ bytes. Does held (next.Script (commands_in bytes)))
    else Quiet (Refuses refusal.Nested)

-- What a command does, by its form: it prints something of what is held; it writes a part of it to
-- a file or to the output; it reads a file as a circuit or a machine, or as a library; it makes the
-- circuit of a seed, which is held like one that was read; it changes the network; it makes a
-- network of the machine by codes of its states; it makes a netlist of the network; it undoes a
-- change; it runs a script next; it ends the script; or its words are wrong.
pub data Form : Type 1 where
  Tells : (tells : Held → Result (List ℕ) Refusal → Type 0) → Form
  Writes : (part : Part) (file : Option (List ℕ)) → Form
  Reads : (format : Format) (file : List ℕ) → Form
  ReadsLibrary : (file : List ℕ) → Form
  Generates : (seed tables : ℕ) → Form
  ChangesNetwork : (change : Change) → Form
  EncodesMachine : (style : Style) → Form
  MakesNetlist : (brief : Bool) → Form
  TakesBack : Form
  Sources : (file : List ℕ) → Form
  Ends : Form
  IsWrong : (fault : ScriptFault) → Form

-- the form of each command
abbrev pub form_of : Op → Form
form_of (command.Echo words) = Tells (λ held. Just (λ line. Ok line) (echo_line words))
form_of command.Quit = Ends
form_of (command.ReadBlif name) = Reads Blif name
form_of (command.ReadKiss name) = Reads Kiss name
form_of (command.ReadLibrary name) = ReadsLibrary name
form_of (command.Generate seed tables) = Generates seed tables
form_of (command.WriteBlif file) = Writes TheNetwork file
form_of (command.WriteKiss file) = Writes TheMachine file
form_of (command.WriteNetlist file) = Writes TheNetlist file
form_of (command.Map brief) = MakesNetlist brief
form_of command.PrintStats = Tells (λ held. ToldBy (Just stats_told) held.network)
form_of (command.Print name) = Tells (λ held. ToldBy (Just (tables_told name)) held.network)
form_of command.PrintLatch = Tells (λ held. ToldBy (Just latches_told) held.network)
form_of (command.PrintFactor name) = Tells (λ held. ToldBy (FactorsTold name) held.network)
form_of (command.PrintKernel name) = Tells (λ held. ToldBy (KernelsTold name) held.network)
form_of (command.Change change) = ChangesNetwork change
form_of (command.StateAssign style) = EncodesMachine style
form_of command.Undo = TakesBack
form_of (command.Source name) = Sources name
form_of (command.Bad fault) = IsWrong fault

-- one of the possible replies is printed, and then its parts are held; or it is the refusal
abbrev pub Replies : (Result Reply Refusal → Type 0) → Plan → Type 0
Replies may plan = (reply : Result Reply Refusal) × may reply × (plan ≡ sends None reply)

-- what is printed, with what is held, which stays
abbrev pub StaysTold : Held → (Result (List ℕ) Refusal → Type 0) → Result Reply Refusal → Type 0
StaysTold held tells reply =
    (what : Result (List ℕ) Refusal) × tells what × (reply ≡ reply_with held what)

-- the plans of a form, inside so many sourced scripts, with this held
abbrev pub FormPlans : ℕ → Held → Form → Plan → Type 0
FormPlans depth held (Tells tells) plan = Replies (StaysTold held (tells held)) plan
FormPlans depth held (Writes part file) plan =
    plan ≡ sends file (reply_with held (written_text (part_of part held)))
FormPlans depth held (Reads format name) plan =
    plan ≡ Loads name (λ bytes. spec_held held (spec_in format held name bytes))
FormPlans depth held (ReadsLibrary name) plan =
    plan ≡ Loads name (λ bytes. library_held held name (library_of bytes))
FormPlans depth held (Generates seed tables) plan =
    plan ≡ Quiet (Does (with_read held (circuit_of seed tables)) next.Go)
FormPlans depth held (ChangesNetwork change) plan = Replies (ChangedBy held change held.network) plan
FormPlans depth held (EncodesMachine style) plan =
    plan ≡ sends None (encoded_reply (coding_of style) held held.machine)
FormPlans depth held (MakesNetlist brief) plan =
    Replies (MappedBy brief held held.network held.library) plan
FormPlans depth held TakesBack plan = plan ≡ Quiet (undo_outcome held held.previous)
FormPlans depth held (Sources name) plan = plan ≡ source_plan depth held name
FormPlans depth held Ends plan = plan ≡ Quiet (Does held next.Quit)
FormPlans depth held (IsWrong fault) plan = plan ≡ Quiet (Refuses (refusal.Script fault))

-- the plans of a command
abbrev pub Plans : ℕ → Held → Op → Plan → Type 0
Plans depth held op plan = FormPlans depth held (form_of op) plan

-- what was read last, after a command that is done and after which this is held
abbrev pub read_by : Form → Held → Option Spec → Option Spec
read_by (Reads format name) held read = held_spec held.network held.machine
read_by (Generates seed tables) held read = held_spec held.network held.machine
read_by other held read = read

abbrev pub last_read : Op → Held → Option Spec → Option Spec
last_read op held read = read_by (form_of op) held read
