-- What every command keeps true of what is held and of what is written, what a command needs so
-- that it is done, and when it has one outcome. Source: the SIS manual (UCB/ERL M92/41), the
-- commands one by one; that each network refines what was read last is the project's own promise.
use Rattle.std.specs.Prelude.{◌≡◌, ◌⊎◌, ℕ, Bool, ◌<◌, ◌≤◌, Option, Some, None, unwrap_or, Result, Ok, Err, List, []}
use Rattle.sis_outside.specs.Calls.{Load, Save}
use Rattle.circuit_model.specs.Behaviors.{Behavior, RefinesAs}
use Rattle.circuit_model.specs.Runs.{of_circuit, Refines}
use Rattle.circuit_model.specs.Soundness.{IsSound}
use Rattle.circuit_model.specs.Text.{text_of}
use Rattle.circuit_model.specs.MachineBehaviors.{of_machine, of_spec}
use Rattle.circuit_model.specs.MachineSoundness.{IsSoundMachine}
use Rattle.circuit_model.specs.MachineText.{machine_text_of}
use Rattle.circuit_model.specs.declared.machine.Machine.{Machine}
use Rattle.circuit_model.specs.declared.machine.Spec.{Spec}
use Rattle.circuit_model.specs.declared.machine.Spec.TheVariants as spec
use Rattle.circuit_model.specs.Values.{driver}
use Rattle.circuit_model.specs.declared.circuit.Circuit.{Circuit}
use Rattle.circuit_model.specs.declared.circuit.Table.{Table}
use Rattle.net_candidates.specs.Extracting.{HasManyKernels}
use Rattle.genlib_format.specs.Reader.{library_of}
use Rattle.sis_script.specs.declared.command.Op.{Op}
use Rattle.sis_script.specs.declared.command.Op.TheVariants as command
use Rattle.sis_script.specs.declared.command.Change.{Change}
use Rattle.sis_base.specs.declared.limits.TheConstants.{MAX_INPUTS}
use Rattle.state_code.specs.Codes.{leaf_count}
use Rattle.sis_session.specs.Commands.{Changes, coding_of, Form, Reads, ReadsLibrary, Written, OfSpec, OfNetlist, Declines, MakesNetlist, Writes, TheMachine, TheNetlist, TheNetwork, form_of, spec_in}
use Rattle.sis_session.specs.Plan.{MAX_DEPTH, Asked, Nothing, OnStore, OnOut, OnInput, Plan, Quiet, Refuses, Ending, Refused, Cut}
use Rattle.netlist.specs.Netlists.{circuit_of, IsSoundNetlist}
use Rattle.netlist.specs.Lines.{netlist_text_of}
use Rattle.netlist.specs.Figures.{ArePartedBy}
use Rattle.map_net.specs.Mapping.{IsMapped}
use Rattle.sis_session.specs.Replies.{map_text}
use Rattle.sis_session.specs.State.{Held, Library, Netlist}
use Rattle.sis_session.specs.declared.refusal.Failed.TheVariants as failed
use Rattle.sis_session.specs.declared.refusal.Refusal.{Refusal}
use Rattle.sis_session.specs.declared.refusal.Refusal.TheVariants as refusal

-- a current circuit is sound and refines what was read last
abbrev pub RefinesSpec : Option Spec → Option Circuit → Type 0
RefinesSpec spec held =
    (circuit : Circuit) → held ≡ Some circuit
    → (read : Spec) × (spec ≡ Some read) × IsSound circuit × RefinesAs (of_spec read) (of_circuit circuit)

-- a current machine is sound and refines what was read last
abbrev pub MachineRefines : Option Spec → Option Machine → Type 0
MachineRefines spec held =
    (machine : Machine) → held ≡ Some machine
    → (read : Spec) × (spec ≡ Some read) × IsSoundMachine machine × RefinesAs (of_spec read) (of_machine machine)

-- a netlist is that of this network, by the current library; it is sound, its circuit refines the
-- network, and the areas of its trees are those of its gates
pub record IsMappedFrom (library : Option Library) (network : Option Circuit) (netlist : Netlist)
    : Type 0 where
  pub gates : Library
  pub circuit : Circuit
  pub has : library ≡ Some gates
  pub there : network ≡ Some circuit
  pub mapped : IsMapped circuit gates netlist
  pub sound : IsSoundNetlist gates netlist
  pub refines : Refines circuit (circuit_of gates netlist)
  pub parted : ArePartedBy gates netlist.trees netlist.gates

-- the same for a current netlist, if there is one
pub record HasMapped (library : Option Library) (network : Option Circuit) (held : Option Netlist)
    : Type 0 where
  pub each : (netlist : Netlist) → held ≡ Some netlist → IsMappedFrom library network netlist

-- the network, the previous one and the machine are sound and refine what was read last; the
-- netlists are those of the network and of the previous one
pub record IsRefined (spec : Option Spec) (held : Held) : Type 0 where
  pub network : RefinesSpec spec held.network
  pub previous : RefinesSpec spec held.previous
  pub machine : MachineRefines spec held.machine
  pub netlist : HasMapped held.library held.network held.netlist
  pub previous_netlist : HasMapped held.library held.previous held.previous_netlist

-- these bytes are the text of what is held: of the network, of the machine, or of the netlist
abbrev pub IsTextOf : Held → Written → List ℕ → Type 0
IsTextOf held (OfSpec (spec.Circuit circuit)) bytes =
    (held.network ≡ Some circuit) × (bytes ≡ text_of circuit)
IsTextOf held (OfSpec (spec.Machine machine)) bytes =
    (held.machine ≡ Some machine) × (bytes ≡ machine_text_of machine)
IsTextOf held (OfNetlist netlist) bytes =
    (held.netlist ≡ Some netlist) × (bytes ≡ netlist_text_of netlist)

-- if a netlist is written, it is the mapped one of the current network
abbrev pub IsOfHeld : Held → Written → Type 0
IsOfHeld held (OfSpec written) = Unit {0}
IsOfHeld held (OfNetlist netlist) = IsMappedFrom held.library held.network netlist

-- the behavior of what is written; that of a netlist by the current library (by one without gates
-- if there is none)
abbrev pub behavior_of : Held → Written → Behavior
behavior_of held (OfSpec written) = of_spec written
behavior_of held (OfNetlist netlist) = of_circuit (circuit_of (unwrap_or held.library []) netlist)

-- a command that writes a part of what is held
abbrev pub IsWriting : Form → Type 0
IsWriting (Writes part file) = Unit {0}
IsWriting other = ⊥

-- what a command writes to a file, or to the output
abbrev pub WritesTo : Option (List ℕ) → Form → Written → Type 0
WritesTo to (Writes TheNetwork file) (OfSpec (spec.Circuit circuit)) = file ≡ to
WritesTo to (Writes TheMachine file) (OfSpec (spec.Machine machine)) = file ≡ to
WritesTo to (Writes TheNetlist file) (OfNetlist netlist) = file ≡ to
WritesTo to other written = ⊥

-- a command that makes a netlist
abbrev pub IsMapping : Form → Type 0
IsMapping (MakesNetlist brief) = Unit {0}
IsMapping other = ⊥

-- these bytes are the areas of a mapped netlist of the current network
abbrev pub TellsAreas : Held → List ℕ → Type 0
TellsAreas held bytes = (brief : Bool) × (netlist : Netlist) × (bytes ≡ map_text brief netlist)
    × IsMappedFrom held.library held.network netlist

-- there is a network
abbrev pub HasNetwork : Option Circuit → Type 0
HasNetwork network = (circuit : Circuit) × (network ≡ Some circuit)

-- there is a machine
abbrev pub HasMachine : Option Machine → Type 0
HasMachine held = (machine : Machine) × (held ≡ Some machine)

-- there is a network, and a table of the name in it
abbrev pub HasTable : Option Circuit → List ℕ → Type 0
HasTable network name =
    (circuit : Circuit) × (network ≡ Some circuit) × (table : Table) × (driver circuit.tables name ≡ Some table)

-- there is a network, and in it a table of the name with no more kernels than are listed
abbrev pub HasKernels : Option Circuit → List ℕ → Type 0
HasKernels network name =
    (circuit : Circuit) × (network ≡ Some circuit) × (table : Table) × (driver circuit.tables name ≡ Some table)
    × (HasManyKernels table → ⊥)

-- nothing refuses a change of the network
abbrev pub Allows : Change → Circuit → Type 0
Allows change circuit = (why : Refusal) → Changes change circuit (Err why) → ⊥

-- What a command needs of what is held: its words fit, and its scripts are not nested too deep; the
-- network, the previous one or the machine is there, and the table that it names, with no more
-- kernels than are listed. The machine's network is not too wide. The netlist is there, or the
-- library, with nothing against a netlist; and nothing refuses the change.
abbrev pub HasNeeds : ℕ → Held → Op → Type 0
HasNeeds depth held (command.WriteBlif file) = HasNetwork held.network
HasNeeds depth held (command.WriteKiss file) = HasMachine held.machine
HasNeeds depth held command.PrintStats = HasNetwork held.network
HasNeeds depth held (command.Print None) = HasNetwork held.network
HasNeeds depth held (command.Print (Some name)) = HasTable held.network name
HasNeeds depth held command.PrintLatch = HasNetwork held.network
HasNeeds depth held (command.PrintFactor None) = HasNetwork held.network
HasNeeds depth held (command.PrintFactor (Some name)) = HasTable held.network name
HasNeeds depth held (command.PrintKernel name) = HasKernels held.network name
HasNeeds depth held (command.Change change) =
    (circuit : Circuit) × (held.network ≡ Some circuit) × Allows change circuit
HasNeeds depth held (command.StateAssign style) =
    (machine : Machine) × (held.machine ≡ Some machine)
    × (leaf_count (coding_of style) machine ≤ MAX_INPUTS)
HasNeeds depth held (command.WriteNetlist file) =
    (netlist : Netlist) × (held.netlist ≡ Some netlist)
HasNeeds depth held (command.Map brief) =
    (circuit : Circuit) × (library : Library) × (held.network ≡ Some circuit)
    × (held.library ≡ Some library) × ((why : Refusal) → Declines circuit library why → ⊥)
HasNeeds depth held command.Undo = HasNetwork held.previous
HasNeeds depth held (command.Source name) = depth < MAX_DEPTH
HasNeeds depth held (command.Bad fault) = ⊥
HasNeeds depth held other = Unit {0}

-- what a command needs of the bytes that it loads: they are read without a fault
abbrev pub HasBytes : Held → Form → List ℕ → Type 0
HasBytes held (Reads format name) bytes = (read : Spec) × (spec_in format held name bytes ≡ Ok read)
HasBytes held (ReadsLibrary name) bytes = (library : Library) × (library_of bytes ≡ Ok library)
HasBytes held other bytes = Unit {0}

-- each call was answered with what was asked
abbrev pub IsAnswered : Held → Form → Asked → Type 0
IsAnswered held form Nothing = Unit {0}
IsAnswered held form (OnStore (Load name max (Ok bytes))) = HasBytes held form bytes
IsAnswered held form (OnStore (Load name max (Err fault))) = ⊥
IsAnswered held form (OnStore (Save name bytes answer)) = answer ≡ Ok tt
IsAnswered held form (OnOut call) = call.answer ≡ Ok tt
IsAnswered held form (OnInput calls) = Unit {0}

-- a command has what it needs to be done
abbrev pub IsServed : ℕ → Held → Op → Asked → Type 0
IsServed depth held op asked = HasNeeds depth held op × IsAnswered held (form_of op) asked

-- some function is too big: for which signal of a network, and whether this happens, may depend on
-- how functions are built
abbrev pub RefusesTooBig : {A : Type 0} → Result A Refusal → Type 0
RefusesTooBig answer = (name : List ℕ) × (answer ≡ Err (refusal.TooBig name))

-- a change has one result for each network, unless a function is too big
abbrev pub ChangesOnce : Change → Type 0
ChangesOnce change =
    (old : Circuit) (one other : Result Circuit Refusal) → Changes change old one → Changes change old other
    → (one ≡ other) ⊎ (RefusesTooBig one ⊎ RefusesTooBig other)

-- two plans are equal, unless a function is too big
abbrev pub PlansTooBig : Plan → Type 0
PlansTooBig plan = (name : List ℕ) × (plan ≡ Quiet (Refuses (refusal.TooBig name)))

abbrev pub AreOnePlan : Plan → Plan → Type 0
AreOnePlan plan other = (plan ≡ other) ⊎ (PlansTooBig plan ⊎ PlansTooBig other)

-- two endings are equal, unless memory ran out or a function is too big
abbrev pub EndsTooBig : Ending → Type 0
EndsTooBig ending = (name : List ℕ) × (ending ≡ Refused (refusal.TooBig name))

abbrev pub EndsEarly : Ending → Type 0
EndsEarly ending = (ending ≡ Cut failed.Memory) ⊎ EndsTooBig ending

abbrev pub AreOneEnding : Ending → Ending → Type 0
AreOneEnding one other = (one ≡ other) ⊎ (EndsEarly one ⊎ EndsEarly other)
