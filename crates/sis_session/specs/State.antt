-- What a session holds between two commands, what it read last, and what it writes. Source: the SIS
-- manual (UCB/ERL M92/41): a shell has one current network, finite-state machine, library and
-- mapped netlist, and `undo` undoes the last change.
use Rattle.std.specs.Prelude.{Option, Some, None, List}
use Rattle.circuit_model.specs.declared.circuit.Circuit.{Circuit}
use Rattle.circuit_model.specs.declared.machine.Machine.{Machine}
use Rattle.circuit_model.specs.declared.machine.Spec.{Spec}
use Rattle.circuit_model.specs.declared.machine.Spec.TheVariants as spec
use Rattle.genlib_format.specs.declared.gate.Gate.{Gate}
use Rattle.netlist.specs.declared.mapped.Mapped.{Mapped}

-- a library: its gates, in order
abbrev pub Library : Type 0
Library = List Gate

-- a mapped netlist
abbrev pub Netlist : Type 0
Netlist = Mapped

-- the network and its netlist by the library, and the previous ones, as they were before the last
-- change; the machine and the library
pub record Held : Type 0 where
  pub network : Option Circuit
  pub previous : Option Circuit
  pub machine : Option Machine
  pub library : Option Library
  pub netlist : Option Netlist
  pub previous_netlist : Option Netlist

-- these parts, each if it is there
abbrev pub parts_held : Option Circuit → Option Circuit → Option Machine → Option Library
    → Option Netlist → Option Netlist → Held
parts_held network previous machine library netlist previous_netlist = record {
  network = network;
  previous = previous;
  machine = machine;
  library = library;
  netlist = netlist;
  previous_netlist = previous_netlist;
}

-- what a new session holds
abbrev pub nothing_held : Held
nothing_held = parts_held None None None None None None

-- a circuit that was read becomes the network; except for the library nothing else is held, and
-- there is nothing to undo
abbrev pub with_read : Held → Circuit → Held
with_read held circuit = record held { network = Some circuit; previous = None; machine = None; netlist = None; previous_netlist = None }

-- a machine that was read is held; except for the library nothing else is, and there is nothing to
-- undo
abbrev pub with_machine : Held → Machine → Held
with_machine held machine = record held { network = None; previous = None; machine = Some machine; netlist = None; previous_netlist = None }

-- the circuit or machine of a file is held
abbrev pub with_spec : Held → Spec → Held
with_spec held (spec.Circuit circuit) = with_read held circuit
with_spec held (spec.Machine machine) = with_machine held machine

-- what is held of what was read: the network, or else the machine
abbrev pub held_spec : Option Circuit → Option Machine → Option Spec
held_spec (Some circuit) machine = Some (spec.Circuit circuit)
held_spec None None = None
held_spec None (Some machine) = Some (spec.Machine machine)

-- a library that was read is held, and no netlist over the one before
abbrev pub with_library : Held → Library → Held
with_library held library = record held { library = Some library; netlist = None; previous_netlist = None }

-- a new network replaces the current one, which becomes the previous one with its netlist; the new
-- one has none
abbrev pub with_changed : Held → Circuit → Held
with_changed held new = record held { network = Some new; previous = held.network; netlist = None; previous_netlist = held.netlist }

-- a netlist of the network is held
abbrev pub with_mapped : Held → Netlist → Held
with_mapped held netlist = record held { netlist = Some netlist }

-- the network of a machine replaces the current one: like any new network, if there is one;
-- otherwise the previous one stays as it was
abbrev pub with_encoded : Held → Option Circuit → Circuit → Held
with_encoded held None new = record held { network = Some new; netlist = None }
with_encoded held (Some old) new = with_changed held new

-- the network and its netlist are exchanged with the previous ones
abbrev pub with_exchanged : Held → Held
with_exchanged held =
    record held { network = held.previous; previous = held.network; netlist = held.previous_netlist; previous_netlist = held.netlist }
