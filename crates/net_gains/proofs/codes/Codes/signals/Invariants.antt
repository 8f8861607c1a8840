use Rattle.std.proofs.Common.{◌≡◌, true, take, map}
use Rattle.std.specs.List.{list_all}
use Rattle.circuit_model.specs.Names.{has}
use Rattle.net_gains.specs.Codes.{signal_of}
use Rattle.net_gains.proofs.codes.Codes.signals.Given as goal

abbrev pub invariant-loop-name : goal.invariant-loop-name
invariant-loop-name l = record {
  known : list_all (has l.self) (take l.name-index l.names) ≡ true;
  signals : l.signals.items ≡ map (signal_of l.self) (take l.name-index l.names);
}
