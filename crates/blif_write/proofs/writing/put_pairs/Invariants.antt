use Rattle.std.proofs.Common.{◌≡◌, ◌++◌, take, map}
use Rattle.std.specs.List.{flat_map}
use Rattle.sis_base.specs.Written.{spaced}
use Rattle.netlist.specs.Lines.{pair_word}
use Rattle.blif_write.proofs.writing.put_pairs.Given as goal

abbrev pub invariant-loop-connection : goal.invariant-loop-connection
invariant-loop-connection l = l.out.items ≡ l.fn.out.items ++ flat_map spaced (map pair_word (take l.connection-index l.pins))
