use Rattle.std.proofs.Common.{not, bytes_eq, rules}
use Rattle.std.proofs.lemmas.Fn.{filter_same}
use Rattle.circuit_model.specs.declared.circuit.Latch.{Latch}
use Rattle.circuit_laws.specs.Edits.{latches_kept}
use Rattle.net_core.proofs.network.remove_latch.Goals as goal

pub returns : goal.returns
unfolding latches_kept
returns c = filter_same _ (λ (latch : Latch). not (bytes_eq c.args.name.now latch.output)) _ (λ x b f k. search rules) _ _ c.retain.ensures.filtered
