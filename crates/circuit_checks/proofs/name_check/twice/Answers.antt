use Rattle.std.proofs.Common.{◌∙◌, sym, ap}
use Rattle.circuit_model.specs.Names.{has}
use Rattle.circuit_checks.proofs.Naming.{alike_more}
use Rattle.circuit_checks.proofs.Counting.{twice_more, none_twice}
use Rattle.circuit_checks.proofs.name_check.twice.Goals as goal

pub loop-name-init : goal.loop-name-init
loop-name-init c = record {
  seen = λ name. ap (λ names. has names name) c.new-seen.ensures;
  again = λ query. ap (λ names. has names query) c.new-again.ensures ∙ sym (none_twice query);
}

pub loop-name-preserved : goal.loop-name-preserved
loop-name-preserved c = record {
  seen =
      alike_more c.args.names.now c.loop-name.name-index c.name-item.result c.loop-name.seen c.note.new.seen c.loop-name-test.true c.name-item.is
      c.loop-name.invariant.seen c.in_ok-note.ensures.seen;
  again =
      twice_more c.args.names.now c.loop-name.name-index c.name-item.result c.loop-name.seen c.loop-name.again c.note.new.again c.loop-name-test.true
      c.name-item.is c.loop-name.invariant.seen c.loop-name.invariant.again c.in_ok-note.ensures.again;
}
