use Rattle.std.proofs.Common.{ℕ, eqb, length, sym, ap, ◌∙◌}
use Rattle.circuit_tables.specs.Folding.{each_once}
use Rattle.circuit_tables.proofs.Once.{listed_once}
use Rattle.circuit_tables.proofs.FoldSteps.{names_more, names_done}
use Rattle.circuit_tables.proofs.Steps.{all_once}
use Rattle.circuit_tables.proofs.tidiness.names_differ.Goals as goal

pub loop-name-init : goal.loop-name-init
loop-name-init c = rw c.new-seen.ensures.empty (listed_once c.args.names.now)

pub loop-name-preserved : goal.loop-name-preserved
loop-name-preserved c =
    names_more c.loop-name.seen.keys c.insert_full.new.self.keys (each_once c.args.names.now) c.args.names.now c.loop-name.name-index c.name-item.result c.in_ok-copy.field-0
    c.loop-name-test.true c.name-item.is c.in_ok-copy.ensures c.in_ok-insert_full.ensures.keys c.loop-name.invariant

pub returns : goal.returns
returns c =
    ap (λ (n : ℕ). eqb n (length c.args.names.now)) c.len.ensures.len
    ∙ all_once c.args.names.now c.loop-name.seen.keys (sym (names_done c.loop-name.seen.keys c.args.names.now c.loop-name.name-index c.loop-name-test.false) ∙ c.loop-name.invariant)
