use Rattle.std.proofs.Common.{ℕ, Option, None, List, get_or, ap}
use Rattle.alg_tables.proofs.Steps.{lacking_more}
use Rattle.alg_tables.proofs.inputs.push_lacking.Goals as goal

pub loop-i-preserved : goal.loop-i-preserved
loop-i-preserved c = λ names at.
    lacking_more names c.args.others.now c.args.made.now c.loop-i.made c.push_new.new.names c.loop-i.i c.index-others-i.result (get_or c.args.places.now c.loop-i.i None) c.loop-i-test.true c.index-others-i.is
    (ap (λ (places : List (Option ℕ)). get_or places c.loop-i.i None) at) (c.loop-i.invariant names at) c.in_ok-push_new.ensures
