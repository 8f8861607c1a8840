use Rattle.net_sweep.specs.Settled.{is_candidate}
use Rattle.net_sweep.proofs.Changing.{applied_candidates}
use Rattle.net_sweep.proofs.applying.apply_rule.Goals as goal

pub returns-clause-candidates : goal.returns-clause-candidates
returns-clause-candidates g c =
    applied_candidates c.args.rule c.args.aliased.now c.apply.new.aliased c.args.place c.in_ok-places.places c.as_slice.result.now (is_candidate c.args.candidates.now) (is_candidate c.add_candidates.new.candidates)
    c.requires.sound c.requires.within c.requires.candidates c.in_ok-places.ensures.applied c.in_ok-places.ensures.others c.as_slice.ensures c.in_ok-add_candidates.ensures.put c.in_ok-add_candidates.ensures.kept
