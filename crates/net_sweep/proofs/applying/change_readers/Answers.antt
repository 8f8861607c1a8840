use Rattle.std.proofs.Common.{ap, ◌∙◌, List, ℕ}
use Rattle.net_readers.specs.Fanouts.{is_in}
use Rattle.net_sweep.proofs.Changing.{mapped_others, reads_listed}
use Rattle.net_sweep.proofs.applying.change_readers.Goals as goal

pub change_all-requires-clause-all : goal.change_all-requires-clause-all
change_all-requires-clause-all c place h = ap (λ (ps : List ℕ). is_in ps place) c.as_slice.ensures
    ∙ (c.in_ok-places.ensures.exact place ∙ h)

pub returns-clause-others : goal.returns-clause-others
returns-clause-others c =
    mapped_others c.args.aliased.now c.change_all.new.aliased c.args.name.now c.args.change.now
    c.in_ok-places.places
    (reads_listed c.args.aliased.now.tables c.args.name.now c.in_ok-places.places
    (λ place h. c.in_ok-places.ensures.exact place ∙ h)) c.in_ok-change_all.ensures
