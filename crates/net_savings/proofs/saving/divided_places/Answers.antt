use Rattle.std.proofs.Common.{sym, ◌∙◌}
use Rattle.net_savings.proofs.Losing.{all_readers}
use Rattle.net_savings.proofs.Summing.{rising_once}
use Rattle.net_savings.proofs.Told.{met_all}
use Rattle.net_savings.proofs.saving.divided_places.Goals as goal

pub returns-then-knows_all : goal.returns-then-knows_all
returns-then-knows_all g c =
    met_all c.args.work.now c.args.index.now.names.keys c.args.index.now.rows c.args.index.now.spans.items c.args.index.now.others.items c.requires.index c.args.cover.now (sym c.knows_all.ensures ∙ c.if-knows_all.true)
    c.requires.some c.in_ok-met.met.items c.in_ok-met.ensures.once c.in_ok-met.ensures.others c.in_ok-met.ensures.met

pub returns : goal.returns
returns g c =
    all_readers c.args.cover.now c.args.work.now.slots c.in_ok-readers.readers.items (rising_once c.in_ok-readers.readers.items c.in_ok-readers.ensures.rising) c.in_ok-readers.ensures.all
