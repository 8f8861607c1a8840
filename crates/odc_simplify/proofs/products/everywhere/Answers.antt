use Rattle.odc_simplify.proofs.Numbers.{gives_means}
use Rattle.odc_simplify.proofs.products.everywhere.Goals as goal

pub returns-clause-made : goal.returns-clause-made
returns-clause-made g c =
    gives_means g.F.Functions.holds g.F.Functions.tree g.F.Functions.limit
    c.constant.new.self c.in_ok-made.made _
    c.in_ok-made.ensures.ok
