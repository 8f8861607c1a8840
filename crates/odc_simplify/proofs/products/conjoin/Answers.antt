use Rattle.odc_simplify.proofs.Numbers.{gives_means, means_not_big}
use Rattle.odc_simplify.proofs.products.conjoin.Goals as goal

pub returns-clause-makes : goal.returns-clause-makes
returns-clause-makes g c = record {
  made =
      gives_means g.F.Functions.holds g.F.Functions.tree g.F.Functions.limit
      c.and.new.self c.in_ok-made.made _
      c.in_ok-made.ensures.ok;
  passed =
      means_not_big g.F.Functions.holds g.F.Functions.tree g.F.Functions.limit
      c.args.functions.now
      c.and.new.self c.in_ok-made.made _ c.in_ok-made.ensures.stays c.in_ok-made.ensures.ok;
  refused = λ h. absurd cc;
}
