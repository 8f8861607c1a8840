use Rattle.std.proofs.Common.{ap, ◌∙◌, Err}
use Rattle.cover_search.specs.Ties.{meaning_of}
use Rattle.sdc_simplify.proofs.Minima.{never_refused}
use Rattle.sdc_simplify.proofs.turns.least_cover.Goals as goal

pub unreachable-requires : goal.unreachable-requires
unreachable-requires g c =
    never_refused (meaning_of c.new-oracle.result) c.args.cover.rows
    (c.prime_irredundant.ensures.refused (c.in-Err-Refused.is ∙ ap Err c.in-Err-Refused.field-0-is))
