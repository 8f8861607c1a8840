use Rattle.std.proofs.Common.{OnOk, ◌∙◌, subst}
use Rattle.cover_names.specs.Literals.{NamedCover}
use Rattle.net_savings.specs.Ranking.{saving_in}
use Rattle.net_savings.specs.Savings.{IsNoted}
use Rattle.net_savings.proofs.renewing.note.Goals as goal

pub returns-clause-noted : goal.returns-clause-noted
returns-clause-noted g c =
    subst (λ (cover : NamedCover). OnOk c.renew.result (IsNoted (saving_in c.renew.new.ranked) cover)) (c.new-ordered.ensures ∙ c.in_ok-copy.ensures) c.renew.ensures.noted
