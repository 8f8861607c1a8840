use Rattle.std.proofs.Common.{◌≡◌, map, sym, subst}
use Rattle.std.specs.List.{list_any}
use Rattle.indexmap.specs.IndexMap.{get}
use Rattle.net_candidates.specs.Candidates.{same_literal}
use Rattle.cover_names.specs.declared.literal.Literal.{Literal}
use Rattle.net_savings.proofs.Marking.{more_marks}
use Rattle.net_savings.proofs.marks.mark_literal.Goals as goal

pub returns : goal.returns
returns c =
    more_marks c.args.rows.now (get same_literal c.args.marks.now) (get same_literal c.put_marks.new.marks) c.in_ok-key.key c.in_ok-made.made
    (subst (λ (literal : Literal). c.in_ok-made.made.items ≡ map (list_any (same_literal literal)) c.args.rows.now) (sym c.in_ok-key.ensures) c.in_ok-made.ensures)
    c.in_ok-put_marks.ensures c.requires
