use Rattle.std.proofs.Common.{refl}
use Rattle.subject_tree.specs.Trees.{sum_of}
use Rattle.subject_tree.proofs.Joining.{join-found}
use Rattle.subject_tree.proofs.tables.with_row.Goals as goal

pub returns-in_ok-sum_front-in-Some-clause-ok : goal.returns-in_ok-sum_front-in-Some-clause-ok
returns-in_ok-sum_front-in-Some-clause-ok c t ts found finds =
    join-found sum_of c.args.arena.now c.args.arena.now c.sum_front.new.arena c.args.row c.in-Some.row c.in_ok-sum_front-in-Some.field-0 c.args.behind t ts (λ n lt. (lt, refl)) c.in-Some.is
    found c.in_ok-sum_front-in-Some.ensures.ok finds
