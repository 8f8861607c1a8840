use Rattle.subject_tree.specs.Trees.{product_of}
use Rattle.subject_tree.proofs.Joining.{join-found}
use Rattle.subject_tree.proofs.tables.with_literal.Goals as goal

pub returns-in_ok-product_front-in-Some-clause-ok : goal.returns-in_ok-product_front-in-Some-clause-ok
returns-in_ok-product_front-in-Some-clause-ok c ts finds =
    join-found product_of c.args.arena.now c.literal.new.arena c.product_front.new.arena c.in_ok-literal.field-0 c.in-Some.front c.in_ok-product_front-in-Some.field-0 c.args.behind _ ts c.in_ok-literal.ensures.kept c.in-Some.is
    c.in_ok-literal.ensures.ok c.in_ok-product_front-in-Some.ensures.ok finds
