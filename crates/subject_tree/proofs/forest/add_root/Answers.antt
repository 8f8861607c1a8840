use Rattle.std.proofs.Common.{◌<◌, IfSome, length, ℕ, Option, subst}
use Rattle.subject_tree.specs.Reading.{IsMade}
use Rattle.subject_tree.specs.Roots.{tree_over}
use Rattle.subject_tree.proofs.Rooting.{root-more, never-none}
use Rattle.subject_tree.proofs.forest.add_root.Goals as goal

pub returns-in-None-clause-added : goal.returns-in-None-clause-added
returns-in-None-clause-added c tree tables read full are =
    absurd (never-none tree c.args.table.now c.requires.shaped full
    (subst (λ (made : Option ℕ). IsMade c.grow_table.new.arena c.grow_table.new.leaves made (tree_over tree c.args.table.now)) c.in-None.is (c.in_ok-made.ensures.tree tree read)))

pub returns-in_ok-push-in-Some-clause-added : goal.returns-in_ok-push-in-Some-clause-added
returns-in_ok-push-in-Some-clause-added c tree tables read full are =
    rw c.in_ok-push-in-Some.ensures.items
    (root-more c.args.arena.now c.grow_table.new.arena c.args.leaves.now c.grow_table.new.leaves tree tables c.args.table.now c.args.roots.now.items (record { name = c.in_ok-name-in-Some.name; number = c.in-Some.number }) c.in_ok-made.ensures.kept c.in_ok-made.ensures.named
    c.in_ok-name-in-Some.ensures (subst (λ (made : Option ℕ). IfSome made (λ n. n < length c.grow_table.new.arena)) c.in-Some.is c.in_ok-made.ensures.taken)
    (subst (λ (made : Option ℕ). IsMade c.grow_table.new.arena c.grow_table.new.leaves made (tree_over tree c.args.table.now)) c.in-Some.is (c.in_ok-made.ensures.tree tree read)) are)
