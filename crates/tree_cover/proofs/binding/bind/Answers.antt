use Rattle.std.proofs.Common.{ℕ, Option, Some, ap, ◌∙◌, arith}
use Rattle.tree_cover.proofs.Growing.{bind_absent, bind_free, bind_kept, bind_refused}
use Rattle.tree_cover.proofs.binding.bind.Goals as goal

pub returns-in-None : goal.returns-in-None
returns-in-None c = bind_absent c.args.pin c.args.number c.args.binding.now c.args.made.now.items c.slot_of.result c.slot_of.ensures c.in-None.is

pub returns-in_ok-push-in-Some-None : goal.returns-in_ok-push-in-Some-None
returns-in_ok-push-in-Some-None c =
    bind_free c.args.pin c.args.number c.args.binding.now c.args.made.now.items c.push.new.self.items c.slot_of.result c.slot_of.ensures (c.in-Some-None.is ∙ ap (λ (o : Option ℕ). Some o) c.in-Some-None.field-0-is) c.in_ok-push-in-Some-None.ensures.items

pub returns-in_ok-push-in-Some-Some : goal.returns-in_ok-push-in-Some-Some
returns-in_ok-push-in-Some-Some c =
    bind_kept c.args.pin c.args.number c.in-Some-Some.other c.args.binding.now c.args.made.now.items c.push-in-Some-Some.new.self.items c.slot_of.result c.slot_of.ensures (c.in-Some-Some.is ∙ ap (λ (o : Option ℕ). Some o) c.in-Some-Some.field-0-is) (omega arith)
    c.in_ok-push-in-Some-Some.ensures.items

pub returns-then-other-number : goal.returns-then-other-number
returns-then-other-number c =
    bind_refused c.args.pin c.args.number c.in-Some-Some.other c.args.binding.now c.args.made.now.items c.slot_of.result c.slot_of.ensures (c.in-Some-Some.is ∙ ap (λ (o : Option ℕ). Some o) c.in-Some-Some.field-0-is) (λ e. omega (arith, e))
