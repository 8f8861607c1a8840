use Rattle.std.proofs.Common.{◌≡◌, true, bytes_eq, sym, ◌∙◌}
use borrow.Author.Count.{below_more}
use Rattle.indexmap.specs.IndexMap.{get}
use Rattle.circuit_model.specs.Names.{has}
use Rattle.net_core.specs.Fresh.{bracketed, used_names}
use Rattle.net_work.specs.Placed.{circuit_of}
use Rattle.net_work.proofs.Views.{used_there}
use Rattle.net_work.proofs.work.WorkingNetwork.free_number.Goals as goal

pub returns-then-not-is_used-clause-free : goal.returns-then-not-is_used-clause-free
returns-then-not-is_used-clause-free g c =
    sym (used_there c.self.inside.frame c.self.inside.slots.items (get bytes_eq c.self.inside.places) c.self.invariant.indexed c.args.self.now c.self.view_is c.in_ok-name.name c.loop-number.number c.is_used.result c.in_ok-name.ensures
    c.is_used.ensures)
    ∙ c.if-not-is_used.true

pub loop-number-preserved : goal.loop-number-preserved
loop-number-preserved g c =
    below_more (λ k. has (used_names (circuit_of c.args.self.now)) (bracketed k) ≡ true) c.loop-number.number c.loop-number.invariant
    (sym (used_there c.self.inside.frame c.self.inside.slots.items (get bytes_eq c.self.inside.places) c.self.invariant.indexed c.args.self.now c.self.view_is c.in_ok-name.name c.loop-number.number c.is_used.result c.in_ok-name.ensures
    c.is_used.ensures)
    ∙ c.if-not-is_used.false)
