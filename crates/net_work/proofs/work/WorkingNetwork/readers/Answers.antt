use Rattle.std.proofs.Common.{◌≡◌, ℕ, ap, ◌∙◌}
use Rattle.std.proofs.lemmas.Result.{IfOk-weaker}
use Rattle.circuit_model.specs.Names.{has}
use Rattle.net_readers.specs.Fanouts.{told, is_in}
use Rattle.net_work.specs.Placed.{Placed}
use Rattle.net_work.specs.Slots.{inputs_at}
use Rattle.net_work.proofs.work.WorkingNetwork.readers.Goals as goal

pub returns-clause-exact : goal.returns-clause-exact
returns-clause-exact g c =
    IfOk-weaker c.places.result (λ places. (place : ℕ)
    → is_in places place ≡ told c.self.inside.links.readers c.args.name.now place)
    (λ places. (place : ℕ) → is_in places place
    ≡ has (inputs_at c.args.self.now.slots place) c.args.name.now)
    (λ places h place. h place ∙ (c.self.invariant.linked.readers c.args.name.now place
    ∙ ap (λ (p : Placed). has (inputs_at p.slots place) c.args.name.now) c.self.view_is))
    c.places.ensures.exact
