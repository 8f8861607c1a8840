use Rattle.std.proofs.Common.{◌≡◌, ℕ, List, None, ◌∙◌, subst, arith}
use Rattle.std.proofs.lemmas.Result.{on_ok_weaker}
use Rattle.net_readers.specs.Fanouts.{Inputs, told, with_inputs, AreReaders}
use Rattle.net_core.specs.Tables.{named}
use Rattle.net_work.proofs.Linked.{linked_set}
use Rattle.net_work.proofs.links.Links.remove.Goals as goal

pub returns : goal.returns
unfolding named
returns g c =
    on_ok_weaker c.remove.result
    (λ counted slots output linked at.
    linked_set c.args.self.now (record { readers = c.change.new.self; uses = c.remove.new.self }) (record { readers = c.change.new.self; uses = c.remove.new.self }) slots c.args.place (named output c.args.before.now)
    None linked at
    (subst (λ (names : List (List ℕ)). (inputs : Inputs) → AreReaders (told c.args.self.now.readers) inputs → inputs c.args.place ≡ c.args.before.now.inputs → AreReaders (told c.change.new.self) (with_inputs inputs c.args.place names))
    (c.as_slice-2.ensures.value ∙ c.new-none.ensures.items) (rw (← c.as_slice.ensures) c.in_ok-change.ensures)) (counted output) (λ name. omega arith))
    c.remove.ensures
