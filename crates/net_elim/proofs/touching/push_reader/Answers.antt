use Rattle.std.proofs.lemmas.Result.{on_ok_weaker}
use Rattle.net_elim.proofs.Touched.{joined_pushed}
use Rattle.net_elim.proofs.touching.push_reader.Goals as goal

pub returns : goal.returns
returns g c =
    on_ok_weaker c.push_drivers.result
    (λ grown.
    joined_pushed c.args.work.now.slots c.args.place c.in-Some.entry.now c.as_slice.result.now c.args.places.now.items c.push.new.self.items c.push_drivers.new.places.items c.in-Some.ensures.table c.as_slice.ensures
    c.in_ok-push-in-Some.ensures.items grown)
    c.push_drivers.ensures
