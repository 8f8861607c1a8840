use Rattle.std.proofs.Common.{◌≡◌, length, ◌∙◌, arith}
use Rattle.std.specs.Option.{option_map}
use Rattle.std.proofs.lemmas.List.{length-map}
use Rattle.std.proofs.lemmas.Result.{on_ok_weaker}
use Rattle.net_core.specs.Places.{written_of}
use Rattle.net_work.specs.Slots.{written_slots}
use Rattle.net_work.proofs.changing.put_behind.Goals as goal

pub returns-clause-links : goal.returns-clause-links
returns-clause-links g c =
    let long : length c.args.slots.now.items ≡ c.len.result = omega (arith, c.len.ensures, c.args.slots.now.ok.0) in
    on_ok_weaker c.put_last.result (λ put. c.in_ok-add.ensures (written_slots c.args.slots.now.items) c.args.name.now c.requires.linked (length-map c.args.slots.now.items (option_map written_of) ∙ long)) c.put_last.ensures.slots_ok
