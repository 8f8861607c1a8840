use Rattle.std.proofs.Common.{Option, Some, [], ◌∷◌, ◌++◌, sym, ap, subst}
use Rattle.std.specs.Option.{option_map}
use Rattle.std.proofs.lemmas.Result.{on_ok_weaker}
use Rattle.net_core.specs.Places.{written_of}
use Rattle.net_core.specs.declared.places.Entry.{Entry}
use Rattle.net_work.specs.Slots.{AreLinked}
use Rattle.net_work.proofs.Kept.{once_at}
use Rattle.net_work.proofs.Linked.{linked_gap}
use Rattle.net_work.proofs.links.link_slot.Goals as goal

pub add-requires : goal.add-requires
add-requires g c = record { once = once_at (c.args.slot.now ∷ []) 0 c.in-Some.entry c.requires (ap (λ (x : Option (Entry g.row.R.Denot)). Some x) c.in-Some.is) }

pub returns-in-None : goal.returns-in-None
returns-in-None g c = λ slots linked long.
    subst (λ (x : Option (Entry g.row.R.Denot)). AreLinked c.args.links.now (slots ++ option_map written_of x ∷ [])) (sym c.in-None.is) (linked_gap c.args.links.now slots linked)

pub returns-in-Some : goal.returns-in-Some
returns-in-Some g c =
    on_ok_weaker c.add.result
    (λ added slots linked long. subst (λ (x : Option (Entry g.row.R.Denot)). AreLinked c.add.new.self (slots ++ option_map written_of x ∷ [])) (sym c.in-Some.is) (added slots c.in-Some.entry.output linked long))
    c.add.ensures
