use Rattle.std.proofs.Common.{List, Option, slice_get, sym, ap, ◌∙◌}
use Rattle.net_core.specs.Places.{written_of}
use Rattle.net_core.specs.Reads.{uses_in}
use Rattle.net_core.specs.Tables.{named}
use Rattle.net_core.specs.declared.places.Entry.{Entry}
use Rattle.net_work.specs.Slots.{written_slots}
use Rattle.net_work.proofs.Kept.{once_at}
use Rattle.net_work.proofs.Linked.{counted}
use Rattle.net_work.proofs.Standing.{table_there}
use Rattle.net_work.proofs.changing.remove_at.Goals as goal

pub remove-requires-clause-once : goal.remove-requires-clause-once
remove-requires-clause-once g c =
    once_at c.args.slots.now.items c.args.place c.entry_at-entry.result.now c.requires.known
    (ap (λ (slots : List (Option (Entry g.row.R.Denot))). slice_get slots c.args.place) (sym c.as_slice.ensures.value) ∙ c.entry_at-entry.ensures)

pub remove-requires-clause-counted : goal.remove-requires-clause-counted
unfolding named uses_in
remove-requires-clause-counted g c =
    counted c.args.links.now (written_slots c.args.slots.now.items) c.args.place (written_of c.entry_at-entry.result.now) c.requires.linked
    (table_there c.args.slots.now.items c.args.place c.entry_at-entry.result.now
    (ap (λ (slots : List (Option (Entry g.row.R.Denot))). slice_get slots c.args.place) (sym c.as_slice.ensures.value) ∙ c.entry_at-entry.ensures))

pub returns-clause-links : goal.returns-clause-links
returns-clause-links g c =
    c.in_ok-remove.ensures (written_slots c.args.slots.now.items) c.entry_at-entry.result.now.output c.requires.linked
    (table_there c.args.slots.now.items c.args.place c.entry_at-entry.result.now
    (ap (λ (slots : List (Option (Entry g.row.R.Denot))). slice_get slots c.args.place) (sym c.as_slice.ensures.value) ∙ c.entry_at-entry.ensures))
