use Rattle.std.proofs.Common.{◌≡◌, List, Option, Some, slice_get, sym, ap, ◌∙◌}
use Rattle.std.proofs.lemmas.Option.{same_Some}
use Rattle.net_core.specs.Places.{written_of}
use Rattle.net_core.specs.Reads.{uses_in}
use Rattle.net_core.specs.Tables.{named}
use Rattle.net_core.specs.declared.places.Entry.{Entry}
use Rattle.net_work.specs.Slots.{written_slots}
use Rattle.net_work.proofs.Kept.{once_at}
use Rattle.net_work.proofs.Linked.{counted}
use Rattle.net_work.proofs.Standing.{table_there}
use Rattle.net_work.proofs.changing.change_at.Goals as goal

pub change-requires-clause-before : goal.change-requires-clause-before
change-requires-clause-before g c =
    once_at c.args.slots.now.items c.args.place c.entry_at-entry.result.now c.requires.known
    (ap (λ (slots : List (Option (Entry g.row.R.Denot))). slice_get slots c.args.place) (sym c.as_slice.ensures.value) ∙ c.entry_at-entry.ensures)

pub change-requires-clause-counted : goal.change-requires-clause-counted
unfolding named uses_in
change-requires-clause-counted g c =
    counted c.args.links.now (written_slots c.args.slots.now.items) c.args.place (written_of c.entry_at-entry.result.now) c.requires.linked
    (table_there c.args.slots.now.items c.args.place c.entry_at-entry.result.now
    (ap (λ (slots : List (Option (Entry g.row.R.Denot))). slice_get slots c.args.place) (sym c.as_slice.ensures.value) ∙ c.entry_at-entry.ensures))

pub returns-clause-links : goal.returns-clause-links
returns-clause-links g c = λ entry at.
    let there : slice_get c.args.slots.now.items c.args.place ≡ Some (Some c.entry_at-entry.result.now) =
    ap (λ (slots : List (Option (Entry g.row.R.Denot))). slice_get slots c.args.place) (sym c.as_slice.ensures.value) ∙ c.entry_at-entry.ensures in
    let same : c.entry_at-entry.result.now ≡ entry = same_Some c.entry_at-entry.result.now entry (same_Some (Some c.entry_at-entry.result.now) (Some entry) (sym there ∙ at)) in
    c.in_ok-change.ensures (written_slots c.args.slots.now.items) entry.output c.requires.linked
    (table_there c.args.slots.now.items c.args.place c.entry_at-entry.result.now there ∙ ap (λ (e : Entry g.row.R.Denot). Some (named e.output c.entry_at-entry.result.now.table)) same)
