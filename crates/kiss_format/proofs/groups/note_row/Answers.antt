use Rattle.std.proofs.Common.{ℕ, ◌==◌, [], ◌∷◌, ◌++◌, sym, ◌∙◌, ap, length, slice_index_or, if◌then◌else◌}
use Rattle.circuit_model.specs.declared.machine.MachineRow.{MachineRow}
use Rattle.kiss_format.specs.Groups.{group_of}
use Rattle.kiss_format.proofs.Grouped.{groups_more}
use Rattle.kiss_format.proofs.groups.note_row.Goals as goal

pub returns : goal.returns
returns c =
    let group = c.group_of-group.ensures.value ∙ ap (λ (row : MachineRow). group_of (length c.args.rows.now) row.current) (sym c.index-rows-place.is) in
    groups_more c.args.rows.now c.args.place c.index-rows-place.result c.args.groups.now.items c.note_place.new.groups.items c.requires.inside c.index-rows-place.is c.requires.grouped
    c.in_ok-note_place.ensures.length
    (λ other. c.in_ok-note_place.ensures.each other ∙ ap (λ (n : ℕ). slice_index_or c.args.groups.now.items other [] ++ (if n == other then c.args.place ∷ [] else [])) group)
