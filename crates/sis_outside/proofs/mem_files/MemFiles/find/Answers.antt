use Rattle.std.proofs.Common.{ap, sym, ◌∙◌}
use Rattle.std.specs.Ordering.{nat_cmp}
use Rattle.std.specs.Cmp.Lexicographic.{slice_cmp}
use Rattle.std.specs.FinMap.{find, get-from_entries}
use Rattle.std.proofs.lemmas.Cmp.{nat_list_cmp_total}
use Rattle.sis_outside.proofs.mem_files.MemFiles.find.Goals as goal

pub returns : goal.returns
returns c =
    rw (← c.self.view_is)
    (c.first_of.ensures
    ∙ ap (find (slice_cmp nat_cmp) c.args.name.now) c.as_slice.ensures.value
    ∙ sym (get-from_entries nat_list_cmp_total c.self.inside.entries.items c.args.name.now))
