use Rattle.std.proofs.Common.{◌≡◌, ◌≤◌, ◌+◌, ◌-◌, map, drop}
use Rattle.blif_models.specs.Files.{lines_at}
use Rattle.blif_models.specs.Instances.{frames_in}
use Rattle.blif_models.specs.Made.{made_in}
use Rattle.blif_models.specs.Makings.{make_all, outside_all, names_from}
use Rattle.blif_models.specs.Contexts.{library_in, models_in, text_in}
use Rattle.blif_models.proofs.made.+made.Given as goal

abbrev pub decreases-make_item : goal.decreases-make_item
decreases-make_item l = l.depth + l.depth + 1

abbrev pub decreases-make_in : goal.decreases-make_in
decreases-make_in l = l.depth + l.depth

abbrev pub invariant-make_in-loop-line : goal.invariant-make_in-loop-line
invariant-make_in-loop-line l = record {
  within : l.place ≤ l.line-index;
  frames : frames_in l.frames.items ≡ frames_in l.fn.frames.items;
  made : make_all l.made (map (outside_all (frames_in l.fn.frames.items)) (names_from (library_in l.models) (models_in l.models) (l.depth - 1) l.place (drop l.line-index (lines_at (text_in l.models) l.lines))))
      ≡ make_all l.fn.made (map (outside_all (frames_in l.fn.frames.items)) (made_in (library_in l.models) (models_in l.models) l.depth (lines_at (text_in l.models) l.lines)));
}
