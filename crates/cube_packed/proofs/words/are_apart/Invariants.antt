use Rattle.std.proofs.Common.{◌≡◌, ◌*◌, drop}
use Rattle.cube_packed.specs.Planes.{words_apart}
use Rattle.cube_packed.proofs.words.are_apart.Given as goal

abbrev pub invariant-loop-block : goal.invariant-loop-block
invariant-loop-block l = words_apart l.words l.others ≡ words_apart (drop (4 * l.block) l.words) (drop (4 * l.block) l.others)

abbrev pub invariant-loop-place : goal.invariant-loop-place
invariant-loop-place l = words_apart l.words l.others ≡ words_apart (drop l.place l.words) (drop l.place l.others)
