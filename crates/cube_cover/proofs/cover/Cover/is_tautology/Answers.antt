use Rattle.std.proofs.Common.{◌<◌, ◌^◌}
use Rattle.cube_cover.specs.Volumes.{cover_shares}
use Rattle.cube_cover.proofs.Volumes.{small_answer}
use Rattle.cube_cover.proofs.cover.Cover.is_tautology.Goals as goal

pub returns-then-is_too_small : goal.returns-then-is_too_small
returns-then-is_too_small g c =
    let less : cover_shares c.args.self.now.rows < 2 ^ 63 = rw (← c.rows.ensures.items) (c.is_too_small.ensures c.if-is_too_small.true) in
    small_answer c.args.self.now.width c.args.self.now.rows c.rows.ensures.widths less
