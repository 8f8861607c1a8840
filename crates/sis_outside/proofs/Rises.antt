-- A count that rose in some call has risen over a run of calls round it.
use Rattle.std.proofs.Common.{ℕ, ◌≤◌, arith}
use Rattle.sis_outside.specs.Counts.{Rose}

pub rose_later : {before middle now : ℕ} → Rose before middle → middle ≤ now → Rose before now
rose_later rose kept = (omega arith, omega arith)

pub rose_earlier : {before middle now : ℕ} → before ≤ middle → Rose middle now → Rose before now
rose_earlier kept rose = (omega arith, omega arith)
