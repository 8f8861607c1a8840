-- Which fault an error of clap becomes, by its kind. Source: the project's own rule: each error in
-- the words is Usage, and want of memory is separate.
use Rattle.clap.specs.declared.error.kind.ErrorKind.{ErrorKind}
use Rattle.clap.specs.declared.error.kind.ErrorKind.TheVariants as kind
use Rattle.sis_top.specs.declared.options.WordsFault.{WordsFault}
use Rattle.sis_top.specs.declared.options.WordsFault.TheVariants.{Usage, Memory}
use Rattle.std.specs.Prelude.{◌≡◌}

-- want of memory is Memory, and every other kind is Usage
abbrev pub fault_by : ErrorKind → WordsFault
fault_by kind.OutOfMemory = Memory
fault_by _ = Usage

-- the fault is the one of the kind
abbrev pub Refuses : ErrorKind → WordsFault → Type 0
Refuses kind fault = fault ≡ fault_by kind
