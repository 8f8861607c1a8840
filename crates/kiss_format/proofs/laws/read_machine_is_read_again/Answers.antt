use Rattle.kiss_format.proofs.Trip.{read_again}
use Rattle.kiss_format.proofs.laws.read_machine_is_read_again.Goals as goal

pub returns : goal.returns
returns c = read_again
