use Rattle.sis_top.proofs.Copying.{copies_served}
use Rattle.sis_top.proofs.laws.copies_are_served.Goals as goal

pub returns : goal.returns
returns c = λ goes_on files left bytes circuit there short good. copies_served goes_on files left bytes circuit there short good
