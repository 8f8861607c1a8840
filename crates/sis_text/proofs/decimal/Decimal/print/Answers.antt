use Rattle.sis_text.proofs.DecimalTexts.{printed}
use Rattle.sis_text.proofs.decimal.Decimal.print.Goals as goal

pub returns-clause-read_back : goal.returns-clause-read_back
returns-clause-read_back c = printed (λ text. text.items) c.decimal_text.result c.args.self.now.0 c.decimal_text.ensures
