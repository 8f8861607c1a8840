use Rattle.std.proofs.Common.{Some, None}
use Rattle.line_words.proofs.LongNames.{long_found}
use Rattle.line_words.proofs.taking.long_name.Goals as goal

pub returns-in-None : goal.returns-in-None
returns-in-None c = long_found c.args.words.now None c.in-None.ensures

pub returns-in-Some : goal.returns-in-Some
returns-in-Some c = long_found c.args.words.now (Some c.in-Some.word.now) c.in-Some.ensures
