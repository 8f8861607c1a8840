use Rattle.net_func.specs.Numbering.{number_in, has_number}
use Rattle.net_func.proofs.Lists.{all_test}
use Rattle.net_func.proofs.numbers.Numbers.listed.Goals as goal

pub known-requires : goal.known-requires
known-requires c =
    all_test (has_number (number_in c.args.self.now)) c.args.names.now c.loop-name.name-index
    c.name-item.result c.requires c.loop-name-test.true c.name-item.is
