use Rattle.std.proofs.Common.{sym}
use Rattle.func_shared.proofs.Shortcuts.{same_xor, same_other, and_zero, or_zero, xor_zero, and_one, or_one}
use Rattle.func_shared.proofs.answering.shortcut.Goals as goal

pub returns-in-Xor-clause-right : goal.returns-in-Xor-clause-right
returns-in-Xor-clause-right c = λ vs table are. same_xor vs c.args.operation c.args.pair
    c.if-pair.true c.in-Xor.is table

pub returns-in_default : goal.returns-in_default
returns-in_default c = record {
  right = λ vs table are. (
    are.0,
    same_other vs c.args.operation c.args.pair c.if-pair.true
        c.in_default.not-Xor table,
  );
  none = λ e. cc;
}

pub returns-in-0-And-clause-right : goal.returns-in-0-And-clause-right
returns-in-0-And-clause-right c = λ vs table are. and_zero vs c.args.operation c.args.pair
    (sym c.in-0-And.is-0) c.in-0-And.is-1 table

pub returns-in-0-Or-clause-right : goal.returns-in-0-Or-clause-right
returns-in-0-Or-clause-right c = λ vs table are.
    (are.1, or_zero vs c.args.operation c.args.pair (sym c.in-0-Or.is-0) c.in-0-Or.is-1 table)

pub returns-in-0-Xor-clause-right : goal.returns-in-0-Xor-clause-right
returns-in-0-Xor-clause-right c = λ vs table are.
    (are.1, xor_zero vs c.args.operation c.args.pair (sym c.in-0-Xor.is-0) c.in-0-Xor.is-1 table)

pub returns-in-1-And-clause-right : goal.returns-in-1-And-clause-right
returns-in-1-And-clause-right c = λ vs table are.
    (are.1, and_one vs c.args.operation c.args.pair (sym c.in-1-And.is-0) c.in-1-And.is-1 table)

pub returns-in-1-Or-clause-right : goal.returns-in-1-Or-clause-right
returns-in-1-Or-clause-right c = λ vs table are. or_one vs c.args.operation c.args.pair
    (sym c.in-1-Or.is-0) c.in-1-Or.is-1 table
