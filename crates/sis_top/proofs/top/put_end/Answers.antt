use Rattle.std.proofs.Common.{refl, Some, Ok, Err}
use Rattle.sis_outside.specs.declared.sink.PutFault.TheVariants as put
use Rattle.sis_top.proofs.top.put_end.Goals as goal

pub returns-in-Ok : goal.returns-in-Ok
returns-in-Ok g c = record {
  last = Some (record { piece = c.args.line.now; answer = Ok tt });
  ended = (refl, refl);
  went = (c.put.new.self, c.in-Ok.ensures.calls, refl);
}

pub returns-in-Err-Failed : goal.returns-in-Err-Failed
returns-in-Err-Failed g c = record {
  last = Some (record { piece = c.args.line.now; answer = Err put.Failed });
  ended = (refl, refl);
  went = (c.put.new.self, rw c.in-Err-Failed.field-0-is at c.in-Err-Failed.ensures.calls, refl);
}

pub returns-in-Err-Memory : goal.returns-in-Err-Memory
returns-in-Err-Memory g c = record {
  last = Some (record { piece = c.args.line.now; answer = Err put.Memory });
  ended = (refl, refl);
  went = (c.put.new.self, rw c.in-Err-Memory.field-0-is at c.in-Err-Memory.ensures.calls, refl);
}
