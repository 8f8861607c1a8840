use Rattle.std.proofs.Common.{◌∙◌, refl, Some, Ok, Err}
use Rattle.sis_outside.specs.declared.sink.PutFault.TheVariants as put
use Rattle.sis_top.proofs.running.tell.Goals as goal

pub returns-in-Ok-put : goal.returns-in-Ok-put
returns-in-Ok-put g c = record {
  told = Some (record { piece = c.as_slice.result.now; answer = Ok tt });
  is_told = c.as_slice.ensures.value ∙ c.in-Ok.ensures;
  went = (c.put.new.self, c.in-Ok-put.ensures.calls, refl);
  answer = refl;
}

pub returns-in-Err-Failed : goal.returns-in-Err-Failed
returns-in-Err-Failed g c = record {
  told = Some (record { piece = c.as_slice.result.now; answer = Err put.Failed });
  is_told = c.as_slice.ensures.value ∙ c.in-Ok.ensures;
  went = (c.put.new.self, rw c.in-Err-Failed.field-0-is at c.in-Err-Failed.ensures.calls, refl);
  answer = refl;
}

pub returns : goal.returns
returns g c = record {
  told = Some (record { piece = c.as_slice.result.now; answer = Err put.Memory });
  is_told = c.as_slice.ensures.value ∙ c.in-Ok.ensures;
  went = (c.put.new.self, rw c.in-Err-Memory.field-0-is at c.in-Err-Memory.ensures.calls, refl);
  answer = refl;
}
