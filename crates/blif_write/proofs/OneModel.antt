-- A written text is one model without an instance.
use Rattle.std.proofs.Common.{◌≡◌, Option, List, refl}
use Rattle.circuit_model.specs.declared.circuit.Circuit.{Circuit}
use Rattle.netlist.specs.declared.mapped.Placed.{Placed}
use Rattle.genlib_format.specs.declared.gate.Gate.{Gate as TheGate}
use Rattle.blif_lines.specs.declared.keyword.Keyword.TheVariants.{Model, Inputs, Outputs, Clock, Names, Latch, Gate, Subckt, StartKiss, DontCare, End, Skipped, Row, Other}
use Rattle.blif_lines.specs.Reader.{is_instance_kind, has_instances, read_lines}
use Rattle.blif_models.specs.Models.{is_model_kind}
use Rattle.blif_models.specs.Reader.{read_models}
use Rattle.blif_models.proofs.OneModel.{one_model}
use Rattle.blif_write.proofs.OtherKinds.{none_written, none_behind_first}
use Rattle.blif_write.proofs.Said.{OnNone, lines_of}

model_none : OnNone is_model_kind
model_none Model e = absurd (cc)
model_none Inputs e = refl
model_none Outputs e = refl
model_none Clock e = refl
model_none Names e = refl
model_none Latch e = refl
model_none Gate e = refl
model_none Subckt e = refl
model_none StartKiss e = refl
model_none DontCare e = refl
model_none End e = refl
model_none Skipped e = refl
model_none Row e = refl
model_none Other e = refl

instance_none : OnNone is_instance_kind
instance_none Model e = refl
instance_none Inputs e = refl
instance_none Outputs e = refl
instance_none Clock e = refl
instance_none Names e = refl
instance_none Latch e = refl
instance_none Gate e = refl
instance_none Subckt e = absurd (cc)
instance_none StartKiss e = refl
instance_none DontCare e = refl
instance_none End e = refl
instance_none Skipped e = refl
instance_none Row e = refl
instance_none Other e = refl

pub read_as_one : (library : Option (List TheGate)) (gates : List Placed) (circuit : Circuit) → read_models library (lines_of gates circuit) ≡ read_lines library (lines_of gates circuit)
unfolding has_instances
read_as_one library gates circuit =
    one_model library (lines_of gates circuit) (none_behind_first is_model_kind model_none refl gates circuit) (none_written is_instance_kind refl instance_none refl gates circuit)
