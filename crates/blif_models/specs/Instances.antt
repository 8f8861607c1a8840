-- An instance as the code keeps it. Only clauses of this crate's own functions cite this module.
use Rattle.std.specs.Prelude.{List, map}
use Rattle.blif_models.specs.Flat.{Instance}
use Rattle.blif_models.specs.declared.instance.Instance.{Instance as Kept}

-- the instance that is kept, as it is defined
abbrev pub instance_in : Kept → Instance
instance_in kept = record { path = kept.path; pairs = kept.pairs; controls = kept.controls.keys }

abbrev pub frames_in : List Kept → List Instance
frames_in frames = map instance_in frames
