use Rattle.std.proofs.Common.{◌≡◌, ◌+◌, arith, refl}
use Rattle.std.specs.List.{slice_range}
use Rattle.sis_outside.proofs.Pieces.{length_of_piece, takes_front}
use Rattle.sis_outside.proofs.sure_source.SureSourceSource.take.Goals as goal

pub returns-in-Ok : goal.returns-in-Ok
returns-in-Ok c =
    let bytes = c.self.inside.bytes.items in
    let piece : c.in-Ok.piece.items ≡ slice_range bytes c.self.inside.taken (c.self.inside.taken + c.min-count.result) =
    rw (← c.deref.ensures.value) (c.in-Ok.ensures.items_if_clones_equal (λ x y same. same)) in
    let size = length_of_piece bytes c.in-Ok.piece.items c.self.inside.taken c.min-count.result piece in
    rw (← c.self.view_is) (record {
      calls = (
        record {
          told = refl;
          contents = λ yes. takes_front bytes c.in-Ok.piece.items c.self.inside.taken c.min-count.result
              piece (omega arith) (λ none. omega arith);
          counted = refl;
        },
        omega (arith, size),
      );
    })
