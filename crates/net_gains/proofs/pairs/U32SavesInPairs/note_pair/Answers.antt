use Rattle.std.proofs.Common.{ℕ, [], ◌∷◌, min, max, sym, ap₂, ◌∙◌}
use Rattle.std.proofs.lemmas.Result.{on_ok_weaker}
use Rattle.net_gains.specs.Totals.{total_of}
use Rattle.net_gains.specs.Turning.{either_gain, saved_by}
use Rattle.net_gains.proofs.Pairing.{product_saved}
use Rattle.net_gains.proofs.Turned.{allowed_as, turned_as}
use Rattle.net_gains.proofs.pairs.U32SavesInPairs.note_pair.Goals as goal

pub note-requires : goal.note-requires
note-requires c =
    allowed_as c.args.change (total_of c.args.totals.now) (λ cover. either_gain cover c.args.one.now c.args.other.now) (saved_by c.in_ok-product.product 1)
    (λ cover. sym (product_saved cover (min c.args.one.now c.args.other.now) (max c.args.one.now c.args.other.now) c.in_ok-product.product (c.in_ok-product.ensures ∙ ap₂ (λ (m n : ℕ). (m ∷ n ∷ []) ∷ []) c.min.ensures c.max.ensures))) c.requires.allowed

pub returns : goal.returns
returns c =
    on_ok_weaker c.note.result
    (λ turned.
    turned_as c.args.change (total_of c.args.totals.now) (total_of c.note.new.totals) (saved_by c.in_ok-product.product 1) (λ cover. either_gain cover c.args.one.now c.args.other.now)
    (λ cover. product_saved cover (min c.args.one.now c.args.other.now) (max c.args.one.now c.args.other.now) c.in_ok-product.product (c.in_ok-product.ensures ∙ ap₂ (λ (m n : ℕ). (m ∷ n ∷ []) ∷ []) c.min.ensures c.max.ensures)) turned)
    c.note.ensures
