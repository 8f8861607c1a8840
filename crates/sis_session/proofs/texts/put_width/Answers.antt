use Rattle.std.proofs.Common.{◌≡◌, ◌++◌, codes, decimal, OnOk, ℕ, List, ◌∙◌, ap, subst}
use Rattle.std.proofs.Common.{append_assoc}
use Rattle.sis_session.proofs.texts.put_width.Goals as goal

pub returns-clause-ok : goal.returns-clause-ok
returns-clause-ok c =
    let head : c.as_bytes.result.now ≡ decimal c.args.count ++ codes " inputs at " =
    c.as_bytes.ensures.value ∙ c.in_ok-head.ensures.ok in
    let text : c.as_bytes.result.now ++ c.as_slice.result.now
    ≡ decimal c.args.count ++ (codes " inputs at " ++ c.args.name.now) =
    ap (λ (front : List ℕ). front ++ c.as_slice.result.now) head
    ∙ append_assoc (decimal c.args.count) (codes " inputs at ") c.as_slice.result.now
    ∙ ap (λ (name : List ℕ). decimal c.args.count ++ (codes " inputs at " ++ name))
    c.as_slice.ensures in
    subst
    (λ (t : List ℕ). OnOk c.put_two.result (c.put_two.new.out.items ≡ c.args.out.now.items ++ t))
    text c.put_two.ensures.ok
