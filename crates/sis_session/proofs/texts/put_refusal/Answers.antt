use Rattle.std.proofs.Common.{◌≡◌, ◌∙◌, List, ℕ, ◌++◌, sym, ap}
use Rattle.sis_session.specs.Replies.{refusal_text}
use Rattle.sis_session.specs.declared.refusal.Refusal.TheVariants.{CubeLimit, KernelLimit, TooBig}
use Rattle.sis_session.specs.declared.refusal.Refusal.TheVariants.{LongScript}
use Rattle.sis_session.proofs.texts.put_refusal.Goals as goal

pub returns-in-CubeLimit-clause-ok : goal.returns-in-CubeLimit-clause-ok
unfolding refusal_text
returns-in-CubeLimit-clause-ok c =
    let text : refusal_text (CubeLimit c.in-CubeLimit.name)
    ≡ c.as_slice-in-CubeLimit.result.now ++ c.as_slice-in-CubeLimit-2.result.now =
    ap (λ (what : List ℕ). what ++ c.in-CubeLimit.name) (sym c.as_slice-in-CubeLimit.ensures)
    ∙ ap (λ (name : List ℕ). c.as_slice-in-CubeLimit.result.now ++ name)
    (sym c.as_slice-in-CubeLimit-2.ensures) in
    rw (c.in-CubeLimit.is, text) c.put_two-in-CubeLimit.ensures.ok

pub returns-in-KernelLimit-clause-ok : goal.returns-in-KernelLimit-clause-ok
unfolding refusal_text
returns-in-KernelLimit-clause-ok c =
    let text : refusal_text (KernelLimit c.in-KernelLimit.name)
    ≡ c.as_slice-in-KernelLimit.result.now ++ c.as_slice-in-KernelLimit-2.result.now =
    ap (λ (what : List ℕ). what ++ c.in-KernelLimit.name) (sym c.as_slice-in-KernelLimit.ensures)
    ∙ ap (λ (name : List ℕ). c.as_slice-in-KernelLimit.result.now ++ name)
    (sym c.as_slice-in-KernelLimit-2.ensures) in
    rw (c.in-KernelLimit.is, text) c.put_two-in-KernelLimit.ensures.ok

pub returns-in-TooBig-clause-ok : goal.returns-in-TooBig-clause-ok
unfolding refusal_text
returns-in-TooBig-clause-ok c =
    let text : refusal_text (TooBig c.in-TooBig.name)
    ≡ c.as_slice-in-TooBig.result.now ++ c.as_slice-in-TooBig-2.result.now =
    ap (λ (what : List ℕ). what ++ c.in-TooBig.name) (sym c.as_slice-in-TooBig.ensures)
    ∙ ap (λ (name : List ℕ). c.as_slice-in-TooBig.result.now ++ name)
    (sym c.as_slice-in-TooBig-2.ensures) in
    rw (c.in-TooBig.is, text) c.put_two-in-TooBig.ensures.ok

pub returns-in-LongScript-clause-ok : goal.returns-in-LongScript-clause-ok
unfolding refusal_text
returns-in-LongScript-clause-ok c =
    let text : refusal_text LongScript ≡ c.as_slice-in-LongScript.result.now =
    sym c.as_slice-in-LongScript.ensures in
    rw (c.in-LongScript.is, text) c.put_text-in-LongScript.ensures.ok
