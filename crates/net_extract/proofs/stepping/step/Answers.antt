use Rattle.std.proofs.Common.{◌≤◌, sym, subst}
use Rattle.cover_names.specs.Literals.{NamedCover}
use Rattle.net_work.specs.Placed.{circuit_of}
use Rattle.net_candidates.specs.Candidates.{literals_in}
use Rattle.net_savings.proofs.Found.{candidate_some}
use Rattle.net_extract.proofs.stepping.step.Goals as goal

pub put-requires-clause-some : goal.put-requires-clause-some
put-requires-clause-some g c =
    let next = rw c.in-Some.is at c.in_ok-best_known.ensures.found in
    subst (λ (cover : NamedCover). 1 ≤ literals_in cover) (sym c.as_slice.ensures)
    (candidate_some c.args.rule (circuit_of c.args.work.now) c.in_ok-name.name c.requires.sound c.in_ok-name.ensures c.in-Some.cover next.best.may.candidate)

pub returns-clause-saved : goal.returns-clause-saved
returns-clause-saved g c = c.in_ok-put-in-Some.ensures.saved c.args.rule c.in_ok-best_known.ensures.saved
