-- Changes of totals one after the other.
use Rattle.std.proofs.Common.{◌≡◌, ℕ, ◌+◌, List, subst, arith}
use Rattle.net_gains.specs.Totals.{Changes, Allows}
use Rattle.net_gains.specs.Turning.{Saving, AreAllowed, IsTurned, IsPartly}
use Rattle.net_gains.specs.declared.totals.Change.{Change}
use Rattle.net_gains.specs.declared.totals.Change.TheVariants.{Comes, Goes}

-- equal savings
pub allowed_as : (change : Change) (totals one other : Saving) → ((cover : List (List ℕ)) → one cover ≡ other cover) → AreAllowed change totals one → AreAllowed change totals other
allowed_as change totals one other same allowed = λ cover. subst (Allows change (totals cover)) (same cover) (allowed cover)

pub turned_as : (change : Change) (old new one other : Saving) → ((cover : List (List ℕ)) → one cover ≡ other cover) → IsTurned change old new one → IsTurned change old new other
turned_as change old new one other same turned = λ cover. subst (λ (n : ℕ). Changes change (old cover) n (new cover)) (same cover) (turned cover)

-- nothing was added or subtracted
changes_none : (change : Change) (total saving : ℕ) → saving ≡ 0 → Changes change total saving total
changes_none Comes total saving none = omega (arith, none)
changes_none Goes total saving none = omega (arith, none)

pub turned_none : (change : Change) (totals saving : Saving) → ((cover : List (List ℕ)) → saving cover ≡ 0) → IsTurned change totals totals saving
turned_none change totals saving none = λ cover. changes_none change (totals cover) (saving cover) (none cover)

-- one part after the other
pub partly_begun : (change : Change) (totals whole rest : Saving) → ((cover : List (List ℕ)) → rest cover ≡ whole cover) → IsPartly change totals totals whole rest
partly_begun Comes totals whole rest same = λ cover. let all = same cover in omega (arith, all)
partly_begun Goes totals whole rest same = λ cover. let all = same cover in omega (arith, all)

pub partly_allowed : (change : Change) (old now whole rest next left : Saving) → AreAllowed change old whole → IsPartly change old now whole rest → ((cover : List (List ℕ)) → rest cover ≡ next cover + left cover)
    → AreAllowed change now next
partly_allowed Comes old now whole rest next left allowed partly splits = λ cover. omega arith
partly_allowed Goes old now whole rest next left allowed partly splits = λ cover. let may = allowed cover in let done = partly cover in let split = splits cover in omega (arith, may, done, split)

pub partly_more : (change : Change) (old now after whole rest next left : Saving) → IsPartly change old now whole rest → ((cover : List (List ℕ)) → rest cover ≡ next cover + left cover) → IsTurned change now after next
    → IsPartly change old after whole left
partly_more Comes old now after whole rest next left partly splits turned = λ cover. let done = partly cover in let split = splits cover in let more = turned cover in omega (arith, done, split, more)
partly_more Goes old now after whole rest next left partly splits turned = λ cover. let done = partly cover in let split = splits cover in let more = turned cover in omega (arith, done, split, more)

pub partly_ended : (change : Change) (old now whole rest : Saving) → IsPartly change old now whole rest → ((cover : List (List ℕ)) → rest cover ≡ 0) → IsTurned change old now whole
partly_ended Comes old now whole rest partly none = λ cover. let done = partly cover in let left = none cover in omega (arith, done, left)
partly_ended Goes old now whole rest partly none = λ cover. let done = partly cover in let left = none cover in omega (arith, done, left)

-- the first of a saving in two parts, and the second after it
pub allowed_first : (change : Change) (totals whole next left : Saving) → AreAllowed change totals whole → ((cover : List (List ℕ)) → whole cover ≡ next cover + left cover) → AreAllowed change totals next
allowed_first Comes totals whole next left allowed splits = λ cover. omega arith
allowed_first Goes totals whole next left allowed splits = λ cover. let may = allowed cover in let split = splits cover in omega (arith, may, split)

pub allowed_then : (change : Change) (old now whole next left : Saving) → AreAllowed change old whole → IsTurned change old now next → ((cover : List (List ℕ)) → whole cover ≡ next cover + left cover) → AreAllowed change now left
allowed_then Comes old now whole next left allowed turned splits = λ cover. omega arith
allowed_then Goes old now whole next left allowed turned splits = λ cover. let may = allowed cover in let split = splits cover in let done = turned cover in omega (arith, may, split, done)

pub turned_then : (change : Change) (old now last whole next left : Saving) → IsTurned change old now next → IsTurned change now last left → ((cover : List (List ℕ)) → whole cover ≡ next cover + left cover) → IsTurned change old last whole
turned_then Comes old now last whole next left first second splits = λ cover. let one = first cover in let more = second cover in let split = splits cover in omega (arith, one, more, split)
turned_then Goes old now last whole next left first second splits = λ cover. let one = first cover in let more = second cover in let split = splits cover in omega (arith, one, more, split)
