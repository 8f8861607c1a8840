-- What a table gives by itself, and candidates.
use Rattle.std.proofs.Common.{◌≡◌, ◌⊎◌, true, List, [], ◌∷◌, refl, inl, inr}
use Rattle.circuit_model.specs.Names.{all_different}
use Rattle.circuit_model.specs.declared.circuit.Table.{Table}
use Rattle.alg_div.specs.Cubes.{Has}
use Rattle.net_candidates.specs.Listed.{IsOwn}
use Rattle.net_candidates.specs.Candidates.{IsSharedCube, IsCandidate}
use Rattle.net_candidates.specs.declared.rule.Rule.{Rule}
use Rattle.net_candidates.specs.declared.rule.Rule.TheVariants.{Fx, Gkx, Gcx}
use Rattle.net_candidates.proofs.Usable.{candidate_usable}
use Rattle.cover_names.specs.Literals.{NamedCover}
use Rattle.cover_names.specs.Cubes.{is_over}

pub own_candidate : (rule : Rule) (tables : List Table) (table : Table) (cover : NamedCover) → Has table tables → IsOwn rule table cover → IsCandidate rule tables cover
own_candidate Fx tables table cover m own = (table, m, own)
own_candidate Gkx tables table cover m own = (table, m, own)
own_candidate Gcx tables table cover m own = absurd own

-- a table gives a candidate by itself, or rows share it
pub candidate_either : (rule : Rule) (tables : List Table) (cover : NamedCover) → IsCandidate rule tables cover
    → ((table : Table) × Has table tables × IsOwn rule table cover) ⊎ ((rule ≡ Gcx) × IsSharedCube tables cover)
candidate_either Fx tables cover is = inl is
candidate_either Gkx tables cover is = inl is
candidate_either Gcx tables cover is = inr (refl, is)

pub shared_candidate : (rule : Rule) (tables : List Table) (cover : NamedCover) → rule ≡ Gcx → IsSharedCube tables cover → IsCandidate rule tables cover
shared_candidate Fx tables cover e is = absurd (let no : Fx ≡ Gcx = e in cc)
shared_candidate Gkx tables cover e is = absurd (let no : Gkx ≡ Gcx = e in cc)
shared_candidate Gcx tables cover e is = is

-- a table reads all names of what it gives by itself
pub own_over : (rule : Rule) (table : Table) (cover : NamedCover) → all_different table.inputs ≡ true → IsOwn rule table cover → is_over table.inputs cover ≡ true
own_over rule table cover once own =
    (candidate_usable rule table.inputs (table ∷ []) cover (record { once = once; live = λ name m. m }, tt) (own_candidate rule (table ∷ []) table cover (inl refl) own)).over
