-- What a record of calls contains after a list of calls.
use Rattle.std.proofs.Common.{◌≡◌, List, [], ◌∷◌, ◌++◌, map, refl, sym, ap, subst, ◌∙◌, inl, inr}
use Rattle.std.specs.Prelude.{◌⊎◌, Option, Some, None, option_map, Result, Ok, Err, IfOk}
use Rattle.std.specs.Global.{Vec}
use Rattle.std.proofs.lemmas.List.{append_assoc, append-nil, map-append}
use Rattle.sis_outside.specs.Calls.{Follows}
use Rattle.sis_outside.specs.Recording.{IsNoted, IsRecorded, Records, calls_in, entries_in}

-- one call after a record is the first of some calls after it
recorded_more : {C : Type 0} (before middle now : Option (List C)) (call : C) (calls : List C) → IsRecorded before middle (call ∷ []) → IsRecorded middle now calls → IsRecorded before now (call ∷ calls)
recorded_more before middle now call calls h (inl lost) = inl lost
recorded_more before middle now call calls (inl lost) (inr grew) = inl (grew ∙ ap (option_map (λ log. log ++ calls)) lost)
recorded_more before middle now call calls (inr first) (inr grew) = inr (grew ∙ ap (option_map (λ log. log ++ calls)) first ∙ joined before)
  where
    joined : (log : Option (List _)) → option_map (λ l. l ++ calls) (option_map (λ l. l ++ call ∷ []) log) ≡ option_map (λ l. l ++ call ∷ calls) log
    joined None = refl
    joined (Some log) = ap Some (append_assoc log (call ∷ []) calls)

recorded_none : {C : Type 0} (log : Option (List C)) → IsRecorded log log []
recorded_none None = inl refl
recorded_none (Some log) = inr (ap Some (sym (append-nil log)))

pub records_grow : {R S C : Type 0} (log : R → Option (List C)) (inner : R → S) (goes : S → C → S → Type 0) (old new : R) (calls : List C)
    → Follows (Records log inner goes) old new calls → IsRecorded (log old) (log new) calls × Follows goes (inner old) (inner new) calls
records_grow log inner goes old new [] h =
    (subst (λ (r : _). IsRecorded (log old) (log r) []) (sym h) (recorded_none (log old)), ap inner h)
records_grow log inner goes old new (call ∷ calls) (next, one, rest) =
    let later = records_grow log inner goes next new calls rest in
    (recorded_more (log old) (log next) (log new) call calls one.0 later.0, (inner next, one.1, later.1))

-- an entry that was noted is its call in the record
pub noted_call : {E F C : Type 0} (call_of : E → C) (before now : Option (Vec E)) (entry : Result E F) (call : C) → IsNoted before entry now → IfOk entry (λ e. call_of e ≡ call)
    → IsRecorded (calls_in call_of before) (calls_in call_of now) (call ∷ [])
noted_call call_of before now (Err error) call h is = inl (ap (option_map (map call_of)) h)
noted_call call_of before now (Ok entry) call (inl lost) is = inl (ap (option_map (map call_of)) lost)
noted_call call_of before now (Ok entry) call (inr grew) is = inr (ap (option_map (map call_of)) grew ∙ both (entries_in before))
  where
    both : (log : Option (List _)) → option_map (map call_of) (option_map (λ l. l ++ entry ∷ []) log) ≡ option_map (λ l. l ++ call ∷ []) (option_map (map call_of) log)
    both None = refl
    both (Some log) = ap Some (map-append call_of log (entry ∷ []) ∙ ap (λ (made : _). map call_of log ++ made ∷ []) is)
