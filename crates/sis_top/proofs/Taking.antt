-- A script that is taken piece by piece off the input.
use Rattle.std.proofs.Common.{◌≡◌, ℕ, ◌+◌, ◌≤◌, ◌<◌, List, [], ◌∷◌, ◌++◌, length, refl, sym, subst, inl, inr, arith, ltb, eqb, zero, suc}
use Rattle.std.specs.Prelude.{Bool, true, false, Result, Ok, Err}
use Rattle.std.proofs.lemmas.Bool.{ltb-true}
use Rattle.std.specs.Global.{Vec}
use Rattle.std.proofs.lemmas.List.{append_assoc, append-nil}
use Rattle.sis_outside.specs.Calls.{TakeCall, Follows}
use Rattle.sis_outside.specs.declared.source.TakeFault.TheVariants as take
use Rattle.sis_session.specs.Plan.{MAX_BYTES, Outcome, Ending, Cut, ComesPiece, ComesTaken}
use Rattle.sis_session.specs.declared.refusal.Failed.TheVariants as failed
use Rattle.sis_top.specs.Code.{EndsTaken, HasTaken, IsTaking}
use Rattle.sis_top.specs.declared.input.Unread.{Unread}
use Rattle.sis_top.specs.declared.input.Unread.TheVariants as unread
use Rattle.sis_top.proofs.Turning.{follows_joined}

-- a take asks for all that may still be used of a script, and one byte more
abbrev pub AsksAll : List ℕ → ℕ → Type 0
AsksAll text max = (length text ≤ MAX_BYTES) × (max + length text ≡ MAX_BYTES + 1)

pub taking_none : {I : Type 0} (takes : I → TakeCall → I → Type 0) (input : I) → IsTaking (Follows takes input input) []
taking_none takes input = record { calls = []; went = refl; goes_on = λ used more ending h. h }

-- one take more, with its answer
taken_more : {I : Type 0} (takes : I → TakeCall → I → Type 0) (old mid new : I) (text : List ℕ) (call : TakeCall) (result : Result (Vec ℕ) Unread)
    → IsTaking (Follows takes old mid) text → takes mid call new → AsksAll text call.max
    → ((used : List ℕ → Outcome) (ending : Ending) → EndsTaken used result ending → ComesPiece used text call.answer [] (λ longer. ComesTaken used longer [] ending) ending)
    → HasTaken (Follows takes old new) result
taken_more takes old mid new text call result taking took all comes = record {
  calls = taking.calls ++ call ∷ [];
  went = follows_joined takes old mid new taking.calls (call ∷ []) taking.went (new, took, refl);
  comes = λ used ending h. taking.goes_on used (call ∷ []) ending (all, comes used ending h);
}

pub taken_end : {I : Type 0} (takes : I → TakeCall → I → Type 0) (old mid new : I) (text : Vec ℕ) (max : ℕ) (piece : List ℕ)
    → IsTaking (Follows takes old mid) text.items → takes mid (record { max = max; answer = Ok piece }) new → AsksAll text.items max → length piece ≡ 0
    → HasTaken (Follows takes old new) (Ok text)
taken_end takes old mid new text max [] taking took all none =
    taken_more takes old mid new text.items (record { max = max; answer = Ok [] }) (Ok text) taking took all (λ used ending h. (refl, h))
taken_end takes old mid new text max (byte ∷ piece) taking took all none = absurd (omega (arith, none))

pub taken_failed : {I : Type 0} (takes : I → TakeCall → I → Type 0) (old mid new : I) (text : List ℕ) (max : ℕ)
    → IsTaking (Follows takes old mid) text → takes mid (record { max = max; answer = Err take.Failed }) new → AsksAll text max
    → HasTaken (Follows takes old new) (Err unread.Failed)
taken_failed takes old mid new text max taking took all =
    taken_more takes old mid new text (record { max = max; answer = Err take.Failed }) (Err unread.Failed) taking took all (λ used ending h. (refl, h))

pub taken_wanting : {I : Type 0} (takes : I → TakeCall → I → Type 0) (old mid new : I) (text : List ℕ) (max : ℕ)
    → IsTaking (Follows takes old mid) text → takes mid (record { max = max; answer = Err take.Memory }) new → AsksAll text max
    → HasTaken (Follows takes old new) (Err unread.Memory)
taken_wanting takes old mid new text max taking took all =
    taken_more takes old mid new text (record { max = max; answer = Err take.Memory }) (Err unread.Memory) taking took all (λ used ending h. (refl, h))

-- a piece came that is not empty
pub taking_more : {I : Type 0} (takes : I → TakeCall → I → Type 0) (old mid new : I) (text piece : List ℕ) (max : ℕ)
    → IsTaking (Follows takes old mid) text → takes mid (record { max = max; answer = Ok piece }) new → AsksAll text max → 0 < length piece
    → IsTaking (Follows takes old new) (text ++ piece)
taking_more takes old mid new text [] max taking took all some = absurd (omega (arith, some))
taking_more takes old mid new text (byte ∷ piece) max taking took all some = record {
  calls = taking.calls ++ record { max = max; answer = Ok (byte ∷ piece) } ∷ [];
  went = follows_joined takes old mid new taking.calls (record { max = max; answer = Ok (byte ∷ piece) } ∷ []) taking.went (new, took, refl);
  goes_on = λ used more ending h. subst (λ (calls : List TakeCall). ComesTaken used [] calls ending)
      (sym (append_assoc taking.calls (record { max = max; answer = Ok (byte ∷ piece) } ∷ []) more))
      (taking.goes_on used (record { max = max; answer = Ok (byte ∷ piece) } ∷ more) ending (all, h));
}

no_more : {I : Type 0} (takes : I → TakeCall → I → Type 0) (old new : I) (text : List ℕ) (result : Result (Vec ℕ) Unread) → IsTaking (Follows takes old new) text
    → ((used : List ℕ → Outcome) (ending : Ending) → EndsTaken used result ending → ComesTaken used text [] ending) → HasTaken (Follows takes old new) result
no_more takes old new text result taking comes = record {
  calls = taking.calls;
  went = taking.went;
  comes = λ used ending h. subst (λ (calls : List TakeCall). ComesTaken used [] calls ending) (append-nil taking.calls) (taking.goes_on used [] ending (comes used ending h));
}

pub taken_long : {I : Type 0} (takes : I → TakeCall → I → Type 0) (old new : I) (text : List ℕ) → IsTaking (Follows takes old new) text → MAX_BYTES < length text
    → HasTaken (Follows takes old new) (Err unread.TooLong)
taken_long takes old new text taking long = no_more takes old new text (Err unread.TooLong) taking (λ used ending h. inl (long, h))

not_below : (a b : ℕ) → ltb a b ≡ false → b ≤ a
not_below a b e = grind arith

-- memory ran out after a piece
pub taken_short : {I : Type 0} (takes : I → TakeCall → I → Type 0) (old new : I) (text : List ℕ) → IsTaking (Follows takes old new) text
    → HasTaken (Follows takes old new) (Err unread.Memory)
taken_short takes old new text taking = no_more takes old new text (Err unread.Memory) taking (λ used ending h. by used ending h (ltb MAX_BYTES (length text)) refl)
  where
    by : (used : List ℕ → Outcome) (ending : Ending) → ending ≡ Cut failed.Memory → (long : Bool) → ltb MAX_BYTES (length text) ≡ long → ComesTaken used text [] ending
    by used ending h true e = inl (ltb-true MAX_BYTES (length text) e, inr h)
    by used ending h false e = inr (not_below MAX_BYTES (length text) e, h)

pub some_bytes : (count : ℕ) → eqb count 0 ≡ false → 0 < count
some_bytes zero e = cc
some_bytes (suc count) e = omega arith
