-- Steps that each have one outcome come to one end or stop; the best choice is one, and so is the first thing that fails; chains are joined.
use Rattle.std.proofs.Common.{◌≡◌, ℕ, ◌<◌, ◌≤◌, List, [], ◌∷◌, ◌++◌, refl, sym, ◌∙◌, subst, arith}
use Rattle.std.specs.List.{AllByRecursion}
use Rattle.circuit_laws.specs.Greedy.{Follows, Reaches, HasEnd, HasStop, IsBestChoice, NoneSaves, IsFirstFailing}
use Rattle.circuit_laws.proofs.Sound.{all_parts}

-- ---- chains

follows_both : {N : Type 0} (Step : N → N → Type 0) (one other : List N) (from between to : N) → Follows Step one from between → Follows Step other between to → Follows Step (one ++ other) from to
follows_both Step [] other from between to same rest = subst (λ x. Follows Step other x to) (sym same) rest
follows_both Step (next ∷ one) other from between to steps rest = (steps.0, follows_both Step one other next between to steps.1 rest)

pub reached_itself : {N : Type 0} (Step : N → N → Type 0) (from : N) → Reaches Step from from
reached_itself Step from = record { between = []; steps = refl }

pub reached_both : {N : Type 0} (Step : N → N → Type 0) (from between to : N) → Reaches Step from between → Reaches Step between to → Reaches Step from to
reached_both Step from between to first second = record {
  between = first.between ++ second.between;
  steps = follows_both Step first.between second.between from between to first.steps second.steps;
}

pub reached_more : {N : Type 0} (Step : N → N → Type 0) (from to last : N) → Reaches Step from to → Step to last → Reaches Step from last
reached_more Step from to last reached step = reached_both Step from to last reached (record { between = last ∷ []; steps = (step, refl) })

-- a relation that holds from each good thing to itself and goes through, and that holds along each step from a good thing,
-- which leads to a good one, holds from end to end
follows_kept : {N : Type 0} (IsGood : N → Type 0) (Keeps : N → N → Type 0) (Step : N → N → Type 0)
    → ((x : N) → IsGood x → Keeps x x) → ((x y z : N) → Keeps x y → Keeps y z → Keeps x z)
    → ((x y : N) → IsGood x → Step x y → IsGood y × Keeps x y)
    → (between : List N) (from to : N) → IsGood from → Follows Step between from to → IsGood to × Keeps from to
follows_kept IsGood Keeps Step itself through along [] from to good same = (subst IsGood same good, subst (Keeps from) same (itself from good))
follows_kept IsGood Keeps Step itself through along (next ∷ rest) from to good steps =
    let one = along from next good steps.0 in
    let others = follows_kept IsGood Keeps Step itself through along rest next to one.0 steps.1 in
    (others.0, through from next to one.1 others.1)

pub reached_kept : {N : Type 0} (IsGood : N → Type 0) (Keeps : N → N → Type 0) (Step : N → N → Type 0)
    → ((x : N) → IsGood x → Keeps x x) → ((x y z : N) → Keeps x y → Keeps y z → Keeps x z)
    → ((x y : N) → IsGood x → Step x y → IsGood y × Keeps x y)
    → (from to : N) → IsGood from → Reaches Step from to → IsGood to × Keeps from to
reached_kept IsGood Keeps Step itself through along from to good reached =
    follows_kept IsGood Keeps Step itself through along reached.between from to good reached.steps

-- ---- ends and stops

-- no step is made from such a thing
abbrev pub HasNoStep : {N : Type 0} → (N → N → Type 0) → (N → Type 0) → Type 0
HasNoStep {N} Step Ends = (x : N) → Ends x → (y : N) → Step x y → ⊥

-- a step has one outcome
abbrev pub HasOneOutcome : {N : Type 0} → (N → N → Type 0) → Type 0
HasOneOutcome {N} Step = (x y z : N) → Step x y → Step x z → y ≡ z

module _ {N : Type 0} (Step : N → N → Type 0) (only : HasOneOutcome Step) where
  follows_one : (one other : List N) (from first second : N) → Follows Step one from first → ((z : N) → Step first z → ⊥)
      → Follows Step other from second → ((z : N) → Step second z → ⊥) → first ≡ second
  follows_one [] [] from first second a h b k = sym a ∙ b
  follows_one [] (next ∷ other) from first second a h b k = absurd (h next (subst (λ x. Step x next) a b.0))
  follows_one (next ∷ one) [] from first second a h b k = absurd (k next (subst (λ x. Step x next) b a.0))
  follows_one (next ∷ one) (following ∷ other) from first second a h b k =
      follows_one one other next first second a.1 h (subst (λ x. Follows Step other x second) (sym (only from next following a.0 b.0)) b.1) k

  -- from one thing two ends are one
  pub ends_one : (IsDone : N → Type 0) → HasNoStep Step IsDone → (from first second : N) → HasEnd Step IsDone from first → HasEnd Step IsDone from second → first ≡ second
  ends_one IsDone done from first second one other =
      follows_one one.reached.between other.reached.between from first second one.reached.steps (done first one.done) other.reached.steps (done second other.done)

  -- steps stop at one thing
  pub stops_one : (Stops Halts : N → Type 0) → HasNoStep Step Stops → HasNoStep Step Halts → (from : N) (one : HasStop Step Stops from) (other : HasStop Step Halts from) → one.last ≡ other.last
  stops_one Stops Halts stop halt from one other =
      follows_one one.reached.between other.reached.between from one.last other.last one.reached.steps (stop one.last one.stops) other.reached.steps (halt other.last other.stops)

  -- and where no thing stops them for both reasons, for one of them
  pub stops_apart : (Stops Halts : N → Type 0) → HasNoStep Step Stops → HasNoStep Step Halts → ((x : N) → Stops x → Halts x → ⊥) → (from : N) → HasStop Step Stops from → HasStop Step Halts from → ⊥
  stops_apart Stops Halts stop halt apart from one other =
      apart other.last (subst Stops (stops_one Stops Halts stop halt from one other) one.stops) other.stops

  -- an end is no stop
  pub end_no_stop : (IsDone Stops : N → Type 0) → HasNoStep Step IsDone → HasNoStep Step Stops → ((x : N) → IsDone x → Stops x → ⊥) → (from to : N) → HasEnd Step IsDone from to → HasStop Step Stops from → ⊥
  end_no_stop IsDone Stops done stop apart from to end other =
      stops_apart IsDone Stops done stop apart from (record { last = to; reached = end.reached; stops = end.done }) other

-- ---- choices

level : (m n : ℕ) → m ≤ n → n ≤ m → m ≡ n
level m n h k = omega (arith, h, k)

not_beyond : (m n : ℕ) → m < n → n ≤ m → ⊥
not_beyond m n h k = absurd (omega (arith, h, k))

module _ {C : Type 0} (May : C → Type 0) (Before : C → C → Type 0) (after : C → ℕ) (now : ℕ) where
  -- where of two choices one is before the other the best one is one
  pub best_one : ((x y : C) → May x → May y → (Before x y → ⊥) → (Before y x → ⊥) → x ≡ y)
      → (one other : C) → IsBestChoice May Before after now one → IsBestChoice May Before after now other → one ≡ other
  best_one same one other best second =
      let equal : after one ≡ after other = level (after one) (after other) (best.most other second.may) (second.most one best.may) in
      same one other best.may second.may (second.first one best.may equal) (best.first other second.may (sym equal))

  -- where none saves none is best
  pub none_best : NoneSaves May after now → (choice : C) → IsBestChoice May Before after now choice → ⊥
  none_best none choice best = not_beyond (after choice) now best.saves (none choice best.may)

-- ---- the first that fails

module _ {X : Type 0} (Passes Fails : X → Type 0) (apart : (x : X) → Fails x → Passes x → ⊥) where
  parts_one : (before after others behind : List X) (x y : X) → before ++ x ∷ after ≡ others ++ y ∷ behind
      → AllByRecursion Passes before → AllByRecursion Passes others → Fails x → Fails y → x ≡ y
  parts_one [] after [] behind x y same all every h k = cc
  parts_one [] after (first ∷ others) behind x y same all every h k =
      let is : x ≡ first = cc in absurd (apart x h (subst Passes (sym is) every.0))
  parts_one (first ∷ before) after [] behind x y same all every h k =
      let is : first ≡ y = cc in absurd (apart y k (subst Passes is all.0))
  parts_one (first ∷ before) after (other ∷ others) behind x y same all every h k =
      let rest : before ++ x ∷ after ≡ others ++ y ∷ behind = cc in
      parts_one before after others behind x y rest all.1 every.1 h k

  pub first_one : (list : List X) (x y : X) → IsFirstFailing Passes Fails list x → IsFirstFailing Passes Fails list y → x ≡ y
  first_one list x y one other = parts_one one.before one.after other.before other.after x y (sym one.is ∙ other.is) one.pass other.pass one.fails other.fails

  -- where one fails not all pass
  pub first_not_all : (list : List X) (x : X) → IsFirstFailing Passes Fails list x → AllByRecursion Passes list → ⊥
  first_not_all list x first all =
      apart x first.fails (all_parts Passes first.before (x ∷ first.after) (subst (AllByRecursion Passes) first.is all)).1.0
