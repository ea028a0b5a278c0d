-- Loops whose turns and steps are alike if a property of the store holds, and keep it, are alike and keep it.
use Rattle.std.proofs.Common.{ℕ, zero, suc, Bool, true, false, if◌then◌else◌, Option, Some, None}
use Rattle.st_meaning.specs.Stores.{Store}
use Rattle.st_meaning.specs.Ticks.{Run, ◌>>=◌, give}
use Rattle.st_meaning.specs.Loops.{End, goes_on, exits, returns, Iteration, again, over, turned, resumed, go_back, turns}
use Rattle.st_meaning.specs.Loops.{looped, guarded, tested_after, until}
use Rattle.st_meaning.specs.Runs.{store_of}
use Rattle.st_link.proofs.RunsAlike.{RunsAlike, both_then, both_give, both_fault, both_tick}

abbrev pub Whatever : Bool → Type 0
Whatever b = Unit {0}

module _ (I : Store → Type 0) where
  -- the store after a run has the property
  abbrev pub Leaves : End → Type 0
  Leaves e = I (store_of e)

  abbrev pub LeavesTurn : Iteration → Type 0
  LeavesTurn (again s) = I s
  LeavesTurn (over e) = Leaves e

  abbrev pub LeavesStep : Option Store → Type 0
  LeavesStep None = Unit {0}
  LeavesStep (Some s) = I s

  turned_leaves : (e : End) → Leaves e → LeavesTurn (turned e)
  turned_leaves (goes_on s) h = h
  turned_leaves (exits s) h = h
  turned_leaves (returns s) h = h

  module _ (turn turn' : Store → Run Iteration) (step step' : Store → Run (Option Store))
      (turns_so : (s : Store) → I s → RunsAlike LeavesTurn (turn s) (turn' s))
      (steps_so : (s : Store) → I s → RunsAlike LeavesStep (step s) (step' s)) where
    resumed_alike : (next next' : Store → Run End)
        → ((s : Store) → I s → RunsAlike Leaves (next s) (next' s)) → (s : Store) → I s → (o : Option Store)
        → LeavesStep o → RunsAlike Leaves (resumed next s o) (resumed next' s o)
    resumed_alike next next' k s is None h = both_give Leaves (goes_on s) is
    resumed_alike next next' k s is (Some t) h = k t h

    back_alike : (next next' : Store → Run End)
        → ((s : Store) → I s → RunsAlike Leaves (next s) (next' s)) → (t : Iteration) → LeavesTurn t
        → RunsAlike Leaves (go_back step next t) (go_back step' next' t)
    back_alike next next' k (over e) h = both_give Leaves e h
    back_alike next next' k (again s) h =
        both_tick (both_then (steps_so s h) (λ o g. resumed_alike next next' k s h o g))

    turns_alike : (n : ℕ) (s : Store) → I s → RunsAlike Leaves (turns n turn step s) (turns n turn' step' s)
    unfolding turns
    turns_alike zero s is = both_fault Leaves _
    turns_alike (suc n) s is =
        both_then (turns_so s is) (λ t h. back_alike (turns n turn step) (turns n turn' step') (turns_alike n) t h)

    pub looped_alike : (s : Store) → I s → RunsAlike Leaves (looped turn step s) (looped turn' step' s)
    unfolding looped
    looped_alike s is = record { ends = λ b. (turns_alike (suc b) s is).ends b }

  module _ (condition condition' : Store → Run Bool) (body body' : Store → Run End)
      (conditions_so : (s : Store) → I s → RunsAlike Whatever (condition s) (condition' s))
      (bodies_so : (s : Store) → I s → RunsAlike Leaves (body s) (body' s)) where
    pub guarded_alike : (s : Store) → I s
        → RunsAlike LeavesTurn (guarded condition body s) (guarded condition' body' s)
    unfolding guarded
    guarded_alike s is = both_then (conditions_so s is) (λ go _. chosen go)
      where
        chosen : (go : Bool) → RunsAlike LeavesTurn
            (if go then (body s >>= (λ e. give (turned e))) else give (over (goes_on s)))
            (if go then (body' s >>= (λ e. give (turned e))) else give (over (goes_on s)))
        chosen true = both_then (bodies_so s is) (λ e h. both_give LeavesTurn (turned e) (turned_leaves e h))
        chosen false = both_give LeavesTurn (over (goes_on s)) is

    asked_alike : (e : End) → Leaves e → RunsAlike LeavesTurn (tested_after condition e) (tested_after condition' e)
    asked_alike (goes_on s) h = both_then (conditions_so s h) (λ stop _. chosen stop)
      where
        chosen : (stop : Bool) → RunsAlike LeavesTurn (give (if stop then over (goes_on s) else again s))
            (give (if stop then over (goes_on s) else again s))
        chosen true = both_give LeavesTurn (over (goes_on s)) h
        chosen false = both_give LeavesTurn (again s) h
    asked_alike (exits s) h = both_give LeavesTurn (over (goes_on s)) h
    asked_alike (returns s) h = both_give LeavesTurn (over (returns s)) h

    pub until_alike : (s : Store) → I s → RunsAlike LeavesTurn (until body condition s) (until body' condition' s)
    unfolding until
    until_alike s is = both_then (bodies_so s is) (λ e h. asked_alike e h)
