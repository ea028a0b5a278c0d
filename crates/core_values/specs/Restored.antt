-- The values of the variables of a plan after a restart.
use Rattle.std.specs.Prelude.{List, [], ◌∷◌, if◌then◌else◌}
use Rattle.st_types.specs.Values.{Datum}
use Rattle.st_meaning.specs.declared.plan.PlanVariable.{PlanVariable}

-- the first of these values, or else that one
abbrev pub head_or : Datum → List Datum → Datum
head_or d [] = d
head_or d (w ∷ ws) = w

abbrev pub tail_of : List Datum → List Datum
tail_of [] = []
tail_of (w ∷ ws) = ws

-- the initial values, except that the retained variables have these, in order
abbrev pub restored : List PlanVariable → List Datum → List Datum
restored [] ws = []
restored (v ∷ vs) ws =
    if v.retained then head_or v.initial ws ∷ restored vs (tail_of ws) else v.initial ∷ restored vs ws
