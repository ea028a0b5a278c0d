-- The values that a record of one plan gives another.
use Rattle.std.proofs.Common.{◌≡◌, ◌∙◌, ap, refl, ℕ, Bool, true, false, ◌&&◌, if◌then◌else◌, List, [], ◌∷◌, map}
use Rattle.std.proofs.Common.{Option, Some}
use Rattle.std.specs.List.{find, AllByRecursion}
use Rattle.st_types.specs.Kinds.{holds}
use Rattle.st_types.specs.Values.{Datum}
use Rattle.st_types.specs.Paths.{Path}
use Rattle.st_meaning.specs.Stores.{Store}
use Rattle.st_meaning.specs.declared.plan.PlanVariable.{PlanVariable}
use Rattle.st_meaning.specs.Layouts.{Enumerations}
use Rattle.st_meaning.specs.Plans.{Plan}
use Rattle.st_meaning.specs.Restarts.{KeptLine, kept, is_line_of, restored_value, line_with, lines_with}
use Rattle.st_meaning.proofs.RestartLemmas.{restarts}
use Rattle.retain_records.specs.OtherPlans.{is_value_for, taken_from, carried, all_carried, HoldTheSame, started_after}

and_that : (a b : Bool) → (a ≡ true → b ≡ true) → (a && b) ≡ a
and_that true b h = h refl
and_that false b h = refl

found_more : (v : PlanVariable) (e : Path × Datum) (l : KeptLine) (o : Option KeptLine) (u : Option (Path × Datum)) (b : Bool)
    → l.number ≡ e.1.number → restored_value v o ≡ taken_from v u
    → restored_value v (if b then Some l else o) ≡ taken_from v (if b then Some e else u)
found_more v e l o u true same rest = ap (λ z. record { kind = v.initial.kind; number = z }) same
found_more v e l o u false same rest = rest

-- the line that is found belongs to the value that is found
found_alike : (old new : Enumerations) (v : PlanVariable) (s : Store)
    → AllByRecursion (λ e. is_value_for old new v e ≡ true → holds v.initial.kind e.1.number ≡ true) s
    → restored_value v (find (is_line_of new v) (lines_with old s)) ≡ taken_from v (find (is_value_for old new v) s)
found_alike old new v [] hold = refl
found_alike old new v (e ∷ s) hold =
    let same : is_line_of new v (line_with old e) ≡ is_value_for old new v e =
    and_that (is_value_for old new v e) (holds v.initial.kind e.1.number) hold.0 in
    ap (λ b. restored_value v (if b then Some (line_with old e) else find (is_line_of new v) (lines_with old s))) same
    ∙ found_more v e (line_with old e) (find (is_line_of new v) (lines_with old s)) (find (is_value_for old new v) s)
    (is_value_for old new v e) refl (found_alike old new v s hold.1)

carried_one : (old new : Enumerations) (v : PlanVariable) (s : Store) (r : Bool)
    → AllByRecursion (λ e. is_value_for old new v e ≡ true → holds v.initial.kind e.1.number ≡ true) s
    → (if r then restored_value v (find (is_line_of new v) (lines_with old s)) else v.initial)
    ≡ (if r then taken_from v (find (is_value_for old new v) s) else v.initial)
carried_one old new v s true hold = found_alike old new v s hold
carried_one old new v s false hold = refl

carried_each : (old new : Plan) (s : Store) (vs : List PlanVariable)
    → HoldTheSame old.enumerations new.enumerations vs (kept old s)
    → restarts new.enumerations (lines_with old.enumerations (kept old s)) vs
    ≡ map (λ v. (v.path, carried old new s v)) vs
carried_each old new s [] hold = refl
carried_each old new s (v ∷ vs) hold =
    ap (λ d. (v.path, d) ∷ restarts new.enumerations (lines_with old.enumerations (kept old s)) vs)
    (carried_one old.enumerations new.enumerations v (kept old s) v.retained hold.0)
    ∙ ap (λ t. (v.path, carried old new s v) ∷ t) (carried_each old new s vs hold.1)

pub carried_over : (old new : Plan) (s : Store) (moment : Option ℕ)
    → HoldTheSame old.enumerations new.enumerations new.variables (kept old s)
    → (started_after old new s moment).store ≡ all_carried old new s
carried_over old new s moment hold = carried_each old new s new.variables hold
