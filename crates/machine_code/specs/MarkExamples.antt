-- Marks of a worked example's slots.
use Rattle.std.specs.Prelude.{ℕ, List, [], ◌∷◌, Bool, true, false, replicate}
use Rattle.machine_code.specs.declared.mark.Mark.{Mark}

-- a slot was looked up before it was assigned; it was assigned
abbrev pub mark : Bool → Bool → Mark
mark is_read is_assigned = record { is_read = is_read; is_assigned = is_assigned }

abbrev pub no_marks : ℕ → List Mark
no_marks n = replicate n (mark false false)

-- G, I, A[1] and A[2], and the timer's six members, of which PT is the second
abbrev pub marks_of_run : List Mark
marks_of_run =
    mark true true ∷ mark true true ∷ mark true false ∷ mark false true ∷ mark true true ∷ mark false true
    ∷ mark true true ∷ mark true true ∷ mark true true ∷ mark true true ∷ []
