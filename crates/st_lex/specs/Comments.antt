-- Comments: `(*` to the next `*)` that begins after it.
use Rattle.std.specs.Prelude.{ℕ, ◌+◌, List, [], ◌∷◌, length, take, not, nat_lt, if◌then◌else◌}
use Rattle.std.specs.List.{list_all}
use Rattle.st_lex.specs.declared.fault.LexFault.TheVariants as faults
use Rattle.st_lex.specs.declared.front.Front.{Front}
use Rattle.st_lex.specs.declared.front.Front.TheVariants as fronts
use Rattle.st_lex.specs.Characters.{is_allowed, begins}

-- how many bytes come before the first place where the two begin; all, if they begin nowhere
abbrev pub before : ℕ → ℕ → List ℕ → ℕ
before x y [] = 0
before x y (b ∷ bs) = if begins x y (b ∷ bs) then 0 else before x y bs + 1

-- how many bytes come before the next `*)`, and how many before the next `(*`
abbrev pub to_close : List ℕ → ℕ
to_close inside = before 42 41 inside

abbrev pub to_open : List ℕ → ℕ
to_open inside = before 40 42 inside

-- a comment, by the text after its opening: all its bytes are allowed, no other one begins in it, and it is closed
unfoldable pub comment_front : List ℕ → Front
comment_front inside =
    if not (list_all is_allowed (take (to_close inside) inside)) then fronts.Fault faults.Byte 0 else
    if nat_lt (to_open inside) (to_close inside) then fronts.Fault faults.Comment (2 + to_open inside) else
    if nat_lt (to_close inside) (length inside) then fronts.Blank (2 + to_close inside + 2) else
    fronts.Fault faults.Comment 0
