-- Which arm of a CASE is chosen.
use Rattle.std.specs.Prelude.{ℕ, ℤ, zero, suc, List, [], ◌∷◌, if◌then◌else◌}
use Rattle.std.specs.List.{list_any}
use Rattle.st_meaning.specs.Execution.{label_holds}
use Rattle.slot_trees.specs.Chains.{CaseArm}
use Rattle.slot_trees.specs.SlotTrees.{SlotStmts, no_stmts}

-- the first arm with a label that holds the number; the number of arms if there is none
abbrev pub chosen : ℤ → List CaseArm → ℕ
chosen n [] = 0
chosen n (a ∷ arms) = if list_any (label_holds n) a.0 then 0 else suc (chosen n arms)

-- the statements of an arm
abbrev pub body_at : ℕ → List CaseArm → SlotStmts
body_at k [] = no_stmts
body_at zero (a ∷ arms) = a.1
body_at (suc k) (a ∷ arms) = body_at k arms
