-- Arms of IF and CASE, each linked separately.
use Rattle.std.specs.Prelude.{Option, option_and_then, option_map}
use Rattle.st_types.specs.Statements as text
use Rattle.slot_trees.specs.Linking.{linked}
use Rattle.slot_trees.specs.LinkedStatements.{linked_stmts}
use Rattle.slot_trees.specs.Tables.{Table}
use Rattle.slot_trees.specs.Chains.{Arm, CaseArm}

abbrev pub linked_arm : Table → text.Arm → Option Arm
linked_arm t a = option_and_then (λ x. option_map (λ b. (x, b)) (linked_stmts t a.1)) (linked t a.0)

abbrev pub linked_case_arm : Table → text.CaseArm → Option CaseArm
linked_case_arm t a = option_map (λ b. (a.0, b)) (linked_stmts t a.1)
