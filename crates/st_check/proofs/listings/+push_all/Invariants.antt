use Rattle.std.proofs.Common.{◌≡◌, ◌++◌, map, drop}
use Rattle.st_types.specs.StatementViews.{stmts_view, arm_view, case_arm_view}
use Rattle.st_types.specs.Statements.{arms_of, case_arms_of}
use Rattle.st_check.specs.Listings.{listed_view, listed_in, listed_in_arms, listed_in_case_arms}
use Rattle.st_check.proofs.listings.+push_all.Given as goal

abbrev pub invariant-push_all-loop-statement : goal.invariant-push_all-loop-statement
invariant-push_all-loop-statement l = map listed_view l.listed.items
    ++ listed_in l.in_loop (stmts_view (drop l.statement-index l.body))
    ≡ map listed_view l.initial.listed.items ++ listed_in l.in_loop (stmts_view l.body)

abbrev pub invariant-push_arms-loop-arm : goal.invariant-push_arms-loop-arm
invariant-push_arms-loop-arm l = map listed_view l.listed.items
    ++ listed_in_arms l.in_loop (arms_of (map arm_view (drop l.arm-index l.arms)))
    ≡ map listed_view l.initial.listed.items ++ listed_in_arms l.in_loop (arms_of (map arm_view l.arms))

abbrev pub invariant-push_case_arms-loop-arm : goal.invariant-push_case_arms-loop-arm
invariant-push_case_arms-loop-arm l = map listed_view l.listed.items
    ++ listed_in_case_arms l.in_loop (case_arms_of (map case_arm_view (drop l.arm-index l.arms)))
    ≡ map listed_view l.initial.listed.items
    ++ listed_in_case_arms l.in_loop (case_arms_of (map case_arm_view l.arms))
