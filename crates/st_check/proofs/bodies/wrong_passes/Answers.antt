use Rattle.std.proofs.Common.{◌≡◌, ◌∙◌, refl, subst, ap, map, false}
use Rattle.st_types.specs.StatementViews.{stmts_view}
use Rattle.st_rules.specs.Collecting.{Adds, Covers}
use Rattle.st_rules.proofs.CollectLemmas.{adds_nothing}
use Rattle.st_check.specs.Assignments.{assigned_view}
use Rattle.st_check.specs.Listings.{listed_view, listed_in}
use Rattle.st_check.specs.Roots.{root_view}
use Rattle.st_check.proofs.PassLemmas.{roots_collected, assigned_collected, invocations_is, cases_is, exits_collected}
use Rattle.st_check.proofs.PassLemmas.{after_roots, after_assigned, after_invocations, invocations_fail, after_cases}
use Rattle.st_check.proofs.PassLemmas.{cases_fail, after_exits}
use Rattle.st_check.proofs.bodies.wrong_passes.Goals as goal

pub returns-in_err-statements-clause-adds : goal.returns-in_err-statements-clause-adds
returns-in_err-statements-clause-adds c env serves = adds_nothing _ _

pub returns-in_err-roots-clause-adds : goal.returns-in_err-roots-clause-adds
returns-in_err-roots-clause-adds c env serves = adds_nothing _ _

pub returns-in_err-assigned-clause-adds : goal.returns-in_err-assigned-clause-adds
returns-in_err-assigned-clause-adds c env serves =
    let body = stmts_view c.args.body.now in
    let all = listed_in false body in
    let listed : map listed_view c.deref.result.now ≡ all =
    ap (map listed_view) c.deref.ensures.value ∙ c.in_ok-statements.ensures in
    let roots = roots_collected env (map root_view c.deref-2.result.now) (map listed_view c.deref.result.now) all _ _
    listed (ap (map root_view) c.deref-2.ensures.value ∙ c.in_ok-roots.ensures env serves)
    (c.wrong_roots.ensures env serves) in
    let one = after_roots env body _ _ _ refl roots in
    one.adds

pub returns-in_err-wrong_invocations-clause-adds : goal.returns-in_err-wrong_invocations-clause-adds
returns-in_err-wrong_invocations-clause-adds c env serves =
    let body = stmts_view c.args.body.now in
    let all = listed_in false body in
    let listed : map listed_view c.deref.result.now ≡ all =
    ap (map listed_view) c.deref.ensures.value ∙ c.in_ok-statements.ensures in
    let roots = roots_collected env (map root_view c.deref-2.result.now) (map listed_view c.deref.result.now) all _ _
    listed (ap (map root_view) c.deref-2.ensures.value ∙ c.in_ok-roots.ensures env serves)
    (c.wrong_roots.ensures env serves) in
    let one = after_roots env body _ _ _ refl roots in
    let assigned = assigned_collected env (map assigned_view c.deref-3.result.now) body _ _
    (ap (map assigned_view) c.deref-3.ensures.value ∙ c.in_ok-assigned.ensures)
    (c.wrong_assignments.ensures env serves) in
    let two = after_assigned env body _ _ _ one assigned in
    let invoked : map listed_view c.deref-4.result.now ≡ all =
    ap (map listed_view) c.deref-4.ensures.value ∙ c.in_ok-statements.ensures in
    let invocations = subst (λ ys. Adds ys c.wrong_assignments.new.broken c.wrong_invocations.new.broken)
    (invocations_is env _ all invoked) (c.wrong_invocations.ensures.adds env serves) in
    invocations_fail env body _ _ _ two invocations

pub returns-in_err-wrong_cases-clause-adds : goal.returns-in_err-wrong_cases-clause-adds
returns-in_err-wrong_cases-clause-adds c env serves =
    let body = stmts_view c.args.body.now in
    let all = listed_in false body in
    let listed : map listed_view c.deref.result.now ≡ all =
    ap (map listed_view) c.deref.ensures.value ∙ c.in_ok-statements.ensures in
    let roots = roots_collected env (map root_view c.deref-2.result.now) (map listed_view c.deref.result.now) all _ _
    listed (ap (map root_view) c.deref-2.ensures.value ∙ c.in_ok-roots.ensures env serves)
    (c.wrong_roots.ensures env serves) in
    let one = after_roots env body _ _ _ refl roots in
    let assigned = assigned_collected env (map assigned_view c.deref-3.result.now) body _ _
    (ap (map assigned_view) c.deref-3.ensures.value ∙ c.in_ok-assigned.ensures)
    (c.wrong_assignments.ensures env serves) in
    let two = after_assigned env body _ _ _ one assigned in
    let invoked : map listed_view c.deref-4.result.now ≡ all =
    ap (map listed_view) c.deref-4.ensures.value ∙ c.in_ok-statements.ensures in
    let invocations = subst (λ ys. Adds ys c.wrong_assignments.new.broken c.wrong_invocations.new.broken)
    (invocations_is env _ all invoked) (c.wrong_invocations.ensures.adds env serves) in
    let three = after_invocations env body _ _ _ two invocations
    (subst (λ ys. Covers ys c.wrong_invocations.new.broken) (invocations_is env _ all invoked)
    (c.in_ok-wrong_invocations.ensures.covers env serves)) in
    let chosen : map listed_view c.deref-5.result.now ≡ all =
    ap (map listed_view) c.deref-5.ensures.value ∙ c.in_ok-statements.ensures in
    let cases = subst (λ ys. Adds ys c.wrong_invocations.new.broken c.wrong_cases.new.broken)
    (cases_is env _ all chosen) (c.wrong_cases.ensures.adds env serves) in
    cases_fail env body _ _ _ three cases

pub returns-clause-adds : goal.returns-clause-adds
returns-clause-adds c env serves =
    let body = stmts_view c.args.body.now in
    let all = listed_in false body in
    let listed : map listed_view c.deref.result.now ≡ all =
    ap (map listed_view) c.deref.ensures.value ∙ c.in_ok-statements.ensures in
    let roots = roots_collected env (map root_view c.deref-2.result.now) (map listed_view c.deref.result.now) all _ _
    listed (ap (map root_view) c.deref-2.ensures.value ∙ c.in_ok-roots.ensures env serves)
    (c.wrong_roots.ensures env serves) in
    let one = after_roots env body _ _ _ refl roots in
    let assigned = assigned_collected env (map assigned_view c.deref-3.result.now) body _ _
    (ap (map assigned_view) c.deref-3.ensures.value ∙ c.in_ok-assigned.ensures)
    (c.wrong_assignments.ensures env serves) in
    let two = after_assigned env body _ _ _ one assigned in
    let invoked : map listed_view c.deref-4.result.now ≡ all =
    ap (map listed_view) c.deref-4.ensures.value ∙ c.in_ok-statements.ensures in
    let invocations = subst (λ ys. Adds ys c.wrong_assignments.new.broken c.wrong_invocations.new.broken)
    (invocations_is env _ all invoked) (c.wrong_invocations.ensures.adds env serves) in
    let three = after_invocations env body _ _ _ two invocations
    (subst (λ ys. Covers ys c.wrong_invocations.new.broken) (invocations_is env _ all invoked)
    (c.in_ok-wrong_invocations.ensures.covers env serves)) in
    let chosen : map listed_view c.deref-5.result.now ≡ all =
    ap (map listed_view) c.deref-5.ensures.value ∙ c.in_ok-statements.ensures in
    let cases = subst (λ ys. Adds ys c.wrong_invocations.new.broken c.wrong_cases.new.broken)
    (cases_is env _ all chosen) (c.wrong_cases.ensures.adds env serves) in
    let four = after_cases env body _ _ _ three cases
    (subst (λ ys. Covers ys c.wrong_cases.new.broken) (cases_is env _ all chosen)
    (c.in_ok-wrong_cases.ensures.covers env serves)) in
    let last : map listed_view c.deref-6.result.now ≡ all =
    ap (map listed_view) c.deref-6.ensures.value ∙ c.in_ok-statements.ensures in
    let five = after_exits env body _ _ _ four (exits_collected _ all _ _ last c.wrong_exits.ensures) in
    five.adds

pub returns-clause-covers : goal.returns-clause-covers
returns-clause-covers c env serves =
    let body = stmts_view c.args.body.now in
    let all = listed_in false body in
    let listed : map listed_view c.deref.result.now ≡ all =
    ap (map listed_view) c.deref.ensures.value ∙ c.in_ok-statements.ensures in
    let roots = roots_collected env (map root_view c.deref-2.result.now) (map listed_view c.deref.result.now) all _ _
    listed (ap (map root_view) c.deref-2.ensures.value ∙ c.in_ok-roots.ensures env serves)
    (c.wrong_roots.ensures env serves) in
    let one = after_roots env body _ _ _ refl roots in
    let assigned = assigned_collected env (map assigned_view c.deref-3.result.now) body _ _
    (ap (map assigned_view) c.deref-3.ensures.value ∙ c.in_ok-assigned.ensures)
    (c.wrong_assignments.ensures env serves) in
    let two = after_assigned env body _ _ _ one assigned in
    let invoked : map listed_view c.deref-4.result.now ≡ all =
    ap (map listed_view) c.deref-4.ensures.value ∙ c.in_ok-statements.ensures in
    let invocations = subst (λ ys. Adds ys c.wrong_assignments.new.broken c.wrong_invocations.new.broken)
    (invocations_is env _ all invoked) (c.wrong_invocations.ensures.adds env serves) in
    let three = after_invocations env body _ _ _ two invocations
    (subst (λ ys. Covers ys c.wrong_invocations.new.broken) (invocations_is env _ all invoked)
    (c.in_ok-wrong_invocations.ensures.covers env serves)) in
    let chosen : map listed_view c.deref-5.result.now ≡ all =
    ap (map listed_view) c.deref-5.ensures.value ∙ c.in_ok-statements.ensures in
    let cases = subst (λ ys. Adds ys c.wrong_invocations.new.broken c.wrong_cases.new.broken)
    (cases_is env _ all chosen) (c.wrong_cases.ensures.adds env serves) in
    let four = after_cases env body _ _ _ three cases
    (subst (λ ys. Covers ys c.wrong_cases.new.broken) (cases_is env _ all chosen)
    (c.in_ok-wrong_cases.ensures.covers env serves)) in
    let last : map listed_view c.deref-6.result.now ≡ all =
    ap (map listed_view) c.deref-6.ensures.value ∙ c.in_ok-statements.ensures in
    let five = after_exits env body _ _ _ four (exits_collected _ all _ _ last c.wrong_exits.ensures) in
    five.covers
