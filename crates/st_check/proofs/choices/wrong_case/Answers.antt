use Rattle.std.proofs.Common.{◌≡◌, ◌∙◌, ap, sym, subst, map, None}
use Rattle.st_types.specs.ExpressionViews.{expr_view}
use Rattle.st_types.specs.Statements.{case_arms_of}
use Rattle.st_types.specs.StatementViews.{case_arm_view}
use Rattle.st_types.proofs.OptionLemmas.{ok_weaker}
use Rattle.st_rules.specs.Collecting.{Adds, Covers}
use Rattle.st_rules.specs.LabelRules.{labels_of, wrong_case, wrong_labels}
use Rattle.st_rules.specs.Typings.{kind_of, settled, typing_of}
use Rattle.st_rules.proofs.CollectLemmas.{adds_nothing}
use Rattle.st_check.proofs.FlatLemmas.{selected}
use Rattle.st_check.proofs.choices.wrong_case.Goals as goal

pub returns-in_err-found-in-Case-clause-adds : goal.returns-in_err-found-in-Case-clause-adds
returns-in_err-found-in-Case-clause-adds c env serves = adds_nothing _ _

pub returns-in_ok-found-in-Case-clause-adds : goal.returns-in_ok-found-in-Case-clause-adds
returns-in_ok-found-in-Case-clause-adds c env serves =
    let kinds : c.kind_of-kind.result ≡ kind_of (settled None (typing_of env (expr_view c.in-Case.selector))) =
    c.kind_of-kind.ensures ∙ ap kind_of c.settled.ensures
    ∙ ap (λ t. kind_of (settled None t)) (c.in_ok-found-in-Case.ensures env serves) in
    let labels = labels_of (case_arms_of (map case_arm_view c.in-Case.arms.items)) in
    subst (λ xs. Adds xs c.args.broken.now c.wrong_labels.new.broken)
    (ap (λ k. wrong_labels env.text k labels) kinds
    ∙ sym (selected (wrong_case env) c.args.statement.now c.in-Case.selector c.in-Case.arms c.in-Case.field-2
    c.in-Case.is)) (rw c.deref.ensures.value at (c.wrong_labels.ensures.adds env.text serves.tables))

pub returns-in_ok-found-in-Case-clause-covers : goal.returns-in_ok-found-in-Case-clause-covers
returns-in_ok-found-in-Case-clause-covers c =
    ok_weaker c.wrong_labels.result _ _ (λ done h env serves.
    let kinds : c.kind_of-kind.result ≡ kind_of (settled None (typing_of env (expr_view c.in-Case.selector))) =
    c.kind_of-kind.ensures ∙ ap kind_of c.settled.ensures
    ∙ ap (λ t. kind_of (settled None t)) (c.in_ok-found-in-Case.ensures env serves) in
    let labels = labels_of (case_arms_of (map case_arm_view c.in-Case.arms.items)) in
    subst (λ xs. Covers xs c.wrong_labels.new.broken)
    (ap (λ k. wrong_labels env.text k labels) kinds
    ∙ sym (selected (wrong_case env) c.args.statement.now c.in-Case.selector c.in-Case.arms c.in-Case.field-2
    c.in-Case.is)) (rw c.deref.ensures.value at (h env.text serves.tables))) c.wrong_labels.ensures.covers
