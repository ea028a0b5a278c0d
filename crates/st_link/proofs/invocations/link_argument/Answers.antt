use Rattle.std.proofs.Common.{rules, ◌≡◌, ap, sym, ◌∙◌, Some, None, Err}
use Rattle.std.specs.Prelude.{option_and_then, option_map}
use Rattle.st_types.specs.ExpressionViews.{expr_view, variable_view}
use Rattle.st_types.specs.StatementViews.{argument_view}
use Rattle.slot_trees.specs.ExpressionViews.{place_view, slot_expr_view}
use Rattle.slot_trees.specs.SlotTrees.{given, copied}
use Rattle.slot_trees.specs.Linking.{linked, linked_target}
use Rattle.slot_trees.specs.LinkedStatements.{linked_argument}
use Rattle.st_link.proofs.ErrorLemmas.{none_then}
use Rattle.st_link.proofs.invocations.link_argument.Goals as goal

pub returns-in_err-offset-in-Input-clause-none : goal.returns-in_err-offset-in-Input-clause-none
returns-in_err-offset-in-Input-clause-none c =
    none_then _ c.in_err-offset-in-Input.field-0.0 _ _ c.in_err-offset-in-Input.ensures.none
    (λ h text t ps serves has. ap (linked_argument t ps) (ap argument_view c.in-Input.is)
    ∙ ap (option_and_then (λ o. option_map (given o) (linked t (expr_view c.in-Input.value)))) (h text t ps serves has))
    (search rules)

pub returns-in_err-offset-in-Output-clause-none : goal.returns-in_err-offset-in-Output-clause-none
returns-in_err-offset-in-Output-clause-none c =
    none_then _ c.in_err-offset-in-Output.field-0.0 _ _ c.in_err-offset-in-Output.ensures.none
    (λ h text t ps serves has. ap (linked_argument t ps) (ap argument_view c.in-Output.is)
    ∙ ap (option_and_then (λ o. option_map (copied o) (linked_target t (variable_view c.in-Output.target))))
    (h text t ps serves has)) (search rules)

pub returns-in_ok-value-in-Input-clause-linked : goal.returns-in_ok-value-in-Input-clause-linked
returns-in_ok-value-in-Input-clause-linked c text t ps serves has =
    ap (linked_argument t ps) (ap argument_view c.in-Input.is)
    ∙ ap (option_and_then (λ o. option_map (given o) (linked t (expr_view c.in-Input.value))))
    (c.in_ok-offset-in-Input.ensures.linked text t ps serves has)
    ∙ ap (option_map (given c.in_ok-offset-in-Input.offset)) (c.in_ok-value-in-Input.ensures.linked text t serves)
    ∙ ap Some (sym c.given.ensures)

pub returns-in_ok-target-in-Output-clause-linked : goal.returns-in_ok-target-in-Output-clause-linked
returns-in_ok-target-in-Output-clause-linked c text t ps serves has =
    ap (linked_argument t ps) (ap argument_view c.in-Output.is)
    ∙ ap (option_and_then (λ o. option_map (copied o) (linked_target t (variable_view c.in-Output.target))))
    (c.in_ok-offset-in-Output.ensures.linked text t ps serves has)
    ∙ ap (option_map (copied c.in_ok-offset-in-Output.offset)) (c.in_ok-target-in-Output.ensures.linked text t serves)
    ∙ ap Some (sym c.copied.ensures)
