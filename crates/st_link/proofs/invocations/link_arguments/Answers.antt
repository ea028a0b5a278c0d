use Rattle.std.proofs.Common.{rules, ◌≡◌, sym, subst, ◌∙◌, ◌+◌, None, Err, map, drop}
use Rattle.st_types.specs.Statements as trees
use Rattle.st_types.specs.StatementViews.{argument_view}
use Rattle.slot_trees.specs.StatementViews.{slot_argument_view}
use Rattle.slot_trees.specs.LinkedStatements.{linked_argument}
use Rattle.st_link.proofs.ErrorLemmas.{none_then}
use Rattle.st_link.proofs.Sequences.{turned_all, turned_more, turned_none}
use Rattle.st_link.proofs.SequenceViews.{arguments_linked}
use Rattle.st_link.proofs.invocations.link_arguments.Goals as goal

pub loop-argument-preserved : goal.loop-argument-preserved
loop-argument-preserved c text t ps serves has =
    turned_more argument_view slot_argument_view (linked_argument t ps) c.args.arguments.now
    c.loop-argument.argument-index c.argument-item.result c.loop-argument.linked.items c.push.new.self.items
    c.in_ok-link_argument.field-0 c.loop-argument-test.true c.argument-item.is c.in_ok-push.ensures.items
    (c.in_ok-link_argument.ensures.linked text t ps serves has) (c.loop-argument.invariant text t ps serves has)

pub returns-in_err-link_argument-clause-none : goal.returns-in_err-link_argument-clause-none
returns-in_err-link_argument-clause-none c =
    let xs = c.args.arguments.now in
    none_then _ c.in_err-link_argument.field-0.0 _ _ c.in_err-link_argument.ensures.none
    (λ h text t ps serves has. arguments_linked t ps (map argument_view xs)
    ∙ turned_none argument_view (linked_argument t ps) xs c.loop-argument.argument-index c.argument-item.result
    (map slot_argument_view c.loop-argument.linked.items) c.loop-argument-test.true c.argument-item.is
    (h text t ps serves has) (c.loop-argument.invariant text t ps serves has)) (search rules)

pub returns-clause-linked : goal.returns-clause-linked
returns-clause-linked c text t ps serves has =
    let xs = c.args.arguments.now in
    arguments_linked t ps (map argument_view xs)
    ∙ turned_all argument_view (linked_argument t ps) xs c.loop-argument.argument-index
    (map slot_argument_view c.loop-argument.linked.items) c.loop-argument-test.false
    (c.loop-argument.invariant text t ps serves has)
