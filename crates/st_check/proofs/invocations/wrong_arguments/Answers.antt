use Rattle.std.proofs.Common.{◌≡◌, refl, ap, ◌∙◌, ◌∷◌, [], ◌||◌, ◌&&◌}
use Rattle.std.specs.Prelude.{bytes_eq, is_some, not}
use Rattle.st_types.specs.StatementViews.{argument_view}
use Rattle.st_meaning.specs.Scopes.{contains_name}
use Rattle.st_rules.specs.CallRules.{argument_name, is_argument}
use Rattle.st_rules.specs.Reasons.{type_word}
use Rattle.st_rules.proofs.CollectLemmas.{search_starts}
use Rattle.symbols.specs.Found.{found}
use Rattle.symbols.specs.PlaceTypes.{place_type_view}
use Rattle.st_check.proofs.InvocationLemmas.{known_more, argument_collected, argument_goes_on, argument_fails}
use Rattle.st_check.proofs.InvocationLemmas.{arguments_end}
use Rattle.st_check.proofs.invocations.wrong_arguments.Goals as goal

pub loop-argument-init : goal.loop-argument-init
loop-argument-init c =
    ([], λ q. ap is_some (c.new-before.ensures q), λ env instance serves is. search_starts _ _ _ refl)

pub loop-argument-preserved : goal.loop-argument-preserved
loop-argument-preserved c =
    let a = argument_view c.argument-item.result in
    let names = c.loop-argument.invariant.0 in
    let known = c.loop-argument.invariant.1 in
    let name = c.argument_name-name.result.now.name in
    let is_name : name ≡ (argument_name a).name = ap (λ x. x.name) c.argument_name-name.ensures in
    let repeated : c.is_some-is_repeated.result ≡ contains_name names (argument_name a).name =
    c.is_some-is_repeated.ensures ∙ ap is_some c.find.ensures ∙ known name ∙ ap (contains_name names) is_name in (
      (argument_name a).name ∷ names,
      λ q. ap is_some (c.in_ok-add.ensures.added q)
          ∙ known_more (bytes_eq q name) (contains_name names q) (found c.loop-argument.before q) (known q)
          ∙ ap (λ n. bytes_eq q n || contains_name names q) is_name,
      λ env instance serves is.
          let block = type_word (place_type_view c.args.declared) in
          argument_goes_on env block instance names c.args.arguments.now c.loop-argument.argument-index
          c.argument-item.result _ _ _ _ c.loop-argument-test.true c.argument-item.is
          (c.loop-argument.invariant.2 env instance serves is)
          (argument_collected env block instance names a _ _ _ _ _
          (c.is_new_argument.ensures env instance serves is ∙ ap (λ b. is_argument env instance a && not b) repeated)
          (c.reason_of_argument.ensures env instance names serves is repeated)
          (ap (λ x. x.place) c.argument_name-name.ensures) c.add_unless.ensures),
    )

pub returns-in_err-add-clause-adds : goal.returns-in_err-add-clause-adds
returns-in_err-add-clause-adds c env instance serves is =
    let a = argument_view c.argument-item.result in
    let names = c.loop-argument.invariant.0 in
    let known = c.loop-argument.invariant.1 in
    let name = c.argument_name-name.result.now.name in
    let is_name : name ≡ (argument_name a).name = ap (λ x. x.name) c.argument_name-name.ensures in
    let repeated : c.is_some-is_repeated.result ≡ contains_name names (argument_name a).name =
    c.is_some-is_repeated.ensures ∙ ap is_some c.find.ensures ∙ known name ∙ ap (contains_name names) is_name in
    let block = type_word (place_type_view c.args.declared) in
    argument_fails env block instance names c.args.arguments.now c.loop-argument.argument-index
    c.argument-item.result _ _ _ _ c.loop-argument-test.true c.argument-item.is
    (c.loop-argument.invariant.2 env instance serves is)
    (argument_collected env block instance names a _ _ _ _ _
    (c.is_new_argument.ensures env instance serves is ∙ ap (λ b. is_argument env instance a && not b) repeated)
    (c.reason_of_argument.ensures env instance names serves is repeated)
    (ap (λ x. x.place) c.argument_name-name.ensures) c.add_unless.ensures)

pub returns-clause-adds : goal.returns-clause-adds
returns-clause-adds c env instance serves is =
    let all = arguments_end env (type_word (place_type_view c.args.declared)) instance c.loop-argument.invariant.0
    c.args.arguments.now c.loop-argument.argument-index _ _ _ c.loop-argument-test.false
    (c.loop-argument.invariant.2 env instance serves is) in
    all.adds

pub returns-clause-covers : goal.returns-clause-covers
returns-clause-covers c env instance serves is =
    let all = arguments_end env (type_word (place_type_view c.args.declared)) instance c.loop-argument.invariant.0
    c.args.arguments.now c.loop-argument.argument-index _ _ _ c.loop-argument-test.false
    (c.loop-argument.invariant.2 env instance serves is) in
    all.covers
