use Rattle.std.proofs.Common.{◌≡◌, subst, sym, ◌∙◌, map, Some, true, false}
use Rattle.st_types.specs.StatementViews.{argument_view}
use Rattle.st_rules.specs.Collecting.{Adds, Covers}
use Rattle.st_rules.specs.Environments.{is_instance}
use Rattle.st_rules.proofs.CollectLemmas.{adds_both, adds_more, among_left, among_itself, collects_is, covers_both}
use Rattle.st_rules.proofs.CollectLemmas.{covers_later}
use Rattle.symbols.specs.PlaceTypes.{place_type_view}
use Rattle.st_check.proofs.InvocationLemmas.{unknown_called, instance_called, other_called}
use Rattle.st_check.proofs.invocations.wrong_instance.Goals as goal

pub returns-in_default-clause-adds : goal.returns-in_default-clause-adds
returns-in_default-clause-adds c env serves =
    let all = collects_is _ _ _ _ (unknown_called env c.args.instance.now (map argument_view c.args.arguments.now)
    (c.in_default.ensures env serves)) c.add.ensures in
    all.adds

pub returns-in_default-clause-covers : goal.returns-in_default-clause-covers
returns-in_default-clause-covers c env serves =
    let all = collects_is _ _ _ _ (unknown_called env c.args.instance.now (map argument_view c.args.arguments.now)
    (c.in_default.ensures env serves)) c.add.ensures in
    all.covers

pub returns-then-not-is_instance-clause-adds : goal.returns-then-not-is_instance-clause-adds
returns-then-not-is_instance-clause-adds c env serves =
    let other : is_instance env (Some (place_type_view c.in-Some.declared)) ≡ false =
    sym (c.is_instance.ensures env serves.tables) ∙ c.if-not-is_instance.true in
    let all = collects_is _ _ _ _ (other_called env c.args.instance.now (map argument_view c.args.arguments.now)
    (place_type_view c.in-Some.declared) other (c.in-Some.ensures env serves))
    (rw (c.type_word.ensures, c.is_nothing-is_unknown.ensures, c.typing_of_type.ensures env.text serves.tables)
    at c.add_unless.ensures) in
    all.adds

pub returns-then-not-is_instance-clause-covers : goal.returns-then-not-is_instance-clause-covers
returns-then-not-is_instance-clause-covers c env serves =
    let other : is_instance env (Some (place_type_view c.in-Some.declared)) ≡ false =
    sym (c.is_instance.ensures env serves.tables) ∙ c.if-not-is_instance.true in
    let all = collects_is _ _ _ _ (other_called env c.args.instance.now (map argument_view c.args.arguments.now)
    (place_type_view c.in-Some.declared) other (c.in-Some.ensures env serves))
    (rw (c.type_word.ensures, c.is_nothing-is_unknown.ensures, c.typing_of_type.ensures env.text serves.tables)
    at c.add_unless.ensures) in
    all.covers

pub returns-in_err-wrong_arguments-clause-adds : goal.returns-in_err-wrong_arguments-clause-adds
returns-in_err-wrong_arguments-clause-adds c env serves =
    let x = c.args.instance.now in
    let is = c.in-Some.ensures env serves in
    let own : is_instance env (Some (place_type_view c.in-Some.declared)) ≡ true =
    sym (c.is_instance.ensures env serves.tables) ∙ c.if-not-is_instance.false in
    subst (λ ys. Adds ys c.args.broken.now c.wrong_arguments.new.broken)
    (instance_called env x (map argument_view c.args.arguments.now) (place_type_view c.in-Some.declared) own is)
    (adds_more _ _ _ _ (among_left _ _ _ (among_itself _))
    (c.wrong_arguments.ensures.adds env x.name serves.tables (sym is)))

pub returns-clause-adds : goal.returns-clause-adds
returns-clause-adds c env serves =
    let x = c.args.instance.now in
    let is = c.in-Some.ensures env serves in
    let own : is_instance env (Some (place_type_view c.in-Some.declared)) ≡ true =
    sym (c.is_instance.ensures env serves.tables) ∙ c.if-not-is_instance.false in
    let copies = c.wrong_copies.ensures env x.name serves (sym is) in
    subst (λ ys. Adds ys c.args.broken.now c.wrong_copies.new.broken)
    (instance_called env x (map argument_view c.args.arguments.now) (place_type_view c.in-Some.declared) own is)
    (adds_both _ _ _ _ _ (c.wrong_arguments.ensures.adds env x.name serves.tables (sym is)) copies.adds)

pub returns-clause-covers : goal.returns-clause-covers
returns-clause-covers c env serves =
    let x = c.args.instance.now in
    let is = c.in-Some.ensures env serves in
    let own : is_instance env (Some (place_type_view c.in-Some.declared)) ≡ true =
    sym (c.is_instance.ensures env serves.tables) ∙ c.if-not-is_instance.false in
    let copies = c.wrong_copies.ensures env x.name serves (sym is) in
    subst (λ ys. Covers ys c.wrong_copies.new.broken)
    (instance_called env x (map argument_view c.args.arguments.now) (place_type_view c.in-Some.declared) own is)
    (covers_both _ _ c.wrong_copies.new.broken
    (covers_later _ _ c.wrong_arguments.new.broken c.wrong_copies.new.broken
    (c.in_ok-wrong_arguments.ensures.covers env x.name serves.tables (sym is)) copies.adds)
    copies.covers)
