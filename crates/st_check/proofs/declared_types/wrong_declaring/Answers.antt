use Rattle.std.proofs.Common.{◌∙◌}
use Rattle.st_types.specs.InitialViews.{initial_view}
use Rattle.st_rules.specs.Environments.{is_block_type}
use Rattle.st_rules.proofs.CollectLemmas.{collects_both}
use Rattle.st_decl.specs.DeclaringViews.{declaring_view}
use Rattle.st_check.proofs.TypeLemmas.{is_started}
use Rattle.st_check.proofs.declared_types.wrong_declaring.Goals as goal

pub returns : goal.returns
returns c text names tables =
    let d = declaring_view c.args.declaring in
    let started = c.is_started.ensures text tables
    ∙ is_started initial_view c.args.declaring.initial.now (is_block_type text d.declared) in
    collects_both _ _ _ _ _
    (collects_both _ _ _ _ _ (rw c.may_be_instance.ensures at (c.wrong_name.ensures text names tables))
    (rw (c.has_parts.ensures text tables, c.place_of_type-place.ensures) at c.add_in_case.ensures))
    (rw (started, c.place_of_type-place.ensures) at c.add_in_case-2.ensures)
