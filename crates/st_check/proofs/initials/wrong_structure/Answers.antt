use Rattle.std.proofs.Common.{◌≡◌, ap, sym, ◌∙◌, true, false, Some, map}
use Rattle.std.specs.Prelude.{option_map}
use Rattle.st_types.specs.Initials.{members_of}
use Rattle.st_types.specs.InitialViews.{member_view}
use Rattle.st_meaning.specs.NameTypes.{definition_of}
use Rattle.st_rules.specs.InitialRules.{definition_at, is_structure, is_unknown}
use Rattle.st_rules.proofs.CollectLemmas.{collects_is}
use Rattle.symbols.specs.PlaceTypes.{place_type_view}
use Rattle.st_check.proofs.InitialLemmas.{structure_fields, other_fields}
use Rattle.st_check.proofs.initials.wrong_structure.Goals as goal

pub returns-then-is_structure : goal.returns-then-is_structure
returns-then-is_structure c text names tables fields =
    let is = c.in-Some.is in
    let t = place_type_view c.in-Some.given in
    let xs = members_of (map member_view c.args.members.now) in
    let own : is_structure (definition_of text t) ≡ true =
    sym (c.is_structure.ensures text names
    ∙ ap (λ o. is_structure (definition_at text (option_map place_type_view o))) is) ∙ c.if-is_structure.true in
    rw is (collects_is _ _ _ _ (structure_fields text t c.args.place xs own) (c.wrong_fields.ensures text fields))

pub returns-else-is_structure : goal.returns-else-is_structure
returns-else-is_structure c text names tables fields =
    let is = c.in-Some.is in
    let t = place_type_view c.in-Some.given in
    let xs = members_of (map member_view c.args.members.now) in
    let other : is_structure (definition_of text t) ≡ false =
    sym (c.is_structure.ensures text names
    ∙ ap (λ o. is_structure (definition_at text (option_map place_type_view o))) is) ∙ c.if-is_structure.false in
    let unknown : c.is_unknown.result ≡ is_unknown text (Some t) =
    c.is_unknown.ensures text tables ∙ ap (λ o. is_unknown text (option_map place_type_view o)) is in
    rw is (collects_is _ _ _ _ (other_fields text t c.args.place xs other)
    (rw (c.type_word.ensures, unknown) at c.add_unless.ensures))
