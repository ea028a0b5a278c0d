use Rattle.std.proofs.Common.{rules, ◌≡◌, ap, ◌∙◌, ◌<◌, length, slice_index_or, take, map}
use Rattle.std.proofs.lemmas.List.{take_all}
use Rattle.st_types.specs.DeclarationViews.{type_definition_view, type_declaration_view}
use Rattle.st_meaning.specs.NameTypes.{is_named, type_named}
use Rattle.st_meaning.specs.ResolvedUnits.{field_in}
use Rattle.symbols.specs.Found.{found}
use Rattle.symbols.proofs.FieldLemmas.{types_more, type_there, fields_there}
use Rattle.symbols.proofs.fields.FieldNames.new.Goals as goal

pub loop-declaration-preserved : goal.loop-declaration-preserved
loop-declaration-preserved c =
    let ts = c.args.types.now in
    let i = c.loop-declaration.declaration-index in
    let t = c.declaration-item.result in
    let lt : i < length ts = search rules in
    let is : t ≡ slice_index_or ts i t = search rules in
    let before = map (λ u. type_declaration_view u.now) (take i ts) in
    let inv = c.loop-declaration.invariant in
    let d = type_definition_view t.now.definition in (
      (λ x. type_there (found c.loop-declaration.structures x) (found c.add.new.self x) (type_named before x) _ _ d
          (is_named x t.now.name) (c.in_ok-add.ensures.added x) (types_more ts i t x lt is) (inv.0 x)),
      (λ x q. fields_there (found c.loop-declaration.structures x) (found c.add.new.self x) (type_named before x) _ _ d
          (is_named x t.now.name) q (c.in_ok-add.ensures.added x) (types_more ts i t x lt is) (inv.0 x) (inv.1 x q)
          (c.in_ok-fields.ensures q)),
    )

pub returns : goal.returns
returns c text same x q =
    let ts = c.args.types.now in
    let i = c.loop-declaration.declaration-index in
    c.loop-declaration.invariant.1 x q
    ∙ ap (λ zs. field_in (type_named (map (λ t. type_declaration_view t.now) zs) x) q) (take_all i ts (search rules))
    ∙ ap (λ zs. field_in (type_named zs x) q) same
