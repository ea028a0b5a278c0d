use Rattle.std.proofs.Common.{◌≡◌, ◌∙◌, sym, ap, Option, Some}
use Rattle.std.specs.Prelude.{option_map}
use Rattle.symbols.specs.Enumerated.{member_view}
use Rattle.symbols.specs.PlaceTypes.{place_type_view}
use Rattle.st_resolved.proofs.AloneLemmas.{named_value}
use Rattle.st_resolved.proofs.alone.resolved_alone.Goals as goal

pub returns-in-Some-member_named : goal.returns-in-Some-member_named
returns-in-Some-member_named c env serves =
    c.value_of.ensures env _
    (named_value env c.args.name.now (member_view c.in-Some-member_named.member) (c.in_default.ensures env serves)
    (c.in-Some-member_named.ensures env.text serves.tables))
