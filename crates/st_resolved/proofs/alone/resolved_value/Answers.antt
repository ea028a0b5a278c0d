use Rattle.std.proofs.Common.{◌≡◌, ◌∙◌, sym, ap, Option, Some}
use Rattle.std.specs.Prelude.{option_map}
use Rattle.st_meaning.specs.Enumerations.{Member}
use Rattle.symbols.specs.Enumerated.{member_view}
use Rattle.st_resolved.proofs.AloneLemmas.{written_value}
use Rattle.st_resolved.proofs.alone.resolved_value.Goals as goal

pub returns-in-Some : goal.returns-in-Some
returns-in-Some c env serves =
    c.value_of.ensures env _
    (written_value env c.args.value.now (member_view c.in-Some.member) (c.in-Some.ensures env.text serves))
