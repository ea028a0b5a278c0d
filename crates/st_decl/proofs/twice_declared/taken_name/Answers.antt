use Rattle.std.proofs.Common.{sym, ◌∙◌}
use Rattle.st_rules.proofs.CollectLemmas.{collects_is, collects_nothing}
use Rattle.st_decl.proofs.ScopeLemmas.{standard_name, taken_at, not_taken}
use Rattle.st_decl.proofs.twice_declared.taken_name.Goals as goal

pub returns-in-Some : goal.returns-in-Some
returns-in-Some c names found =
    let x = c.args.variable.now in
    let other = sym c.is_standard.ensures ∙ c.if-is_standard.false in
    collects_is _ _ _ _ (taken_at names x c.in-Some.place other (sym c.in-Some.is ∙ c.find.ensures ∙ found x.name))
    c.add-in-Some.ensures

pub returns-in_default : goal.returns-in_default
returns-in_default c names found =
    let x = c.args.variable.now in
    let other = sym c.is_standard.ensures ∙ c.if-is_standard.false in
    collects_is _ _ _ _ (not_taken names x other (sym c.in_default.is ∙ c.find.ensures ∙ found x.name))
    (collects_nothing _)

pub returns-then-is_standard : goal.returns-then-is_standard
returns-then-is_standard c names found =
    collects_is _ _ _ _ (standard_name names c.args.variable.now (sym c.is_standard.ensures ∙ c.if-is_standard.true))
    c.add.ensures
