use Rattle.std.proofs.Common.{rules, ap, sym, ◌≡◌, ◌∙◌, map}
use Rattle.std.specs.Vec.{vec_items}
use Rattle.retain_store.specs.Recovered.{Found, recovered}
use Rattle.retain_show.specs.Against.{changes}
use Rattle.retain_show.proofs.StartLemmas.{found_is}
use Rattle.retain_show.proofs.against.text_changes.Goals as goal

pub returns-in-Ok-clause-told : goal.returns-in-Ok-clause-told
returns-in-Ok-clause-told c =
    let store = c.in_ok-store.store in
    let last = c.in-Some.last.now in
    let found : Found store.generation last ≡ recovered c.args.file.items =
    sym (found_is store.last store.generation last (search rules) (search rules)) ∙ search rules in
    c.in-Ok.ensures store.generation
    ∙ ap (changes (map vec_items c.args.text.now.types.now) c.args.text.now.variables.now) found
