use Rattle.std.proofs.Common.{rules, ap, subst, sym, ◌≡◌, ◌∙◌, map, IfOk}
use Rattle.std.specs.Vec.{vec_items}
use Rattle.retain_store.specs.Recovered.{Found, recovered}
use Rattle.retain_show.specs.Against.{against}
use Rattle.retain_show.proofs.StartLemmas.{found_is}
use Rattle.retain_show.proofs.against.text_against.Goals as goal

pub returns-in-Some-clause-told : goal.returns-in-Some-clause-told
returns-in-Some-clause-told c =
    let types = map vec_items c.args.text.now.types.now in
    let vs = c.args.text.now.variables.now in
    let store = c.in_ok-store.store in
    let last = c.in-Some.last.now in
    let same : c.generation.result ≡ store.generation = search rules in
    let found : Found c.generation.result last ≡ recovered c.args.file.items =
    ap (λ n. Found n last) same ∙ sym (found_is store.last store.generation last (search rules) (search rules))
    ∙ search rules in
    subst (λ r. IfOk c.next_text.result (λ shown. shown.items ≡ against types vs r)) found c.next_text.ensures.told
