use Rattle.std.proofs.Common.{rules, ◌≡◌, ◌∙◌, ap, map}
use Rattle.std.specs.Map.{values_of}
use Rattle.layout.specs.Indexed.{facts_of}
use Rattle.layout.proofs.IndexLemmas.{facts_are}
use Rattle.layout.proofs.layout.Layout.facts.Goals as goal

-- src/layout.rt:96:5
pub returns : goal.returns
returns c =
    let is : c.as_slice.result.now ≡ values_of c.self.inside.slots.entries = search rules in
    is ∙ facts_are c.self.inside.slots.entries ∙ ap (λ v. map facts_of v.slots) c.self.view_is
