use Rattle.std.proofs.Common.{rules, ◌≡◌, ◌∙◌, ap, Some, None}
use Rattle.std.specs.Prelude.{position}
use Rattle.std.specs.Map.{keys_of}
use Rattle.st_types.specs.Paths.{same_path}
use Rattle.layout.specs.Indexed.{slot_number}
use Rattle.layout.proofs.IndexLemmas.{number_found}
use Rattle.layout.proofs.layout.Layout.slot.Goals as goal

-- src/layout.rt:59:5
pub returns-in-Some : goal.returns-in-Some
returns-in-Some c =
    let at : Some c.in-Some.number ≡ position (same_path c.args.path.now) (keys_of c.self.inside.slots.entries) =
    search rules in
    at ∙ number_found c.args.path.now c.self.inside.slots.entries
    ∙ ap (λ v. slot_number v.slots c.args.path.now) c.self.view_is

pub returns-in-None : goal.returns-in-None
returns-in-None c =
    let at : None ≡ position (same_path c.args.path.now) (keys_of c.self.inside.slots.entries) = search rules in
    at ∙ number_found c.args.path.now c.self.inside.slots.entries
    ∙ ap (λ v. slot_number v.slots c.args.path.now) c.self.view_is
