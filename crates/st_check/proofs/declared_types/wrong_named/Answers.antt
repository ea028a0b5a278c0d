use Rattle.std.proofs.Common.{◌≡◌, refl, sym, ap, ◌∙◌, ◌||◌, Bool, if◌then◌else◌}
use Rattle.std.specs.Prelude.{is_some}
use Rattle.st_meaning.specs.NameTypes.{unit_named}
use Rattle.st_meaning.specs.StandardFunctions.{standard_of}
use Rattle.st_rules.specs.declared.reason.Reason.TheVariants.{NotType, Undeclared}
use Rattle.st_check.proofs.TypeLemmas.{is_told, other_named}
use Rattle.st_check.proofs.declared_types.wrong_named.Goals as goal
use Rattle.st_check.proofs.declared_types.wrong_named.Goals.{then-is_some-2, else-is_some-2, then-stands, else-stands}

pub returns : goal.returns
returns c text names tables =
    let x = c.args.name.now in
    let no_type = is_told _ _ _ _ _ (c.type_named.ensures text names) c.is_some.ensures c.if-is_some.false in
    let unit = c.unit_named.ensures text names in
    let is_other = λ (b : Bool). b || is_some (standard_of x.name) in
    let stands : c.if-is_some-2.stands ≡ (is_some (unit_named text.units x.name) || is_some (standard_of x.name)) =
    elim c.if-is_some-2.branch [
      | then-is_some-2 w ↦
          w.stands-is ∙ w.if-is_some-2.true
          ∙ sym (ap is_other (is_told _ _ _ _ _ unit c.is_some-2.ensures w.if-is_some-2.true))
      | else-is_some-2 w ↦
          w.stands-is ∙ sym (is_told _ _ _ _ _ w.standard_function.ensures w.is_some-stands.ensures refl)
          ∙ sym (ap is_other (is_told _ _ _ _ _ unit c.is_some-2.ensures w.if-is_some-2.false))
    ] in
    let reason : c.if-stands.reason ≡ (if c.if-is_some-2.stands then NotType else Undeclared) =
    elim c.if-stands.branch [
      | then-stands w ↦ w.reason-is ∙ sym (ap (λ b. if b then NotType else Undeclared) w.if-stands.true)
      | else-stands w ↦ w.reason-is ∙ sym (ap (λ b. if b then NotType else Undeclared) w.if-stands.false)
    ] in
    other_named text c.args.blocks x _ _ _ _ no_type (sym (c.is_block.ensures text tables) ∙ c.if-is_block.false) stands
    reason c.add.ensures
