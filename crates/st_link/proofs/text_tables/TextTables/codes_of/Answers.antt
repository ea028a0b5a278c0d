use Rattle.std.proofs.Common.{ap, sym, subst, ◌∙◌, ◌+◌, ◌∷◌, [], map, take, None, Some}
use Rattle.std.specs.Prelude.{bytes_eq}
use Rattle.std.proofs.lemmas.List.{map-append, take_all}
use Rattle.symbols.specs.Found.{found}
use Rattle.layout.specs.Types.{instance_of}
use Rattle.st_link.specs.LinkVariables.{variable_view}
use Rattle.st_link.specs.Tables.{IsCode}
use Rattle.st_link.proofs.ExternalLemmas.{nothing_added}
use Rattle.st_link.proofs.UnitInstances.{CodesFound, codes_more, no_codes}
use Rattle.st_link.proofs.SymbolLemmas.{more_taken}
use Rattle.st_link.proofs.text_tables.TextTables.codes_of.Goals as goal
use Rattle.st_link.proofs.text_tables.TextTables.codes_of.Goals.{in-Some+in_ok-add, in_default}

pub loop-variable-init : goal.loop-variable-init
loop-variable-init c text globals x serves =
    subst (CodesFound text [] x) (sym (c.new-codes.ensures x)) (no_codes text x)

pub loop-variable-preserved : goal.loop-variable-preserved
loop-variable-preserved c text globals x serves =
    let xs = c.args.variables.now in
    let i = c.loop-variable.variable-index in
    let v = c.variable-item.result in
    let before = found c.loop-variable.codes x in
    let whole = sym (ap (map variable_view) (more_taken xs i v c.loop-variable-test.true c.variable-item.is)
    ∙ map-append variable_view (take i xs) (v ∷ [])) in
    let code = c.block_of_type.ensures text globals serves in
    elim c.match-block_of_type.branch [
      | in-Some+in_ok-add w ↦
          subst (λ t. CodesFound text (map variable_view (take (i + 1) xs)) x (found t x)) (sym w.codes-is)
          (subst (λ vs. CodesFound text vs x (found w.add.new.self x)) whole
          (codes_more text x (map variable_view (take i xs)) (variable_view v) before (found w.add.new.self x)
          (Some w.in-Some.code) (c.loop-variable.invariant text globals x serves)
          (subst (λ k. IsCode text k (instance_of text (variable_view v).declared)) w.in-Some.is code)
          (w.in_ok-add.ensures.added x)))
      | in_default w ↦
          subst (λ t. CodesFound text (map variable_view (take (i + 1) xs)) x (found t x)) (sym w.codes-is)
          (subst (λ vs. CodesFound text vs x before) whole
          (codes_more text x (map variable_view (take i xs)) (variable_view v) before before None
          (c.loop-variable.invariant text globals x serves)
          (subst (λ k. IsCode text k (instance_of text (variable_view v).declared)) w.in_default.is code)
          (nothing_added before (bytes_eq x v.name.now))))
    ]

pub returns : goal.returns
returns c text globals x serves =
    let vs = c.args.variables.now in
    let all = subst (λ ys. CodesFound text (map variable_view ys) x (found c.loop-variable.codes x))
    (take_all c.loop-variable.variable-index vs c.loop-variable-test.false)
    (c.loop-variable.invariant text globals x serves) in
    all.code
