-- Names and literals that stand for values of enumerated types.
use Rattle.std.proofs.Common.{◌≡◌, ◌∙◌, sym, ap, refl, Bool, true, false, Option, Some, None}
use Rattle.std.specs.Prelude.{option_map, option_and_then, is_some, if◌then◌else◌}
use Rattle.st_types.specs.declared.identifier.Identifier.{Identifier}
use Rattle.st_types.specs.declared.kind.Kind.{Kind}
use Rattle.st_types.specs.declared.literal.EnumeratedValue.{EnumeratedValue}
use Rattle.st_types.specs.declared.literal.Literal.{Literal}
use Rattle.st_types.specs.declared.literal.Literal.TheVariants as literals
use Rattle.st_types.specs.declared.data_type.VariableType.{VariableType}
use Rattle.st_types.specs.Expressions.{Expr, literal, read, variable, no_selectors}
use Rattle.st_meaning.specs.Enumerations.{Member, member_named, member_written, number_of_member}
use Rattle.st_meaning.specs.NameTypes.{variable_type, kind_among, type_after_selectors}
use Rattle.st_meaning.specs.Operators.{or_kind}
use Rattle.st_meaning.specs.Resolution.{own_kind, resolved_expr, member_read}
use Rattle.st_rules.specs.Environments.{Environment}
use Rattle.st_resolved.specs.Resolutions.{IsValue}

abbrev literal_of : EnumeratedValue → Option Member → Literal
literal_of v o = elim o [ Some m ↦ literals.Number (number_of_member v.place m) | None ↦ literals.Enumerated v ]

-- a value that is written
pub written_value : (env : Environment) (v : EnumeratedValue) (m : Member) → Some m ≡ member_written env.text.types v
    → IsValue env (literal (literals.Enumerated v)) v.place m
written_value env v m is = record {
  typed = refl;
  kind = ap (option_map (λ (n : Member). n.kind)) (sym is);
  tree = λ offered. ap (λ o. literal (literal_of v o)) (sym is);
}

-- a name alone, by the type of the variable that has it, and by the value for which it stands
abbrev kind_of_alone : Environment → Identifier → Option VariableType → Option Kind
kind_of_alone env x o = or_kind
    (option_and_then (kind_among env.text.types) (option_and_then (type_after_selectors env.text no_selectors) o))
    (option_map (λ (n : Member). n.kind) (if is_some o then None else member_named env.text.types x.name))

abbrev tree_of : Identifier → Option Member → Expr
tree_of x o = elim o [
  | Some m ↦ literal (literals.Number (number_of_member x.place m))
  | None ↦ read (variable x no_selectors)
]

-- a name alone that no variable of the unit has
pub named_value : (env : Environment) (x : Identifier) (m : Member) → None ≡ variable_type env.unit x.name
    → Some m ≡ member_named env.text.types x.name → IsValue env (read (variable x no_selectors)) x.place m
named_value env x m none is =
    let member : Some m ≡ member_read env.text env.unit (variable x no_selectors) =
    is ∙ ap (λ (o : Option VariableType). if is_some o then None else member_named env.text.types x.name) none in
    record {
      typed = refl;
      kind = sym (ap (kind_of_alone env x) none) ∙ ap (option_map (λ (n : Member). n.kind)) (sym is);
      tree = λ offered. ap (tree_of x) (sym member);
    }
