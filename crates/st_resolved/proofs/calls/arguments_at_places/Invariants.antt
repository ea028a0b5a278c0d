use Rattle.std.proofs.Common.{◌≡◌, length, map, option_map}
use Rattle.std.specs.Vec.Iter.{into_iter_items, into_iter_len}
use Rattle.st_types.specs.Expressions.{Exprs}
use Rattle.st_types.specs.ExpressionViews.{expr_view}
use Rattle.st_rules.specs.Environments.{Environment}
use Rattle.st_rules.specs.Typings.{common_of}
use Rattle.symbols.specs.Tables.{callee_view}
use Rattle.st_resolved.specs.Calls.{expected_of_call}
use Rattle.st_resolved.specs.Resolutions.{resolved_kind, ResolvesAll}
use Rattle.st_resolved.proofs.CallLemmas.{Places}
use Rattle.st_resolved.proofs.calls.arguments_at_places.Given as goal

abbrev pub invariant-loop-part : goal.invariant-loop-part
invariant-loop-part l = record {
  places : (env : Environment) (es : Exprs) → ResolvesAll env es l.fn.parts.items
      → l.common ≡ common_of (option_map callee_view l.callee) (map resolved_kind l.fn.parts.items)
      → Places env (expected_of_call (option_map callee_view l.callee) (map resolved_kind l.fn.parts.items)) es
      (map expr_view l.arguments.items) (into_iter_items l.part-iterator);
  len : into_iter_len l.part-iterator ≡ length (into_iter_items l.part-iterator);
}
