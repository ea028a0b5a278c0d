use Rattle.std.proofs.Common.{◌≡◌, ◌+◌, ◌++◌, ◌∷◌, [], arith, length, ◌<◌, rules, map, sym, subst, List, ℕ}
use Rattle.std.specs.Vec.{vec_items}
use Rattle.st_types.specs.Values.{Datum}
use Rattle.trace.proofs.KeepLemmas.{IsReadTo, kept_end, kept_next, kept_past, kept_stop}
use Rattle.trace.proofs.keeping.kept_values.Goals.{then-variable+in-Ok-Some+in_ok-push-in-Ok-Some, else-variable}
use Rattle.trace.proofs.keeping.kept_values.Goals as goal

pub returns-in-Ok-None : goal.returns-in-Ok-None
returns-in-Ok-None c =
    let small : c.loop-variable.variable-index < length c.args.variables.now = omega arith in
    kept_stop (map vec_items c.args.types.now) c.args.variables.now c.loop-variable.variable-index c.variable-item.result c.args.text.now
    c.loop-variable.rest.now c.loop-variable.values.items small c.variable-item.is c.if-variable.true
    (rw c.in-Ok-None.field-0-is at c.in-Ok-None.ensures) c.loop-variable.invariant

pub loop-variable-preserved : goal.loop-variable-preserved
loop-variable-preserved c =
    let vs = c.args.variables.now in
    let types = map vec_items c.args.types.now in
    let i = c.loop-variable.variable-index in
    let small : i < length vs = omega arith in
    elim c.if-variable.branch [
      | then-variable+in-Ok-Some+in_ok-push-in-Ok-Some w ↦
          let next = kept_next types vs i c.variable-item.result c.args.text.now c.loop-variable.rest.now
          w.in-Ok-Some.behind.now c.loop-variable.values.items w.in-Ok-Some.value small c.variable-item.is
          w.if-variable.true (rw w.in-Ok-Some.field-0-is at w.in-Ok-Some.ensures) c.loop-variable.invariant in
          let items : c.if-variable.values.items ≡ c.loop-variable.values.items ++ w.in-Ok-Some.value ∷ [] = search rules in
          let rest : c.if-variable.rest.now ≡ w.in-Ok-Some.behind.now = search rules in
          subst (λ (t : List ℕ). IsReadTo types vs (i + 1) c.args.text.now t c.if-variable.values.items) (sym rest)
          (subst (λ (ds : List Datum). IsReadTo types vs (i + 1) c.args.text.now w.in-Ok-Some.behind.now ds) (sym items) next)
      | else-variable w ↦
          let next = kept_past types vs i c.variable-item.result c.args.text.now c.loop-variable.rest.now
          c.loop-variable.values.items small c.variable-item.is w.if-variable.false c.loop-variable.invariant in
          let items : c.if-variable.values.items ≡ c.loop-variable.values.items = search rules in
          let rest : c.if-variable.rest.now ≡ c.loop-variable.rest.now = search rules in
          subst (λ (t : List ℕ). IsReadTo types vs (i + 1) c.args.text.now t c.if-variable.values.items) (sym rest)
          (subst (λ (ds : List Datum). IsReadTo types vs (i + 1) c.args.text.now c.loop-variable.rest.now ds) (sym items) next)
    ]

pub returns : goal.returns
returns c =
    let end : c.loop-variable.variable-index ≡ length c.args.variables.now = omega arith in
    kept_end (map vec_items c.args.types.now) c.args.variables.now c.loop-variable.variable-index c.args.text.now c.loop-variable.rest.now
    c.loop-variable.values.items end c.loop-variable.invariant
