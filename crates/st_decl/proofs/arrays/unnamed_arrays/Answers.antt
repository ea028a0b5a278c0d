use Rattle.std.proofs.Common.{◌≡◌, ◌++◌, sym, map}
use Rattle.std.proofs.lemmas.List.{append-nil}
use Rattle.st_rules.specs.DeclaredTypes.{array_of_type}
use Rattle.st_decl.specs.DeclaringViews.{declaring_view}
use Rattle.st_decl.proofs.PushLemmas.{pushed_turn, pushed_all, seen_push}
use Rattle.st_decl.proofs.arrays.unnamed_arrays.Goals as goal
use Rattle.st_decl.proofs.arrays.unnamed_arrays.Goals.{in-Simple, in-Array+in_ok-push-in-Array}

pushed : (c : goal.Joined-declaring) → map (λ a. a.now) c.match-declaring.arrays.items
    ≡ map (λ a. a.now) c.loop-declaring.arrays.items ++ array_of_type c.declaring-item.result.declared.now
pushed c = elim c.match-declaring.branch [
  | in-Simple w ↦ rw (w.arrays-is, w.in-Simple.is) (sym (append-nil (map (λ a. a.now) c.loop-declaring.arrays.items)))
  | in-Array+in_ok-push-in-Array w ↦ rw (w.arrays-is, w.in-Array.is)
      (seen_push (λ a. a.now) _ _ _ w.in_ok-push-in-Array.ensures.items)
]

pub loop-declaring-preserved : goal.loop-declaring-preserved
loop-declaring-preserved c =
    pushed_turn (λ d. array_of_type d.declared) declaring_view c.args.declarings.now c.loop-declaring.declaring-index
    c.declaring-item.result _ _ _ c.loop-declaring-test.true c.declaring-item.is c.loop-declaring.invariant (pushed c)

pub returns : goal.returns
returns c = pushed_all _ _ _ _ _ _ c.loop-declaring-test.false c.loop-declaring.invariant
