use Rattle.std.proofs.Common.{◌≡◌, sym, ap, ◌∙◌, subst, ◌≤◌, true, false, [], arith}
use Rattle.std.specs.Prelude.{is_ok}
use Rattle.std.specs.List.{list_any}
use Rattle.std.proofs.lemmas.Bool.{le-leb}
use Rattle.st_rules.specs.Equality.{same_broken}
use Rattle.st_rules.proofs.CollectLemmas.{once_after_push, collects_equal, collects_none}
use Rattle.st_rules.proofs.broken_rules.BrokenRules.add.Goals as goal
use Rattle.st_rules.proofs.broken_rules.BrokenRules.add.Goals.{else-len-self-via-then-len-self+else-not-contains}
use Rattle.st_rules.proofs.broken_rules.BrokenRules.add.Goals.{else-len-self-via-else-len-self}

pub invariant_of-self : goal.invariant_of-self
invariant_of-self c =
    let before = c.args.self.now in
    let new = ap (list_any (λ x. same_broken x c.args.broken)) (sym c.deref.ensures.value)
    ∙ sym c.contains.ensures.value ∙ c.if-not-contains.true in
    record {
      is_reserved = let wide = before.is_reserved in let more = c.push.ensures.capacity in omega (arith, wide, more);
      each_once = once_after_push (is_ok c.push.result) before.found.items c.push.new.self.items c.args.broken
          c.push.ensures.items before.each_once new;
    }

pub returns-else-len-self : goal.returns-else-len-self
returns-else-len-self c = elim c.else-len-self.branch [
  | else-len-self-via-then-len-self+else-not-contains w ↦ collects_equal c.args.broken c.args.self.now
      (ap (list_any (λ x. same_broken x c.args.broken)) (sym w.deref.ensures.value)
      ∙ sym w.contains.ensures.value ∙ w.if-not-contains.false)
  | else-len-self-via-else-len-self w ↦ collects_none _ c.args.self.now (le-leb _ _ (subst (λ n. c.args.self.now.room ≤ n) (c.len.ensures ∙ c.args.self.now.found.ok.0)
      w.if-len-self.false))
]
