use Rattle.std.proofs.Common.{rules, sym, ap, subst, ◌∙◌, ◌<◌, ◌≤◌, length, map}
use Rattle.std.specs.Prelude.{IfSome}
use Rattle.std.specs.List.{sum_by}
use Rattle.std.proofs.lemmas.Option.{slice_get_within}
use Rattle.st_decl.specs.declared.depths.Mark.TheVariants.{Unseen}
use Rattle.st_decl.specs.Walks.{HasLooked, IsOpen, Underway, left_of}
use Rattle.st_decl.proofs.WalkTurns.{top_looked, top_within, start_turn, close_turn, close_smaller, open_unseen}
use Rattle.st_decl.proofs.WalkTurns.{push_turn}
use Rattle.st_decl.proofs.WalkTurns.{push_smaller, cycle_turn, end_turn}
use Rattle.st_decl.proofs.depths.walk_from.Goals as goal

pub loop-visit-init : goal.loop-visit-init
loop-visit-init c = start_turn (map (λ n. n.items) c.args.graph.now) c.args.marks.now c.enter.new.marks
    c.new-path.result.items c.enter.new.path.items c.args.start c.requires.walking c.requires.unseen
    c.new-path.ensures.items c.in_ok-enter.ensures.marked c.in_ok-enter.ensures.stands

pub look-next-requires : goal.look-next-requires
look-next-requires c = subst (λ ls. c.in-Some.visit.looked ≤ length ls) (sym c.links_at.ensures)
    (top_looked c.pop.new.self.items c.in-Some.visit c.loop-visit.invariant c.in-Some.ensures.items).within

pub mark_depth-requires : goal.mark_depth-requires
mark_depth-requires c = top_within c.pop.new.self.items c.in-Some.visit c.look-next.result.0 c.loop-visit.invariant
    c.in-Some.ensures.items c.look-next.ensures.node

pub loop-visit-smaller-in-None : goal.loop-visit-smaller-in-None
loop-visit-smaller-in-None c = subst (λ ms. sum_by left_of ms < sum_by left_of c.loop-visit.marks)
    (sym c.mark_depth.ensures)
    (close_smaller c.pop.new.self.items c.in-Some.visit c.look-next.result.0 c.deeper.result
    c.loop-visit.invariant c.in-Some.ensures.items c.look-next.ensures.node)

pub loop-visit-preserved-in-None : goal.loop-visit-preserved-in-None
loop-visit-preserved-in-None c =
    let graph = map (λ n. n.items) c.args.graph.now in
    let init = c.pop.new.self.items in
    let v = c.in-Some.visit in
    let new = c.look-next.result.0 in
    let before = top_looked init v c.loop-visit.invariant c.in-Some.ensures.items in
    let looked = subst (λ ls. HasLooked graph ls new) c.links_at.ensures
    (c.look-next.ensures.keeps graph c.loop-visit.invariant.walking.told
    (subst (λ ls. HasLooked graph ls v) (sym c.links_at.ensures) before)) in
    let all = c.look-next.ensures.all c.in-None.is ∙ ap length c.links_at.ensures in
    subst (λ ms. Underway graph c.args.marks.now ms init c.args.start) (sym c.mark_depth.ensures)
    (close_turn init v new c.deeper.result c.loop-visit.invariant c.in-Some.ensures.items c.look-next.ensures.node
    looked all c.deeper.ensures)

pub returns-then-is_on_path : goal.returns-then-is_on_path
returns-then-is_on_path c =
    let graph = map (λ n. n.items) c.args.graph.now in
    let init = c.pop.new.self.items in
    let v = c.in-Some.visit in
    let new = c.look-next.result.0 in
    let before = top_looked init v c.loop-visit.invariant c.in-Some.ensures.items in
    let looked = subst (λ ls. HasLooked graph ls new) c.links_at.ensures
    (c.look-next.ensures.keeps graph c.loop-visit.invariant.walking.told
    (subst (λ ls. HasLooked graph ls v) (sym c.links_at.ensures) before)) in
    let told = subst (λ o. IfSome o (IsOpen c.loop-visit.marks c.links_at.result.now)) c.in-Some-next.is
    c.look-next.ensures.leads in
    let leads = subst (λ ls. IsOpen c.loop-visit.marks ls c.in-Some-next.node) c.links_at.ensures told in
    cycle_turn init v new c.in-Some-next.node c.loop-visit.invariant c.in-Some.ensures.items c.look-next.ensures.node
    looked leads (sym c.is_on_path.ensures ∙ c.if-is_on_path.true)

pub enter-requires-in-Some-next : goal.enter-requires-in-Some-next
enter-requires-in-Some-next c =
    let graph = map (λ n. n.items) c.args.graph.now in
    let told = subst (λ o. IfSome o (IsOpen c.loop-visit.marks c.links_at.result.now)) c.in-Some-next.is
    c.look-next.ensures.leads in
    let leads = subst (λ ls. IsOpen c.loop-visit.marks ls c.in-Some-next.node) c.links_at.ensures told in
    slice_get_within c.loop-visit.marks c.in-Some-next.node Unseen
    (open_unseen graph c.loop-visit.marks c.in-Some.visit c.in-Some-next.node leads
    (sym c.is_on_path.ensures ∙ c.if-is_on_path.false))

pub loop-visit-smaller : goal.loop-visit-smaller
loop-visit-smaller c =
    let graph = map (λ n. n.items) c.args.graph.now in
    let told = subst (λ o. IfSome o (IsOpen c.loop-visit.marks c.links_at.result.now)) c.in-Some-next.is
    c.look-next.ensures.leads in
    let leads = subst (λ ls. IsOpen c.loop-visit.marks ls c.in-Some-next.node) c.links_at.ensures told in
    push_smaller c.loop-visit.marks c.enter-in-Some-next.new.marks c.in-Some-next.node (length c.push.new.self.items)
    (open_unseen graph c.loop-visit.marks c.in-Some.visit c.in-Some-next.node leads
    (sym c.is_on_path.ensures ∙ c.if-is_on_path.false))
    c.in_ok-enter-in-Some-next.ensures.marked

pub loop-visit-preserved : goal.loop-visit-preserved
loop-visit-preserved c =
    let graph = map (λ n. n.items) c.args.graph.now in
    let init = c.pop.new.self.items in
    let v = c.in-Some.visit in
    let new = c.look-next.result.0 in
    let before = top_looked init v c.loop-visit.invariant c.in-Some.ensures.items in
    let looked = subst (λ ls. HasLooked graph ls new) c.links_at.ensures
    (c.look-next.ensures.keeps graph c.loop-visit.invariant.walking.told
    (subst (λ ls. HasLooked graph ls v) (sym c.links_at.ensures) before)) in
    let told = subst (λ o. IfSome o (IsOpen c.loop-visit.marks c.links_at.result.now)) c.in-Some-next.is
    c.look-next.ensures.leads in
    let leads = subst (λ ls. IsOpen c.loop-visit.marks ls c.in-Some-next.node) c.links_at.ensures told in
    push_turn init v new c.in-Some-next.node c.enter-in-Some-next.new.marks c.push.new.self.items
    c.enter-in-Some-next.new.path.items c.loop-visit.invariant c.in-Some.ensures.items c.look-next.ensures.node looked
    leads
    (open_unseen graph c.loop-visit.marks v c.in-Some-next.node leads
    (sym c.is_on_path.ensures ∙ c.if-is_on_path.false))
    c.in_ok-push-in-Some-next.ensures.items c.in_ok-enter-in-Some-next.ensures.marked
    c.in_ok-enter-in-Some-next.ensures.stands

pub returns : goal.returns
returns c = end_turn c.loop-visit.invariant (search rules)
