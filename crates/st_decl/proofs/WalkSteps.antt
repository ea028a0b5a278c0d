-- The steps of a walk keep its invariant.
use Rattle.std.proofs.Common.{◌≡◌, refl, sym, ap, subst, ◌∙◌, ℕ, zero, suc, ◌+◌, ◌-◌, ◌<◌, ◌≤◌, List, [], ◌∷◌, ◌++◌}
use Rattle.std.proofs.Common.{length, set, Some, arith, rules}
use Rattle.std.specs.Prelude.{slice_get, get_or}
use Rattle.std.specs.List.{sum_by}
use Rattle.std.proofs.lemmas.Option.{slice_get_within, slice_get-get_or}
use Rattle.st_decl.specs.declared.depths.Mark.{Mark}
use Rattle.st_decl.specs.declared.depths.Mark.TheVariants.{Unseen, OnPath, Depth}
use Rattle.st_decl.specs.declared.depths.Visit.{Visit}
use Rattle.st_decl.specs.Graphs.{Graph, links_at, LinksTo, LinkPath, one, further, IsCycle, nothing}
use Rattle.st_decl.specs.Walks.{MarkHolds, HasLooked, Walking, IsOnPath, on_path}
use Rattle.st_decl.proofs.PathLemmas.{Split, in_front, at_end, get_split, set_same, set_other}
use Rattle.st_decl.proofs.PathLemmas.{set_length, Changed, changed, kept, get_changed, sum_changed, sum_short}
use Rattle.st_types.proofs.ListLemmas.{get_first, get_last}

abbrev pub fresh : ℕ → Visit
fresh n = record { node = n; looked = 0; deepest = 0 }

position_is : {j k : ℕ} → Some (OnPath j) ≡ Some (OnPath k) → j ≡ k
position_is h = search rules

-- the top of the path is looked at further
pub looked_further : (graph : Graph) (marks : List Mark) (init : List Visit) (v new : Visit)
    → Walking graph marks (init ++ v ∷ []) → new.node ≡ v.node → HasLooked graph (links_at graph v.node) new
    → Walking graph marks (init ++ new ∷ [])
looked_further graph marks init v new w same looked = record {
  told = w.told;
  marked = λ k x at. marked_in k x (get_split init new x k at);
  standing = λ i k at. standing_in i k (w.standing i k at);
  looked = λ k x at. looked_in k x (get_split init new x k at);
  leads = λ k x y at next. leads_in k x y (get_split init new x k at) (get_split init new y (suc k) next);
  count = w.count ∙ lengths init;
}
  where
    lengths : (xs : List Visit) → length (xs ++ v ∷ []) ≡ length (xs ++ new ∷ [])
    lengths [] = refl
    lengths (x ∷ xs) = ap suc (lengths xs)

    old_end : slice_get (init ++ v ∷ []) (length init) ≡ Some v
    old_end = get_last init v

    marked_in : (k : ℕ) (x : Visit) → Split init new x k → slice_get marks x.node ≡ Some (OnPath k)
    marked_in k x (in_front at) = w.marked k x (get_first init (v ∷ []) k x at)
    marked_in k x (at_end at is) =
        ap (λ y. slice_get marks y.node) (sym is) ∙ ap (slice_get marks) same
        ∙ w.marked (length init) v old_end ∙ ap (λ j. Some (OnPath j)) (sym at)

    standing_in : (i k : ℕ) → IsOnPath (init ++ v ∷ []) k i → IsOnPath (init ++ new ∷ []) k i
    standing_in i k s = by_split (get_split init v s.visit k s.there)
      where
        by_split : Split init v s.visit k → IsOnPath (init ++ new ∷ []) k i
        by_split (in_front at) =
            record { visit = s.visit; there = get_first init (new ∷ []) k s.visit at; node = s.node }
        by_split (at_end at is) = record {
          visit = new;
          there = ap (slice_get (init ++ new ∷ [])) at ∙ get_last init new;
          node = same ∙ ap (λ y. y.node) is ∙ s.node;
        }

    looked_in : (k : ℕ) (x : Visit) → Split init new x k → HasLooked graph (links_at graph x.node) x
    looked_in k x (in_front at) = w.looked k x (get_first init (v ∷ []) k x at)
    looked_in k x (at_end at is) = subst (λ y. HasLooked graph (links_at graph y.node) y) is
        (subst (λ n. HasLooked graph (links_at graph n) new) (sym same) looked)

    leads_in : (k : ℕ) (x y : Visit) → Split init new x k → Split init new y (suc k) → LinksTo graph x.node y.node
    leads_in k x y (in_front at) (in_front next) =
        w.leads k x y (get_first init (v ∷ []) k x at) (get_first init (v ∷ []) (suc k) y next)
    leads_in k x y (in_front at) (at_end next is) = subst (LinksTo graph x.node) (sym same ∙ ap (λ z. z.node) is)
        (w.leads k x v (get_first init (v ∷ []) k x at)
        (ap (slice_get (init ++ v ∷ [])) next ∙ old_end))
    leads_in k x y (at_end at is) (in_front next) =
        let within = slice_get_within init (suc k) y next in
        absurd (omega (arith, within, at))
    leads_in k x y (at_end at is) (at_end next too) = absurd (omega arith)

-- the last of a path leads to it
abbrev pub LastLeads : Graph → List Visit → ℕ → Type 0
LastLeads graph path n = (k : ℕ) (v : Visit) → slice_get path k ≡ Some v → suc k ≡ length path → LinksTo graph v.node n

-- a type or unit that was not seen yet is put on the path
pub entered : (graph : Graph) (marks : List Mark) (path : List Visit) (n : ℕ) → Walking graph marks path
    → LastLeads graph path n → slice_get marks n ≡ Some Unseen
    → Walking graph (set marks n (OnPath (length path))) (path ++ fresh n ∷ [])
entered graph marks path n w last unseen = record {
  told = record {
    length = set_length marks n (OnPath (length path)) ∙ w.told.length;
    tells = λ i c at. tells_in i c (get_changed marks n i (OnPath (length path)) (Depth c) at);
  };
  marked = λ k x at. marked_in k x (get_split path (fresh n) x k at);
  standing = λ i k at. standing_in i k (get_changed marks n i (OnPath (length path)) (OnPath k) at);
  looked = λ k x at. looked_in k x (get_split path (fresh n) x k at);
  leads = λ k x y at next. leads_in k x y (get_split path (fresh n) x k at) (get_split path (fresh n) y (suc k) next);
  count = counted;
}
  where
    new : Mark
    new = OnPath (length path)

    here : slice_get (set marks n (OnPath (length path))) n ≡ Some (OnPath (length path))
    here = set_same marks n Unseen (OnPath (length path)) unseen

    tells_in : (i c : ℕ) → Changed marks n i (OnPath (length path)) (Depth c) → MarkHolds graph i c
    tells_in i c (changed at is) = absurd (cc)
    tells_in i c (kept other at) = w.told.tells i c at

    marked_in : (k : ℕ) (x : Visit) → Split path (fresh n) x k
        → slice_get (set marks n (OnPath (length path))) x.node ≡ Some (OnPath k)
    marked_in k x (in_front at) =
        let before = w.marked k x at in
        set_other marks n x.node (OnPath (length path)) (λ e. unseen_not (sym unseen ∙ ap (slice_get marks) e ∙ before))
        ∙ before
      where
        unseen_not : Some Unseen ≡ Some (OnPath k) → ⊥
        unseen_not e = cc
    marked_in k x (at_end at is) = ap (slice_get (set marks n (OnPath (length path)))) (ap (λ y. y.node)
        (sym is)) ∙ here
        ∙ ap (λ j. Some (OnPath j)) (sym at)

    standing_in : (i k : ℕ) → Changed marks n i (OnPath (length path)) (OnPath k)
        → IsOnPath (path ++ fresh n ∷ []) k i
    standing_in i k (changed at is) = record {
      visit = fresh n;
      there = ap (slice_get (path ++ fresh n ∷ [])) (sym (position_is (ap Some is))) ∙ get_last path (fresh n);
      node = at;
    }
    standing_in i k (kept other at) =
        let s = w.standing i k at in
        record { visit = s.visit; there = get_first path (fresh n ∷ []) k s.visit s.there; node = s.node }

    looked_in : (k : ℕ) (x : Visit) → Split path (fresh n) x k → HasLooked graph (links_at graph x.node) x
    looked_in k x (in_front at) = w.looked k x at
    looked_in k x (at_end at is) = subst (λ y. HasLooked graph (links_at graph y.node) y) is (record {
      within = omega arith;
      deepest = record { depth = 0; deepest = nothing; is_cut = refl };
    })

    leads_in : (k : ℕ) (x y : Visit) → Split path (fresh n) x k → Split path (fresh n) y (suc k)
        → LinksTo graph x.node y.node
    leads_in k x y (in_front at) (in_front next) = w.leads k x y at next
    leads_in k x y (in_front at) (at_end next is) =
        subst (λ z. LinksTo graph x.node z.node) is (last k x at next)
    leads_in k x y (at_end at is) (in_front next) =
        let within = slice_get_within path (suc k) y next in
        absurd (omega (arith, within, at))
    leads_in k x y (at_end at is) (at_end next too) = absurd (omega arith)

    longer : (xs : List Visit) → length (xs ++ fresh n ∷ []) ≡ suc (length xs)
    longer [] = refl
    longer (x ∷ xs) = ap suc (longer xs)

    counted : sum_by on_path (set marks n (OnPath (length path))) ≡ length (path ++ fresh n ∷ [])
    counted =
        let more = sum_changed on_path marks n Unseen (OnPath (length path)) unseen in
        let before = w.count in
        let one_more = longer path in
        omega (arith, more, before, one_more)

-- the top of the path has its depth, and leaves the path
pub left : (graph : Graph) (marks : List Mark) (init : List Visit) (v : Visit) (c : ℕ)
    → Walking graph marks (init ++ v ∷ []) → MarkHolds graph v.node c
    → Walking graph (set marks v.node (Depth c)) init
left graph marks init v c w tells = record {
  told = record {
    length = set_length marks v.node (Depth c) ∙ w.told.length;
    tells = λ i e at. tells_in i e (get_changed marks v.node i (Depth c) (Depth e) at);
  };
  marked = λ k x at. marked_in k x at;
  standing = λ i k at. standing_in i k (get_changed marks v.node i (Depth c) (OnPath k) at);
  looked = λ k x at. w.looked k x (get_first init (v ∷ []) k x at);
  leads = λ k x y at next.
      w.leads k x y (get_first init (v ∷ []) k x at) (get_first init (v ∷ []) (suc k) y next);
  count = counted;
}
  where
    top : slice_get marks v.node ≡ Some (OnPath (length init))
    top = w.marked (length init) v (get_last init v)

    depth_is : {a b : ℕ} → Depth a ≡ Depth b → a ≡ b
    depth_is h = search rules

    tells_in : (i e : ℕ) → Changed marks v.node i (Depth c) (Depth e) → MarkHolds graph i e
    tells_in i e (changed at is) = subst (λ j. MarkHolds graph j e) at (subst (MarkHolds graph v.node) (depth_is is) tells)
    tells_in i e (kept other at) = w.told.tells i e at

    marked_in : (k : ℕ) (x : Visit) → slice_get init k ≡ Some x
        → slice_get (set marks v.node (Depth c)) x.node ≡ Some (OnPath k)
    marked_in k x at =
        let before = w.marked k x (get_first init (v ∷ []) k x at) in
        let within = slice_get_within init k x at in
        set_other marks v.node x.node (Depth c) (λ e. apart within
        (position_is (sym top ∙ ap (slice_get marks) e ∙ before))) ∙ before
      where
        apart : k < length init → length init ≡ k → ⊥
        apart h e = omega arith

    standing_in : (i k : ℕ) → Changed marks v.node i (Depth c) (OnPath k) → IsOnPath init k i
    standing_in i k (changed at is) = absurd (cc)
    standing_in i k (kept other at) = by_split (get_split init v (w.standing i k at).visit k (w.standing i k at).there)
      where
        by_split : Split init v (w.standing i k at).visit k → IsOnPath init k i
        by_split (in_front there) =
            record { visit = (w.standing i k at).visit; there = there; node = (w.standing i k at).node }
        by_split (at_end there is) = absurd (other (ap (λ y. y.node) is ∙ (w.standing i k at).node))

    longer : (xs : List Visit) → length (xs ++ v ∷ []) ≡ suc (length xs)
    longer [] = refl
    longer (x ∷ xs) = ap suc (longer xs)

    counted : sum_by on_path (set marks v.node (Depth c)) ≡ length init
    counted =
        let less = sum_changed on_path marks v.node (OnPath (length init)) (Depth c) top in
        let before = w.count in
        let one_less = longer init in
        omega (arith, less, before, one_less)

-- a link back to the path means a cycle
pub comes_back : (graph : Graph) (marks : List Mark) (path : List Visit) (n j : ℕ) → Walking graph marks path
    → LastLeads graph path n → slice_get marks n ≡ Some (OnPath j) → IsCycle graph n
comes_back graph marks path n j w last at = record {
  links = suc (length path - suc j);
  short = shorter;
  way = subst (λ i. LinkPath graph (suc (length path - suc j)) i n) s.node
      (along (length path - suc j) j s.visit s.there whole);
}
  where
    s : IsOnPath path j n
    s = w.standing n j at

    within : j < length path
    within = slice_get_within path j s.visit s.there

    whole : j + suc (length path - suc j) ≡ length path
    whole = omega (arith, within)

    at_most : (m : Mark) → on_path m ≤ 1
    at_most Unseen = omega arith
    at_most (OnPath k) = omega arith
    at_most (Depth c) = omega arith

    shorter : suc (length path - suc j) ≤ length graph
    shorter =
        let few = sum_short on_path marks at_most in
        let count = w.count in
        let all = w.told.length in
        omega (arith, few, count, all, within)

    along : (m k : ℕ) (v : Visit) → slice_get path k ≡ Some v → k + suc m ≡ length path → LinkPath graph (suc m) v.node n
    along zero k v there ends = one (last k v there (omega arith))
    along (suc m) k v there ends =
        let next = slice_get-get_or path (suc k) v (omega arith) in
        further (w.leads k v (get_or path (suc k) v) there next)
        (along m (suc k) (get_or path (suc k) v) next (omega arith))
