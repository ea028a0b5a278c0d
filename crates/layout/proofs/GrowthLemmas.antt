-- The growth of a layout by the parts of a whole, one after another.
use Rattle.std.proofs.Common.{◌≡◌, refl, sym, ap, subst, ◌∙◌, arith, ℕ, suc, ◌+◌, ◌≤◌, List, [], ◌∷◌, ◌++◌, length}
use Rattle.std.proofs.Common.{map, Bool, true}
use Rattle.std.proofs.Common.{false, option_map, length-append, ◌-◌, take}
use Rattle.std.proofs.Math.Seq.{take-append_seam}
use Rattle.std.specs.Prelude.{nat_lt, ◌||◌}
use Rattle.std.proofs.lemmas.List.{append_assoc, map-append, append-nil}
use Rattle.st_types.specs.declared.limits.TheConstants.{MAX_PATHS}
use Rattle.st_types.specs.declared.path.Step.{Step}
use Rattle.st_types.specs.Paths.{Path}
use Rattle.st_meaning.specs.NameTypes.{Declared}
use Rattle.layout.specs.Shapes.{Shape, leaves_of, size, instance_count, is_sound}
use Rattle.layout.specs.Types as made
use Rattle.layout.specs.Types.{composition_of, shape_within}
use Rattle.layout.specs.TextLayouts.{further}
use Rattle.layout.specs.Growth.{Exceeds, Grows}
use Rattle.layout.specs.KeptSites.{KeptSite, kept, site_view, step_view, kept_part, part_view, parts_below}
use Rattle.layout.specs.Slots.{owner_view, path_at, slot_at, slots_within, slots_of_parts, instances_of_parts}
use Rattle.layout.specs.Slots.{own_slots, own_size, own_instances}
use Rattle.layout.specs.declared.growing.Growing.{Growing}
use Rattle.layout.specs.declared.layout_error.LayoutError.{LayoutError}
use Rattle.layout.specs.declared.layout_error.LayoutError.TheVariants as errors
use Rattle.layout.specs.declared.limits.TheConstants.{MAX_INSTANCES}
use Rattle.layout.specs.declared.sites.Part.{Part}
use Rattle.layout.specs.declared.sites.PartStep.{PartStep}
use Rattle.layout.specs.declared.slots.Root.{Root}
use Rattle.layout.proofs.ExpansionLemmas.{ArePartsSound, sound_parts, slots_expanded, size_expanded}
use Rattle.layout.proofs.ExpansionLemmas.{instances_expanded}
use Rattle.st_types.proofs.ListLemmas.{length_map}
use Rattle.st_types.proofs.TestLemmas.{or_true}

-- These parts are left: with them the layout grows by the whole, from its old state.
pub record Remains (n : ℕ) (text : Declared) (s : made.Site) (r : Root) (old now : Growing) (left : List Part)
    : Type 0 where
  pub es : List (Step × made.Site)
  pub parts : map part_view left ≡ map kept_part es
  pub sound : ArePartsSound n text es
  pub slots : now.slots.items ++ slots_of_parts n text r.is_input (path_at r old.trail.items) es
      ≡ old.slots.items ++ slots_within (suc n) text s r.is_input (path_at r old.trail.items)
  pub instances : now.instances + instances_of_parts n text es
      ≡ old.instances + instance_count (shape_within (suc n) text s.declared)

-- a type that is expanded nowhere adds nothing
pub grows_nothing : (n : ℕ) (text : Declared) (s : made.Site) (r : Root) (g : Growing) → n ≡ 0 → Grows n text s r g g
unfolding shape_within
grows_nothing n text s r g is = rw is (none text s r g)
  where
    none : (text : Declared) (s : made.Site) (r : Root) (g : Growing) → Grows 0 text s r g g
    none text s r g = record { slots = sym (append-nil g.slots.items); instances = omega arith }

-- If there is no room for a number of slots, there is none for more.
pub exceeds_more : (e : LayoutError) (k m l n : ℕ) → k ≤ m → l ≤ n → Exceeds k l e → Exceeds m n e
exceeds_more errors.TooLarge k m l n slots instances h = by_test (nat_lt MAX_PATHS k) refl
  where
    by_test : (t : Bool) → nat_lt MAX_PATHS k ≡ t → (nat_lt MAX_PATHS m || nat_lt MAX_INSTANCES n) ≡ true
    by_test true is =
        let a : nat_lt MAX_PATHS m ≡ true = grind (arith, is, slots) in ap (λ b. b || nat_lt MAX_INSTANCES n) a
    by_test false is =
        let a : nat_lt MAX_INSTANCES l ≡ true = ap (λ b. b || nat_lt MAX_INSTANCES l) (sym is) ∙ h in
        let b : nat_lt MAX_INSTANCES n ≡ true = grind (arith, a, instances) in
        ap (λ c. nat_lt MAX_PATHS m || c) b ∙ or_true (nat_lt MAX_PATHS m)
exceeds_more errors.OutOfMemory k m l n slots instances h = tt

-- Before the first part only the whole's own slot or instance was added.
pub begun : (n : ℕ) (text : Declared) (s : made.Site) (r : Root) (old now : Growing) (c : made.Composition)
    (k : KeptSite) (left : List Part) → c ≡ composition_of text s.declared → k ≡ kept s
    → is_sound (shape_within (suc n) text s.declared) ≡ true
    → now.slots.items ≡ old.slots.items ++ own_slots c k r.is_input (path_at r old.trail.items)
    → now.instances ≡ old.instances + own_instances c → map part_view left ≡ map kept_part (parts_below s c)
    → Remains n text s r old now left
begun n text s r old now c k left made site sound slots instances parts =
    let p = path_at r old.trail.items in
    let d = composition_of text s.declared in
    let es = parts_below s d in
    let i = instances_expanded n text s in
    let j : now.instances ≡ old.instances + own_instances d =
    instances ∙ ap (λ x. old.instances + own_instances x) made in
    record {
      es = es;
      parts = parts ∙ ap (λ x. map kept_part (parts_below s x)) made;
      sound = sound_parts n text s sound;
      slots = ap (λ xs. xs ++ slots_of_parts n text r.is_input p es) slots
          ∙ ap (λ x. (old.slots.items ++ own_slots x k r.is_input p) ++ slots_of_parts n text r.is_input p es) made
          ∙ ap (λ x. (old.slots.items ++ own_slots d x r.is_input p) ++ slots_of_parts n text r.is_input p es) site
          ∙ append_assoc old.slots.items (own_slots d (kept s) r.is_input p) (slots_of_parts n text r.is_input p es)
          ∙ ap (λ xs. old.slots.items ++ xs) (sym (slots_expanded n text s r.is_input p sound));
      instances = omega (arith, i, j);
    }

-- The part that comes next, and those left after it.
pub record Next (n : ℕ) (text : Declared) (s : made.Site) (r : Root) (old now : Growing) (p : Part)
    (left : List Part) : Type 0 where
  pub site : made.Site
  pub rest : List (Step × made.Site)
  pub is : site_view p.site ≡ kept site
  pub sound : is_sound (shape_within n text site.declared) ≡ true
  pub parts : map part_view left ≡ map kept_part rest
  pub sound_rest : ArePartsSound n text rest
  pub slots : now.slots.items ++ (slots_within n text site r.is_input (further (path_at r old.trail.items)
      (step_view p.step ∷ [])) ++ slots_of_parts n text r.is_input (path_at r old.trail.items) rest)
      ≡ old.slots.items ++ slots_within (suc n) text s r.is_input (path_at r old.trail.items)
  pub instances : now.instances + (instance_count (shape_within n text site.declared) + instances_of_parts n text rest)
      ≡ old.instances + instance_count (shape_within (suc n) text s.declared)

pub next : (n : ℕ) (text : Declared) (s : made.Site) (r : Root) (old now : Growing) (p : Part) (left : List Part)
    → Remains n text s r old now (p ∷ left) → Next n text s r old now p left
next n text s r old now p left m = of_list m.es m.parts m.sound m.slots m.instances
  where
    of_list : (es : List (Step × made.Site)) → map part_view (p ∷ left) ≡ map kept_part es → ArePartsSound n text es
        → now.slots.items ++ slots_of_parts n text r.is_input (path_at r old.trail.items) es
        ≡ old.slots.items ++ slots_within (suc n) text s r.is_input (path_at r old.trail.items)
        → now.instances + instances_of_parts n text es
        ≡ old.instances + instance_count (shape_within (suc n) text s.declared)
        → Next n text s r old now p left
    of_list [] parts sound slots instances = absurd (cc)
    of_list (e ∷ rest) parts sound slots instances =
        let here : part_view p ≡ kept_part e = cc in
        let step : step_view p.step ≡ e.0 = ap (λ q. q.0) here in
        record {
          site = e.1;
          rest = rest;
          is = ap (λ q. q.1) here;
          sound = sound.0;
          parts = cc;
          sound_rest = sound.1;
          slots = ap (λ x. now.slots.items ++ (slots_within n text e.1 r.is_input (further (path_at r old.trail.items)
              (x ∷ [])) ++ slots_of_parts n text r.is_input (path_at r old.trail.items) rest)) step ∙ slots;
          instances = instances;
        }

-- the path of the part that comes next
pub next_path : (r : Root) (xs : List PartStep) (x : PartStep)
    → path_at r (xs ++ x ∷ []) ≡ further (path_at r xs) (step_view x ∷ [])
next_path r xs x = ap (λ ys. record { owner = option_map owner_view r.owner; name = r.name.now; steps = ys })
    (map-append step_view xs (x ∷ []))

-- After its growth by the part that came next.
pub turned : (n : ℕ) (text : Declared) (s : made.Site) (r : Root) (old now tried grown after : Growing) (p : Part)
    (left : List Part) → (m : Remains n text s r old now (p ∷ left)) → now.trail.items ≡ old.trail.items
    → tried.slots.items ≡ now.slots.items → tried.instances ≡ now.instances
    → tried.trail.items ≡ now.trail.items ++ p.step ∷ []
    → Grows n text (next n text s r old now p left m).site r tried grown
    → after.slots.items ≡ grown.slots.items → after.instances ≡ grown.instances → Remains n text s r old after left
turned n text s r old now tried grown after p left m trail slots instances more g slots_after instances_after =
    let e = next n text s r old now p left m in
    let q = path_at r old.trail.items in
    let rest = slots_of_parts n text r.is_input q e.rest in
    let there : path_at r tried.trail.items ≡ further q (step_view p.step ∷ []) =
    ap (path_at r) (more ∙ ap (λ xs. xs ++ p.step ∷ []) trail) ∙ next_path r old.trail.items p.step in
    let i = e.instances in let j = g.instances in
    record {
      es = e.rest;
      parts = e.parts;
      sound = e.sound_rest;
      slots = ap (λ xs. xs ++ rest) (slots_after ∙ g.slots)
          ∙ ap (λ xs. (xs ++ slots_within n text e.site r.is_input (path_at r tried.trail.items)) ++ rest) slots
          ∙ ap (λ x. (now.slots.items ++ slots_within n text e.site r.is_input x) ++ rest) there
          ∙ append_assoc now.slots.items
          (slots_within n text e.site r.is_input (further q (step_view p.step ∷ []))) rest
          ∙ e.slots;
      instances = omega (arith, i, j, instances, instances_after);
    }

-- When nothing is left, the layout has grown by the whole.
pub ended : (n : ℕ) (text : Declared) (s : made.Site) (r : Root) (old now : Growing) (left : List Part) → left ≡ []
    → Remains n text s r old now left → Grows (suc n) text s r old now
ended n text s r old now left none m =
    of_list m.es (ap (map part_view) (sym none) ∙ m.parts) m.slots m.instances
  where
    of_list : (es : List (Step × made.Site)) → [] ≡ map kept_part es
        → now.slots.items ++ slots_of_parts n text r.is_input (path_at r old.trail.items) es
        ≡ old.slots.items ++ slots_within (suc n) text s r.is_input (path_at r old.trail.items)
        → now.instances + instances_of_parts n text es
        ≡ old.instances + instance_count (shape_within (suc n) text s.declared)
        → Grows (suc n) text s r old now
    of_list [] parts slots instances =
        record { slots = sym (append-nil now.slots.items) ∙ slots; instances = omega (arith, instances) }
    of_list (e ∷ rest) parts slots instances = absurd (cc)

pub length_slots : (count : (sh : Shape) → length (leaves_of sh) ≡ size sh) (n : ℕ) (text : Declared) (s : made.Site)
    (input : Bool) (p : Path) → length (slots_within n text s input p) ≡ size (shape_within n text s.declared)
length_slots count n text s input p =
    length_map (slot_at text s input p) (leaves_of (shape_within n text s.declared))
    ∙ count (shape_within n text s.declared)

-- If the next part has no room, the whole has none.
pub no_room : (count : (sh : Shape) → length (leaves_of sh) ≡ size sh) (n : ℕ) (text : Declared) (s : made.Site)
    (r : Root) (old now : Growing) (p : Part) (left : List Part) (m : Remains n text s r old now (p ∷ left))
    (e : LayoutError) → Exceeds
    (length now.slots.items + size (shape_within n text (next n text s r old now p left m).site.declared))
    (now.instances + instance_count (shape_within n text (next n text s r old now p left m).site.declared)) e
    → Exceeds (length old.slots.items + size (shape_within (suc n) text s.declared))
    (old.instances + instance_count (shape_within (suc n) text s.declared)) e
no_room count n text s r old now p left m e h =
    let x = next n text s r old now p left m in
    let q = path_at r old.trail.items in
    let mine = slots_within n text x.site r.is_input (further q (step_view p.step ∷ [])) in
    let rest = slots_of_parts n text r.is_input q x.rest in
    let a = ap length x.slots in
    let b = length-append now.slots.items (mine ++ rest) in
    let c = length-append mine rest in
    let d = length-append old.slots.items (slots_within (suc n) text s r.is_input q) in
    let f = length_slots count n text x.site r.is_input (further q (step_view p.step ∷ [])) in
    let g = length_slots count (suc n) text s r.is_input q in
    let i = x.instances in
    exceeds_more e (length now.slots.items + size (shape_within n text x.site.declared))
    (length old.slots.items + size (shape_within (suc n) text s.declared))
    (now.instances + instance_count (shape_within n text x.site.declared))
    (old.instances + instance_count (shape_within (suc n) text s.declared)) (omega (arith, a, b, c, d, f, g))
    (omega (arith, i)) h

-- If the whole's own slot or instance has no room, the whole has none.
pub no_room_itself : (n : ℕ) (text : Declared) (s : made.Site) (slots instances : ℕ) (c : made.Composition)
    (e : LayoutError) → c ≡ composition_of text s.declared
    → Exceeds (slots + own_size c) (instances + own_instances c) e
    → Exceeds (slots + size (shape_within (suc n) text s.declared))
    (instances + instance_count (shape_within (suc n) text s.declared)) e
no_room_itself n text s slots instances c e made h =
    let d = composition_of text s.declared in
    let a = size_expanded n text s in
    let b = instances_expanded n text s in
    exceeds_more e (slots + own_size d) (slots + size (shape_within (suc n) text s.declared))
    (instances + own_instances d) (instances + instance_count (shape_within (suc n) text s.declared))
    (omega (arith, a)) (omega (arith, b))
    (subst (λ x. Exceeds (slots + own_size x) (instances + own_instances x) e) made h)

-- the list after a step that was taken back
pub taken_back : {A : Type 0} (before all after : List A) (x : A) (n : ℕ) → all ≡ before ++ x ∷ [] → n ≡ length all
    → after ≡ take (n - 1) all → after ≡ before
taken_back before all after x n is size rest =
    let a : n - 1 ≡ length before =
    ap (λ m. m - 1) (size ∙ ap length is ∙ length-append before (x ∷ [])) ∙ one_less (length before) in
    rest ∙ ap (λ m. take m all) a ∙ ap (take (length before)) is ∙ take-append_seam before (x ∷ [])
  where
    one_less : (m : ℕ) → (m + 1) - 1 ≡ m
    one_less m = omega arith
