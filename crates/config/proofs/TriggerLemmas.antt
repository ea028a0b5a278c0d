-- The triggers of tasks whose SINGLE is known.
use Rattle.std.proofs.Common.{◌≡◌, ◌+◌, ◌<◌, ℕ, zero, suc, refl, sym, ap, ap₂, ◌∙◌, arith, Bool, true, false}
use Rattle.std.proofs.Common.{if◌then◌else◌, List, [], ◌∷◌, ◌++◌, map, length, slice_get, Option, Some, None, option_map}
use Rattle.std.specs.Prelude.{position}
use Rattle.std.specs.List.{flat_map, list_all}
use Rattle.st_types.specs.declared.identifier.Identifier.{Identifier}
use Rattle.st_types.specs.declared.kind.Kind.TheVariants.{Bool as Boolean}
use Rattle.st_types.specs.Kinds.{same_kind}
use Rattle.st_types.specs.Paths.{Path, same_path}
use Rattle.st_types.specs.declared.configuration.Task as declared_task
use Rattle.st_types.specs.Configurations.{Resource}
use Rattle.st_meaning.specs.Scopes.{Name, unowned}
use Rattle.st_meaning.specs.Slots.{Slot, slot_of, IsLayout}
use Rattle.st_meaning.specs.declared.plan.PlanInput.{PlanInput}
use Rattle.st_meaning.specs.declared.plan.PlanVariable.{PlanVariable}
use Rattle.st_meaning.specs.Layouts.{layout_of, variable_slot, input_slot}
use Rattle.st_meaning.specs.Plans as plans
use Rattle.st_meaning.specs.Plans.{single_global, single_input}
use Rattle.plan.specs.PlanViews.{single_of as single_view, trigger_view, task_view}
use Rattle.plan.specs.Sound.{is_boolean_input, is_boolean_variable, is_sound_trigger}
use Rattle.config.specs.Tasks.{input_number, variable_number, trigger_by, trigger_at, task_at, tasks_from}
use Rattle.config.specs.TextPlans.{single_named, single_of, task_of}
use Rattle.config.proofs.ListLemmas.{get_right, mapped}
use Rattle.config.proofs.LayoutLemmas.{found}
use Rattle.st_types.proofs.OptionLemmas.{some_is}
use Rattle.std.proofs.lemmas.Bool.{and_from}
use Rattle.st_types.proofs.ListLemmas.{all_append, get_first}
use Rattle.std.proofs.lemmas.List.{map-append}
use Rattle.std.proofs.lemmas.Option.{slice_get-map}
use Rattle.layout.proofs.Positions.{position_step}

-- ---- positions are slots

variables_found : (p : Path) (vs : List PlanVariable)
    → position (λ (v : PlanVariable). same_path p v.path) vs ≡ slot_of (map variable_slot vs) p
variables_found p [] = refl
variables_found p (v ∷ vs) =
    position_step (λ (w : PlanVariable). same_path p w.path) v vs
    ∙ ap (λ o. if same_path p v.path then Some 0 else option_map suc o) (variables_found p vs)

inputs_found : (p : Path) (is : List PlanInput)
    → position (λ (i : PlanInput). same_path p i.path) is ≡ slot_of (map input_slot is) p
inputs_found p [] = refl
inputs_found p (i ∷ is) =
    position_step (λ (j : PlanInput). same_path p j.path) i is
    ∙ ap (λ o. if same_path p i.path then Some 0 else option_map suc o) (inputs_found p is)

-- a slot among two parts
abbrev in_both : ℕ → Option ℕ → Option ℕ → Option ℕ
in_both n (Some k) o = Some k
in_both n None None = None
in_both n None (Some k) = Some (n + k)

found_in_both : (xs ys : List Slot) (p : Path)
    → slot_of (xs ++ ys) p ≡ in_both (length xs) (slot_of xs p) (slot_of ys p)
found_in_both [] ys p = nothing (slot_of ys p)
  where
    nothing : (o : Option ℕ) → o ≡ in_both 0 None o
    nothing None = refl
    nothing (Some k) = let e : k ≡ 0 + k = omega arith in ap Some e
found_in_both (x ∷ xs) ys p =
    ap (λ o. if same_path p x.path then Some 0 else option_map suc o) (found_in_both xs ys p)
    ∙ by_test (same_path p x.path) (slot_of xs p) (slot_of ys p)
  where
    by_test : (b : Bool) (o u : Option ℕ)
        → (if b then Some 0 else option_map suc (in_both (length xs) o u))
        ≡ in_both (suc (length xs)) (if b then Some 0 else option_map suc o) u
    by_test true o u = refl
    by_test false (Some k) u = refl
    by_test false None None = refl
    by_test false None (Some k) =
        let e : suc (length xs + k) ≡ suc (length xs) + k = omega arith in ap Some e

-- ---- a BOOL among variables and inputs

-- a BOOL of this path is among the slots
pub record IsBoolean (vs : List PlanVariable) (is : List PlanInput) (x : Name) : Type 0 where
  pub number : ℕ
  pub slot : Slot
  pub at : slice_get (layout_of vs is) number ≡ Some slot
  pub path : slot.path ≡ unowned x
  pub kind : slot.kind ≡ Boolean

pub record IsKnown (vs : List PlanVariable) (is : List PlanInput) (x : Name) : Type 0 where
  pub sound : is_sound_trigger vs is (trigger_by (input_number is x) (variable_number vs x)) ≡ true
  pub view : trigger_view vs (trigger_by (input_number is x) (variable_number vs x))
      ≡ single_named (input_number is x) x

module _ (vs : List PlanVariable) (is : List PlanInput) (once : IsLayout (layout_of vs is)) (x : Name)
    (known : IsBoolean vs is x) where
  abbrev p : Path
  p = unowned x

  abbrev ls : List Slot
  ls = map variable_slot vs

  abbrev ms : List Slot
  ms = map input_slot is

  whole : slot_of (layout_of vs is) p ≡ Some known.number
  whole = ap (slot_of (layout_of vs is)) (sym known.path) ∙ once known.number known.slot known.at

  parts : in_both (length ls) (slot_of ls p) (slot_of ms p) ≡ Some known.number
  parts = sym (found_in_both ls ms p) ∙ whole

  -- a variable
  of_variable : (k : ℕ) → slot_of ls p ≡ Some k → slot_of ms p ≡ None → IsKnown vs is x
  of_variable k e none =
      let f = found ls p k e in
      let v = mapped variable_slot (slice_get vs k) f.slot (sym (slice_get-map variable_slot vs k) ∙ f.at) in
      let n : k ≡ known.number = some_is (sym (ap (λ o. in_both (length ls) o (slot_of ms p)) e) ∙ parts) in
      let here : slice_get (layout_of vs is) known.number ≡ Some f.slot =
      ap (slice_get (layout_of vs is)) (sym n) ∙ get_first ls ms k f.slot f.at in
      let same : f.slot ≡ known.slot = some_is (sym here ∙ known.at) in
      let kind : v.0.initial.kind ≡ Boolean = ap (λ s. s.kind) v.2 ∙ ap (λ s. s.kind) same ∙ known.kind in
      let path : v.0.path ≡ p = ap (λ s. s.path) v.2 ∙ sym f.path in
      let i : input_number is x ≡ None = inputs_found p is ∙ none in
      let w : variable_number vs x ≡ Some k = variables_found p vs ∙ e in
      record {
        sound = ap₂ (λ a b. is_sound_trigger vs is (trigger_by a b)) i w ∙ ap is_boolean_variable v.1
            ∙ ap (λ l. same_kind l Boolean) kind;
        view = ap₂ (λ a b. trigger_view vs (trigger_by a b)) i w ∙ ap single_view v.1 ∙ ap single_global path
            ∙ sym (ap (λ a. single_named a x) i);
      }

  -- an input
  of_input : (k : ℕ) → slot_of ls p ≡ None → slot_of ms p ≡ Some k → IsKnown vs is x
  of_input k none e =
      let f = found ms p k e in
      let v = mapped input_slot (slice_get is k) f.slot (sym (slice_get-map input_slot is k) ∙ f.at) in
      let n : length ls + k ≡ known.number =
      some_is (sym (ap₂ (λ a b. in_both (length ls) a b) none e) ∙ parts) in
      let here : slice_get (layout_of vs is) known.number ≡ Some f.slot =
      ap (slice_get (layout_of vs is)) (sym n) ∙ get_right ls ms k ∙ f.at in
      let same : f.slot ≡ known.slot = some_is (sym here ∙ known.at) in
      let kind : v.0.kind ≡ Boolean = ap (λ s. s.kind) v.2 ∙ ap (λ s. s.kind) same ∙ known.kind in
      let i : input_number is x ≡ Some k = inputs_found p is ∙ e in
      record {
        sound = ap (λ a. is_sound_trigger vs is (trigger_by a (variable_number vs x))) i ∙ ap is_boolean_input v.1
            ∙ ap (λ l. same_kind l Boolean) kind;
        view = ap (λ a. trigger_view vs (trigger_by a (variable_number vs x))) i
            ∙ sym (ap (λ a. single_named a x) i);
      }

  -- an input isn't a variable
  not_both : (k j : ℕ) → slot_of ls p ≡ Some k → slot_of ms p ≡ Some j → ⊥
  not_both k j e g =
      let f = found ms p j g in
      let l = found ls p k e in
      let there : slice_get (layout_of vs is) (length ls + j) ≡ Some f.slot = get_right ls ms j ∙ f.at in
      let a : slot_of (layout_of vs is) p ≡ Some (length ls + j) =
      ap (slot_of (layout_of vs is)) f.path ∙ once (length ls + j) f.slot there in
      let b : slot_of (layout_of vs is) p ≡ Some k =
      found_in_both ls ms p ∙ ap (λ o. in_both (length ls) o (slot_of ms p)) e in
      let n : length ls + j ≡ k = some_is (sym a ∙ b) in
      let lt : k < length ls = below ls k l.slot l.at in
      absurd (omega arith)
    where
      below : (xs : List Slot) (k : ℕ) (s : Slot) → slice_get xs k ≡ Some s → k < length xs
      below [] k s h = absurd (cc)
      below (y ∷ xs) zero s h = omega arith
      below (y ∷ xs) (suc k) s h = let r = below xs k s h in omega arith

  by_parts : (a b : Option ℕ) → slot_of ls p ≡ a → slot_of ms p ≡ b → IsKnown vs is x
  by_parts None None e g =
      let h : ◌≡◌ {A = Option ℕ} None (Some known.number) =
      sym (ap₂ (λ a b. in_both (length ls) a b) e g) ∙ parts in
      absurd (cc)
  by_parts None (Some k) e g = of_input k e g
  by_parts (Some k) None e g = of_variable k e g
  by_parts (Some k) (Some j) e g = absurd (not_both k j e g)

  pub known_single : IsKnown vs is x
  known_single = by_parts (slot_of ls p) (slot_of ms p) refl refl

-- ---- the tasks of resources

-- each SINGLE is a BOOL of the layout
abbrev pub AreBoolean : List PlanVariable → List PlanInput → Option Identifier → Type 0
AreBoolean vs is None = Unit {0}
AreBoolean vs is (Some x) = IsBoolean vs is x.name

module _ (vs : List PlanVariable) (is : List PlanInput) (once : IsLayout (layout_of vs is)) where
  sound_single : (o : Option Identifier) → AreBoolean vs is o → is_sound_trigger vs is (trigger_at vs is o) ≡ true
  sound_single None h = refl
  sound_single (Some x) h = (known_single vs is once x.name h).sound

  viewed_single : (o : Option Identifier) → AreBoolean vs is o
      → trigger_view vs (trigger_at vs is o) ≡ single_of is o
  viewed_single None h = refl
  viewed_single (Some x) h = (known_single vs is once x.name h).view

  abbrev pub AreSingles : List declared_task.Task → Type 0
  AreSingles [] = Unit {0}
  AreSingles (t ∷ ts) = AreBoolean vs is t.single × AreSingles ts

  abbrev pub AllSingles : List Resource → Type 0
  AllSingles [] = Unit {0}
  AllSingles (r ∷ rs) = AreSingles r.tasks × AllSingles rs

  own_sound : (number : ℕ) (ts : List declared_task.Task) → AreSingles ts
      → list_all (λ t. is_sound_trigger vs is t.single) (map (task_at vs is number) ts) ≡ true
  own_sound number [] h = refl
  own_sound number (t ∷ ts) h =
      and_from (is_sound_trigger vs is (trigger_at vs is t.single))
      (list_all (λ u. is_sound_trigger vs is u.single) (map (task_at vs is number) ts)) (sound_single t.single h.0)
      (own_sound number ts h.1)

  pub singles_sound : (number : ℕ) (rs : List Resource) → AllSingles rs
      → list_all (λ t. is_sound_trigger vs is t.single) (tasks_from vs is number rs) ≡ true
  singles_sound number [] h = refl
  singles_sound number (r ∷ rs) h =
      all_append (λ t. is_sound_trigger vs is t.single) (map (task_at vs is number) r.tasks)
      (tasks_from vs is (suc number) rs) (own_sound number r.tasks h.0) (singles_sound (suc number) rs h.1)

  task_viewed : (number : ℕ) (t : declared_task.Task) → AreBoolean vs is t.single
      → task_view vs (task_at vs is number t) ≡ task_of is t
  task_viewed number t h =
      ap (λ s. record { single = s; interval = (task_of is t).interval; priority = (task_of is t).priority })
      (viewed_single t.single h)

  own_viewed : (number : ℕ) (ts : List declared_task.Task) → AreSingles ts
      → map (task_view vs) (map (task_at vs is number) ts) ≡ map (task_of is) ts
  own_viewed number [] h = refl
  own_viewed number (t ∷ ts) h =
      ap₂ (λ (y : plans.Task) (ys : List plans.Task). y ∷ ys) (task_viewed number t h.0) (own_viewed number ts h.1)

  pub tasks_viewed : (number : ℕ) (rs : List Resource) → AllSingles rs
      → map (task_view vs) (tasks_from vs is number rs) ≡ map (task_of is) (flat_map (λ r. r.tasks) rs)
  tasks_viewed number [] h = refl
  tasks_viewed number (r ∷ rs) h =
      map-append (task_view vs) (map (task_at vs is number) r.tasks) (tasks_from vs is (suc number) rs)
      ∙ ap₂ (λ (xs ys : List plans.Task). xs ++ ys) (own_viewed number r.tasks h.0) (tasks_viewed (suc number) rs h.1)
      ∙ sym (map-append (task_of is) r.tasks (flat_map (λ q. q.tasks) rs))
