-- The values of variables and inputs.
use Rattle.std.proofs.Common.{◌≡◌, ℕ, suc, ◌<◌, Bool, true, false, if◌then◌else◌, List, [], ◌∷◌, length}
use Rattle.std.proofs.Common.{get_or, Option, Some, None, option_map, slice_get, refl, sym, ap, subst, ◌∙◌, arith}
use Rattle.std.specs.Prelude.{position}
use Rattle.std.proofs.lemmas.Option.{slice_get_read}
use Rattle.st_types.specs.Values.{Datum}
use Rattle.st_types.specs.Paths.{Path, same_path}
use Rattle.st_types.specs.declared.entry.Entry.{Entry}
use Rattle.st_meaning.specs.declared.plan.PlanVariable.{PlanVariable}
use Rattle.st_meaning.specs.declared.plan.PlanInput.{PlanInput}
use Rattle.st_meaning.specs.Stores.{Store, get}
use Rattle.st_meaning.specs.Scopes.{seen}
use Rattle.st_meaning.specs.Slots.{variables_with}
use Rattle.st_meaning.specs.Layouts.{layout_of}
use Rattle.st_meaning.specs.Plans.{image_of}
use Rattle.layout.proofs.Positions.{position_step}
use Rattle.plan.specs.SlotPlaces.{place_among}
use Rattle.plan.specs.declared.slots.SlotPlace.{SlotPlace}
use Rattle.plan.specs.declared.slots.SlotPlace.TheVariants.{Input, Variable}
use Rattle.core_engine.specs.Steps.{State, past_in, first_image, last_image, inputs_now}
use Rattle.core_engine.specs.Lived.{EngineView, IsEngineOf, life_in}
use Rattle.core_engine.proofs.PlanSlots.{no_variables}

-- the value at a number that was found
abbrev pub found : List Datum → Option ℕ → Option Datum
found vs None = None
found vs (Some k) = slice_get vs k

found_behind : (v : Datum) (vs : List Datum) (t : Bool) (o : Option ℕ) (rest : Option Datum) → rest ≡ found vs o
    → (if t then Some v else rest) ≡ found (v ∷ vs) (if t then Some 0 else option_map suc o)
found_behind v vs true o rest e = refl
found_behind v vs false None rest e = e
found_behind v vs false (Some k) rest e = e

pub image_get : (is : List PlanInput) (im : List Datum) (p : Path) → length im ≡ length is
    → get (image_of is im) p ≡ found im (position (λ i. same_path p i.path) is)
image_get [] im p e = refl
image_get (i ∷ is) [] p e = absurd (omega arith)
image_get (i ∷ is) (v ∷ im) p e =
    found_behind v im (same_path p i.path) (position (λ j. same_path p j.path) is) (get (image_of is im) p)
    (image_get is im p (omega arith))
    ∙ ap (found (v ∷ im)) (sym (position_step (λ j. same_path p j.path) i is))

pub variables_get : (xs : List PlanVariable) (is : List PlanInput) (vs : List Datum) (p : Path) → length vs ≡ length xs
    → get (variables_with (layout_of xs is) vs) p ≡ found vs (position (λ x. same_path p x.path) xs)
variables_get [] is [] p e = ap (λ s. get s p) (no_variables is [])
variables_get [] is (v ∷ vs) p e = absurd (omega arith)
variables_get (x ∷ xs) is [] p e = absurd (omega arith)
variables_get (x ∷ xs) is (v ∷ vs) p e =
    found_behind v vs (same_path p x.path) (position (λ y. same_path p y.path) xs)
    (get (variables_with (layout_of xs is) vs) p) (variables_get xs is vs p (omega arith))
    ∙ ap (found (v ∷ vs)) (sym (position_step (λ y. same_path p y.path) x xs))

-- an input is seen, or else a variable
pub input_seen : (image s : Store) (p : Path) (v : Datum) → get image p ≡ Some v → seen image s p ≡ Some v
input_seen image s p v e = rw e refl

pub variable_seen : (image s : Store) (p : Path) (o : Option Datum) → get image p ≡ None → get s p ≡ o
    → seen image s p ≡ o
variable_seen image s p o e f = rw (e, f) refl

-- where a path is: among the inputs, among the variables alone, or nowhere
abbrev pub IsPlaced : Option ℕ → Option ℕ → Option SlotPlace → Type 0
IsPlaced i v (Some (Input k)) = i ≡ Some k
IsPlaced i v (Some (Variable k)) = (i ≡ None) × (v ≡ Some k)
IsPlaced i v None = (i ≡ None) × (v ≡ None)

pub is_placed : (i v : Option ℕ) (o : Option SlotPlace) → o ≡ place_among i v → IsPlaced i v o
is_placed (Some k) v o e = subst (IsPlaced (Some k) v) (sym e) refl
is_placed None (Some k) o e = subst (IsPlaced None (Some k)) (sym e) (refl, refl)
is_placed None None o e = subst (IsPlaced None None) (sym e) (refl, refl)

-- the value of an input is that of the newest row
pub input_held : (engine : EngineView) (start : List Datum) (log : List Entry) → IsEngineOf start log engine
    → (image : List Datum) (k : ℕ) (v : Datum) → image ≡ engine.newest.image
    → length engine.newest.image ≡ length engine.plan.inputs.items → k < length engine.plan.inputs.items
    → v ≡ get_or image k v
    → Some v ≡ slice_get (last_image (first_image engine.plan.inputs.items)
    (past_in (life_in engine start log)).rows) k
input_held engine start log is image k v same wide there read =
    sym (slice_get_read image (length image) k v refl (omega (arith, there, wide, ap length same)) read)
    ∙ ap (λ (x : List Datum). slice_get x k) (same ∙ is.newest)

module _ (engine : EngineView) (start : List Datum) (log : List Entry) (is : IsEngineOf start log engine)
    (wide : length engine.newest.image ≡ length engine.plan.inputs.items) where
  abbrev life : State
  life = life_in engine start log

  abbrev image_now : List Datum
  image_now = last_image (first_image engine.plan.inputs.items) (past_in life).rows

  image_long : length image_now ≡ length engine.plan.inputs.items
  image_long = sym (ap length is.newest) ∙ wide

  -- a variable's value is that of its slot
  pub variable_told : (p : Path) (o : Option ℕ) (v : Option Datum)
      → o ≡ position (λ x. same_path p x.path) engine.plan.variables.items → v ≡ found engine.values o
      → v ≡ get (past_in life).store p
  variable_told p o v e told =
      told ∙ ap (found engine.values) e
      ∙ sym (variables_get engine.plan.variables.items engine.plan.inputs.items engine.values p is.kept.sized)
      ∙ ap (λ s. get s p) is.kept.of_past.variables

  -- an input's value is that of its number
  pub input_told : (p : Path) (k : ℕ) (v : Datum)
      → position (λ i. same_path p i.path) engine.plan.inputs.items ≡ Some k → Some v ≡ slice_get image_now k
      → Some v ≡ seen (inputs_now life) (past_in life).store p
  input_told p k v e told =
      sym (input_seen (inputs_now life) (past_in life).store p v
      (image_get engine.plan.inputs.items image_now p image_long ∙ ap (found image_now) e ∙ sym told))

  pub other_told : (p : Path) (v : Option Datum)
      → position (λ i. same_path p i.path) engine.plan.inputs.items ≡ None → v ≡ get (past_in life).store p
      → v ≡ seen (inputs_now life) (past_in life).store p
  other_told p v e told =
      sym (variable_seen (inputs_now life) (past_in life).store p v
      (image_get engine.plan.inputs.items image_now p image_long ∙ ap (found image_now) e) (sym told))
