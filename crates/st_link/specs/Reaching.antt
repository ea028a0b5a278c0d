-- Following calls: the units that are reached so far, and those of them whose calls are not followed yet.
use Rattle.std.specs.Prelude.{◌≡◌, ℕ, ◌+◌, ◌≤◌, List, [], ◌∷◌, map, Bool, true, if◌then◌else◌, Option, Some, is_some}
use Rattle.std.specs.Prelude.{option_map, length, ◌⊎◌}
use Rattle.st_types.specs.UnitViews.{unit_view}
use Rattle.st_types.specs.Units.{OrganisationUnit}
use Rattle.st_meaning.specs.NameTypes.{Declared, unit_named}
use Rattle.st_meaning.specs.Scopes.{Name}
use Rattle.st_rules.specs.Containment.{is_function}
use Rattle.symbols.specs.Found.{found}
use Rattle.symbols.specs.PlaceTypes.{place_type_view}
use Rattle.symbols.specs.declared.index.Index.{Index}
use Rattle.symbols.specs.declared.place_types.PlaceType.{PlaceType}
use Rattle.st_link.specs.Homes.{IsAmong}
use Rattle.st_link.specs.CalledFunctions.{IsReached, callees_of, type_among}
use Rattle.st_link.specs.LinkVariables.{LinkVariable}
use Rattle.st_link.specs.declared.called_functions.Reached.{Reached}

-- The table gives variables their types.
abbrev pub HasTypes : Index PlaceType → List LinkVariable → Type 0
HasTypes types vs = (x : Name) → option_map place_type_view (found types x) ≡ type_among vs x

pub record Worklist : Type 0 where
  pub has : Name → Bool
  pub waiting : List OrganisationUnit

abbrev pub worklist_view : Reached → Worklist
worklist_view r = record {
  has = λ x. is_some (found r.units x);
  waiting = map (λ u. unit_view u.now) r.waiting.items;
}

-- how many of these units are not reached
abbrev pub number_left : (Name → Bool) → List OrganisationUnit → ℕ
number_left has [] = 0
number_left has (u ∷ us) = (if has u.name.name then 0 else 1) + number_left has us

-- A unit of this name waits.
pub record Waits (text : Declared) (waiting : List OrganisationUnit) (x : Name) : Type 0 where
  pub unit : OrganisationUnit
  pub named : unit_named text.units x ≡ Some unit
  pub among : IsAmong unit waiting

-- A unit is in the text under its name, and is reached.
pub record IsReachedUnit (text : Declared) (has : Name → Bool) (u : OrganisationUnit) : Type 0 where
  pub named : unit_named text.units u.name.name ≡ Some u
  pub reached : has u.name.name ≡ true

-- The units of these names were added, each of which waits if it is new. No unit is reached twice.
pub record Adds (text : Declared) (names : List Name) (old new : Worklist) : Type 0 where
  pub kept : (x : Name) → old.has x ≡ true → new.has x ≡ true
  pub there : (x : Name) → IsAmong x names → is_some (unit_named text.units x) ≡ true → new.has x ≡ true
  pub only : (x : Name) → new.has x ≡ true → (old.has x ≡ true) ⊎ (IsAmong x names × Waits text new.waiting x)
  pub waits : (u : OrganisationUnit) → IsAmong u old.waiting → IsAmong u new.waiting
  pub each : (u : OrganisationUnit) → IsAmong u new.waiting → IsAmong u old.waiting ⊎ IsReachedUnit text new.has u
  pub room : number_left new.has text.units + length new.waiting
      ≤ number_left old.has text.units + length old.waiting

-- All that a unit calls is reached.
pub record IsFollowed (text : Declared) (has : Name → Bool) (u : OrganisationUnit) : Type 0 where
  pub all : (x : Name) → IsAmong x (callees_of u) → is_some (unit_named text.units x) ≡ true → has x ≡ true

-- The reached units are right, those that don't wait are followed, and turns are left for all that still come.
pub record Follows (text : Declared) (programs : List Name) (turns : ℕ) (w : Worklist) : Type 0 where
  pub only : (x : Name) → w.has x ≡ true → IsReached text programs x
  pub roots : (x : Name) → IsAmong x programs → is_some (unit_named text.units x) ≡ true → w.has x ≡ true
  pub standing : (u : OrganisationUnit) → IsAmong u w.waiting → IsReachedUnit text w.has u
  pub followed : (y : Name) (u : OrganisationUnit) → w.has y ≡ true → unit_named text.units y ≡ Some u
      → IsAmong u w.waiting ⊎ IsFollowed text w.has u
  pub room : number_left w.has text.units + length w.waiting ≤ turns

-- Exactly the units that these programs reach are found.
pub record FindsReached (text : Declared) (programs : List Name) (has : Name → Bool) : Type 0 where
  pub only : (x : Name) → has x ≡ true → IsReached text programs x
  pub each : (x : Name) → IsReached text programs x → is_some (unit_named text.units x) ≡ true → has x ≡ true

-- Exactly the functions that they reach are found.
pub record FindsFunctions (text : Declared) (programs : List Name) (has : Name → Bool) : Type 0 where
  pub only : (x : Name) → has x ≡ true → IsReached text programs x
  pub each : (x : Name) → IsReached text programs x → is_function text x ≡ true → has x ≡ true
