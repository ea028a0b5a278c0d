-- The store after an assignment: its parts are still there, with values of their types. So a store that agreed still does.
use Rattle.std.proofs.Common.{◌≡◌, refl, sym, ap, subst, ◌∙◌, Bool, true, false, ◌||◌, if◌then◌else◌}
use Rattle.std.proofs.Common.{[], ◌∷◌, Option, Some, None, Result, Ok, Err}
use Rattle.std.proofs.lemmas.Bool.{and_parts}
use Rattle.st_types.specs.declared.kind.Kind.{Kind}
use Rattle.st_types.specs.Kinds.{holds, same_kind}
use Rattle.st_types.proofs.KindLemmas.{same_kind_is}
use Rattle.st_types.specs.Values.{Datum}
use Rattle.st_types.specs.Paths.{Path, same_path, is_within}
use Rattle.st_types.specs.declared.data_type.VariableType.{VariableType}
use Rattle.st_meaning.specs.Failures.{Failure, ill_typed}
use Rattle.st_meaning.specs.Stores.{Store, get, may_replace, replaced, with_entry, assigned, has_part}
use Rattle.st_meaning.specs.Scopes.{Name, Scope, or_datum}
use Rattle.st_meaning.specs.Evaluation.{known, element_at}
use Rattle.st_rules.specs.Environments.{Environment}
use Rattle.st_link.specs.Soundness.{HasKind, IsPlace, root, part, element, Agrees, Keeps}
use Rattle.st_meaning.proofs.Shapes.{may_replace_is}

pub keeps_itself : (s : Store) → Keeps s s
keeps_itself s = record { parts = λ p. refl; kinds = λ p k h. h }

pub keeps_on : {s t u : Store} → Keeps s t → Keeps t u → Keeps s u
keeps_on h i = record { parts = λ p. i.parts p ∙ h.parts p; kinds = λ p k x. i.kinds p k (h.kinds p k x) }

-- a value that may take the place of another
kind_replaced : (e : Path × Datum) (v : Datum) (o : Option Datum) (k : Kind) (b : Bool)
    → (e.1.kind ≡ v.kind) × (holds v.kind v.number ≡ true) → HasKind (if b then Some e.1 else o) k
    → HasKind (if b then Some v else o) k
kind_replaced e v o k true may h =
    let is : e.1 ≡ h.datum = cc (h.there) in
    record {
      datum = v;
      there = refl;
      is_of = record { kind = sym may.0 ∙ (ap (λ d. d.kind) is ∙ h.is_of.kind); held = may.1 };
    }
kind_replaced e v o k false may h = h

replaced_keeps : (e : Path × Datum) (v : Datum) (s t : Store) (b : Bool)
    → (b ≡ true → (e.1.kind ≡ v.kind) × (holds v.kind v.number ≡ true))
    → (if b then Ok ((e.0, v) ∷ s) else Err ill_typed) ≡ Ok t → Keeps (e ∷ s) t
replaced_keeps e v s t true may h =
    let is : ◌≡◌ {A = Store} ((e.0, v) ∷ s) t = cc in
    subst (λ (u : Store). Keeps (e ∷ s) u) is (record {
      parts = λ p. refl;
      kinds = λ p k x. kind_replaced e v (get s p) k (same_path p e.0) (may refl) x;
    })
replaced_keeps e v s t false may h = absurd (cc)

kind_behind : (e : Path × Datum) (o p : Option Datum) (k : Kind) (b : Bool) → (HasKind o k → HasKind p k)
    → HasKind (if b then Some e.1 else o) k → HasKind (if b then Some e.1 else p) k
kind_behind e o p k true f h = h
kind_behind e o p k false f h = f h

behind_keeps : (e : Path × Datum) (s t : Store) (r : Result Store Failure) → ((u : Store) → r ≡ Ok u → Keeps s u)
    → with_entry e r ≡ Ok t → Keeps (e ∷ s) t
behind_keeps e s t (Ok u) f h =
    let is : ◌≡◌ {A = Store} (e ∷ u) t = cc in
    let rest = f u refl in
    subst (λ (x : Store). Keeps (e ∷ s) x) is (record {
      parts = λ p. ap (λ b. is_within p e.0 || b) (rest.parts p);
      kinds = λ p k x. kind_behind e (get s p) (get u p) k (same_path p e.0) (rest.kinds p k) x;
    })
behind_keeps e s t (Err x) f h = absurd (cc)

keeps_at : (e : Path × Datum) (p : Path) (v : Datum) (s t : Store) (b : Bool)
    → ((u : Store) → assigned s p v ≡ Ok u → Keeps s u)
    → (if b then replaced e v s else with_entry e (assigned s p v)) ≡ Ok t → Keeps (e ∷ s) t
keeps_at e p v s t true f h = replaced_keeps e v s t (may_replace e.1 v) (may_replace_is e.1 v) h
keeps_at e p v s t false f h = behind_keeps e s t (assigned s p v) f h

pub assigned_keeps : (s : Store) (p : Path) (v : Datum) (t : Store) → assigned s p v ≡ Ok t → Keeps s t
assigned_keeps [] p v t h = absurd (cc)
assigned_keeps (e ∷ s) p v t h = keeps_at e p v s t (same_path p e.0) (λ u. assigned_keeps s p v u) h

-- a place of the new store is one of the old
place_before : {env : Environment} {w : Scope} {s t : Store} {x : Name} {p : Path} {r : VariableType} → Keeps s t
    → IsPlace env w t x p r → IsPlace env w s x p r
place_before h (root x e) = root x e
place_before h (part y place e) = part y (place_before h place) e
place_before {w = w} {s = s} {t = t} h (element {p = p} z place e there) = element z (place_before h place) e
    (subst (λ b. (has_part w.image (element_at p z) || b) ≡ true) (h.parts (element_at p z)) there)

-- a value that is known
held_known : (v : Datum) (k : Kind) (b : Bool) → HasKind (if b then Some v else None) k → HasKind (Some v) k
held_known v k true h = h
held_known v k false h = absurd (let e = h.there in cc)

pub known_is : (o : Option Datum) (k : Kind) → HasKind (known o) k → HasKind o k
known_is None k h = h
known_is (Some v) k h = held_known v k (holds v.kind v.number) h

pub is_known : (o : Option Datum) (k : Kind) → HasKind o k → HasKind (known o) k
is_known o k h =
    subst (λ (x : Option Datum). HasKind (known x) k) (sym h.there)
    (subst (λ (b : Bool). HasKind (if b then Some h.datum else None) k) (sym h.is_of.held)
    (record { datum = h.datum; there = refl; is_of = h.is_of }))

seen_kept : (o a b : Option Datum) (k : Kind) → (HasKind a k → HasKind b k) → HasKind (known (or_datum o a)) k
    → HasKind (known (or_datum o b)) k
seen_kept (Some v) a b k f h = h
seen_kept None a b k f h = is_known b k (f (known_is a k h))

pub agrees_kept : {env : Environment} {w : Scope} {s t : Store} → Agrees env w s → Keeps s t → Agrees env w t
agrees_kept {w = w} {s = s} {t = t} h i = record {
  values = λ {p = q} k place e.
      seen_kept (get w.image q) (get s q) (get t q) k (i.kinds q k) (h.values k (place_before i place) e);
  stored = λ {p = q} k place free e. i.kinds q k (h.stored k (place_before i place) free e);
}
