-- Lists of parts, resolved one by one.
use Rattle.std.proofs.Common.{◌≡◌, ◌∙◌, sym, ap, refl, ℕ, ◌+◌, ◌<◌, ◌≤◌, List, [], ◌∷◌, ◌++◌, map, drop, length, Option}
use Rattle.std.proofs.Common.{append_assoc, slice_index_or}
use Rattle.std.proofs.lemmas.List.{drop_more, drop_all, append-nil, map-append}
use Rattle.st_types.specs.declared.kind.Kind.{Kind}
use Rattle.st_types.specs.declared.data_type.VariableType.{VariableType}
use Rattle.st_types.specs.Expressions.{Selector, selectors_of, selector_then}
use Rattle.st_types.specs.Statements.{Stmt, Arm, CaseArm, stmts_of, stmt_then, arms_of, arm_then, case_arms_of}
use Rattle.st_types.specs.Statements.{case_arm_then}
use Rattle.st_types.specs.Initials.{Element, Member, elements_of, element_then, members_of, member_then}
use Rattle.st_types.specs.Units.{OrganisationUnit}
use Rattle.st_meaning.specs.NameTypes.{Declared}
use Rattle.st_meaning.specs.Resolution.{resolved_selector, resolved_selectors}
use Rattle.st_meaning.specs.ResolvedUnits.{resolved_stmt, resolved_stmts, resolved_arms, resolved_case_arms}
use Rattle.st_meaning.specs.ResolvedUnits.{resolved_element, resolved_elements, resolved_members}
use Rattle.st_resolved.specs.Arms.{resolved_arm, resolved_case_arm, resolved_member}
use Rattle.st_types.proofs.ListLemmas.{map_drop_next}

pub selectors_resolved : (text : Declared) (u : OrganisationUnit) (xs : List Selector)
    → selectors_of (map (resolved_selector text u) xs) ≡ resolved_selectors text u (selectors_of xs)
selectors_resolved text u [] = refl
selectors_resolved text u (x ∷ xs) = ap (selector_then (resolved_selector text u x)) (selectors_resolved text u xs)

pub stmts_resolved : (text : Declared) (u : OrganisationUnit) (xs : List Stmt)
    → stmts_of (map (resolved_stmt text u) xs) ≡ resolved_stmts text u (stmts_of xs)
stmts_resolved text u [] = refl
stmts_resolved text u (x ∷ xs) = ap (stmt_then (resolved_stmt text u x)) (stmts_resolved text u xs)

pub arms_resolved : (text : Declared) (u : OrganisationUnit) (xs : List Arm)
    → arms_of (map (resolved_arm text u) xs) ≡ resolved_arms text u (arms_of xs)
arms_resolved text u [] = refl
arms_resolved text u (a ∷ xs) =
    let x = resolved_arm text u a in ap (arm_then x.0 x.1) (arms_resolved text u xs)

pub case_arms_resolved : (text : Declared) (u : OrganisationUnit) (k : Option Kind) (xs : List CaseArm)
    → case_arms_of (map (resolved_case_arm text u k) xs) ≡ resolved_case_arms text u k (case_arms_of xs)
case_arms_resolved text u k [] = refl
case_arms_resolved text u k (a ∷ xs) =
    let x = resolved_case_arm text u k a in ap (case_arm_then x.0 x.1) (case_arms_resolved text u k xs)

pub elements_resolved : (text : Declared) (t : Option VariableType) (xs : List Element)
    → elements_of (map (resolved_element text t) xs) ≡ resolved_elements text t (elements_of xs)
elements_resolved text t [] = refl
elements_resolved text t (x ∷ xs) = ap (element_then (resolved_element text t x)) (elements_resolved text t xs)

pub members_resolved : (text : Declared) (t : Option VariableType) (xs : List Member)
    → members_of (map (resolved_member text t) xs) ≡ resolved_members text t (members_of xs)
members_resolved text t [] = refl
members_resolved text t (m ∷ xs) =
    let x = resolved_member text t m in ap (member_then x.0 x.1) (members_resolved text t xs)

-- the resolved part and the rest are the whole after one turn
pub resolved_turn : {A B : Type 0} (v : A → B) (f : B → B) (xs : List A) (i : ℕ) (x : A) (all : List B)
    (done next : List A) (new : A) → i < length xs → x ≡ slice_index_or xs i x
    → map v done ++ map f (map v (drop i xs)) ≡ all → next ≡ done ++ new ∷ [] → v new ≡ f (v x)
    → map v next ++ map f (map v (drop (i + 1) xs)) ≡ all
resolved_turn v f xs i x all done next new h is before pushed one =
    let left = map f (map v (drop (i + 1) xs)) in
    ap (λ ys. map v ys ++ left) pushed ∙ ap (λ ys. ys ++ left) (map-append v done (new ∷ []))
    ∙ append_assoc (map v done) (v new ∷ []) left ∙ ap (λ y. map v done ++ y ∷ left) one
    ∙ ap (λ ys. map v done ++ map f ys) (sym (map_drop_next v xs i x h is)) ∙ before

-- nothing is left after the last turn
pub all_resolved : {A B : Type 0} (v : A → B) (f : B → B) (xs : List A) (i : ℕ) (all : List B) (done : List A)
    → length xs ≤ i → map v done ++ map f (map v (drop i xs)) ≡ all → map v done ≡ all
all_resolved v f xs i all done end whole =
    sym (append-nil (map v done)) ∙ sym (ap (λ ys. map v done ++ map f (map v ys)) (drop_all i xs end)) ∙ whole

-- the same for copies, seen by a view or as they are
pub viewed_turn : {A B : Type 0} (v : A → B) (xs : List A) (i : ℕ) (x : A) (all : List B) (done next : List A) (new : A)
    → i < length xs → x ≡ slice_index_or xs i x → map v done ++ map v (drop i xs) ≡ all → next ≡ done ++ new ∷ []
    → v new ≡ v x → map v next ++ map v (drop (i + 1) xs) ≡ all
viewed_turn v xs i x all done next new h is before pushed one =
    let left = map v (drop (i + 1) xs) in
    ap (λ ys. map v ys ++ left) pushed ∙ ap (λ ys. ys ++ left) (map-append v done (new ∷ []))
    ∙ append_assoc (map v done) (v new ∷ []) left ∙ ap (λ y. map v done ++ y ∷ left) one
    ∙ ap (λ ys. map v done ++ ys) (sym (map_drop_next v xs i x h is)) ∙ before

pub copied_turn : {A : Type 0} (xs : List A) (i : ℕ) (x : A) (all done next : List A) (new : A) → i < length xs
    → x ≡ slice_index_or xs i x → done ++ drop i xs ≡ all → next ≡ done ++ new ∷ [] → new ≡ x
    → next ++ drop (i + 1) xs ≡ all
copied_turn xs i x all done next new h is before pushed one =
    let left = drop (i + 1) xs in
    ap (λ ys. ys ++ left) pushed ∙ append_assoc done (new ∷ []) left
    ∙ ap (λ ys. done ++ ys) (ap (λ y. y ∷ left) (one ∙ is) ∙ sym (drop_more xs i x h)) ∙ before

pub all_viewed : {A B : Type 0} (v : A → B) (xs : List A) (i : ℕ) (all : List B) (done : List A)
    → length xs ≤ i → map v done ++ map v (drop i xs) ≡ all → map v done ≡ all
all_viewed v xs i all done end whole =
    sym (append-nil (map v done)) ∙ sym (ap (λ ys. map v done ++ map v ys) (drop_all i xs end)) ∙ whole

pub all_copied : {A : Type 0} (xs : List A) (i : ℕ) (all done : List A) → length xs ≤ i → done ++ drop i xs ≡ all
    → done ≡ all
all_copied xs i all done end whole =
    sym (append-nil done) ∙ sym (ap (λ ys. done ++ ys) (drop_all i xs end)) ∙ whole
