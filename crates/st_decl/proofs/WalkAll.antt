-- A walk over all types and units.
use Rattle.std.proofs.Common.{◌≡◌, refl, sym, ap, subst, ◌∙◌, ℕ, zero, suc, ◌+◌, ◌<◌, ◌≤◌, List, [], ◌∷◌, length}
use Rattle.std.proofs.Common.{Option, Some, None, arith, rules, true, false, replicate, inl, inr, ◌⊎◌}
use Rattle.std.specs.Prelude.{slice_get}
use Rattle.std.specs.List.{sum_by}
use Rattle.std.proofs.lemmas.List.Sums.{sum_by-cons}
use Rattle.std.proofs.lemmas.Bool.{cases_eq}
use Rattle.st_decl.specs.declared.depths.Mark.{Mark}
use Rattle.st_decl.specs.declared.depths.Mark.TheVariants.{Unseen, OnPath, Depth}
use Rattle.st_decl.specs.declared.depths.Visit.{Visit}
use Rattle.st_decl.specs.Graphs.{Graph}
use Rattle.st_decl.specs.Walks.{Walking, has_depth, is_unseen, Ended, Walked, AllMarked, on_path}

-- an element of a list of one value
repeated : (count i : ℕ) (m : Mark) → slice_get (replicate count Unseen) i ≡ Some m → m ≡ Unseen
repeated zero i m h = absurd (cc)
repeated (suc count) zero m h = search rules
repeated (suc count) (suc i) m h = repeated count i m h

nobody : (k : ℕ) (x : Visit) → slice_get {X = Visit} [] k ≡ Some x → ⊥
nobody k x h = cc

none_on_path : (count : ℕ) → sum_by on_path (replicate count Unseen) ≡ 0
none_on_path zero = refl
none_on_path (suc count) =
    let more = sum_by-cons on_path Unseen (replicate count Unseen) in
    let rest = none_on_path count in
    omega (arith, more, rest)

all_long : (count : ℕ) → length (replicate count Unseen) ≡ count
all_long zero = refl
all_long (suc count) = ap suc (all_long count)

depth_not_unseen : {c : ℕ} → Depth c ≡ Unseen → ⊥
depth_not_unseen h = cc

path_not_unseen : {k : ℕ} → OnPath k ≡ Unseen → ⊥
path_not_unseen h = cc

-- before the first
pub walked_none : (graph : Graph) (marks : List Mark) → marks ≡ replicate (length graph) Unseen → Walked graph marks 0
walked_none graph marks is = subst (λ ms. Walked graph ms 0) (sym is) (record {
  walking = record {
    told = record {
      length = all_long (length graph);
      tells = λ i c h. absurd (depth_not_unseen (repeated (length graph) i (Depth c) h));
    };
    marked = λ k v h. absurd (nobody k v h);
    standing = λ i k h. absurd (path_not_unseen (repeated (length graph) i (OnPath k) h));
    looked = λ k v h. absurd (nobody k v h);
    leads = λ k v w h _. absurd (nobody k v h);
    count = none_on_path (length graph);
  };
  each = λ i h. absurd (omega (arith, h));
})

-- one that has its depth, since nothing is on a path
pub has_its_depth : (graph : Graph) (marks : List Mark) (start : ℕ) → Walking graph marks [] → start < length marks
    → is_unseen (slice_get marks start) ≡ false → Ended graph marks marks start
has_its_depth graph marks start w within seen = record {
  walking = w;
  stay = λ i c h. h;
  known = by_mark (slice_get marks start) refl seen;
}
  where
    there : slice_get marks start ≡ None → ⊥
    there none = past marks start none within
      where
        past : (ms : List Mark) (i : ℕ) → slice_get ms i ≡ None → i < length ms → ⊥
        past [] i h l = omega (arith, l)
        past (m ∷ ms) zero h l = cc
        past (m ∷ ms) (suc i) h l = past ms i h (omega (arith, l))

    by_mark : (m : Option Mark) → slice_get marks start ≡ m → is_unseen m ≡ false
        → has_depth (slice_get marks start) ≡ true
    by_mark None at h = absurd (there at)
    by_mark (Some Unseen) at h = absurd (cc)
    by_mark (Some (OnPath k)) at h = absurd (nobody k (w.standing start k at).visit (w.standing start k at).there)
    by_mark (Some (Depth c)) at h = ap has_depth at

-- one more
pub walked_more : (graph : Graph) (old new : List Mark) (start : ℕ) → Walked graph old start
    → Ended graph old new start → Walked graph new (start + 1)
walked_more graph old new start before ended = record {
  walking = ended.walking;
  each = λ i h. by_place i h;
}
  where
    stays : (i : ℕ) (m : Option Mark) → slice_get old i ≡ m → has_depth m ≡ true → has_depth (slice_get new i) ≡ true
    stays i None at h = absurd (cc)
    stays i (Some Unseen) at h = absurd (cc)
    stays i (Some (OnPath k)) at h = absurd (cc)
    stays i (Some (Depth c)) at h = ap has_depth (ended.stay i c at)

    by_order : (i : ℕ) → suc i ≤ start + 1 → (i ≡ start) ⊎ (i ≡ start → ⊥) → has_depth (slice_get new i) ≡ true
    by_order i h (inl is) = ap (λ k. has_depth (slice_get new k)) is ∙ ended.known
    by_order i h (inr other) = stays i (slice_get old i) refl (before.each i (less i start h other))
      where
        less : (a b : ℕ) → suc a ≤ b + 1 → (a ≡ b → ⊥) → suc a ≤ b
        less a b h other = omega (arith, h, other)

    by_place : (i : ℕ) → suc i ≤ start + 1 → has_depth (slice_get new i) ≡ true
    by_place i h = by_order i h (cases_eq i start)

pub walked_all : (graph : Graph) (marks : List Mark) (count : ℕ) → Walked graph marks count → count ≡ length graph
    → AllMarked graph marks
walked_all graph marks count walked all = record {
  told = walked.walking.told;
  all = λ i h. walked.each i (omega (arith, h, all));
}
