-- Lists of faults, one among another.
use Rattle.std.proofs.Common.{◌≡◌, subst, List, [], ◌∷◌, ◌++◌}
use Rattle.std.specs.List.{flat_map, Contains}
use Rattle.st_rules.specs.declared.rule.Broken.{Broken}
use Rattle.st_rules.proofs.CollectLemmas.{AreAmong, among_itself, among_left, among_right, both_among}

pub is_among : (xs ys : List Broken) → xs ≡ ys → AreAmong xs ys
is_among xs ys is b h = subst (λ zs. Contains zs b) is h

pub together : (xs ys us vs : List Broken) → AreAmong xs us → AreAmong ys vs → AreAmong (xs ++ ys) (us ++ vs)
together xs ys us vs h k = both_among xs ys (us ++ vs) (among_left xs us vs h) (among_right ys us vs k)

pub flat_within : {X : Type 0} (f g : X → List Broken) → ((x : X) → AreAmong (f x) (g x)) → (xs : List X)
    → AreAmong (flat_map f xs) (flat_map g xs)
flat_within f g h [] = among_itself []
flat_within f g h (x ∷ xs) = together (f x) (flat_map f xs) (g x) (flat_map g xs) (h x) (flat_within f g h xs)
