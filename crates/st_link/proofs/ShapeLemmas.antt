-- The parts after steps in a shape.
use Rattle.std.proofs.Common.{◌≡◌, ℕ, ◌*◌, Bool, true, false, ◌&&◌, if◌then◌else◌, List, [], ◌∷◌, ◌++◌, Option, Some}
use Rattle.std.proofs.Common.{None}
use Rattle.std.proofs.Common.{option_map, option_and_then, refl, ap, ◌∙◌}
use Rattle.std.specs.Prelude.{bytes_eq}
use Rattle.st_types.specs.declared.kind.Kind.{Kind}
use Rattle.st_types.specs.declared.path.Step.{Step}
use Rattle.st_types.specs.declared.path.Step.TheVariants.{Member, Element}
use Rattle.st_meaning.specs.Scopes.{Name}
use Rattle.layout.specs.Shapes.{Shape, plain, array, parts, Parts, no_parts, part_then, size, in_bounds}
use Rattle.layout.specs.Shapes.{distance, Position, position_after, position_of, position_in, leads_on, leads_in}
use Rattle.layout.specs.Shapes.{part_named}
use Rattle.st_link.specs.Homes.{shape_at_steps}
use Rattle.st_types.proofs.OptionLemmas.{some_is, if_some, then_some}

-- an elementary part has a position
pub record HasPosition (o : Option Position) (k : Kind) : Type 0 where
  pub position : Position
  pub is : o ≡ Some position
  pub kind : position.kind ≡ k

beyond_has : (n : ℕ) (o : Option Position) (k : Kind) → HasPosition o k → HasPosition (option_map (position_after n) o) k
beyond_has n o k h = record {
  position = position_after n h.position;
  is = ap (option_map (position_after n)) h.is;
  kind = h.kind;
}

part_has : (ps : Parts) (x : Name) (xs : List Step) (sh : Shape) (k : Kind) → part_named ps x ≡ Some sh
    → HasPosition (position_of sh xs) k → HasPosition (position_in ps x xs) k
part_has no_parts x xs sh k h g = absurd (cc)
part_has (part_then y sh' ps) x xs sh k h g = by_test (bytes_eq x y) h (λ e. part_has ps x xs sh k e g)
  where
    by_test : (b : Bool) → (if b then Some sh' else part_named ps x) ≡ Some sh
        → (part_named ps x ≡ Some sh → HasPosition (position_in ps x xs) k)
        → HasPosition (if b then position_of sh' xs else option_map (position_after (size sh')) (position_in ps x xs)) k
    by_test true e ih = let q : sh' ≡ sh = some_is e in rw q g
    by_test false e ih = beyond_has (size sh') (position_in ps x xs) k (ih e)

pub leaf_has : (sh : Shape) (xs : List Step) (k : Kind) → shape_at_steps sh xs ≡ Some (plain k)
    → HasPosition (position_of sh xs) k
leaf_has (plain l) [] k h =
    let q : plain l ≡ plain k = some_is h in
    let e : l ≡ k = cc in
    record { position = record { number = 0; kind = l }; is = refl; kind = e }
leaf_has (array lower count sh) [] k h = let q : array lower count sh ≡ plain k = some_is h in absurd (cc)
leaf_has (parts w ps) [] k h = let q : parts w ps ≡ plain k = some_is h in absurd (cc)
leaf_has (plain l) (x ∷ xs) k h = absurd (cc)
leaf_has (array lower count sh) (Member x ∷ xs) k h = absurd (cc)
leaf_has (array lower count sh) (Element z ∷ xs) k h =
    let i = if_some (in_bounds lower count z) (shape_at_steps sh xs) (plain k) h in
    let t = i.0 in
    rw t (beyond_has (distance lower z * size sh) (position_of sh xs) k (leaf_has sh xs k i.1))
leaf_has (parts w ps) (Element z ∷ xs) k h = absurd (cc)
leaf_has (parts w ps) (Member x ∷ xs) k h =
    let i = then_some (λ sh. shape_at_steps sh xs) (part_named ps x) (plain k) h in
    part_has ps x xs i.0 k i.1 (leaf_has i.0 xs k i.2)

-- steps lead on after a part as they do from the whole
part_leads : (ps : Parts) (x : Name) (xs : List Step) (sh : Shape) → part_named ps x ≡ Some sh
    → leads_in ps x xs ≡ leads_on sh xs
part_leads no_parts x xs sh h = absurd (cc)
part_leads (part_then y sh' ps) x xs sh h = by_test (bytes_eq x y) h (λ e. part_leads ps x xs sh e)
  where
    by_test : (b : Bool) → (if b then Some sh' else part_named ps x) ≡ Some sh
        → (part_named ps x ≡ Some sh → leads_in ps x xs ≡ leads_on sh xs)
        → (if b then leads_on sh' xs else leads_in ps x xs) ≡ leads_on sh xs
    by_test true e ih = let q : sh' ≡ sh = some_is e in ap (λ s. leads_on s xs) q
    by_test false e ih = ih e

pub leads_behind : (sh sub : Shape) (xs ys : List Step) → shape_at_steps sh xs ≡ Some sub
    → leads_on sh (xs ++ ys) ≡ leads_on sub ys
leads_behind sh sub [] ys h = let q : sh ≡ sub = some_is h in ap (λ s. leads_on s ys) q
leads_behind (plain k) sub (x ∷ xs) ys h = absurd (cc)
leads_behind (array lower count sh) sub (Member x ∷ xs) ys h = absurd (cc)
leads_behind (array lower count sh) sub (Element z ∷ xs) ys h =
    let i = if_some (in_bounds lower count z) (shape_at_steps sh xs) sub h in
    ap (λ b. b && leads_on sh (xs ++ ys)) i.0 ∙ leads_behind sh sub xs ys i.1
leads_behind (parts w ps) sub (Element z ∷ xs) ys h = absurd (cc)
leads_behind (parts w ps) sub (Member x ∷ xs) ys h =
    let i = then_some (λ sh. shape_at_steps sh xs) (part_named ps x) sub h in
    part_leads ps x (xs ++ ys) i.0 i.1 ∙ leads_behind i.0 sub xs ys i.2

-- one step further
pub behind_step : (sh sub inner : Shape) (xs : List Step) (x : Step) → shape_at_steps sh xs ≡ Some sub
    → shape_at_steps sub (x ∷ []) ≡ Some inner → shape_at_steps sh (xs ++ x ∷ []) ≡ Some inner
behind_step sh sub inner [] x h g =
    let q : sh ≡ sub = some_is h in ap (λ s. shape_at_steps s (x ∷ [])) q ∙ g
behind_step (plain k) sub inner (y ∷ xs) x h g = absurd (cc)
behind_step (array lower count sh) sub inner (Member y ∷ xs) x h g = absurd (cc)
behind_step (array lower count sh) sub inner (Element z ∷ xs) x h g =
    let i = if_some (in_bounds lower count z) (shape_at_steps sh xs) sub h in
    let t = i.0 in
    rw t (behind_step sh sub inner xs x i.1 g)
behind_step (parts w ps) sub inner (Element z ∷ xs) x h g = absurd (cc)
behind_step (parts w ps) sub inner (Member y ∷ xs) x h g =
    let i = then_some (λ sh. shape_at_steps sh xs) (part_named ps y) sub h in
    ap (option_and_then (λ sh. shape_at_steps sh (xs ++ x ∷ []))) i.1 ∙ behind_step i.0 sub inner xs x i.2 g
