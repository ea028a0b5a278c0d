-- Instances if no place is left.
use Rattle.std.proofs.Common.{◌≡◌, ◌∙◌, ◌≤◌, ℕ, refl, sym, ap, arith, false, List, [], ◌∷◌, length, drop}
use Rattle.std.specs.Prelude.{nat_lt}
use Rattle.std.proofs.lemmas.Bool.Decides.{nat_tests}
use Rattle.std.proofs.lemmas.List.{drop_all}
use Rattle.slot_code.specs.Codes.{CodeView}
use Rattle.config.specs.declared.places.Place.{Place}
use Rattle.config.specs.Programs.{instances_from}

nothing : (n : ℕ) (cs : List CodeView) → instances_from n [] cs ≡ []
nothing n [] = refl
nothing n (c ∷ cs) = refl

-- a code for which there is no place makes no instance
pub no_place : (n : ℕ) (ps : List Place) (c : CodeView) (cs : List CodeView) → nat_lt n (length ps) ≡ false
    → instances_from n (drop n ps) cs ≡ instances_from n (drop n ps) (c ∷ cs)
no_place n ps c cs h =
    let le : length ps ≤ n = grind (arith, nat_tests) in
    let none : drop n ps ≡ [] = drop_all n ps le in
    ap (λ xs. instances_from n xs cs) none ∙ nothing n cs
    ∙ sym (ap (λ xs. instances_from n xs (c ∷ cs)) none)
