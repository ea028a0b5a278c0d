-- Where subscripts may lead.
use Rattle.std.proofs.Common.{◌≡◌, ℕ, List, [], ◌∷◌, length, map, subst, arith, ◌<◌, ◌+◌, ◌*◌}
use Rattle.slot_trees.specs.declared.expression.Subscript as code_subscript
use Rattle.slot_trees.specs.Chains.{Subscript, subscripts_of}
use Rattle.slot_trees.specs.ExpressionViews.{subscript_view}
use Rattle.st_compile.proofs.Elements.{subscript_seen}
use Rattle.quick_trees.specs.Pieces.{IsOffset}

-- no subscript leads on
pub leads_here : (P : ℕ → Type 0) (xs : List code_subscript.Subscript) (offset : ℕ) → length xs ≡ 0 → P offset
    → (o n : ℕ) → IsOffset (subscripts_of (map subscript_view xs)) o → n ≡ offset + o → P n
leads_here P [] offset none here o n h is = let e : offset ≡ n = omega arith in subst P e here
leads_here P (x ∷ xs) offset none here o n h is = absurd (omega arith)

-- the first subscript leads to an element, and the others on from there
pub leads_on : (P : ℕ → Type 0) (xs : List code_subscript.Subscript) (x : code_subscript.Subscript)
    (rest : List code_subscript.Subscript) (offset : ℕ) → xs ≡ x ∷ rest
    → ((j r : ℕ) → j < x.count → IsOffset (subscripts_of (map subscript_view rest)) r
    → P (offset + j * x.stride + r))
    → (o n : ℕ) → IsOffset (subscripts_of (map subscript_view xs)) o → n ≡ offset + o → P n
leads_on P xs x rest offset is each o n h e =
    let Leads : Subscript → Type 0 = λ y. (j : ℕ) × ((r : ℕ) × ((j < y.count)
    × (IsOffset (subscripts_of (map subscript_view rest)) r × (o ≡ j * y.stride + r)))) in
    let all = subst Leads (subscript_seen x)
    (subst (λ ys. IsOffset (subscripts_of (map subscript_view ys)) o) is h) in
    let (j, (r, (lt, (on, at)))) = all in
    let same : offset + j * x.stride + r ≡ n = omega arith in
    subst P same (each j r lt on)
