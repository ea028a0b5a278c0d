-- Each step keeps the rule of a mark's word.
use Rattle.std.proofs.Common.{◌≡◌, ◌≢◌, ℕ, zero, suc, List, [], ◌∷◌, set, true, false, true≢false, max, refl, sym, ap}
use Rattle.std.proofs.Common.{◌∙◌, subst, ⊎_elim, arith}
use Rattle.std.specs.Prelude.{slice_index, slice_set}
use mathlib.Core.Option.{some, some-ne-none, some-injective}
use lib.ListN.{get_elem?}
use Rattle.atomic_table.specs.Table.{Me, Step, Allows, Splits, keeps, opening}
use Rattle.atomic_table.proofs.Lists.{at_set, at_snoc, set_again}
use Rattle.run_lock.specs.declared.mark.View.{View}
use Rattle.run_lock.specs.Rising.{raiser, looker, Fits, IsRising, Looked, Raised}

fits_set : (seat word now : ℕ) (views : List View) (by : ℕ) (w : View)
    → ((j : ℕ) (u : View) → j ≢ by → get_elem? views j ≡ some u → Fits seat now j u) → Fits seat now by w
    → (j : ℕ) (u : View) → get_elem? (set views by w) j ≡ some u → Fits seat now j u
fits_set seat word now views by w others mine j u e =
    ⊎_elim
    (λ (x : (j ≡ by) × (w ≡ u)). subst (λ (y : ℕ × View). Fits seat now y.0 y.1) (λ i. (sym x.0 i, x.1 i)) mine)
    (λ (x : (j ≢ by) × (get_elem? views j ≡ some u)). others j u x.0 x.1)
    (at_set views by j w u e)

off : false ≡ true → ⊥
off e = true≢false (sym e)

pub begins : IsRising (opening (0 ∷ []) [] (raiser 0))
begins = (0, 0, refl, one)
  where
    one : (by : ℕ) (v : View) → get_elem? (raiser 0 ∷ []) by ≡ some v → Fits 0 0 by v
    one zero v e = subst (Fits 0 0 0) (some-injective _ _ e) (omega arith, (λ _. (refl, refl)))
    one (suc by) v e = absurd (some-ne-none v (sym e))

pub looks : (slots id : ℕ) (me : Me (Unit {0}) View) (s : Step (Unit {0}))
    → Allows IsRising slots id me 0 (λ n. n) (Looked s me)
looks slots id me s t kept homes at below =
    let word = kept.1 in
    let mine = kept.3 id me.0 at in
    let found : slice_index t.words 0 ≡ word = ap (λ ws. slice_index ws 0) kept.2 in
    let w : View = record { raises = me.0.raises; top = slice_index t.words 0 } in (
      w,
      keeps,
      tt,
      (
        kept.0,
        word,
        ap (λ ws. slice_set ws 0 (slice_index ws 0)) kept.2,
        fits_set kept.0 word word t.views id w
            (λ j u _ e. kept.3 j u e)
            ((omega (arith, found)), (λ r. ((mine.1 r).0, found))),
      ),
      ((omega (arith, found, mine.0)), refl),
    )

pub raises : (slots id k : ℕ) (me : Me (Unit {0}) View) (s : Step (Unit {0})) → me.0.raises ≡ true → s.first ≡ k
    → Allows IsRising slots id me 0 (λ n. max n k) (Raised s me)
raises slots id k me s is first t kept homes at below =
    let word = kept.1 in
    let mine = kept.3 id me.0 at in
    let own = mine.1 is in
    let found : slice_index t.words 0 ≡ word = ap (λ ws. slice_index ws 0) kept.2 in
    let w : View = record { raises = me.0.raises; top = max me.0.top s.first } in
    let risen : max me.0.top s.first ≡ max word k = λ i. max (own.1 i) (first i) in (
      w,
      keeps,
      tt,
      (
        kept.0,
        max word k,
        ap (λ ws. slice_set ws 0 (max (slice_index ws 0) k)) kept.2,
        fits_set kept.0 word (max word k) t.views id w
            (λ j u apart e. let other = kept.3 j u e in
            (omega (arith, other.0), (λ r. absurd (apart ((other.1 r).0 ∙ sym own.0)))))
            (omega (arith, risen), (λ r. (own.0, risen))),
      ),
      refl,
    )

pub splits : (id : ℕ) (v : View) → Splits IsRising id v v (looker v.top)
splits id v s kept at = (
  kept.0,
  kept.1,
  kept.2,
  λ j u e. ⊎_elim
      (λ was. kept.3 j u (subst (λ l. get_elem? l j ≡ some u) (set_again s.views id v at) was))
      (λ (same : looker v.top ≡ u). subst (Fits kept.0 kept.1 j) same ((kept.3 id v at).0, (λ r. absurd (off r))))
      (at_snoc (set s.views id v) (looker v.top) u j e),
)
