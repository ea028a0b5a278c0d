-- Types that are the same, a level at a time.
use Rattle.std.proofs.Common.{◌≡◌, ◌<◌, ◌-◌, ℕ, zero, suc, refl, sym, ap, ◌∙◌, arith, Bool, true, false, ◌&&◌}
use Rattle.std.proofs.Common.{Option, Some, None}
use Rattle.st_types.specs.declared.data_type.ArrayType.{ArrayType}
use Rattle.st_types.specs.declared.data_type.SimpleType.{SimpleType}
use Rattle.st_types.specs.declared.data_type.VariableType.{VariableType}
use Rattle.st_types.specs.declared.data_type.VariableType.TheVariants as types
use Rattle.st_types.specs.Declarations.{TypeDefinition, array, structure, enumeration}
use Rattle.st_meaning.specs.NameTypes.{Declared, definition_of}
use Rattle.st_rules.specs.ConfigurationRules.{same_bounds, same_over, same_within}
use Rattle.config.specs.SameTypes.{array_in, same_plain}
use Rattle.std.proofs.lemmas.Option.{same_Some}

module _ (same : SimpleType → SimpleType → Bool) where
  over_arrays : (d e : Option TypeDefinition) (t u : VariableType) (a b : ArrayType) → array_in d ≡ Some a
      → array_in e ≡ Some b → same_over same d e t u ≡ (same_bounds a b && same a.element b.element)
  over_arrays (Some (array x)) (Some (array y)) t u a b f g =
      let p = same_Some x a f in let q = same_Some y b g in rw (p, q) refl
  over_arrays (Some (array x)) (Some (structure fields)) t u a b f g = absurd (cc)
  over_arrays (Some (array x)) (Some (enumeration names)) t u a b f g = absurd (cc)
  over_arrays (Some (array x)) None t u a b f g = absurd (cc)
  over_arrays (Some (structure fields)) e t u a b f g = absurd (cc)
  over_arrays (Some (enumeration names)) e t u a b f g = absurd (cc)
  over_arrays None e t u a b f g = absurd (cc)

  plain : (t u : VariableType) → same_over same None None t u ≡ same_plain t u
  plain (types.Simple t) (types.Simple u) = refl
  plain (types.Simple t) (types.Array b) = refl
  plain (types.Array a) (types.Simple u) = refl
  plain (types.Array a) (types.Array b) = refl

  over_first : (d e : Option TypeDefinition) (t u : VariableType) → array_in d ≡ None
      → same_over same d e t u ≡ same_over same None None t u
  over_first (Some (array x)) e t u f = absurd (cc)
  over_first (Some (structure fields)) e t u f = refl
  over_first (Some (enumeration names)) e t u f = refl
  over_first None e t u f = refl

  over_second : (d e : Option TypeDefinition) (t u : VariableType) → array_in e ≡ None
      → same_over same d e t u ≡ same_over same None None t u
  over_second (Some (array x)) (Some (array y)) t u f = absurd (cc)
  over_second (Some (array x)) (Some (structure fields)) t u f = refl
  over_second (Some (array x)) (Some (enumeration names)) t u f = refl
  over_second (Some (array x)) None t u f = refl
  over_second (Some (structure fields)) e t u f = refl
  over_second (Some (enumeration names)) e t u f = refl
  over_second None e t u f = refl

module _ (text : Declared) (t u : VariableType) where
  pub same_none : (n : ℕ) → n ≡ 0 → same_within text n t u ≡ false
  unfolding same_within
  same_none zero h = refl
  same_none (suc n) h = absurd (omega arith)

  pub same_arrays : (n : ℕ) (a b : ArrayType) → 0 < n → array_in (definition_of text t) ≡ Some a
      → array_in (definition_of text u) ≡ Some b → same_bounds a b ≡ true
      → same_within text n t u ≡ same_within text (n - 1) (types.Simple a.element) (types.Simple b.element)
  unfolding same_within
  same_arrays zero a b lt f g s = absurd (omega arith)
  same_arrays (suc n) a b lt f g s =
      let e : suc n - 1 ≡ n = omega arith in
      over_arrays (λ x y. same_within text n (types.Simple x) (types.Simple y)) (definition_of text t)
      (definition_of text u) t u a b f g
      ∙ ap (λ v. v && same_within text n (types.Simple a.element) (types.Simple b.element)) s
      ∙ ap (λ m. same_within text m (types.Simple a.element) (types.Simple b.element)) (sym e)

  pub other_bounds : (n : ℕ) (a b : ArrayType) → 0 < n → array_in (definition_of text t) ≡ Some a
      → array_in (definition_of text u) ≡ Some b → same_bounds a b ≡ false → same_within text n t u ≡ false
  unfolding same_within
  other_bounds zero a b lt f g s = absurd (omega arith)
  other_bounds (suc n) a b lt f g s =
      over_arrays (λ x y. same_within text n (types.Simple x) (types.Simple y)) (definition_of text t)
      (definition_of text u) t u a b f g
      ∙ ap (λ v. v && same_within text n (types.Simple a.element) (types.Simple b.element)) s

  pub same_first : (n : ℕ) → 0 < n → array_in (definition_of text t) ≡ None → same_within text n t u ≡ same_plain t u
  unfolding same_within
  same_first zero lt f = absurd (omega arith)
  same_first (suc n) lt f =
      over_first (λ x y. same_within text n (types.Simple x) (types.Simple y)) (definition_of text t)
      (definition_of text u) t u f
      ∙ plain (λ x y. same_within text n (types.Simple x) (types.Simple y)) t u

  pub same_second : (n : ℕ) → 0 < n → array_in (definition_of text u) ≡ None → same_within text n t u ≡ same_plain t u
  unfolding same_within
  same_second zero lt f = absurd (omega arith)
  same_second (suc n) lt f =
      over_second (λ x y. same_within text n (types.Simple x) (types.Simple y)) (definition_of text t)
      (definition_of text u) t u f
      ∙ plain (λ x y. same_within text n (types.Simple x) (types.Simple y)) t u
