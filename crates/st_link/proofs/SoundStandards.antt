-- Standard functions on arguments that fit.
use Rattle.std.proofs.Common.{◌≡◌, refl, sym, subst, ◌∙◌, ℕ, Bool, true, false, if◌then◌else◌, List}
use Rattle.std.proofs.Common.{[], ◌∷◌, Option, Some, None, Result, Ok, Err}
use Rattle.std.specs.Prelude.{ℤ, pos, negsuc, map, is_some}
use Rattle.std.specs.List.{list_all}
use Rattle.std.proofs.lemmas.Bool.{and_parts}
use Rattle.st_types.specs.declared.kind.Kind.{Kind}
use Rattle.st_types.specs.declared.kind.Kind.TheVariants.{Lint}
use Rattle.st_types.specs.declared.fault.Fault.{Fault}
use Rattle.st_types.specs.declared.fault.Fault.TheVariants.{Conversion}
use Rattle.st_types.specs.Kinds.{holds, same_kind}
use Rattle.st_types.proofs.KindLemmas.{same_kind_is}
use Rattle.st_types.specs.Values.{Datum, in_range}
use Rattle.st_types.specs.Expressions.{Expr, Exprs, no_exprs, expr_then}
use Rattle.st_meaning.specs.Failures.{failing, ill_typed}
use Rattle.st_meaning.specs.Operators.{or_kind}
use Rattle.st_meaning.specs.StandardFunctions.{Standard, ABS, MIN, MAX, LIMIT, SEL, SHL, SHR, ROL, ROR, CONVERT}
use Rattle.st_meaning.specs.StandardFunctions.{bits_up, bits_down, bits_turned, turned_down}
use Rattle.st_meaning.specs.StandardFunctions.{lesser, greater, shifted, conversion, standard_value}
use Rattle.st_meaning.specs.Resolution.{common_kind, standard_kind}
use Rattle.st_rules.specs.declared.demand.Sorts.{Sorts}
use Rattle.st_rules.specs.declared.demand.Demand.{Demand}
use Rattle.st_rules.specs.declared.demand.Demand.TheVariants.{Asked as asked}
use Rattle.st_rules.specs.declared.demand.Purpose.{Purpose}
use Rattle.st_rules.specs.declared.demand.Purpose.TheVariants.{Argument}
use Rattle.st_rules.specs.declared.demand.Sorts.TheVariants.{Any as any}
use Rattle.st_rules.specs.declared.typings.Typing.{Typing}
use Rattle.st_rules.specs.declared.typings.Typing.TheVariants.{Untyped as untyped, Elementary as elementary}
use Rattle.st_rules.specs.declared.typings.Typing.TheVariants.{Composite as composite, Nothing as nothing}
use Rattle.st_rules.specs.Environments.{Environment}
use Rattle.st_rules.specs.Demands.{expected_of, demands_of_standard}
use Rattle.st_rules.specs.Typings.{kind_of, kinds_of, typing_of, typings_of, settled, fits, allows}
use Rattle.st_link.specs.Soundness.{IsOf, AreOf}
use Rattle.st_link.proofs.Alikes.{Succeeds, Gives, failed}
use Rattle.st_link.proofs.OperatorLemmas.{is_of_kind, in_range_gives, same_kinds}

-- An argument's value, with the type that its place gives it.
pub record FitsPlace (env : Environment) (d : Demand) (e : Expr) (v : Datum) : Type 0 where
  pub kind : Kind
  pub typed : settled (expected_of d) (typing_of env e) ≡ elementary kind
  pub right : allows d (elementary kind) ≡ true
  pub is_of : IsOf kind v

pub data FitPlaces (env : Environment) : List Demand → Exprs → List Datum → Type 0 where
  none : FitPlaces env [] no_exprs []
  one_more : {d : Demand} {ds : List Demand} {e : Expr} {es : Exprs} {v : Datum} {vs : List Datum}
      → FitsPlace env d e v → FitPlaces env ds es vs → FitPlaces env (d ∷ ds) (expr_then e es) (v ∷ vs)

pub elementary_same : (k l : Kind) → elementary k ≡ elementary l → k ≡ l
elementary_same k l h = cc

some_same : (k l : Kind) → Some k ≡ Some l → k ≡ l
some_same k l h = cc

-- an argument without an expected type has the type that the function takes from it
own_typed : (t : Typing) (k l : Kind) → settled None t ≡ elementary k → or_kind (kind_of t) (Some Lint) ≡ Some l → k ≡ l
own_typed untyped k l h i = sym (elementary_same Lint k h) ∙ some_same Lint l i
own_typed (elementary m) k l h i = sym (elementary_same m k h) ∙ some_same m l i
own_typed composite k l h i = absurd (cc)
own_typed nothing k l h i = absurd (cc)

-- an operand of the common type
common_typed : (c : Option Kind) (t : Typing) (ss : Sorts) (k l : Kind) → settled c t ≡ elementary k
    → fits c ss (elementary k) ≡ true → or_kind c (Some Lint) ≡ Some l → (c ≡ None → kind_of t ≡ None) → k ≡ l
common_typed (Some c) t ss k l h m i u =
    same_kind_is k c (and_parts (same_kind k c) _ m).0 ∙ some_same c l i
common_typed None untyped ss k l h m i u = sym (elementary_same Lint k h) ∙ some_same Lint l i
common_typed None (elementary x) ss k l h m i u = absurd (let e = u refl in cc)
common_typed None composite ss k l h m i u = absurd (cc)
common_typed None nothing ss k l h m i u = absurd (cc)

-- if there is no common type, no operand has one
first_none : (a b : Option Kind) → or_kind a b ≡ None → a ≡ None
first_none None b h = refl
first_none (Some k) b h = absurd (cc)

second_none : (a b : Option Kind) → or_kind a b ≡ None → b ≡ None
second_none None b h = h
second_none (Some k) b h = absurd (cc)

either_is : (k : Kind) (b : Bool) (x y : Datum) → IsOf k x → IsOf k y → IsOf k (if b then x else y)
either_is k true x y p q = p
either_is k false x y p q = q

shifted_gives : (move : ℕ → ℕ → ℕ → ℕ) (x : Datum) (z : ℤ) → Gives (IsOf x.kind) (shifted move x z)
shifted_gives move x (pos n) = in_range_gives x.kind _
shifted_gives move x (negsuc n) = tt

converted_or_not : (l : Kind) (z : ℤ) (b : Bool) → holds l z ≡ b
    → Gives (IsOf l) (if b then Ok (record { kind = l; number = z }) else Err Conversion)
converted_or_not l z true h = record { kind = refl; held = h }
converted_or_not l z false h = tt

of_kind_gives : (k l : Kind) (x : Datum) (r : Result Datum Fault) → x.kind ≡ k → k ≡ l → Gives (IsOf x.kind) r
    → Succeeds (IsOf l) (failing r)
of_kind_gives k l x r e f h = failed {A = Datum} (IsOf l) r (subst (λ m. Gives (IsOf m) r) (e ∙ f) h)

converted : (k l : Kind) (x : Datum) (b : Bool) → b ≡ true
    → Succeeds (IsOf l) (if b then failing (conversion l x.number) else Err ill_typed)
converted k l x true h =
    failed {A = Datum} (IsOf l) (conversion l x.number) (converted_or_not l x.number (holds l x.number) refl)
converted k l x false h = absurd (cc)

-- one operand, without an expected type
abbrev lone : Environment → Sorts → Purpose → Expr → Datum → Type 0
lone env ss p e v = FitsPlace env (asked None ss p) e v

lone_kind : (env : Environment) (ss : Sorts) (p : Purpose) (e : Expr) (v : Datum) (l : Kind) → lone env ss p e v
    → or_kind (kind_of (typing_of env e)) (Some Lint) ≡ Some l → IsOf l v
lone_kind env ss p e v l h i = is_of_kind h.kind l v (own_typed (typing_of env e) h.kind l h.typed i) h.is_of

shift_succeeds : (env : Environment) (move : ℕ → ℕ → ℕ → ℕ) (ss : Sorts) (p : Purpose) (e : Expr) (v n : Datum)
    (l : Kind)
    → lone env ss p e v → or_kind (kind_of (typing_of env e)) (Some Lint) ≡ Some l
    → Succeeds (IsOf l) (failing (shifted move v n.number))
shift_succeeds env move ss p e v n l h i =
    let is = lone_kind env ss p e v l h i in
    of_kind_gives l l v (shifted move v n.number) is.kind refl (shifted_gives move v n.number)

operand_is : (env : Environment) (c : Option Kind) (ss : Sorts) (p : Purpose) (e : Expr) (v : Datum) (l : Kind)
    → FitsPlace env (asked c ss p) e v → or_kind c (Some Lint) ≡ Some l → (c ≡ None → kind_of (typing_of env e) ≡ None)
    → IsOf l v
operand_is env c ss p e v l h i u =
    is_of_kind h.kind l v (common_typed c (typing_of env e) ss h.kind l h.typed h.right i u) h.is_of

-- operands of one type, of which the first two or all three exist
abbrev kind_in : Environment → Expr → Option Kind
kind_in env e = kind_of (typing_of env e)

lesser_is : (env : Environment) (ss : Sorts) (p : Purpose) (a b : Expr) (x y : Datum) (l : Kind) (t : Bool)
    → FitsPlace env (asked (or_kind (kind_in env a) (kind_in env b)) ss p) a x
    → FitsPlace env (asked (or_kind (kind_in env a) (kind_in env b)) ss p) b y
    → or_kind (or_kind (kind_in env a) (kind_in env b)) (Some Lint) ≡ Some l → IsOf l (if t then x else y)
lesser_is env ss p a b x y l t f g i =
    let c = or_kind (kind_in env a) (kind_in env b) in
    either_is l t x y (operand_is env c ss p a x l f i (first_none (kind_in env a) (kind_in env b)))
    (operand_is env c ss p b y l g i (second_none (kind_in env a) (kind_in env b)))

selected_is : (env : Environment) (ss : Sorts) (p : Purpose) (a b : Expr) (x y : Datum) (l : Kind) (t : Bool)
    → FitsPlace env (asked (or_kind (kind_in env a) (kind_in env b)) ss p) a x
    → FitsPlace env (asked (or_kind (kind_in env a) (kind_in env b)) ss p) b y
    → or_kind (or_kind (kind_in env a) (kind_in env b)) (Some Lint) ≡ Some l → IsOf l (if t then y else x)
selected_is env ss p a b x y l t f g i =
    let c = or_kind (kind_in env a) (kind_in env b) in
    either_is l t y x (operand_is env c ss p b y l g i (second_none (kind_in env a) (kind_in env b)))
    (operand_is env c ss p a x l f i (first_none (kind_in env a) (kind_in env b)))

limited_is : (env : Environment) (ss : Sorts) (p : Purpose) (m a b : Expr) (x y z : Datum) (l : Kind)
    → FitsPlace env (asked (or_kind (kind_in env m) (or_kind (kind_in env a) (kind_in env b))) ss p) m x
    → FitsPlace env (asked (or_kind (kind_in env m) (or_kind (kind_in env a) (kind_in env b))) ss p) a y
    → FitsPlace env (asked (or_kind (kind_in env m) (or_kind (kind_in env a) (kind_in env b))) ss p) b z
    → or_kind (or_kind (kind_in env m) (or_kind (kind_in env a) (kind_in env b))) (Some Lint) ≡ Some l
    → IsOf l (lesser (greater y x) z)
limited_is env ss p m a b x y z l f g h i =
    let j = kind_in env m in
    let k = kind_in env a in
    let n = kind_in env b in
    let c = or_kind j (or_kind k n) in
    let one = operand_is env c ss p m x l f i (first_none j (or_kind k n)) in
    let two = operand_is env c ss p a y l g i (λ e. first_none k n (second_none j (or_kind k n) e)) in
    let three = operand_is env c ss p b z l h i (λ e. second_none k n (second_none j (or_kind k n) e)) in
    either_is l _ (greater y x) z (either_is l _ y x two one) three

absolute_succeeds : (env : Environment) (ss : Sorts) (p : Purpose) (e : Expr) (v : Datum) (l : Kind) → lone env ss p e v
    → or_kind (kind_in env e) (Some Lint) ≡ Some l → Succeeds (IsOf l) (standard_value ABS (v ∷ []))
absolute_succeeds env ss p e v l f i =
    let is = lone_kind env ss p e v l f i in
    of_kind_gives l l v (in_range v.kind _) is.kind refl (in_range_gives v.kind _)

conversion_succeeds : (env : Environment) (k m l : Kind) (p : Purpose) (e : Expr) (v : Datum)
    → FitsPlace env (asked (Some k) any p) e v → Some m ≡ Some l
    → Succeeds (IsOf l) (standard_value (CONVERT k m) (v ∷ []))
conversion_succeeds env k m l p e v f i =
    let same = (and_parts (same_kind f.kind k) _ f.right).0 in
    let kind : v.kind ≡ k = f.is_of.kind ∙ same_kind_is f.kind k same in
    subst (λ j. Succeeds (IsOf j) (standard_value (CONVERT k m) (v ∷ []))) (some_same m l i)
    (converted k m v (same_kind v.kind k) (same_kinds v.kind k kind))

-- The value of a standard function on arguments that fit is one of its type.
pub standard_succeeds : (env : Environment) (at : ℕ) (std : Standard) {es : Exprs} {vs : List Datum} (l : Kind)
    → FitPlaces env (demands_of_standard at std (common_kind std (kinds_of (typings_of env es)))) es vs
    → standard_kind std (kinds_of (typings_of env es)) ≡ Some l → Succeeds (IsOf l) (standard_value std vs)
standard_succeeds env at ABS l (one_more f none) i = absolute_succeeds env _ (Argument at) _ _ l f i
standard_succeeds env at MIN l (one_more f (one_more g none)) i = lesser_is env _ (Argument at) _ _ _ _ l _ f g i
standard_succeeds env at MAX l (one_more f (one_more g none)) i = lesser_is env _ (Argument at) _ _ _ _ l _ f g i
standard_succeeds env at LIMIT l (one_more f (one_more g (one_more h none))) i =
    limited_is env _ (Argument at) _ _ _ _ _ _ l f g h i
standard_succeeds env at SEL l (one_more f (one_more g (one_more h none))) i =
    selected_is env _ (Argument at) _ _ _ _ l _ g h i
standard_succeeds env at SHL l (one_more f (one_more {v = n} g none)) i =
    shift_succeeds env bits_up _ (Argument at) _ _ n l f i
standard_succeeds env at SHR l (one_more f (one_more {v = n} g none)) i =
    shift_succeeds env bits_down _ (Argument at) _ _ n l f i
standard_succeeds env at ROL l (one_more f (one_more {v = n} g none)) i =
    shift_succeeds env bits_turned _ (Argument at) _ _ n l f i
standard_succeeds env at ROR l (one_more f (one_more {v = n} g none)) i =
    shift_succeeds env turned_down _ (Argument at) _ _ n l f i
standard_succeeds env at (CONVERT k m) l (one_more f none) i = conversion_succeeds env k m l (Argument at) _ _ f i

-- arguments of a function of the text
pub inputs_fit : (env : Environment) (at : ℕ) (inputs : List (Option Kind)) {es : Exprs} {vs : List Datum}
    → list_all is_some inputs ≡ true → FitPlaces env (map (λ i. asked i any (Argument at)) inputs) es vs
    → AreOf inputs vs
inputs_fit env at [] s none = tt
inputs_fit env at (Some k ∷ ks) s (one_more f h) = (
  is_of_kind f.kind k _ (same_kind_is f.kind k (and_parts (same_kind f.kind k) _ f.right).0) f.is_of,
  inputs_fit env at ks s h,
)
inputs_fit env at (None ∷ ks) s (one_more f h) = absurd (cc)
