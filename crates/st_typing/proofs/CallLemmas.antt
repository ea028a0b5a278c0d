-- Calls: their typings, and the faults in their arguments.
use Rattle.std.proofs.Common.{◌≡◌, ◌∙◌, refl, sym, ap, subst, ℕ, zero, suc, ◌+◌, ◌<◌, ◌≤◌, ◌==◌, List, [], ◌∷◌, ◌++◌}
use Rattle.std.proofs.Common.{map, drop, length, get_or, Option, Some, None, arith, add-one}
use Rattle.std.proofs.lemmas.List.{drop_more, drop_all, drop-map}
use Rattle.std.proofs.lemmas.List.Concat.{flat_map-append}
use Rattle.st_types.specs.declared.identifier.Identifier.{Identifier}
use Rattle.st_types.specs.declared.kind.Kind.{Kind}
use Rattle.st_types.specs.declared.expression.Expr as code_expr
use Rattle.st_types.specs.Expressions.{Expr, call, Exprs, no_exprs, expr_then, exprs_of}
use Rattle.st_types.specs.ExpressionViews.{expr_view}
use Rattle.st_meaning.specs.Resolution.{common_kind}
use Rattle.st_meaning.specs.StandardFunctions.{Standard, ABS, MIN, MAX, LIMIT, SEL, SHL, SHR, ROL, ROR, CONVERT}
use Rattle.st_rules.specs.declared.rule.Broken.{Broken}
use Rattle.st_rules.specs.declared.broken_rules.BrokenRules.{BrokenRules}
use Rattle.st_rules.specs.declared.demand.Purpose.TheVariants.{Argument}
use Rattle.st_rules.specs.declared.demand.Sorts.TheVariants.{Any}
use Rattle.st_rules.specs.declared.demand.Demand.{Demand}
use Rattle.st_rules.specs.declared.demand.Demand.TheVariants.{Operand as operand, Asked}
use Rattle.st_rules.specs.declared.typings.Typing.{Typing}
use Rattle.st_rules.specs.declared.reason.Reason.TheVariants.{ArgumentCount}
use Rattle.st_rules.specs.Collecting.{Adds, Covers, Collects}
use Rattle.st_rules.specs.Faults.{breaking, unless}
use Rattle.st_rules.specs.Demands.{expected_of, demands_of_standard}
use Rattle.st_rules.specs.Environments.{Environment, Callee, callee_of}
use Rattle.st_rules.specs.ExpressionRules.{wrong_node, wrong_call, wrong_expression, wrong_within, count_of}
use Rattle.st_rules.specs.Nodes.{first_demand, other_demands, demands_of, nodes_of, nodes_of_all}
use Rattle.st_rules.specs.Typings.{kind_of, kinds_of, typings_of, typing_of, typing_of_callee}
use Rattle.st_rules.proofs.CollectLemmas.{AreAmong, among_itself, among_then, among_left, among_right, both_among}
use Rattle.st_rules.proofs.CollectLemmas.{none_among, collects_both, collects_nothing, collects_same, collects_is}
use Rattle.st_rules.proofs.CollectLemmas.{collects_swapped, Searches, search_goes_on}
use Rattle.st_typing.specs.Answers.{Types, if_typed, wrong_by_place}
use Rattle.st_typing.specs.Arguments.{demands_of_inputs, wrong_number_of, wrong_arguments, wrong_in_call, demands_on}
use Rattle.st_typing.specs.Arguments.{wrong_in_standard, wrong_by_places, wrong_standard}
use Rattle.st_typing.proofs.TypingLemmas.{types_from, typed_placed, by_place_placed, placed_either}

-- one argument and the others
pub arguments_more : (env : Environment) (ds : List Demand) (e : Expr) (es : Exprs)
    → wrong_arguments env ds (expr_then e es)
    ≡ wrong_expression env (first_demand ds) e ++ wrong_arguments env (other_demands ds) es
arguments_more env ds e es =
    flat_map-append (wrong_node env) (nodes_of env (first_demand ds) e) (nodes_of_all env (other_demands ds) es)

-- a call, by what its function is
pub call_types : (env : Environment) (f : Identifier) (es : Exprs) (o : Option Callee) (t : Typing)
    (old new : BrokenRules) → callee_of env f.name ≡ o → t ≡ typing_of_callee o (kinds_of (typings_of env es))
    → Collects (wrong_call f.place o (demands_of env f.place o es) es
    ++ wrong_arguments env (demands_of env f.place o es) es) old new
    → Types env (call f es) t old new
call_types env f es o t old new is gives h =
    types_from env (call f es) t
    (wrong_call f.place o (demands_of env f.place o es) es ++ wrong_arguments env (demands_of env f.place o es) es) old new
    (gives ∙ ap (λ (p : Option Callee). typing_of_callee p (kinds_of (typings_of env es))) (sym is)) refl
    (λ k. ap (λ (p : Option Callee). wrong_call f.place p (demands_of env f.place p es) es
    ++ wrong_arguments env (demands_of env f.place p es) es) (sym is)) h

-- the faults that are known with the typings of arguments
abbrev pub typed_faults : Environment → List Demand → Exprs → List Broken
typed_faults env ds no_exprs = []
typed_faults env ds (expr_then e es) =
    if_typed env (expected_of (first_demand ds)) e ++ typed_faults env (other_demands ds) es

typed_all : (env : Environment) (ds : List Demand) (es : Exprs)
    → AreAmong (typed_faults env ds es) (wrong_arguments env ds es)
typed_all env ds no_exprs = none_among []
typed_all env ds (expr_then e es) =
    let w = wrong_expression env (first_demand ds) e in
    let rest = wrong_arguments env (other_demands ds) es in
    subst (λ ys. AreAmong (typed_faults env ds (expr_then e es)) ys) (sym (arguments_more env ds e es))
    (both_among _ (typed_faults env (other_demands ds) es) (w ++ rest)
    (among_left _ w rest (typed_placed env (first_demand ds) e))
    (among_right (typed_faults env (other_demands ds) es) w rest (typed_all env (other_demands ds) es)))

by_places_all : (env : Environment) (ds : List Demand) (es : Exprs)
    → AreAmong (wrong_by_places env ds es) (wrong_arguments env ds es)
by_places_all env ds no_exprs = none_among []
by_places_all env ds (expr_then e es) =
    let w = wrong_expression env (first_demand ds) e in
    let rest = wrong_arguments env (other_demands ds) es in
    subst (λ ys. AreAmong (wrong_by_places env ds (expr_then e es)) ys) (sym (arguments_more env ds e es))
    (both_among _ (wrong_by_places env (other_demands ds) es) (w ++ rest)
    (among_left _ w rest (by_place_placed env (first_demand ds) e))
    (among_right (wrong_by_places env (other_demands ds) es) w rest (by_places_all env (other_demands ds) es)))

all_either : (env : Environment) (ds : List Demand) (es : Exprs) (zs : List Broken)
    → AreAmong (typed_faults env ds es) zs → AreAmong (wrong_by_places env ds es) zs
    → AreAmong (wrong_arguments env ds es) zs
all_either env ds no_exprs zs h i = none_among zs
all_either env ds (expr_then e es) zs h i =
    let own = if_typed env (expected_of (first_demand ds)) e in
    let others = typed_faults env (other_demands ds) es in
    let place = wrong_by_place env (first_demand ds) e in
    let places = wrong_by_places env (other_demands ds) es in
    subst (λ ys. AreAmong ys zs) (sym (arguments_more env ds e es))
    (both_among (wrong_expression env (first_demand ds) e) (wrong_arguments env (other_demands ds) es) zs
    (placed_either env (first_demand ds) e zs
    (among_then own (own ++ others) zs (among_left own own others (among_itself own)) h)
    (among_then place (place ++ places) zs (among_left place place places (among_itself place)) i))
    (all_either env (other_demands ds) es zs
    (among_then others (own ++ others) zs (among_right others own others (among_itself others)) h)
    (among_then places (place ++ places) zs (among_right places place places (among_itself places)) i)))

-- a standard function with arguments that were typed before
pub standard_collects : (env : Environment) (at : ℕ) (s : Standard) (es : Exprs) (start mid new : BrokenRules)
    → Collects (typed_faults env (demands_on env at s es) es) start mid → Collects (wrong_standard env at s es) mid new
    → Collects (wrong_in_standard env at s es) start new
standard_collects env at s es start mid new h i =
    let ds = demands_on env at s es in
    let t = typed_faults env ds es in
    let p = wrong_by_places env ds es in
    let n = wrong_number_of at ds es in
    let w = wrong_arguments env ds es in
    collects_same (t ++ (p ++ n)) (n ++ w) start new
    (both_among t (p ++ n) (n ++ w) (among_right t n w (typed_all env ds es))
    (both_among p n (n ++ w) (among_right p n w (by_places_all env ds es)) (among_left n n w (among_itself n))))
    (both_among n w (t ++ (p ++ n)) (among_right n t (p ++ n) (among_right n p n (among_itself n)))
    (all_either env ds es (t ++ (p ++ n)) (among_left t t (p ++ n) (among_itself t))
    (among_right p t (p ++ n) (among_left p p n (among_itself p)))))
    (collects_both t (p ++ n) start mid new h i)

pub one_typed : (env : Environment) (ds : List Demand) (x : Expr) (t : Typing) (start new : BrokenRules)
    → Types env x t start new → Collects (typed_faults env ds (expr_then x no_exprs)) start new
one_typed env ds x t start new h =
    collects_both _ [] start new new (h.collects (expected_of (first_demand ds))) (collects_nothing new)

pub more_typed : (env : Environment) (ds : List Demand) (x : Expr) (es : Exprs) (t : Typing) (start mid new : BrokenRules)
    → Types env x t start mid → Collects (typed_faults env (other_demands ds) es) mid new
    → Collects (typed_faults env ds (expr_then x es)) start new
more_typed env ds x es t start mid new h i =
    collects_both _ (typed_faults env (other_demands ds) es) start mid new
    (h.collects (expected_of (first_demand ds))) i

-- the common type of the operands, by the first three of them
pub common_of_one : (f : Standard) (k : Option Kind) → k ≡ common_kind f (k ∷ [])
common_of_one ABS k = refl
common_of_one MIN k = refl
common_of_one MAX k = refl
common_of_one LIMIT k = refl
common_of_one SEL k = refl
common_of_one SHL k = refl
common_of_one SHR k = refl
common_of_one ROL k = refl
common_of_one ROR k = refl
common_of_one (CONVERT l m) k = refl

pub common_of_many : (f : Standard) (a b c d : Option Kind) (ks : List (Option Kind))
    → a ≡ common_kind f (a ∷ b ∷ c ∷ d ∷ ks)
common_of_many ABS a b c d ks = refl
common_of_many MIN a b c d ks = refl
common_of_many MAX a b c d ks = refl
common_of_many LIMIT a b c d ks = refl
common_of_many SEL a b c d ks = refl
common_of_many SHL a b c d ks = refl
common_of_many SHR a b c d ks = refl
common_of_many ROL a b c d ks = refl
common_of_many ROR a b c d ks = refl
common_of_many (CONVERT l m) a b c d ks = refl

pub common_of_none : (f : Standard) → None ≡ common_kind f []
common_of_none ABS = refl
common_of_none MIN = refl
common_of_none MAX = refl
common_of_none LIMIT = refl
common_of_none SEL = refl
common_of_none SHL = refl
common_of_none SHR = refl
common_of_none ROL = refl
common_of_none ROR = refl
common_of_none (CONVERT l m) = refl

-- arguments as slices of the code
pub count_seen : (xs : List code_expr.Expr) → count_of (exprs_of (map expr_view xs)) ≡ length xs
count_seen [] = refl
count_seen (x ∷ xs) = omega (arith, count_seen xs)

pub inputs_counted : (at : ℕ) (ks : List (Option Kind)) → length (demands_of_inputs at ks) ≡ length ks
inputs_counted at [] = refl
inputs_counted at (k ∷ ks) = ap suc (inputs_counted at ks)

pub input_asked : (at : ℕ) (ks : List (Option Kind)) (i : ℕ) (k : Option Kind) → i < length ks → k ≡ get_or ks i k
    → Asked k Any (Argument at) ≡ first_demand (drop i (demands_of_inputs at ks))
input_asked at ks i k h is =
    ap (λ l. Asked l Any (Argument at)) is
    ∙ sym (ap first_demand (drop-map (λ l. Asked l Any (Argument at)) i ks ∙ ap (demands_of_inputs at) (drop_more ks i k h)))

other_dropped : (ds : List Demand) (i : ℕ) → other_demands (drop i ds) ≡ drop (suc i) ds
other_dropped [] zero = refl
other_dropped [] (suc i) = refl
other_dropped (d ∷ ds) zero = refl
other_dropped (d ∷ ds) (suc i) = other_dropped ds i

pub left_seen : (xs : List code_expr.Expr) (i : ℕ) (x : code_expr.Expr) → i < length xs → x ≡ get_or xs i x
    → exprs_of (map expr_view (drop i xs)) ≡ expr_then (expr_view x) (exprs_of (map expr_view (drop (i + 1) xs)))
left_seen xs i x h is =
    ap (λ ys. exprs_of (map expr_view ys)) (drop_more xs i x h)
    ∙ ap (λ y. expr_then (expr_view y) (exprs_of (map expr_view (drop (i + 1) xs)))) (sym is)

-- the arguments from one on
abbrev pub from_argument : Environment → List Demand → List code_expr.Expr → ℕ → List Broken
from_argument env ds xs i = wrong_arguments env (drop i ds) (exprs_of (map expr_view (drop i xs)))

next_argument : (env : Environment) (ds : List Demand) (xs : List code_expr.Expr) (i : ℕ) (x : code_expr.Expr)
    → i < length xs → x ≡ get_or xs i x
    → from_argument env ds xs i
    ≡ wrong_expression env (first_demand (drop i ds)) (expr_view x) ++ from_argument env ds xs (i + 1)
next_argument env ds xs i x h is =
    let rest = exprs_of (map expr_view (drop (i + 1) xs)) in
    ap (wrong_arguments env (drop i ds)) (left_seen xs i x h is) ∙ arguments_more env (drop i ds) (expr_view x) rest
    ∙ ap (λ ys. wrong_expression env (first_demand (drop i ds)) (expr_view x) ++ wrong_arguments env ys rest)
    (rw (add-one i) (other_dropped ds i))

pub argument_goes_on : (env : Environment) (ds : List Demand) (xs : List code_expr.Expr) (i : ℕ) (x : code_expr.Expr)
    (all : List Broken) (start it next : BrokenRules) → i < length xs → x ≡ get_or xs i x
    → Searches all (from_argument env ds xs i) start it
    → Collects (wrong_expression env (first_demand (drop i ds)) (expr_view x)) it next
    → Searches all (from_argument env ds xs (i + 1)) start next
argument_goes_on env ds xs i x all start it next h is s c =
    search_goes_on all (wrong_expression env (first_demand (drop i ds)) (expr_view x)) (from_argument env ds xs (i + 1))
    start it next (subst (λ rest. Searches all rest start it) (next_argument env ds xs i x h is) s) c.adds c.covers

pub none_left : (env : Environment) (ds : List Demand) (xs : List code_expr.Expr) (i : ℕ) → length xs ≤ i
    → from_argument env ds xs i ≡ []
none_left env ds xs i h = ap (λ ys. wrong_arguments env (drop i ds) (exprs_of (map expr_view ys))) (drop_all i xs h)

-- lists of one, two and three
pub one_seen : (xs : List code_expr.Expr) (x : code_expr.Expr) → length xs ≡ 1 → x ≡ get_or xs 0 x
    → exprs_of (map expr_view xs) ≡ expr_then (expr_view x) no_exprs
one_seen [] x h is = absurd (cc)
one_seen (v ∷ []) x h is = rw is refl
one_seen (v ∷ w ∷ rest) x h is = absurd (omega (arith, h))

pub two_seen : (xs : List code_expr.Expr) (x y : code_expr.Expr) → length xs ≡ 2 → x ≡ get_or xs 0 x
    → y ≡ get_or xs 1 y → exprs_of (map expr_view xs) ≡ expr_then (expr_view x) (expr_then (expr_view y) no_exprs)
two_seen [] x y h is same = absurd (omega (arith, h))
two_seen (v ∷ rest) x y h is same = rw is (ap (expr_then (expr_view v)) (one_seen rest y (omega (arith, h)) same))

pub three_seen : (xs : List code_expr.Expr) (x y z : code_expr.Expr) → length xs ≡ 3 → x ≡ get_or xs 0 x
    → y ≡ get_or xs 1 y → z ≡ get_or xs 2 z → exprs_of (map expr_view xs)
    ≡ expr_then (expr_view x) (expr_then (expr_view y) (expr_then (expr_view z) no_exprs))
three_seen [] x y z h is same last = absurd (omega (arith, h))
three_seen (v ∷ rest) x y z h is same last =
    rw is (ap (expr_then (expr_view v)) (two_seen rest y z (omega (arith, h)) same last))

-- no demand is made on the arguments of an unknown function
abbrev no_demands : List Demand
no_demands = []

dropped_none : (i : ℕ) → drop i no_demands ≡ []
dropped_none zero = refl
dropped_none (suc i) = refl

pub unknown_goes_on : (env : Environment) (xs : List code_expr.Expr) (i : ℕ) (x : code_expr.Expr)
    (all : List Broken) (start it next : BrokenRules) → i < length xs → x ≡ get_or xs i x
    → Searches all (from_argument env [] xs i) start it
    → Collects (wrong_expression env (operand None) (expr_view x)) it next
    → Searches all (from_argument env [] xs (i + 1)) start next
unknown_goes_on env xs i x all start it next h is s c =
    argument_goes_on env [] xs i x all start it next h is s
    (subst (λ ds. Collects (wrong_expression env (first_demand ds) (expr_view x)) it next) (sym (dropped_none i)) c)

-- demands on the second and the third argument
second_of : (ds : List Demand) → first_demand (drop 1 ds) ≡ first_demand (other_demands ds)
second_of [] = refl
second_of (d ∷ ds) = refl

third_of : (ds : List Demand) → first_demand (drop 2 ds) ≡ first_demand (other_demands (other_demands ds))
third_of [] = refl
third_of (d ∷ []) = refl
third_of (d ∷ e ∷ ds) = refl

-- the code's steps for one, two and three arguments
pub one_standard : (env : Environment) (at : ℕ) (s : Standard) (x : Expr) (ds : List Demand) (old one new : BrokenRules)
    → ds ≡ demands_on env at s (expr_then x no_exprs) → Collects (wrong_by_place env (first_demand ds) x) old one
    → Collects (breaking (ArgumentCount 1 (length ds)) (unless (1 == length ds) at)) one new
    → Collects (wrong_standard env at s (expr_then x no_exprs)) old new
one_standard env at s x ds old one new is h i =
    subst (λ es. Collects (wrong_by_places env es (expr_then x no_exprs) ++ wrong_number_of at es (expr_then x no_exprs))
    old new) is
    (collects_both _ _ old one new (collects_both _ [] old one one h (collects_nothing one)) i)

pub two_standard : (env : Environment) (at : ℕ) (s : Standard) (x y : Expr) (ds : List Demand)
    (old one two new : BrokenRules) → ds ≡ demands_on env at s (expr_then x (expr_then y no_exprs))
    → Collects (wrong_by_place env (first_demand ds) x) old one
    → Collects (wrong_by_place env (first_demand (drop 1 ds)) y) one two
    → Collects (breaking (ArgumentCount 2 (length ds)) (unless (2 == length ds) at)) two new
    → Collects (wrong_standard env at s (expr_then x (expr_then y no_exprs))) old new
two_standard env at s x y ds old one two new is h i j =
    let second = subst (λ d. Collects (wrong_by_place env d y) one two) (second_of ds) i in
    subst (λ es. Collects (wrong_by_places env es (expr_then x (expr_then y no_exprs))
    ++ wrong_number_of at es (expr_then x (expr_then y no_exprs))) old new) is
    (collects_both _ _ old two new (collects_both _ _ old one two h
    (collects_both _ [] one two two second (collects_nothing two))) j)

pub three_standard : (env : Environment) (at : ℕ) (s : Standard) (x y z : Expr) (ds : List Demand)
    (old one two three new : BrokenRules)
    → ds ≡ demands_on env at s (expr_then x (expr_then y (expr_then z no_exprs)))
    → Collects (wrong_by_place env (first_demand ds) x) old one
    → Collects (wrong_by_place env (first_demand (drop 1 ds)) y) one two
    → Collects (wrong_by_place env (first_demand (drop 2 ds)) z) two three
    → Collects (breaking (ArgumentCount 3 (length ds)) (unless (3 == length ds) at)) three new
    → Collects (wrong_standard env at s (expr_then x (expr_then y (expr_then z no_exprs)))) old new
three_standard env at s x y z ds old one two three new is h i j k =
    let second = subst (λ d. Collects (wrong_by_place env d y) one two) (second_of ds) i in
    let third = subst (λ d. Collects (wrong_by_place env d z) two three) (third_of ds) j in
    subst (λ es. Collects (wrong_by_places env es (expr_then x (expr_then y (expr_then z no_exprs)))
    ++ wrong_number_of at es (expr_then x (expr_then y (expr_then z no_exprs)))) old new) is
    (collects_both _ _ old three new (collects_both _ _ old one three h
    (collects_both _ _ one two three second (collects_both _ [] two three three third (collects_nothing three)))) k)

-- more than three
others_of : (ds : List Demand) → drop 1 ds ≡ other_demands ds
others_of [] = refl
others_of (d ∷ ds) = refl

pub many_standard : (env : Environment) (at : ℕ) (s : Standard) (x : Expr) (es : Exprs) (ds : List Demand) (n : ℕ)
    (old one two new : BrokenRules) → ds ≡ demands_on env at s (expr_then x es) → count_of (expr_then x es) ≡ n
    → Collects (wrong_expression env (first_demand ds) x) old one
    → Collects (wrong_arguments env (drop 1 ds) es) one two
    → Collects (breaking (ArgumentCount n (length ds)) (unless (n == length ds) at)) two new
    → Collects (wrong_in_standard env at s (expr_then x es)) old new
many_standard env at s x es ds n old one two new is count h i k =
    let j = subst (λ m. Collects (breaking (ArgumentCount m (length ds)) (unless (m == length ds) at)) two new)
    (sym count) k in
    let others = subst (λ fs. Collects (wrong_arguments env fs es) one two) (others_of ds) i in
    let all = collects_is _ (wrong_arguments env ds (expr_then x es)) old two (sym (arguments_more env ds x es))
    (collects_both _ _ old one two h others) in
    subst (λ fs. Collects (wrong_in_call env at fs (expr_then x es)) old new) is
    (collects_swapped (wrong_number_of at ds (expr_then x es)) (wrong_arguments env ds (expr_then x es)) old two new all j)

pub many_common : (env : Environment) (s : Standard) (xs : List code_expr.Expr) (x : code_expr.Expr) (k : Option Kind)
    → 4 ≤ length xs → x ≡ get_or xs 0 x → k ≡ kind_of (typing_of env (expr_view x))
    → k ≡ common_kind s (kinds_of (typings_of env (exprs_of (map expr_view xs))))
many_common env s [] x k h is e = absurd (omega (arith, h))
many_common env s (a ∷ []) x k h is e = absurd (omega (arith, h))
many_common env s (a ∷ b ∷ []) x k h is e = absurd (omega (arith, h))
many_common env s (a ∷ b ∷ c ∷ []) x k h is e = absurd (omega (arith, h))
many_common env s (a ∷ b ∷ c ∷ d ∷ rest) x k h is e =
    let same : x ≡ a = is in
    e ∙ ap (λ y. kind_of (typing_of env (expr_view y))) same ∙ common_of_many s _ _ _ _ _

-- the number of arguments, and then each of them
pub counted_call : (env : Environment) (at : ℕ) (ds : List Demand) (xs : List code_expr.Expr) {n : ℕ}
    (old mid new : BrokenRules) → length ds ≡ n
    → Collects (breaking (ArgumentCount (length xs) n) (unless (length xs == n) at)) old mid
    → Collects (wrong_arguments env ds (exprs_of (map expr_view xs))) mid new
    → Collects (wrong_in_call env at ds (exprs_of (map expr_view xs))) old new
counted_call env at ds xs {n} old mid new is h i =
    collects_both (wrong_number_of at ds (exprs_of (map expr_view xs))) _ old mid new
    (subst (λ m. Collects (breaking (ArgumentCount m (length ds)) (unless (m == length ds) at)) old mid)
    (sym (count_seen xs))
    (subst (λ m. Collects (breaking (ArgumentCount (length xs) m) (unless (length xs == m) at)) old mid) (sym is) h)) i
