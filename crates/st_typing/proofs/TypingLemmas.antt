-- The typings of operations and of expressions at their places, with the faults that are known with them.
use Rattle.std.proofs.Common.{◌≡◌, ◌∙◌, refl, sym, ap, subst, ℕ, List, [], ◌++◌, Bool, true, false, ◌&&◌, Option, None}
use Rattle.std.proofs.Common.{append_assoc}
use Rattle.std.specs.Prelude.{if◌then◌else◌}
use Rattle.std.specs.List.{flat_map}
use Rattle.std.proofs.lemmas.List.Concat.{flat_map-append}
use Rattle.st_types.specs.declared.kind.Kind.{Kind}
use Rattle.st_types.specs.declared.operator.UnaryOperator.{UnaryOperator}
use Rattle.st_types.specs.declared.operator.BinaryOperator.{BinaryOperator}
use Rattle.st_types.specs.Expressions.{Expr, parenthesis, unary, binary}
use Rattle.st_meaning.specs.Resolution.{is_untyped, is_joining, expected_of_both}
use Rattle.st_rules.specs.declared.rule.Broken.{Broken}
use Rattle.st_rules.specs.declared.broken_rules.BrokenRules.{BrokenRules}
use Rattle.st_rules.specs.declared.demand.Demand.{Demand}
use Rattle.st_rules.specs.declared.demand.Demand.TheVariants.{Operand as operand}
use Rattle.st_rules.specs.declared.reason.Reason.TheVariants.{WrongOperand, WrongOperands, Mismatch}
use Rattle.st_rules.specs.declared.typings.Typing.{Typing}
use Rattle.st_rules.specs.declared.typings.Typing.TheVariants.{Untyped as untyped, Elementary as elementary}
use Rattle.st_rules.specs.declared.typings.Typing.TheVariants.{Composite as composite, Nothing as nothing}
use Rattle.st_rules.specs.Collecting.{Collects}
use Rattle.st_rules.specs.Demands.{expected_of, sorts_of_unary, sorts_of_binary}
use Rattle.st_rules.specs.Environments.{Environment}
use Rattle.st_rules.specs.ExpressionRules.{wrong_within, wrong_expression, wrong_node, wrong_part, first_byte}
use Rattle.st_rules.specs.Faults.{breaking, unless}
use Rattle.st_rules.specs.Nodes.{offered, nodes_of, nodes_below}
use Rattle.st_rules.specs.Typings.{kind_of, is_untyped_typing, settled, fits, allows, are_operands, typing_of}
use Rattle.st_rules.proofs.CollectLemmas.{AreAmong, among_itself, among_then, among_left, among_right, both_among}
use Rattle.st_rules.proofs.CollectLemmas.{none_among, collects_nothing, collects_both, collects_same, collects_is}
use Rattle.st_rules.proofs.CollectLemmas.{collects_swapped}
use Rattle.st_rules.proofs.TypingLaws.{untyped_told}
use Rattle.st_typing.proofs.PartLemmas.{left_untyped, right_untyped, typing_untyped}
use Rattle.st_typing.specs.Answers.{Types, if_typed, if_untyped, wrong_operands, wrong_with_operands, wrong_operation}
use Rattle.st_typing.specs.Answers.{wrong_negation, wrong_by_place}

-- the typing shows whether the expression is untyped
pub untyped_typed : (env : Environment) (e : Expr) (t : Typing) → t ≡ typing_of env e
    → is_untyped e ≡ is_untyped_typing t
untyped_typed env e t h = untyped_told env e ∙ ap is_untyped_typing (sym h)

-- of an expression that has a type, with all its faults
pub types_from : (env : Environment) (e : Expr) (t : Typing) (faults : List Broken) (old new : BrokenRules)
    → t ≡ typing_of env e → is_untyped e ≡ false → ((k : Option Kind) → faults ≡ wrong_within env k e)
    → Collects faults old new → Types env e t old new
types_from env e t faults old new is typed same h = record {
  typing = is;
  collects = λ k. collects_is faults (if_typed env k e) old new
      (same k ∙ sym (ap (λ b. if b then [] else wrong_within env k e) typed)) h;
}

-- of an untyped expression
pub types_untyped : (env : Environment) (e : Expr) (t : Typing) (it : BrokenRules) → t ≡ typing_of env e
    → is_untyped e ≡ true → Types env e t it it
types_untyped env e t it is h = record {
  typing = is;
  collects = λ k. collects_is [] (if_typed env k e) it it
      (sym (ap (λ b. if b then [] else wrong_within env k e) h)) (collects_nothing it);
}

pub parenthesis_types : (env : Environment) (at : ℕ) (e : Expr) (t : Typing) (old new : BrokenRules)
    → Types env e t old new → Types env (parenthesis at e) t old new
parenthesis_types env at e t old new h = record { typing = h.typing; collects = h.collects }

-- an operator before its operand
settled_same : (k : Option Kind) (t : Typing) → is_untyped_typing t ≡ false → settled None t ≡ settled k t
settled_same k untyped h = absurd (cc)
settled_same k (elementary l) h = refl
settled_same k composite h = refl
settled_same k nothing h = refl

negated : (env : Environment) (k : Option Kind) (op : UnaryOperator) (at : ℕ) (e : Expr) (b : Bool)
    (old mid new : BrokenRules) → is_untyped e ≡ b
    → Collects (if b then [] else wrong_within env k e) old mid
    → Collects (if b then [] else breaking (WrongOperand op (typing_of env e))
    (unless (fits None (sorts_of_unary op) (settled None (typing_of env e))) at)) mid new
    → Collects (if b then [] else wrong_within env k (unary op at e)) old new
negated env k op at e true old mid new is h i = collects_both [] [] old mid new h i
negated env k op at e false old mid new is h i =
    let typed : is_untyped_typing (typing_of env e) ≡ false = sym (untyped_told env e) ∙ is in
    let own = λ (t : Typing). breaking (WrongOperand op (typing_of env e)) (unless (fits None (sorts_of_unary op) t) at) in
    collects_swapped (wrong_part env k (unary op at e)) (wrong_within env k e) old mid new h
    (collects_is (own (settled None (typing_of env e))) (own (settled k (typing_of env e))) mid new
    (ap own (settled_same k (typing_of env e) typed)) i)

pub negation_types : (env : Environment) (op : UnaryOperator) (at : ℕ) (e : Expr) (t : Typing)
    (old mid new : BrokenRules) → Types env e t old mid → Collects (wrong_negation env op at e) mid new
    → Types env (unary op at e) t old new
negation_types env op at e t old mid new h i = record {
  typing = h.typing;
  collects = λ k. negated env k op at e (is_untyped e) old mid new refl (h.collects k) i;
}

-- an operator between its operands: the type that they are offered, if one of them has a type
offered_cases : (j t u : Bool) (k a b : Option Kind) → (j && (t && u)) ≡ false
    → expected_of_both (if j then None else None) a b t u ≡ expected_of_both (if j then k else None) a b t u
offered_cases true true true k a b h = absurd (cc)
offered_cases true true false k a b h = refl
offered_cases true false true k a b h = refl
offered_cases true false false k a b h = refl
offered_cases false true true k a b h = refl
offered_cases false true false k a b h = refl
offered_cases false false true k a b h = refl
offered_cases false false false k a b h = refl

offered_same : (k : Option Kind) (op : BinaryOperator) (t u : Typing)
    → (is_joining op && (is_untyped_typing t && is_untyped_typing u)) ≡ false
    → offered None op t u ≡ offered k op t u
offered_same k op t u h =
    offered_cases (is_joining op) (is_untyped_typing t) (is_untyped_typing u) k (kind_of t) (kind_of u) h

-- the faults of an operand are known with its typing, or else with the type that it takes
typed_among : (c : Bool) (ws : List Broken) → AreAmong (if c then [] else ws) ws
typed_among true ws = none_among ws
typed_among false ws = among_itself ws

untyped_among : (c : Bool) (ws : List Broken) → AreAmong (if c then ws else []) ws
untyped_among true ws = among_itself ws
untyped_among false ws = none_among ws

either_among : (c : Bool) (ws zs : List Broken) → AreAmong (if c then [] else ws) zs → AreAmong (if c then ws else []) zs
    → AreAmong ws zs
either_among true ws zs h i = i
either_among false ws zs h i = h

abbrev known : Environment → BinaryOperator → Option Kind → Expr → Expr → List Broken
known env op o l r = (if_typed env o l ++ if_typed env o r) ++ wrong_with_operands env op o l r

abbrev whole : Environment → BinaryOperator → Option Kind → Expr → Expr → List Broken
whole env op o l r = wrong_operands env op o l r ++ (wrong_within env o l ++ wrong_within env o r)

known_among : (env : Environment) (op : BinaryOperator) (o : Option Kind) (l r : Expr)
    → AreAmong (known env op o l r) (whole env op o l r)
known_among env op o l r =
    let own = wrong_operands env op o l r in
    let wl = wrong_within env o l in
    let wr = wrong_within env o r in
    let all = whole env op o l r in
    let left : AreAmong wl all = among_right wl own (wl ++ wr) (among_left wl wl wr (among_itself wl)) in
    let right : AreAmong wr all = among_right wr own (wl ++ wr) (among_right wr wl wr (among_itself wr)) in
    both_among (if_typed env o l ++ if_typed env o r) (wrong_with_operands env op o l r) all
    (both_among (if_typed env o l) (if_typed env o r) all
    (among_then (if_typed env o l) wl all (typed_among (is_untyped l) wl) left)
    (among_then (if_typed env o r) wr all (typed_among (is_untyped r) wr) right))
    (both_among (if_untyped env o l ++ if_untyped env o r) own all
    (both_among (if_untyped env o l) (if_untyped env o r) all
    (among_then (if_untyped env o l) wl all (untyped_among (is_untyped l) wl) left)
    (among_then (if_untyped env o r) wr all (untyped_among (is_untyped r) wr) right))
    (among_left own own (wl ++ wr) (among_itself own)))

whole_among : (env : Environment) (op : BinaryOperator) (o : Option Kind) (l r : Expr)
    → AreAmong (whole env op o l r) (known env op o l r)
whole_among env op o l r =
    let own = wrong_operands env op o l r in
    let tl = if_typed env o l in
    let tr = if_typed env o r in
    let ul = if_untyped env o l in
    let ur = if_untyped env o r in
    let all = known env op o l r in
    let later : AreAmong ((ul ++ ur) ++ own) all = among_right _ (tl ++ tr) _ (among_itself _) in
    both_among own (wrong_within env o l ++ wrong_within env o r) all
    (among_then own ((ul ++ ur) ++ own) all (among_right own (ul ++ ur) own (among_itself own)) later)
    (both_among (wrong_within env o l) (wrong_within env o r) all
    (either_among (is_untyped l) (wrong_within env o l) all
    (among_left tl (tl ++ tr) _ (among_left tl tl tr (among_itself tl)))
    (among_then ul ((ul ++ ur) ++ own) all (among_left ul (ul ++ ur) own (among_left ul ul ur (among_itself ul))) later))
    (either_among (is_untyped r) (wrong_within env o r) all
    (among_left tr (tl ++ tr) _ (among_right tr tl tr (among_itself tr)))
    (among_then ur ((ul ++ ur) ++ own) all (among_left ur (ul ++ ur) own (among_right ur ul ur (among_itself ur))) later)))

whole_is : (env : Environment) (k o : Option Kind) (op : BinaryOperator) (l r : Expr)
    → o ≡ offered k op (typing_of env l) (typing_of env r)
    → whole env op o l r ≡ wrong_within env k (binary op l r)
whole_is env k o op l r is = rw is (ap (λ ys. wrong_part env k (binary op l r) ++ ys)
    (sym (flat_map-append (wrong_node env)
    (nodes_of env (operand (offered k op (typing_of env l) (typing_of env r))) l)
    (nodes_of env (operand (offered k op (typing_of env l) (typing_of env r))) r))))

regrouped : (x y z : Bool) → (x && (y && z)) ≡ (x && y && z)
regrouped true y z = refl
regrouped false y z = refl

operated : (env : Environment) (k : Option Kind) (op : BinaryOperator) (l r : Expr) (b : Bool)
    (start one two new : BrokenRules) → (is_joining op && is_untyped l && is_untyped r) ≡ b
    → ((o : Option Kind) → Collects (if_typed env o l) start one)
    → ((o : Option Kind) → Collects (if_typed env o r) one two)
    → Collects (if b then [] else wrong_with_operands env op (offered None op (typing_of env l) (typing_of env r)) l r)
    two new → Collects (if b then [] else wrong_within env k (binary op l r)) start new
operated env k op l r true start one two new is h i j =
    let joins = is_joining op in
    let lu = left_untyped joins l r is in
    let ru = right_untyped joins l r is in
    let nl : if_typed env k l ≡ [] = ap (λ c. if c then [] else wrong_within env k l) lu in
    let nr : if_typed env k r ≡ [] = ap (λ c. if c then [] else wrong_within env k r) ru in
    collects_both [] [] start two new
    (collects_both [] [] start one two (collects_is _ [] start one nl (h k)) (collects_is _ [] one two nr (i k))) j
operated env k op l r false start one two new is h i j =
    let o = offered None op (typing_of env l) (typing_of env r) in
    let typed : (is_joining op && (is_untyped_typing (typing_of env l) && is_untyped_typing (typing_of env r))) ≡ false =
    regrouped (is_joining op) (is_untyped_typing (typing_of env l)) (is_untyped_typing (typing_of env r)) ∙ rw (sym (untyped_told env l), sym (untyped_told env r)) is in
    let all = collects_both (if_typed env o l ++ if_typed env o r) (wrong_with_operands env op o l r) start two new
    (collects_both (if_typed env o l) (if_typed env o r) start one two (h o) (i o)) j in
    collects_is (whole env op o l r) (wrong_within env k (binary op l r)) start new
    (whole_is env k o op l r (offered_same k op (typing_of env l) (typing_of env r) typed))
    (collects_same (known env op o l r) (whole env op o l r) start new (known_among env op o l r)
    (whole_among env op o l r) all)

pub operation_types : (env : Environment) (op : BinaryOperator) (l r : Expr) (t u w : Typing)
    (start one two new : BrokenRules) → Types env l t start one → Types env r u one two
    → w ≡ typing_of env (binary op l r) → Collects (wrong_operation env op l r) two new
    → Types env (binary op l r) w start new
operation_types env op l r t u w start one two new h i is j = record {
  typing = is;
  collects = λ k. operated env k op l r (is_joining op && is_untyped l && is_untyped r) start one two new refl
      h.collects i.collects j;
}

-- at a place with a demand
abbrev mismatch : Environment → Demand → Expr → List Broken
mismatch env d e =
    breaking (Mismatch d (typing_of env e))
    (unless (allows d (settled (expected_of d) (typing_of env e))) (first_byte e))

placed_is : (env : Environment) (d : Demand) (e : Expr)
    → mismatch env d e ++ wrong_within env (expected_of d) e ≡ wrong_expression env d e
placed_is env d e = sym (append_assoc (mismatch env d e) (wrong_part env (expected_of d) e)
    (flat_map (wrong_node env) (nodes_below env (expected_of d) e)))

-- the faults in an expression at its place: those that are known with its typing, and the others
pub typed_placed : (env : Environment) (d : Demand) (e : Expr)
    → AreAmong (if_typed env (expected_of d) e) (wrong_expression env d e)
typed_placed env d e =
    let w = wrong_within env (expected_of d) e in
    subst (λ ys. AreAmong (if_typed env (expected_of d) e) ys) (placed_is env d e)
    (among_right _ (mismatch env d e) w (typed_among (is_untyped e) w))

pub by_place_placed : (env : Environment) (d : Demand) (e : Expr)
    → AreAmong (wrong_by_place env d e) (wrong_expression env d e)
by_place_placed env d e =
    let w = wrong_within env (expected_of d) e in
    let m = mismatch env d e in
    let ue = if_untyped env (expected_of d) e in
    subst (λ ys. AreAmong (wrong_by_place env d e) ys) (placed_is env d e)
    (both_among ue m (m ++ w) (among_right ue m w (untyped_among (is_untyped e) w)) (among_left m m w (among_itself m)))

pub placed_either : (env : Environment) (d : Demand) (e : Expr) (zs : List Broken)
    → AreAmong (if_typed env (expected_of d) e) zs → AreAmong (wrong_by_place env d e) zs
    → AreAmong (wrong_expression env d e) zs
placed_either env d e zs h i =
    let w = wrong_within env (expected_of d) e in
    let m = mismatch env d e in
    let ue = if_untyped env (expected_of d) e in
    subst (λ ys. AreAmong ys zs) (placed_is env d e)
    (both_among m w zs (among_then m (ue ++ m) zs (among_right m ue m (among_itself m)) i)
    (either_among (is_untyped e) w zs h (among_then ue (ue ++ m) zs (among_left ue ue m (among_itself ue)) i)))

pub placed : (env : Environment) (d : Demand) (e : Expr) (t : Typing) (old mid new : BrokenRules)
    → Types env e t old mid → Collects (wrong_by_place env d e) mid new → Collects (wrong_expression env d e) old new
placed env d e t old mid new h i =
    let te = if_typed env (expected_of d) e in
    let pe = wrong_by_place env d e in
    collects_same (te ++ pe) (wrong_expression env d e) old new
    (both_among te pe (wrong_expression env d e) (typed_placed env d e) (by_place_placed env d e))
    (placed_either env d e (te ++ pe) (among_left te te pe (among_itself te)) (among_right pe te pe (among_itself pe)))
    (collects_both te pe old mid new (h.collects (expected_of d)) i)

-- the code's steps: an operator before its operand
pub negation_untyped : (env : Environment) (op : UnaryOperator) (at : ℕ) (e : Expr) (it : BrokenRules)
    → is_untyped e ≡ true → Collects (wrong_negation env op at e) it it
negation_untyped env op at e it h =
    collects_is [] (wrong_negation env op at e) it it
    (sym (ap (λ b. if b then [] else breaking (WrongOperand op (typing_of env e))
    (unless (fits None (sorts_of_unary op) (settled None (typing_of env e))) at)) h)) (collects_nothing it)

pub negation_typed : (env : Environment) (op : UnaryOperator) (at : ℕ) (e : Expr) (t : Typing) (old new : BrokenRules)
    → is_untyped e ≡ false → t ≡ typing_of env e
    → Collects (breaking (WrongOperand op t) (unless (fits None (sorts_of_unary op) (settled None t)) at)) old new
    → Collects (wrong_negation env op at e) old new
negation_typed env op at e t old new h is i =
    let own = λ (u : Typing). breaking (WrongOperand op u) (unless (fits None (sorts_of_unary op) (settled None u)) at) in
    collects_is (own t) (wrong_negation env op at e) old new
    (ap own is ∙ sym (ap (λ b. if b then [] else own (typing_of env e)) h)) i

-- an operator between its operands
stays : (env : Environment) (op : BinaryOperator) (l r : Expr) (t u : Typing) (b : Bool) → t ≡ typing_of env l
    → u ≡ typing_of env r → (is_joining op && (is_untyped_typing t && is_untyped_typing u)) ≡ b
    → (is_joining op && is_untyped l && is_untyped r) ≡ b
stays env op l r t u b left right h =
    rw (untyped_typed env l t left, untyped_typed env r u right)
    (sym (regrouped (is_joining op) (is_untyped_typing t) (is_untyped_typing u)) ∙ h)

pub untyped_joined : (env : Environment) (op : BinaryOperator) (l r : Expr) (t u : Typing) → t ≡ typing_of env l
    → u ≡ typing_of env r → (is_joining op && (is_untyped_typing t && is_untyped_typing u)) ≡ true
    → untyped ≡ typing_of env (binary op l r)
untyped_joined env op l r t u left right h =
    sym (typing_untyped env (binary op l r) (stays env op l r t u true left right h))

pub operation_untyped : (env : Environment) (op : BinaryOperator) (l r : Expr) (t u : Typing) (it : BrokenRules)
    → t ≡ typing_of env l → u ≡ typing_of env r
    → (is_joining op && (is_untyped_typing t && is_untyped_typing u)) ≡ true
    → Collects (wrong_operation env op l r) it it
operation_untyped env op l r t u it left right h =
    collects_is [] (wrong_operation env op l r) it it
    (sym (ap (λ b. if b then [] else wrong_with_operands env op (offered None op (typing_of env l) (typing_of env r)) l r)
    (stays env op l r t u true left right h))) (collects_nothing it)

pub operation_typed : (env : Environment) (op : BinaryOperator) (l r : Expr) (t u : Typing) (o : Option Kind)
    (old one two new : BrokenRules) → t ≡ typing_of env l → u ≡ typing_of env r
    → (is_joining op && (is_untyped_typing t && is_untyped_typing u)) ≡ false → o ≡ offered None op t u
    → Collects (if_untyped env o l) old one → Collects (if_untyped env o r) one two
    → Collects (breaking (WrongOperands op t u)
    (unless (are_operands (sorts_of_binary op) (settled o t) (settled o u)) (first_byte l))) two new
    → Collects (wrong_operation env op l r) old new
operation_typed env op l r t u o old one two new left right h is p q w =
    let itself : Collects (wrong_operands env op o l r) two new = rw (left, right) at w in
    let offers : o ≡ offered None op (typing_of env l) (typing_of env r) = rw (sym left, sym right) is in
    collects_is (wrong_with_operands env op o l r) (wrong_operation env op l r) old new
    (ap (λ k. wrong_with_operands env op k l r) offers
    ∙ sym (ap (λ b. if b then [] else wrong_with_operands env op (offered None op (typing_of env l) (typing_of env r)) l r)
    (stays env op l r t u false left right h)))
    (collects_both (if_untyped env o l ++ if_untyped env o r) (wrong_operands env op o l r) old two new
    (collects_both (if_untyped env o l) (if_untyped env o r) old one two p q) itself)

-- at a place
pub by_place : (env : Environment) (d : Demand) (e : Expr) (t : Typing) (old mid new : BrokenRules)
    → t ≡ typing_of env e → Collects (if_untyped env (expected_of d) e) old mid
    → Collects (breaking (Mismatch d t) (unless (allows d (settled (expected_of d) t)) (first_byte e))) mid new
    → Collects (wrong_by_place env d e) old new
by_place env d e t old mid new is h i =
    collects_both (if_untyped env (expected_of d) e) (mismatch env d e) old mid new h (rw is at i)
