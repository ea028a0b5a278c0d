-- Code of arguments one after another, and of the values of a function that are begun.
use Rattle.std.proofs.Common.{◌≡◌, ℕ, zero, suc, List, [], ◌∷◌, ◌++◌, length, get_or, drop, map, refl, ap}
use Rattle.std.proofs.Common.{subst, arith, ◌<◌, ◌≤◌, ◌+◌, add-one}
use Rattle.std.specs.Prelude.{Some, slice_get}
use Rattle.st_types.specs.declared.kind.Kind.{Kind}
use Rattle.slot_trees.specs.declared.expression.SlotExpr as code_expr
use Rattle.slot_trees.specs.Chains.{exprs_of}
use Rattle.slot_trees.specs.ExpressionViews.{slot_expr_view}
use Rattle.slot_trees.specs.SlotTrees.{SlotFunction, SlotLibrary}
use Rattle.quick_trees.specs.Calls.{AreBegun, IsBegun, IsFunction, quick_units}
use Rattle.quick_trees.specs.Points.{Point}
use Rattle.quick_trees.specs.QuickMemory.{Frame}
use Rattle.quick_trees.specs.UnitValues.{UnitValues}
use Rattle.quick_trees.specs.UnitValues as sites
use Rattle.quick_trees.specs.TreeCode.{AreArguments, IsRead, QuickUnits}
use Rattle.quick_checks.specs.declared.constants.Reading.{Reading}
use Rattle.quick_checks.specs.declared.scope.FunctionWord.{FunctionWord}
use Rattle.quick_checks.specs.Checking.{kinds_read, seat_of, words_read}

kinds_more : (rs : List Reading) (a : Reading) (ts : List Kind)
    → kinds_read (rs ++ a ∷ []) ++ ts ≡ kinds_read rs ++ (a.kind ∷ ts)
kinds_more [] a ts = refl
kinds_more (r ∷ rs) a ts = ap (λ us. r.kind ∷ us) (kinds_more rs a ts)

words_more : (rs : List Reading) (a : Reading) (ws : List ℕ)
    → words_read (rs ++ a ∷ []) ++ ws ≡ words_read rs ++ (a.word ∷ ws)
words_more [] a ws = refl
words_more (r ∷ rs) a ws = ap (λ us. r.word ∷ us) (words_more rs a ws)

all_kinds : (ts : List Kind) → ts ++ [] ≡ ts
all_kinds [] = refl
all_kinds (t ∷ ts) = ap (λ us. t ∷ us) (all_kinds ts)

all_words : (ws : List ℕ) → ws ++ [] ≡ ws
all_words [] = refl
all_words (w ∷ ws) = ap (λ us. w ∷ us) (all_words ws)

module _ (f : Frame) (s : UnitValues) (units : QuickUnits) where
  arguments_next : (xs : List code_expr.SlotExpr) (k j : ℕ) (x : code_expr.SlotExpr) (d c : ℕ) (a : Reading)
      (p r q : Point) (ts : List Kind) (ws : List ℕ) → k < length xs → j ≡ k + 1
      → x ≡ get_or xs k x → IsRead f s units (slot_expr_view x) a.kind d a.word p r → c ≡ suc d
      → AreArguments f s units (exprs_of (map slot_expr_view (drop j xs))) c ts ws r q
      → AreArguments f s units (exprs_of (map slot_expr_view (drop k xs))) d (a.kind ∷ ts) (a.word ∷ ws) p q
  arguments_next [] k j x d c a p r q ts ws lt n is reads e rest = absurd (omega arith)
  arguments_next (y ∷ ys) zero j x d c a p r q ts ws lt n is reads e rest =
      let one : j ≡ 1 = omega arith in record {
        middle = r;
        first = subst (λ z. IsRead f s units (slot_expr_view z) a.kind d a.word p r) is reads;
        second = subst (λ n. AreArguments f s units (exprs_of (map slot_expr_view ys)) n ts ws r q) e (rw one at rest);
      }
  arguments_next (y ∷ ys) (suc k) j x d c a p r q ts ws lt n is reads e rest =
      let more : j ≡ suc (k + 1) = omega arith in
      arguments_next ys k (k + 1) x d c a p r q ts ws (omega arith) refl is reads e (rw more at rest)

  pub arguments_more : (xs : List code_expr.SlotExpr) (k : ℕ) (x : code_expr.SlotExpr) (d c depth : ℕ)
      (rs new : List Reading) (a : Reading) (start p r : Point) → k < length xs → x ≡ get_or xs k x
      → IsRead f s units (slot_expr_view x) a.kind d a.word p r → c ≡ suc d → new ≡ rs ++ a ∷ []
      → ((ts : List Kind) (ws : List ℕ) (q : Point)
      → AreArguments f s units (exprs_of (map slot_expr_view (drop k xs))) d ts ws p q
      → AreArguments f s units (exprs_of (map slot_expr_view xs)) depth (kinds_read rs ++ ts) (words_read rs ++ ws)
      start q)
      → (ts : List Kind) (ws : List ℕ) (q : Point)
      → AreArguments f s units (exprs_of (map slot_expr_view (drop (k + 1) xs))) c ts ws r q
      → AreArguments f s units (exprs_of (map slot_expr_view xs)) depth (kinds_read new ++ ts) (words_read new ++ ws)
      start q
  arguments_more xs k x d c depth rs new a start p r lt is reads e n before ts ws q rest =
      let h = before (a.kind ∷ ts) (a.word ∷ ws) q (arguments_next xs k (k + 1) x d c a p r q ts ws lt refl is reads e rest) in
      rw n (rw (kinds_more rs a ts, words_more rs a ws) h)

  arguments_over : (xs : List code_expr.SlotExpr) (k d : ℕ) (p : Point) → length xs ≤ k
      → AreArguments f s units (exprs_of (map slot_expr_view (drop k xs))) d [] [] p p
  arguments_over [] zero d p le = refl
  arguments_over [] (suc k) d p le = refl
  arguments_over (y ∷ ys) zero d p le = absurd (omega arith)
  arguments_over (y ∷ ys) (suc k) d p le = arguments_over ys k d p (omega arith)

  pub arguments_all : (xs : List code_expr.SlotExpr) (k d depth : ℕ) (rs : List Reading) (start p : Point)
      → length xs ≤ k
      → ((ts : List Kind) (ws : List ℕ) (q : Point)
      → AreArguments f s units (exprs_of (map slot_expr_view (drop k xs))) d ts ws p q
      → AreArguments f s units (exprs_of (map slot_expr_view xs)) depth (kinds_read rs ++ ts) (words_read rs ++ ws)
      start q)
      → AreArguments f s units (exprs_of (map slot_expr_view xs)) depth (kinds_read rs) (words_read rs) start p
  arguments_all xs k d depth rs start p le before =
      rw (all_kinds (kinds_read rs), all_words (words_read rs)) at (before [] [] p (arguments_over xs k d p le))

seats_more : (ss : List FunctionWord) (x : FunctionWord) (rest : List sites.FunctionWord)
    → map seat_of (ss ++ x ∷ []) ++ rest ≡ map seat_of ss ++ (seat_of x ∷ rest)
seats_more [] x rest = refl
seats_more (y ∷ ss) x rest = ap (λ us. seat_of y ∷ us) (seats_more ss x rest)

all_seats : (ss : List sites.FunctionWord) → ss ++ [] ≡ ss
all_seats [] = refl
all_seats (s ∷ ss) = ap (λ us. s ∷ us) (all_seats ss)

pub begun_more : (f : Frame) (g : SlotFunction) (words : List ℕ) (start k : ℕ) (ss new : List FunctionWord) (x : FunctionWord)
    (begin p r : Point) → IsBegun f g words start k (seat_of x) p r → new ≡ ss ++ x ∷ []
    → ((rest : List sites.FunctionWord) (q : Point) → AreBegun f g words start k rest p q
    → AreBegun f g words start 0 (map seat_of ss ++ rest) begin q)
    → (rest : List sites.FunctionWord) (q : Point) → AreBegun f g words start (k + 1) rest r q
    → AreBegun f g words start 0 (map seat_of new ++ rest) begin q
begun_more f g words start k ss new x begin p r one n before rest q after =
    let h = before (seat_of x ∷ rest) q (r, (one, rw add-one at after)) in
    rw n (rw (seats_more ss x rest) h)

pub begun_all : (f : Frame) (g : SlotFunction) (words : List ℕ) (start k : ℕ) (ss : List FunctionWord) (begin p : Point)
    → ((rest : List sites.FunctionWord) (q : Point) → AreBegun f g words start k rest p q
    → AreBegun f g words start 0 (map seat_of ss ++ rest) begin q)
    → AreBegun f g words start 0 (map seat_of ss) begin p
begun_all f g words start k ss begin p before = rw (all_seats (map seat_of ss)) at (before [] p refl)

pub long_words : (rs : List Reading) → length (words_read rs) ≡ length rs
long_words [] = refl
long_words (r ∷ rs) = ap suc (long_words rs)

pub function_stands : (f : Frame) (library : SlotLibrary) (n d i : ℕ) (g : SlotFunction) (kinds : List Kind)
    (words : List ℕ) (start : ℕ) (t : Kind) (to : ℕ) (p q : Point) → suc d ≡ n
    → slice_get library.functions i ≡ Some g → IsFunction f (quick_units f library d) g kinds words start t to p q
    → (quick_units f library n).functions i kinds words start t to p q
unfolding quick_units
function_stands f library n d i g kinds words start t to p q e at h =
    subst (λ m. (quick_units f library m).functions i kinds words start t to p q) e (g, (at, h))

pub long_kinds : (rs : List Reading) → length (kinds_read rs) ≡ length rs
long_kinds [] = refl
long_kinds (r ∷ rs) = ap suc (long_kinds rs)

pub long_seats : (ss : List FunctionWord) → length (map seat_of ss) ≡ length ss
long_seats [] = refl
long_seats (s ∷ ss) = ap suc (long_seats ss)
