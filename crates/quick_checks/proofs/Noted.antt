-- Notes one after another.
use Rattle.std.proofs.Common.{List, [], ◌∷◌, ◌++◌, refl, sym, subst}
use Rattle.quick_trees.specs.Points.{Point, Note, IsNoted, AllNoted, AreNoted}
use Rattle.quick_trees.specs.QuickMemory.{Frame}

all_and_one : (f : Frame) (ns : List Note) (n : Note) (p q r : Point) → AllNoted f ns p q → IsNoted f n q r
    → AllNoted f (ns ++ n ∷ []) p r
all_and_one f [] n p q r e h = (r, (subst (λ x. IsNoted f n x r) (sym e) h, refl))
all_and_one f (m ∷ ms) n p q r a h = (a.0, (a.1.0, all_and_one f ms n a.0 q r a.1.1 h))

pub noted_none : (f : Frame) (p : Point) → AreNoted f p p
noted_none f p = record { notes = []; all = refl }

pub noted_more : (f : Frame) (n : Note) (p q r : Point) → AreNoted f p q → IsNoted f n q r → AreNoted f p r
noted_more f n p q r a h = record { notes = a.notes ++ n ∷ []; all = all_and_one f a.notes n p q r a.all h }
