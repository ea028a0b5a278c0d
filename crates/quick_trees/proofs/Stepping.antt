-- The rest of a run that ends well, after an instruction.
use Rattle.std.proofs.Common.{◌≡◌, ℕ, zero, suc, ◌-◌, ◌≤◌, ℤ, Bool, true, false, Option, Some, None, refl, sym, ap}
use Rattle.std.proofs.Common.{◌∙◌, arith}
use Rattle.std.specs.Prelude.{if◌then◌else◌, nat_le, slice_get}
use Rattle.std.proofs.lemmas.Bool.Decides.{nat_tests}
use Rattle.quick_code.specs.declared.quick_code.Way.{Way}
use Rattle.quick_code.specs.declared.quick_instr.QuickInstr.{QuickInstr}
use Rattle.quick_code.specs.QuickRuns.{Left, act_any, exec, follow, left}
use Rattle.quick_code.specs.QuickSteps.{Memory, Step, on, skips, leads, over, unsure, act, branch, put}
use Rattle.quick_code.specs.QuickSteps.{taken, with_word}
use Rattle.quick_trees.specs.QuickMemory.{EndsWellAt, Frame}

-- how a run that ends so goes on after an instruction at a place
abbrev pub Follows : Frame → ℕ → Left → Step → Type 0
Follows f p e (on m b) = EndsWellAt f (suc p) m b e
Follows f p e (skips m b) = EndsWellAt f (suc (suc p)) m b e
Follows f p e (leads q m b) = EndsWellAt f q m b e
Follows f p e (over m b) = left m b ≡ e
Follows f p e unsure = ⊥

module _ (f : Frame) (p : ℕ) (e : Left) where
  follows : (s : Step) (n : ℕ) → follow (exec f.code f.ways f.now n) p s ≡ Some e → Follows f p e s
  follows (on m b) n h = record { count = n; ends = h }
  follows (skips m b) n h = record { count = n; ends = h }
  follows (leads q m b) n h = record { count = n; ends = h }
  follows (over m b) n h = cc
  follows unsure n h = absurd cc

  by_count : (n : ℕ) (m : Memory) (b : ℕ) (i : QuickInstr) → exec f.code f.ways f.now n p m b ≡ Some e
      → slice_get f.code p ≡ Some i → Follows f p e (act f.ways f.now i m b)
  by_count zero m b i h at = absurd cc
  by_count (suc n) m b i h at =
      follows (act f.ways f.now i m b) n
      (sym (ap (λ o. follow (exec f.code f.ways f.now n) p (act_any f.code f.ways f.now o m b)) at) ∙ h)

  pub stepped : (m : Memory) (b : ℕ) (i : QuickInstr) → EndsWellAt f p m b e → slice_get f.code p ≡ Some i
      → Follows f p e (act f.ways f.now i m b)
  stepped m b i runs at = by_count runs.count m b i runs.ends at

  -- A word was assigned.
  pub record HasPut (to : ℕ) (v : Option ℤ) (m : Memory) (b : ℕ) : Type 0 where
    pub word : ℤ
    pub is : v ≡ Some word
    pub ends : EndsWellAt f (suc p) (with_word m to word) b e

  pub has_put : (to : ℕ) (v : Option ℤ) (m : Memory) (b : ℕ) → Follows f p e (put to v m b) → HasPut to v m b
  has_put to (Some w) m b h = record { word = w; is = refl; ends = h }
  has_put to None m b h = absurd h

  -- A way was taken, or not, and its ticks were taken.
  abbrev pub HasBranched : Bool → Way → ℕ → Memory → ℕ → Type 0
  HasBranched true w past m b = (w.ticks ≤ b) × EndsWellAt f w.place m (b - w.ticks) e
  HasBranched false w past m b = (past ≤ b) × EndsWellAt f (suc p) m (b - past) e

  paid : (t : Bool) (w : Way) (m : Memory) (b : ℕ) → nat_le w.ticks b ≡ t
      → Follows f p e (if t then leads w.place m (b - w.ticks) else unsure) → HasBranched true w 0 m b
  paid true w m b enough h = ((let fits : w.ticks ≤ b = grind (arith, nat_tests) in fits), h)
  paid false w m b enough h = absurd h

  pub has_taken : (w : Way) (m : Memory) (b : ℕ) → Follows f p e (taken w m b)
      → (w.ticks ≤ b) × EndsWellAt f w.place m (b - w.ticks) e
  has_taken w m b h = paid (nat_le w.ticks b) w m b refl h

  paid_past : (t : Bool) (w : Way) (past : ℕ) (m : Memory) (b : ℕ) → nat_le past b ≡ t
      → Follows f p e (if t then on m (b - past) else unsure) → HasBranched false w past m b
  paid_past true w past m b enough h = ((let fits : past ≤ b = grind (arith, nat_tests) in fits), h)
  paid_past false w past m b enough h = absurd h

  pub has_branched : (t : Bool) (w : Way) (past : ℕ) (m : Memory) (b : ℕ) → Follows f p e (branch t w past m b)
      → HasBranched t w past m b
  has_branched true w past m b h = has_taken w m b h
  has_branched false w past m b h = paid_past (nat_le past b) w past m b refl h
