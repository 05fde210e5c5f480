-- The sides of the laws: that each is a short pattern is one test, computed over the law list.
use Prim.Native.Nat.{ℕ}
use native.Mathlib.Omega.{arith}
use mathlib.Core.Path.{◌≡◌, refl}
use mathlib.Core.Bool.{Bool, true, ◌&&◌}
use mathlib.Core.List.{List}
use lib.Dec.{T, ltb, ltb→lt, leb, leb→le}
use lib.ListN.{length}
use Rattle.terms.specs.Term as term
use Rattle.terms.specs.Term.{Term, letter, add, mul}
use Rattle.terms.specs.Run.{run}
use Rattle.terms.specs.Held.{Fine}
use Rattle.terms.specs.Theory.Reflects.{both}
use Rattle.search.specs.Law as law
use Rattle.search.specs.Law.{semiring}
use Rattle.search.specs.Span.{Pattern}
use Rattle.search.specs.Line.{from, to}
use Rattle.search.specs.Coded.{law_at, law_of, SideRun, Sides, Directed}
use Rattle.search.specs.declared.search.Law.{Law}
use Rattle.search.specs.declared.search.Direction.{Direction}
use Rattle.search.specs.declared.search.Direction.TheVariants.{Forward, Back}
use Rattle.search.proofs.Coded.{every, law_tested}

-- the test of one side

is_pattern : Term → Bool
is_pattern (letter n) = ltb n 3
is_pattern term.zero = true
is_pattern term.one = true
is_pattern (add p q) = is_pattern p && is_pattern q
is_pattern (mul p q) = is_pattern p && is_pattern q

pattern_is : (p : Term) → T (is_pattern p) → Pattern p × Fine p
unfolding is_pattern Pattern Fine
pattern_is (letter n) h = let k = ltb→lt n 3 h in (k, omega arith)
pattern_is term.zero h = (tt, tt)
pattern_is term.one h = (tt, tt)
pattern_is (add p q) h = parts p q (is_pattern p) (is_pattern q) (pattern_is p) (pattern_is q) h
  where
    parts : (p q : Term) (b c : Bool) → (T b → Pattern p × Fine p) → (T c → Pattern q × Fine q) → T (b && c) → (Pattern p × Pattern q) × (Fine p × Fine q)
    parts p q b c f g h = let (i, j) = both b c h in (((f i).0, (g j).0), ((f i).1, (g j).1))
pattern_is (mul p q) h = let (i, j) = both (is_pattern p) (is_pattern q) h in (((pattern_is p i).0, (pattern_is q j).0), ((pattern_is p i).1, (pattern_is q j).1))

is_side : Term → Bool
is_side p = leb (length (run p)) 7 && is_pattern p

side_is : (p : Term) → T (is_side p) → SideRun (run p) p
unfolding is_side
side_is p h =
    let (s, g) = both (leb (length (run p)) 7) (is_pattern p) h in
    let (a, f) = pattern_is p g in
    record { pattern = a; short = leb→le (length (run p)) 7 s; is = record { fine = f; whole = refl } }

-- the test of both

has_sides : law.Law → Bool
has_sides w = is_side w.left && is_side w.right

sides_are : (w : law.Law) → T (has_sides w) → Sides (run w.left) (run w.right) w
unfolding has_sides
sides_are w h = let (a, b) = both (is_side w.left) (is_side w.right) h in record { left = side_is w.left a; right = side_is w.right b }

pub law_sides : (w v : Law) → w ≡ v → Sides (run (law_of v).left) (run (law_of v).right) (law_of w)
unfolding law_at every has_sides is_side is_pattern run semiring
law_sides w v e = rw e (sides_are (law_of v) (law_tested has_sides tt v))

-- read in a direction

module _ (l r : List ℕ) (w : Law) (S : Sides l r (law_of w)) (d : Direction) where
  pub read_forward : d ≡ Forward → Directed l r w d
  unfolding from to
  read_forward e = rw e (record { replaced = S.left; put_in = S.right })

  pub read_back : d ≡ Back → Directed r l w d
  unfolding from to
  read_back e = rw e (record { replaced = S.right; put_in = S.left })
