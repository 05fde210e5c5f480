-- A law's letters bound at one place: the side that is read matches there, and each letter of the side that is put in is known.
use Rattle.std.specs.Prelude.{ℕ, ◌<◌, ◌≡◌, Bool, true, false, not, cond, List, eqb, ltb, length, get_or}
use Rattle.std.proofs.Math.Option.{Option, none, some}
use Rattle.terms.specs.Term.{Term, size}
use Rattle.terms.specs.Run.{run}
use Rattle.terms.specs.Held.{IsRun, Holds}
use Rattle.search.specs.Law as law
use Rattle.search.specs.Match.{Bindings, unbound, match, put}
use Rattle.search.specs.Line.{forward, back, from, to, rewrite}
use Rattle.search.specs.Place.{subterm_at}
use Rattle.search.specs.Span.{span_of, Pattern, Means, BoundWithin}
use Rattle.search.specs.Coded.{law_of, direction_of}
use Rattle.search.specs.declared.search.Law.{Law}
use Rattle.search.specs.declared.search.Direction.{Direction}
use Rattle.search.specs.declared.search.Direction.TheVariants.{Back}
use Rattle.search.specs.declared.search.Spans.{Spans}
use Rattle.search.specs.declared.search.Binding.{Binding}
use Rattle.search.specs.declared.search.Binding.TheVariants.{Bound, Unbound}

abbrev pub known : Option Term → Bool
known none = false
known (some u) = true

-- a number that is no letter is known, and so is a letter that has a part
abbrev pub is_known : Spans → ℕ → Bool
is_known z x = cond (ltb x 3) (not (eqb (span_of z x).len 0)) true

-- whether each letter of the side with run q stands for a term
pub record BindsAll (q : List ℕ) (z : Spans) (r : Bool) : Type 0 where
  pub exact : (xs : List ℕ) (p : Term) (σ : Bindings) → Means xs z σ → IsRun q p → Pattern p → r ≡ known (put p σ)

-- the parts z are the terms by which p becomes t, and q is a term with them put in
pub record BoundBy (xs : List ℕ) (z : Spans) (p q t : Term) : Type 0 where
  pub terms : Bindings
  pub matched : match p t unbound ≡ some terms
  pub means : Means xs z terms
  pub result : Term
  pub put_in : put q terms ≡ some result

-- the matcher's answer for a law that is read from p to q, against the term t
abbrev pub Answers : List ℕ → Term → Term → Term → Binding → Type 0
Answers xs p q t (Bound z) = BoundBy xs z p q t
Answers xs p q t Unbound = rewrite p q t ≡ none

-- of `bind_side`: p and q are the runs of a law's sides
pub record BindsSide (p q xs : List ℕ) (at : ℕ) (r : Binding) : Type 0 where
  pub within : BoundWithin (length xs) r
  pub exact : (u v t : Term) → IsRun p u → Pattern u → IsRun q v → Pattern v → Holds xs at t → Answers xs u v t r

-- the number that a run begins with where p is rewritten to q: the first of p, a letter of which stands for any term; 4100, which no run
-- has, where q has a letter that p leaves unbound
unfoldable pub first_number : Term → Term → ℕ
unfolding rewrite run
first_number p q = elim (rewrite p q p) [ none ↦ 4100 | some u ↦ get_or (run p) 0 0 ]

-- of `first_of`
abbrev pub first_of : Law → Direction → ℕ
first_of w d = first_number (from (direction_of d) (law_of w)) (to (direction_of d) (law_of w))

-- the law makes of every term the same back as forward
abbrev pub BackAsForward : law.Law → Type 0
BackAsForward w = (t : Term) → rewrite (from back w) (to back w) t ≡ rewrite (from forward w) (to forward w) t

-- of `repeats`: where it is true the law is read back and makes what it makes forward
pub record Repeats (w : Law) (d : Direction) (r : Bool) : Type 0 where
  pub exact : r ≡ true → (d ≡ Back) × BackAsForward (law_of w)

-- of `bind_law`
pub record BindsLaw (w : Law) (d : Direction) (xs : List ℕ) (at : ℕ) (r : Binding) : Type 0 where
  pub within : BoundWithin (length xs) r
  pub exact : (t : Term) → IsRun xs t → at < size t → Answers xs (from (direction_of d) (law_of w)) (to (direction_of d) (law_of w)) (subterm_at t at) r

-- of `misses`: where it is true the law is not bound
pub record Misses (w : Law) (d : Direction) (xs : List ℕ) (at : ℕ) (r : Bool) : Type 0 where
  pub exact : r ≡ true → BindsLaw w d xs at Unbound
