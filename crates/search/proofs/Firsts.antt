-- The number that a run begins with where a law is bound: another one there tells that it is not, and a letter that the law adds two nodes.
use Prim.Native.Nat.{ℕ, ◌+◌, ◌-◌, ◌*◌, ◌≤◌, ◌<◌}
use native.Mathlib.Omega.{arith}
use native.Mathlib.Nat.{add-mul}
use mathlib.Core.Path.{◌≡◌, refl, sym, ap, ap₂, ◌∙◌}
use mathlib.Core.Bool.{Bool, true, not, ◌&&◌}
use mathlib.Core.Option.{Option, none, some}
use mathlib.Core.List.{List, [], ◌++◌}
use lib.Dec.{T, eqb, eqb→eq, ltb}
use lib.ListN.{length, drop, get_or, length-append}
use borrow.Author.Tests.{ltb-true, eqb-false, not-true}
use Rattle.std.specs.Prelude.{None}
use Rattle.terms.specs.Term as term
use Rattle.terms.specs.Term.{Term, letter, add, mul, size, subst}
use Rattle.terms.specs.Run.{run}
use Rattle.terms.specs.Held.{Fine, Holds}
use Rattle.terms.specs.Letters.{letters}
use Rattle.terms.specs.Theory.Reflects.{both}
use Rattle.terms.specs.Theory.Held.{length_run}
use Rattle.terms.proofs.Positions.{drop_head}
use Rattle.search.specs.Law.{semiring}
use Rattle.search.specs.Match.{Bindings, unbound, match}
use Rattle.search.specs.Line.{from, to, rewrite}
use Rattle.search.specs.Place.{subterm_at}
use Rattle.search.specs.Span.{Pattern}
use Rattle.search.specs.Coded.{law_at, law_of, direction_of}
use Rattle.search.specs.Bound.{first_number, first_of, Misses}
use Rattle.search.specs.Spliced.{Tries, Outgrows}
use Rattle.search.specs.Theory.Rewrite.{Covers, Rewritten, rewrite_rewritten}
use Rattle.search.specs.declared.search.Law.{Law}
use Rattle.search.specs.declared.search.Direction.{Direction}
use Rattle.search.specs.declared.search.Direction.TheVariants.{Forward, Back}
use Rattle.search.proofs.Coded.{every, law_tested}
use Rattle.search.proofs.Rows.{law_sides}
use Rattle.search.proofs.Pairs.{after, match_all, code, node}
use Rattle.search.proofs.Rewriting.{rewrite_unmatched}
use Rattle.search.proofs.Splits.{starts, size_replaced}
use Rattle.search.proofs.Trying.{tried_long}

first_code : (t : Term) → get_or (run t) 0 0 ≡ code t
unfolding run
first_code (letter n) = refl
first_code term.zero = refl
first_code term.one = refl
first_code (add s t) = refl
first_code (mul s t) = refl

-- the side that is matched is a pattern
from_pattern : (w : Law) (d : Direction) → Pattern (from (direction_of d) (law_of w))
unfolding from
from_pattern w Forward = (law_sides w w refl).left.pattern
from_pattern w Back = (law_sides w w refl).right.pattern

unmatched : (p t : Term) → 3 ≤ code p → Pattern p → Fine t → (code t ≡ code p → ⊥) → match p t unbound ≡ none
unfolding match_all
unmatched p t h g f e = go (match p t unbound) ((node p t h g f).off e [] [] unbound)
  where
    go : (o : Option Bindings) → after o (λ u. some u) ≡ none → o ≡ none
    go none q = refl
    go (some u) q = q

-- each letter put in for itself
subst_letter : (t : Term) → subst letter t ≡ t
unfolding subst
subst_letter (letter n) = refl
subst_letter term.zero = refl
subst_letter term.one = refl
subst_letter (add s t) = ap₂ add (subst_letter s) (subst_letter t)
subst_letter (mul s t) = ap₂ mul (subst_letter s) (subst_letter t)

-- one term put in for each letter
size_filled : (t q : Term) → size (subst (λ n. t) q) + length (letters q) ≡ size q + length (letters q) * size t
unfolding subst size letters
size_filled t (letter n) = omega arith
size_filled t term.zero = omega arith
size_filled t term.one = omega arith
size_filled t (add p q) = rw (length-append (letters p) (letters q), add-mul (length (letters p)) (length (letters q)) (size t)) (omega (arith, size_filled t p, size_filled t q))
size_filled t (mul p q) = rw (length-append (letters p) (letters q), add-mul (length (letters p)) (length (letters q)) (size t)) (omega (arith, size_filled t p, size_filled t q))

-- where the side read is a letter, the side put in has three nodes, one of them a letter
widens : Term → Term → Bool
widens (letter m) q = eqb (size q) 3 && eqb (length (letters q)) 1
widens term.zero q = true
widens term.one q = true
widens (add u v) q = true
widens (mul u v) q = true

-- `first_number` of two sides, by whether the first is rewritten itself
module _ (p q t : Term) where
  -- a letter that the side read leaves unbound is so in each term
  never : rewrite p q p ≡ none → rewrite p q t ≡ none
  never e = go (rewrite p q t) (rewrite_rewritten p q t)
    where
      go : (o : Option Term) → Rewritten p q t o → o ≡ none
      go none R = refl
      go (some u) R = absurd ((rw e at (rewrite_rewritten p q p)) R.covers letter (subst_letter p))

  -- a term whose run begins with another number is not rewritten
  other : Pattern p → Fine t → 3 ≤ first_number p q → (get_or (run t) 0 0 ≡ first_number p q → ⊥) → rewrite p q t ≡ none
  unfolding first_number
  other g f = go (rewrite p q p) refl
    where
      go : (o : Option Term) → rewrite p q p ≡ o → let n : ℕ = elim o [ none ↦ 4100 | some u ↦ get_or (run p) 0 0 ] in 3 ≤ n → (get_or (run t) 0 0 ≡ n → ⊥) → rewrite p q t ≡ none
      go none e h k = never e
      go (some u) e h k = rewrite_unmatched p q t (unmatched p t (omega (arith, first_code p)) g f (λ i. k (first_code t ∙ i ∙ sym (first_code p))))

module _ (q t : Term) where
  -- a letter is any term, which is put in for each letter
  filled : (m : ℕ) → Covers (letter m) q → rewrite (letter m) q t ≡ some (subst (λ n. t) q)
  unfolding subst
  filled m c = go (rewrite (letter m) q t) (rewrite_rewritten (letter m) q t)
    where
      go : (o : Option Term) → Rewritten (letter m) q t o → o ≡ some (subst (λ n. t) q)
      go none R = absurd (R c (λ n. t) refl)
      go (some u) R = ap some (sym (R.unique (λ n. t) refl))

  abbrev Longer : Term → Type 0
  Longer p = (u : Term) × (rewrite p q t ≡ some u) × (size u ≡ size t + 2)

  -- where the number is a letter, each term is rewritten to one with two nodes more
  longer : (p : Term) → T (widens p q) → first_number p q < 3 → Longer p
  unfolding first_number widens
  longer p W = go (rewrite p q p) refl
    where
      at_letter : (p : Term) → T (widens p q) → Covers p q → code p < 3 → Longer p
      at_letter (letter m) W c h =
          let (i, j) = both (eqb (size q) 3) (eqb (length (letters q)) 1) W in
          let one = eqb→eq (length (letters q)) 1 j in
          (subst (λ n. t) q, filled m c, omega (arith, eqb→eq (size q) 3 i, one, rw one at (size_filled t q)))
      at_letter term.zero W c h = absurd (omega arith)
      at_letter term.one W c h = absurd (omega arith)
      at_letter (add u v) W c h = absurd (omega arith)
      at_letter (mul u v) W c h = absurd (omega arith)

      go : (o : Option Term) → rewrite p q p ≡ o → elim o [ none ↦ 4100 | some u ↦ get_or (run p) 0 0 ] < 3 → Longer p
      go none e h = absurd (omega arith)
      go (some u) e h = at_letter p W (rw e at (rewrite_rewritten p q p)).covers (omega (arith, first_code p))

-- the test of the sides, computed over the law list
law_widens : (w : Law) (d : Direction) → T (widens (from (direction_of d) (law_of w)) (to (direction_of d) (law_of w)))
unfolding every law_at semiring from to widens size letters
law_widens w Forward = law_tested (λ v. widens v.left v.right) tt w
law_widens w Back = law_tested (λ v. widens v.right v.left) tt w

-- the number of a law and a direction, known by what they are

pub firsts_told : (w v : Law) → w ≡ v → (first_of v Forward ≡ first_of w Forward) × (first_of v Back ≡ first_of w Back)
firsts_told w v e = (ap (λ u. first_of u Forward) (sym e), ap (λ u. first_of u Back) (sym e))

-- the test at a place

head_of : {xs : List ℕ} {at : ℕ} {t : Term} → Holds xs at t → get_or xs at 0 ≡ get_or (run t) 0 0
unfolding run
head_of {xs} {at} {t} H = go t H.here
  where
    go : (t : Term) → drop at xs ≡ run t ++ H.rest → get_or xs at 0 ≡ get_or (run t) 0 0
    go (letter n) e = (drop_head xs at n H.rest e).1
    go term.zero e = (drop_head xs at _ H.rest e).1
    go term.one e = (drop_head xs at _ H.rest e).1
    go (add u v) e = (drop_head xs at _ _ e).1
    go (mul u v) e = (drop_head xs at _ _ e).1

pub missed : (w : Law) (d : Direction) (xs : List ℕ) (at n : ℕ) → n ≡ first_of w d → 3 ≤ n → Misses w d xs at (not (eqb (get_or xs at 0) n))
missed w d xs at n N h =
    record {
      exact = λ q.
          record {
            within = tt;
            exact = λ t ht k.
                let H = starts ht k in
                other (from (direction_of d) (law_of w)) (to (direction_of d) (law_of w)) (subterm_at t at) (from_pattern w d) H.fine (omega (arith, N))
                (λ g. eqb-false (get_or xs at 0) n (not-true (eqb (get_or xs at 0) n) q) (head_of H ∙ g ∙ sym N));
          };
    }

-- the test of the room

module _ (w : Law) (d : Direction) (n room k : ℕ) (K : k ≡ first_of w d) (l : k < 3) where
  outgrown : (r : Bool) → (r ≡ true → room < n + 2) → Outgrows w d n room r
  outgrown r h =
      record {
        exact = λ q t i e g.
            let (u, f, z) = longer (to (direction_of d) (law_of w)) (subterm_at t i) (from (direction_of d) (law_of w)) (law_widens w d) (omega (arith, K)) in
            let b = h q in
            tried_long room t i (law_of w) (direction_of d) u f (omega (arith, size_replaced t i g u));
      }

  pub outgrown_near : (s : ℕ) → s ≡ room - n → Outgrows w d n room (ltb s 2)
  outgrown_near s h = outgrown (ltb s 2) (λ q. omega (arith, ltb-true s 2 q))

pub tries_outgrown : (w : Law) (d : Direction) (xs : List ℕ) (at room : ℕ) (out : List ℕ) (r : Bool) → Outgrows w d (length xs) room r → r ≡ true → Tries w d xs at room out None
tries_outgrown w d xs at room out r O q =
    record { within = tt; exact = λ t ht h. rw (O.exact q t at (omega (arith, length_run t, ap length ht.whole)) h) tt }
