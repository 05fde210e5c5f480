-- A law that makes of every term the same back as forward: after its line forward the line back is lost.
use Prim.Native.Nat.{ℕ}
use mathlib.Core.Path.{◌≡◌, refl, ap, ◌∙◌}
use mathlib.Core.Bool.{Bool, true, false, cond}
use mathlib.Core.Option.{Option, none, some}
use mathlib.Core.List.{List, [], ◌∷◌, map}
use Rattle.terms.specs.Term as term
use Rattle.terms.specs.Term.{Term, letter, add, mul, same}
use Rattle.terms.specs.Sort.{lost, insert, repeat}
use Rattle.terms.specs.Theory.Order.{cases}
use Rattle.terms.specs.Theory.Insert.{insert_lt, insert_eq, insert_gt}
use Rattle.terms.specs.Theory.TermOrder.{term_order}
use Rattle.search.specs.Law as law
use Rattle.search.specs.Law.{semiring}
use Rattle.search.specs.Match.{unbound, bind, meet, match, put, join}
use Rattle.search.specs.Line as line
use Rattle.search.specs.Line.{Line, Limits, forward, back, by_result, within, allowed, from, to, rewrite, changed, at_root}
use Rattle.search.specs.Place.{subterm_at, placed}
use Rattle.search.specs.Coded.{law_at, law_of}
use Rattle.search.specs.Bound.{BackAsForward, Repeats}
use Rattle.search.specs.Search.{Noted, is_noted}
use Rattle.search.specs.Ordered.{inserted, unknown, joined}
use Rattle.search.specs.declared.search.Law.{Law}
use Rattle.search.specs.declared.search.Law.TheVariants.{AddComm}
use Rattle.search.specs.declared.search.Direction.{Direction}
use Rattle.search.specs.declared.search.Direction.TheVariants.{Back}
use Rattle.search.proofs.Unknown.{told, unknown_in, unknown_out}
use Rattle.search.proofs.Resulting.{allowed_in, allowed_out}

-- the test

comm_back : BackAsForward (law_of AddComm)
unfolding law_at semiring from to rewrite match meet bind put join unbound
comm_back (letter n) = refl
comm_back term.zero = refl
comm_back term.one = refl
comm_back (add s t) = refl
comm_back (mul s t) = refl

pub comm_repeated : (w : Law) (d : Direction) (b : Bool) → w ≡ AddComm → (b ≡ true → d ≡ Back) → Repeats w d b
comm_repeated w d b e k = record { exact = λ q. (k q, rw e comm_back) }

-- a line after one with the same result

module _ (x y : Line) (e : y.result ≡ x.result) where
  inserted_twice : (ys : List Line) → inserted y (inserted x ys) ≡ inserted x ys
  unfolding insert repeat
  inserted_twice [] = insert_eq lost by_result {x = y} {y = x} [] (rw e (term_order.reflexive x.result))
  inserted_twice (z ∷ zs) =
      cases (by_result x z)
      (λ c. rw (insert_lt lost by_result {x = x} {y = z} zs c) (insert_eq lost by_result {x = y} {y = x} (z ∷ zs) (rw e (term_order.reflexive x.result))))
      (λ c. rw (insert_eq lost by_result {x = x} {y = z} zs c) (insert_eq lost by_result {x = y} {y = z} zs (rw e c)))
      (λ c. rw (insert_gt lost by_result {x = x} {y = z} zs c)
      (insert_gt lost by_result {x = y} {y = z} (inserted x zs) (rw e c) ∙ ap (λ l. z ∷ l) (inserted_twice zs)))

  pub joined_twice : (ns : List Noted) (ys : List Line) → joined ns (joined ns ys (x ∷ [])) (y ∷ []) ≡ joined ns ys (x ∷ [])
  unfolding unknown
  joined_twice ns ys =
      told (is_noted x.result ns)
      (λ k. rw (unknown_out ns x [] k, unknown_out ns y [] (rw e k)))
      (λ k. rw (unknown_in ns x [] k, unknown_in ns y [] (rw e k)) (inserted_twice ys))

-- the line back after the line forward

-- no lines, or one with the law and the result of another
pub data Again : List Line → List Line → Type 0 where
  nothing : Again [] []
  once : (x y : Line) → y.law ≡ x.law → y.result ≡ x.result → Again (x ∷ []) (y ∷ [])

module _ (m : Limits) (t : Term) (i : ℕ) (w : law.Law) where
  allowed_again : (x y : Line) → y.law ≡ x.law → y.result ≡ x.result → Again (allowed m (x ∷ [])) (allowed m (y ∷ []))
  unfolding allowed
  allowed_again x y n e =
      told (within m x.result)
      (λ h. rw (allowed_in m x [] h, allowed_in m y [] (rw e h)) (once x y n e))
      (λ h. rw (allowed_out m x [] h, allowed_out m y [] (rw e h)) nothing)

  -- the line at a place, by what the law makes there
  abbrev made : line.Direction → Option Term → List Line
  made d o = map (placed t i) (changed (subterm_at t i) w d o)

  made_again : (o : Option Term) → Again (allowed m (made forward o)) (allowed m (made back o))
  unfolding changed placed allowed
  made_again none = nothing
  made_again (some u) = go (same u (subterm_at t i))
    where
      root : line.Direction → Line
      root d = record { law = w.name; direction = d; place = []; result = u }

      go : (b : Bool) → Again (allowed m (map (placed t i) (cond b [] (root forward ∷ [])))) (allowed m (map (placed t i) (cond b [] (root back ∷ []))))
      go true = nothing
      go false = allowed_again (placed t i (root forward)) (placed t i (root back)) refl refl

  abbrev lines_of : line.Direction → List Line
  lines_of d = map (placed t i) (at_root (subterm_at t i) w d)

  pub back_again : BackAsForward w → Again (allowed m (lines_of forward)) (allowed m (lines_of back))
  unfolding at_root
  back_again f = rw (f (subterm_at t i)) (made_again (rewrite (from forward w) (to forward w) (subterm_at t i)))

-- so its result is in its place already
pub back_lost : (ns : List Noted) (ys : List Line) {fs bs : List Line} → Again fs bs → joined ns (joined ns ys fs) bs ≡ joined ns ys fs
unfolding unknown
back_lost ns ys nothing = refl
back_lost ns ys (once x y n e) = joined_twice x y e ns ys
