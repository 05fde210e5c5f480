-- The pieces of the proof text, in the order in which they are put.
use Rattle.std.specs.Prelude.{ℕ, zero, suc, List, [], ◌++◌}
use Rattle.terms.specs.Term.{Term}
use Rattle.search.specs.Line.{Side}
use Rattle.text.specs.Bytes.{ascii}
use Rattle.text.specs.Proof.{variable, part, term, context}

module _ (names : List ℕ) where
  -- the context of a part and what it is before and after, up to the proof of the part
  unfoldable pub frame : Side → Term → Term → List ℕ
  unfolding ascii context term part
  frame d u v =
      ascii "(app (app (app (app (ref eq_ap) (lam hole "
      ++ (context names d u ++ (ascii ")) " ++ (term names (part d u) ++ (ascii ") " ++ (term names (part d v) ++ ascii ") ")))))

  -- the ends of two proofs that are joined, and the term between them, up to the proofs
  unfoldable pub ends : Term → Term → Term → List ℕ
  unfolding ascii term
  ends s u v =
      ascii "(app (app (app (app (app (ref eq_trans) "
      ++ (term names s ++ (ascii ") " ++ (term names u ++ (ascii ") " ++ (term names v ++ ascii ") ")))))

-- n binders, x0 first
unfoldable pub opens : ℕ → List ℕ
unfolding ascii variable
opens zero = []
opens (suc n) = opens n ++ (ascii "(lam " ++ (variable n ++ ascii " "))

-- the ends of n binders
unfoldable pub closes : ℕ → List ℕ
unfolding ascii
closes zero = []
closes (suc n) = closes n ++ ascii ")"
