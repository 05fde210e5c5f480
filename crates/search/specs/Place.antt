-- Places of a term by number: the subterms counted from 0 in the order root, left part, right part, which is the order of a run.
use Rattle.std.specs.Prelude.{ℕ, suc, ◌-◌, cond, List, [], ◌∷◌, ◌++◌, map, ltb}
use Rattle.terms.specs.Term.{Term, letter, zero, one, add, mul, size}
use Rattle.search.specs.Law.{Law}
use Rattle.search.specs.Line.{Line, Side, l, r, root_lines}

unfoldable pub subterm_at : Term → ℕ → Term
unfolding size
subterm_at (letter n) i = letter n
subterm_at zero i = zero
subterm_at one i = one
subterm_at (add s t) ℕ.zero = add s t
subterm_at (add s t) (suc i) = cond (ltb i (size s)) (subterm_at s i) (subterm_at t (i - size s))
subterm_at (mul s t) ℕ.zero = mul s t
subterm_at (mul s t) (suc i) = cond (ltb i (size s)) (subterm_at s i) (subterm_at t (i - size s))

unfoldable pub place_at : Term → ℕ → List Side
unfolding size
place_at (letter n) i = []
place_at zero i = []
place_at one i = []
place_at (add s t) ℕ.zero = []
place_at (add s t) (suc i) = cond (ltb i (size s)) (l ∷ place_at s i) (r ∷ place_at t (i - size s))
place_at (mul s t) ℕ.zero = []
place_at (mul s t) (suc i) = cond (ltb i (size s)) (l ∷ place_at s i) (r ∷ place_at t (i - size s))

-- the term with u for the subterm that has number i
unfoldable pub replace_at : Term → ℕ → Term → Term
unfolding size
replace_at (letter n) i u = u
replace_at zero i u = u
replace_at one i u = u
replace_at (add s t) ℕ.zero u = u
replace_at (add s t) (suc i) u = cond (ltb i (size s)) (add (replace_at s i u) t) (add s (replace_at t (i - size s) u))
replace_at (mul s t) ℕ.zero u = u
replace_at (mul s t) (suc i) u = cond (ltb i (size s)) (mul (replace_at s i u) t) (mul s (replace_at t (i - size s) u))

-- a line on the subterm with number i, as a line on the whole
unfoldable pub placed : Term → ℕ → Line → Line
unfolding place_at replace_at
placed t i x = record { law = x.law; direction = x.direction; place = place_at t i; result = replace_at t i x.result }

unfoldable pub lines_at : List Law → Term → ℕ → List Line
unfolding root_lines subterm_at placed
lines_at ws t i = map (placed t i) (root_lines ws (subterm_at t i))

-- f 0, f 1, .. below n, one after the other
unfoldable pub gather : {A : Type 0} → (ℕ → List A) → ℕ → List A
gather f ℕ.zero = []
gather f (suc n) = f 0 ++ gather (λ i. f (suc i)) n
