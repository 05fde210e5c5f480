-- No byte of a proof text is below a space, and so it is one line.
use Rattle.std.specs.Prelude.{ℕ, suc, refl, Bool, T, eqb}
use Prim.Native.Char.{code}
use Rattle.std.proofs.Common.{arith}
use Rattle.std.proofs.Math.Bool.{true, false}
use Rattle.std.proofs.Math.Option.{Option, none, some}
use mathlib.Core.List.{List, [], ◌∷◌, ◌++◌, foldl}
use Rattle.terms.specs.Lists.{◌∈◌, here, there}
use Rattle.terms.specs.Term.{Term, letter, zero, one, add, mul}
use Rattle.terms.specs.Letters.{letters, rising}
use Rattle.search.specs.Law.{Law, Name, rank}
use Rattle.search.specs.Match.{Bindings}
use Rattle.search.specs.Line.{Line, Direction, forward, back, Side, l, r}
use Rattle.search.specs.Directly.{match_sides}
use Rattle.text.specs.Bytes.{ascii}
use Rattle.text.specs.StepText.{law_name}
use Rattle.text.specs.Proof.{ref, app, lam, call, hole, index_of, variable, part, term, bound, applied, context}
use Rattle.text.specs.Proof.{at_place, one_line, joined, chain, binders, proof}
use Rattle.text.specs.Theory.AtLeast.{Printable, at_least, tested, higher, append_least}
use Rattle.text.specs.Theory.Numbers.{number_least}

-- each of the texts is printable
data Each : List (List ℕ) → Type 0 where
  empty : Each []
  more : {p : List ℕ} {ps : List (List ℕ)} → Printable p → Each ps → Each (p ∷ ps)

enclosed : (a p b : List ℕ) → Printable a → Printable p → Printable b → Printable (a ++ (p ++ b))
enclosed a p b h i j = append_least _ a h (append_least _ p i j)

ref_printable : (p : List ℕ) → Printable p → Printable (ref p)
unfolding ref
ref_printable p h = enclosed (ascii "(ref ") p (ascii ")") (tested _ _ tt) h (tested _ _ tt)

app_printable : (p q : List ℕ) → Printable p → Printable q → Printable (app p q)
unfolding app
app_printable p q h k =
    enclosed (ascii "(app ") p (ascii " " ++ (q ++ ascii ")")) (tested _ _ tt) h (enclosed (ascii " ") q (ascii ")") (tested _ _ tt) k (tested _ _ tt))

lam_printable : (p q : List ℕ) → Printable p → Printable q → Printable (lam p q)
unfolding lam
lam_printable p q h k =
    enclosed (ascii "(lam ") p (ascii " " ++ (q ++ ascii ")")) (tested _ _ tt) h (enclosed (ascii " ") q (ascii ")") (tested _ _ tt) k (tested _ _ tt))

apps_printable : {ps : List (List ℕ)} → Each ps → (p : List ℕ) → Printable p → Printable (foldl app p ps)
apps_printable empty p h = h
apps_printable (more {p = q} k each) p h = apps_printable each (app p q) (app_printable p q h k)

call_printable : (p : List ℕ) {ps : List (List ℕ)} → Printable p → Each ps → Printable (call p ps)
unfolding call
call_printable p h each = apps_printable each (ref p) (ref_printable p h)

-- a name that is known, applied
known_printable : (p : List ℕ) {ps : List (List ℕ)} → T (at_least (code " ") p) → Each ps → Printable (call p ps)
known_printable p t each = call_printable p (tested _ p t) each

hole_printable : Printable hole
unfolding hole
hole_printable = tested _ _ tt

variable_printable : (i : ℕ) → Printable (variable i)
unfolding variable
variable_printable i = append_least _ (ascii "x") (tested _ _ tt) (higher (omega arith) (number_least i))

module _ (names : List ℕ) where
  term_printable : (t : Term) → Printable (term names t)
  unfolding term
  term_printable (letter n) = ref_printable _ (variable_printable (index_of n names))
  term_printable zero = tested _ _ tt
  term_printable one = tested _ _ tt
  term_printable (add s t) = known_printable (ascii "add") tt (more (term_printable s) (more (term_printable t) empty))
  term_printable (mul s t) = known_printable (ascii "mul") tt (more (term_printable s) (more (term_printable t) empty))

  bound_printable : (ns : List ℕ) (s : Bindings) → Each (bound names ns s)
  unfolding bound
  bound_printable [] s = empty
  bound_printable (n ∷ ns) s = go (s n) (bound_printable ns s)
    where
      go : (o : Option Term) → Each (bound names ns s) → Each (elim o [ none ↦ bound names ns s | some t ↦ term names t ∷ bound names ns s ])
      go none h = h
      go (some t) h = more (term_printable t) h

  context_printable : (d : Side) (t : Term) → Printable (context names d t)
  unfolding context
  context_printable d (letter n) = tested _ _ tt
  context_printable d zero = tested _ _ tt
  context_printable d one = tested _ _ tt
  context_printable l (add s u) = known_printable (ascii "add") tt (more hole_printable (more (term_printable u) empty))
  context_printable r (add u s) = known_printable (ascii "add") tt (more (term_printable u) (more hole_printable empty))
  context_printable l (mul s u) = known_printable (ascii "mul") tt (more hole_printable (more (term_printable u) empty))
  context_printable r (mul u s) = known_printable (ascii "mul") tt (more (term_printable u) (more hole_printable empty))

  -- the name of the law that is used is printable
  module _ (n : Name) (h : Printable (law_name n)) where
    applied_printable : (ws : List Law) (s t : Term) → Printable (applied names ws n s t)
    unfolding applied
    applied_printable [] s t = tested _ _ tt
    applied_printable (w ∷ ws) s t = go (eqb (rank w.name) (rank n)) (match_sides w s t) (applied_printable ws s t)
      where
        go : (b : Bool) (o : Option Bindings) → Printable (applied names ws n s t)
            → Printable (elim b [ false ↦ applied names ws n s t | true ↦ elim o [ none ↦ [] | some u ↦ call (law_name n) (bound names (0 ∷ 1 ∷ 2 ∷ []) u) ] ])
        go false o k = k
        go true none k = tested _ _ tt
        go true (some u) k = call_printable (law_name n) h (bound_printable (0 ∷ 1 ∷ 2 ∷ []) u)

    at_place_printable : (ws : List Law) (d : Direction) (s t : Term) → Printable (at_place names ws d n s t)
    unfolding at_place
    at_place_printable ws forward s t = applied_printable ws s t
    at_place_printable ws back s t =
        known_printable (ascii "eq_symm") tt (more (term_printable t) (more (term_printable s) (more (applied_printable ws t s) empty)))

    one_line_printable : (ws : List Law) (p : List Side) (d : Direction) (s t : Term) → Printable (one_line names ws p d n s t)
    unfolding one_line
    one_line_printable ws [] d s t = at_place_printable ws d s t
    one_line_printable ws (x ∷ p) d s t =
        let u = part x s in
        let v = part x t in
        let around = lam_printable (ascii "hole") (context names x s) (tested _ _ tt) (context_printable x s) in
        known_printable (ascii "eq_ap") tt (more around (more (term_printable u) (more (term_printable v) (more (one_line_printable ws p d u v) empty))))

  module _ (ws : List Law) where
    line_printable : (s : Term) (x : Line) → Printable (law_name x.law) → Printable (one_line names ws x.place x.direction x.law s x.result)
    line_printable s x h = one_line_printable x.law h ws x.place x.direction s x.result

    joined_printable : (s m : Term) (p : List ℕ) (xs : List Line) → Printable p → ((x : Line) → x ∈ xs → Printable (law_name x.law))
        → Printable (joined names ws s m p xs)
    unfolding joined
    joined_printable s m p [] h named = h
    joined_printable s m p (x ∷ xs) h named =
        let q = line_printable m x (named x (here refl)) in
        joined_printable s x.result _ xs
        (known_printable (ascii "eq_trans") tt (more (term_printable s) (more (term_printable m) (more (term_printable x.result) (more h (more q empty))))))
        (λ y i. named y (there i))

    chain_printable : (s : Term) (xs : List Line) → ((x : Line) → x ∈ xs → Printable (law_name x.law)) → Printable (chain names ws s xs)
    unfolding chain
    chain_printable s [] named = tested _ _ tt
    chain_printable s (x ∷ xs) named =
        joined_printable s x.result _ xs (line_printable s x (named x (here refl))) (λ y i. named y (there i))

binders_printable : (ns : List ℕ) (i : ℕ) (p : List ℕ) → Printable p → Printable (binders i ns p)
unfolding binders
binders_printable [] i p h = h
binders_printable (n ∷ ns) i p h = lam_printable _ _ (variable_printable i) (binders_printable ns (suc i) p h)

pub proof_printable : (ws : List Law) (s t : Term) (xs : List Line) → ((x : Line) → x ∈ xs → Printable (law_name x.law)) → Printable (proof ws s t xs)
unfolding proof
proof_printable ws s t xs named =
    let names : List ℕ = rising (letters s ++ letters t) in binders_printable names 0 (chain names ws s xs) (chain_printable names ws s xs named)
