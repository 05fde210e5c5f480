-- Patterns matched pair by pair with terms, a number of the two runs at a time.
use Prim.Native.Nat.{ℕ, ◌≤◌}
use native.Mathlib.Omega.{arith}
use mathlib.Core.Path.{◌≡◌, refl, ap}
use mathlib.Core.Option.{Option, none, some}
use mathlib.Core.List.{List, [], ◌∷◌, ◌++◌, append_assoc}
use lib.ListN.{length}
use Rattle.terms.specs.Term.{Term, letter, zero, one, add, mul}
use Rattle.terms.specs.Run.{ZERO, ONE, ADD, MUL, run}
use Rattle.terms.specs.Held.{Fine, runs, AllFine}
use Rattle.search.specs.Match.{Bindings, match}
use Rattle.search.specs.Span.{Pattern}

abbrev pub after : Option Bindings → (Bindings → Option Bindings) → Option Bindings
after none f = none
after (some u) f = f u

-- each pattern against the term at its place, the bindings handed on
unfoldable pub match_all : List Term → List Term → Bindings → Option Bindings
match_all [] ts σ = some σ
match_all (p ∷ ps) [] σ = none
match_all (p ∷ ps) (t ∷ ts) σ = after (match p t σ) (λ u. match_all ps ts u)

-- the number at the start of a run, and the terms after it
abbrev pub code : Term → ℕ
code (letter n) = n
code zero = ZERO
code one = ONE
code (add s t) = ADD
code (mul s t) = MUL

abbrev pub args : Term → List Term
args (letter n) = []
args zero = []
args one = []
args (add s t) = s ∷ t ∷ []
args (mul s t) = s ∷ t ∷ []

pub run_code : (t : Term) (ts : List Term) → run t ++ runs ts ≡ code t ∷ runs (args t ++ ts)
unfolding run
run_code (letter n) ts = refl
run_code zero ts = refl
run_code one ts = refl
run_code (add s t) ts = ap (λ k. ADD ∷ k) (append_assoc (run s) (run t) (runs ts))
run_code (mul s t) ts = ap (λ k. MUL ∷ k) (append_assoc (run s) (run t) (runs ts))

two_after : (o : Option Bindings) (f g : Bindings → Option Bindings) → after (elim o [ none ↦ none | some u ↦ f u ]) g ≡ after o (λ u. after (f u) g)
two_after none f g = refl
two_after (some u) f g = refl

-- a pattern that is no letter takes its number away from both runs, or does not match
pub record Node (p t : Term) : Type 0 where
  pub on : code t ≡ code p → (length (args p) ≡ length (args t)) × ((ps ts : List Term) (σ : Bindings) → match_all (p ∷ ps) (t ∷ ts) σ ≡ match_all (args p ++ ps) (args t ++ ts) σ)
  pub off : (code t ≡ code p → ⊥) → (ps ts : List Term) (σ : Bindings) → match_all (p ∷ ps) (t ∷ ts) σ ≡ none

other : {p t : Term} → (code t ≡ code p → ⊥) → ((σ : Bindings) → match p t σ ≡ none) → Node p t
unfolding match_all
other d m = record { on = λ e. absurd (d e); off = λ e ps ts σ. rw (m σ) }

pub node : (p t : Term) → 3 ≤ code p → Pattern p → Fine t → Node p t
unfolding match_all match Pattern Fine
node (letter m) t h g f = absurd (omega arith)
node zero (letter n) h g f = other (λ e. omega arith) (λ σ. refl)
node zero zero h g f = record { on = λ e. (refl, λ ps ts σ. refl); off = λ e. absurd (e refl) }
node zero one h g f = other (λ e. omega arith) (λ σ. refl)
node zero (add s t) h g f = other (λ e. omega arith) (λ σ. refl)
node zero (mul s t) h g f = other (λ e. omega arith) (λ σ. refl)
node one (letter n) h g f = other (λ e. omega arith) (λ σ. refl)
node one zero h g f = other (λ e. omega arith) (λ σ. refl)
node one one h g f = record { on = λ e. (refl, λ ps ts σ. refl); off = λ e. absurd (e refl) }
node one (add s t) h g f = other (λ e. omega arith) (λ σ. refl)
node one (mul s t) h g f = other (λ e. omega arith) (λ σ. refl)
node (add p q) (letter n) h g f = other (λ e. omega arith) (λ σ. refl)
node (add p q) zero h g f = other (λ e. omega arith) (λ σ. refl)
node (add p q) one h g f = other (λ e. omega arith) (λ σ. refl)
node (add p q) (add s t) h g f = record { on = λ e. (refl, λ ps ts σ. two_after (match p s σ) (λ u. match q t u) (λ u. match_all ps ts u)); off = λ e. absurd (e refl) }
node (add p q) (mul s t) h g f = other (λ e. omega arith) (λ σ. refl)
node (mul p q) (letter n) h g f = other (λ e. omega arith) (λ σ. refl)
node (mul p q) zero h g f = other (λ e. omega arith) (λ σ. refl)
node (mul p q) one h g f = other (λ e. omega arith) (λ σ. refl)
node (mul p q) (add s t) h g f = other (λ e. omega arith) (λ σ. refl)
node (mul p q) (mul s t) h g f = record { on = λ e. (refl, λ ps ts σ. two_after (match p s σ) (λ u. match q t u) (λ u. match_all ps ts u)); off = λ e. absurd (e refl) }

abbrev pub AllPatterns : List Term → Type 0
AllPatterns [] = Unit {0}
AllPatterns (p ∷ ps) = Pattern p × AllPatterns ps

pub args_patterns : (p : Term) (ps : List Term) → Pattern p → AllPatterns ps → AllPatterns (args p ++ ps)
unfolding Pattern
args_patterns (letter n) ps h a = a
args_patterns zero ps h a = a
args_patterns one ps h a = a
args_patterns (add p q) ps h a = (h.0, (h.1, a))
args_patterns (mul p q) ps h a = (h.0, (h.1, a))

pub args_fine : (t : Term) (ts : List Term) → Fine t → AllFine ts → AllFine (args t ++ ts)
unfolding Fine
args_fine (letter n) ts h a = a
args_fine zero ts h a = a
args_fine one ts h a = a
args_fine (add s t) ts h a = (h.0, (h.1, a))
args_fine (mul s t) ts h a = (h.0, (h.1, a))
