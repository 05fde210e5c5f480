-- The parts of a run that a law's letters stand for, and what they say of the terms there.
use Rattle.std.specs.Prelude.{ℕ, ◌+◌, ◌-◌, ◌≤◌, ◌<◌, ◌≡◌, Bool, true, false, cond, List, eqb, length}
use Rattle.std.proofs.Math.Option.{Option, none, some}
use Rattle.terms.specs.Term.{Term, letter, zero, one, add, mul, size}
use Rattle.terms.specs.Held.{IsRun, Holds}
use Rattle.search.specs.Match.{Bindings, match, meet}
use Rattle.search.specs.declared.search.Span.{Span}
use Rattle.search.specs.declared.search.Spans.{Spans}
use Rattle.search.specs.declared.search.Binding.{Binding}
use Rattle.search.specs.declared.search.Binding.TheVariants.{Bound, Unbound}

abbrev pub no_spans : Spans
no_spans = record { a = record { at = 0; len = 0 }; b = record { at = 0; len = 0 }; c = record { at = 0; len = 0 } }

-- the part of letter 0, of letter 1, of any other
unfoldable pub span_of : Spans → ℕ → Span
span_of z n = cond (eqb n 0) z.a (cond (eqb n 1) z.b z.c)

unfoldable pub with_span : Spans → ℕ → Span → Spans
with_span z n v =
    cond (eqb n 0) (record { a = v; b = z.b; c = z.c }) (cond (eqb n 1) (record { a = z.a; b = v; c = z.c }) (record { a = z.a; b = z.b; c = v }))

-- a law's side: its letters are 0, 1 and 2
unfoldable pub Pattern : Term → Type 0
Pattern (letter n) = n < 3
Pattern zero = Unit {0}
Pattern one = Unit {0}
Pattern (add p q) = Pattern p × Pattern q
Pattern (mul p q) = Pattern p × Pattern q

-- the part holds the run of the term that a letter stands for; an unknown letter has a part of no numbers
abbrev pub Meant : List ℕ → Span → Option Term → Type 0
Meant xs v none = v.len ≡ 0
Meant xs v (some u) = Holds xs v.at u × (v.len ≡ size u)

pub record Means (xs : List ℕ) (z : Spans) (σ : Bindings) : Type 0 where
  pub letters : (n : ℕ) → n < 3 → Meant xs (span_of z n) (σ n)

-- the parts lie in a list of n numbers
pub record Within (n : ℕ) (z : Spans) : Type 0 where
  pub a : z.a.at + z.a.len ≤ n
  pub b : z.b.at + z.b.len ≤ n
  pub c : z.c.at + z.c.len ≤ n

-- a matcher's answer against what matching terms gives
abbrev pub Found : List ℕ → Binding → Option Bindings → Type 0
Found xs (Bound z) none = ⊥
Found xs (Bound z) (some σ) = Means xs z σ
Found xs Unbound none = Unit {0}
Found xs Unbound (some σ) = ⊥

abbrev pub BoundWithin : ℕ → Binding → Type 0
BoundWithin n (Bound z) = Within n z
BoundWithin n Unbound = Unit {0}

-- letter x bound to the term from at to end, if it may be
abbrev pub letter_met : Spans → ℕ → ℕ → ℕ → Bool → Binding
letter_met z x at end true = Bound (with_span z x (record { at = at; len = end - at }))
letter_met z x at end false = Unbound

-- letter x meets the term whose run stands from at to end
pub record Meets (xs : List ℕ) (z : Spans) (x at end : ℕ) (r : Binding) : Type 0 where
  pub within : BoundWithin (length xs) r
  pub exact : (t : Term) (σ : Bindings) → Means xs z σ → Holds xs at t → end ≡ at + size t → Found xs r (meet x t σ (σ x))

-- what holds of matching the pattern whose run is ps against the term whose run starts at a position of xs, from the bindings that z means
abbrev pub Matching : List ℕ → List ℕ → ℕ → Spans → (Option Bindings → Type 0) → Type 0
Matching ps xs at z Q = (p t : Term) (σ : Bindings) → Means xs z σ → IsRun ps p → Pattern p → Holds xs at t → Q (match p t σ)

pub record Matches (ps xs : List ℕ) (at : ℕ) (z : Spans) (r : Binding) : Type 0 where
  pub within : BoundWithin (length xs) r
  pub exact : Matching ps xs at z (Found xs r)
