-- A letter of a law meets a term: it stands for it, if it stood for none or for the same.
use Prim.Native.Nat.{ℕ, ◌+◌, ◌-◌, ◌≤◌, ◌<◌}
use native.Mathlib.Omega.{arith}
use mathlib.Core.Path.{◌≡◌, refl, ap, ◌∙◌}
use mathlib.Core.Bool.{Bool, true, false}
use mathlib.Core.Option.{Option, none, some}
use mathlib.Core.List.{List}
use lib.ListN.{length, take, drop}
use Rattle.terms.specs.Term.{Term, size, same}
use Rattle.terms.specs.Held.{Holds}
use Rattle.terms.specs.Promises.{Equals}
use Rattle.terms.specs.Theory.Reflects.{Reflects}
use Rattle.terms.specs.Theory.TermOrder.{same_reflects}
use Rattle.terms.proofs.Held.{held_part, size_pos}
use Rattle.search.specs.Match.{Bindings, meet, if_same}
use Rattle.search.specs.Span.{span_of, with_span, Meant, Means, Within, Found, BoundWithin, letter_met, Meets}
use Rattle.search.specs.declared.search.Span.{Span}
use Rattle.search.specs.declared.search.Spans.{Spans}
use Rattle.search.specs.declared.search.Binding.TheVariants.{Bound}
use Rattle.search.proofs.Spans.{means_bind, means_again, within_with}

module _ (xs : List ℕ) (z : Spans) (x at end : ℕ) (p : x < 3) (q : at ≤ end) (e : end ≤ length xs) (W : Within (length xs) z) (old : Span) (o : old ≡ span_of z x) where
  abbrev new : Span
  new = record { at = at; len = end - at }

  pub meets_new : old.len ≡ 0 → Meets xs z x at end (letter_met z x at end true)
  unfolding meet
  meets_new n =
      record {
        within = within_with (length xs) z x new W (omega arith);
        exact = λ t σ M h g. go t σ M h g (σ x) (M.letters x p);
      }
    where
      go : (t : Term) (σ : Bindings) → Means xs z σ → Holds xs at t → end ≡ at + size t → (u : Option Term) → Meant xs (span_of z x) u → Found xs (Bound (with_span z x new)) (meet x t σ u)
      go t σ M h g none m = means_bind x new t M p h (omega arith)
      go t σ M h g (some u) m = absurd (omega (arith, m.1, ap (λ (v : Span). v.len) o, size_pos u))

  module _ (b : Bool) (known : old.len ≡ 0 → ⊥) (E : Equals (take (old.at + old.len - old.at) (drop old.at xs)) (take (end - at) (drop at xs)) b) where
    -- by what the comparison says of the old term and the new one
    compared : (t u : Term) (σ : Bindings) → Means xs z σ → Holds xs at t → end ≡ at + size t → σ x ≡ some u → (c : Bool) → Reflects (u ≡ t) c → Found xs (letter_met z x at end c) (if_same c σ)
    unfolding if_same
    compared t u σ M h g k true e = means_again x new t M p h (omega arith) (k ∙ ap some e)
    compared t u σ M h g k false e = tt

    pub meets_old : Meets xs z x at end (letter_met z x at end b)
    unfolding meet
    meets_old = record { within = inside b; exact = λ t σ M h g. go t σ M h g (σ x) refl (M.letters x p) }
      where
        inside : (c : Bool) → BoundWithin (length xs) (letter_met z x at end c)
        inside true = within_with (length xs) z x new W (omega arith)
        inside false = tt

        go : (t : Term) (σ : Bindings) → Means xs z σ → Holds xs at t → end ≡ at + size t → (u : Option Term) → σ x ≡ u → Meant xs (span_of z x) u → Found xs (letter_met z x at end b) (meet x t σ u)
        go t σ M h g none k m = absurd (known (ap (λ (v : Span). v.len) o ∙ m))
        go t σ M h g (some u) k m =
            let s : b ≡ same u t = (rw o at E).terms u t (held_part ((span_of z x).at + (span_of z x).len - (span_of z x).at) m.0 (omega (arith, m.1))) (held_part (end - at) h (omega arith)) in
            rw s (compared t u σ M h g k (same u t) (same_reflects u t))
