-- A law's sides at one place: what the matcher found, and whether it binds each letter of the side that is put in.
use Prim.Native.Nat.{ℕ}
use native.Mathlib.Omega.{arith}
use mathlib.Core.Path.{◌≡◌, refl, sym, ◌∙◌}
use mathlib.Core.Bool.{Bool, true, false}
use mathlib.Core.Option.{Option, none, some}
use mathlib.Core.List.{List}
use Rattle.terms.specs.Term.{Term}
use Rattle.terms.specs.Held.{IsRun, Holds}
use Rattle.search.specs.Match.{Bindings, unbound, match, put}
use Rattle.search.specs.Line.{rewrite}
use Rattle.search.specs.Span.{no_spans, Pattern, Means, Found, Matches}
use Rattle.search.specs.Bound.{known, BindsAll, BindsSide}
use Rattle.search.specs.declared.search.Spans.{Spans}
use Rattle.search.specs.declared.search.Binding.{Binding}
use Rattle.search.specs.declared.search.Binding.TheVariants.{Bound, Unbound}
use Rattle.search.proofs.Spans.{means_unbound}

-- `rewrite`, by what the matcher found

module _ (p q t : Term) where
  pub rewrite_unmatched : match p t unbound ≡ none → rewrite p q t ≡ none
  unfolding rewrite
  rewrite_unmatched e = rw (e, rewrite)

  pub rewrite_matched : (σ : Bindings) → match p t unbound ≡ some σ → rewrite p q t ≡ put q σ
  unfolding rewrite
  rewrite_matched σ e = rw (e, rewrite)

known_some : (o : Option Term) → true ≡ known o → (u : Term) × (o ≡ some u)
known_some none e = absurd (let z : ◌≡◌ {A = ℕ} 0 1 = cc in omega arith)
known_some (some u) e = (u, refl)

known_none : (o : Option Term) → false ≡ known o → o ≡ none
known_none none e = refl
known_none (some u) e = absurd (let z : ◌≡◌ {A = ℕ} 0 1 = cc in omega arith)

module _ (p q xs : List ℕ) (at : ℕ) (z₀ : Spans) (r : Binding) (n : z₀ ≡ no_spans) (M : Matches p xs at z₀ r) where
  answer : (b : Binding) → r ≡ b → (u t : Term) → IsRun p u → Pattern u → Holds xs at t → Found xs b (match u t unbound)
  answer b e u t hp gp H = rw e at (M.exact u t unbound (means_unbound n) hp gp H)

  pub side_unbound : r ≡ Unbound → BindsSide p q xs at Unbound
  side_unbound e = record { within = tt; exact = λ u v t hp gp hq gq H. rewrite_unmatched u v t (go (match u t unbound) (answer Unbound e u t hp gp H)) }
    where
      go : (o : Option Bindings) → Found xs Unbound o → o ≡ none
      go none F = refl
      go (some σ) F = absurd F

  module _ (z : Spans) (b : Bool) (e : r ≡ Bound z) (B : BindsAll q z b) where
    found : (u t : Term) → IsRun p u → Pattern u → Holds xs at t → (σ : Bindings) × (match u t unbound ≡ some σ) × Means xs z σ
    found u t hp gp H = go (match u t unbound) (answer (Bound z) e u t hp gp H)
      where
        go : (o : Option Bindings) → Found xs (Bound z) o → (σ : Bindings) × (o ≡ some σ) × Means xs z σ
        go none F = absurd F
        go (some σ) F = (σ, refl, F)

    pub side_missing : b ≡ false → BindsSide p q xs at Unbound
    side_missing k =
        record {
          within = tt;
          exact = λ u v t hp gp hq gq H.
              let (σ, j, m) = found u t hp gp H in
              rewrite_matched u v t σ j ∙ known_none (put v σ) (sym k ∙ B.exact xs v σ m hq gq);
        }

    pub side_bound : b ≡ true → BindsSide p q xs at (Bound z)
    side_bound k =
        record {
          within = (rw e at M).within;
          exact = λ u v t hp gp hq gq H.
              let (σ, j, m) = found u t hp gp H in
              let (x, i) = known_some (put v σ) (sym k ∙ B.exact xs v σ m hq gq) in
              record { terms = σ; matched = j; means = m; result = x; put_in = i };
        }
