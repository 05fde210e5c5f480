-- Whether each letter of a law's side is known, read off its run number by number.
use Prim.Native.Nat.{ℕ, ◌<◌}
use native.Mathlib.Omega.{arith}
use mathlib.Core.Path.{◌≡◌, refl, sym, ap, ◌∙◌}
use mathlib.Core.Bool.{Bool, not, ◌&&◌, and-true}
use mathlib.Core.Option.{Option, none, some}
use mathlib.Core.List.{List, [], ◌++◌, append_assoc, append-nil}
use lib.Dec.{eqb}
use borrow.Author.Tests.{lt-ltb, eq-eqb, ne_eqb}
use Rattle.std.specs.List.{list_all}
use Rattle.terms.specs.Term.{Term, letter, zero, one, add, mul}
use Rattle.terms.specs.Run.{run}
use Rattle.terms.proofs.Held.{size_pos}
use Rattle.search.specs.Match.{Bindings, put, join}
use Rattle.search.specs.Span.{span_of, Pattern, Meant, Means}
use Rattle.search.specs.Bound.{known, is_known, BindsAll}
use Rattle.search.specs.declared.search.Spans.{Spans}

-- each letter of a run has a part
abbrev all_known : Spans → List ℕ → Bool
all_known z q = list_all (is_known z) q

letter_known : {xs : List ℕ} {z : Spans} {σ : Bindings} (n : ℕ) → Means xs z σ → n < 3 → is_known z n ≡ known (σ n)
letter_known {xs} {z} {σ} n M h = rw (lt-ltb n 3 h) (go (σ n) (M.letters n h))
  where
    go : (o : Option Term) → Meant xs (span_of z n) o → not (eqb (span_of z n).len 0) ≡ known o
    go none m = rw (eq-eqb (span_of z n).len 0 m)
    go (some u) m = rw (ne_eqb (span_of z n).len 0 (λ e. omega (arith, m.1, size_pos u)))

join_known : (f : Term → Term → Term) (a b : Option Term) (c : Bool) → (known a && (known b && c)) ≡ (known (join f a b) && c)
unfolding join
join_known f none b c = refl
join_known f (some s) none c = refl
join_known f (some s) (some t) c = refl

known_run : {xs : List ℕ} {z : Spans} {σ : Bindings} → Means xs z σ → (p : Term) → Pattern p → (q : List ℕ) → all_known z (run p ++ q) ≡ (known (put p σ) && all_known z q)
unfolding run put Pattern
known_run {z = z} M (letter n) h q = ap (λ b. b && all_known z q) (letter_known n M h)
known_run M zero h q = refl
known_run M one h q = refl
known_run {z = z} {σ = σ} M (add p r) h q =
    rw (append_assoc (run p) (run r) q, known_run M p h.0 (run r ++ q), known_run M r h.1 q) (join_known add (put p σ) (put r σ) (all_known z q))
known_run {z = z} {σ = σ} M (mul p r) h q =
    rw (append_assoc (run p) (run r) q, known_run M p h.0 (run r ++ q), known_run M r h.1 q) (join_known mul (put p σ) (put r σ) (all_known z q))

pub binds_all : (q : List ℕ) (z : Spans) (b : Bool) → b ≡ list_all (is_known z) q → BindsAll q z b
binds_all q z b e =
    record {
      exact = λ xs p σ M hp g.
          e ∙ ap (all_known z) (hp.whole ∙ sym (append-nil (run p))) ∙ known_run M p g [] ∙ and-true (known (put p σ));
    }
