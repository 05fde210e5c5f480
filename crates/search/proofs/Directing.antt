-- The direct match, law by law: the laws before the n-th do not match, so that what is left of the list decides.
use Prim.Native.Nat.{ℕ, ◌+◌, ◌≤◌, ◌<◌}
use native.Mathlib.Omega.{arith}
use mathlib.Core.Path.{◌≡◌, refl, sym, ap, ◌∙◌}
use mathlib.Core.Option.{Option, none, some}
use mathlib.Core.List.{List, ◌∷◌, ◌++◌, append_assoc}
use lib.ListN.{length, take, drop, take-append-drop}
use Rattle.std.specs.Prelude.{Option as Answer, Some, None}
use Rattle.terms.specs.Term.{Term}
use Rattle.terms.specs.Run.{run}
use Rattle.terms.specs.Held.{IsRun, Holds}
use Rattle.terms.specs.Theory.Held.{size_of}
use Rattle.terms.proofs.Positions.{drop_past}
use Rattle.search.specs.Law as law
use Rattle.search.specs.Law.{Name, semiring}
use Rattle.search.specs.Match.{Bindings, unbound, match}
use Rattle.search.specs.Search.{direct}
use Rattle.search.specs.Span.{no_spans, Found, Matches}
use Rattle.search.specs.Coded.{name_of, numbered_law, law_of, Sides}
use Rattle.search.specs.Directly.{match_sides, BindsSides, TakesFirst, Directs}
use Rattle.search.specs.declared.search.Law.{Law}
use Rattle.search.specs.declared.search.Spans.{Spans}
use Rattle.search.specs.declared.search.Binding.{Binding}
use Rattle.search.specs.declared.search.Binding.TheVariants.{Bound, Unbound}
use Rattle.search.proofs.Coded.{law_named, laws_left, no_laws_left, law_numbered}
use Rattle.search.proofs.Spans.{means_unbound}

-- both sides of a law

module _ (l r : List ℕ) (w : Law) (S : Sides l r (law_of w)) (xs : List ℕ) (middle : ℕ) (z₀ : Spans) (b : Binding) (n : z₀ ≡ no_spans) (M : Matches l xs 0 z₀ b) where
  left_found : (s : Term) → Holds xs 0 s → Found xs b (match (law_of w).left s unbound)
  left_found s h = M.exact (law_of w).left s unbound (means_unbound n) S.left.is S.left.pattern h

  pub sides_unbound : b ≡ Unbound → BindsSides w xs middle Unbound
  unfolding match_sides
  sides_unbound e = record { within = tt; exact = λ s t hs ht. go t (match (law_of w).left s unbound) (rw e at (left_found s hs)) }
    where
      go : (t : Term) (o : Option Bindings) → Found xs Unbound o → Found xs Unbound (elim o [ none ↦ none | some u ↦ match (law_of w).right t u ])
      go t none F = tt
      go t (some u) F = absurd F

  pub sides_bound : (z : Spans) (b' : Binding) → b ≡ Bound z → Matches r xs middle z b' → BindsSides w xs middle b'
  unfolding match_sides
  sides_bound z b' e M' = record { within = M'.within; exact = λ s t hs ht. go t ht (match (law_of w).left s unbound) (rw e at (left_found s hs)) }
    where
      go : (t : Term) → Holds xs middle t → (o : Option Bindings) → Found xs (Bound z) o → Found xs b' (elim o [ none ↦ none | some u ↦ match (law_of w).right t u ])
      go t ht none F = absurd F
      go t ht (some u) F = M'.exact (law_of w).right t u F S.right.is S.right.pattern ht

-- the laws one after another

abbrev first_of : Option Bindings → Name → Option Name → Option Name
first_of none n o = o
first_of (some u) n o = some n

direct_one : (w : law.Law) (ws : List law.Law) (s t : Term) → direct (w ∷ ws) s t ≡ first_of (match_sides w s t) w.name (direct ws s t)
unfolding direct match_sides
direct_one w ws s t = left (match w.left s unbound)
  where
    right : (o : Option Bindings) → elim o [ none ↦ direct ws s t | some v ↦ some w.name ] ≡ first_of o w.name (direct ws s t)
    right none = refl
    right (some v) = refl

    left : (o : Option Bindings) → elim o [ none ↦ direct ws s t | some u ↦ elim (match w.right t u) [ none ↦ direct ws s t | some v ↦ some w.name ] ]
        ≡ first_of (elim o [ none ↦ none | some u ↦ match w.right t u ]) w.name (direct ws s t)
    left none = refl
    left (some u) = right (match w.right t u)

-- none of the first n laws matches
pub record Passing (xs : List ℕ) (middle n : ℕ) : Type 0 where
  pub left : (s t : Term) → Holds xs 0 s → Holds xs middle t → direct semiring s t ≡ direct (drop n semiring) s t

module _ (xs : List ℕ) (middle n : ℕ) (P : Passing xs middle n) where
  module _ (w : Law) (r : Binding) (h : n < 10) (e : w ≡ numbered_law n) (B : BindsSides w xs middle r) where
    -- what the search gives, by what was found of this law
    decided : (s t : Term) → Holds xs 0 s → Holds xs middle t → (o : Option Bindings) → match_sides (law_of w) s t ≡ o
        → direct semiring s t ≡ first_of o (name_of w) (direct (drop (n + 1) semiring) s t)
    decided s t hs ht o f =
        P.left s t hs ht
        ∙ ap (λ ws. direct ws s t) (laws_left n h ∙ ap (λ v. v ∷ drop (n + 1) semiring) (sym (law_numbered w n h e)))
        ∙ direct_one (law_of w) (drop (n + 1) semiring) s t
        ∙ rw (f, law_named w)

    pub passed_over : r ≡ Unbound → Passing xs middle (n + 1)
    passed_over j = record { left = λ s t hs ht. go s t hs ht (match_sides (law_of w) s t) refl (rw j at (B.exact s t hs ht)) }
      where
        go : (s t : Term) → Holds xs 0 s → Holds xs middle t → (o : Option Bindings) → match_sides (law_of w) s t ≡ o → Found xs Unbound o
            → direct semiring s t ≡ direct (drop (n + 1) semiring) s t
        go s t hs ht none f F = decided s t hs ht none f
        go s t hs ht (some u) f F = absurd F

    pub law_taken : (z : Spans) → r ≡ Bound z → TakesFirst xs middle (Some w)
    law_taken z j = record { exact = λ s t hs ht. go s t hs ht (match_sides (law_of w) s t) refl (rw j at (B.exact s t hs ht)) }
      where
        go : (s t : Term) → Holds xs 0 s → Holds xs middle t → (o : Option Bindings) → match_sides (law_of w) s t ≡ o → Found xs (Bound z) o
            → some (name_of w) ≡ direct semiring s t
        go s t hs ht none f F = absurd F
        go s t hs ht (some u) f F = sym (decided s t hs ht (some u) f)

  pub no_law : 10 ≤ n → TakesFirst xs middle None
  unfolding direct
  no_law h = record { exact = λ s t hs ht. sym (P.left s t hs ht ∙ rw (no_laws_left n h)) }

-- the two runs in one list

both_held : (left right xs : List ℕ) (m k : ℕ) {s t : Term} → m ≡ length left → take k xs ≡ left ++ right → IsRun left s → IsRun right t → Holds xs 0 s × Holds xs m t
both_held left right xs m k {s} {t} e f hs ht =
    let whole : xs ≡ run s ++ (run t ++ drop k xs) = sym (take-append-drop k xs) ∙ ap (λ l. l ++ drop k xs) f ∙ append_assoc left right (drop k xs) ∙ rw (hs.whole, ht.whole) in
    let past : m ≡ 0 + length (run s) = omega (arith, ap length hs.whole) in (
      record { fine = hs.fine; rest = run t ++ drop k xs; here = whole },
      record { fine = ht.fine; rest = drop k xs; here = rw past (drop_past xs (run s) (run t ++ drop k xs) 0 whole) },
    )

module _ (left right : List ℕ) where
  pub direct_long : 31 < length left → Directs left right None
  direct_long h = record { exact = λ s t hs ht p q. absurd (omega (arith, size_of hs)) }

  pub direct_long_right : 31 < length right → Directs left right None
  direct_long_right h = record { exact = λ s t hs ht p q. absurd (omega (arith, size_of ht)) }

  pub direct_found : (out both₁ both₂ : List ℕ) (m k : ℕ) (r : Answer Law) → m ≡ 0 + length left → take m both₁ ≡ take 0 out ++ left → take k both₂ ≡ take m both₁ ++ right
      → TakesFirst both₂ m r → Directs left right r
  direct_found out both₁ both₂ m k r e f g T =
      record {
        exact = λ s t hs ht p q.
            let h = both_held left right both₂ m k (omega arith) (g ∙ ap (λ l. l ++ right) f) hs ht in
            T.exact s t h.0 h.1;
      }
