-- A term put in for a subterm, on runs: the run before it, the run of the new term, the run after it.
use Prim.Native.Nat.{ℕ, ◌+◌, ◌-◌, ◌≤◌, ◌<◌}
use native.Mathlib.Omega.{arith}
use mathlib.Core.Path.{◌≡◌, refl, sym, ap, ◌∙◌}
use mathlib.Core.Logic.{inl, inr}
use mathlib.Core.Bool.{Bool, true, false}
use mathlib.Core.Option.{some}
use mathlib.Core.List.{List, ◌++◌, append_assoc}
use lib.ListN.{length, take, drop, length-drop}
use lib.Seq.{length-take-le}
use Rattle.std.specs.Prelude.{Option, Some, None}
use Rattle.std.proofs.lemmas.List.{take_rest}
use Rattle.terms.specs.Term.{Term, letter, zero, one, add, mul, size, same}
use Rattle.terms.specs.Run.{run}
use Rattle.terms.specs.Held.{Fine, IsRun}
use Rattle.terms.specs.Theory.Reflects.{Reflects}
use Rattle.terms.specs.Theory.TermOrder.{same_reflects, told_apart}
use Rattle.terms.specs.Theory.Held.{size_of}
use Rattle.terms.specs.Promises.{Equals}
use Rattle.terms.proofs.Compared.{equal_reflects}
use Rattle.terms.proofs.Held.{held_part, run_one}
use Rattle.search.specs.Match.{Bindings, put}
use Rattle.search.specs.Place.{subterm_at, replace_at}
use Rattle.search.specs.Span.{span_of, Pattern, Meant, Means}
use Rattle.search.specs.Filled.{Between, Fills}
use Rattle.search.specs.Spliced.{part, Finished, Finishes, Put, Splices}
use Rattle.search.specs.declared.search.Spans.{Spans}
use Rattle.search.proofs.Front.{front_part}
use Rattle.search.proofs.Filling.{join_parts}
use Rattle.search.proofs.Splits.{fine_at, starts, run_spliced, size_replaced, fine_replaced}

-- what is put in is fine, since each part is
fine_put : {xs : List ℕ} {z : Spans} {σ : Bindings} → Means xs z σ → (p : Term) → Pattern p → (u : Term) → put p σ ≡ some u → Fine u
unfolding put Pattern Fine
fine_put {xs} {z} M (letter n) h u e = go (rw e at (M.letters n h))
  where
    go : Meant xs (span_of z n) (some u) → Fine u
    go m = m.0.fine
fine_put M zero h u e = let k : zero ≡ u = cc in rw (← k) tt
fine_put M one h u e = let k : one ≡ u = cc in rw (← k) tt
fine_put {σ = σ} M (add p q) h u e = let (s, t, a, b, k) = join_parts add (put p σ) (put q σ) u e in rw (← k) (fine_put M p h.0 s a, fine_put M q h.1 t b)
fine_put {σ = σ} M (mul p q) h u e = let (s, t, a, b, k) = join_parts mul (put p σ) (put q σ) u e in rw (← k) (fine_put M p h.0 s a, fine_put M q h.1 t b)

-- the test for the same terms

same_yes : (u w : Term) → u ≡ w → same u w ≡ true
same_yes u w e = go (same u w) (same_reflects u w)
  where
    go : (b : Bool) → Reflects (u ≡ w) b → b ≡ true
    go true h = refl
    go false h = absurd (h e)

-- the end of a splice

module _ (xs : List ℕ) (at end : ℕ) (before : List ℕ) (n m : ℕ) (out : List ℕ) (b : Bool) (E : Equals (part before n m) (part xs at end) b) where
  module _ (q : end ≤ length xs) (p : m ≤ length before) where
    pub finish_rest : (k : ℕ) → b ≡ false → length xs - end ≤ length before - m → k ≡ m + length (part xs end (length xs)) → take k out ≡ take m before ++ part xs end (length xs)
        → Finishes xs at end before n m out (Some k)
    finish_rest k e h c f =
        let j = take_rest xs end in
        let c' : k ≡ m + (length xs - end) = omega (arith, c, ap length j, length-drop end xs) in
        record { is = (rw e at (equal_reflects E), c', omega arith, rw j at f) }

-- the buffer too short for what stands before

module _ (q xs : List ℕ) (z : Spans) (at end room : ℕ) (out : List ℕ) where
  -- nothing, where each term that is put in has no room
  none_fits : ((t p u : Term) (σ : Bindings) → IsRun xs t → at < size t → Means xs z σ → IsRun q p → Pattern p → put p σ ≡ some u → room < size (replace_at t at u))
      → Splices q xs z at end room out None
  none_fits f = record { within = tt; exact = λ t p u σ ht h e M hp g j. inr (f t p u σ ht h M hp g j) }

  pub splice_short : room < at → Splices q xs z at end room out None
  splice_short k = none_fits (λ t p u σ ht h M hp g j. omega (arith, (size_replaced t at h u).0, (size_replaced t at h u).1))

-- the buffer after what stands before

module _ (q xs : List ℕ) (z : Spans) (at end : ℕ) (out out₁ out₂ : List ℕ) (n : ℕ) (r : Option ℕ)
    (p : at ≤ end) (p' : end ≤ length xs) (a : n ≡ 0 + length (take at xs)) (b : take n out₁ ≡ take 0 out ++ take at xs) (l : length out₁ ≡ length out)
    (F : Fills q xs z out₁ out₂ n r) where
  n_is : n ≡ at
  n_is = omega (arith, length-take-le at xs (omega arith))

  pub splice_unfilled : r ≡ None → Splices q xs z at end (length out) out₂ None
  splice_unfilled e =
      none_fits q xs z at end (length out) out₂
      (λ t p u σ ht h M hp g j. omega (arith, n_is, (size_replaced t at h u).0, (size_replaced t at h u).1, rw e at (F.exact p u σ M hp g j)))

  module _ (m : ℕ) (e : r ≡ Some m) where
    pub filled_within : (n ≤ m) × (m ≤ length out)
    filled_within = let w = (rw e at F).within in (w.0, omega (arith, w.1))

    module _ (out₃ : List ℕ) (f : Option ℕ) (l' : length out₂ ≡ length out₁) (G : Finishes xs at end out₂ n m out₃ f) where
      put_in : (t : Term) → IsRun xs t → at < size t → end ≡ at + size (subterm_at t at) → (u : Term) → Fine u → m ≡ n + size u → take m out₂ ≡ take n out₁ ++ run u
          → Put t at (length out) out₃ f u
      put_in t ht h g u fu c d = go f G.is
        where
          w : Term
          w = subterm_at t at

          fw : Fine w
          fw = fine_at t at ht.fine

          new : part out₂ n m ≡ run u
          new = front_part out₂ (take n out₁) (run u) n m d (length-take-le n out₁ (omega (arith, filled_within.0, filled_within.1))) (omega arith) (omega (arith, filled_within.0, filled_within.1))

          old : part xs at end ≡ run w
          old = (held_part (end - at) (starts ht h) (omega arith)).whole

          spliced : (k : ℕ) → take k out₃ ≡ take m out₂ ++ drop end xs → take k out₃ ≡ run (replace_at t at u)
          spliced k j =
              j
              ∙ ap (λ k. k ++ drop end xs) (d ∙ ap (λ k. k ++ run u) b)
              ∙ append_assoc (take at xs) (run u) (drop end xs)
              ∙ rw (g, ht.whole) (sym (run_spliced t at h u))

          unchanged : run u ≡ run w → u ≡ w
          unchanged k = run_one (record { fine = fu; whole = refl }) (record { fine = fw; whole = k })

          go : (f : Option ℕ) → Finished xs at end out₂ n m out₃ f → Put t at (length out) out₃ f u
          go None (inl k) = inl (same_yes u w (unchanged (sym new ∙ k ∙ old)))
          go None (inr k) = inr (omega (arith, n_is, size_of ht, (size_replaced t at h u).0))
          go (Some k) G = (
            told_apart u w (λ k. G.0 (new ∙ ap run k ∙ sym old)),
            omega (arith, n_is, size_of ht, (size_replaced t at h u).0, G.1, G.2),
            record { fine = fine_replaced t at u ht.fine fu; whole = spliced k G.3 },
          )

      pub splice_filled : Splices q xs z at end (length out) out₃ f
      splice_filled =
          record {
            within = inside f G.is;
            exact = λ t p u σ ht h g M hp gp j. let H = rw e at (F.exact p u σ M hp gp j) in put_in t ht h g u (fine_put M p gp u j) H.0 H.1;
          }
        where
          inside : (f : Option ℕ) → Finished xs at end out₂ n m out₃ f → Between 0 (length out) f
          inside None G = tt
          inside (Some k) G = (omega arith, omega (arith, G.2))
