-- Matching read off two runs from left to right: the patterns and the terms still to come, matched pair by pair.
use Prim.Native.Nat.{ℕ, ◌+◌, ◌-◌, ◌≤◌, ◌<◌}
use native.Mathlib.Omega.{arith}
use mathlib.Core.Path.{◌≡◌, refl, sym, ap, ◌∙◌}
use mathlib.Core.Bool.{Bool, true, false}
use mathlib.Core.Option.{Option, none, some}
use mathlib.Core.List.{List, [], ◌∷◌, ◌++◌, append_assoc, append-nil}
use lib.ListN.{length, drop, get_or, length-drop, length-append, drop_of_length-le}
use Rattle.terms.specs.Term.{Term, letter, zero, one, add, mul}
use Rattle.terms.specs.Run.{ZERO, ONE, ADD, MUL, run}
use Rattle.terms.specs.Held.{Fine, Holds, runs, AllFine}
use Rattle.terms.specs.Promises.{Ends}
use Rattle.terms.specs.Theory.Held.{length_run}
use Rattle.terms.proofs.Positions.{drop_head, drop_past}
use Rattle.terms.proofs.Held.{size_pos}
use Rattle.search.specs.Match.{Bindings, match, meet}
use Rattle.search.specs.Span.{with_span, Pattern, Means, Within, Found, letter_met, Meets, Matching}
use Rattle.search.specs.declared.search.Spans.{Spans}
use Rattle.search.specs.declared.search.Binding.{Binding}
use Rattle.search.specs.declared.search.Binding.TheVariants.{Bound, Unbound}
use Rattle.search.proofs.Pairs.{after, match_all, code, args, run_code, Node, node, AllPatterns, args_patterns, args_fine}

-- the patterns from position k of P on, the terms from position i of xs on, and the bindings that the parts z stand for:
-- matched in turn they give o
pub record Pending (P : List ℕ) (k : ℕ) (xs : List ℕ) (i : ℕ) (z : Spans) (o : Option Bindings) : Type 0 where
  pub ps : List Term
  pub ts : List Term
  pub σ : Bindings
  pub rest : List ℕ
  pub left : drop k P ≡ runs ps
  pub patterns : AllPatterns ps
  pub here : drop i xs ≡ runs ts ++ rest
  pub fine : AllFine ts
  pub count : length ps ≡ length ts
  pub means : Means xs z σ
  pub outcome : match_all ps ts σ ≡ o

-- the first pattern and term of what is pending
record Next (P : List ℕ) (k : ℕ) (xs : List ℕ) (i : ℕ) (z : Spans) (o : Option Bindings) : Type 0 where
  p : Term
  t : Term
  ps : List Term
  ts : List Term
  σ : Bindings
  rest : List ℕ
  left : drop k P ≡ code p ∷ runs (args p ++ ps)
  pattern : Pattern p
  patterns : AllPatterns ps
  here : drop i xs ≡ run t ++ (runs ts ++ rest)
  fine : Fine t
  fines : AllFine ts
  count : length ps ≡ length ts
  means : Means xs z σ
  outcome : match_all (p ∷ ps) (t ∷ ts) σ ≡ o

next : {P : List ℕ} {k : ℕ} {xs : List ℕ} {i : ℕ} {z : Spans} {o : Option Bindings} → k < length P → Pending P k xs i z o → Next P k xs i z o
next {P} {k} {xs} {i} {z} {o} h S = go S.ps S.ts S.left S.patterns S.here S.fine S.count S.outcome
  where
    go : (ps ts : List Term) → drop k P ≡ runs ps → AllPatterns ps → drop i xs ≡ runs ts ++ S.rest → AllFine ts → length ps ≡ length ts → match_all ps ts S.σ ≡ o → Next P k xs i z o
    go [] ts l a e f n q = absurd (omega (arith, length-drop k P, ap length l))
    go (p ∷ ps) [] l a e f n q = absurd (omega arith)
    go (p ∷ ps) (t ∷ ts) l a e f n q =
        record {
          p = p;
          t = t;
          ps = ps;
          ts = ts;
          σ = S.σ;
          rest = S.rest;
          left = l ∙ run_code p ps;
          pattern = a.0;
          patterns = a.1;
          here = e ∙ append_assoc (run t) (runs ts) S.rest;
          fine = f.0;
          fines = f.1;
          count = omega arith;
          means = S.means;
          outcome = q;
        }

module _ (P : List ℕ) (k : ℕ) (xs : List ℕ) (i : ℕ) (z : Spans) (o : Option Bindings) where
  held : (N : Next P k xs i z o) → Holds xs i N.t
  held N = record { fine = N.fine; rest = runs N.ts ++ N.rest; here = N.here }

  first_code : (N : Next P k xs i z o) → get_or P k 0 ≡ code N.p
  first_code N = (drop_head P k (code N.p) (runs (args N.p ++ N.ps)) N.left).1

  -- a letter met: what was found goes on with the pairs after it
  met : (N : Next P k xs i z o) (e : ℕ) (r : Binding) → get_or P k 0 < 3 → Ends xs i e → Meets xs z (get_or P k 0) i e r
      → (drop (k + 1) P ≡ runs N.ps) × (drop e xs ≡ runs N.ts ++ N.rest) × ((m : Option Bindings) × Found xs r m × (after m (λ u. match_all N.ps N.ts u) ≡ o))
  unfolding match_all match
  met N e r g E M = go N.p N.left N.outcome
    where
      past : drop e xs ≡ runs N.ts ++ N.rest
      past = rw (E.exact N.t (held N), ← (length_run N.t)) (drop_past xs (run N.t) (runs N.ts ++ N.rest) i N.here)

      go : (p : Term) → drop k P ≡ code p ∷ runs (args p ++ N.ps) → match_all (p ∷ N.ps) (N.t ∷ N.ts) N.σ ≡ o
          → (drop (k + 1) P ≡ runs N.ps) × (drop e xs ≡ runs N.ts ++ N.rest) × ((m : Option Bindings) × Found xs r m × (after m (λ u. match_all N.ps N.ts u) ≡ o))
      go (letter n) l q =
          let d = drop_head P k n (runs N.ps) l in
          (d.2, past, (meet n N.t N.σ (N.σ n), rw d.1 at (M.exact N.t N.σ N.means (held N) (E.exact N.t (held N))), q))
      go zero l q = absurd (omega (arith, (drop_head P k ZERO (runs N.ps) l).1))
      go one l q = absurd (omega (arith, (drop_head P k ONE (runs N.ps) l).1))
      go (add u v) l q = absurd (omega (arith, (drop_head P k ADD (run u ++ (run v ++ runs N.ps)) l).1))
      go (mul u v) l q = absurd (omega (arith, (drop_head P k MUL (run u ++ (run v ++ runs N.ps)) l).1))

  letter_on : (e : ℕ) (y : Spans) → k < length P → get_or P k 0 < 3 → Ends xs i e → Meets xs z (get_or P k 0) i e (Bound y) → Pending P k xs i z o → Pending P (k + 1) xs e y o
  letter_on e y h g E M S = on (next h S)
    where
      on : (N : Next P k xs i z o) → Pending P (k + 1) xs e y o
      on N = let A = met N e (Bound y) g E M in bound A.0 A.1 A.2.0 A.2.1 A.2.2
        where
          bound : drop (k + 1) P ≡ runs N.ps → drop e xs ≡ runs N.ts ++ N.rest → (m : Option Bindings) → Found xs (Bound y) m → after m (λ u. match_all N.ps N.ts u) ≡ o → Pending P (k + 1) xs e y o
          bound l d none F q = absurd F
          bound l d (some τ) F q =
              record { ps = N.ps; ts = N.ts; σ = τ; rest = N.rest; left = l; patterns = N.patterns; here = d; fine = N.fines; count = N.count; means = F; outcome = q }

  letter_off : (e : ℕ) → k < length P → get_or P k 0 < 3 → Ends xs i e → Meets xs z (get_or P k 0) i e Unbound → Pending P k xs i z o → Found xs Unbound o
  letter_off e h g E M S = let A = met (next h S) e Unbound g E M in unmet A.2.0 A.2.1 A.2.2
    where
      unmet : (m : Option Bindings) → Found xs Unbound m → after m (λ u. match_all (next h S).ps (next h S).ts u) ≡ o → Found xs Unbound o
      unmet none F q = rw (← q) tt
      unmet (some τ) F q = absurd F

  term_code : (N : Next P k xs i z o) → drop i xs ≡ code N.t ∷ (runs (args N.t ++ N.ts) ++ N.rest)
  term_code N = N.here ∙ sym (append_assoc (run N.t) (runs N.ts) N.rest) ∙ ap (λ l. l ++ N.rest) (run_code N.t N.ts)

  same_code : (N : Next P k xs i z o) → get_or xs i 0 ≡ code N.t
  same_code N = (drop_head xs i (code N.t) (runs (args N.t ++ N.ts) ++ N.rest) (term_code N)).1

  node_of : (N : Next P k xs i z o) → 3 ≤ get_or P k 0 → Node N.p N.t
  node_of N g = node N.p N.t (omega (arith, first_code N)) N.pattern N.fine

  node_on : k < length P → 3 ≤ get_or P k 0 → get_or xs i 0 ≡ get_or P k 0 → Pending P k xs i z o → Pending P (k + 1) xs (i + 1) z o
  node_on h g e S = on (next h S)
    where
      on : (N : Next P k xs i z o) → Pending P (k + 1) xs (i + 1) z o
      on N =
          let D = (node_of N g).on (omega (arith, same_code N, first_code N)) in
          record {
            ps = args N.p ++ N.ps;
            ts = args N.t ++ N.ts;
            σ = N.σ;
            rest = N.rest;
            left = (drop_head P k (code N.p) (runs (args N.p ++ N.ps)) N.left).2;
            patterns = args_patterns N.p N.ps N.pattern N.patterns;
            here = (drop_head xs i (code N.t) (runs (args N.t ++ N.ts) ++ N.rest) (term_code N)).2;
            fine = args_fine N.t N.ts N.fine N.fines;
            count = omega (arith, length-append (args N.p) N.ps, length-append (args N.t) N.ts, D.0, N.count);
            means = N.means;
            outcome = sym (D.1 N.ps N.ts N.σ) ∙ N.outcome;
          }

  node_off : k < length P → 3 ≤ get_or P k 0 → (get_or xs i 0 ≡ get_or P k 0 → ⊥) → Pending P k xs i z o → Found xs Unbound o
  node_off h g e S = off (next h S)
    where
      off : (N : Next P k xs i z o) → Found xs Unbound o
      off N = rw (← N.outcome, (node_of N g).off (λ q. e (omega (arith, same_code N, first_code N))) N.ps N.ts N.σ) tt

  node_short : k < length P → length xs ≤ i → Pending P k xs i z o → Found xs Unbound o
  node_short h b S = absurd (short (next h S))
    where
      short : (N : Next P k xs i z o) → ⊥
      short N = omega (arith, (drop_head xs i (code N.t) (runs (args N.t ++ N.ts) ++ N.rest) (term_code N)).0)

  finish : length P ≤ k → Pending P k xs i z o → Found xs (Bound z) o
  unfolding match_all
  finish h S = go S.ps S.left S.outcome
    where
      go : (ps : List Term) → drop k P ≡ runs ps → match_all ps S.ts S.σ ≡ o → Found xs (Bound z) o
      go [] l q = rw (← q) S.means
      go (p ∷ ps) l q = absurd (omega (arith, length_run p, size_pos p, length-append (run p) (runs ps), ap length (sym (drop_of_length-le P h) ∙ l)))

-- the same of every pattern and term that the two runs spell, from the bindings that z₀ means

pub matching_starts : (P xs : List ℕ) (at : ℕ) (z : Spans) → Matching P xs at z (Pending P 0 xs at z)
unfolding match_all
matching_starts P xs at z p t σ M hp g ht =
    record {
      ps = p ∷ [];
      ts = t ∷ [];
      σ = σ;
      rest = ht.rest;
      left = hp.whole ∙ sym (append-nil (run p));
      patterns = (g, tt);
      here = ht.here ∙ ap (λ l. l ++ ht.rest) (sym (append-nil (run t)));
      fine = (ht.fine, tt);
      count = refl;
      means = M;
      outcome = after_some (match p t σ);
    }
  where
    after_some : (o : Option Bindings) → after o (λ u. some u) ≡ o
    after_some none = refl
    after_some (some u) = refl

pub end_within : (xs : List ℕ) (i e : ℕ) → Ends xs i e → i ≤ length xs → e ≤ length xs
end_within xs i e E = E.within

-- what a letter that meets a term gives, and that its parts lie in the list
meets_bound : (xs : List ℕ) (z : Spans) (x i e : ℕ) (b : Bool) (y : Spans) → Meets xs z x i e (letter_met z x i e b) → b ≡ true → y ≡ with_span z x (record { at = i; len = e - i }) → Meets xs z x i e (Bound y)
meets_bound xs z x i e b y M q g = rw g (rw q at M)

pub bound_within : (xs : List ℕ) (z : Spans) (x i e : ℕ) (b : Bool) (y : Spans) → Meets xs z x i e (letter_met z x i e b) → b ≡ true → y ≡ with_span z x (record { at = i; len = e - i })
    → Within (length xs) y
bound_within xs z x i e b y M q g = (meets_bound xs z x i e b y M q g).within

module _ (P : List ℕ) (k : ℕ) (xs : List ℕ) (at i : ℕ) (z₀ z : Spans) (S : Matching P xs at z₀ (Pending P k xs i z)) where
  pub letter_bound : (e : ℕ) (b : Bool) (y : Spans) → k < length P → get_or P k 0 < 3 → Ends xs i e → Meets xs z (get_or P k 0) i e (letter_met z (get_or P k 0) i e b) → b ≡ true
      → y ≡ with_span z (get_or P k 0) (record { at = i; len = e - i }) → Matching P xs at z₀ (Pending P (k + 1) xs e y)
  letter_bound e b y h g E M q f p t σ m hp gp ht = letter_on P k xs i z (match p t σ) e y h g E (meets_bound xs z (get_or P k 0) i e b y M q f) (S p t σ m hp gp ht)

  pub letter_unbound : (e : ℕ) (b : Bool) → k < length P → get_or P k 0 < 3 → Ends xs i e → Meets xs z (get_or P k 0) i e (letter_met z (get_or P k 0) i e b) → b ≡ false
      → Matching P xs at z₀ (Found xs Unbound)
  letter_unbound e b h g E M q p t σ m hp gp ht = letter_off P k xs i z (match p t σ) e h g E (rw q at M) (S p t σ m hp gp ht)

  pub node_matched : k < length P → 3 ≤ get_or P k 0 → get_or xs i 0 ≡ get_or P k 0 → Matching P xs at z₀ (Pending P (k + 1) xs (i + 1) z)
  node_matched h g e p t σ m hp gp ht = node_on P k xs i z (match p t σ) h g e (S p t σ m hp gp ht)

  pub node_unmatched : k < length P → 3 ≤ get_or P k 0 → (get_or xs i 0 ≡ get_or P k 0 → ⊥) → Matching P xs at z₀ (Found xs Unbound)
  node_unmatched h g e p t σ m hp gp ht = node_off P k xs i z (match p t σ) h g e (S p t σ m hp gp ht)

  pub node_absent : k < length P → length xs ≤ i → Matching P xs at z₀ (Found xs Unbound)
  node_absent h b p t σ m hp gp ht = node_short P k xs i z (match p t σ) h b (S p t σ m hp gp ht)

  pub matching_ends : length P ≤ k → Matching P xs at z₀ (Found xs (Bound z))
  matching_ends h p t σ m hp gp ht = finish P k xs i z (match p t σ) h (S p t σ m hp gp ht)
