-- Terms put in for a law's letters, on runs: number by number, each letter gives way to its part.
use Prim.Native.Nat.{ℕ, ◌+◌, ◌-◌, ◌≤◌, ◌<◌}
use native.Mathlib.Omega.{arith}
use mathlib.Core.Path.{◌≡◌, refl, sym, ap, ◌∙◌}
use mathlib.Core.Bool.{cond}
use mathlib.Core.Option.{Option, none, some}
use mathlib.Core.List.{List, [], ◌∷◌, ◌++◌, append_assoc, append-nil}
use lib.Dec.{ltb}
use lib.ListN.{length, take, drop, get_or, set, length-append, length-take, length-drop, drop_of_length-le}
use borrow.Author.Tests.{lt-ltb, le-ltb}
use Rattle.std.specs.Prelude.{Some, None}
use Rattle.std.proofs.lemmas.List.{take_more_set}
use Rattle.terms.specs.Term.{Term, letter, zero, one, add, mul}
use Rattle.terms.specs.Run.{ADD, MUL, run}
use Rattle.terms.specs.Held.{IsRun}
use Rattle.terms.specs.Theory.Held.{length_run}
use Rattle.terms.proofs.Positions.{drop_one}
use Rattle.terms.proofs.Held.{held_part}
use Rattle.search.specs.Match.{Bindings, put, join}
use Rattle.search.specs.Span.{span_of, Pattern, Meant, Means}
use Rattle.search.specs.Filled.{Fills}
use Rattle.search.specs.declared.search.Span.{Span}
use Rattle.search.specs.declared.search.Spans.{Spans}

-- the parts of a term that is put in
pub join_parts : (f : Term → Term → Term) (a b : Option Term) (u : Term) → join f a b ≡ some u → (s : Term) × (t : Term) × (a ≡ some s) × (b ≡ some t) × (f s t ≡ u)
unfolding join
join_parts f none b u e = absurd (let z : ◌≡◌ {A = ℕ} 0 1 = cc in omega arith)
join_parts f (some s) none u e = absurd (let z : ◌≡◌ {A = ℕ} 0 1 = cc in omega arith)
join_parts f (some s) (some t) u e = (s, t, refl, refl, cc)

piece : List ℕ → Spans → ℕ → List ℕ
piece xs z x = cond (ltb x 3) (take (span_of z x).len (drop (span_of z x).at xs)) (x ∷ [])

-- the pieces of a run, one after the other
pub expand : List ℕ → Spans → List ℕ → List ℕ
expand xs z [] = []
expand xs z (x ∷ q) = piece xs z x ++ expand xs z q

-- pieces and terms
piece_letter : (xs : List ℕ) (z : Spans) (σ : Bindings) (n : ℕ) (u : Term) → Means xs z σ → n < 3 → σ n ≡ some u → piece xs z n ≡ run u
unfolding piece
piece_letter xs z σ n u M h e = rw (lt-ltb n 3 h) (go (rw e at (M.letters n h)))
  where
    go : Meant xs (span_of z n) (some u) → take (span_of z n).len (drop (span_of z n).at xs) ≡ run u
    go m = (held_part (span_of z n).len m.0 m.1).whole

module _ (xs : List ℕ) (z : Spans) (σ : Bindings) (M : Means xs z σ) where
  -- the pieces of a node are its number and those of its parts
  expand_node : (f : Term → Term → Term) (x : ℕ) → ((s t : Term) → run (f s t) ≡ x ∷ run s ++ run t) → (p r u : Term) → join f (put p σ) (put r σ) ≡ some u
      → ((s : Term) → put p σ ≡ some s → (q : List ℕ) → expand xs z (run p ++ q) ≡ run s ++ expand xs z q)
      → ((s : Term) → put r σ ≡ some s → (q : List ℕ) → expand xs z (run r ++ q) ≡ run s ++ expand xs z q)
      → (q : List ℕ) → x ∷ expand xs z ((run p ++ run r) ++ q) ≡ run u ++ expand xs z q
  expand_node f x e p r u j g h q =
      let (s, t, a, b, k) = join_parts f (put p σ) (put r σ) u j in
      rw (append_assoc (run p) (run r) q, g s a (run r ++ q), h t b q)
      (ap (λ l. x ∷ l) (sym (append_assoc (run s) (run t) (expand xs z q))) ∙ ap (λ l. l ++ expand xs z q) (sym (e s t) ∙ ap run k))

  expand_run : (p : Term) → Pattern p → (u : Term) → put p σ ≡ some u → (q : List ℕ) → expand xs z (run p ++ q) ≡ run u ++ expand xs z q
  unfolding expand piece run put Pattern
  expand_run (letter n) h u e q = ap (λ l. l ++ expand xs z q) (piece_letter xs z σ n u M h e)
  expand_run zero h u e q = let k : zero ≡ u = cc in rw (← k)
  expand_run one h u e q = let k : one ≡ u = cc in rw (← k)
  expand_run (add p r) h u e q = expand_node add ADD (λ s t. refl) p r u e (expand_run p h.0) (expand_run r h.1) q
  expand_run (mul p r) h u e q = expand_node mul MUL (λ s t. refl) p r u e (expand_run p h.0) (expand_run r h.1) q

length_part : (i n : ℕ) (xs : List ℕ) → i + n ≤ length xs → length (take (i + n - i) (drop i xs)) ≡ n
length_part i n xs h = simp (length-take, length-drop) (omega arith)

-- a buffer that has been filled as far as position k of q: w stands after its first n numbers
pub record Filling (q xs : List ℕ) (z : Spans) (before : List ℕ) (n : ℕ) (out : List ℕ) (m k : ℕ) : Type 0 where
  pub w : List ℕ
  pub count : m ≡ n + length w
  pub front : take m out ≡ take n before ++ w
  pub outcome : w ++ expand xs z (drop k q) ≡ expand xs z q

module _ (q xs : List ℕ) (z : Spans) (before : List ℕ) (n : ℕ) (out : List ℕ) (m k : ℕ) (S : Filling q xs z before n out m k) (src : List ℕ) (h : k < length q)
    (e : piece xs z (get_or q k 0) ≡ src) where
  -- one more piece
  put_piece : (out' : List ℕ) (m' : ℕ) → m' ≡ m + length src → take m' out' ≡ take m out ++ src → Filling q xs z before n out' m' (k + 1)
  unfolding expand
  put_piece out' m' c f =
      record {
        w = S.w ++ src;
        count = omega (arith, S.count, length-append S.w src);
        front = f ∙ ap (λ l. l ++ src) S.front ∙ append_assoc (take n before) S.w src;
        outcome = append_assoc S.w src (expand xs z (drop (k + 1) q)) ∙ rw (drop_one q k h, e) at S.outcome;
      }

  -- no room for it, and so none for the whole
  too_long : length before < m + length src → length before < n + length (expand xs z q)
  unfolding expand
  too_long c =
      let rest = expand xs z (drop (k + 1) q) in
      let j : S.w ++ (src ++ rest) ≡ expand xs z q = rw (drop_one q k h, e) at S.outcome in
      omega (arith, S.count, ap length j, length-append S.w (src ++ rest), length-append src rest)

-- the answers
expand_whole : (q xs : List ℕ) (z : Spans) (σ : Bindings) (p u : Term) → IsRun q p → Pattern p → Means xs z σ → put p σ ≡ some u → expand xs z q ≡ run u
unfolding expand
expand_whole q xs z σ p u hp g M e = ap (expand xs z) (hp.whole ∙ sym (append-nil (run p))) ∙ expand_run xs z σ M p g u e [] ∙ append-nil (run u)

module _ (q xs : List ℕ) (z : Spans) (before out : List ℕ) (n : ℕ) where
  no_room : length before < n + length (expand xs z q) → Fills q xs z before out n None
  no_room h = record { within = tt; exact = λ p u σ M hp g e. omega (arith, h, ap length (expand_whole q xs z σ p u hp g M e), length_run u) }

  filled : (m : ℕ) (w : List ℕ) → n ≤ m → m ≤ length before → m ≡ n + length w → take m out ≡ take n before ++ w → w ≡ expand xs z q → Fills q xs z before out n (Some m)
  filled m w a b c f e =
      record {
        within = (a, b);
        exact = λ p u σ M hp g j.
            let k : w ≡ run u = e ∙ expand_whole q xs z σ p u hp g M j in
            (omega (arith, c, ap length k, length_run u), f ∙ ap (λ l. take n before ++ l) k);
      }

-- the steps, as the code takes them
module _ (q xs : List ℕ) (z : Spans) (before : List ℕ) (n : ℕ) (out : List ℕ) (m k : ℕ) (S : Filling q xs z before n out m k) where
  module _ (v : Span) (h : k < length q) (g : get_or q k 0 < 3) (o : v ≡ span_of z (get_or q k 0)) where
    its_part : piece xs z (get_or q k 0) ≡ take (v.at + v.len - v.at) (drop v.at xs)
    unfolding piece
    its_part =
        let j : v.at + v.len - v.at ≡ v.len = omega arith in
        rw (lt-ltb (get_or q k 0) 3 g, ← o, j)

    pub letter_long : length out - m < v.len → length out ≡ length before → m ≤ length out → v.at + v.len ≤ length xs → Fills q xs z before out n None
    letter_long c l b a =
        no_room q xs z before out n
        (too_long q xs z before n out m k S (take (v.at + v.len - v.at) (drop v.at xs)) h its_part (omega (arith, length_part v.at v.len xs a)))

    pub letter_put : (out' : List ℕ) (m' : ℕ) → m' ≡ m + length (take (v.at + v.len - v.at) (drop v.at xs))
        → take m' out' ≡ take m out ++ take (v.at + v.len - v.at) (drop v.at xs) → Filling q xs z before n out' m' (k + 1)
    letter_put out' m' c f = put_piece q xs z before n out m k S (take (v.at + v.len - v.at) (drop v.at xs)) h its_part out' m' c f

  module _ (h : k < length q) (g : 3 ≤ get_or q k 0) where
    itself : piece xs z (get_or q k 0) ≡ get_or q k 0 ∷ []
    unfolding piece
    itself = rw (le-ltb (get_or q k 0) 3 g)

    pub number_long : length out ≤ m → length out ≡ length before → Fills q xs z before out n None
    number_long c l = no_room q xs z before out n (too_long q xs z before n out m k S (get_or q k 0 ∷ []) h itself (omega arith))

    pub number_put : m < length out → Filling q xs z before n (set out m (get_or q k 0)) (m + 1) (k + 1)
    number_put c = put_piece q xs z before n out m k S (get_or q k 0 ∷ []) h itself (set out m (get_or q k 0)) (m + 1) refl (take_more_set out m (get_or q k 0) c)

  pub fill_ends : length q ≤ k → n ≤ m → m ≤ length out → length out ≡ length before → Fills q xs z before out n (Some m)
  unfolding expand
  fill_ends h a b c =
      filled q xs z before out n m S.w a (omega arith) S.count S.front
      (sym (append-nil S.w) ∙ rw (drop_of_length-le q h) at S.outcome)
