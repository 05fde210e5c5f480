-- The proof text of a law applied to terms: its letters one after the other, and the law by its name.
use Prim.Native.Nat.{ℕ, suc, ◌+◌, ◌-◌, ◌≤◌, ◌<◌}
use native.Mathlib.Omega.{arith}
use mathlib.Core.Path.{◌≡◌, refl, sym, ap, ◌∙◌}
use mathlib.Core.Option.{Option, none, some}
use mathlib.Core.List.{List, [], ◌∷◌, ◌++◌, foldl, flat_map, append_assoc, append-nil}
use lib.ListN.{length, take, drop, get_or}
use lib.Seq.{take_at, take-take, drop_at, length-take-le}
use Rattle.std.proofs.lemmas.List.{drop-take}
use Rattle.terms.specs.Term.{Term, size}
use Rattle.terms.specs.Held.{Holds}
use Rattle.terms.specs.Promises.{Ends}
use Rattle.terms.proofs.Held.{size_pos, held_part, holds_part, front_holds}
use Rattle.search.specs.Law.{semiring}
use Rattle.search.specs.Match.{Bindings}
use Rattle.search.specs.Span.{span_of, Meant, Means, Found}
use Rattle.search.specs.Coded.{name_of, law_at, law_of}
use Rattle.search.specs.Directly.{match_sides, BindsSides}
use Rattle.search.specs.declared.search.Law.{Law}
use Rattle.search.specs.declared.search.Span.{Span}
use Rattle.search.specs.declared.search.Spans.{Spans}
use Rattle.search.specs.declared.search.Binding.{Binding}
use Rattle.search.specs.declared.search.Binding.TheVariants.{Bound, Unbound}
use Rattle.search.proofs.Coded.{each_law}
use Rattle.text.specs.Bytes.{ascii}
use Rattle.text.specs.StepText.{law_name}
use Rattle.text.specs.Proof.{ref, app, call, term, bound, applied}
use Rattle.text.specs.Applied.{application, argument, applications, arguments, Copies}
use Rattle.text.specs.Writer.{Writes}
use Rattle.text.specs.declared.writer.Writer.{Writer}
use Rattle.text.proofs.Writing.{then, put_as, put_none, put_each_more}

-- ---- one letter of a law

-- by whether the letter's part has numbers
pub application_none : (xs : List ℕ) (v : Span) (p : Option Term) → v.len ≡ 0 → Meant xs v p → application p ≡ []
unfolding application
application_none xs v none e m = refl
application_none xs v (some t) e m = absurd (omega (arith, m.1, size_pos t))

pub application_some : (xs : List ℕ) (v : Span) (p : Option Term) → (v.len ≡ 0 → ⊥) → Meant xs v p → application p ≡ ascii "(app "
unfolding application
application_some xs v none h m = absurd (h m)
application_some xs v (some t) h m = refl

module _ (xs : List ℕ) (v : Span) where
  pub put_no_argument : (names : List ℕ) (o : Writer) (p : Option Term) → v.len ≡ 0 → Meant xs v p → Writes (argument names p) o o
  unfolding argument
  put_no_argument names o none e m = put_none o
  put_no_argument names o (some t) e m = absurd (omega (arith, m.1, size_pos t))

  pub put_argument : {o o₁ o₂ o₃ : Writer} (names : List ℕ) (p : Option Term) → (v.len ≡ 0 → ⊥)
      → Writes (ascii " ") o o₁
      → ((t : Term) → Holds xs v.at t → Writes (term names t) o₁ o₂)
      → Writes (ascii ")") o₂ o₃
      → Meant xs v p → Writes (argument names p) o o₃
  unfolding argument
  put_argument names none h q f r m = absurd (h m)
  put_argument names (some t) h q f r m = put_as (append_assoc (ascii " ") (term names t) (ascii ")")) (then (then q (f t m.0)) r)

-- ---- all letters of a law

abbrev no_span : Span
no_span = record { at = 0; len = 0 }

-- the letters in the order in which a list of three has their parts
module _ (z : Spans) where
  pub last_first : (i : ℕ) → i < 3 → get_or (z.c ∷ z.b ∷ z.a ∷ []) i no_span ≡ span_of z (get_or (2 ∷ 1 ∷ 0 ∷ []) i 0)
  unfolding span_of
  last_first ℕ.zero h = refl
  last_first (suc ℕ.zero) h = refl
  last_first (suc (suc ℕ.zero)) h = refl
  last_first (suc (suc (suc i))) h = absurd (omega arith)

  pub first_first : (i : ℕ) → i < 3 → get_or (z.a ∷ z.b ∷ z.c ∷ []) i no_span ≡ span_of z (get_or (0 ∷ 1 ∷ 2 ∷ []) i 0)
  unfolding span_of
  first_first ℕ.zero h = refl
  first_first (suc ℕ.zero) h = refl
  first_first (suc (suc ℕ.zero)) h = refl
  first_first (suc (suc (suc i))) h = absurd (omega arith)

letter_below : (i : ℕ) → i < 3 → (get_or (2 ∷ 1 ∷ 0 ∷ []) i 0 < 3) × (get_or (0 ∷ 1 ∷ 2 ∷ []) i 0 < 3)
letter_below ℕ.zero h = (omega arith, omega arith)
letter_below (suc ℕ.zero) h = (omega arith, omega arith)
letter_below (suc (suc ℕ.zero)) h = (omega arith, omega arith)
letter_below (suc (suc (suc i))) h = absurd (omega arith)

-- the applications of the first i letters, the last letter first
abbrev pub Applies : Spans → ℕ → Writer → Writer → Type 0
Applies z i o o₁ = (xs : List ℕ) (σ : Bindings) → Means xs z σ → Writes (flat_map (λ n. application (σ n)) (take i (2 ∷ 1 ∷ 0 ∷ []))) o o₁

pub applies_none : (z : Spans) (o : Writer) → Applies z 0 o o
unfolding flat_map
applies_none z o xs σ m = put_none o

module _ (z : Spans) (i : ℕ) (h : i < 3) {o o₁ : Writer} (A : Applies z i o o₁) where
  meant : {xs : List ℕ} {σ : Bindings} → Means xs z σ → Meant xs (get_or (z.c ∷ z.b ∷ z.a ∷ []) i no_span) (σ (get_or (2 ∷ 1 ∷ 0 ∷ []) i 0))
  meant m = rw (last_first z i h) (m.letters (get_or (2 ∷ 1 ∷ 0 ∷ []) i 0) (letter_below i h).0)

  pub applies_more : {o₂ : Writer} → ((get_or (z.c ∷ z.b ∷ z.a ∷ []) i no_span).len ≡ 0 → ⊥) → Writes (ascii "(app ") o₁ o₂ → Applies z (i + 1) o o₂
  applies_more f p xs σ m =
      put_each_more (λ n. application (σ n)) 0 (2 ∷ 1 ∷ 0 ∷ []) i (omega arith) (A xs σ m)
      (put_as (sym (application_some xs (get_or (z.c ∷ z.b ∷ z.a ∷ []) i no_span) (σ (get_or (2 ∷ 1 ∷ 0 ∷ []) i 0)) f (meant m))) p)

  pub applies_same : (get_or (z.c ∷ z.b ∷ z.a ∷ []) i no_span).len ≡ 0 → Applies z (i + 1) o o₁
  applies_same e xs σ m =
      put_each_more (λ n. application (σ n)) 0 (2 ∷ 1 ∷ 0 ∷ []) i (omega arith) (A xs σ m)
      (put_as (sym (application_none xs (get_or (z.c ∷ z.b ∷ z.a ∷ []) i no_span) (σ (get_or (2 ∷ 1 ∷ 0 ∷ []) i 0)) e (meant m))) (put_none o₁))

pub applies_all : (z : Spans) (i : ℕ) {o o₁ : Writer} → i ≡ 3 → Applies z i o o₁ → (xs : List ℕ) (σ : Bindings) → Means xs z σ → Writes (applications σ) o o₁
unfolding applications flat_map
applies_all z i e A xs σ m = put_as (ap (λ k. flat_map (λ n. application (σ n)) (take k (2 ∷ 1 ∷ 0 ∷ []))) e ∙ simp (append-nil, append_assoc)) (A xs σ m)

-- the arguments of the first i letters
abbrev pub Argues : List ℕ → List ℕ → Spans → ℕ → Writer → Writer → Type 0
Argues xs names z i o o₁ = (σ : Bindings) → Means xs z σ → Writes (flat_map (λ n. argument names (σ n)) (take i (0 ∷ 1 ∷ 2 ∷ []))) o o₁

pub argues_none : (xs names : List ℕ) (z : Spans) (o : Writer) → Argues xs names z 0 o o
unfolding flat_map
argues_none xs names z o σ m = put_none o

pub argues_more : (xs names : List ℕ) (z : Spans) (i : ℕ) {o o₁ o₂ : Writer} → i < 3 → Argues xs names z i o o₁
    → ((p : Option Term) → Meant xs (get_or (z.a ∷ z.b ∷ z.c ∷ []) i no_span) p → Writes (argument names p) o₁ o₂) → Argues xs names z (i + 1) o o₂
argues_more xs names z i h A f σ m =
    put_each_more (λ n. argument names (σ n)) 0 (0 ∷ 1 ∷ 2 ∷ []) i (omega arith) (A σ m)
    (f (σ (get_or (0 ∷ 1 ∷ 2 ∷ []) i 0)) (rw (first_first z i h) (m.letters (get_or (0 ∷ 1 ∷ 2 ∷ []) i 0) (letter_below i h).1)))

pub argues_all : (xs names : List ℕ) (z : Spans) (i : ℕ) {o o₁ : Writer} → i ≡ 3 → Argues xs names z i o o₁ → (σ : Bindings) → Means xs z σ → Writes (arguments names σ) o o₁
unfolding arguments flat_map
argues_all xs names z i e A σ m = put_as (ap (λ k. flat_map (λ n. argument names (σ n)) (take k (0 ∷ 1 ∷ 2 ∷ []))) e ∙ simp (append-nil, append_assoc)) (A σ m)

-- a text applied to what a letter stands for
abbrev apply : List ℕ → List ℕ → Option Term → List ℕ
apply names f none = f
apply names f (some t) = app f (term names t)

apply_text : (names f : List ℕ) (p : Option Term) → application p ++ (f ++ argument names p) ≡ apply names f p
unfolding application argument app
apply_text names f none = append-nil f
apply_text names f (some t) = refl

apply_more : (names : List ℕ) (n : ℕ) (ns : List ℕ) (σ : Bindings) (f : List ℕ) → foldl app f (bound names (n ∷ ns) σ) ≡ foldl app (apply names f (σ n)) (bound names ns σ)
unfolding bound
apply_more names n ns σ f = go (σ n)
  where
    go : (p : Option Term) → foldl app f (elim p [ none ↦ bound names ns σ | some t ↦ term names t ∷ bound names ns σ ]) ≡ foldl app (apply names f p) (bound names ns σ)
    go none = refl
    go (some t) = refl

call_text : (names name : List ℕ) (σ : Bindings) → (applications σ ++ ref name) ++ arguments names σ ≡ call name (bound names (0 ∷ 1 ∷ 2 ∷ []) σ)
unfolding applications arguments call bound
call_text names name σ =
    simp append_assoc
    (sym
    (apply_more names 0 (1 ∷ 2 ∷ []) σ (ref name)
    ∙ apply_more names 1 (2 ∷ []) σ (apply names (ref name) (σ 0))
    ∙ apply_more names 2 [] σ (apply names (apply names (ref name) (σ 0)) (σ 1))
    ∙ simp (← apply_text, append_assoc)))

pub put_call : {o o₁ o₂ o₃ : Writer} (names name : List ℕ) (σ : Bindings)
    → Writes (applications σ) o o₁ → Writes (ref name) o₁ o₂ → Writes (arguments names σ) o₂ o₃ → Writes (call name (bound names (0 ∷ 1 ∷ 2 ∷ []) σ)) o o₃
put_call names name σ p q r = put_as (call_text names name σ) (then (then p q) r)

-- ---- the law by its name

-- the law's text by what matching its sides gives
abbrev by_match : List ℕ → Law → Option Bindings → List ℕ
by_match names w p = elim p [ none ↦ [] | some σ ↦ call (law_name (name_of w)) (bound names (0 ∷ 1 ∷ 2 ∷ []) σ) ]

applied_match : (names : List ℕ) (u v : Term) (w : Law) → by_match names w (match_sides (law_of w) u v) ≡ applied names semiring (name_of w) u v
unfolding applied semiring law_at
applied_match names u v =
    each_law (λ w. by_match names w (match_sides (law_of w) u v) ≡ applied names semiring (name_of w) u v)
    (refl, refl, refl, refl, refl, refl, refl, refl, refl, refl)

module _ {w : Law} {xs : List ℕ} {m : ℕ} {r : Binding} (names : List ℕ) (B : BindsSides w xs m r) (u v : Term) (hu : Holds xs 0 u) (hv : Holds xs m v) where
  pub put_unmatched : (o : Writer) → r ≡ Unbound → Writes (applied names semiring (name_of w) u v) o o
  put_unmatched o e = put_as (applied_match names u v w) (go (match_sides (law_of w) u v) (rw e at (B.exact u v hu hv)))
    where
      go : (p : Option Bindings) → Found xs Unbound p → Writes (by_match names w p) o o
      go none F = put_none o
      go (some σ) F = absurd F

  pub put_matched : {o o₁ : Writer} (z : Spans) → r ≡ Bound z
      → ((σ : Bindings) → Means xs z σ → Writes (call (law_name (name_of w)) (bound names (0 ∷ 1 ∷ 2 ∷ []) σ)) o o₁)
      → Writes (applied names semiring (name_of w) u v) o o₁
  put_matched {o} {o₁} z e f = put_as (applied_match names u v w) (go (match_sides (law_of w) u v) (rw e at (B.exact u v hu hv)))
    where
      go : (p : Option Bindings) → Found xs (Bound z) p → Writes (by_match names w p) o o₁
      go none F = absurd F
      go (some σ) F = f σ F

-- ---- a term behind others in a buffer

module _ (xs out : List ℕ) (n : ℕ) (h : n ≤ length out) (end : ℕ) (e : Ends xs 0 end) where
  pub copies_all : (r : ℕ) (out' : List ℕ) → end ≤ length out - n → r ≡ n + length (take end xs) → take r out' ≡ take n out ++ take end xs → Copies xs 0 out n r out'
  copies_all r out' q f g =
      let count : length (take end xs) ≡ end = length-take-le end xs (e.within (omega arith)) in
      record {
        within = omega (arith, count);
        kept = sym (take-take n r out' (omega arith)) ∙ ap (take n) g ∙ take_at (take n out) (take end xs) n (length-take-le n out h);
        exact = λ t k room.
            let s : end ≡ size t = omega (arith, e.exact t k) in
            let j : r ≡ n + size t = omega (arith, count) in
            let run_is = (held_part end k s).whole in (
              j,
              holds_part k.fine
                  (sym (drop-take n (size t) out')
                  ∙ ap (drop n) (ap (λ i. take i out') (sym j) ∙ g)
                  ∙ drop_at (take n out) (take end xs) n (length-take-le n out h)
                  ∙ run_is),
            );
      }

-- two terms of at most 31 nodes in a buffer of 62 numbers
pub both_held : {xs ys b₀ b₁ b₂ : List ℕ} {i j m k : ℕ} {u v : Term} → length b₀ ≡ 62 → length b₁ ≡ 62 → Copies xs i b₀ 0 m b₁ → Copies ys j b₁ m k b₂
    → Holds xs i u → Holds ys j v → size u ≤ 31 → size v ≤ 31 → Holds b₂ 0 u × Holds b₂ m v
both_held {b₁ = b₁} {b₂} {m = m} {u = u} {v} e f C D hu hv p q =
    let c = C.exact u hu (omega arith) in
    (front_holds b₁ b₂ m D.kept (omega (arith, c.0)) c.1, (D.exact v hv (omega (arith, c.0))).1)
