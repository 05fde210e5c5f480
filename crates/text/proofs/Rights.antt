-- What is asked of each right side, and the right sides read into slots.
use Prim.Native.Nat.{ℕ, suc, ◌+◌, ◌≤◌, ◌<◌}
use native.Mathlib.Nat.{zero-add}
use native.Mathlib.Omega.{arith}
use mathlib.Core.Bool.{Bool, true, false, ◌&&◌, and-true, and-false, and_assoc}
use mathlib.Core.Option.{Option, none, some, bind as ◌then◌}
use mathlib.Core.List.{List, [], ◌∷◌, ◌++◌, append_assoc, append-nil}
use mathlib.Core.Path.{◌≡◌, refl, sym, ap, subst, ◌∙◌}
use lib.Dec.{leb}
use lib.ListN.{length, take, length-append}
use lib.Seq.{length-take-le}
use borrow.Author.Tests.{le-leb, lt-leb}
use Rattle.terms.specs.Term.{Term, size}
use Rattle.terms.specs.Letters.{letters, rising, variables}
use Rattle.terms.specs.Held.{IsRun}
use Rattle.terms.specs.Promises.{ListsVariables}
use Rattle.terms.specs.Theory.Held.{size_of}
use Rattle.std.specs.Prelude as code
use Rattle.std.specs.Prelude.{Some, None, Result, Ok, Err}
use Rattle.std.specs.Option.{is_some, IsSome, MatchOption}
use Rattle.std.specs.Bool.{MatchBool}
use Rattle.std.specs.List.{AllWithin, HoldsAt, range_with_len}
use Rattle.std.proofs.lemmas.List.FromFn.{length-range_with_len, get_or-range_with_len}
use Rattle.search.specs.Runs.{term_at, HeldRuns, Shows, HoldsRun}
use Rattle.search.proofs.Holding.{none_held, held_more}
use Rattle.text.specs.declared.refusal.Refusal.{Refusal}
use Rattle.text.specs.declared.refusal.Refusal.TheVariants.{TooLarge}
use Rattle.text.specs.TermText.{read_term}
use Rattle.text.specs.FindJob.{Repeated, repeated, read_terms, every, all_small}
use Rattle.text.specs.SideRead.{TermRead}
use Rattle.text.specs.Bytes.{ascii}
use Rattle.text.specs.Answer.{refused, ◌>>=◌, require, or_refuse}
use Rattle.text.specs.Reading.{Valued, Unkeyed}
use Rattle.text.specs.RightLines.{rights_in}
use Rattle.text.specs.Theory.Keyed.{some_then}
use Rattle.text.specs.Accepting.{FewVariables, AllPass, small_terms, RightsRead}
use Rattle.text.proofs.RightLines.{stops, goes_on}

-- the v letters

module _ {xs ys names names' : List ℕ} (e : length names ≡ 6) where
  pub few_variables : (l : code.Option ℕ) → ListsVariables xs ys names l names' → FewVariables xs ys (is_some l)
  few_variables (Some k) h =
      record {
        exact = λ s t u v.
            let fills = h.terms s t u v in
            sym (le-leb (length (rising (variables (letters s ++ letters t)))) 6 (omega (arith, fills.0, fills.1)));
      }
  few_variables None h =
      record {
        exact = λ s t u v.
            let fills = h.terms s t u v in
            sym (lt-leb (length (rising (variables (letters s ++ letters t)))) 6 (omega (arith, fills.0)));
      }

-- the right sides one after the other

-- a test of terms is what the code makes of their runs
abbrev pub Decided : (List ℕ → Bool → Type 0) → (Term → Bool) → Type 0
Decided Tells p = (xs : List ℕ) (t : Term) (b : Bool) → IsRun xs t → Tells xs b → b ≡ p t

-- where each term passes all do, and where one fails they do not
each_passes : (p : Term → Bool) (ts : List Term) → ((k : ℕ) → k < length ts → p (term_at ts k) ≡ true) → every p ts ≡ true
unfolding every
each_passes p [] h = refl
each_passes p (t ∷ ts) h = rw (h 0 (omega arith), each_passes p ts (λ k l. h (suc k) (omega (arith, l))))

one_fails : (p : Term → Bool) (ts : List Term) (k : ℕ) → k < length ts → p (term_at ts k) ≡ false → every p ts ≡ false
unfolding every
one_fails p [] k l e = absurd (omega (arith, l))
one_fails p (t ∷ ts) ℕ.zero l e = rw e
one_fails p (t ∷ ts) (suc k) l e = rw (one_fails p ts k (omega (arith, l)) e) (and-false (p t))

module _ (Tells : List ℕ → Bool → Type 0) (rights : List ℕ) (n : ℕ) where
  -- what the code makes of the run in a slot
  abbrev pub Told : Bool → ℕ → Type 0
  Told b k = (ys : List ℕ) × Shows rights k ys × Tells ys b

  at_slot : {b : Bool} {k : ℕ} → Told b k → (p : Term → Bool) → Decided Tells p → {ts : List Term} → HeldRuns rights ts → k < length ts → p (term_at ts k) ≡ b
  at_slot {b} {k} (ys, shown, told) p d {ts} v l = sym (d ys (term_at ts k) b (shown.exact (term_at ts k) (v.spelled k l)) told)

  pub all_told : (r : Bool) → MatchBool r (AllWithin (Told true) (range_with_len 0 n) 0 (length (range_with_len 0 n))) ((k : ℕ) × (k < length (range_with_len 0 n)) × HoldsAt (Told false) (range_with_len 0 n) k)
      → AllPass Tells rights n r
  all_told true h =
      record {
        exact = λ p d ts v e.
            sym (each_passes p ts λ k l.
            at_slot (rw (get_or-range_with_len 0 n k 0 (omega (arith, l, e)), zero-add k) at (h k 0 (omega arith) (omega (arith, l, e, length-range_with_len 0 n)))) p d v l);
      }
  all_told false (k, l, h) =
      record {
        exact = λ p d ts v e.
            let m : k < n = omega (arith, l, length-range_with_len 0 n) in
            sym (one_fails p ts k (omega (arith, m, e)) (at_slot (rw (get_or-range_with_len 0 n k 0 m, zero-add k) at (h 0)) p d v (omega (arith, m, e))));
      }

-- the terms of the right sides

-- those of two lists are read one after the other
read_parts : (vs ws : List (List ℕ)) → read_terms (vs ++ ws) ≡ ◌then◌ (read_terms vs) λ ts. ◌then◌ (read_terms ws) λ us. some (ts ++ us)
unfolding read_terms ◌then◌
read_parts [] ws = go (read_terms ws)
  where
    go : (o : Option (List Term)) → o ≡ ◌then◌ o (λ us. some us)
    go none = refl
    go (some us) = refl
read_parts (v ∷ vs) ws = rw (read_parts vs ws) (go (read_term v) (read_terms vs) (read_terms ws))
  where
    go : (o : Option Term) (p q : Option (List Term))
        → (◌then◌ o λ t. ◌then◌ (◌then◌ p λ ts. ◌then◌ q λ us. some (ts ++ us)) λ ts. some (t ∷ ts))
        ≡ (◌then◌ (◌then◌ o λ t. ◌then◌ p λ ts. some (t ∷ ts)) λ ts. ◌then◌ q λ us. some (ts ++ us))
    go none p q = refl
    go (some t) none q = refl
    go (some t) (some ts) none = refl
    go (some t) (some ts) (some us) = refl

every_parts : (p : Term → Bool) (ts us : List Term) → every p (ts ++ us) ≡ every p ts && every p us
unfolding every
every_parts p [] us = refl
every_parts p (t ∷ ts) us = rw (every_parts p ts us) (sym (and_assoc (p t) (every p ts) (every p us)))

pub term_sized : {bs run : List ℕ} {m : ℕ} (a : TermRead bs run m) → m ≡ size a.term
term_sized {run = run} {m = m} a = sym (length-take-le m run a.room) ∙ size_of a.whole

-- as many terms as sides
pub terms_counted : (vs : List (List ℕ)) {ts : List Term} → read_terms vs ≡ some ts → length ts ≡ length vs
unfolding read_terms ◌then◌
terms_counted [] {ts} e = let f : [] ≡ ts = cc in ap length (sym f)
terms_counted (v ∷ vs) {ts} e =
    some_then (read_term v) _ e λ t first e.
    some_then (read_terms vs) _ e λ us rest e.
    let whole : t ∷ us ≡ ts = cc in
    ap length (sym whole) ∙ ap suc (terms_counted vs rest)

none_here : (vs : List (List ℕ)) (v : List ℕ) (ws : List (List ℕ)) → read_term v ≡ none → read_terms (vs ++ (v ∷ ws)) ≡ none
unfolding read_terms ◌then◌
none_here vs v ws h = rw (read_parts vs (v ∷ ws), h) (go (read_terms vs))
  where
    go : (o : Option (List Term)) → ◌≡◌ {A = Option (List Term)} (◌then◌ o (λ ts. none)) none
    go none = refl
    go (some ts) = refl

one_more : (vs : List (List ℕ)) (v : List ℕ) {ts : List Term} {t : Term} → read_terms vs ≡ some ts → read_term v ≡ some t
    → read_terms (vs ++ (v ∷ [])) ≡ some (ts ++ (t ∷ []))
unfolding read_terms ◌then◌
one_more vs v h k = rw (read_parts vs (v ∷ []), h, k)

small_more : (ts : List Term) (t : Term) → all_small (ts ++ (t ∷ [])) ≡ all_small ts && leb (size t) 31
unfolding every
small_more ts t = every_parts (λ t. leb (size t) 31) ts (t ∷ []) ∙ rw (and-true (leb (size t) 31))

-- what cannot be missing is there
pub some_of : {A : Type 0} (P : Type 0) (Q : A → Type 0) (o : code.Option A) → (P → ⊥) → MatchOption o P Q → IsSome o
some_of P Q (Some x) f h = refl
some_of P Q None f h = absurd (f h)

-- the lines of the right sides

-- where n + 1 values are counted there is a line
pub some_line : (rest : List ℕ) (n : ℕ) → length (rights_in rest (suc n)) ≡ suc n → Unkeyed rest (ascii "right=") → ⊥
some_line rest n e h = omega (arith, e, ap length (ap (λ (r : Repeated). r.values) (stops "right=" (suc n) rest (h "right=" refl))))

pub first_line : (rest side more : List ℕ) (n : ℕ) → Valued rest (ascii "right=") side more → rights_in rest (suc n) ≡ side ∷ rights_in more n
first_line rest side more n v = ap (λ (r : Repeated). r.values) (goes_on "right=" n rest (v.parts "right=" refl))

-- of terms that were read one is large, or all are small and have their runs in slots
abbrev pub SoFar : List Term → List ℕ → Result (Unit {0}) Refusal → Type 0
SoFar ts rights (Err e) = (e ≡ TooLarge) × (all_small ts ≡ false)
SoFar ts rights (Ok u) = (all_small ts ≡ true) × HeldRuns rights ts

-- the first r of n right sides are read, and the others are the first of the rest
pub record ReadTo (lines : List ℕ) (n r : ℕ) (rest rights : List ℕ) (read : Result (Unit {0}) Refusal) : Type 0 where
  pub left : ℕ
  pub few : r + left ≡ n
  pub short : length rest ≤ length lines
  pub values : List (List ℕ)
  pub counted : length values ≡ r
  pub parts : rights_in lines n ≡ values ++ rights_in rest left
  pub others : length (rights_in rest left) ≡ left
  pub terms : List Term
  pub known : read_terms values ≡ some terms
  pub so_far : SoFar terms rights read

pub none_read : (lines rights : List ℕ) (n : ℕ) → length (rights_in lines n) ≡ n → ReadTo lines n 0 lines rights (Ok tt)
unfolding read_terms every
none_read lines rights n e =
    record {
      left = n;
      few = omega arith;
      short = omega arith;
      values = [];
      counted = refl;
      parts = refl;
      others = e;
      terms = [];
      known = refl;
      so_far = (refl, none_held rights);
    }

no_values : (values : List (List ℕ)) (rest : List ℕ) (n : ℕ) → n ≡ 0 → values ++ rights_in rest n ≡ values
unfolding repeated
no_values values rest n e = rw e (append-nil values)

module _ {lines : List ℕ} {n r : ℕ} {rest rights : List ℕ} {read : Result (Unit {0}) Refusal} (R : ReadTo lines n r rest rights read) where
  -- all are read
  pub all_read : n ≤ r → RightsRead (small_terms (rights_in lines n)) read rights
  unfolding ◌>>=◌ or_refuse require
  all_read h = rw (R.parts ∙ no_values R.values rest R.left (omega (arith, R.few))) (go read R.so_far)
    where
      go : (read : Result (Unit {0}) Refusal) → SoFar R.terms rights read → RightsRead (small_terms R.values) read rights
      go (Err e) f = rw f.0 (rw R.known (rw f.1))
      go (Ok u) f = (R.terms, rw R.known (rw f.0), f.1)

  module _ (h : r < n) where
    one_left : (m : ℕ) × (R.left ≡ suc m)
    one_left = go R.left refl
      where
        go : (k : ℕ) → R.left ≡ k → (m : ℕ) × (R.left ≡ suc m)
        go ℕ.zero e = absurd (omega (arith, e, R.few))
        go (suc m) e = (m, e)

    pub there_is : Unkeyed rest (ascii "right=") → ⊥
    there_is u = let (m, e) = one_left in some_line rest m (rw e at R.others) u

    -- the next one
    module _ {side more : List ℕ} (v : Valued rest (ascii "right=") side more) where
      parted : (m : ℕ) → R.left ≡ suc m → rights_in lines n ≡ R.values ++ (side ∷ rights_in more m)
      parted m e = R.parts ∙ ap (λ vs. R.values ++ vs) (ap (rights_in rest) e ∙ first_line rest side more m v)

      pub foul_side : read_term side ≡ none → small_terms (rights_in lines n) ≡ refused 2
      unfolding ◌>>=◌ or_refuse
      foul_side f = let (m, e) = one_left in rw (parted m e, none_here R.values side (rights_in more m) f)

      module _ {run : List ℕ} {k : ℕ} (term : TermRead side run k) where
        with_one : {rights' : List ℕ} {read' : Result (Unit {0}) Refusal} → SoFar (R.terms ++ (term.term ∷ [])) rights' read' → ReadTo lines n (r + 1) more rights' read'
        with_one f =
            let (m, e) = one_left in
            let rest_counted : length (side ∷ rights_in more m) ≡ suc m = ap length (sym (first_line rest side more m v)) ∙ (rw e at R.others) in
            record {
              left = m;
              few = omega (arith, R.few, e);
              short = omega (arith, R.short, v.shorter);
              values = R.values ++ (side ∷ []);
              counted = omega (arith, length-append R.values (side ∷ []), R.counted);
              parts = parted m e ∙ rw append_assoc;
              others = omega (arith, rest_counted);
              terms = R.terms ++ (term.term ∷ []);
              known = one_more R.values side R.known term.read;
              so_far = f;
            }

        pub large_side : 31 < k → ReadTo lines n (r + 1) more rights (Err TooLarge)
        large_side l =
            with_one (refl, small_more R.terms term.term ∙ rw (lt-leb (size term.term) 31 (omega (arith, term_sized term))) (and-false (all_small R.terms)))

        pub small_side : {rights' : List ℕ} → k ≤ 31 → HoldsRun rights rights' r (take k run) → ReadTo lines n (r + 1) more rights' read
        small_side {rights'} l H = with_one (go read R.so_far)
          where
            fits : leb (size term.term) 31 ≡ true
            fits = le-leb (size term.term) 31 (omega (arith, term_sized term))

            count : length R.terms ≡ r
            count = terms_counted R.values R.known ∙ R.counted

            go : (read : Result (Unit {0}) Refusal) → SoFar R.terms rights read → SoFar (R.terms ++ (term.term ∷ [])) rights' read
            go (Err e) f = (f.0, small_more R.terms term.term ∙ rw f.1)
            go (Ok u) f = (
              small_more R.terms term.term ∙ rw (f.0, fits),
              held_more R.terms term.term (subst (λ i. HoldsRun rights rights' i (take k run)) (sym count) H) f.1 term.whole,
            )
