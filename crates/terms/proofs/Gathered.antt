-- The letters of lists of numbers, gathered in the front of a list.
use Prim.Native.Nat.{ℕ, ◌+◌, ◌-◌, ◌<◌, ◌≤◌, compare}
use native.Mathlib.Omega.{arith}
use mathlib.Core.Path.{◌≡◌, refl, sym, ap, ◌∙◌}
use mathlib.Core.List.{List, [], ◌∷◌, ◌++◌, foldl-append}
use lib.ListN.{length, take, drop, get_or, length-append, length-drop, drop_of_length-le}
use lib.Seq.{drop-drop, take_at, drop_at}
use borrow.Author.Tests.{lt-ltb, le-ltb}
use Rattle.terms.specs.Sort.{lost, insert_all}
use Rattle.terms.specs.Term.{Term, letter, zero, one, add, mul}
use Rattle.terms.specs.Letters.{letters, rising, FIXED, those_below, variables}
use Rattle.terms.specs.Run.{ZERO, ONE, ADD, MUL, run}
use Rattle.terms.specs.Held.{IsRun}
use Rattle.terms.specs.Numbers.{letters_of}
use Rattle.terms.specs.Promises.{Fills, Lists, ListsVariables}
use Rattle.terms.specs.Theory.Held.{fine_letters}
use Rattle.terms.specs.Theory.Letters.{below_all, below_append}
use Rattle.terms.specs.Theory.Insert.{insert_grows, insert_all_grows}
use Rattle.std.specs.Prelude.{Option, Some, None}
use Rattle.terms.proofs.Positions.{drop_one}
use Rattle.terms.proofs.Inserted.{inserted}

-- numbers of a list below another, and letters of a term

module _ (k : ℕ) where
  pub below_taken : (x : ℕ) (xs : List ℕ) → x < k → those_below k (x ∷ xs) ≡ x ∷ those_below k xs
  unfolding those_below
  below_taken x xs h = rw (lt-ltb x k h, those_below)

  below_passed : (x : ℕ) (xs : List ℕ) → k ≤ x → those_below k (x ∷ xs) ≡ those_below k xs
  unfolding those_below
  below_passed x xs h = rw (le-ltb x k h, those_below)

  -- those of a term's run are those of its letters
  pub below_run : k ≤ ZERO → (t : Term) → those_below k (run t) ≡ those_below k (letters t)
  unfolding those_below run letters
  below_run h (letter n) = refl
  below_run h zero = below_passed ZERO [] h
  below_run h one = below_passed ONE [] (omega arith)
  below_run h (add s t) =
      below_passed ADD (run s ++ run t) (omega arith)
      ∙ rw (below_append k (run s) (run t), below_append k (letters s) (letters t), below_run h s, below_run h t)
  below_run h (mul s t) =
      below_passed MUL (run s ++ run t) (omega arith)
      ∙ rw (below_append k (run s) (run t), below_append k (letters s) (letters t), below_run h s, below_run h t)

pub letters_term : {xs : List ℕ} {t : Term} → IsRun xs t → letters_of xs ≡ letters t
letters_term {t = t} h = rw h.whole (below_run ZERO (omega arith) t ∙ below_all ZERO (letters t) (fine_letters t h.fine))

pub variables_term : {xs : List ℕ} {t : Term} → IsRun xs t → variables xs ≡ variables (letters t)
variables_term {t = t} h = rw h.whole (below_run FIXED (omega arith) t)

-- a list that fills a front

pub fills_front : {n : ℕ} (l out out' : List ℕ) → Fills l out (Some n) out' → take n out' ≡ l
fills_front {n} l out out' (e, h, w) = rw w (take_at l (drop n out) n (sym e))

pub fills_length : {n : ℕ} (l out out' : List ℕ) → Fills l out (Some n) out' → length out' ≡ length out
fills_length {n} l out out' (e, h, w) = omega (arith, ap length w ∙ length-append l (drop n out), length-drop n out)

-- and what lies behind it
fills_drop : {n : ℕ} (l out out' : List ℕ) (m : ℕ) → Fills l out (Some n) out' → n ≤ m → drop m out' ≡ drop m out
fills_drop {n} l out out' m (e, h, w) g =
    let k : n + (m - n) ≡ m = omega arith in
    rw (← k, ← (drop-drop (m - n) n out'), ← (drop-drop (m - n) n out), w) (ap (drop (m - n)) (drop_at l (drop n out) n (sym e)))

-- one list and then a longer one in its place
pub fills_then : {n : ℕ} (l l' out mid out' : List ℕ) (r : Option ℕ) → Fills l out (Some n) mid → length l ≤ length l' → Fills l' mid r out' → Fills l' out r out'
fills_then l l' out mid out' (Some m) f g (e, h, w) = (e, omega (arith, fills_length l out mid f), w ∙ ap (λ d. l' ++ d) (fills_drop l out mid m f (omega (arith, f.0))))
fills_then l l' out mid out' None f g (h, w) = (omega (arith, fills_length l out mid f), w ∙ fills_length l out mid f)

pub fills_none : (l l' out out' : List ℕ) → length l ≤ length l' → Fills l out None out' → Fills l' out None out'
fills_none l l' out out' g (h, w) = (omega arith, w)

-- the loop of `gather`

abbrev pub gathered : ℕ → List ℕ → List ℕ → List ℕ
gathered k front s = insert_all lost compare front (those_below k s)

-- the first `count` numbers are what was gathered, and the letters from i on are still to come
pub record Gathering (k : ℕ) (s out₀ : List ℕ) (n : ℕ) (out : List ℕ) (count i : ℕ) : Type 0 where
  pub filled : Fills (take count out) out₀ (Some count) out
  pub left : gathered k (take n out₀) s ≡ gathered k (take count out) (drop i s)

module _ (k : ℕ) (s out₀ : List ℕ) (n : ℕ) (out : List ℕ) (count i : ℕ) (G : Gathering k s out₀ n out count i) where
  pub gathering_ends : length s ≤ i → Fills (gathered k (take n out₀) s) out₀ (Some count) out
  unfolding those_below
  gathering_ends h = let e : gathered k (take n out₀) s ≡ take count out = G.left ∙ rw (drop_of_length-le s h) in rw e G.filled

  module _ (h : i < length s) where
    pub gathering_passes : k ≤ get_or s i 0 → Gathering k s out₀ n out count (i + 1)
    gathering_passes g = record { filled = G.filled; left = G.left ∙ rw (drop_one s i h, below_passed k (get_or s i 0) (drop (i + 1) s) g) }

    module _ (g : get_or s i 0 < k) (out' : List ℕ) where
      abbrev longer : List ℕ
      longer = inserted (get_or s i 0) (take count out)

      left_over : gathered k (take n out₀) s ≡ gathered k longer (drop (i + 1) s)
      left_over = G.left ∙ rw (drop_one s i h, below_taken k (get_or s i 0) (drop (i + 1) s) g)

      filled_over : (r : Option ℕ) → Fills longer out r out' → Fills longer out₀ r out'
      filled_over r = fills_then (take count out) longer out₀ out out' r G.filled (insert_grows lost compare (get_or s i 0) (take count out))

      -- by the answer of `insert`
      module _ (r : Option ℕ) (f : Fills longer out r out') where
        pub gathering_takes : (m : ℕ) → r ≡ Some m → Gathering k s out₀ n out' m (i + 1)
        gathering_takes m d =
            let f' : Fills longer out (Some m) out' = rw d at f in
            let e : take m out' ≡ longer = fills_front longer out out' f' in
            record { filled = rw e (filled_over (Some m) f'); left = rw e left_over }

        pub gathering_overflows : r ≡ None → Fills (gathered k (take n out₀) s) out₀ None out'
        gathering_overflows d =
            rw left_over
            (fills_none longer (gathered k longer (drop (i + 1) s)) out₀ out' (insert_all_grows lost compare longer (those_below k (drop (i + 1) s)))
            (filled_over None (rw d at f)))

-- the promises of `letters` and `variables`

rising_both : (k : ℕ) (xs ys : List ℕ) → rising (those_below k xs ++ those_below k ys) ≡ gathered k (gathered k [] xs) ys
unfolding rising
rising_both k xs ys = foldl-append _ [] (those_below k xs) (those_below k ys)

-- the numbers of two lists below another, each once
abbrev pub both_of : ℕ → (xs ys : List ℕ) → List ℕ
both_of k xs ys = rising (those_below k xs ++ those_below k ys)

module _ (k : ℕ) (xs ys out mid : List ℕ) (r : Option ℕ) (f : Fills (gathered k [] xs) out r mid) where
  pub lists_none : r ≡ None → Fills (both_of k xs ys) out None mid
  lists_none d =
      rw (rising_both k xs ys)
      (fills_none (gathered k [] xs) (gathered k (gathered k [] xs) ys) out mid (insert_all_grows lost compare (gathered k [] xs) (those_below k ys)) (rw d at f))

  pub lists_all : (n : ℕ) → r ≡ Some n → (out' : List ℕ) (q : Option ℕ) → Fills (gathered k (take n mid) ys) mid q out' → Fills (both_of k xs ys) out q out'
  lists_all n d out' q g =
      let f' : Fills (gathered k [] xs) out (Some n) mid = rw d at f in
      let e : take n mid ≡ gathered k [] xs = fills_front (gathered k [] xs) out mid f' in
      rw (rising_both k xs ys)
      (fills_then (gathered k [] xs) (gathered k (gathered k [] xs) ys) out mid out' q f' (insert_all_grows lost compare (gathered k [] xs) (those_below k ys)) (rw e at g))

module _ {xs ys out out' : List ℕ} {r : Option ℕ} where
  pub lists_letters : Fills (both_of ZERO xs ys) out r out' → Lists xs ys out r out'
  lists_letters f = record { numbers = f; terms = λ s t p q. rw (← (letters_term p), ← (letters_term q)) f }

  pub lists_variables : Fills (both_of FIXED xs ys) out r out' → ListsVariables xs ys out r out'
  lists_variables f =
      record { numbers = f; terms = λ s t p q. rw (below_append FIXED (letters s) (letters t), ← (variables_term p), ← (variables_term q)) f }
