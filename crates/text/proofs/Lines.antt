-- Texts cut behind a key and at a byte, as the library's methods cut them.
use Rattle.std.proofs.Common.{ℕ, suc, ◌+◌, ◌<◌, ◌≤◌, Bool, true, false, cond, not, Some, None, List, [], ◌∷◌, ◌++◌, ◌≡◌, refl, ap, ◌∙◌, length, take, drop, arith, length-take, length-drop, add-one, one-add}
use borrow.Author.Tests.{lt-ltb, ltb-true}
use Rattle.std.specs.Option.{MatchOption}
use Prim.Native.Nat.compare
use denote.Bor.{Bor}
use Rattle.std.specs.declared.option.Option as answered
use mathlib.Core.Logic.{◌≢◌}
use lib.Dec.{eqb, ltb}
use Rattle.std.proofs.Math.Option.{Option, none, some, bind}
use Rattle.std.specs.List.{position_or_len, position}
use Rattle.text.specs.Bytes.{Split, after, line, up_to}
use Rattle.text.specs.Layout.{keyed}
use Rattle.text.specs.Reading.{CutAt, Valued, Unkeyed}
use Rattle.text.specs.Theory.Keyed.{after_only, after_key}

pub after_some : (p rest s : List ℕ) → s ≡ p ++ rest → after p s ≡ some rest
after_some p rest s e = ap (after p) e ∙ after_key p rest

pub after_none : (p s : List ℕ) → ((rest : List ℕ) → s ≢ p ++ rest) → after p s ≡ none
after_none p s h = go (after p s) refl
  where
    go : (o : Option (List ℕ)) → after p s ≡ o → o ≡ none
    go none e = refl
    go (some v) e = absurd (h v (after_only p s e))

module _ (b : ℕ) where
  -- where the byte stands first, or the length
  abbrev first : List ℕ → ℕ
  first s = position_or_len (λ x. eqb x b) s

  abbrev cut : List ℕ → ℕ → Split
  cut s i = record { front = take i s; rest = drop (suc i) s }

  up_to_first : (s : List ℕ) → up_to b s ≡ cond (ltb (first s) (length s)) (some (cut s (first s))) none
  unfolding up_to
  up_to_first [] = refl
  up_to_first (x ∷ xs) = go (eqb x b) (up_to_first xs)
    where
      go : (t : Bool) → up_to b xs ≡ cond (ltb (first xs) (length xs)) (some (cut xs (first xs))) none
          → elim t [
            | true ↦ some (record { front = []; rest = xs })
            | false ↦ elim (up_to b xs) [ none ↦ none | some c ↦ some (record { front = x ∷ c.front; rest = c.rest }) ]
          ]
          ≡ (let n = cond (not t) (1 + first xs) 0 in cond (ltb n (length (x ∷ xs))) (some (cut (x ∷ xs) n)) none)
      go true e = rw (lt-ltb 0 (suc (length xs)) (omega arith))
      go false e = rw (e, one-add, compare.suc-suc) (more (ltb (first xs) (length xs)))
        where
          more : (t : Bool)
              → elim (cond t (some (cut xs (first xs))) none) [ none ↦ none | some c ↦ some (record { front = x ∷ c.front; rest = c.rest }) ]
              ≡ cond t (some (cut (x ∷ xs) (suc (first xs)))) none
          more true = refl
          more false = refl

  pub up_to_at : (s : List ℕ) (i : ℕ) → position (λ x. eqb x b) s ≡ Some i → CutAt s b (take i s) (drop (i + 1) s)
  up_to_at s i e = go (ltb (first s) (length s)) refl e
    where
      go : (t : Bool) → ltb (first s) (length s) ≡ t → cond t (Some (first s)) None ≡ Some i → CutAt s b (take i s) (drop (i + 1) s)
      go true h k =
          let f : first s ≡ i = cc in
          let l : first s < length s = ltb-true _ _ h in
          rw (← f, add-one) (record {
            shorter = omega (arith, length-take (first s) s, length-drop (suc (first s)) s);
            parts = up_to_first s ∙ rw h;
          })
      go false h k = cc

  pub up_to_none : (s : List ℕ) → position (λ x. eqb x b) s ≡ None → up_to b s ≡ none
  up_to_none s e = go (ltb (first s) (length s)) refl e
    where
      go : (t : Bool) → ltb (first s) (length s) ≡ t → cond t (Some (first s)) None ≡ None → up_to b s ≡ none
      go true h k = cc
      go false h k = up_to_first s ∙ rw h

-- the line with a key

pub no_key : (s key : List ℕ) → after key s ≡ none → Unkeyed s key
unfolding keyed bind
no_key s key e k f = rw (f, e)

module _ (s key rest : List ℕ) (e : after key s ≡ some rest) where
  no_end : up_to 10 rest ≡ none → Unkeyed s key
  unfolding keyed bind line
  no_end h k f = rw (f, e) h

  value_ends : length rest ≤ length s → (v more : List ℕ) → CutAt rest 10 v more → Valued s key v more
  unfolding keyed bind line
  value_ends l v more c = record { shorter = omega (arith, l, c.shorter); parts = λ k f. rw (f, e) c.parts }

  pub value_of : length rest ≤ length s → (o : answered.Option (Bor (List ℕ) × Bor (List ℕ)))
      → MatchOption o (up_to 10 rest ≡ none) (λ v. CutAt rest 10 v.0.now v.1.now)
      → MatchOption o (Unkeyed s key) (λ v. Valued s key v.0.now v.1.now)
  value_of l None h = no_end h
  value_of l (Some v) h = value_ends l v.0.now v.1.now h
