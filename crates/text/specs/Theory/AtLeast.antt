-- Texts with no byte below a bound, and so without the bytes below it.
use Rattle.std.specs.Prelude.{ℕ, suc, ◌≤◌, ◌<◌, refl, Bool, true, ◌&&◌, T, leb}
use Prim.Native.Char.{code}
use Rattle.std.proofs.Common.{arith, ⊎_elim, leb→le}
use mathlib.Core.List.{List, [], ◌∷◌, ◌++◌}
use Rattle.terms.specs.Lists.{◌∈◌, here, there, not-in-nil, cons-cases, append_cases, Distinct, none, more}
use Rattle.terms.specs.Theory.Reflects.{both}
use Rattle.text.specs.Bytes.{parted}

abbrev pub AtLeast : ℕ → List ℕ → Type 0
AtLeast k p = (b : ℕ) → b ∈ p → k ≤ b

-- no byte is below a space, so that there is no byte 10
abbrev pub Printable : List ℕ → Type 0
Printable = AtLeast (code " ")

pub higher : {j k : ℕ} {p : List ℕ} → j ≤ k → AtLeast k p → AtLeast j p
higher le h b i = omega (arith, h b i)

-- a lower byte is not in the text
pub free : {c k : ℕ} {p : List ℕ} → c < k → AtLeast k p → c ∈ p → ⊥
free {c} low h i = omega (arith, h c i)

module _ (k : ℕ) where
  pub cons_least : {b : ℕ} {p : List ℕ} → k ≤ b → AtLeast k p → AtLeast k (b ∷ p)
  cons_least high h c i = ⊎_elim (λ e. omega arith) (h c) (cons-cases i)

  -- the same by a test, for a text that is known
  abbrev pub at_least : List ℕ → Bool
  at_least [] = true
  at_least (b ∷ p) = leb k b && at_least p

  pub tested : (p : List ℕ) → T (at_least p) → AtLeast k p
  tested [] t c i = absurd (not-in-nil i)
  tested (b ∷ p) t c i =
      let (first, rest) = both (leb k b) (at_least p) t in
      cons_least (leb→le k b first) (tested p rest) c i

  pub append_least : (p : List ℕ) {q : List ℕ} → AtLeast k p → AtLeast k q → AtLeast k (p ++ q)
  append_least p h g b i = ⊎_elim (h b) (g b) (append_cases p i)

  pub parted_least : (s : ℕ) → k ≤ s → (ps : List (List ℕ)) → ((p : List ℕ) → p ∈ ps → AtLeast k p) → AtLeast k (parted s ps)
  unfolding parted
  parted_least s high [] h b i = absurd (not-in-nil i)
  parted_least s high (p ∷ []) h b i = h p (here refl) b i
  parted_least s high (p ∷ q ∷ qs) h b i =
      append_least p (h p (here refl)) (cons_least high (parted_least s high (q ∷ qs) (λ r m. h r (there m)))) b i

-- each number is below those behind it
abbrev pub rises : List ℕ → Bool
rises [] = true
rises (n ∷ ns) = at_least (suc n) ns && rises ns

pub rises_distinct : (ns : List ℕ) → T (rises ns) → Distinct ns
rises_distinct [] t = none
rises_distinct (n ∷ ns) t =
    let (first, rest) = both (at_least (suc n) ns) (rises ns) t in more {x = n} (free {c = n} (omega arith) (tested (suc n) ns first)) (rises_distinct ns rest)
