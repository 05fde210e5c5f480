-- Items of a term: one byte by what it is, a letter by its number.
use Prim.Native.Nat.{ℕ, zero, suc, ◌+◌, ◌≤◌, ◌<◌, ◌-◌}
use Rattle.std.specs.Option.{MatchOption}
use Rattle.std.specs.declared.option.Option as answered
use Rattle.std.specs.declared.option.Option.TheVariants.{Some, None}
use Rattle.std.specs.Result.{result_ok}
use native.Mathlib.Omega.{arith}
use mathlib.Core.Logic.{⊎_elim}
use mathlib.Core.Option.{Option, none, some}
use mathlib.Core.List.{List, [], ◌∷◌}
use mathlib.Core.Path.{◌≡◌, refl, ap, sym, subst, ◌∙◌}
use lib.ListN.{length, get_or, drop}
use borrow.Author.Tests.{eq-eqb, ne_eqb, le-leb, lt-leb, lt-ltb}
use Rattle.terms.specs.Theory.Order.{below?}
use Rattle.terms.specs.Term as term
use Rattle.terms.specs.Term.{letter}
use Rattle.terms.specs.Build.{Token, atom, plus, times}
use Rattle.terms.specs.Numbers as numbers
use Rattle.text.specs.declared.job.Sign.TheVariants.{Plus, Times, Variable, Fixed}
use Rattle.text.specs.declared.job.Mark.{Mark}
use Rattle.text.specs.declared.job.Mark.TheVariants as is
use Rattle.text.specs.Bytes.{read_number}
use Rattle.text.specs.Marks.{digit, mark}
use Rattle.text.specs.TermText.{letter_of, v_letter, c_letter, sign, token}
use Rattle.text.specs.Reading.{Numbered, limited}
use Rattle.text.proofs.Marking.{at, other, inside, below, above}
use Rattle.text.proofs.Numbers.{allowed, too_large, malformed}

-- what an item of one byte stands for, by what the byte is
abbrev pub told : Mark → Option Token
told (is.Sign Plus) = some plus
told (is.Sign Times) = some times
told (is.Sign Variable) = none
told (is.Sign Fixed) = none
told (is.Digit zero) = some (atom term.zero)
told (is.Digit (suc zero)) = some (atom term.one)
told (is.Digit (suc (suc d))) = none
told is.Space = none
told is.Foul = none

pub no_atom : (d : ℕ) → (d ≡ 0 → ⊥) → (d ≡ 1 → ⊥) → told (is.Digit d) ≡ none
no_atom zero p q = absurd (p refl)
no_atom (suc zero) p q = absurd (q refl)
no_atom (suc (suc d)) p q = refl

module _ (b : ℕ) where
  no_sign : (b ≡ 43 → ⊥) → (b ≡ 42 → ⊥) → (b ≡ 48 → ⊥) → (b ≡ 49 → ⊥) → sign b ≡ none
  unfolding sign
  no_sign p q r s = rw (ne_eqb b 43 p, sign) (rw (ne_eqb b 42 q) (rw (ne_eqb b 48 r) (rw (ne_eqb b 49 s))))

  no_digit : (b ≡ 48 → ⊥) → (b ≡ 49 → ⊥) → told (digit b) ≡ none
  no_digit p q =
      ⊎_elim
      (λ l. ap told (below b l))
      (λ h. ⊎_elim
      (λ l. ap told (above b h l))
      (λ k. ap told (inside b h k) ∙ no_atom (b - 48) (λ e. p (omega arith)) (λ e. q (omega arith)))
      (below? 57 b))
      (below? b 48)

-- the signs of the text are those that the marks tell
signs : (b : ℕ) → sign b ≡ told (mark b)
unfolding sign mark digit
signs b =
    at P 43 b refl
    (λ p. at P 42 b refl
    (λ q. at P 48 b refl
    (λ t. at P 49 b refl
    (λ u. at P 118 b refl
    (λ r. at P 99 b refl
    (λ w. at P 32 b refl (λ s. no_sign b p q t u ∙ sym (ap told (other b p q r w s) ∙ no_digit b t u))))))))
  where
    P : ℕ → Type 0
    P x = sign x ≡ told (mark x)

pub one_byte : (b : ℕ) (m : Mark) → mark b ≡ m → token (b ∷ []) ≡ told m
unfolding token
one_byte b m e = signs b ∙ ap told e

number_letter : (n : ℕ) → n < 4096 → numbers.token n ≡ some (atom (letter n))
unfolding numbers.token
number_letter n h = rw (lt-ltb n 4096 h, numbers.token)

-- what a number behind a letter's sign says of the letter
module _ (first most : ℕ) where
  abbrev Letters : Option ℕ → answered.Option ℕ → Type 0
  Letters o r = MatchOption r (letter_of first most o ≡ none) (λ n. (n ≤ most) × (letter_of first most o ≡ some (atom (letter (first + n)))))

  letters : (o : Option ℕ) → Letters o (result_ok (limited most o))
  unfolding letter_of
  letters none = rw (malformed most)
  letters (some n) =
      ⊎_elim
      (λ l. rw (too_large most n l) (rw (lt-leb n most l, letter_of)))
      (λ h. rw (allowed most n h) (h, rw (le-leb n most h, letter_of)))
      (below? most n)

  pub letter_most : (o : Option ℕ) {n : ℕ} → result_ok (limited most o) ≡ Some n → n ≤ most
  letter_most o e = (subst (Letters o) e (letters o)).0

  pub letter_missing : (o : Option ℕ) → result_ok (limited most o) ≡ None → letter_of first most o ≡ none
  letter_missing o e = subst (Letters o) e (letters o)

  pub letter_read : first + most < 4096 → (o : Option ℕ) (n : ℕ) → result_ok (limited most o) ≡ Some n → Numbered (letter_of first most o) (first + n)
  letter_read h o n e =
      let (k, l) = subst (Letters o) e (letters o) in
      record { small = omega arith; same = l ∙ sym (number_letter (first + n) (omega arith)) }

pub no_item : (bs : List ℕ) → length bs ≤ 0 → token bs ≡ none
unfolding token
no_item [] h = refl
no_item (b ∷ bs) h = absurd (omega (arith, h))

-- several bytes are a letter, if the first is `v` or `c`

pub no_letter : (bs : List ℕ) → 2 ≤ length bs → (get_or bs 0 0 ≡ 118 → ⊥) → (get_or bs 0 0 ≡ 99 → ⊥) → token bs ≡ none
unfolding token
no_letter [] l v c = refl
no_letter (b ∷ []) l v c = absurd (omega (arith, l))
no_letter (b ∷ d ∷ ds) l v c = rw (ne_eqb b 118 v, token) (rw (ne_eqb b 99 c))

pub v_item : (bs : List ℕ) → 2 ≤ length bs → get_or bs 0 0 ≡ 118 → token bs ≡ v_letter (read_number (drop 1 bs))
unfolding token
v_item [] l e = absurd (omega (arith, l))
v_item (b ∷ []) l e = absurd (omega (arith, l))
v_item (b ∷ d ∷ ds) l e = rw (eq-eqb b 118 e, token)

pub c_item : (bs : List ℕ) → 2 ≤ length bs → get_or bs 0 0 ≡ 99 → token bs ≡ c_letter (read_number (drop 1 bs))
unfolding token
c_item [] l e = absurd (omega (arith, l))
c_item (b ∷ []) l e = absurd (omega (arith, l))
c_item (b ∷ d ∷ ds) l e = rw e
