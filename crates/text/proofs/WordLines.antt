-- WORDS' text, from its lines and the order of its lists.
use Prim.Native.Nat.{ℕ}
use mathlib.Core.Path.{◌≡◌, refl, sym, ap, ◌∙◌}
use mathlib.Core.Bool.{Bool, true, false}
use mathlib.Core.List.{List, [], ◌∷◌, ◌++◌, flatten, append-nil}
use lib.Dec.{compare_is_eq}
use denote.Ref.{Bor}
use Rattle.std.specs.Ordering.{is_eq}
use Rattle.terms.specs.Equation.{orient}
use Rattle.terms.specs.Promises.{ordering_of, in_order_of}
use Rattle.terms.specs.Theory.Equation.{in_order_shows}
use Rattle.std.specs.declared.cmp.Ordering as answered
use Rattle.std.specs.declared.cmp.Ordering.TheVariants.{Less, Equal, Greater}
use Rattle.words.specs.Words.{Word, order_lists}
use Rattle.words.specs.Spelled.{spelled}
use Rattle.words.specs.WordLists.{ComparesLists}
use Rattle.words.specs.declared.normal_form.Parting.{Parting}
use Rattle.text.specs.Bytes.{ascii, number}
use Rattle.text.specs.Answer.{field, yes_no}
use Rattle.text.specs.Words.{word_list, lists_text, differ_line, words_text}
use Rattle.text.specs.Writer.{Writes}
use Rattle.text.specs.declared.writer.Writer.{Writer}
use Rattle.text.proofs.Writing.{then, put_last}

-- the three lines
pub put_lists : {o o₁ o₂ o₃ : Writer} (same : Bool) (us vs : List Word)
    → Writes (ascii "same=" ++ (yes_no same ++ (10 ∷ []))) o o₁
    → Writes (ascii "left=" ++ (word_list us ++ (10 ∷ []))) o₁ o₂ → Writes (ascii "right=" ++ (word_list vs ++ (10 ∷ []))) o₂ o₃
    → Writes (lists_text same us vs) o o₃
unfolding lists_text flatten field
put_lists same us vs p q r = then p (then q (put_last r))

-- two lists compared and put in order

is_eq_of : (o : answered.Ordering) → is_eq o ≡ compare_is_eq (ordering_of o)
is_eq_of Less = refl
is_eq_of Equal = refl
is_eq_of Greater = refl

module _ {xs ys : List ℕ} {p : Parting} (compared : ComparesLists xs ys p) (us vs : List Word) (u : xs ≡ spelled us) (v : ys ≡ spelled vs) where
  same_words : is_eq p.order ≡ compare_is_eq (order_lists us vs)
  same_words = is_eq_of p.order ∙ ap compare_is_eq (compared.order us vs u v)

  -- WORDS' text, in its lines
  module _ {same : Bool} (told : same ≡ is_eq p.order) where
    abbrev pub lines : List ℕ
    lines = lists_text same (orient order_lists us vs).left (orient order_lists us vs).right

    whole : lines ++ differ_line same us vs ≡ words_text us vs
    unfolding words_text
    whole =
        ap (λ b. lists_text b (orient order_lists us vs).left (orient order_lists us vs).right ++ differ_line b us vs) (told ∙ same_words)

    pub words_alike : same ≡ true → lines ≡ words_text us vs
    unfolding differ_line
    words_alike e = sym (append-nil lines) ∙ ap (λ b. lines ++ differ_line b us vs) (sym e) ∙ whole

    pub words_parted : same ≡ false → lines ++ (ascii "differ=" ++ (number p.place ++ (10 ∷ []))) ≡ words_text us vs
    unfolding differ_line field
    words_parted e =
        ap (λ n. lines ++ field "differ=" (number n)) (compared.place us vs u v) ∙ ap (λ b. lines ++ differ_line b us vs) (sym e) ∙ whole

-- the lists put in order
pub lists_in_order : (a b : Bor (List ℕ)) {p : Parting} → ComparesLists a.now b.now p → (us vs : List Word) → a.now ≡ spelled us → b.now ≡ spelled vs
    → {r : Bor (List ℕ) × Bor (List ℕ)} → r ≡ in_order_of (ordering_of p.order) a b
    → (r.0.now ≡ spelled (orient order_lists us vs).left) × (r.1.now ≡ spelled (orient order_lists us vs).right)
lists_in_order a b compared us vs u v h =
    rw (h, compared.order us vs u v) (in_order_shows order_lists spelled (λ (x : Bor (List ℕ)). x.now) us vs a b u v)
