-- The items of a term's text, one after the other, with a byte between them.
use Prim.Native.Nat.{ℕ, zero, suc, ◌+◌, ◌-◌, ◌≤◌, ◌<◌}
use Prim.Native.Char.{code}
use mathlib.Core.Path.{◌≡◌, refl, sym, ap, ap₂, ◌∙◌}
use mathlib.Core.List.{List, [], ◌∷◌, ◌++◌, map, append_assoc, map-append}
use native.Mathlib.Numerals.{add-one}
use native.Mathlib.Omega.{arith}
use borrow.Author.Tests.{lt-ltb, le-ltb, ne_eqb}
use lib.ListN.{length, get_or, take, length-map}
use lib.Seq.{take-suc, take_all, length-take-le}
use Rattle.terms.specs.Run.{ZERO, ONE, ADD, run}
use Rattle.terms.specs.Held.{Fine, IsRun}
use Rattle.terms.specs.Term.{Term, letter, zero, one, add, mul}
use Rattle.terms.specs.Letters.{FIXED}
use Rattle.text.specs.Bytes.{number, parted}
use Rattle.text.specs.TermText.{write_letter, items, write_term}
use Rattle.text.specs.Items.{sign_of, item, gap}
use Rattle.text.specs.Writer.{Writes}
use Rattle.text.specs.declared.writer.Writer.{Writer}
use Rattle.text.proofs.Writing.{then, put_as, put_none}
use Rattle.text.specs.Theory.TermText.{write_v, write_c}
use Rattle.text.proofs.Decimal.{number_small}

-- ---- one item

pub sign_mul : (n : ℕ) → (n ≡ ZERO → ⊥) → (n ≡ ONE → ⊥) → (n ≡ ADD → ⊥) → code "*" ≡ sign_of n
unfolding sign_of
sign_mul n f g h = rw (ne_eqb n ZERO f, sign_of) (rw (ne_eqb n ONE g) (rw (ne_eqb n ADD h)))

pub put_digit : {o o₁ o₂ : Writer} (n : ℕ) → n < 10 → Writes (code "v" ∷ []) o o₁ → Writes ((48 + n) ∷ []) o₁ o₂ → Writes (write_letter n) o o₂
put_digit n h p q = put_as (sym (write_v n (omega arith))) (then p (put_as (sym (number_small n h)) q))

pub put_v : {o o₁ o₂ : Writer} (n : ℕ) → n < FIXED → Writes (code "v" ∷ []) o o₁ → Writes (number n) o₁ o₂ → Writes (write_letter n) o o₂
put_v n h p q = put_as (sym (write_v n h)) (then p q)

pub put_c : {o o₁ o₂ : Writer} (n : ℕ) → FIXED ≤ n → Writes (code "c" ∷ []) o o₁ → Writes (number (n - FIXED)) o₁ o₂ → Writes (write_letter n) o o₂
put_c n h p q = put_as (sym (write_c n h)) (then p q)

letter_item : (n : ℕ) → n < ZERO → write_letter n ≡ item n
unfolding item
letter_item n h = rw (lt-ltb n ZERO h, item)

sign_item : (n : ℕ) → ZERO ≤ n → sign_of n ∷ [] ≡ item n
unfolding item
sign_item n h = rw (le-ltb n ZERO h, item)

pub put_letter_item : {o o₁ : Writer} (n : ℕ) → n < ZERO → Writes (write_letter n) o o₁ → Writes (item n) o o₁
put_letter_item n h p = put_as (letter_item n h) p

pub put_sign_item : {o o₁ : Writer} (n : ℕ) → ZERO ≤ n → Writes (sign_of n ∷ []) o o₁ → Writes (item n) o o₁
put_sign_item n h p = put_as (sign_item n h) p

-- ---- pieces, each with a byte before it but the first

pub put_no_gap : (s i : ℕ) (o : Writer) → i ≤ 0 → Writes (gap s i) o o
unfolding gap
put_no_gap s i o h = let e : i ≡ 0 = omega arith in put_as (sym (ap (gap s) e)) (put_none o)

pub gap_some : (s i : ℕ) → 0 < i → gap s i ≡ s ∷ []
unfolding gap
gap_some s zero h = let z : ⊥ = omega arith in absurd z
gap_some s (suc i) h = refl

pub put_some_gap : {o o₁ : Writer} (s i : ℕ) → 0 < i → Writes (s ∷ []) o o₁ → Writes (gap s i) o o₁
put_some_gap s i h p = put_as (sym (gap_some s i h)) p

-- a letter of one digit, not the first
pub digit_letter : (s i n : ℕ) → 0 < i → n < 10 → s ∷ code "v" ∷ (48 + n) ∷ [] ≡ gap s i ++ write_letter n
digit_letter s i n h k =
    ap₂ ◌++◌ (sym (gap_some s i h)) (ap (λ l. code "v" ∷ l) (sym (number_small n k)) ∙ sym (write_v n (omega arith)))

-- a piece more behind the others
parted_behind : (s : ℕ) (p : List ℕ) (ps : List (List ℕ)) (q : List ℕ) → (parted s (p ∷ ps) ++ (s ∷ [])) ++ q ≡ parted s (p ∷ (ps ++ (q ∷ [])))
unfolding parted
parted_behind s p [] q = append_assoc p (s ∷ []) q
parted_behind s p (r ∷ ps) q =
    ap (λ (l : List ℕ). l ++ q) (append_assoc p (s ∷ parted s (r ∷ ps)) (s ∷ []))
    ∙ append_assoc p (s ∷ (parted s (r ∷ ps) ++ (s ∷ []))) q
    ∙ ap (λ (l : List ℕ). p ++ (s ∷ l)) (parted_behind s r ps q)

pub parted_more : (s : ℕ) (ps : List (List ℕ)) (q : List ℕ) → (parted s ps ++ gap s (length ps)) ++ q ≡ parted s (ps ++ (q ∷ []))
unfolding parted gap
parted_more s [] q = refl
parted_more s (p ∷ ps) q = parted_behind s p ps q

-- the pieces of no number
pub put_no_piece : (s : ℕ) (f : ℕ → List ℕ) (xs : List ℕ) (o : Writer) → Writes (parted s (map f (take 0 xs))) o o
unfolding parted
put_no_piece s f xs o = put_none o

-- the pieces of one number more
pub pieces_more : (s : ℕ) (f : ℕ → List ℕ) (xs : List ℕ) (i : ℕ) → i < length xs
    → parted s (map f (take i xs)) ++ (gap s i ++ f (get_or xs i 0)) ≡ parted s (map f (take (i + 1) xs))
pieces_more s f xs i h = sym (append_assoc (parted s (map f (take i xs))) (gap s i) (f (get_or xs i 0))) ∙ law
  where
    size : length (map f (take i xs)) ≡ i
    size = length-map (take i xs) f ∙ length-take-le i xs (omega arith)

    law : (parted s (map f (take i xs)) ++ gap s i) ++ f (get_or xs i 0) ≡ parted s (map f (take (i + 1) xs))
    law =
        ap (λ (k : ℕ). (parted s (map f (take i xs)) ++ gap s k) ++ f (get_or xs i 0)) (sym size)
        ∙ parted_more s (map f (take i xs)) (f (get_or xs i 0))
        ∙ ap (parted s) (sym (map-append f (take i xs) (get_or xs i 0 ∷ [])) ∙ ap (map f) (sym (take-suc xs i 0 h) ∙ ap (λ k. take k xs) (sym (add-one i))))

pub put_piece : {o o₁ o₂ : Writer} (s : ℕ) (f : ℕ → List ℕ) (xs : List ℕ) (i : ℕ) → i < length xs
    → Writes (parted s (map f (take i xs))) o o₁ → Writes (gap s i ++ f (get_or xs i 0)) o₁ o₂
    → Writes (parted s (map f (take (i + 1) xs))) o o₂
put_piece s f xs i h p q = put_as (pieces_more s f xs i h) (then p q)

-- ---- a whole term

items_run : (t : Term) → Fine t → items t ≡ map item (run t)
unfolding items run Fine item sign_of
items_run (letter n) h = ap (λ (l : List ℕ). l ∷ []) (letter_item n h)
items_run zero h = refl
items_run one h = refl
items_run (add s t) h =
    ap (λ l. (code "+" ∷ []) ∷ l) (ap₂ ◌++◌ (items_run s h.0) (items_run t h.1) ∙ sym (map-append item (run s) (run t)))
items_run (mul s t) h =
    ap (λ l. (code "*" ∷ []) ∷ l) (ap₂ ◌++◌ (items_run s h.0) (items_run t h.1) ∙ sym (map-append item (run s) (run t)))

-- when every number of a term's run is put, its text is
pub put_whole : {o o₁ : Writer} (xs : List ℕ) (i : ℕ) (t : Term) → length xs ≤ i → Writes (parted (code " ") (map item (take i xs))) o o₁ → IsRun xs t
    → Writes (write_term t) o o₁
unfolding write_term
put_whole xs i t h p e = put_as (ap (parted (code " ")) (ap (map item) (take_all i xs h ∙ e.whole) ∙ sym (items_run t e.fine))) p
