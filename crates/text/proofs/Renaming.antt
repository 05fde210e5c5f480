-- RENAME's lines, and that the renamed terms have letters that a run may have.
use Prim.Native.Nat.{ℕ, ◌≤◌, ◌<◌}
use mathlib.Core.Path.{◌≡◌, sym, ◌∙◌}
use mathlib.Core.Logic.{⊎_elim}
use mathlib.Core.Bool.{Bool, true, false}
use mathlib.Core.List.{List, [], ◌∷◌, ◌++◌}
use native.Mathlib.Omega.{arith}
use lib.Dec.{compare_is_eq}
use lib.ListN.{length}
use Rattle.terms.specs.Lists.{◌∈◌, append_cases, in_left, in_right}
use Rattle.terms.specs.Equation.{Equation}
use Rattle.terms.specs.Term.{Term, size}
use Rattle.terms.specs.Letters.{letters, rising, variables}
use Rattle.terms.specs.Run.{ZERO}
use Rattle.terms.specs.Held.{Fine, IsRun}
use Rattle.terms.specs.Theory.Held.{fine_letters, letters_fine}
use Rattle.words.specs.Words.{Word, words, order_lists}
use Rattle.words.specs.Spelled.{spelled}
use Rattle.words.specs.Rename.{canonical_terms, canonical_words}
use Rattle.words.specs.WordLists.{CanonicalWords, SameWords}
use Rattle.words.specs.Candidate.{CanonicalTerms}
use Rattle.words.specs.Theory.Shared.{renamed_letters}
use Rattle.text.specs.Bytes.{ascii}
use Rattle.text.specs.TermText.{write_term}
use Rattle.text.specs.Answer.{field}
use Rattle.text.specs.Words.{word_list}
use Rattle.text.specs.Rename.{term_lines, word_lines, renamed_words}
use Rattle.std.specs.Prelude.{None}
use Rattle.text.specs.Renamed.{Renamed}
use Rattle.text.specs.Writer.{Writes}
use Rattle.text.specs.declared.writer.Writer.{Writer}
use Rattle.text.proofs.Writing.{then, put_as}

-- ---- the renamed terms

canonical_fine : (s t : Term) → Fine s → Fine t → length (rising (variables (letters s ++ letters t))) ≤ 6
    → Fine (canonical_terms s t).left × Fine (canonical_terms s t).right
canonical_fine s t f g few = (
  letters_fine (canonical_terms s t).left (λ n i. low n (in_left (letters (canonical_terms s t).right) i)),
  letters_fine (canonical_terms s t).right (λ n i. low n (in_right (letters (canonical_terms s t).left) i)),
)
  where
    low : (n : ℕ) → n ∈ letters (canonical_terms s t).left ++ letters (canonical_terms s t).right → n < ZERO
    low n i =
        ⊎_elim (λ h. omega (arith, few)) (λ j. ⊎_elim (fine_letters s f n) (fine_letters t g n) (append_cases (letters s) j))
        (renamed_letters s t n i)

-- the runs of the canonical equation
pub canonical_runs : {xs ys : List ℕ} {e : Equation (List ℕ)} {us vs : List ℕ} → CanonicalTerms xs ys 31 e → us ≡ e.left → vs ≡ e.right
    → (s t : Term) → IsRun xs s → IsRun ys t → size s ≤ 31 → size t ≤ 31 → length (rising (variables (letters s ++ letters t))) ≤ 6
    → IsRun us (canonical_terms s t).left × IsRun vs (canonical_terms s t).right
canonical_runs c u v s t p q small-s small-t few =
    let (l, r) = c.exact s t p q small-s small-t few (omega arith) in
    let (f, g) = canonical_fine s t p.fine q.fine few in
    (record { fine = f; whole = u ∙ l }, record { fine = g; whole = v ∙ r })

-- ---- the renamed lists

-- none where the words agree
module _ {xs ys : List ℕ} {same : Bool} (test : SameWords xs ys same) where
  pub no_lists : same ≡ true
      → (s t : Term) → IsRun xs s → IsRun ys t → size s ≤ 31 → size t ≤ 31 → length (rising (variables (letters s ++ letters t))) ≤ 6 → Renamed (words s) (words t) None
  no_lists e s t p q small-s small-t few = sym (test s t p q small-s small-t) ∙ e

  pub canonical_lists : {room : ℕ} {e : Equation (List ℕ)} {us vs : List ℕ} → same ≡ false → CanonicalWords xs ys room e → us ≡ e.left → vs ≡ e.right
      → (s t : Term) → IsRun xs s → IsRun ys t → size s ≤ 31 → size t ≤ 31 → length (rising (variables (letters s ++ letters t))) ≤ 6 → 5508 ≤ room
      → (compare_is_eq (order_lists (words s) (words t)) ≡ false)
      × (us ≡ spelled (canonical_words (words s) (words t)).left) × (vs ≡ spelled (canonical_words (words s) (words t)).right)
  canonical_lists differ c u v s t p q small-s small-t few room =
      let (f, g) = c.exact s t p q small-s small-t few (omega (arith, room)) in
      (sym (test s t p q small-s small-t) ∙ differ, u ∙ f, v ∙ g)

-- ---- the lines

pub put_term_lines : {o o₁ o₂ : Writer} (e : Equation Term)
    → Writes (ascii "left=" ++ (write_term e.left ++ (10 ∷ []))) o o₁ → Writes (ascii "right=" ++ (write_term e.right ++ (10 ∷ []))) o₁ o₂
    → Writes (term_lines e) o o₂
unfolding term_lines field
put_term_lines e p q = then p q

module _ {o o₁ o₂ : Writer} (us vs : List Word) where
  pub put_no_lists : compare_is_eq (order_lists us vs) ≡ true
      → Writes (ascii "wleft=" ++ (ascii "-" ++ (10 ∷ []))) o o₁ → Writes (ascii "wright=" ++ (ascii "-" ++ (10 ∷ []))) o₁ o₂ → Writes (renamed_words us vs) o o₂
  unfolding renamed_words word_lines field ascii
  put_no_lists e p q = put_as (rw (e, renamed_words)) (then p q)

  pub put_word_lines : {xs ys : List ℕ}
      → (compare_is_eq (order_lists us vs) ≡ false) × (xs ≡ spelled (canonical_words us vs).left) × (ys ≡ spelled (canonical_words us vs).right)
      → ((ws : List Word) → xs ≡ spelled ws → Writes (ascii "wleft=" ++ (word_list ws ++ (10 ∷ []))) o o₁)
      → ((ws : List Word) → ys ≡ spelled ws → Writes (ascii "wright=" ++ (word_list ws ++ (10 ∷ []))) o₁ o₂)
      → Writes (renamed_words us vs) o o₂
  unfolding renamed_words word_lines field
  put_word_lines (differ, u, v) p q =
      put_as (rw (differ, renamed_words)) (then (p (canonical_words us vs).left u) (q (canonical_words us vs).right v))
