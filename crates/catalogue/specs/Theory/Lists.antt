-- The lists of numbers that stand for the lines of an entry: the runs of the canonical sides, or the canonical lists of words spelled. They
-- fit into a place.
use Rattle.std.specs.Prelude.{◌≡◌, ℕ, ◌≤◌, true, false, List, [], ◌∷◌, map, length, ◌≢◌, refl}
use Rattle.std.proofs.Common.{arith, sym, ap₂, ◌∙◌}
use Rattle.std.proofs.Math.Dec.{compare_is_eq}
use Rattle.terms.specs.Lists.{here, not-in-nil}
use Rattle.terms.specs.Sort.{kept}
use Rattle.terms.specs.Compare.{lexicographic}
use Rattle.terms.specs.Term.{Term, size}
use Rattle.terms.specs.Run.{run}
use Rattle.terms.specs.Held.{Fine}
use Rattle.terms.specs.Theory.SortMembers.{sort_members}
use Rattle.terms.specs.Theory.Equation.{orient_either}
use Rattle.terms.specs.Theory.Held.{length_run, letters_fine}
use Rattle.words.specs.Words.{Word, order_lists, words}
use Rattle.words.specs.Spelled.{spelled}
use Rattle.words.specs.Rename.{rename_words, canonical_terms, canonical_words}
use Rattle.words.specs.Theory.Order.{word_order}
use Rattle.words.specs.Theory.Renaming.{canonical_words_least}
use Rattle.words.specs.Theory.Letters.{spelled_bound, renamed_bound}
use Rattle.text.specs.TermText.{Readable}
use Rattle.text.specs.Job.{Fit}
use Rattle.text.specs.Rename.{term_lines, renamed_words}
use Rattle.text.specs.Theory.Shared.{renamed_fit}
use Rattle.catalogue.specs.Stored.{ROOM, RawLines, AgreedLines, DifferentLines}

-- ---- the canonical sides

-- a side of the canonical equation
pub record Side (t : Term) : Type 0 where
  pub readable : Readable t
  pub fine : Fine t
  pub small : size t ≤ 31

side : (t : Term) → Readable t → size t ≤ 31 → Side t
side t readable small = record { readable = readable; fine = letters_fine t (λ n i. omega (arith, readable n i)); small = small }

module _ {s t : Term} (F : Fit s t) where
  pub canonical_sides : Side (canonical_terms s t).left × Side (canonical_terms s t).right
  canonical_sides =
      let e = canonical_terms s t in
      let fit = renamed_fit F in
      (side e.left fit.readable_left fit.small_left, side e.right fit.readable_right fit.small_right)

  -- a raw key: the runs of both sides
  pub raw_lists : RawLines (run (canonical_terms s t).left) (run (canonical_terms s t).right) (term_lines (canonical_terms s t))
  raw_lists =
      let (left, right) = canonical_sides in
      record {
        equation = canonical_terms s t;
        left_run = record { fine = left.fine; whole = refl };
        right_run = record { fine = right.fine; whole = refl };
        left_readable = left.readable;
        right_readable = right.readable;
        is = refl;
      }

  pub raw_room : (length (run (canonical_terms s t).left) ≤ 31) × (length (run (canonical_terms s t).right) ≤ 31)
  raw_room =
      let (left, right) = canonical_sides in
      (omega (arith, length_run (canonical_terms s t).left, left.small), omega (arith, length_run (canonical_terms s t).right, right.small))

-- ---- the canonical lists of words

-- no words are the renaming of none only
none_renamed : (f : ℕ → ℕ) (ws : List Word) → rename_words f ws ≡ [] → ws ≡ []
unfolding rename_words
none_renamed f [] e = refl
none_renamed f (w ∷ ws) e = absurd (not-in-nil (rw e at ((sort_members kept word_order (map (map f) (w ∷ ws)) (map f w)).1 (here refl))))

module _ (us vs : List Word) where
  -- a word key: no numbers where the words agree
  pub agreed_lists : compare_is_eq (order_lists us vs) ≡ true → AgreedLines [] [] (renamed_words us vs)
  unfolding renamed_words
  agreed_lists e = record { left_none = refl; right_none = refl; is = rw (e, renamed_words) }

  -- otherwise both lists spelled
  pub different_lists : compare_is_eq (order_lists us vs) ≡ false
      → DifferentLines (spelled (canonical_words us vs).left) (spelled (canonical_words us vs).right) (renamed_words us vs)
  unfolding renamed_words lexicographic
  different_lists e =
      record {
        first = (canonical_words us vs).left;
        second = (canonical_words us vs).right;
        left_spelled = refl;
        right_spelled = refl;
        some = some;
        is = rw (e, renamed_words);
      }
    where
      f : ℕ → ℕ
      f = (canonical_words_least us vs).attained.0

      differ : us ≡ [] → vs ≢ []
      differ p q = let z : false ≡ true = sym e ∙ ap₂ (λ u v. compare_is_eq (order_lists u v)) p q in let n : ◌≡◌ {A = ℕ} 0 1 = cc in omega arith

      some : (canonical_words us vs).left ≡ [] → (canonical_words us vs).right ≢ []
      some =
          rw (canonical_words_least us vs).attained.3
          (orient_either (λ u v. u ≡ [] → v ≢ []) order_lists (rename_words f us) (rename_words f vs)
          (λ p q. differ (none_renamed f us p) (none_renamed f vs q)) (λ q p. differ (none_renamed f us p) (none_renamed f vs q)))

-- and they fit into a place
pub words_room : {s t : Term} → Fit s t
    → (length (spelled (canonical_words (words s) (words t)).left) ≤ ROOM) × (length (spelled (canonical_words (words s) (words t)).right) ≤ ROOM)
words_room {s} {t} F =
    let (f, _, _, e) = (canonical_words_least (words s) (words t)).attained in
    let left : length (spelled (rename_words f (words s))) ≤ ROOM = omega (arith, renamed_bound f (words s), spelled_bound kept s F.small_left) in
    let right : length (spelled (rename_words f (words t))) ≤ ROOM = omega (arith, renamed_bound f (words t), spelled_bound kept t F.small_right) in
    rw e
    (orient_either (λ u v. (length (spelled u) ≤ ROOM) × (length (spelled v) ≤ ROOM)) order_lists (rename_words f (words s)) (rename_words f (words t))
    (left, right) (right, left))
