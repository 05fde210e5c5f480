-- The lists of an entry, as they are made.
use Rattle.std.proofs.Common.{◌≡◌, ℕ, Bool, true, false, List, length, sym, ap, ◌∙◌, inl, inr, arith}
use Rattle.words.specs.Words.{words}
use Rattle.words.specs.Candidate.{Sides, nothing, CanonicalTerms}
use Rattle.words.specs.WordLists.{CanonicalWords, SameWords}
use Rattle.catalogue.specs.Texts.{lines_by}
use Rattle.catalogue.specs.Promises.{MakesLists}
use Rattle.catalogue.specs.declared.kind.Key.TheVariants.{Raw, Words}
use Rattle.catalogue.specs.Theory.Lists.{raw_lists, raw_room, agreed_lists, different_lists, words_room}

module _ {xs ys : List ℕ} {room : ℕ} {e : Sides} where
  -- the renamed sides
  pub sides_made : CanonicalTerms xs ys room e → MakesLists Raw xs ys room e
  unfolding lines_by
  sides_made C =
      record {
        exact = λ j p q F enough.
            let (l, m) = C.exact j.left j.right p q F.small_left F.small_right F.few (omega arith) in
            let (a, b) = raw_room F in
            record { lines = rw (l, m) (raw_lists F); left_room = omega (arith, ap length l); right_room = omega (arith, ap length m) };
      }

  -- nothing where the words agree
  pub nothing_made : (b : Bool) → SameWords xs ys b → b ≡ true → e ≡ (nothing room).sides → MakesLists Words xs ys room e
  unfolding lines_by
  nothing_made b A h K =
      record {
        exact = λ j p q F enough.
            let same = sym (A j.left j.right p q F.small_left F.small_right) ∙ h in
            rw K (record { lines = inl (agreed_lists (words j.left) (words j.right) same); left_room = omega arith; right_room = omega arith });
      }

  -- otherwise the renamed lists of words
  pub lists_made : (b : Bool) → SameWords xs ys b → b ≡ false → CanonicalWords xs ys room e → MakesLists Words xs ys room e
  unfolding lines_by
  lists_made b A h C =
      record {
        exact = λ j p q F enough.
            let differ = sym (A j.left j.right p q F.small_left F.small_right) ∙ h in
            let (l, m) = C.exact j.left j.right p q F.small_left F.small_right F.few enough in
            let (a, b) = words_room F in
            record {
              lines = inr (rw (l, m) (different_lists (words j.left) (words j.right) differ));
              left_room = omega (arith, ap length l);
              right_room = omega (arith, ap length m);
            };
      }
