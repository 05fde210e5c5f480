-- A law or a direction by its name: the first whose name a text is.
use Rattle.std.proofs.Common.{◌≡◌, ℕ, Bool, true, false, cond, List, [], ◌∷◌, map, refl, sym, ap, ◌∙◌, Some, None}
use Rattle.std.specs.Prelude as answered
use Rattle.std.specs.List.{find}
use Rattle.std.specs.Str.{bytes_eq}
use Rattle.std.specs.Option.{option_map}
use Rattle.std.specs.Bool.{Decides}
use Rattle.std.proofs.lemmas.Slice.Eq.{bytes_eq-Decides}
use Rattle.std.proofs.Math.Option.{Option, none, some, or_else, bind}
use mathlib.Core.List.{append-nil}
use Rattle.std.proofs.lemmas.Iterator.Adapters.{option_map_id}
use Rattle.search.specs.Law.{semiring}
use Rattle.search.specs.Coded.{name_of, direction_of, laws}
use Rattle.search.specs.declared.search.Law.{Law}
use Rattle.search.specs.declared.search.Direction.{Direction}
use Rattle.search.specs.declared.search.Direction.TheVariants.{Forward, Back}
use Rattle.text.specs.Bytes.{after, end}
use Rattle.text.specs.StepText.{law_name, direction, which, read_law, read_direction}
use Rattle.text.specs.Theory.Keyed.{after_only, after_key, end_only}
use Rattle.checking.specs.LineRead.{LawIn, DirectionIn}

-- the text of one value
module _ {B : Type 0} (text : B → List ℕ) (bs : List ℕ) (b : B) where
  whole : bs ≡ text b → bind (after (text b) bs) (end b) ≡ some b
  unfolding bind end
  whole e =
      let f : after (text b) bs ≡ some [] = ap (after (text b)) (e ∙ sym (append-nil (text b))) ∙ after_key (text b) [] in
      rw f

  other : (bs ≡ text b → ⊥) → bind (after (text b) bs) (end b) ≡ none
  unfolding bind
  other h = go (after (text b) bs) refl
    where
      behind : (v : List ℕ) → after (text b) bs ≡ some v → (o : Option B) → end b v ≡ o → o ≡ none
      behind v e none f = refl
      behind v e (some x) f = absurd (h (after_only (text b) bs e ∙ rw (end_only b v f).0 (append-nil (text b))))

      go : (o : Option (List ℕ)) → after (text b) bs ≡ o → bind o (end b) ≡ none
      go none e = refl
      go (some v) e = behind v e (end b v) refl

  of_one : bind (after (text b) bs) (end b) ≡ cond (bytes_eq bs (text b)) (some b) none
  of_one = go (bytes_eq bs (text b)) (bytes_eq-Decides bs (text b))
    where
      go : (t : Bool) → Decides t (bs ≡ text b) → bind (after (text b) bs) (end b) ≡ cond t (some b) none
      go true d = whole (d.0 refl)
      go false d = other (λ e. let f = d.1 e in cc)

-- the values in turn
module _ {A B : Type 0} (text : B → List ℕ) (name : A → B) (bs : List ℕ) where
  abbrev named : A → Bool
  named x = bytes_eq bs (text (name x))

  abbrev told : answered.Option A → Option B
  told (Some x) = some (name x)
  told None = none

  first_named : (xs : List A) → which text (map name xs) bs ≡ told (find named xs)
  unfolding which or_else
  first_named [] = refl
  first_named (x ∷ xs) = rw (of_one text bs (name x)) (go (named x) (first_named xs))
    where
      go : (t : Bool) → which text (map name xs) bs ≡ told (find named xs) → or_else (cond t (some (name x)) none) (which text (map name xs) bs) ≡ told (cond t (Some x) (find named xs))
      go true e = refl
      go false e = e

-- ---- the law

abbrev pub law_named : List ℕ → Law → Bool
law_named bs w = bytes_eq bs (law_name (name_of w))

pub law_told : (bs : List ℕ) (r : answered.Option Law) → option_map (λ x. x) r ≡ find (law_named bs) laws → LawIn bs r
unfolding read_law semiring
law_told bs r e = go r (first_named law_name name_of bs laws ∙ ap (told law_name name_of bs) (sym e ∙ option_map_id r))
  where
    go : (r : answered.Option Law) → which law_name (map name_of laws) bs ≡ told law_name name_of bs r → LawIn bs r
    go (Some w) f = f
    go None f = f

-- ---- the direction

abbrev pub direction_named : List ℕ → Direction → Bool
direction_named bs d = bytes_eq bs (direction (direction_of d))

pub direction_told : (bs : List ℕ) (r : answered.Option Direction) → option_map (λ x. x) r ≡ find (direction_named bs) (Forward ∷ Back ∷ []) → DirectionIn bs r
unfolding read_direction
direction_told bs r e = go r (first_named direction direction_of bs (Forward ∷ Back ∷ []) ∙ ap (told direction direction_of bs) (sym e ∙ option_map_id r))
  where
    go : (r : answered.Option Direction) → which direction (map direction_of (Forward ∷ Back ∷ [])) bs ≡ told direction direction_of bs r → DirectionIn bs r
    go (Some d) f = f
    go None f = f
