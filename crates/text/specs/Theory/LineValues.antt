-- What a line of an answer's text gives under a key.
use Rattle.std.specs.Prelude.{ℕ, ◌≡◌, Bool, true, false, T}
use Prim.Native.Char.{code}
use Prim.Native.String.{String}
use Rattle.std.proofs.Common.{arith, ◌∙◌, ⊎_elim}
use Rattle.std.proofs.Math.Path.{refl, sym, ap}
use Rattle.std.proofs.Math.Option.{Option, none, some, Option-elim}
use mathlib.Core.List.{List, [], ◌∷◌, ◌++◌, map, flat_map, filter_map, filter_map-cons-none, filter_map-cons-some, append_assoc}
use Rattle.terms.specs.Lists.{◌∈◌, here, there, not-in-nil, cons-cases}
use Rattle.search.specs.Law.{Law, Name}
use Rattle.search.specs.Line.{Line}
use Rattle.text.specs.Bytes.{ascii, after, pieces}
use Rattle.text.specs.Answer.{field, values, yes_no}
use Rattle.text.specs.StepText.{law_name, step_value, names}
use Rattle.text.specs.Find.{step, used, uses}
use Rattle.text.specs.Theory.AtLeast.{Printable, at_least, tested, free, append_least}
use Rattle.text.specs.Theory.Pieces.{pieces_more}

-- a line in front of a text is its first piece
pub line_first : (key : String) (v bs : List ℕ) → T (at_least (code " ") (ascii key)) → Printable v
    → pieces 10 (field key v ++ bs) ≡ (ascii key ++ v) ∷ pieces 10 bs
unfolding field
line_first key v bs t h =
    ap (pieces 10) (simp append_assoc) ∙ pieces_more 10 (ascii key ++ v) bs (free (omega arith) (append_least _ (ascii key) (tested _ _ t) h))

-- what a line gives under a key
abbrev pub given : Option (List ℕ) → List (List ℕ)
given none = []
given (some v) = v ∷ []

abbrev pub under : String → String → List ℕ → List (List ℕ)
under key k v = given (after (ascii key) (ascii k ++ v))

module _ (key : String) where
  pub line_values : (k : String) (v bs : List ℕ) {vs : List (List ℕ)} → T (at_least (code " ") (ascii k)) → Printable v → values key bs ≡ vs
      → values key (field k v ++ bs) ≡ under key k v ++ vs
  unfolding values
  line_values k v bs {vs} t h rest =
      ap (filter_map (after (ascii key))) (line_first k v bs t h) ∙ go (after (ascii key) (ascii k ++ v)) refl ∙ ap (λ (ws : List (List ℕ)). under key k v ++ ws) rest
    where
      go : (o : Option (List ℕ)) → after (ascii key) (ascii k ++ v) ≡ o
          → filter_map (after (ascii key)) ((ascii k ++ v) ∷ pieces 10 bs) ≡ given o ++ filter_map (after (ascii key)) (pieces 10 bs)
      go none e = filter_map-cons-none (after (ascii key)) (ascii k ++ v) (pieces 10 bs) e
      go (some w) e = filter_map-cons-some (after (ascii key)) (ascii k ++ v) (pieces 10 bs) e

  pub step_lines : (xs : List Line) (bs : List ℕ) {vs : List (List ℕ)} → ((x : Line) → x ∈ xs → Printable (step_value x)) → values key bs ≡ vs
      → values key (flat_map step xs ++ bs) ≡ flat_map (λ x. under key "step=" (step_value x)) xs ++ vs
  unfolding flat_map step
  step_lines [] bs h rest = rest
  step_lines (x ∷ xs) bs {vs} h rest =
      ap (values key) (append_assoc (step x) (flat_map step xs) bs)
      ∙ line_values "step=" (step_value x) (flat_map step xs ++ bs) tt (h x (here refl)) (step_lines xs bs (λ y i. h y (there i)) rest)
      ∙ sym (append_assoc (under key "step=" (step_value x)) (flat_map (λ x. under key "step=" (step_value x)) xs) vs)

  -- behind the last byte 10 there is an empty piece
  pub no_lines : values key [] ≡ given (after (ascii key) [])
  unfolding values filter_map pieces
  no_lines = go (after (ascii key) [])
    where
      go : (o : Option (List ℕ)) → Option-elim o [] (λ b. b ∷ []) ≡ given o
      go none = refl
      go (some v) = refl

-- the names that `uses=` lists are those of the laws
pub uses_printable : (ws : List Law) → ((n : Name) → n ∈ names ws → Printable (law_name n)) → (xs : List Line) (p : List ℕ)
    → p ∈ uses ws xs → Printable p
unfolding uses
uses_printable [] named xs p i = absurd (not-in-nil i)
uses_printable (w ∷ ws) named xs p i = go (used w.name xs) i (uses_printable ws (λ n j. named n (there j)) xs p)
  where
    go : (b : Bool) → p ∈ elim b [ true ↦ law_name w.name ∷ uses ws xs | false ↦ uses ws xs ] → (p ∈ uses ws xs → Printable p) → Printable p
    go true i rest = ⊎_elim (λ (e : p ≡ law_name w.name). rw e (named w.name (here refl))) rest (cons-cases i)
    go false i rest = rest i

pub yes_no_printable : (b : Bool) → Printable (yes_no b)
unfolding yes_no
yes_no_printable true = tested _ _ tt
yes_no_printable false = tested _ _ tt

-- one line of the key, where no step line has it
pub none_each : (xs : List Line) → flat_map {B = List ℕ} (λ (x : Line). []) xs ≡ []
unfolding flat_map
none_each [] = refl
none_each (x ∷ xs) = none_each xs

pub steps_each : (xs : List Line) → flat_map (λ x. step_value x ∷ []) xs ++ [] ≡ map step_value xs
unfolding flat_map
steps_each [] = refl
steps_each (x ∷ xs) = ap (λ vs. step_value x ∷ vs) (steps_each xs)
