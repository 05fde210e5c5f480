-- A text cut at a byte, and the pieces between such bytes.
use Rattle.std.specs.Prelude.{ℕ, ◌≡◌, Bool, eqb}
use Rattle.std.proofs.Math.Path.{refl, sym, ap}
use Rattle.std.proofs.Common.{◌∙◌}
use Rattle.std.proofs.Math.Bool.{true, false}
use Rattle.std.proofs.Math.Option.{Option, none, some, bind, none-ne-some}
use mathlib.Core.List.{List, [], ◌∷◌, ◌++◌}
use Rattle.terms.specs.Lists.{◌∈◌}
use Rattle.text.specs.Bytes.{after, Split, up_to, parted, longer, pieces}
use Rattle.text.specs.Theory.Pieces.{pieces_behind, parted_behind, parted_pieces}
use Rattle.text.specs.Theory.Keyed.{after_only, after_key}

-- what the pieces of a text are by where it is cut
abbrev pub cut_pieces : ℕ → List ℕ → Option Split → List (List ℕ)
cut_pieces s bs none = bs ∷ []
cut_pieces s bs (some c) = c.front ∷ pieces s c.rest

module _ (s : ℕ) where
  pub pieces_cut : (bs : List ℕ) → pieces s bs ≡ cut_pieces s bs (up_to s bs)
  unfolding pieces up_to
  pieces_cut [] = refl
  pieces_cut (b ∷ bs) = go (eqb b s) (up_to s bs) (pieces_cut bs)
    where
      go : (t : Bool) (o : Option Split) → pieces s bs ≡ cut_pieces s bs o
          → elim t [ true ↦ [] ∷ pieces s bs | false ↦ longer b (pieces s bs) ]
          ≡ cut_pieces s (b ∷ bs) (elim t [
            | true ↦ some (record { front = []; rest = bs })
            | false ↦ elim o [ none ↦ none | some c ↦ some (record { front = b ∷ c.front; rest = c.rest }) ]
          ])
      go true o e = refl
      go false none e = rw e
      go false (some c) e = rw e

  -- there is a first piece
  pub some_piece : (bs : List ℕ) → (p : List ℕ) × (ps : List (List ℕ)) × (pieces s bs ≡ p ∷ ps)
  some_piece bs = go (up_to s bs) (pieces_cut bs)
    where
      go : (o : Option Split) → pieces s bs ≡ cut_pieces s bs o → (p : List ℕ) × (ps : List (List ℕ)) × (pieces s bs ≡ p ∷ ps)
      go none e = (bs, [], e)
      go (some c) e = (c.front, pieces s c.rest, e)

-- a key without the byte stands at the front of a text exactly if it stands at the front of the first piece
module _ {B : Type 0} (f : List (List ℕ) → Option B) (k : List ℕ) (s : ℕ) (none_in : s ∈ k → ⊥) where
  pub after_piece : (bs t : List ℕ) (ts : List (List ℕ)) → pieces s bs ≡ t ∷ ts
      → bind (after k t) (λ v. f (v ∷ ts)) ≡ bind (after k bs) (λ v. f (pieces s v))
  unfolding bind parted
  after_piece bs t ts e = go (after k bs) refl
    where
      none_of : after k bs ≡ none → (o : Option (List ℕ)) → after k t ≡ o → bind o (λ v. f (v ∷ ts)) ≡ none
      none_of h none g = refl
      none_of h (some q) g =
          let whole : bs ≡ k ++ parted s (q ∷ ts) = sym (parted_pieces s bs) ∙ ap (parted s) e ∙ ap (λ l. parted s (l ∷ ts)) (after_only k t g) ∙ parted_behind s k q ts in
          absurd (none-ne-some _ (sym h ∙ ap (after k) whole ∙ after_key k (parted s (q ∷ ts))))

      go : (o : Option (List ℕ)) → after k bs ≡ o → bind (after k t) (λ v. f (v ∷ ts)) ≡ bind o (λ v. f (pieces s v))
      go none h = none_of h (after k t) refl
      go (some v) h =
          let (q, qs, i) = some_piece s v in
          let w : t ∷ ts ≡ (k ++ q) ∷ qs = sym e ∙ ap (pieces s) (after_only k bs h) ∙ pieces_behind s k v q qs none_in i in
          let first : t ≡ k ++ q = cc in
          let rest : ts ≡ qs = cc in
          rw (first, rest, after_key k q, i)
