-- The words of an atom.
use Rattle.std.proofs.Common.{◌≡◌, ℕ, true, false, eqb, List, [], ◌∷◌, ne_eqb}
use Rattle.terms.specs.Run.{ZERO, ONE}
use Rattle.words.specs.Multiply.{PutsWords, atom_words}
use Rattle.words.proofs.Puts.{puts_none}

letter_below : (x : ℕ) → (x ≡ ONE → ⊥) → elim (eqb x ONE) [ true ↦ [] ∷ [] | false ↦ (x ∷ []) ∷ [] ] ≡ (x ∷ []) ∷ []
letter_below x h = rw (ne_eqb x ONE h)

pub letter_words : (x : ℕ) → (x ≡ ZERO → ⊥) → (x ≡ ONE → ⊥) → atom_words x ≡ (x ∷ []) ∷ []
unfolding atom_words
letter_words x g h = rw (ne_eqb x ZERO g, atom_words) (letter_below x h)

module _ (ws : List ℕ) (k : ℕ) where
  pub atom_zero : (x : ℕ) → x ≡ ZERO → PutsWords (atom_words x) ws k k ws
  unfolding atom_words
  atom_zero x e = rw e (record { few = λ h. h; exact = λ f. puts_none ws k })

  module _ (x r : ℕ) (ws' : List ℕ) where
    pub atom_one : x ≡ ONE → PutsWords ([] ∷ []) ws k r ws' → PutsWords (atom_words x) ws k r ws'
    unfolding atom_words
    atom_one e p = rw e p

    pub atom_letter : (x ≡ ZERO → ⊥) → (x ≡ ONE → ⊥) → PutsWords ((x ∷ []) ∷ []) ws k r ws' → PutsWords (atom_words x) ws k r ws'
    atom_letter g h p = rw (letter_words x g h) p
