-- What it means that two equations share a name: a one-to-one renaming of v letters turns one into the other, with or without exchanging
-- sides. The same of two pairs of word lists.
use Rattle.std.specs.Prelude.{◌≡◌, ℕ, ◌<◌, ◌≤◌, ◌⊎◌, ◌↔◌, List, ◌++◌}
use mathlib.Core.List.{flatten}
use Rattle.terms.specs.Lists.{◌∈◌}
use Rattle.terms.specs.Term.{Term}
use Rattle.terms.specs.Letters.{letters, FIXED}
use Rattle.words.specs.Words.{Word}
use Rattle.words.specs.Rename.{rename_term, rename_words}

-- letters of the list that become the same letter are the same
abbrev pub OneToOne : List ℕ → (ℕ → ℕ) → Type 0
OneToOne ns new = (m n : ℕ) → m ∈ ns → n ∈ ns → new m ≡ new n → m ≡ n

-- a renaming of the v letters of a list: one-to-one and to v letters; its c letters stay
pub record RenamesVariables (ns : List ℕ) (new : ℕ → ℕ) : Type 0 where
  pub one_to_one : OneToOne ns new
  pub free : (n : ℕ) → n ∈ ns → n < FIXED → new n < FIXED
  pub kept : (n : ℕ) → n ∈ ns → FIXED ≤ n → new n ≡ n

-- two lists have the same c letters
abbrev pub SameFixed : (ms ns : List ℕ) → Type 0
SameFixed ms ns = (n : ℕ) → FIXED ≤ n → n ∈ ms ↔ n ∈ ns

-- a renaming of the v letters that occur turns the equation of s and t into that of u and v
pub record Turns (s t u v : Term) : Type 0 where
  pub new : ℕ → ℕ
  pub renames : RenamesVariables (letters s ++ letters t) new
  pub left : rename_term new s ≡ u
  pub right : rename_term new t ≡ v

-- with or without exchanging sides
abbrev pub Alike : (s t u v : Term) → Type 0
Alike s t u v = Turns s t u v ⊎ Turns s t v u

-- and the lists of words us and vs, each sorted anew, into ps and qs
pub record TurnsWords (us vs ps qs : List Word) : Type 0 where
  pub new : ℕ → ℕ
  pub renames : RenamesVariables (flatten us ++ flatten vs) new
  pub left : rename_words new us ≡ ps
  pub right : rename_words new vs ≡ qs

-- with or without exchanging them
abbrev pub AlikeWords : (us vs ps qs : List Word) → Type 0
AlikeWords us vs ps qs = TurnsWords us vs ps qs ⊎ TurnsWords us vs qs ps
