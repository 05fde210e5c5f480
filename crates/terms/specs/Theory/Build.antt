-- A term that is written item by item is read back.
use Rattle.std.specs.Prelude.{ℕ, ◌≡◌, refl}
use Rattle.std.proofs.Math.Option.{Option, some}
use mathlib.Core.List.{List, [], ◌∷◌, ◌++◌, append_assoc, append-nil}
use Rattle.terms.specs.Lists.{here, in_left, in_right}
use Rattle.terms.specs.Term.{Term, letter, zero, one, add, mul}
use Rattle.terms.specs.Letters.{letters, EachLetter}
use Rattle.terms.specs.Build.{Token, atom, plus, times, push, build, read}

-- `write` puts the items of a term, and `token` reads each, where its letters are Ok
pub record Written {A : Type 0} (token : A → Option Token) (write : Term → List A) (Ok : ℕ → Type 0) : Type 0 where
  pub letters : {n : ℕ} → Ok n → (p : A) × (token p ≡ some (atom (letter n))) × (write (letter n) ≡ p ∷ [])
  pub zeros : (p : A) × (token p ≡ some (atom zero)) × (write zero ≡ p ∷ [])
  pub ones : (p : A) × (token p ≡ some (atom one)) × (write one ≡ p ∷ [])
  pub sums : (p : A) × (token p ≡ some plus) × ((s t : Term) → write (add s t) ≡ p ∷ (write s ++ write t))
  pub products : (p : A) × (token p ≡ some times) × ((s t : Term) → write (mul s t) ≡ p ∷ (write s ++ write t))

module _ {A : Type 0} (token : A → Option Token) where
  build_item : (p : A) (ps : List A) {k : Token} {ts : List Term} → token p ≡ some k → build token ps ≡ some ts → build token (p ∷ ps) ≡ push k ts
  unfolding build
  build_item p ps e f = rw (e, f)

  build_parts : (p : A) (qs rs ps : List A) {k : Token} {ts : List Term} → token p ≡ some k → build token (qs ++ (rs ++ ps)) ≡ some ts
      → build token ((p ∷ (qs ++ rs)) ++ ps) ≡ push k ts
  build_parts p qs rs ps e f = rw (append_assoc qs) (build_item p (qs ++ (rs ++ ps)) e f)

module _ {A : Type 0} {token : A → Option Token} {write : Term → List A} {Ok : ℕ → Type 0} (W : Written token write Ok) where
  pub build_written : (t : Term) → EachLetter Ok t → (ps : List A) {ts : List Term} → build token ps ≡ some ts → build token (write t ++ ps) ≡ some (t ∷ ts)
  unfolding letters push
  build_written (letter n) ok ps e = let (p, k, w) = W.letters (ok n (here refl)) in rw w (build_item token p ps k e)
  build_written zero ok ps e = let (p, k, w) = W.zeros in rw w (build_item token p ps k e)
  build_written one ok ps e = let (p, k, w) = W.ones in rw w (build_item token p ps k e)
  build_written (add s t) ok ps e =
      let (p, k, w) = W.sums in
      let rest = build_written t (λ n m. ok n (in_right (letters s) m)) ps e in
      rw (w s t) (build_parts token p (write s) (write t) ps k (build_written s (λ n m. ok n (in_left (letters t) m)) (write t ++ ps) rest))
  build_written (mul s t) ok ps e =
      let (p, k, w) = W.products in
      let rest = build_written t (λ n m. ok n (in_right (letters s) m)) ps e in
      rw (w s t) (build_parts token p (write s) (write t) ps k (build_written s (λ n m. ok n (in_left (letters t) m)) (write t ++ ps) rest))

  pub read_written : (t : Term) → EachLetter Ok t → read token (write t) ≡ some t
  unfolding read build
  read_written t ok = rw build_all
    where
      build_all : build token (write t) ≡ some (t ∷ [])
      build_all = rw (append-nil (write t)) at (build_written t ok [] refl)
