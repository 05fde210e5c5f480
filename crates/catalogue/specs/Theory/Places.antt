-- The places: what a put and a withdrawal do to the entries held.
use Rattle.std.specs.Prelude.{◌≡◌, ℕ, suc, ◌<◌, Bool, true, false, List, [], ◌∷◌, ◌++◌, map, length, ◌==◌}
use Rattle.std.proofs.Common.{arith, sym}
use Rattle.std.proofs.Math.Path.{refl, ap}
use Rattle.std.proofs.Math.Logic.{⊎_elim}
use Rattle.std.proofs.Math.Option.{Option, none, some}
use Rattle.terms.specs.Lists.{◌∈◌, here, there, not-in-nil, cons-cases}
use Rattle.terms.specs.Theory.Reflects.{Reflects, eqb_reflects}
use Rattle.catalogue.specs.Catalogue.{Entry, held, entry_of, listed, put_first, take_out}

abbrev pub numbers_in : {K : Type 0} → List (Entry K) → List ℕ
numbers_in = map (λ e. e.number)

module _ {K : Type 0} where
  pub listed_reflects : (n : ℕ) (es : List (Entry K)) → Reflects (n ∈ numbers_in es) (listed n es)
  unfolding listed
  listed_reflects n [] = not-in-nil
  listed_reflects n (e ∷ es) = go (e.number == n) (eqb_reflects e.number n) (listed n es) (listed_reflects n es)
    where
      go : (b : Bool) → Reflects (e.number ≡ n) b → (c : Bool) → Reflects (n ∈ numbers_in es) c → Reflects (n ∈ numbers_in (e ∷ es)) (elim b [ true ↦ true | false ↦ c ])
      go true p c q = here (sym p)
      go false p true q = there q
      go false p false q = λ m. ⊎_elim (λ e. p (sym e)) q (cons-cases m)

  -- the entries before and behind one that is put in or taken out
  pub record Between (before : List (Entry K)) (e : Entry K) (after : List (Entry K)) : Type 0 where
    pub front : List (Entry K)
    pub behind : List (Entry K)
    pub without : before ≡ front ++ behind
    pub with : after ≡ front ++ (e ∷ behind)

  -- a put takes the first free place
  pub put_between : (e : Entry K) (ps : List (Option (Entry K))) → length (held ps) < length ps → Between (held ps) e (held (put_first e ps))
  unfolding held put_first
  put_between e [] h = absurd (omega arith)
  put_between e (none ∷ ps) h = record { front = []; behind = held ps; without = refl; with = refl }
  put_between e (some d ∷ ps) h =
      let B = put_between e ps (omega arith) in
      record { front = d ∷ B.front; behind = B.behind; without = ap (λ l. d ∷ l) B.without; with = ap (λ l. d ∷ l) B.with }

  pub put_length : (e : Entry K) (ps : List (Option (Entry K))) → length (put_first e ps) ≡ length ps
  unfolding put_first
  put_length e [] = refl
  put_length e (none ∷ ps) = refl
  put_length e (some d ∷ ps) = ap suc (put_length e ps)

  pub take_length : (n : ℕ) (ps : List (Option (Entry K))) → length (take_out n ps) ≡ length ps
  unfolding take_out
  take_length n [] = refl
  take_length n (none ∷ ps) = ap suc (take_length n ps)
  take_length n (some d ∷ ps) = go (d.number == n) (take_length n ps)
    where
      go : (b : Bool) → length (take_out n ps) ≡ length ps → length {A = Option (Entry K)} (elim b [ true ↦ none ∷ ps | false ↦ some d ∷ take_out n ps ]) ≡ suc (length ps)
      go true e = refl
      go false e = ap suc e

  -- a withdrawal takes out the entry that is found under the number
  pub take_between : (n : ℕ) (ps : List (Option (Entry K))) (e : Entry K) → entry_of n (held ps) ≡ some e
      → Between (held (take_out n ps)) e (held ps) × (e.number ≡ n)
  unfolding held take_out entry_of
  take_between n [] e f = absurd (let z : ◌≡◌ {A = ℕ} 0 1 = cc in omega arith)
  take_between n (none ∷ ps) e f = take_between n ps e f
  take_between n (some d ∷ ps) e f = go (d.number == n) (eqb_reflects d.number n) f (take_between n ps e)
    where
      go : (b : Bool) → Reflects (d.number ≡ n) b → elim b [ true ↦ some d | false ↦ entry_of n (held ps) ] ≡ some e
          → (entry_of n (held ps) ≡ some e → Between (held (take_out n ps)) e (held ps) × (e.number ≡ n))
          → Between (held (elim b [ true ↦ none ∷ ps | false ↦ some d ∷ take_out n ps ])) e (d ∷ held ps) × (e.number ≡ n)
      go true p f rest =
          let q : d ≡ e = cc in
          (record { front = []; behind = held ps; without = refl; with = ap (λ x. x ∷ held ps) q }, rw q at p)
      go false p f rest =
          let (B, k) = rest f in
          (record { front = d ∷ B.front; behind = B.behind; without = ap (λ l. d ∷ l) B.without; with = ap (λ l. d ∷ l) B.with }, k)
