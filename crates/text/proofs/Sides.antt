-- The items of a side, one after the other: their numbers make what they make.
use Prim.Native.Nat.{ℕ, ◌+◌, ◌≤◌, ◌<◌}
use Prim.Native.Char.{code}
use native.Mathlib.Numerals.{add-one}
use native.Mathlib.Omega.{arith}
use mathlib.Core.Bool.{true, false}
use mathlib.Core.Option.{Option, none, some}
use mathlib.Core.List.{List, [], ◌∷◌, ◌++◌}
use mathlib.Core.Path.{◌≡◌, refl, ap, sym, ◌∙◌}
use lib.ListN.{length, set, take, length-set}
use lib.Seq.{take-suc-set}
use Rattle.terms.specs.Term.{Term}
use Rattle.terms.specs.Build.{Token, next, build, single, read}
use Rattle.terms.specs.Promises.{Reads}
use Rattle.terms.specs.Theory.ReadRun.{run_read}
use Rattle.terms.specs.Numbers as numbers
use Rattle.terms.specs.Numbers.{read_run, is_some}
use Rattle.text.specs.Bytes.{pieces, up_to}
use Rattle.text.specs.TermText.{token, read_term}
use Rattle.text.specs.Reading.{CutAt, Numbered}
use Rattle.text.specs.SideRead.{ItemsRead, TermRead}
use Rattle.text.specs.Theory.UpTo.{pieces_cut}

-- ---- the terms that items make

-- what numbers make in front of the terms that the items behind them make
abbrev pub onto : List ℕ → Option (List Term) → Option (List Term)
onto [] ts = ts
onto (x ∷ xs) ts = next (numbers.token x) (onto xs ts)

next_none : (k : Option Token) → next k none ≡ none
unfolding next
next_none none = refl
next_none (some k) = refl

onto_none : (xs : List ℕ) → onto xs none ≡ none
onto_none [] = refl
onto_none (x ∷ xs) = ap (next (numbers.token x)) (onto_none xs) ∙ next_none (numbers.token x)

onto_more : (xs : List ℕ) (x : ℕ) (ts : Option (List Term)) → onto (xs ++ (x ∷ [])) ts ≡ onto xs (next (numbers.token x) ts)
onto_more [] x ts = refl
onto_more (y ∷ xs) x ts = ap (next (numbers.token y)) (onto_more xs x ts)

onto_build : (xs : List ℕ) → onto xs (some []) ≡ build numbers.token xs
unfolding build
onto_build [] = refl
onto_build (x ∷ xs) = ap (next (numbers.token x)) (onto_build xs)

-- the terms that the items of a side make
abbrev built : List ℕ → Option (List Term)
built bs = build token (pieces (code " ") bs)

built_first : (bs p : List ℕ) (ps : List (List ℕ)) → pieces (code " ") bs ≡ p ∷ ps → built bs ≡ next (token p) (build token ps)
unfolding build
built_first bs p ps e = rw e

-- the first items of a side are read, their numbers are the first n, and the others are still to be read
pub record Reached (bs rest run : List ℕ) (n : ℕ) : Type 0 where
  pub few : n + length rest ≤ length bs
  pub same : built bs ≡ onto (take n run) (built rest)

pub at_first : (bs run : List ℕ) → Reached bs bs run 0
at_first bs run = record { few = omega arith; same = refl }

-- the item p is next
module _ (bs rest run : List ℕ) (n : ℕ) (r : Reached bs rest run n) (p : List ℕ) (ps : List (List ℕ)) (e : pieces (code " ") rest ≡ p ∷ ps) where
  foul : token p ≡ none → read_term bs ≡ none
  unfolding read_term read single next
  foul f = ap single (r.same ∙ ap (onto (take n run)) (built_first rest p ps e ∙ ap (λ k. next k (build token ps)) f) ∙ onto_none (take n run))

  -- its number behind the others
  number_more : (x : ℕ) → Numbered (token p) x → n < length run → built bs ≡ onto (take (n + 1) (set run n x)) (build token ps)
  number_more x t room =
      r.same
      ∙ ap (onto (take n run)) (built_first rest p ps e ∙ ap (λ k. next k (build token ps)) t.same)
      ∙ sym (onto_more (take n run) x (build token ps))
      ∙ rw (add-one, take-suc-set run n x room)

-- it ends at a space
module _ (bs rest run : List ℕ) (n : ℕ) (r : Reached bs rest run n) (p more : List ℕ) (h : CutAt rest (code " ") p more) where
  cut : pieces (code " ") rest ≡ p ∷ pieces (code " ") more
  cut = pieces_cut (code " ") rest ∙ rw h.parts

  pub foul_item : token p ≡ none → read_term bs ≡ none
  foul_item = foul bs rest run n r p (pieces (code " ") more) cut

  pub next_item : (x : ℕ) → Numbered (token p) x → n < length run → Reached bs more (set run n x) (n + 1)
  next_item x t room = record { few = omega (arith, r.few, h.shorter); same = number_more bs rest run n r p (pieces (code " ") more) cut x t room }

-- it is the last
module _ (bs rest run : List ℕ) (n : ℕ) (r : Reached bs rest run n) (h : up_to (code " ") rest ≡ none) where
  whole : pieces (code " ") rest ≡ rest ∷ []
  whole = pieces_cut (code " ") rest ∙ rw h

  pub foul_last : token rest ≡ none → read_term bs ≡ none
  foul_last = foul bs rest run n r rest [] whole

  pub last_item : (x : ℕ) → Numbered (token rest) x → n < length run → ItemsRead bs (set run n x) (n + 1)
  unfolding read_term read_run read build
  last_item x t room =
      record {
        room = simp length-set (omega arith);
        same = ap single (number_more bs rest run n r rest [] whole x t room ∙ onto_build (take (n + 1) (set run n x)));
      }

-- ---- the term that the numbers make

none_read : (o : Option Term) → is_some o ≡ false → o ≡ none
unfolding is_some
none_read none e = refl
none_read (some t) e = let z : ◌≡◌ {A = ℕ} 0 1 = cc in absurd (omega arith)

module _ (bs run : List ℕ) (n : ℕ) (h : ItemsRead bs run n) where
  pub term_read : Reads (take n run) true → TermRead bs run n
  term_read r =
      let (t, e) = r.sound refl in
      record { room = h.room; term = t; read = h.same ∙ run_read e; whole = e }

  pub no_term : Reads (take n run) false → read_term bs ≡ none
  no_term r = h.same ∙ none_read (read_run (take n run)) (sym r.is)
