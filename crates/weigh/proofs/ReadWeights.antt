-- Ten numbers parted by spaces, one after the other, and the line in which they stand.
use Rattle.std.proofs.Common.{ℕ, ◌+◌, ◌≤◌, ◌<◌, ◌≡◌, ◌∙◌, refl, sym, ap, subst, arith, add-one, List, [], ◌∷◌, ◌++◌, length, take, set, append_assoc, length-append, length-set, take_all}
use Prim.Native.Char.{code}
use borrow.Author.Tests.{eq-eqb, ne_eqb}
use lib.Seq.{take-suc-set}
use Rattle.std.proofs.Math.Option.{Option, none, some, bind}
use Rattle.terms.specs.Lists.{◌∈◌}
use Rattle.text.specs.Bytes.{Split, ascii, end, read_number, pieces, up_to}
use Rattle.text.specs.Reading.{CutAt, Valued, Unkeyed}
use Rattle.text.specs.LayoutRead.{LimitRead}
use Rattle.text.specs.Theory.AtLeast.{free}
use Rattle.text.specs.Theory.Keyed.{some_then}
use Rattle.text.specs.Theory.Numbers.{number_least, read_number_only}
use Rattle.text.specs.Theory.Pieces.{pieces_last}
use Rattle.text.specs.Theory.UpTo.{pieces_cut, cut_pieces, some_piece}
use Rattle.text.proofs.Layouts.{ends, goes_on}
use Rattle.weigh.specs.Layout.{read_numbers, so_many, weights_line}
use Rattle.weigh.specs.Read.{capped_each, numbers_in, WeightsRead}

-- ---- numbers in pieces

-- as many as there are pieces
counted : (ps : List (List ℕ)) {ns : List ℕ} → read_numbers ps ≡ some ns → length ns ≡ length ps
unfolding read_numbers bind
counted [] {ns} e = let f : [] ≡ ns = cc in ap length (sym f)
counted (p ∷ ps) {ns} e =
    some_then (read_number p) _ e λ m first e.
    some_then (read_numbers ps) _ e λ ms rest e.
    let whole : m ∷ ms ≡ ns = cc in
    ap length (sym whole) ∙ ap ℕ.suc (counted ps rest)

capped_more : (ns : List ℕ) (n : ℕ) → capped_each (ns ++ (n ∷ [])) ≡ capped_each ns ++ capped_each (n ∷ [])
capped_more [] n = refl
capped_more (m ∷ ns) n = ap (λ (l : List ℕ). capped_each (m ∷ []) ++ l) (capped_more ns n)

all_ten : (ns : List ℕ) → length ns ≡ 10 → so_many 10 ns ≡ some ns
unfolding so_many
all_ten ns h = rw (eq-eqb (length ns) 10 h, so_many)

not_ten : (ns : List ℕ) → (length ns ≡ 10 → ⊥) → so_many 10 ns ≡ none
unfolding so_many
not_ten ns h = rw (ne_eqb (length ns) 10 h, so_many)

-- the numbers in a text
abbrev listed : List ℕ → Option (List ℕ)
listed bs = read_numbers (pieces (code " ") bs)

-- numbers in front of those of a text
abbrev behind : List ℕ → Option (List ℕ) → Option (List ℕ)
behind ms o = bind o (λ ns. some (ms ++ ns))

-- the first k numbers in a text are read, what they are taken for are the first k of the ten in w, and the others are in the rest
pub record ReadTo (text rest w : List ℕ) (k : ℕ) : Type 0 where
  pub ten : length w ≡ 10
  pub numbers : List ℕ
  pub count : length numbers ≡ k
  pub is : take k w ≡ capped_each numbers
  pub same : listed text ≡ behind numbers (listed rest)

pub none_read : (text w : List ℕ) → length w ≡ 10 → ReadTo text text w 0
unfolding bind
none_read text w ten = record { ten = ten; numbers = []; count = refl; is = refl; same = go (listed text) }
  where
    go : (o : Option (List ℕ)) → o ≡ behind [] o
    go none = refl
    go (some ns) = refl

module _ {text rest w : List ℕ} {k : ℕ} (R : ReadTo text rest w k) where
  by_rest : (o : Option (List ℕ)) → listed rest ≡ o → numbers_in 10 text ≡ bind o (λ ns. so_many 10 (R.numbers ++ ns))
  unfolding numbers_in bind
  by_rest o e = ap (λ x. bind x (so_many 10)) (R.same ∙ ap (behind R.numbers) e) ∙ go o
    where
      go : (o : Option (List ℕ)) → bind (behind R.numbers o) (so_many 10) ≡ bind o (λ ns. so_many 10 (R.numbers ++ ns))
      go none = refl
      go (some ns) = refl

  foul : listed rest ≡ none → numbers_in 10 text ≡ none
  unfolding bind
  foul e = by_rest none e

  -- there are not ten where the rest has not just as many pieces as are missing
  wrong_count : (k + length (pieces (code " ") rest) ≡ 10 → ⊥) → numbers_in 10 text ≡ none
  unfolding bind
  wrong_count h = go (listed rest) refl
    where
      go : (o : Option (List ℕ)) → listed rest ≡ o → numbers_in 10 text ≡ none
      go none e = foul e
      go (some ns) e =
          by_rest (some ns) e
          ∙ not_ten (R.numbers ++ ns) (λ f. h (omega (arith, f, length-append R.numbers ns, R.count, counted (pieces (code " ") rest) e)))

  -- the rest is one piece
  module _ (whole : pieces (code " ") rest ≡ rest ∷ []) where
    last_foul : read_number rest ≡ none → listed rest ≡ none
    unfolding read_numbers bind
    last_foul h = rw whole (rw h)

    last_is : {n : ℕ} → read_number rest ≡ some n → listed rest ≡ some (n ∷ [])
    unfolding read_numbers bind
    last_is h = rw whole (rw h)

  -- a number more
  one_more : {first : List ℕ} {n : ℕ} (l : LimitRead first n) → k < length w → take (k + 1) (set w k n) ≡ capped_each (R.numbers ++ (l.number ∷ []))
  one_more {n = n} l room = rw (add-one, take-suc-set w k n room, capped_more R.numbers l.number, R.is, l.is)

  pub too_few : up_to (code " ") rest ≡ none → k < 9 → numbers_in 10 text ≡ none
  too_few h l =
      let whole : pieces (code " ") rest ≡ rest ∷ [] = pieces_cut (code " ") rest ∙ rw h in
      wrong_count (λ e. omega (arith, e, l, ap length whole))

  module _ {first more : List ℕ} (c : CutAt rest (code " ") first more) where
    cut : pieces (code " ") rest ≡ first ∷ pieces (code " ") more
    cut = pieces_cut (code " ") rest ∙ rw c.parts

    pub foul_number : read_number first ≡ none → numbers_in 10 text ≡ none
    unfolding read_numbers bind
    foul_number h = foul (ap read_numbers cut ∙ rw h)

    pub next_number : {n : ℕ} → LimitRead first n → k < 9 → ReadTo text more (set w k n) (k + 1)
    unfolding read_numbers bind
    next_number {n} l few =
        record {
          ten = length-set w k n ∙ R.ten;
          numbers = R.numbers ++ (l.number ∷ []);
          count = omega (arith, length-append R.numbers (l.number ∷ []), R.count);
          is = one_more l (omega (arith, few, R.ten));
          same = R.same ∙ ap (behind R.numbers) (ap read_numbers cut ∙ rw l.read) ∙ go (listed more);
        }
      where
        go : (o : Option (List ℕ)) → behind R.numbers (bind o (λ ns. some (l.number ∷ ns))) ≡ behind (R.numbers ++ (l.number ∷ [])) o
        go none = refl
        go (some ns) = rw (append_assoc R.numbers (l.number ∷ []) ns)

  pub last_malformed : 9 ≤ k → k ≤ 9 → read_number rest ≡ none → numbers_in 10 text ≡ none
  unfolding bind
  last_malformed low high h = go (up_to (code " ") rest) (pieces_cut (code " ") rest)
    where
      go : (o : Option Split) → pieces (code " ") rest ≡ cut_pieces (code " ") rest o → numbers_in 10 text ≡ none
      go none e = foul (last_foul e h)
      go (some c) e =
          let (q, qs, f) = some_piece (code " ") c.rest in
          wrong_count (λ g. omega (arith, g, low, high, ap length e, ap length f))

  pub last_number : 9 ≤ k → k ≤ 9 → {n : ℕ} → LimitRead rest n → WeightsRead (numbers_in 10 text) (set w 9 n)
  unfolding bind
  last_number low high {n} r =
      let nine : k ≡ 9 = omega arith in
      let whole = pieces_last (code " ") rest (λ i. free (omega arith) (number_least r.number) (subst (λ bs. code " " ∈ bs) (read_number_only rest r.read) i)) in
      let numbers = R.numbers ++ (r.number ∷ []) in
      let is : take 10 (set w 9 n) ≡ capped_each numbers = rw nine at (one_more r (omega (arith, nine, R.ten))) in
      record {
        numbers = numbers;
        is = sym (take_all 10 (set w 9 n) (omega (arith, length-set w 9 n, R.ten))) ∙ is;
        there = by_rest (some (r.number ∷ [])) (last_is whole r.read) ∙ all_ten numbers (omega (arith, nine, length-append R.numbers (r.number ∷ []), R.count));
      }

-- how the loop begins, and goes on
pub ruleset numbers_read = (none_read, next_number)

-- ---- the line

module _ (s : List ℕ) where
  pub no_weights : Unkeyed s (ascii "weights=") → weights_line 10 s ≡ none
  unfolding weights_line bind
  no_weights h = rw (h "weights=" refl)

  module _ {text rest : List ℕ} (v : Valued s (ascii "weights=") text rest) where
    weights_are : (o : Option (List ℕ)) → numbers_in 10 text ≡ o → weights_line 10 s ≡ bind o (λ w. end w rest)
    unfolding weights_line numbers_in bind
    weights_are o e = rw (v.parts "weights=" refl) (go (listed text) ∙ ap (λ x. bind x (λ w. end w rest)) e)
      where
        go : (p : Option (List ℕ)) → bind p (λ ns. bind (so_many 10 ns) (λ w. end w rest)) ≡ bind (bind p (so_many 10)) (λ w. end w rest)
        go none = refl
        go (some ns) = refl

    pub foul_weights : numbers_in 10 text ≡ none → weights_line 10 s ≡ none
    unfolding bind
    foul_weights e = weights_are none e

    module _ {w : List ℕ} (r : WeightsRead (numbers_in 10 text) w) where
      pub more_behind : (length rest ≡ 0 → ⊥) → weights_line 10 s ≡ none
      unfolding bind
      more_behind h = weights_are (some r.numbers) r.there ∙ goes_on r.numbers rest h

      pub weights_end : length rest ≡ 0 → WeightsRead (weights_line 10 s) w
      unfolding bind
      weights_end h = record { numbers = r.numbers; is = r.is; there = weights_are (some r.numbers) r.there ∙ ends r.numbers rest h }

-- what the line gives: it is not there, its numbers are malformed, more follows it, or they are read
pub ruleset line_read = (no_weights, foul_weights, more_behind, weights_end)
