-- The lines with one key, one after the other.
use Prim.Native.Nat.{ℕ, zero, suc, ◌+◌, ◌≤◌, ◌<◌}
use Prim.Native.String.{String}
use native.Mathlib.Omega.{arith}
use mathlib.Core.Option.{Option, none, some}
use mathlib.Core.List.{List, [], ◌∷◌, ◌++◌, append_assoc, append-nil}
use mathlib.Core.Path.{◌≡◌, refl, sym, ap, ◌∙◌}
use lib.ListN.{length, length-append}
use Rattle.text.specs.Bytes.{Split, ascii}
use Rattle.text.specs.Layout.{keyed}
use Rattle.text.specs.Answer.{field}
use Rattle.text.specs.FindJob.{Repeated, repeated}
use Rattle.text.specs.Reading.{Valued, Unkeyed}
use Rattle.text.specs.RightLines.{rights_in, RightsIn}
use Rattle.text.specs.Theory.Keyed.{keyed_parts}

-- the values of lines, before those of others
abbrev pub before : List (List ℕ) → Repeated → Repeated
before vs r = record { values = vs ++ r.values; rest = r.rest }

module _ (key : String) where
  -- a line has a byte at least
  shorter : (bs : List ℕ) {c : Split} → keyed key bs ≡ some c → length c.rest < length bs
  unfolding field
  shorter bs {c} e =
      let p = keyed_parts key bs e in
      omega (
        arith,
        ap length p.parts,
        length-append (field key c.front) c.rest,
        length-append (ascii key) (c.front ++ (10 ∷ [])),
        length-append c.front (10 ∷ []),
      )

  no_line_left : (bs : List ℕ) → length bs ≤ 0 → keyed key bs ≡ none
  no_line_left bs h = go (keyed key bs) refl
    where
      go : (o : Option Split) → keyed key bs ≡ o → o ≡ none
      go none e = refl
      go (some c) e = let z : ⊥ = omega (arith, shorter bs e, h) in absurd z

  pub stops : (k : ℕ) (bs : List ℕ) → keyed key bs ≡ none → repeated key k bs ≡ record { values = []; rest = bs }
  unfolding repeated
  stops zero bs e = refl
  stops (suc k) bs e = rw (e, repeated)

  pub goes_on : (k : ℕ) (bs : List ℕ) {c : Split} → keyed key bs ≡ some c → repeated key (suc k) bs ≡ before (c.front ∷ []) (repeated key k c.rest)
  unfolding repeated
  goes_on k bs e = rw (e, repeated)

  -- as many lines as the text has bytes are enough
  enough : (k m : ℕ) (bs : List ℕ) → length bs ≤ k → length bs ≤ m → repeated key k bs ≡ repeated key m bs
  unfolding repeated
  enough zero m bs h l = sym (stops m bs (no_line_left bs h))
  enough (suc k) zero bs h l = stops (suc k) bs (no_line_left bs l)
  enough (suc k) (suc m) bs h l = go (keyed key bs) refl (λ c p q. enough k m c.rest p q)
    where
      go : (o : Option Split) → keyed key bs ≡ o
          → ((c : Split) → length c.rest ≤ k → length c.rest ≤ m → repeated key k c.rest ≡ repeated key m c.rest)
          → repeated key (suc k) bs ≡ repeated key (suc m) bs
      go none e on = stops (suc k) bs e ∙ sym (stops (suc m) bs e)
      go (some c) e on =
          let n = shorter bs e in
          goes_on k bs e ∙ ap (before (c.front ∷ [])) (on c (omega (arith, n, h)) (omega (arith, n, l))) ∙ sym (goes_on m bs e)

  -- all the lines
  abbrev pub all : List ℕ → Repeated
  all bs = repeated key (length bs) bs

  pub all_none : (bs : List ℕ) → keyed key bs ≡ none → all bs ≡ record { values = []; rest = bs }
  all_none bs e = stops (length bs) bs e

  pub all_some : (bs : List ℕ) {c : Split} → keyed key bs ≡ some c → all bs ≡ before (c.front ∷ []) (all c.rest)
  all_some bs {c} e =
      let n = shorter bs e in
      enough (length bs) (suc (length bs)) bs (omega arith) (omega arith)
      ∙ goes_on (length bs) bs e
      ∙ ap (before (c.front ∷ [])) (enough (length bs) (length c.rest) c.rest (omega (arith, n)) (omega arith))

  -- to read just as many lines as there are is enough
  pub just_enough : (k : ℕ) (bs : List ℕ) → (repeated key (length (repeated key k bs).values) bs).values ≡ (repeated key k bs).values
  unfolding repeated
  just_enough zero bs = refl
  just_enough (suc k) bs = go (keyed key bs) refl (λ c. just_enough k c.rest)
    where
      go : (o : Option Split) → keyed key bs ≡ o → ((c : Split) → (repeated key (length (repeated key k c.rest).values) c.rest).values ≡ (repeated key k c.rest).values)
          → (repeated key (length (repeated key (suc k) bs).values) bs).values ≡ (repeated key (suc k) bs).values
      go none e on = rw (stops (suc k) bs e) refl
      go (some c) e on = rw (goes_on k bs e, goes_on (length (repeated key k c.rest).values) bs e) (ap (λ vs. c.front ∷ vs) (on c))

-- the loop that counts the lines

abbrev right_lines : List ℕ → Repeated
right_lines bs = all "right=" bs

-- the lines before the rest are counted
pub record Midway (s : List ℕ) (count : ℕ) (rest : List ℕ) : Type 0 where
  pub few : count + length rest ≤ length s
  pub values : List (List ℕ)
  pub counted : count ≡ length values
  pub lines : right_lines s ≡ before values (right_lines rest)

pub begins : (s : List ℕ) → Midway s 0 s
begins s = record { few = omega arith; values = []; counted = refl; lines = refl }

module _ (s : List ℕ) (count : ℕ) (rest : List ℕ) (M : Midway s count rest) where
  pub no_more : Unkeyed rest (ascii "right=") → RightsIn s count rest
  no_more h =
      record {
        values = M.values;
        counted = M.counted;
        lines = M.lines ∙ ap (before M.values) (all_none "right=" rest (h "right=" refl)) ∙ rw (append-nil M.values);
      }

  pub one_line : (value more : List ℕ) → Valued rest (ascii "right=") value more → Midway s (count + 1) more
  one_line value more v =
      record {
        few = omega (arith, M.few, v.shorter);
        values = M.values ++ (value ∷ []);
        counted = omega (arith, length-append M.values (value ∷ []), M.counted);
        lines = M.lines
            ∙ ap (before M.values) (all_some "right=" rest (v.parts "right=" refl))
            ∙ rw (append_assoc M.values (value ∷ []) (right_lines more).values);
      }

-- the lines counted are those that are read
module _ (s : List ℕ) (n : ℕ) (rest : List ℕ) (R : RightsIn s n rest) where
  pub values_read : rights_in s n ≡ R.values
  values_read =
      let e : (right_lines s).values ≡ R.values = ap (λ (r : Repeated). r.values) R.lines in
      rw R.counted (rw e at (just_enough "right=" (length s) s))

  pub all_counted : length (rights_in s n) ≡ n
  all_counted = ap length values_read ∙ sym R.counted
