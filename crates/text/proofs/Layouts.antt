-- The lines of a job, one after the other.
use Prim.Native.Nat.{ℕ, ◌<◌}
use native.Mathlib.Omega.{arith}
use mathlib.Core.Logic.{⊎_elim}
use mathlib.Core.Option.{Option, none, some, bind}
use mathlib.Core.List.{List, [], ◌∷◌}
use mathlib.Core.Path.{◌≡◌, refl, sym, ap, subst, ◌∙◌}
use lib.ListN.{length}
use Rattle.terms.specs.Theory.Order.{below?}
use Rattle.search.specs.Line.{Limits}
use Rattle.std.specs.Prelude.{Result, Ok, Err}
use Rattle.text.specs.declared.job.NumberError.{NumberError}
use Rattle.text.specs.declared.job.NumberError.TheVariants.{TooLarge, Malformed}
use Rattle.text.specs.Bytes.{ascii, end, read_number, Split}
use Rattle.text.specs.Layout.{keyed, limit_line, limit_lines}
use Rattle.text.specs.FindJob.{Repeated, Layouts, layouts}
use Rattle.text.specs.Reading.{Valued, Unkeyed, limited}
use Rattle.text.specs.RightLines.{rights_in, RightsIn}
use Rattle.text.specs.LayoutRead.{LimitRead, LimitAt, Unlimited, LimitedBy}
use Rattle.text.proofs.Numbers.{allowed, too_large, malformed}
use Rattle.text.proofs.RightLines.{all, all_none, all_some, values_read}

-- the number that a limit's text is

module _ (text : List ℕ) where
  -- what a number that was read says of it
  abbrev Told : Result ℕ NumberError → Type 0
  Told (Ok n) = LimitRead text n
  Told (Err TooLarge) = LimitRead text 4097
  Told (Err Malformed) = read_number text ≡ none

  limit_is : (o : Option ℕ) → read_number text ≡ o → Told (limited 4096 o)
  limit_is none p = rw (malformed 4096) p
  limit_is (some n) p =
      ⊎_elim
      (λ l. rw (too_large 4096 n l) (record { number = n; is = omega arith; read = p }))
      (λ h. rw (allowed 4096 n h) (record { number = n; is = omega arith; read = p }))
      (below? 4096 n)

  pub limit_told : (x r : Result ℕ NumberError) → x ≡ limited 4096 (read_number text) → x ≡ r → Told r
  limit_told x r p q = subst Told (sym p ∙ q) (limit_is (read_number text) refl)

-- the line of one limit

module _ (s key : List ℕ) where
  pub no_limit : Unkeyed s key → Unlimited s key
  unfolding limit_line bind
  no_limit h k e = rw (h k e)

  module _ (value rest : List ℕ) (v : Valued s key value rest) where
    pub foul_limit : read_number value ≡ none → Unlimited s key
    unfolding limit_line bind
    foul_limit h k e = rw (v.parts k e, h)

    pub limit_stated : {n : ℕ} → LimitRead value n → LimitAt s key n rest
    unfolding limit_line bind
    limit_stated l = record { shorter = omega (arith, v.shorter); number = l.number; is = l.is; parts = λ k e. rw (v.parts k e, l.read) }

-- the lines of the limits

-- a text ends here, or goes on
module _ {A : Type 0} (x : A) where
  pub ends : (bs : List ℕ) → length bs ≡ 0 → end x bs ≡ some x
  unfolding end
  ends [] h = refl
  ends (b ∷ bs) h = absurd (omega (arith, h))

  pub goes_on : (bs : List ℕ) → (length bs ≡ 0 → ⊥) → end x bs ≡ none
  unfolding end
  goes_on [] h = absurd (h refl)
  goes_on (b ∷ bs) h = refl

module _ (s : List ℕ) where
  pub no_steps : Unlimited s (ascii "steps=") → limit_lines s ≡ none
  unfolding limit_lines bind
  no_steps h = rw (h "steps=" refl)

  module _ {m : ℕ} {p : List ℕ} (a : LimitAt s (ascii "steps=") m p) where
    pub no_size : Unlimited p (ascii "size=") → limit_lines s ≡ none
    unfolding limit_lines bind
    no_size h = rw (a.parts "steps=" refl) (rw (h "size=" refl))

    module _ {n : ℕ} {q : List ℕ} (b : LimitAt p (ascii "size=") n q) where
      pub no_depth : Unlimited q (ascii "depth=") → limit_lines s ≡ none
      unfolding limit_lines bind
      no_depth h = rw (a.parts "steps=" refl) (rw (b.parts "size=" refl) (rw (h "depth=" refl)))

      module _ {i : ℕ} {t : List ℕ} (c : LimitAt q (ascii "depth=") i t) where
        pub no_nodes : Unlimited t (ascii "nodes=") → limit_lines s ≡ none
        unfolding limit_lines bind
        no_nodes h = rw (a.parts "steps=" refl) (rw (b.parts "size=" refl) (rw (c.parts "depth=" refl) (rw (h "nodes=" refl))))

        module _ {j : ℕ} {u : List ℕ} (d : LimitAt t (ascii "nodes=") j u) where
          abbrev read : Limits
          read = record { steps = a.number; size = b.number; depth = c.number; nodes = d.number }

          all_lines : limit_lines s ≡ end read u
          unfolding limit_lines bind
          all_lines = rw (a.parts "steps=" refl) (rw (b.parts "size=" refl) (rw (c.parts "depth=" refl) (rw (d.parts "nodes=" refl))))

          pub more_lines : (length u ≡ 0 → ⊥) → limit_lines s ≡ none
          more_lines h = all_lines ∙ goes_on read u h

          pub limits_end : length u ≡ 0 → LimitedBy s (record { steps = m; size = n; depth = i; nodes = j })
          limits_end h =
              record {
                limits = read;
                is = λ k. record { steps = a.is k; size = b.is k; depth = c.is k; nodes = d.is k };
                lines = all_lines ∙ ends read u h;
              }

-- all the lines

-- the right sides and the limits behind left
abbrev laid : List ℕ → Repeated → Option Layouts
laid left r =
    elim r.values [
      | [] ↦ none
      | v ∷ vs ↦ bind (limit_lines r.rest) (λ m. some (record { left = left; rights = v ∷ vs; limits = m }))
    ]

module _ (left rest : List ℕ) where
  laid_none : (vs : List (List ℕ)) → length vs ≡ 0 → laid left (record { values = vs; rest = rest }) ≡ none
  laid_none [] h = refl
  laid_none (v ∷ vs) h = let z : ⊥ = omega (arith, h) in absurd z

  laid_open : (vs : List (List ℕ)) → limit_lines rest ≡ none → laid left (record { values = vs; rest = rest }) ≡ none
  unfolding bind
  laid_open [] h = refl
  laid_open (v ∷ vs) h = rw h

  laid_some : (vs : List (List ℕ)) (m : Limits) → 0 < length vs → limit_lines rest ≡ some m
      → laid left (record { values = vs; rest = rest }) ≡ some (record { left = left; rights = vs; limits = m })
  unfolding bind
  laid_some [] m h e = let z : ⊥ = omega (arith, h) in absurd z
  laid_some (v ∷ vs) m h e = rw e

module _ (s : List ℕ) where
  pub no_left : Unkeyed s (ascii "left=") → layouts s ≡ none
  unfolding layouts bind
  no_left h = rw (h "left=" refl)

  module _ {left lines : List ℕ} (l : Valued s (ascii "left=") left lines) where
    -- the first right line and the others are all right lines
    layouts_laid : layouts s ≡ laid left (all "right=" lines)
    unfolding layouts bind
    layouts_laid = go (keyed "right=" lines) refl
      where
        go : (o : Option Split) → keyed "right=" lines ≡ o → layouts s ≡ laid left (all "right=" lines)
        go none e = rw (l.parts "left=" refl) (rw (e, all_none "right=" lines e))
        go (some r) e = rw (l.parts "left=" refl) (rw (e, all_some "right=" lines e))

    module _ {n : ℕ} {rest : List ℕ} (R : RightsIn lines n rest) where
      layouts_read : layouts s ≡ laid left (record { values = R.values; rest = rest })
      layouts_read = layouts_laid ∙ ap (laid left) R.lines

      pub no_right : n ≡ 0 → layouts s ≡ none
      no_right h = layouts_read ∙ laid_none left rest R.values (sym R.counted ∙ h)

      pub no_limits : limit_lines rest ≡ none → layouts s ≡ none
      no_limits h = layouts_read ∙ laid_open left rest R.values h

      pub laid_out : {m : Limits} → 0 < n → limit_lines rest ≡ some m → layouts s ≡ some (record { left = left; rights = rights_in lines n; limits = m })
      laid_out {m} h k =
          rw (values_read lines n rest R) (layouts_read ∙ laid_some left rest R.values m (omega (arith, h, R.counted)) k)

-- what the limit lines give: one of the four is malformed, more follows them, or they are read
pub ruleset limits_read = (no_steps, no_size, no_depth, no_nodes, more_lines, limits_end)
