-- The texts of a put and of a withdrawal, line by line.
use Rattle.std.proofs.Common.{◌≡◌, ℕ, ◌<◌, ◌≤◌, Bool, true, false, leb, List, [], ◌∷◌, length, sym, refl, ap, ◌∙◌, arith, le-leb}
use mathlib.Core.Option.{Option, none, some, none-ne-some}
use borrow.Author.Tests.{lt-leb}
use Rattle.terms.specs.Theory.Reflects.{Reflects, both_reflect}
use Rattle.text.specs.Bytes.{ascii, end, Split}
use Rattle.text.specs.Layout.{keyed, Stated, limit_line}
use Rattle.text.specs.LayoutRead.{LimitAt, Unlimited}
use Rattle.text.specs.Reading.{Valued}
use Rattle.text.specs.Reading as reading
use Rattle.text.specs.Answer.{Answer, refused, accepted, ◌>>=◌, require, or_refuse}
use Rattle.text.specs.Job.{read_job}
use Rattle.text.specs.Accepting.{TakesOne}
use Rattle.text.specs.declared.job.accept.Read.{Read}
use Rattle.text.specs.Theory.Keyed.{end_only}
use Rattle.text.specs.Theory.StepRead.{which_only}
use Rattle.text.specs.Theory.JobText.{job_accepted}
use Rattle.catalogue.specs.Catalogue.{Entry}
use Rattle.catalogue.specs.Texts.{Kind, key_name, read_key, in_catalogue, read_put, read_withdrawal, lines_by}
use Rattle.catalogue.specs.Texts as texts
use Rattle.catalogue.specs.Theory.Written.{key_read, numbers_in_range}
use Rattle.catalogue.specs.Promises.{key_of, entry, NumberAt, Unnumbered, KeyAt, Unkeyed, TakesPut}
use Rattle.catalogue.specs.declared.kind.Key.{Key}

-- ---- the number

in_range : (n : ℕ) → Reflects ((1 ≤ n) × (n ≤ 999)) (in_catalogue n)
unfolding in_catalogue
in_range n = both_reflect 1 n n 999

range_true : (n : ℕ) → 1 ≤ n → n ≤ 999 → in_catalogue n ≡ true
range_true n low high = go (in_catalogue n) (in_range n)
  where
    go : (b : Bool) → Reflects ((1 ≤ n) × (n ≤ 999)) b → b ≡ true
    go true h = refl
    go false h = absurd (h (low, high))

module _ (s : List ℕ) where
  pub no_number : Unlimited s (ascii "number=") → Unnumbered s
  no_number U m f t = absurd (none-ne-some m (sym (U "number=" refl) ∙ f))

  module _ {n : ℕ} {rest : List ℕ} (L : LimitAt s (ascii "number=") n rest) where
    -- the number that stands there, whatever it is
    stated : (m : Stated) → limit_line "number=" s ≡ some m → m.number ≡ L.number
    stated m f = let e = sym f ∙ L.parts "number=" refl in cc

    pub number_out : (1 ≤ n → n ≤ 999 → ⊥) → Unnumbered s
    number_out h m f t =
        let (low, high) = numbers_in_range m.number t in
        let e = stated m f in
        h (omega (arith, e, L.is)) (omega (arith, e, L.is))

    pub number_there : 1 ≤ n → n ≤ 999 → NumberAt s n rest
    number_there low high =
        let e : L.number ≡ n = omega (arith, L.is) in
        record { low = low; high = high; line = L.parts "number=" refl ∙ ap (λ k. some (record { number = k; rest = rest })) e }

-- ---- the key

module _ (s : List ℕ) where
  pub no_value : reading.Unkeyed s (ascii "key=") → Unkeyed s
  no_value U k e = absurd (none-ne-some k (sym (U "key=" refl) ∙ e))

  module _ {value rest : List ℕ} (V : Valued s (ascii "key=") value rest) where
    -- the value is a key's name
    pub key_there : (key : Key) → value ≡ key_name (key_of key) → KeyAt s key rest
    key_there key e = record { value = value; line = V.parts "key=" refl; read = ap read_key e ∙ key_read (key_of key) }

    -- it is neither key's
    pub key_unknown : (value ≡ key_name texts.raw → ⊥) → (value ≡ key_name texts.worded → ⊥) → Unkeyed s
    unfolding read_key
    key_unknown no-raw no-words k e = go (read_key k.front) refl
      where
        same : k.front ≡ value
        same = let f = sym e ∙ V.parts "key=" refl in cc

        other : (key : texts.Key) → value ≡ key_name key → ⊥
        other texts.raw = no-raw
        other texts.worded = no-words

        go : (o : Option texts.Key) → read_key k.front ≡ o → read_key k.front ≡ none
        go none f = f
        go (some key) f = absurd (other key (sym same ∙ which_only key_name (texts.raw ∷ texts.worded ∷ []) k.front f))

-- ---- the whole texts

-- a put, stage by stage: behind its length, its number and its key
put_job : ℕ → texts.Key → List ℕ → Answer (Entry Kind)
put_job n key bs = ◌>>=◌ (read_job bs) λ j. accepted (entry n key (lines_by key j))

put_key : ℕ → List ℕ → Answer (Entry Kind)
put_key n bs = ◌>>=◌ (or_refuse 1 (keyed "key=" bs)) λ k. ◌>>=◌ (or_refuse 1 (read_key k.front)) λ key. put_job n key k.rest

put_number : Stated → Answer (Entry Kind)
put_number m = ◌>>=◌ (require 1 (in_catalogue m.number)) λ _. put_key m.number m.rest

put_line : List ℕ → Answer (Entry Kind)
put_line s = ◌>>=◌ (or_refuse 1 (limit_line "number=" s)) put_number

put_staged : (s : List ℕ) → read_put s ≡ ◌>>=◌ (require 1 (leb (length s) 1024)) (λ _. put_line s)
unfolding read_put put_line put_number put_key put_job
put_staged s = refl

-- a withdrawal likewise
withdrawal_range : ℕ → Answer ℕ
withdrawal_range m = ◌>>=◌ (require 1 (in_catalogue m)) λ _. accepted m

withdrawal_end : Stated → Answer ℕ
withdrawal_end m = ◌>>=◌ (or_refuse 1 (end m.number m.rest)) withdrawal_range

withdrawal_line : List ℕ → Answer ℕ
withdrawal_line s = ◌>>=◌ (or_refuse 1 (limit_line "number=" s)) withdrawal_end

withdrawal_staged : (s : List ℕ) → read_withdrawal s ≡ ◌>>=◌ (require 1 (leb (length s) 1024)) (λ _. withdrawal_line s)
unfolding read_withdrawal withdrawal_line withdrawal_end withdrawal_range
withdrawal_staged s = refl

-- what one stage gives
module _ {A : Type 0} (f : Unit {0} → Answer A) where
  failed : (b : Bool) → b ≡ false → ◌>>=◌ (require 1 b) f ≡ refused 1
  unfolding ◌>>=◌ require
  failed b e = rw e

  passed : (b : Bool) → b ≡ true → ◌>>=◌ (require 1 b) f ≡ f tt
  unfolding ◌>>=◌ require
  passed b e = rw e

module _ {A B : Type 0} (f : A → Answer B) where
  missing : (o : Option A) → o ≡ none → ◌>>=◌ (or_refuse 1 o) f ≡ refused 1
  unfolding ◌>>=◌ or_refuse
  missing o e = rw e

  found : (o : Option A) (x : A) → o ≡ some x → ◌>>=◌ (or_refuse 1 o) f ≡ f x
  unfolding ◌>>=◌ or_refuse
  found o x e = rw e

-- nothing follows, or something
ended : (n : ℕ) (bs : List ℕ) → length bs < 1 → end n bs ≡ some n
unfolding end
ended n [] h = refl
ended n (b ∷ bs) h = absurd (omega arith)

not_ended : (n : ℕ) (bs : List ℕ) → 1 ≤ length bs → end n bs ≡ none
unfolding end
not_ended n [] h = absurd (omega arith)
not_ended n (b ∷ bs) h = refl

module _ (s : List ℕ) where
  pub long_put : 1024 < length s → read_put s ≡ refused 1
  long_put h = put_staged s ∙ failed (λ _. put_line s) _ (lt-leb (length s) 1024 h)

  pub long_withdrawal : 1024 < length s → read_withdrawal s ≡ refused 1
  long_withdrawal h = withdrawal_staged s ∙ failed (λ _. withdrawal_line s) _ (lt-leb (length s) 1024 h)

  module _ (short : length s ≤ 1024) where
    put_from : {a : Answer (Entry Kind)} → put_line s ≡ a → read_put s ≡ a
    put_from e = put_staged s ∙ passed (λ _. put_line s) _ (le-leb (length s) 1024 short) ∙ e

    withdrawal_from : {a : Answer ℕ} → withdrawal_line s ≡ a → read_withdrawal s ≡ a
    withdrawal_from e = withdrawal_staged s ∙ passed (λ _. withdrawal_line s) _ (le-leb (length s) 1024 short) ∙ e

    -- no number from 1 to 999 is in the first line
    module _ (W : Unnumbered s) where
      out_of_range : (m : Stated) → limit_line "number=" s ≡ some m → in_catalogue m.number ≡ false
      out_of_range m e = go (in_catalogue m.number) refl
        where
          go : (b : Bool) → in_catalogue m.number ≡ b → b ≡ false
          go true g = absurd (W m e (rw g tt))
          go false g = refl

      pub no_put : read_put s ≡ refused 1
      unfolding put_line put_number
      no_put = put_from (go (limit_line "number=" s) refl)
        where
          go : (o : Option Stated) → limit_line "number=" s ≡ o → put_line s ≡ refused 1
          go none e = missing put_number _ e
          go (some m) e = found put_number _ m e ∙ failed _ _ (out_of_range m e)

      pub no_withdrawal : read_withdrawal s ≡ refused 1
      unfolding withdrawal_line withdrawal_end withdrawal_range
      no_withdrawal = withdrawal_from (go (limit_line "number=" s) refl)
        where
          go' : (m : Stated) → limit_line "number=" s ≡ some m → (o : Option ℕ) → end m.number m.rest ≡ o → withdrawal_end m ≡ refused 1
          go' m e none f = missing withdrawal_range _ f
          go' m e (some k) f =
              found withdrawal_range _ k f ∙ failed _ _ (ap in_catalogue (sym (end_only m.number m.rest f).1) ∙ out_of_range m e)

          go : (o : Option Stated) → limit_line "number=" s ≡ o → withdrawal_line s ≡ refused 1
          go none e = missing withdrawal_end _ e
          go (some m) e = found withdrawal_end _ m e ∙ go' m e (end m.number m.rest) refl

    module _ {n : ℕ} {rest : List ℕ} (N : NumberAt s n rest) where
      -- what follows the number, where it is the last line, or not
      rest_from : (o : Option ℕ) → end n rest ≡ o → withdrawal_line s ≡ ◌>>=◌ (or_refuse 1 o) withdrawal_range
      unfolding withdrawal_line withdrawal_end
      rest_from o e = found withdrawal_end _ _ N.line ∙ ap (λ o. ◌>>=◌ (or_refuse 1 o) withdrawal_range) e

      pub more_behind : 1 ≤ length rest → read_withdrawal s ≡ refused 1
      more_behind h = withdrawal_from (rest_from none (not_ended n rest h) ∙ missing withdrawal_range none refl)

      pub withdrawal_read : length rest < 1 → read_withdrawal s ≡ accepted n
      unfolding withdrawal_range
      withdrawal_read h =
          withdrawal_from (rest_from (some n) (ended n rest h) ∙ found withdrawal_range (some n) n refl ∙ passed _ _ (range_true n N.low N.high))

      key_from : {a : Answer (Entry Kind)} → put_key n rest ≡ a → read_put s ≡ a
      unfolding put_line put_number
      key_from e = put_from (found put_number _ _ N.line ∙ passed _ _ (range_true n N.low N.high) ∙ e)

      pub no_key : Unkeyed rest → read_put s ≡ refused 1
      unfolding put_key
      no_key U = key_from (go (keyed "key=" rest) refl)
        where
          behind : Split → Answer (Entry Kind)
          behind k = ◌>>=◌ (or_refuse 1 (read_key k.front)) λ key. put_job n key k.rest

          go : (o : Option Split) → keyed "key=" rest ≡ o → put_key n rest ≡ refused 1
          go none e = missing behind _ e
          go (some k) e = found behind _ k e ∙ missing (λ key. put_job n key k.rest) _ (U k e)

      module _ {key : Key} {job : List ℕ} (K : KeyAt rest key job) where
        job_from : {a : Answer (Entry Kind)} → put_job n (key_of key) job ≡ a → read_put s ≡ a
        unfolding put_key
        job_from e = key_from (found _ _ _ K.line ∙ found (λ key. put_job n key job) _ _ K.read ∙ e)

        pub job_refused : {m : ℕ} → read_job job ≡ refused m → read_put s ≡ refused m
        unfolding put_job ◌>>=◌
        job_refused e = job_from (rw e)

        pub job_taken : {j : Read} {rights : List ℕ} → TakesOne (read_job job) j rights → TakesPut s (record { number = n; key = key; left = j.left }) rights
        unfolding put_job ◌>>=◌
        job_taken o =
            record {
              job = o.job;
              fit = (rw o.accepted at (job_accepted job)).sides;
              low = N.low;
              read = job_from (rw o.accepted);
              left_run = o.left_run;
              right_run = o.right_run;
            }
