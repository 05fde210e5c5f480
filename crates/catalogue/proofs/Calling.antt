-- Whole calls: what is promised whatever the buffer held, and on a catalogue.
use Rattle.std.proofs.Common.{◌≡◌, ℕ, ◌+◌, ◌*◌, ◌<◌, ◌≤◌, ◌⊎◌, List, length, get_or, sym, refl, ◌∙◌, ⊎_elim, arith, true, false, Option, Some, None}
use Rattle.std.specs.Option.{is_some}
use Rattle.std.proofs.lemmas.Bool.{false≢true}
use Rattle.terms.specs.Lists.{◌∈◌, here, there, in_left, in_right}
use Rattle.search.specs.Runs.{Shows}
use Rattle.words.specs.Spelled.{SLOT}
use Rattle.words.specs.Multiply.{MOST}
use Rattle.words.specs.Candidate.{Sides}
use Rattle.text.specs.Answer.{refused, accepted, ◌>>=◌}
use Rattle.catalogue.specs.Catalogue.{PLACES, Entry, Catalogue}
use Rattle.catalogue.specs.Calls.{Call, puts, withdraws, call, Sound}
use Rattle.catalogue.specs.Texts.{Kind, same_kind, Text, put_text, withdraw_text, read_put, read_withdrawal, read_call, sent}
use Rattle.catalogue.specs.Stored.{ROOM, COUNT, LENGTH, Holds, Elsewhere, read_numbers, late_numbers, call_numbers, Harmless, Step, SentCall}
use Rattle.catalogue.specs.Theory.Numbers.{read_call_numbered, numbers_low}
use Rattle.catalogue.specs.Promises.{Seeks, TakesPut, MakesLists, PutsLists, PutsEquation, TakesOut, WithdrawsEntry}
use Rattle.catalogue.specs.declared.kind.Key.{Key}
use Rattle.catalogue.specs.declared.read.Put.{Put}
use Rattle.catalogue.specs.Theory.Steps.{refused_step, put_listed, put_full, put_step, withdraw_unlisted, withdraw_step}

-- nothing was written
pub unchanged : (cat : List ℕ) (k : ℕ) → Elsewhere cat cat k
unchanged cat k = record { size = refl; before = λ i h. refl; behind = λ i h l. refl; spare = λ i low high. refl }

pub refused_harmless : {ns : List ℕ} (cat : List ℕ) (n : ℕ) → n < 100 → n ∈ ns → Harmless ns cat n cat
refused_harmless cat n low i =
    record { untouched = λ h. refl; numbered = λ h. i; returns = λ h. absurd (omega arith); elsewhere = (0, omega arith, unchanged cat 0) }

accepted_harmless : {ns cat cat' : List ℕ} {k r : ℕ} → k < PLACES → Elsewhere cat cat' k → r ≡ 100 + get_or cat' COUNT 0 → Harmless ns cat r cat'
accepted_harmless {k = k} inside E e =
    record { untouched = λ h. absurd (omega arith); numbered = λ h. absurd (omega arith); returns = λ h. e; elsewhere = (k, inside, E) }

-- ---- a put

-- the lists were made
module _ (cat : List ℕ) (k n : ℕ) (key : Key) {xs ys : List ℕ} {room : ℕ} {e : Sides} (M : MakesLists key xs ys room e)
    (enough : SLOT * MOST ≤ room) where
  -- no place has room for them
  pub lists_long : (ROOM < length e.left) ⊎ (ROOM < length e.right) → PutsLists cat k n key xs ys 15 cat
  lists_long h =
      record {
        harmless = refused_harmless cat 15 (omega arith) (there (here refl));
        exact = λ j p q F. let L = M.exact j p q F enough in absurd (⊎_elim (λ l. omega (arith, L.left_room)) (λ l. omega (arith, L.right_room)) h);
      }

module _ (cat : List ℕ) (n : ℕ) (low : 0 < n) where
  module _ (key : Key) (xs ys : List ℕ) where
    pub put_again : (r : Option ℕ) → Seeks cat n r → true ≡ is_some r → PutsEquation cat n key xs ys 13 cat
    put_again None found e = absurd (false≢true (sym e))
    put_again (Some k) found e =
        record {
          harmless = refused_harmless cat 13 (omega arith) (here refl);
          step = λ j p q F c H S. refused_step H (put_listed H S _ k low found);
        }

    module _ (r : Option ℕ) (searched : Seeks cat n r) (absent : false ≡ is_some r) where
      new : Seeks cat n None
      new = go r searched absent
        where
          go : (r : Option ℕ) → Seeks cat n r → false ≡ is_some r → Seeks cat n None
          go None h e = h
          go (Some k) h e = absurd (false≢true e)

      pub put_nowhere : Seeks cat 0 None → PutsEquation cat n key xs ys 15 cat
      put_nowhere full =
          record {
            harmless = refused_harmless cat 15 (omega arith) (there (here refl));
            step = λ j p q F c H S. refused_step H (put_full H S _ new full);
          }

      pub put_there : (k : ℕ) → Seeks cat 0 (Some k) → {r : ℕ} {cat' : List ℕ} → PutsLists cat k n key xs ys r cat' → PutsEquation cat n key xs ys r cat'
      put_there k free P =
          record {
            harmless = P.harmless;
            step = λ j p q F c H S. let J = P.exact j p q F in put_step H S J.listed low k free new J.stored;
          }

  -- ---- a withdrawal

  pub not_there : Seeks cat n None → WithdrawsEntry cat n 14 cat
  not_there out =
      record { harmless = refused_harmless cat 14 (omega arith) (here refl); step = λ c H S. refused_step H (withdraw_unlisted H S n out) }

  pub taken_there : (k : ℕ) → Seeks cat n (Some k) → {r : ℕ} {cat' : List ℕ} → TakesOut cat k r cat' → WithdrawsEntry cat n r cat'
  taken_there k found W =
      record { harmless = accepted_harmless found.0 W.elsewhere W.returns; step = λ c H S. withdraw_step H S n k low found W }

-- ---- the entries

module _ (t : Text) (cat : List ℕ) where
  -- a buffer of another length
  pub other_length : (length cat ≡ LENGTH → ⊥) → SentCall t cat 99 cat
  other_length h =
      record {
        step = λ c H S. absurd (h H.size);
        harmless = refused_harmless cat 99 (omega arith) (here refl);
        text = λ n l e. absurd (h l);
        late = λ x l e low. absurd (h l);
        other = λ _. refl;
      }

  module _ (whole : length cat ≡ LENGTH) where
    -- a text that is refused
    pub text_refused : {n : ℕ} → read_call t ≡ refused n → SentCall t cat n cat
    unfolding sent ◌>>=◌
    text_refused {n} e =
        let among : n ∈ call_numbers t = there (in_left (late_numbers t) (rw e at (read_call_numbered t))) in
        record {
          step = λ c H S. refused_step H (rw e);
          harmless = refused_harmless cat n (numbers_low t among) among;
          text = λ m l f. let g = sym e ∙ f in cc;
          late = λ x l f low. absurd (let g = sym e ∙ f in let z : ◌≡◌ {A = ℕ} 0 1 = cc in omega arith);
          other = λ h. absurd (h whole);
        }

    -- a text that is read
    pub text_read : {x : Call Kind} {r : ℕ} {cat' : List ℕ} → read_call t ≡ accepted x → Harmless (late_numbers t) cat r cat'
        → ((c : Catalogue Kind) → Holds cat c → Sound same_kind c → Step c (call same_kind x c) r cat') → SentCall t cat r cat'
    unfolding sent ◌>>=◌
    text_read {x} e h step =
        record {
          step = λ c H S. rw e (step c H S);
          harmless =
              record {
                untouched = h.untouched;
                numbered = λ l. there (in_right (read_numbers t) (h.numbered l));
                returns = h.returns;
                elsewhere = h.elsewhere;
              };
          text = λ n l f. absurd (let g = sym e ∙ f in let z : ◌≡◌ {A = ℕ} 0 1 = cc in omega arith);
          late = λ y l f low. h.numbered low;
          other = λ l. absurd (l whole);
        }

-- what is read of a text is the call
module _ (bs : List ℕ) where
  pub put_refused : {n : ℕ} → read_put bs ≡ refused n → read_call (put_text bs) ≡ refused n
  unfolding read_call ◌>>=◌
  put_refused e = rw e

  pub put_read : {e : Entry Kind} → read_put bs ≡ accepted e → read_call (put_text bs) ≡ accepted (puts e)
  unfolding read_call ◌>>=◌
  put_read f = rw f

  pub withdrawal_refused : {n : ℕ} → read_withdrawal bs ≡ refused n → read_call (withdraw_text bs) ≡ refused n
  unfolding read_call ◌>>=◌
  withdrawal_refused e = rw e

  pub withdrawal_read : {n : ℕ} → read_withdrawal bs ≡ accepted n → read_call (withdraw_text bs) ≡ accepted (withdraws n)
  unfolding read_call ◌>>=◌
  withdrawal_read e = rw e

pub put_sent : (bs cat : List ℕ) → length cat ≡ LENGTH → {p : Put} {rights xs ys : List ℕ} → TakesPut bs p rights → xs ≡ p.left → Shows rights 0 ys
    → {r : ℕ} {cat' : List ℕ} → PutsEquation cat p.number p.key xs ys r cat' → SentCall (put_text bs) cat r cat'
unfolding call
put_sent bs cat whole T e f P =
    text_read (put_text bs) cat whole (put_read bs T.read) P.harmless
    (P.step T.job (rw e T.left_run) (f.exact T.job.right T.right_run) T.fit)

pub withdrawal_sent : (bs cat : List ℕ) → length cat ≡ LENGTH → {n : ℕ} → read_withdrawal bs ≡ accepted n
    → {r : ℕ} {cat' : List ℕ} → WithdrawsEntry cat n r cat' → SentCall (withdraw_text bs) cat r cat'
unfolding call
withdrawal_sent bs cat whole {n} e W = text_read (withdraw_text bs) cat whole (withdrawal_read bs e) W.harmless W.step
