-- A refusal of PUT or of WITHDRAW has one of its numbers.
use Rattle.std.specs.Prelude.{◌≡◌, ℕ, ◌<◌, Bool, true, not, ◌&&◌, T, List, [], ◌∷◌, ◌++◌, length, nat_le, nat_lt}
use Rattle.std.proofs.Common.{arith, ⊎_elim, ltb→lt}
use Rattle.terms.specs.Lists.{◌∈◌, there, not-in-nil, cons-cases, in_left, in_right}
use Rattle.terms.specs.Theory.Reflects.{both}
use Rattle.text.specs.Bytes.{end}
use Rattle.text.specs.Layout.{keyed, limit_line}
use Rattle.text.specs.Answer.{Answer, refused, accepted, ◌>>=◌}
use Rattle.text.specs.Job.{read_job}
use Rattle.text.specs.Claims.{job_numbers}
use Rattle.text.specs.Theory.Entry.{among, Numbered, numbered_then, numbered_or, numbered_require, numbered_among, read_numbered}
use Rattle.catalogue.specs.Catalogue.{PLACES, Entry, Catalogue, held, entry_of, listed, put, withdraw}
use Rattle.catalogue.specs.Calls.{puts, withdraws, call}
use Rattle.catalogue.specs.Texts.{Kind, same_kind, read_key, in_catalogue, read_put, read_withdrawal, Text, put_text, withdraw_text, read_call, sent}
use Rattle.catalogue.specs.Stored.{read_numbers, late_numbers, call_numbers}

-- what is read

pub read_put_numbered : (bs : List ℕ) → Numbered job_numbers (read_put bs)
unfolding read_put
read_put_numbered bs =
    numbered_require ns 1 (nat_le (length bs) 1024) _ (search among)
    (numbered_or ns 1 (limit_line "number=" bs) _ (search among) λ n.
    numbered_require ns 1 (in_catalogue n.number) _ (search among)
    (numbered_or ns 1 (keyed "key=" n.rest) _ (search among) λ k.
    numbered_or ns 1 (read_key k.front) _ (search among) λ key.
    numbered_then ns (read_job k.rest) _ (read_numbered k.rest) λ j. tt))
  where
    ns : List ℕ
    ns = job_numbers

pub read_withdrawal_numbered : (bs : List ℕ) → Numbered (1 ∷ []) (read_withdrawal bs)
unfolding read_withdrawal
read_withdrawal_numbered bs =
    numbered_require ns 1 (nat_le (length bs) 1024) _ (search among)
    (numbered_or ns 1 (limit_line "number=" bs) _ (search among) λ n.
    numbered_or ns 1 (end n.number n.rest) _ (search among) λ m.
    numbered_require ns 1 (in_catalogue m) _ (search among) tt)
  where
    ns : List ℕ
    ns = 1 ∷ []

-- what is done

module _ {K : Type 0} (same : K → K → Bool) (c : Catalogue K) where
  pub put_numbered : (e : Entry K) → Numbered (13 ∷ 15 ∷ []) (put same e c)
  unfolding put
  put_numbered e =
      numbered_require (13 ∷ 15 ∷ []) 13 (not (listed e.number (held c.places))) _ (search among)
      (numbered_require (13 ∷ 15 ∷ []) 15 (nat_lt (length (held c.places)) PLACES) _ (search among) tt)

  pub withdraw_numbered : (n : ℕ) → Numbered (14 ∷ []) (withdraw same n c)
  unfolding withdraw
  withdraw_numbered n = numbered_or (14 ∷ []) 14 (entry_of n (held c.places)) _ (search among) λ e. tt

-- both

pub read_call_numbered : (t : Text) → Numbered (read_numbers t) (read_call t)
unfolding read_call
read_call_numbered (put_text bs) = numbered_then job_numbers (read_put bs) _ (read_put_numbered bs) λ e. tt
read_call_numbered (withdraw_text bs) = numbered_then (1 ∷ []) (read_withdrawal bs) _ (read_withdrawal_numbered bs) λ n. tt

pub sent_numbered : (t : Text) (c : Catalogue Kind) → Numbered (read_numbers t ++ late_numbers t) (sent t c)
unfolding sent read_call call ◌>>=◌
sent_numbered (put_text bs) c = go (read_put bs) (read_put_numbered bs)
  where
    ns : List ℕ
    ns = job_numbers ++ (13 ∷ 15 ∷ [])

    go : (a : Answer (Entry Kind)) → Numbered job_numbers a → Numbered ns (◌>>=◌ (◌>>=◌ a (λ e. accepted (puts e))) (λ x. call same_kind x c))
    go (refused n) h = in_left (13 ∷ 15 ∷ []) h
    go (accepted e) h = numbered_among ns (13 ∷ 15 ∷ []) (put same_kind e c) (λ n i. in_right job_numbers i) (put_numbered same_kind c e)
sent_numbered (withdraw_text bs) c = go (read_withdrawal bs) (read_withdrawal_numbered bs)
  where
    ns : List ℕ
    ns = 1 ∷ 14 ∷ []

    go : (a : Answer ℕ) → Numbered (1 ∷ []) a → Numbered ns (◌>>=◌ (◌>>=◌ a (λ n. accepted (withdraws n))) (λ x. call same_kind x c))
    go (refused n) h = in_left (14 ∷ []) h
    go (accepted n) h = numbered_among ns (14 ∷ []) (withdraw same_kind n c) (λ m i. there i) (withdraw_numbered same_kind c n)

-- every refusal's number is below 100

abbrev all_low : List ℕ → Bool
all_low [] = true
all_low (n ∷ ns) = nat_lt n 100 && all_low ns

low_in : (ns : List ℕ) → T (all_low ns) → {n : ℕ} → n ∈ ns → n < 100
low_in [] t i = absurd (not-in-nil i)
low_in (m ∷ ns) t i =
    let (first, rest) = both (nat_lt m 100) (all_low ns) t in
    ⊎_elim (λ p. omega (arith, ltb→lt m 100 first)) (λ j. low_in ns rest j) (cons-cases i)

pub numbers_low : (t : Text) {n : ℕ} → n ∈ call_numbers t → n < 100
numbers_low (put_text bs) i = low_in (99 ∷ (job_numbers ++ (13 ∷ 15 ∷ []))) tt i
numbers_low (withdraw_text bs) i = low_in (99 ∷ 1 ∷ 14 ∷ []) tt i

pub sent_low : (t : Text) (c : Catalogue Kind) {n : ℕ} → sent t c ≡ refused n → n < 100
sent_low t c e = numbers_low t (there (rw e at (sent_numbered t c)))
