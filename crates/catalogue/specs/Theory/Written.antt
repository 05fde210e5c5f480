-- What a put's text and a withdrawal's say: each line was written as it is read.
use Rattle.std.specs.Prelude.{◌≡◌, ℕ, ◌≤◌, T, ◌↔◌, List, [], ◌∷◌, ◌++◌, length, nat_le, refl}
use Rattle.std.proofs.Common.{arith, sym, ap, subst, ◌∙◌, append-nil, leb→le, length-append, le-leb}
use Rattle.std.proofs.Math.Option.{some, bind}
use Rattle.terms.specs.Theory.Reflects.{both}
use Rattle.text.specs.Bytes.{ascii, number, after, end}
use Rattle.text.specs.StepText.{which}
use Rattle.text.specs.Layout.{keyed, limit_line}
use Rattle.text.specs.Answer.{accepted, ◌>>=◌, require, or_refuse, field}
use Rattle.text.specs.Job.{Job, read_job}
use Rattle.text.specs.Theory.AtLeast.{Printable, tested}
use Rattle.text.specs.Theory.Lengths.{number_length}
use Rattle.text.specs.Theory.Keyed.{end_only, keyed_parts, keyed_field}
use Rattle.text.specs.Theory.Accepted.{If_accepted, accepted_then, required_then, found_then}
use Rattle.text.specs.Theory.JobText.{limit_parts, limit_field, limit_last}
use Rattle.text.specs.Theory.StepRead.{which_only}
use Rattle.catalogue.specs.Catalogue.{Entry}
use Rattle.catalogue.specs.Texts.{Key, raw, worded, key_name, read_key, Kind, lines_by, in_catalogue, read_put, read_withdrawal}

key_only : (bs : List ℕ) {k : Key} → read_key bs ≡ some k → bs ≡ key_name k
unfolding read_key
key_only bs = which_only key_name (raw ∷ worded ∷ []) bs

pub numbers_in_range : (n : ℕ) → T (in_catalogue n) → (1 ≤ n) × (n ≤ 999)
unfolding in_catalogue
numbers_in_range n t = let (low, high) = both (nat_le 1 n) (nat_le n 999) t in (leb→le 1 n low, leb→le n 999 high)

-- a put that was read: its text, of at most 1,024 bytes, is number, key and a job, which is accepted, and the kind's lines are by the key
pub record PutRead (bs : List ℕ) (e : Entry Kind) : Type 0 where
  pub size : length bs ≤ 1024
  pub job : List ℕ
  pub text : bs ≡ field "number=" (number e.number) ++ (field "key=" (key_name e.kind.key) ++ job)
  pub listed : (1 ≤ e.number) × (e.number ≤ 999)
  pub equation : Job
  pub accepted : read_job job ≡ accepted equation
  pub lines : e.kind.lines ≡ lines_by e.kind.key equation

puts_read : (bs : List ℕ) → If_accepted (PutRead bs) (read_put bs)
unfolding read_put
puts_read bs =
    required_then P 1 (nat_le (length bs) 1024) _ λ short.
    found_then P 1 (limit_line "number=" bs) _ λ n stated.
    required_then P 1 (in_catalogue n.number) _ λ within.
    found_then P 1 (keyed "key=" n.rest) _ λ k keyed.
    found_then P 1 (read_key k.front) _ λ key named.
    accepted_then P (read_job k.rest) _ λ j read.
    record {
      size = leb→le (length bs) 1024 short;
      job = k.rest;
      text =
          limit_parts "number=" bs stated
          ∙ ap (λ l. field "number=" (number n.number) ++ l)
          ((keyed_parts "key=" n.rest keyed).parts ∙ ap (λ v. field "key=" v ++ k.rest) (key_only k.front named));
      listed = numbers_in_range n.number within;
      equation = j;
      accepted = read;
      lines = refl;
    }
  where
    P : Entry Kind → Type 0
    P = PutRead bs

pub put_read : {bs : List ℕ} {e : Entry Kind} → read_put bs ≡ accepted e → PutRead bs e
put_read {bs} f = rw f at (puts_read bs)

-- and each such text is read so

pub printed_key : (k : Key) → Printable (key_name k)
unfolding key_name ascii
printed_key raw = tested _ _ tt
printed_key worded = tested _ _ tt

pub key_read : (k : Key) → read_key (key_name k) ≡ some k
unfolding read_key which key_name ascii after end bind
key_read raw = refl
key_read worded = refl

pub put_written : (n : ℕ) (key : Key) (job : List ℕ) {j : Job} → length (field "number=" (number n) ++ (field "key=" (key_name key) ++ job)) ≤ 1024
    → 1 ≤ n → n ≤ 999 → read_job job ≡ accepted j
    → read_put (field "number=" (number n) ++ (field "key=" (key_name key) ++ job)) ≡ accepted (record { number = n; kind = record { key = key; lines = lines_by key j } })
unfolding read_put ◌>>=◌ require or_refuse in_catalogue
put_written n key job short low high read =
    rw (
      le-leb (length (field "number=" (number n) ++ (field "key=" (key_name key) ++ job))) 1024 short,
      limit_field "number=" n (field "key=" (key_name key) ++ job),
      le-leb 1 n low,
      le-leb n 999 high,
      keyed_field "key=" (key_name key) job (printed_key key),
      key_read key,
      read,
    )

pub put_exact : (bs : List ℕ) (e : Entry Kind) → (read_put bs ≡ accepted e) ↔ PutRead bs e
put_exact bs e = (
  λ f. put_read f,
  λ R.
      ap read_put R.text
      ∙ put_written e.number e.kind.key R.job (subst (λ l. length l ≤ 1024) R.text R.size) R.listed.0 R.listed.1 R.accepted
      ∙ ap (λ lines. accepted (record { number = e.number; kind = record { key = e.kind.key; lines = lines } })) (sym R.lines),
)

-- `number=` alone, with a number from 1 to 999
abbrev pub Withdrawal : List ℕ → ℕ → Type 0
Withdrawal bs n = (bs ≡ field "number=" (number n)) × (1 ≤ n) × (n ≤ 999)

withdrawals_read : (bs : List ℕ) → If_accepted (Withdrawal bs) (read_withdrawal bs)
unfolding read_withdrawal
withdrawals_read bs =
    required_then (Withdrawal bs) 1 (nat_le (length bs) 1024) _ λ _.
    found_then (Withdrawal bs) 1 (limit_line "number=" bs) _ λ s stated.
    found_then (Withdrawal bs) 1 (end s.number s.rest) _ λ m ended.
    required_then (Withdrawal bs) 1 (in_catalogue m) _ λ within.
    let (nil, same) = end_only s.number s.rest ended in
    let (low, high) = numbers_in_range m within in
    (limit_parts "number=" bs stated ∙ rw (nil, same) (append-nil (field "number=" (number m))), low, high)

number_short : (n : ℕ) → n ≤ 999 → length (field "number=" (number n)) ≤ 1024
unfolding field ascii
number_short n high = omega (arith, length-append (number n) (10 ∷ []), number_length n high)

withdrawal_written : (n : ℕ) → 1 ≤ n → n ≤ 999 → read_withdrawal (field "number=" (number n)) ≡ accepted n
unfolding read_withdrawal ◌>>=◌ require or_refuse end in_catalogue
withdrawal_written n low high =
    rw (le-leb (length (field "number=" (number n))) 1024 (number_short n high), limit_last "number=" n, le-leb 1 n low, le-leb n 999 high)

pub withdrawal_exact : (bs : List ℕ) (n : ℕ) → (read_withdrawal bs ≡ accepted n) ↔ Withdrawal bs n
withdrawal_exact bs n = (λ e. rw e at (withdrawals_read bs), λ (e, low, high). ap read_withdrawal e ∙ withdrawal_written n low high)
