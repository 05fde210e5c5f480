-- The texts of a put and of a withdrawal, the kind of an entry, and the two calls.
use Rattle.std.specs.Prelude.{ℕ, Bool, true, false, ◌&&◌, List, [], ◌∷◌, length, nat_le}
use Rattle.std.proofs.Math.Option.{Option}
use Rattle.std.proofs.Math.Dec.{compare_is_eq}
use Rattle.terms.specs.Compare.{lexicographic, order_numbers}
use Rattle.words.specs.Words.{words, words_with}
use Rattle.words.specs.Rename.{canonical_terms}
use Rattle.text.specs.Bytes.{ascii, end}
use Rattle.text.specs.StepText.{which}
use Rattle.text.specs.Layout.{keyed, limit_line}
use Rattle.text.specs.Answer.{Answer, accepted, ◌>>=◌, require, or_refuse}
use Rattle.text.specs.Job.{Job, read_job}
use Rattle.text.specs.Rename.{term_lines, renamed_words}
use Rattle.catalogue.specs.Catalogue.{Entry, Catalogue, left_by}
use Rattle.catalogue.specs.Calls.{Call, puts, withdraws, call}

-- `key=raw` or `key=words`
pub data Key : Type 0 where
  raw worded : Key

unfoldable pub key_name : Key → List ℕ
unfolding ascii
key_name raw = ascii "raw"
key_name worded = ascii "words"

unfoldable pub read_key : List ℕ → Option Key
unfolding which key_name
read_key = which key_name (raw ∷ worded ∷ [])

-- two entries are of one kind if key and lines agree
pub record Kind : Type 0 where
  pub key : Key
  pub lines : List ℕ

abbrev pub same_key : Key → Key → Bool
same_key raw raw = true
same_key raw worded = false
same_key worded raw = false
same_key worded worded = true

unfoldable pub same_kind : Kind → Kind → Bool
unfolding lexicographic
same_kind k l = same_key k.key l.key && compare_is_eq (order_numbers k.lines l.lines)

-- RENAME's `left` and `right`, or its last two lines
unfoldable pub lines_by : Key → Job → List ℕ
unfolding term_lines canonical_terms renamed_words words_with
lines_by raw j = term_lines (canonical_terms j.left j.right)
lines_by worded j = renamed_words (words j.left) (words j.right)

-- a number outside 1 to 999 falls under 1
unfoldable pub in_catalogue : ℕ → Bool
in_catalogue n = nat_le 1 n && nat_le n 999

-- a put is one text of at most 1,024 bytes: `number=`, `key=` and then a job's lines, with refusals 1 to 6
unfoldable pub read_put : List ℕ → Answer (Entry Kind)
unfolding ◌>>=◌ require or_refuse limit_line in_catalogue keyed read_key read_job lines_by
read_put bs = do
  _ ← require 1 (nat_le (length bs) 1024)
  n ← or_refuse 1 (limit_line "number=" bs)
  _ ← require 1 (in_catalogue n.number)
  k ← or_refuse 1 (keyed "key=" n.rest)
  key ← or_refuse 1 (read_key k.front)
  j ← read_job k.rest
  accepted (record { number = n.number; kind = record { key = key; lines = lines_by key j } })

-- a withdrawal is `number=` alone
unfoldable pub read_withdrawal : List ℕ → Answer ℕ
unfolding ◌>>=◌ require or_refuse limit_line end in_catalogue
read_withdrawal bs = do
  _ ← require 1 (nat_le (length bs) 1024)
  n ← or_refuse 1 (limit_line "number=" bs)
  m ← or_refuse 1 (end n.number n.rest)
  _ ← require 1 (in_catalogue m)
  accepted m

-- a text that is sent to PUT or to WITHDRAW
pub data Text : Type 0 where
  put_text withdraw_text : List ℕ → Text

-- the call that a text asks for
unfoldable pub read_call : Text → Answer (Call Kind)
unfolding ◌>>=◌ read_put read_withdrawal
read_call (put_text bs) = do
  e ← read_put bs
  accepted (puts e)
read_call (withdraw_text bs) = do
  n ← read_withdrawal bs
  accepted (withdraws n)

-- PUT and WITHDRAW: the first refusal counts
unfoldable pub sent : Text → Catalogue Kind → Answer (Catalogue Kind)
unfolding ◌>>=◌ read_call call same_kind
sent t c = do
  x ← read_call t
  call same_kind x c

-- the catalogue after a list of texts
unfoldable pub after_texts : List Text → Catalogue Kind → Catalogue Kind
unfolding sent
after_texts [] c = c
after_texts (t ∷ ts) c = after_texts ts (left_by c (sent t c))
