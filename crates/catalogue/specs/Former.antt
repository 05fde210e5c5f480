-- PUT once more, over a rule for letters; and what is claimed: a put's text without a c letter does the same by document 01's rule. A call of PUT
-- goes by its text through `read_put` alone (`read_call`, `sent`), and WITHDRAW's text has no letter.
use Rattle.std.specs.Prelude.{ℕ, ◌≡◌, List, length, nat_le}
use Rattle.std.proofs.Math.Option.{some}
use Rattle.words.specs.Words.{words, words_with}
use Rattle.text.specs.Bytes.{Split}
use Rattle.text.specs.Layout.{Stated, keyed, limit_line}
use Rattle.text.specs.Answer.{Answer, accepted, ◌>>=◌, require, or_refuse}
use Rattle.text.specs.Job.{Job}
use Rattle.text.specs.Rule.{Rule}
use Rattle.text.specs.Rule as by
use Rattle.text.specs.Former.{former, present, Without}
use Rattle.catalogue.specs.Catalogue.{Entry, Catalogue, put}
use Rattle.catalogue.specs.Texts.{Key, raw, worded, read_key, Kind, same_kind, in_catalogue, put_text}
use Rattle.catalogue.specs.Texts as now

module _ (R : Rule) where
  unfoldable pub lines_by : Key → Job → List ℕ
  unfolding by.term_lines by.canonical_terms by.renamed_words words_with
  lines_by raw j = by.term_lines R (by.canonical_terms R j.left j.right)
  lines_by worded j = by.renamed_words R (words j.left) (words j.right)

  unfoldable pub read_put : List ℕ → Answer (Entry Kind)
  unfolding ◌>>=◌ require or_refuse limit_line in_catalogue keyed read_key by.read_job lines_by
  read_put bs = do
    _ ← require 1 (nat_le (length bs) 1024)
    n ← or_refuse 1 (limit_line "number=" bs)
    _ ← require 1 (in_catalogue n.number)
    k ← or_refuse 1 (keyed "key=" n.rest)
    key ← or_refuse 1 (read_key k.front)
    j ← by.read_job R k.rest
    accepted (record { number = n.number; kind = record { key = key; lines = lines_by key j } })

  -- a call of PUT
  unfoldable pub sent : (text : List ℕ) → Catalogue Kind → Answer (Catalogue Kind)
  unfolding ◌>>=◌ read_put put same_kind
  sent bs c = do
    e ← read_put bs
    put same_kind e c

-- at the present rule it is PUT
abbrev pub PutByPresent : Type 0
PutByPresent = ((bs : List ℕ) → now.read_put bs ≡ read_put present bs)
    × ((bs : List ℕ) (c : Catalogue Kind) → now.sent (put_text bs) c ≡ sent present bs c)

-- a put's text without a c letter; it may be refused
abbrev pub PutWithout : List ℕ → Type 0
PutWithout bs = (n : Stated) (k : Split) → limit_line "number=" bs ≡ some n → keyed "key=" n.rest ≡ some k → Without k.rest

-- the same entry or refusal, and so a call does the same to every catalogue
abbrev pub PutUnchanged : Type 0
PutUnchanged = (bs : List ℕ) → PutWithout bs
    → (now.read_put bs ≡ read_put former bs) × ((c : Catalogue Kind) → now.sent (put_text bs) c ≡ sent former bs c)
