-- What is claimed of every list of calls of PUT and WITHDRAW on one buffer, and of kinds and RENAME's lines.
use Rattle.std.specs.Prelude.{◌≡◌, ℕ, ◌+◌, ◌<◌, ◌≤◌, true, false, ◌⊎◌, ◌↔◌, List, [], ◌∷◌, ◌++◌, length, ◌≢◌, nat_le, slice_index, slice_index_or}
use mathlib.Core.List.{flatten}
use Rattle.terms.specs.Lists.{◌∈◌}
use Rattle.terms.specs.Term.{Term}
use Rattle.terms.specs.Letters.{letters}
use Rattle.words.specs.Words.{words}
use Rattle.words.specs.Shared.{SameFixed, Alike, AlikeWords}
use Rattle.search.specs.Line.{Limits}
use Rattle.text.specs.Bytes.{number}
use Rattle.text.specs.Answer.{Answer, refused, accepted, field, values}
use Rattle.text.specs.JobText.{Passes}
use Rattle.text.specs.Rename.{rename_entry}
use Rattle.catalogue.specs.Catalogue.{PLACES, Entry, Catalogue, empty, held, kinds, left_by}
use Rattle.catalogue.specs.Calls.{Call, Stands, Sound}
use Rattle.catalogue.specs.Texts.{Key, raw, worded, key_name, Kind, same_kind, Text, put_text, withdraw_text, read_call, read_put, read_withdrawal, sent}
use Rattle.catalogue.specs.Stored.{COUNT, LENGTH, number_at, Stored, Holds, SentCall}

-- a buffer that a host has made: of the stated length, with zeros only
pub record Zeros (cat : List ℕ) : Type 0 where
  pub size : length cat ≡ LENGTH
  pub zero : (i : ℕ) → slice_index cat i ≡ 0

-- a list of calls that returned rs, each with the buffer that the one before it left
pub data Played : (cat : List ℕ) → List Text → (rs : List ℕ) → (cat' : List ℕ) → Type 0 where
  end : {cat : List ℕ} → Played cat [] [] cat
  call : {cat cat' cat'' : List ℕ} {t : Text} {ts : List Text} {r : ℕ} {rs : List ℕ} → SentCall t cat r cat' → Played cat' ts rs cat''
      → Played cat (t ∷ ts) (r ∷ rs) cat''

-- 100 plus the count of kinds then held, made afresh, or the refusal
abbrev pub returned_afresh : Answer (Catalogue Kind) → ℕ
returned_afresh (refused n) = n
returned_afresh (accepted c) = 100 + kinds same_kind (held c.places)

-- what the calls return, one after another
unfoldable pub all_returned : List Text → Catalogue Kind → List ℕ
unfolding sent
all_returned [] c = []
all_returned (t ∷ ts) c = returned_afresh (sent t c) ∷ all_returned ts (left_by c (sent t c))

-- the calls that were accepted, as the host sees it: of the texts whose number is 100 or more
unfoldable pub accepted_by : List Text → (rs : List ℕ) → List (Call Kind)
unfolding read_call
accepted_by [] rs = []
accepted_by (t ∷ ts) [] = []
accepted_by (t ∷ ts) (r ∷ rs) =
    elim (read_call t) [ refused n ↦ accepted_by ts rs | accepted x ↦ elim (nat_le 100 r) [ true ↦ x ∷ accepted_by ts rs | false ↦ accepted_by ts rs ] ]

-- after every list of calls from zeros
pub record Kept (ts : List Text) (rs cat' : List ℕ) : Type 0 where
  pub catalogue : Catalogue Kind
  pub holds : Holds cat' catalogue
  pub sound : Sound same_kind catalogue
  -- each returned 100 plus the count of kinds then held, or its refusal
  pub returns : rs ≡ all_returned ts empty
  -- the entries held are those accepted and not withdrawn since
  pub entries : (e : Entry Kind) → (e ∈ held catalogue.places) ↔ Stands e (accepted_by ts rs)
  -- each was put by one of the texts
  pub texts : (e : Entry Kind) → e ∈ held catalogue.places → (bs : List ℕ) × (put_text bs ∈ ts) × (read_put bs ≡ accepted e)
  -- and the kept count equals a count of their kinds made afresh
  pub count : slice_index_or cat' COUNT 0 ≡ kinds same_kind (held catalogue.places)

-- a withdrawn entry's place serves the next put: the number in place k is withdrawn, where no place before it is free, and the entry of
-- the put that follows, if it is accepted, stands in place k
abbrev pub Serves : Type 0
Serves = (cat cat₁ cat₂ : List ℕ) (c : Catalogue Kind) (k n r r' : ℕ) (bs ps : List ℕ) (e : Entry Kind) → Holds cat c → Sound same_kind c
    → k < PLACES → number_at cat k ≡ n → 0 < n → ((j : ℕ) → j < k → number_at cat j ≢ 0)
    → read_withdrawal bs ≡ accepted n → SentCall (withdraw_text bs) cat r cat₁
    → read_put ps ≡ accepted e → SentCall (put_text ps) cat₁ r' cat₂ → 100 ≤ r'
    → (100 ≤ r) × Stored cat₂ k e

-- the lines of RENAME's answer that a key goes by
abbrev pub lines_under : Key → List ℕ → List (List ℕ)
lines_under raw t = values "left=" t ++ values "right=" t
lines_under worded t = values "wleft=" t ++ values "wright=" t

-- a put's text, the entry that it puts, and what RENAME answers to the job in it
pub record PutOf (bs : List ℕ) (e : Entry Kind) (t : List ℕ) : Type 0 where
  pub job : List ℕ
  pub text : bs ≡ field "number=" (number e.number) ++ (field "key=" (key_name e.kind.key) ++ job)
  pub read : read_put bs ≡ accepted e
  pub room : ℕ
  pub renamed : rename_entry job room ≡ accepted t

-- two entries are of one kind exactly when key and RENAME's printed lines agree
abbrev pub OneKind : Type 0
OneKind = (bs cs : List ℕ) (e f : Entry Kind) (t u : List ℕ) → PutOf bs e t → PutOf cs f u
    → (e.kind ≡ f.kind) ↔ ((e.kind.key ≡ f.kind.key) × (lines_under e.kind.key t ≡ lines_under f.kind.key u))

-- a put of the equation of s and t, which passes 1 to 6
pub record PutFor (bs : List ℕ) (e : Entry Kind) (s t : Term) : Type 0 where
  pub job : List ℕ
  pub limits : Limits
  pub passes : Passes job s t limits
  pub text : bs ≡ field "number=" (number e.number) ++ (field "key=" (key_name e.kind.key) ++ job)
  pub read : read_put bs ≡ accepted e

-- by `key=raw`, a one-to-one renaming of v letters, with or without exchanging sides, turns one equation into the other; by `key=words`, the
-- words of the sides agree in each, or such a renaming turns the lists of words of the one into those of the other
abbrev pub AlikeBy : Key → (s t u v : Term) → Type 0
AlikeBy raw s t u v = Alike s t u v
AlikeBy worded s t u v =
    ((words s ≡ words t) × (words u ≡ words v)) ⊎ AlikeWords (words s) (words t) (words u) (words v)

-- what a shared kind means
abbrev pub SharedKind : Type 0
SharedKind = (bs cs : List ℕ) (e f : Entry Kind) (s t u v : Term) → PutFor bs e s t → PutFor cs f u v
    → (e.kind ≡ f.kind) ↔ ((e.kind.key ≡ f.kind.key) × AlikeBy e.kind.key s t u v)

-- the same c letters: by `key=raw` in the sides; by `key=words` in the words, or the words of the sides agree in each
abbrev pub SameFixedBy : Key → (s t u v : Term) → Type 0
SameFixedBy raw s t u v = SameFixed (letters s ++ letters t) (letters u ++ letters v)
SameFixedBy worded s t u v =
    ((words s ≡ words t) × (words u ≡ words v)) ⊎ SameFixed (flatten (words s) ++ flatten (words t)) (flatten (words u) ++ flatten (words v))

-- entries of one kind have the same c letters; that they stand at the same places is part of `SharedKind`
abbrev pub FixedKind : Type 0
FixedKind = (bs cs : List ℕ) (e f : Entry Kind) (s t u v : Term) → PutFor bs e s t → PutFor cs f u v
    → e.kind ≡ f.kind → SameFixedBy e.kind.key s t u v
