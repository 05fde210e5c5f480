-- The catalogue in 32-bit numbers: 64 places of 5,408 numbers, and behind them the kept count. Of a place, number 0 is the entry's number,
-- 0 where the place is free; 1 is its key, 2 and 3 are the lengths of two lists of numbers, 4 to 7 are 0, for later rules, and the lists
-- stand from 8 and from 2,708 on. So all zeros are an empty catalogue.
use Rattle.std.specs.Prelude.{◌≡◌, ℕ, ◌+◌, ◌*◌, ◌<◌, ◌≤◌, ◌⊎◌, List, [], ◌∷◌, ◌++◌, length, get_or, take, drop, ◌≢◌, slice_index, slice_index_or}
use Rattle.std.proofs.Math.Option.{Option, none, some}
use Rattle.terms.specs.Lists.{◌∈◌}
use Rattle.terms.specs.Equation.{Equation}
use Rattle.terms.specs.Term.{Term}
use Rattle.terms.specs.Held.{IsRun}
use Rattle.words.specs.Words.{Word}
use Rattle.words.specs.Spelled.{spelled}
use Rattle.text.specs.Bytes.{ascii}
use Rattle.text.specs.TermText.{Readable}
use Rattle.text.specs.Answer.{Answer, refused, accepted}
use Rattle.text.specs.Rename.{term_lines, word_lines}
use Rattle.text.specs.Words.{word_list}
use Rattle.text.specs.Claims.{job_numbers}
use Rattle.catalogue.specs.Catalogue.{PLACES, Entry, Catalogue, returned, left_by}
use Rattle.catalogue.specs.Calls.{Call, Sound}
use Rattle.catalogue.specs.Texts.{Key, raw, worded, Kind, same_kind, Text, put_text, withdraw_text, read_call, sent}

-- room for a list: the words of a side of 31 nodes, each letter plus 1, and 0 behind each word, take no more
abbrev pub ROOM : ℕ
ROOM = 2700

abbrev pub PLACE : ℕ
PLACE = 5408

-- where the kept count stands
abbrev pub COUNT : ℕ
COUNT = PLACES * PLACE

-- the buffer's length
abbrev pub LENGTH : ℕ
LENGTH = COUNT + 1

abbrev pub key_number : Key → ℕ
key_number raw = 0
key_number worded = 1

-- two lists of numbers stand for the lines of a raw key: the runs of both sides
pub record RawLines (left right lines : List ℕ) : Type 0 where
  pub equation : Equation Term
  pub left_run : IsRun left equation.left
  pub right_run : IsRun right equation.right
  pub left_readable : Readable equation.left
  pub right_readable : Readable equation.right
  pub is : lines ≡ term_lines equation

-- for the lines of a word key: no numbers where the words agree, otherwise both lists spelled, which are not both empty
pub record AgreedLines (left right lines : List ℕ) : Type 0 where
  pub left_none : left ≡ []
  pub right_none : right ≡ []
  pub is : lines ≡ word_lines (ascii "-") (ascii "-")

pub record DifferentLines (left right lines : List ℕ) : Type 0 where
  pub first : List Word
  pub second : List Word
  pub left_spelled : left ≡ spelled first
  pub right_spelled : right ≡ spelled second
  pub some : first ≡ [] → second ≢ []
  pub is : lines ≡ word_lines (word_list first) (word_list second)

abbrev pub Lines : Key → (left right lines : List ℕ) → Type 0
Lines raw left right lines = RawLines left right lines
Lines worded left right lines = AgreedLines left right lines ⊎ DifferentLines left right lines

-- the number in place k
abbrev pub number_at : List ℕ → ℕ → ℕ
number_at cat k = slice_index cat (PLACE * k)

-- place k has the key with number n, and these lists
pub record KindAt (cat : List ℕ) (k n : ℕ) (left right : List ℕ) : Type 0 where
  pub key : get_or cat (PLACE * k + 1) 0 ≡ n
  pub left_size : get_or cat (PLACE * k + 2) 0 ≡ length left
  pub right_size : get_or cat (PLACE * k + 3) 0 ≡ length right
  pub left_numbers : take (length left) (drop (PLACE * k + 8) cat) ≡ left
  pub right_numbers : take (length right) (drop (PLACE * k + 2708) cat) ≡ right

-- place k has the entry
pub record Stored (cat : List ℕ) (k : ℕ) (e : Entry Kind) : Type 0 where
  pub number : number_at cat k ≡ e.number
  pub listed : 1 ≤ e.number
  pub left : List ℕ
  pub right : List ℕ
  pub left_room : length left ≤ ROOM
  pub right_room : length right ≤ ROOM
  pub kind : KindAt cat k (key_number e.kind.key) left right
  pub lines : Lines e.kind.key left right e.kind.lines

-- place k is free, or has the entry
abbrev pub At : List ℕ → ℕ → Option (Entry Kind) → Type 0
At cat k none = number_at cat k ≡ 0
At cat k (some e) = Stored cat k e

-- the numbers are those of the catalogue
pub record Holds (cat : List ℕ) (c : Catalogue Kind) : Type 0 where
  pub size : length cat ≡ LENGTH
  pub count : length c.places ≡ PLACES
  pub places : (k : ℕ) → k < PLACES → At cat k (slice_index_or c.places k none)
  pub spare : (k : ℕ) → k < PLACES → (i : ℕ) → 4 ≤ i → i < 8 → slice_index cat (PLACE * k + i) ≡ 0
  pub kept : get_or cat COUNT 0 ≡ c.kept

-- the numbers of all places but k stay, and of place k those for later rules
pub record Elsewhere (cat cat' : List ℕ) (k : ℕ) : Type 0 where
  pub size : length cat' ≡ length cat
  pub before : (i : ℕ) → i < PLACE * k → slice_index cat' i ≡ slice_index cat i
  pub behind : (i : ℕ) → PLACE * k + PLACE ≤ i → i < COUNT → slice_index cat' i ≡ slice_index cat i
  pub spare : (i : ℕ) → 4 ≤ i → i < 8 → slice_index cat' (PLACE * k + i) ≡ slice_index cat (PLACE * k + i)

-- the numbers of the refusals: of a text that is not read, and of one that is
abbrev pub read_numbers : Text → List ℕ
read_numbers (put_text bs) = job_numbers
read_numbers (withdraw_text bs) = 1 ∷ []

abbrev pub late_numbers : Text → List ℕ
late_numbers (put_text bs) = 13 ∷ 15 ∷ []
late_numbers (withdraw_text bs) = 14 ∷ []

-- all of them, in the order in which they are looked at
abbrev pub call_numbers : Text → List ℕ
call_numbers t = 99 ∷ (read_numbers t ++ late_numbers t)

-- of a call that returned r, with one of these numbers if it was refused, whatever the buffer held
pub record Harmless (ns cat : List ℕ) (r : ℕ) (cat' : List ℕ) : Type 0 where
  -- a refused call leaves the catalogue unchanged, to the last number
  pub untouched : r < 100 → cat' ≡ cat
  pub numbered : r < 100 → r ∈ ns
  -- an accepted one returns 100 plus the kept count
  pub returns : 100 ≤ r → r ≡ 100 + slice_index cat' COUNT
  -- and writes to one place and to the kept count alone
  pub elsewhere : (k : ℕ) × (k < PLACES) × Elsewhere cat cat' k

-- a call that is a step of the catalogue c
pub record Step (c : Catalogue Kind) (answer : Answer (Catalogue Kind)) (r : ℕ) (cat' : List ℕ) : Type 0 where
  pub number : r ≡ returned answer
  pub after : Holds cat' (left_by c answer)

-- a call of PUT or WITHDRAW: the numbers before and after it, and its number r
pub record SentCall (t : Text) (cat : List ℕ) (r : ℕ) (cat' : List ℕ) : Type 0 where
  -- on a catalogue as it should be
  pub step : (c : Catalogue Kind) → Holds cat c → Sound same_kind c → Step c (sent t c) r cat'
  pub harmless : Harmless (call_numbers t) cat r cat'
  -- whatever the buffer held: a text that is refused by 1 to 6, or a withdrawal's by 1, is refused so
  pub text : (n : ℕ) → length cat ≡ LENGTH → read_call t ≡ refused n → r ≡ n
  -- and one that is read is refused by later numbers only
  pub late : (x : Call Kind) → length cat ≡ LENGTH → read_call t ≡ accepted x → r < 100 → r ∈ late_numbers t
  -- a buffer of another length is answered by 99
  pub other : (length cat ≢ LENGTH) → r ≡ 99
