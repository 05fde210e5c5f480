-- What the functions over the places, and those that read the texts, promise.
use Rattle.std.specs.Prelude.{◌≡◌, ℕ, ◌+◌, ◌*◌, ◌<◌, ◌≤◌, Bool, T, ◌⊎◌, List, [], ◌∷◌, length, take, drop, ◌≢◌, slice_index, slice_index_or, Option, Some, None}
use Rattle.std.specs.declared.result.Result.{Result}
use Rattle.std.specs.declared.result.Result.TheVariants.{Ok, Err}
use Rattle.text.specs.Refusal as refusals
use Rattle.text.specs.declared.refusal.Refusal.{Refusal}
use Rattle.std.proofs.Math.Option.{none, some}
use Rattle.terms.specs.Held.{IsRun}
use Rattle.terms.specs.Theory.Reflects.{Reflects}
use Rattle.words.specs.Spelled.{SLOT}
use Rattle.words.specs.Multiply.{MOST}
use Rattle.words.specs.Candidate.{Sides}
use Rattle.search.specs.Runs.{Spells}
use Rattle.text.specs.Bytes.{Split}
use Rattle.text.specs.Layout.{keyed, Stated, limit_line}
use Rattle.text.specs.Answer.{refused, accepted}
use Rattle.text.specs.Job.{Job, Fit}
use Rattle.catalogue.specs.Catalogue.{PLACES, Entry, Catalogue, put, withdraw}
use Rattle.catalogue.specs.Calls.{Sound}
use Rattle.catalogue.specs.Texts.{raw, worded, read_key, Kind, same_kind, lines_by, in_catalogue, read_put, read_withdrawal}
use Rattle.catalogue.specs.Texts as texts
use Rattle.catalogue.specs.Stored.{ROOM, COUNT, key_number, Lines, number_at, KindAt, Holds, Elsewhere, Harmless, Step}
use Rattle.catalogue.specs.declared.kind.Key.{Key}
use Rattle.catalogue.specs.declared.kind.Key.TheVariants.{Raw, Words}
use Rattle.catalogue.specs.declared.read.Put.{Put}

-- the key that the program's stands for, and its number
abbrev pub key_of : Key → texts.Key
key_of Raw = raw
key_of Words = worded

abbrev pub number_of : Key → ℕ
number_of key = key_number (key_of key)

-- ---- the places

-- of `place_of`
abbrev pub Seeks : List ℕ → ℕ → Option ℕ → Type 0
Seeks cat n (Some k) = (k < PLACES) × (number_at cat k ≡ n) × ((j : ℕ) → j < k → number_at cat j ≢ n)
Seeks cat n None = (j : ℕ) → j < PLACES → number_at cat j ≢ n

-- a list stands from one position on, with its length at another
abbrev pub ListAt : List ℕ → (size from : ℕ) → List ℕ → Type 0
ListAt cat size from list = (slice_index cat size ≡ length list) × (take (length list) (drop from cat) ≡ list)

-- place k is another than `but`, if one is named, and has an entry of the kind
abbrev pub OtherOf : List ℕ → (but : Option ℕ) → (key : ℕ) → (left right : List ℕ) → ℕ → Type 0
OtherOf cat but key left right k = (Some k ≢ but) × (number_at cat k ≢ 0) × KindAt cat k key left right

-- a place other than `but` has an entry of the kind
abbrev pub AnotherOf : List ℕ → (but : Option ℕ) → (key : ℕ) → (left right : List ℕ) → Type 0
AnotherOf cat but key left right = (k : ℕ) × (k < PLACES) × OtherOf cat but key left right k

-- of `store_list`: numbers stay but for the length and the room of the list
pub record StoresList (cat : List ℕ) (size from : ℕ) (xs cat' : List ℕ) : Type 0 where
  pub length : length cat' ≡ length cat
  pub list : ListAt cat' size from xs
  pub others : (i : ℕ) → (i ≢ size) → (i < from) ⊎ (from + ROOM ≤ i) → slice_index cat' i ≡ slice_index cat i

-- of `store`
pub record Stores (cat : List ℕ) (k n key : ℕ) (left right cat' : List ℕ) : Type 0 where
  pub elsewhere : Elsewhere cat cat' k
  pub count : slice_index_or cat' COUNT 0 ≡ slice_index cat COUNT
  pub number : number_at cat' k ≡ n
  pub kind : KindAt cat' k key left right

-- ---- a put

-- of `put_at`: the kept count is one more where no place had the kind, as far as that fits a number
pub record PutsAt (cat : List ℕ) (k n key : ℕ) (left right : List ℕ) (r : ℕ) (cat' : List ℕ) : Type 0 where
  pub elsewhere : Elsewhere cat cat' k
  pub number : number_at cat' k ≡ n
  pub kind : KindAt cat' k key left right
  pub known : AnotherOf cat None key left right → slice_index cat' COUNT ≡ slice_index cat COUNT
  pub new : (AnotherOf cat None key left right → ⊥) → slice_index cat COUNT < 4294967295 → slice_index cat' COUNT ≡ slice_index cat COUNT + 1
  pub returns : r ≡ 100 + slice_index cat' COUNT

-- two lists stand for the lines bs of a key, and places have room for them
pub record Listed (key : texts.Key) (left right bs : List ℕ) : Type 0 where
  pub lines : Lines key left right bs
  pub left_room : length left ≤ ROOM
  pub right_room : length right ≤ ROOM

abbrev pub entry : ℕ → texts.Key → (lines : List ℕ) → Entry Kind
entry n key lines = record { number = n; kind = record { key = key; lines = lines } }

-- of `lists_of`: xs and ys are the runs of an equation's sides
pub record MakesLists (key : Key) (xs ys : List ℕ) (room : ℕ) (e : Sides) : Type 0 where
  pub exact : (j : Job) → IsRun xs j.left → IsRun ys j.right → Fit j.left j.right → SLOT * MOST ≤ room
      → Listed (key_of key) e.left e.right (lines_by (key_of key) j)

-- the entry of an equation is stored in place k by its lists
pub record StoresJob (cat : List ℕ) (k n : ℕ) (key : Key) (j : Job) (r : ℕ) (cat' : List ℕ) : Type 0 where
  pub left : List ℕ
  pub right : List ℕ
  pub listed : Listed (key_of key) left right (lines_by (key_of key) j)
  pub stored : PutsAt cat k n (number_of key) left right r cat'

-- of `put_lists`
pub record PutsLists (cat : List ℕ) (k n : ℕ) (key : Key) (xs ys : List ℕ) (r : ℕ) (cat' : List ℕ) : Type 0 where
  pub harmless : Harmless (13 ∷ 15 ∷ []) cat r cat'
  pub exact : (j : Job) → IsRun xs j.left → IsRun ys j.right → Fit j.left j.right → StoresJob cat k n key j r cat'

-- of `put_equation`
pub record PutsEquation (cat : List ℕ) (n : ℕ) (key : Key) (xs ys : List ℕ) (r : ℕ) (cat' : List ℕ) : Type 0 where
  pub harmless : Harmless (13 ∷ 15 ∷ []) cat r cat'
  pub step : (j : Job) → IsRun xs j.left → IsRun ys j.right → Fit j.left j.right → (c : Catalogue Kind) → Holds cat c
      → Sound same_kind c → Step c (put same_kind (entry n (key_of key) (lines_by (key_of key) j)) c) r cat'

-- ---- a withdrawal

-- of `is_shared`: whether another place has the kind that place k has
abbrev pub Shares : List ℕ → ℕ → Bool → Type 0
Shares cat k r = (key : ℕ) (left right : List ℕ) → KindAt cat k key left right → length left ≤ ROOM → length right ≤ ROOM
    → Reflects (AnotherOf cat (Some k) key left right) r

-- of `take_out`: the kept count is one less where no other place has the kind, as far as there is one
pub record TakesOut (cat : List ℕ) (k r : ℕ) (cat' : List ℕ) : Type 0 where
  pub elsewhere : Elsewhere cat cat' k
  pub free : number_at cat' k ≡ 0
  pub shared : (key : ℕ) (left right : List ℕ) → KindAt cat k key left right → length left ≤ ROOM → length right ≤ ROOM
      → AnotherOf cat (Some k) key left right → slice_index cat' COUNT ≡ slice_index cat COUNT
  pub last : (key : ℕ) (left right : List ℕ) → KindAt cat k key left right → length left ≤ ROOM → length right ≤ ROOM
      → (AnotherOf cat (Some k) key left right → ⊥) → 0 < slice_index cat COUNT → slice_index cat' COUNT + 1 ≡ slice_index cat COUNT
  pub returns : r ≡ 100 + slice_index cat' COUNT

-- of `withdraw_entry`
pub record WithdrawsEntry (cat : List ℕ) (n r : ℕ) (cat' : List ℕ) : Type 0 where
  pub harmless : Harmless (14 ∷ []) cat r cat'
  pub step : (c : Catalogue Kind) → Holds cat c → Sound same_kind c → Step c (withdraw same_kind n c) r cat'

-- ---- the texts

-- the first line has a number from 1 to 999, and the text goes on with `rest`
pub record NumberAt (s : List ℕ) (n : ℕ) (rest : List ℕ) : Type 0 where
  pub low : 1 ≤ n
  pub high : n ≤ 999
  pub line : limit_line "number=" s ≡ some (record { number = n; rest = rest })

-- or it has none
abbrev pub Unnumbered : List ℕ → Type 0
Unnumbered s = (m : Stated) → limit_line "number=" s ≡ some m → T (in_catalogue m.number) → ⊥

-- the first line has a key, and the text goes on with `rest`
pub record KeyAt (s : List ℕ) (key : Key) (rest : List ℕ) : Type 0 where
  pub value : List ℕ
  pub line : keyed "key=" s ≡ some (record { front = value; rest = rest })
  pub read : read_key value ≡ some (key_of key)

-- or it has none
abbrev pub Unkeyed : List ℕ → Type 0
Unkeyed s = (k : Split) → keyed "key=" s ≡ some k → read_key k.front ≡ none

-- a put was read: left has its run, and right has its run in slot 0
pub record TakesPut (bs : List ℕ) (p : Put) (rights : List ℕ) : Type 0 where
  pub job : Job
  pub fit : Fit job.left job.right
  pub low : 0 < p.number
  pub read : read_put bs ≡ accepted (entry p.number (key_of p.key) (lines_by (key_of p.key) job))
  pub left_run : IsRun p.left job.left
  pub right_run : Spells rights 0 job.right

-- of `read_put`
abbrev pub ReadsPut : List ℕ → Result Put Refusal → (rights : List ℕ) → Type 0
ReadsPut bs (Err e) rights = read_put bs ≡ refused (refusals.number_of e)
ReadsPut bs (Ok p) rights = TakesPut bs p rights

-- of `read_withdrawal`
abbrev pub ReadsWithdrawal : List ℕ → Result ℕ Refusal → Type 0
ReadsWithdrawal bs (Ok n) = (0 < n) × (read_withdrawal bs ≡ accepted n)
ReadsWithdrawal bs (Err e) = read_withdrawal bs ≡ refused (refusals.number_of e)
