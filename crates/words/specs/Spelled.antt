-- Words as numbers: in slots while they are multiplied out and sorted, and a whole list as one run.
use Rattle.std.specs.Prelude.{ℕ, suc, ◌+◌, ◌*◌, List, [], ◌∷◌, ◌++◌, map, take, drop, slice_index, nat_eq}
use Rattle.std.specs.List.{count_by}
use mathlib.Core.List.{flat_map}
use Rattle.words.specs.Words.{Word}
use Rattle.words.specs.Rename.{count_from}

-- a word: each letter plus 1, then 0, so that a shorter prefix comes first
abbrev pub spelled_word : Word → List ℕ
spelled_word w = map suc w ++ (0 ∷ [])

-- a list of words, one after the other: such runs are ordered as the lists are
unfoldable pub spelled : List Word → List ℕ
unfolding flat_map
spelled = flat_map spelled_word

-- how many words end in a part of such a run
abbrev pub ends : List ℕ → ℕ
ends = count_by (λ x. nat_eq x 0)

-- a slot is 17 numbers: a word's length, then room for 16 letters
abbrev pub SLOT : ℕ
SLOT = 17

-- the word in slot k
unfoldable pub word_at : List ℕ → ℕ → Word
word_at ws k = take (slice_index ws (SLOT * k)) (drop (SLOT * k + 1) ws)

-- the words in the slots that a list names
abbrev pub words_at : List ℕ → List ℕ → List Word
words_at ws ks = map (word_at ws) ks

-- the words in the first n slots
abbrev pub words_in : List ℕ → ℕ → List Word
words_in ws n = words_at ws (count_from n 0)
