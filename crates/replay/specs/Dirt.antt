-- What dirty buffers hold before a call, and what is due of the output after it.
use Rattle.std.specs.Prelude.{ℕ, zero, suc, ◌+◌, ◌%◌, ◌^◌, List, [], ◌∷◌, ◌++◌, length, take, drop}

-- n numbers: the first, and each the one that follows the one before it
unfoldable pub dirt : {A : Type 0} (following : A → A) (first : A) (n : ℕ) → List A
dirt following x zero = []
dirt following x (suc n) = x ∷ dirt following (following x) n

-- the dirt of an output
abbrev pub bytes : (first n : ℕ) → List ℕ
bytes first n = dirt (λ x. (x + 37) % 2 ^ 8) first n

-- the dirt of a workspace
abbrev pub numbers : (first n : ℕ) → List ℕ
numbers first n = dirt (λ x. (x + 2654435769) % 2 ^ 32) first n

-- one list written over the front of another, which keeps its length
abbrev pub over : List ℕ → List ℕ → List ℕ
over xs ys = take (length ys) xs ++ drop (length xs) ys

-- an output of n bytes after a call: the text, and behind it the dirt that was there
abbrev pub due : (text : List ℕ) (first n : ℕ) → List ℕ
due text first n = text ++ drop (length text) (bytes first n)
