-- Printed lines tell what was printed: two lines with their keys, the text of a term, and that of a list of words.
use Rattle.std.specs.Prelude.{ℕ, ◌-◌, ◌≤◌, ◌<◌, ◌≡◌, refl}
use Prim.Native.Char.{code}
use Prim.Native.String.{String}
use Rattle.std.proofs.Common.{arith, sym, ap, ap₂, ◌∙◌, ⊎_elim}
use Rattle.std.proofs.Math.Option.{Option, none, some}
use mathlib.Core.List.{List, [], ◌∷◌, ◌++◌, map, cons-ne-nil}
use Rattle.terms.specs.Lists.{◌∈◌, here, there, not-in-nil, only_one, cons-cases, append_cases, of_map}
use Rattle.terms.specs.Equation.{Equation}
use Rattle.terms.specs.Term.{Term}
use Rattle.terms.specs.Letters.{FIXED}
use Rattle.words.specs.Words.{Word}
use Rattle.text.specs.Bytes.{ascii, number, read_number, Split, parted, pieces}
use Rattle.text.specs.TermText.{Readable, write_letter, write_term, read_term}
use Rattle.text.specs.Layout.{keyed}
use Rattle.text.specs.Answer.{field}
use Rattle.text.specs.Words.{word, word_list}
use Rattle.text.specs.Rename.{term_lines, word_lines}
use Rattle.text.specs.Theory.AtLeast.{Printable, higher, free, tested, parted_least}
use Rattle.text.specs.Theory.Numbers.{number_most, read_number_number}
use Rattle.text.specs.Theory.Pieces.{pieces_parted}
use Rattle.text.specs.Theory.TermText.{letter_cases, letter_least, read_write, write_term_least}
use Rattle.text.specs.Theory.Keyed.{keyed_field}

-- two lines tell their values

abbrev front_of : Option Split → List ℕ
front_of none = []
front_of (some c) = c.front

abbrev rest_of : Option Split → List ℕ
rest_of none = []
rest_of (some c) = c.rest

pub record Values (u v w x : List ℕ) : Type 0 where
  pub first : Printable u
  pub second : Printable v
  pub third : Printable w
  pub fourth : Printable x

pub fields_apart : (k l : String) {u v w x : List ℕ} → Values u v w x → field k u ++ field l v ≡ field k w ++ field l x → (u ≡ w) × (v ≡ x)
fields_apart k l {u} {v} {w} {x} P e =
    let p = sym (keyed_field k u (field l v) P.first) ∙ ap (keyed k) e ∙ keyed_field k w (field l x) P.third in
    let q : field l v ≡ field l x = ap rest_of p in
    let r = sym (keyed_field l v [] P.second) ∙ ap (λ bs. keyed l (bs ++ [])) q ∙ keyed_field l x [] P.fourth in
    (ap front_of p, ap front_of r)

-- terms

pub term_apart : {s t : Term} → Readable s → Readable t → write_term s ≡ write_term t → s ≡ t
term_apart {s} {t} h g e = let p = sym (read_write s h) ∙ ap read_term e ∙ read_write t g in cc

pub term_lines_apart : (d e : Equation Term) → Readable d.left → Readable d.right → Readable e.left → Readable e.right
    → term_lines d ≡ term_lines e → (d.left ≡ e.left) × (d.right ≡ e.right)
unfolding term_lines
term_lines_apart d e dl dr el er p =
    let (l, r) = fields_apart "left=" "right=" (record {
      first = write_term_least d.left;
      second = write_term_least d.right;
      third = write_term_least e.left;
      fourth = write_term_least e.right;
    }) p in
    (term_apart dl el l, term_apart dr er r)

-- letters: none has a space or the byte that parts words

pub number_apart : (m n : ℕ) → number m ≡ number n → m ≡ n
number_apart m n e = let r = sym (read_number_number m) ∙ ap read_number e ∙ read_number_number n in cc

signs_apart : {a b : ℕ} {p q : List ℕ} → (a ≡ b → ⊥) → a ∷ p ≡ b ∷ q → ⊥
signs_apart {a} {b} h e = let z : a ≡ b = cc in h z

behind_sign : {a : ℕ} (m n : ℕ) → a ∷ number m ≡ a ∷ number n → m ≡ n
behind_sign m n e = let p : number m ≡ number n = cc in number_apart m n p

letter_apart : (m n : ℕ) → write_letter m ≡ write_letter n → m ≡ n
letter_apart m n e =
    letter_cases m
    (λ _ p. letter_cases n (λ _ q. behind_sign m n (sym p ∙ e ∙ q)) (λ _ q. absurd (signs_apart (λ z. omega arith) (sym p ∙ e ∙ q))))
    (λ h p. letter_cases n (λ _ q. absurd (signs_apart (λ z. omega arith) (sym p ∙ e ∙ q)))
    (λ k q. omega (arith, behind_sign (m - FIXED) (n - FIXED) (sym p ∙ e ∙ q))))

-- no byte of a text is the one that parts words
abbrev Unmarked : List ℕ → Type 0
Unmarked p = (b : ℕ) → b ∈ p → b ≡ code ";" → ⊥

letter_unmarked : (n : ℕ) → Unmarked (write_letter n)
letter_unmarked n b i e =
    letter_cases n
    (λ _ d. ⊎_elim (λ p. omega arith) (λ j. omega (arith, number_most n b j)) (cons-cases (rw d at i)))
    (λ _ d. ⊎_elim (λ p. omega arith) (λ j. omega (arith, number_most (n - FIXED) b j)) (cons-cases (rw d at i)))

-- lists of texts

map_apart : {A : Type 0} (f : A → List ℕ) → ((x y : A) → f x ≡ f y → x ≡ y) → (xs ys : List A) → map f xs ≡ map f ys → xs ≡ ys
map_apart f h [] [] e = refl
map_apart f h [] (y ∷ ys) e = absurd (cons-ne-nil (f y) (map f ys) (sym e))
map_apart f h (x ∷ xs) [] e = absurd (cons-ne-nil (f x) (map f xs) e)
map_apart f h (x ∷ xs) (y ∷ ys) e =
    let p : f x ≡ f y = cc in
    let q : map f xs ≡ map f ys = cc in
    ap₂ ◌∷◌ (h x y p) (map_apart f h xs ys q)

-- what holds of each text holds of those listed
each_mapped : {A : Type 0} (P : List ℕ → Type 0) (f : A → List ℕ) → ((x : A) → P (f x)) → (xs : List A) (q : List ℕ) → q ∈ map f xs → P q
each_mapped P f h xs q m = let (x, _, e) = of_map f xs m in rw e at (h x)

parted_unmarked : (s : ℕ) → (s ≡ code ";" → ⊥) → (ps : List (List ℕ)) → ((p : List ℕ) → p ∈ ps → Unmarked p) → Unmarked (parted s ps)
unfolding parted
parted_unmarked s h [] f b i = absurd (not-in-nil i)
parted_unmarked s h (p ∷ []) f b i = f p (here refl) b i
parted_unmarked s h (p ∷ q ∷ qs) f b i =
    ⊎_elim (f p (here refl) b) (λ j. ⊎_elim (λ e. rw e h) (parted_unmarked s h (q ∷ qs) (λ r m. f r (there m)) b) (cons-cases j)) (append_cases p i)

-- words

word_pieces : (n : ℕ) (ns : Word) → pieces (code " ") (word (n ∷ ns)) ≡ map write_letter (n ∷ ns)
unfolding word
word_pieces n ns =
    pieces_parted (code " ") (write_letter n) (map write_letter ns)
    (each_mapped (λ q. code " " ∈ q → ⊥) write_letter (λ m. free (omega arith) (letter_least m)) (n ∷ ns))

-- the first byte of a letter, and of a word's text with one, is above `1`
letter_first : (n : ℕ) → (b : ℕ) × (bs : List ℕ) × (write_letter n ≡ b ∷ bs) × (code "1" < b)
letter_first n =
    letter_cases n (λ _ e. (code "v", number n, e, omega arith)) (λ _ e. (code "c", number (n - FIXED), e, omega arith))

letters_first : (n : ℕ) (ns : Word) → (b : ℕ) × (bs : List ℕ) × (word (n ∷ ns) ≡ b ∷ bs) × (code "1" < b)
unfolding word parted
letters_first n [] = letter_first n
letters_first n (m ∷ ns) =
    let (b, bs, e, h) = letter_first n in
    let more = code " " ∷ parted (code " ") (write_letter m ∷ map write_letter ns) in
    (b, bs ++ more, ap (λ l. l ++ more) e, h)

-- and of any word above `0`
word_first : (w : Word) → (b : ℕ) × (bs : List ℕ) × (word w ≡ b ∷ bs) × (code "0" < b)
unfolding word ascii
word_first [] = (code "1", [], refl, omega arith)
word_first (n ∷ ns) = let (b, bs, e, h) = letters_first n ns in (b, bs, e, omega arith)

one_apart : (n : ℕ) (ns : Word) → word [] ≡ word (n ∷ ns) → ⊥
unfolding word ascii
one_apart n ns e = let (b, bs, f, h) = letters_first n ns in signs_apart (λ z. omega arith) (e ∙ f)

pub word_apart : (u v : Word) → word u ≡ word v → u ≡ v
word_apart [] [] e = refl
word_apart [] (n ∷ v) e = absurd (one_apart n v e)
word_apart (m ∷ u) [] e = absurd (one_apart m u (sym e))
word_apart (m ∷ u) (n ∷ v) e = map_apart write_letter letter_apart (m ∷ u) (n ∷ v) (sym (word_pieces m u) ∙ ap (pieces (code " ")) e ∙ word_pieces n v)

word_unmarked : (w : Word) → Unmarked (word w)
unfolding word ascii
word_unmarked [] = λ b i e. omega (arith, only_one i)
word_unmarked (n ∷ ns) = parted_unmarked (code " ") (λ e. omega arith) (map write_letter (n ∷ ns)) (each_mapped Unmarked write_letter letter_unmarked (n ∷ ns))

pub word_least : (w : Word) → Printable (word w)
unfolding word ascii
word_least [] = tested _ _ tt
word_least (n ∷ ns) =
    parted_least (code " ") (code " ") (omega arith) (map write_letter (n ∷ ns))
    (each_mapped Printable write_letter (λ m. higher (omega arith) (letter_least m)) (n ∷ ns))

-- lists of words

pub list_pieces : (w : Word) (ws : List Word) → pieces (code ";") (word_list (w ∷ ws)) ≡ map word (w ∷ ws)
unfolding word_list
list_pieces w ws =
    pieces_parted (code ";") (word w) (map word ws) (each_mapped (λ q. code ";" ∈ q → ⊥) word (λ v i. word_unmarked v (code ";") i refl) (w ∷ ws))

some_first : (w : Word) (ws : List Word) → (b : ℕ) × (bs : List ℕ) × (word_list (w ∷ ws) ≡ b ∷ bs) × (code "0" < b)
unfolding word_list parted
some_first w [] = word_first w
some_first w (v ∷ vs) =
    let (b, bs, e, h) = word_first w in
    let more = code ";" ∷ parted (code ";") (word v ∷ map word vs) in
    (b, bs ++ more, ap (λ l. l ++ more) e, h)

-- the first byte of a list's text
list_first : (ws : List Word) → (b : ℕ) × (bs : List ℕ) × (word_list ws ≡ b ∷ bs) × (code "0" ≤ b)
unfolding word_list ascii
list_first [] = (code "0", [], refl, omega arith)
list_first (w ∷ ws) = let (b, bs, e, h) = some_first w ws in (b, bs, e, omega arith)

pub none_apart : (w : Word) (ws : List Word) → word_list [] ≡ word_list (w ∷ ws) → ⊥
unfolding word_list ascii
none_apart w ws e =
    let (b, bs, f, h) = some_first w ws in
    let g = e ∙ f in
    let z : code "0" ≡ b = cc in
    omega arith

pub list_apart : (us vs : List Word) → word_list us ≡ word_list vs → us ≡ vs
list_apart [] [] e = refl
list_apart [] (v ∷ vs) e = absurd (none_apart v vs e)
list_apart (u ∷ us) [] e = absurd (none_apart u us (sym e))
list_apart (u ∷ us) (v ∷ vs) e = map_apart word word_apart (u ∷ us) (v ∷ vs) (sym (list_pieces u us) ∙ ap (pieces (code ";")) e ∙ list_pieces v vs)

-- `-` is the text of no list
pub dash_apart : (ws : List Word) → word_list ws ≡ ascii "-" → ⊥
unfolding ascii
dash_apart ws e =
    let (b, bs, f, h) = list_first ws in
    let g = sym f ∙ e in
    let z : b ≡ code "-" = cc in
    omega arith

pub list_least : (ws : List Word) → Printable (word_list ws)
unfolding word_list ascii
list_least [] = tested _ _ tt
list_least (w ∷ ws) = parted_least (code " ") (code ";") (omega arith) (map word (w ∷ ws)) (each_mapped Printable word word_least (w ∷ ws))

pub dash_least : Printable (ascii "-")
unfolding ascii
dash_least = tested _ _ tt

-- the lines of word lists

pub word_lines_apart : (us vs ws xs : List Word) → word_lines (word_list us) (word_list vs) ≡ word_lines (word_list ws) (word_list xs) → (us ≡ ws) × (vs ≡ xs)
unfolding word_lines
word_lines_apart us vs ws xs e =
    let (l, r) = fields_apart "wleft=" "wright=" (record { first = list_least us; second = list_least vs; third = list_least ws; fourth = list_least xs }) e in
    (list_apart us ws l, list_apart vs xs r)

pub dash_lines_apart : (us vs : List Word) → word_lines (word_list us) (word_list vs) ≡ word_lines (ascii "-") (ascii "-") → ⊥
unfolding word_lines
dash_lines_apart us vs e =
    let (l, r) = fields_apart "wleft=" "wright=" (record { first = list_least us; second = list_least vs; third = dash_least; fourth = dash_least }) e in
    dash_apart us l
