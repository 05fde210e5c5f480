-- A term that was read has letters that a job may have, so that it reads back as it is printed, and was written as it is printed.
use Rattle.std.specs.Prelude.{ℕ, ◌+◌, ◌-◌, ◌≤◌, ◌≡◌, refl, Bool, true, false, eqb, leb}
use Prim.Native.Char.{code}
use Rattle.std.proofs.Common.{arith, sym, ◌∙◌, ap, ⊎_elim}
use Rattle.std.proofs.Math.Option.{Option, none, some}
use mathlib.Core.List.{List, [], ◌∷◌, ◌++◌, flat_map, append_assoc, append-nil}
use Rattle.terms.specs.Lists.{◌∈◌, here, there, not-in-nil, only_one, cons-cases}
use Rattle.terms.specs.Term.{Term, letter, zero, one, add, mul}
use Rattle.terms.specs.Letters.{letters, FIXED}
use Rattle.terms.specs.Build.{Token, atom, plus, times, operate, push, next, build, single, read}
use Rattle.terms.specs.Theory.Reflects.{Reflects, eqb_reflects, leb_reflects}
use Rattle.search.specs.Theory.Binary.{Binary, add_binary, mul_binary}
use Rattle.text.specs.Bytes.{ascii, number, read_number, parted, pieces}
use Rattle.text.specs.TermText.{Readable, write_letter, items, write_term, letter_of, v_letter, c_letter, sign, token, read_term}
use Rattle.text.specs.Theory.Numbers.{read_number_only}
use Rattle.text.specs.Theory.TermText.{write_v, write_c}
use Rattle.text.specs.Theory.Pieces.{parted_pieces}

abbrev pub If_some : {A : Type 0} → (A → Type 0) → Option A → Type 0
If_some P none = Unit {0}
If_some P (some x) = P x

-- the item is written as what it stands for is printed
abbrev Item : List ℕ → Token → Type 0
Item p (atom t) = Readable t × (items t ≡ p ∷ [])
Item p plus = p ≡ ascii "+"
Item p times = p ≡ ascii "*"

-- a letter is written with its sign and its number
letter_item : (sign first most : ℕ) → ((n : ℕ) → n ≤ most → (first + n ≤ 1099) × (write_letter (first + n) ≡ sign ∷ number n)) → (bs : List ℕ)
    → If_some (Item (sign ∷ bs)) (letter_of first most (read_number bs))
unfolding letter_of letters items
letter_item sign first most write bs = go (read_number bs) refl
  where
    small : (n : ℕ) → read_number bs ≡ some n → (b : Bool) → Reflects (n ≤ most) b
        → If_some (Item (sign ∷ bs)) (elim b [ true ↦ some (atom (letter (first + n))) | false ↦ none ])
    small n e true h =
        let (low, w) = write n h in
        (λ m i. omega (arith, only_one i), ap (λ l. l ∷ []) (w ∙ ap (λ l. sign ∷ l) (sym (read_number_only bs e))))
    small n e false h = tt

    go : (o : Option ℕ) → read_number bs ≡ o → If_some (Item (sign ∷ bs)) (letter_of first most o)
    go none e = tt
    go (some n) e = small n e (leb n most) (leb_reflects n most)

v_item : (bs : List ℕ) → If_some (Item (code "v" ∷ bs)) (v_letter (read_number bs))
v_item = letter_item (code "v") 0 999 (λ n h. let same : 0 + n ≡ n = omega arith in (omega arith, ap write_letter same ∙ write_v n (omega arith)))

c_item : (bs : List ℕ) → If_some (Item (code "c" ∷ bs)) (c_letter (read_number bs))
c_item =
    letter_item (code "c") FIXED 99
    (λ n h. let back : FIXED + n - FIXED ≡ n = omega arith in (omega arith, write_c (FIXED + n) (omega arith) ∙ ap (λ m. code "c" ∷ number m) back))

sign_item : (b : ℕ) → If_some (Item (b ∷ [])) (sign b)
unfolding sign letters items ascii
sign_item b =
    go (eqb b (code "+")) (eqb_reflects b (code "+")) (eqb b (code "*")) (eqb_reflects b (code "*")) (eqb b (code "0")) (eqb_reflects b (code "0"))
    (eqb b (code "1")) (eqb_reflects b (code "1"))
  where
    go : (p : Bool) → Reflects (b ≡ code "+") p → (q : Bool) → Reflects (b ≡ code "*") q → (r : Bool) → Reflects (b ≡ code "0") r
        → (s : Bool) → Reflects (b ≡ code "1") s
        → If_some (Item (b ∷ [])) (elim p [ true ↦ some plus | false ↦ elim q [ true ↦ some times | false ↦ elim r [ true ↦ some (atom zero) | false ↦ elim s [ true ↦ some (atom one) | false ↦ none ] ] ] ])
    go true e q f r g s h = rw e
    go false e true f r g s h = rw f
    go false e false f true g s h = (λ n i. absurd (not-in-nil i), rw g)
    go false e false f false g true h = (λ n i. absurd (not-in-nil i), rw h)
    go false e false f false g false h = tt

token_item : (p : List ℕ) → If_some (Item p) (token p)
unfolding token
token_item [] = tt
token_item (b ∷ []) = sign_item b
token_item (b ∷ c ∷ cs) = go (eqb b (code "v")) (eqb_reflects b (code "v")) (eqb b (code "c")) (eqb_reflects b (code "c"))
  where
    go : (p : Bool) → Reflects (b ≡ code "v") p → (q : Bool) → Reflects (b ≡ code "c") q
        → If_some (Item (b ∷ c ∷ cs)) (elim p [
          | true ↦ v_letter (read_number (c ∷ cs))
          | false ↦ elim q [ true ↦ c_letter (read_number (c ∷ cs)) | false ↦ none ]
        ])
    go true e q f = rw e (v_item (c ∷ cs))
    go false e true f = rw f (c_item (c ∷ cs))
    go false e false f = tt

-- the items are those of the terms, one after the other
record Spelled (ps : List (List ℕ)) (ts : List Term) : Type 0 where
  readable : (t : Term) → t ∈ ts → Readable t
  whole : ps ≡ flat_map items ts

atom_spelled : (p : List ℕ) (t : Term) → Item p (atom t) → (ps : List (List ℕ)) (ts : List Term) → Spelled ps ts → Spelled (p ∷ ps) (t ∷ ts)
unfolding flat_map
atom_spelled p t (readable, item) ps ts s =
    record { readable = λ u i. ⊎_elim (λ e. rw e readable) (s.readable u) (cons-cases i); whole = rw (item, ← s.whole) }

operate_spelled : (p : List ℕ) (f : Term → Term → Term) → Binary f → ((s t : Term) → items (f s t) ≡ p ∷ (items s ++ items t))
    → (ps : List (List ℕ)) (ts : List Term) → Spelled ps ts → If_some (Spelled (p ∷ ps)) (operate f ts)
unfolding operate flat_map
operate_spelled p f F write ps [] s = tt
operate_spelled p f F write ps (t ∷ []) s = tt
operate_spelled p f F write ps (t ∷ u ∷ ts) s =
    record {
      readable = λ v i. ⊎_elim (λ e. rw e binary) (λ j. s.readable v (there (there j))) (cons-cases i);
      whole = rw (write t u) (ap (λ l. p ∷ l) (s.whole ∙ sym (append_assoc (items t) (items u) (flat_map items ts))));
    }
  where
    binary : Readable (f t u)
    binary n i = ⊎_elim (s.readable t (here refl) n) (s.readable u (there (here refl)) n) ((F.letter n t u).0 i)

push_spelled : (p : List ℕ) (k : Token) → Item p k → (ps : List (List ℕ)) (ts : List Term) → Spelled ps ts → If_some (Spelled (p ∷ ps)) (push k ts)
unfolding push items
push_spelled p (atom t) item ps ts s = atom_spelled p t item ps ts s
push_spelled p plus item ps ts s = operate_spelled p add add_binary (λ t u. ap (λ q. q ∷ (items t ++ items u)) (sym item)) ps ts s
push_spelled p times item ps ts s = operate_spelled p mul mul_binary (λ t u. ap (λ q. q ∷ (items t ++ items u)) (sym item)) ps ts s

next_spelled : (p : List ℕ) (k : Option Token) → If_some (Item p) k → (ps : List (List ℕ)) (o : Option (List Term)) → If_some (Spelled ps) o
    → If_some (Spelled (p ∷ ps)) (next k o)
unfolding next
next_spelled p none item ps o h = tt
next_spelled p (some k) item ps none h = tt
next_spelled p (some k) item ps (some ts) h = push_spelled p k item ps ts h

build_spelled : (ps : List (List ℕ)) → If_some (Spelled ps) (build token ps)
unfolding build flat_map
build_spelled [] = record { readable = λ t i. absurd (not-in-nil i); whole = refl }
build_spelled (p ∷ ps) = next_spelled p (token p) (token_item p) ps (build token ps) (build_spelled ps)

-- the items are those of the term
abbrev pub Spells : List (List ℕ) → Term → Type 0
Spells ps t = Readable t × (ps ≡ items t)

single_spells : (ps : List (List ℕ)) (o : Option (List Term)) → If_some (Spelled ps) o → If_some (Spells ps) (single o)
unfolding single flat_map
single_spells ps none h = tt
single_spells ps (some []) h = tt
single_spells ps (some (t ∷ [])) h = (h.readable t (here refl), h.whole ∙ append-nil (items t))
single_spells ps (some (t ∷ u ∷ ts)) h = tt

pub read_spells : (ps : List (List ℕ)) → If_some (Spells ps) (read token ps)
unfolding read
read_spells ps = single_spells ps (build token ps) (build_spelled ps)

-- the text is that of the term
abbrev pub Writes : List ℕ → Term → Type 0
Writes bs t = Readable t × (bs ≡ write_term t)

pub read_writes : (bs : List ℕ) → If_some (Writes bs) (read_term bs)
unfolding read_term write_term
read_writes bs = go (read token (pieces (code " ") bs)) (read_spells (pieces (code " ") bs))
  where
    go : (o : Option Term) → If_some (Spells (pieces (code " ") bs)) o → If_some (Writes bs) o
    go none h = tt
    go (some t) h = (h.0, sym (parted_pieces (code " ") bs) ∙ ap (parted (code " ")) h.1)
