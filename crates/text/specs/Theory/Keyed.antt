-- A line that was read with its key is the key, the value and byte 10, and it is read so again whatever follows it.
use Rattle.std.specs.Prelude.{ℕ, ◌≡◌, Bool, eqb}
use Prim.Native.String.{String}
use Rattle.std.proofs.Math.Path.{refl}
use Rattle.std.proofs.Common.{sym, ◌∙◌, ap, arith}
use Rattle.std.proofs.Math.Bool.{true, false}
use Rattle.std.proofs.Math.Option.{Option, none, some, bind, bind-eq-some_iff, none-ne-some}
use mathlib.Core.List.{List, [], ◌∷◌, ◌++◌, append_assoc}
use Rattle.terms.specs.Lists.{◌∈◌, here, there, not-in-nil}
use Rattle.terms.specs.Theory.Reflects.{Reflects, eqb_reflects}
use Rattle.text.specs.Bytes.{ascii, after, end, Split, up_to, line}
use Rattle.text.specs.Layout.{keyed}
use Rattle.text.specs.Answer.{field}
use Rattle.text.specs.Theory.AtLeast.{Printable, free}

-- of what is read in two steps, each gives something
pub some_then : {A B : Type 0} {P : Type 0} (o : Option A) (g : A → Option B) {x : B} → bind o g ≡ some x → ((y : A) → o ≡ some y → g y ≡ some x → P) → P
some_then o g e h = let (y, f, k) = (bind-eq-some_iff o g).0 e in h y f k

pub after_only : (k bs : List ℕ) {v : List ℕ} → after k bs ≡ some v → bs ≡ k ++ v
unfolding after
after_only [] bs e = cc
after_only (b ∷ k) [] e = absurd (none-ne-some _ e)
after_only (b ∷ k) (c ∷ bs) {v} e = go (eqb b c) (eqb_reflects b c) e (λ h. after_only k bs h)
  where
    go : (t : Bool) → Reflects (b ≡ c) t → elim t [ true ↦ after k bs | false ↦ none ] ≡ some v
        → (after k bs ≡ some v → bs ≡ k ++ v) → c ∷ bs ≡ b ∷ (k ++ v)
    go true h e rest = let q = rest e in cc
    go false h e rest = absurd (none-ne-some _ e)

pub after_key : (k bs : List ℕ) → after k (k ++ bs) ≡ some bs
unfolding after
after_key [] bs = refl
after_key (b ∷ k) bs = go (eqb b b) (eqb_reflects b b) (after_key k bs)
  where
    go : (t : Bool) → Reflects (b ≡ b) t → after k (k ++ bs) ≡ some bs → elim t [ true ↦ after k (k ++ bs) | false ↦ none ] ≡ some bs
    go true h e = e
    go false h e = absurd (h refl)

pub end_only : {A : Type 0} (x : A) (bs : List ℕ) {y : A} → end x bs ≡ some y → (bs ≡ []) × (x ≡ y)
unfolding end
end_only x [] e = (refl, cc)
end_only x (b ∷ bs) e = absurd (none-ne-some _ e)

-- a value, and what follows its line
abbrev parts_of : List ℕ → List ℕ → Option Split
parts_of v rest = some (record { front = v; rest = rest })

-- up to a byte s
module _ (s : ℕ) where
  -- a text was cut at the byte
  pub record UpToParts (bs : List ℕ) (c : Split) : Type 0 where
    pub parts : bs ≡ c.front ++ (s ∷ c.rest)
    pub again : (rest : List ℕ) → up_to s (c.front ++ (s ∷ rest)) ≡ parts_of c.front rest

  -- the parts with a byte more in front
  abbrev one_more : ℕ → List ℕ → Bool → Option Split → Option Split
  one_more b bs t o =
      elim t [
        | true ↦ parts_of [] bs
        | false ↦ elim o [ none ↦ none | some c ↦ parts_of (b ∷ c.front) c.rest ]
      ]

  up_to_more : (b : ℕ) (v rest : List ℕ) → (b ≡ s → ⊥) → up_to s (v ++ (s ∷ rest)) ≡ parts_of v rest
      → up_to s (b ∷ (v ++ (s ∷ rest))) ≡ parts_of (b ∷ v) rest
  unfolding up_to
  up_to_more b v rest h e = go (eqb b s) (eqb_reflects b s)
    where
      go : (t : Bool) → Reflects (b ≡ s) t → one_more b (v ++ (s ∷ rest)) t (up_to s (v ++ (s ∷ rest))) ≡ parts_of (b ∷ v) rest
      go true k = absurd (h k)
      go false k = rw e

  -- a text without the byte, in front of it
  pub up_to_at : (v rest : List ℕ) → (s ∈ v → ⊥) → up_to s (v ++ (s ∷ rest)) ≡ parts_of v rest
  unfolding up_to
  up_to_at [] rest free = go (eqb s s) (eqb_reflects s s)
    where
      go : (t : Bool) → Reflects (s ≡ s) t → one_more s rest t (up_to s rest) ≡ parts_of [] rest
      go true k = refl
      go false k = absurd (k refl)
  up_to_at (b ∷ v) rest free = up_to_more b v rest (λ e. free (here (sym e))) (up_to_at v rest (λ i. free (there i)))

  pub up_to_parts : (bs : List ℕ) {c : Split} → up_to s bs ≡ some c → UpToParts bs c
  unfolding up_to
  up_to_parts [] {c} e = absurd (none-ne-some c e)
  up_to_parts (b ∷ bs) {c} e = go (eqb b s) (eqb_reflects b s) (up_to s bs) (λ d h. up_to_parts bs {c = d} h) e
    where
      empty : (rest : List ℕ) → up_to s (s ∷ rest) ≡ parts_of [] rest
      empty rest = up_to_at [] rest (λ i. not-in-nil i)

      go : (t : Bool) → Reflects (b ≡ s) t → (o : Option Split) → ((d : Split) → o ≡ some d → UpToParts bs d) → one_more b bs t o ≡ some c → UpToParts (b ∷ bs) c
      go true k o h e =
          let f : ◌≡◌ {A = Split} (record { front = []; rest = bs }) c = cc in
          rw (← f) (record { parts = ap (λ n. n ∷ bs) k; again = empty })
      go false k none h e = absurd (none-ne-some c e)
      go false k (some d) h e =
          let f : ◌≡◌ {A = Split} (record { front = b ∷ d.front; rest = d.rest }) c = cc in
          let p = h d refl in
          rw (← f) (record { parts = ap (λ l. b ∷ l) p.parts; again = λ rest. up_to_more b d.front rest k (p.again rest) })

-- a value that is read in its line, whatever follows
abbrev pub Read : String → List ℕ → Type 0
Read key v = (rest : List ℕ) → keyed key (field key v ++ rest) ≡ parts_of v rest

-- a line was read with its key
pub record KeyedParts (key : String) (bs : List ℕ) (c : Split) : Type 0 where
  pub parts : bs ≡ field key c.front ++ c.rest
  pub again : Read key c.front

field_before : (key : String) (v rest : List ℕ) → field key v ++ rest ≡ ascii key ++ (v ++ (10 ∷ rest))
unfolding field
field_before key v rest = simp append_assoc

pub keyed_parts : (key : String) (bs : List ℕ) {c : Split} → keyed key bs ≡ some c → KeyedParts key bs c
unfolding keyed line bind
keyed_parts key bs {c} e =
    some_then (after (ascii key) bs) line e λ rest behind e.
    let p = up_to_parts 10 rest e in
    record {
      parts = after_only (ascii key) bs behind ∙ ap (λ l. ascii key ++ l) p.parts ∙ rw (field_before key c.front c.rest);
      again = λ more. rw (field_before key c.front more, after_key (ascii key) (c.front ++ (10 ∷ more))) (p.again more);
    }

-- a printable value in its line, in front of a text
pub keyed_field : (key : String) (v bs : List ℕ) → Printable v → keyed key (field key v ++ bs) ≡ parts_of v bs
unfolding keyed line bind
keyed_field key v bs h = rw (field_before key v bs, after_key (ascii key) (v ++ (10 ∷ bs))) (up_to_at 10 v bs (free (omega arith) h))
