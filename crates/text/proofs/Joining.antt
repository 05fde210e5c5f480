-- The lines of a path in the slots, joined.
use Prim.Native.Nat.{ℕ, suc, ◌+◌, ◌-◌, ◌≤◌, ◌<◌}
use native.Mathlib.Omega.{arith}
use mathlib.Core.Path.{◌≡◌, refl, sym, ap, subst, ◌∙◌}
use mathlib.Core.List.{List, [], ◌∷◌, ◌++◌, map}
use lib.ListN.{length, take, get_or, length-append, get_or-append}
use lib.Seq.{take_all, take_at}
use Rattle.std.proofs.lemmas.List.{get_or_at}
use Rattle.terms.specs.Term as term_of
use Rattle.terms.specs.Term.{Term, size}
use Rattle.terms.specs.Held.{Holds}
use Rattle.terms.specs.Letters.{letters, rising}
use Rattle.terms.proofs.Held.{holds_whole}
use Rattle.search.specs.Law.{Law, semiring}
use Rattle.search.specs.Line.{Line}
use Rattle.search.specs.Search.{Noted}
use Rattle.search.specs.Place.{place_at}
use Rattle.search.specs.Coded.{name_of, direction_of}
use Rattle.search.specs.Runs.{Spells, Originates, Shows}
use Rattle.search.specs.Slots.{noted_at, Slots}
use Rattle.search.specs.Traced.{Linked, Traced, none, more}
use Rattle.search.specs.declared.slots.Step.{Step}
use Rattle.search.specs.declared.slots.Origin.{Origin}
use Rattle.search.specs.declared.slots.Origin.TheVariants.{From}
use Rattle.search.proofs.Noting.{noted_run}
use Rattle.search.proofs.Rising.{line_at}
use Rattle.search.proofs.Traced.{traced_at}
use Rattle.text.specs.Bytes.{ascii}
use Rattle.text.specs.Proof.{call, term, one_line, joined, chain, binders, proof}
use Rattle.text.specs.Writer.{Writes}
use Rattle.text.specs.declared.writer.Writer.{Writer}
use Rattle.text.specs.Walk.{Walk}
use Rattle.text.specs.Framed.{ends, opens, closes}
use Rattle.text.proofs.Writing.{then, put_as, put_none}
use Rattle.text.proofs.Framing.{ends_text, binders_text}
use Rattle.text.proofs.Walks.{marks_read, parent_read, traced_length}

-- ---- one line

pub holds_shown : {ws : List ℕ} {k : ℕ} {xs : List ℕ} {t : Term} → Shows ws k xs → Spells ws k t → Holds xs 0 t
holds_shown {t = t} S p = holds_whole (S.exact t p)

abbrev line_text : List ℕ → Line → Term → List ℕ
line_text names x u = one_line names semiring x.place x.direction x.law u x.result

module _ {ws : List ℕ} {ns : List Noted} {j k : ℕ} {x : Line} (S : Slots ws ns) (L : Linked ws ns j k x) where
  spells_source : Spells ws j (noted_at ns j).term
  spells_source = noted_run S j (omega (arith, L.within, L.before))

  module _ (names : List ℕ) {o o' : Writer} where
    -- the line that slot k has
    pub step_put : (s : Step) {q : Origin} {xs ys : List ℕ} → Originates ws k q → q ≡ From s → Shows ws s.parent xs → Shows ws k ys
        → ((u v : Term) → Holds xs 0 u → Holds ys 0 v → s.place < size u → size u ≤ 31 → size v ≤ 31
        → Writes (one_line names semiring (place_at u s.place) (direction_of s.direction) (name_of s.law) u v) o o')
        → Writes (line_text names x (noted_at ns j).term) o o'
    step_put s {xs = xs} O e P Q f =
        let u = (noted_at ns j).term in
        let m = marks_read O L s e in
        let P' : Shows ws j xs = subst (λ i. Shows ws i xs) (parent_read O L s e) P in
        put_as (rw (m.place, m.direction, m.law))
        (f u x.result (holds_shown P' spells_source) (holds_shown Q L.line.run) m.inside spells_source.small L.line.run.small)

-- ---- several lines

abbrev results : List Line → List Term
results xs = map (λ x. x.result) xs

-- the term from which line n leads
abbrev source : Term → List Line → ℕ → Term
source s xs n = get_or (s ∷ results xs) n term_of.zero

module _ (names : List ℕ) (ws : List Law) where
  joined_more : (xs : List Line) (n : ℕ) (s m : Term) (p : List ℕ) → n < length xs
      → joined names ws s m p (take (suc n) xs)
      ≡ call (ascii "eq_trans") (term names s ∷ term names (source m xs n) ∷ term names (line_at xs n).result ∷ joined names ws s m p (take n xs)
      ∷ one_line names ws (line_at xs n).place (line_at xs n).direction (line_at xs n).law (source m xs n) (line_at xs n).result ∷ [])
  unfolding joined
  joined_more [] n s m p h = absurd (omega arith)
  joined_more (x ∷ xs) ℕ.zero s m p h = refl
  joined_more (x ∷ xs) (suc n) s m p h =
      joined_more xs n s x.result
      (call (ascii "eq_trans") (term names s ∷ term names m ∷ term names x.result ∷ p ∷ one_line names ws x.place x.direction x.law m x.result ∷ []))
      (omega arith)

  chain_more : (xs : List Line) (n : ℕ) (s : Term) → 0 < n → n < length xs
      → chain names ws s (take (suc n) xs)
      ≡ call (ascii "eq_trans") (term names s ∷ term names (source s xs n) ∷ term names (line_at xs n).result ∷ chain names ws s (take n xs)
      ∷ one_line names ws (line_at xs n).place (line_at xs n).direction (line_at xs n).law (source s xs n) (line_at xs n).result ∷ [])
  unfolding chain
  chain_more [] n s k h = absurd (omega arith)
  chain_more (x ∷ xs) ℕ.zero s k h = absurd (omega arith)
  chain_more (x ∷ xs) (suc n) s k h = joined_more xs n s x.result (one_line names ws x.place x.direction x.law s x.result) (omega arith)

module _ {ws : List ℕ} {ns : List Noted} where
  -- the term from which line i leads is noted in the slot before
  traced_term : {j : ℕ} {ks : List ℕ} {xs : List Line} → Traced ws ns j ks xs → (i : ℕ) → i ≤ length ks → (noted_at ns (get_or (j ∷ ks) i 0)).term ≡ source (noted_at ns j).term xs i
  traced_term T ℕ.zero q = refl
  traced_term none (suc i) q = absurd (omega arith)
  traced_term (more {xs = xs} h T) (suc i) q = traced_term T i (omega arith) ∙ ap (λ n. source n.term xs i) h.is

-- what `render_slot` promises of slot k
abbrev StepPut : List ℕ → List ℕ → ℕ → Writer → Writer → Type 0
StepPut names ws k o o' = (ns : List Noted) (j : ℕ) (x : Line) → Slots ws ns → Linked ws ns j k x → Writes (line_text names x (noted_at ns j).term) o o'

slot_before : (ks : List ℕ) (b : ℕ) → 0 < b → get_or (0 ∷ ks) b 0 ≡ get_or ks (b - 1) 0
slot_before ks ℕ.zero h = absurd (omega arith)
slot_before ks (suc b) h = let e : suc b - 1 ≡ b = omega arith in ap (λ i. get_or ks i 0) (sym e)

chain_one : (names : List ℕ) (ws : List Law) (s : Term) (xs : List Line) → 0 < length xs
    → one_line names ws (line_at xs 0).place (line_at xs 0).direction (line_at xs 0).law s (line_at xs 0).result ≡ chain names ws s (take 1 xs)
unfolding chain joined
chain_one names ws s [] h = absurd (omega arith)
chain_one names ws s (x ∷ xs) h = refl

module _ {ws path : List ℕ} {s : Term} {xs : List Line} (W : Walk ws path s xs) (names : List ℕ) where
  module _ (b : ℕ) (h : b < length path) where
    long : b < length xs
    long = omega (arith, traced_length W.lines)

    link : Linked ws W.noted (get_or (0 ∷ path) b 0) (get_or path b 0) (line_at xs b)
    link = traced_at W.lines b h

    from : (noted_at W.noted (get_or (0 ∷ path) b 0)).term ≡ source s xs b
    from = traced_term W.lines b (omega arith) ∙ ap (λ u. source u xs b) W.start

    spells_start : Spells ws 0 s
    spells_start = rw W.start at (noted_run W.slots 0 (omega (arith, link.within)))

  pub lines_none : (n : ℕ) {o : Writer} → n ≡ 0 → Writes (chain names semiring s (take n xs)) o o
  unfolding chain
  lines_none n {o} e = rw e (put_none o)

  pub lines_first : (n : ℕ) {o o' : Writer} → n ≡ 1 → n ≤ length path → StepPut names ws (get_or path (n - 1) 0) o o'
      → Writes (chain names semiring s (take n xs)) o o'
  lines_first n e h st =
      let k : 0 < length path = omega arith in
      rw e
      (put_as (ap (λ u. line_text names (line_at xs 0) u) (from 0 k) ∙ chain_one names semiring s xs (long 0 k))
      ((rw e at st) W.noted 0 (line_at xs 0) W.slots (link 0 k)))

  pub lines_more : (n b : ℕ) {o o₁ o₂ o₃ o₄ o₅ : Writer} → n ≡ suc b → 0 < b → b < length path
      → ((s u v : Term) → Spells ws 0 s → Spells ws (get_or path (b - 1) 0) u → Spells ws (get_or path b 0) v → Writes (ends names s u v) o o₁)
      → Writes (chain names semiring s (take b xs)) o₁ o₂ → Writes (ascii ") ") o₂ o₃ → StepPut names ws (get_or path b 0) o₃ o₄ → Writes (ascii ")") o₄ o₅
      → Writes (chain names semiring s (take n xs)) o o₅
  lines_more n b {o₃ = o₃} {o₄ = o₄} e p h tr ln gap st end =
      let L = link b h in
      let x = line_at xs b in
      let u = source s xs b in
      let m : Spells ws (get_or path (b - 1) 0) u =
      subst (λ i. Spells ws i u) (slot_before path b p) (subst (λ t. Spells ws (get_or (0 ∷ path) b 0) t) (from b h) (spells_source W.slots L)) in
      let q : Writes (line_text names x u) o₃ o₄ =
      subst (λ t. Writes (line_text names x t) o₃ o₄) (from b h) (st W.noted (get_or (0 ∷ path) b 0) x W.slots L) in
      rw e
      (put_as (ends_text names s u x.result (chain names semiring s (take b xs)) (line_text names x u) ∙ sym (chain_more names semiring xs b s p (long b h)))
      (then (tr s u x.result (spells_start b h) m L.line.run) (then ln (then gap (then q end)))))

  -- all lines
  pub lines_all : {o o' : Writer} → Writes (chain names semiring s (take (length path) xs)) o o' → Writes (chain names semiring s xs) o o'
  lines_all p = put_as (ap (chain names semiring s) (take_all (length path) xs (omega (arith, traced_length W.lines)))) p

-- the front of a path
traced_front : {ws : List ℕ} {ns : List Noted} {j : ℕ} {ks : List ℕ} {xs : List Line} → Traced ws ns j ks xs → (b : ℕ) → Traced ws ns j (take b ks) (take b xs)
traced_front T ℕ.zero = none
traced_front none (suc b) = none
traced_front (more h T) (suc b) = more h (traced_front T b)

pub walk_front : {ws path : List ℕ} {s : Term} {xs : List Line} → Walk ws path s xs → (b : ℕ) → Walk ws (take b path) s (take b xs)
walk_front W b = record { noted = W.noted; slots = W.slots; start = W.start; lines = traced_front W.lines b }

-- a path that ends with slot k
module _ {ws : List ℕ} (path before : List ℕ) (k : ℕ) (split : path ≡ before ++ (k ∷ [])) {s : Term} {xs : List Line} (W : Walk ws path s xs) (names : List ℕ) where
  count : length path ≡ length before + 1
  count = ap length split ∙ length-append before (k ∷ [])

  front_is : take (length before) path ≡ before
  front_is = ap (take (length before)) split ∙ take_at before (k ∷ []) (length before) refl

  last_is : get_or path (length before) 0 ≡ k
  last_is = ap (λ l. get_or l (length before) 0) split ∙ get_or_at before k [] 0 (length before) refl

  -- it has one line
  pub path_one : {o o' : Writer} → length before ≡ 0 → StepPut names ws k o o' → Writes (chain names semiring s xs) o o'
  path_one {o} {o'} e st =
      let i : length path - 1 ≡ length before = omega (arith, count) in
      lines_all W names (lines_first W names (length path) (omega (arith, count)) (omega arith) (subst (λ j. StepPut names ws j o o') (sym (ap (λ i. get_or path i 0) i ∙ last_is)) st))

  -- it has several: the one before leads to the term in slot m
  pub path_more : {m : ℕ} {o o₁ o₂ o₃ o₄ o₅ : Writer} → 0 < length before → get_or before (length before - 1) 0 ≡ m
      → ((s u v : Term) → Spells ws 0 s → Spells ws m u → Spells ws k v → Writes (ends names s u v) o o₁)
      → ((s : Term) (xs : List Line) → Walk ws before s xs → Writes (chain names semiring s xs) o₁ o₂)
      → Writes (ascii ") ") o₂ o₃ → StepPut names ws k o₃ o₄ → Writes (ascii ")") o₄ o₅ → Writes (chain names semiring s xs) o o₅
  path_more {m} {o₃ = o₃} {o₄ = o₄} h e tr ln gap st end =
      let last : k ≡ get_or path (length before) 0 = sym last_is in
      let middle : m ≡ get_or path (length before - 1) 0 =
      sym (ap (λ l. get_or l (length before - 1) 0) split ∙ get_or-append before (k ∷ []) 0 (length before - 1) (omega arith) ∙ e) in
      lines_all W names
      (lines_more W names (length path) (length before) (omega (arith, count)) h (omega (arith, count))
      (λ s u v hs hu hv. tr s u v hs (rw middle hu) (rw last hv))
      (ln s (take (length before) xs) (subst (λ ks. Walk ws ks s (take (length before) xs)) front_is (walk_front W (length before))))
      gap (subst (λ j. StepPut names ws j o₃ o₄) last st) end)

-- the binders around a proof
pub proof_put : {names : List ℕ} (s t : Term) (xs : List Line) {o o₁ o₂ o₃ : Writer} → names ≡ rising (letters s ++ letters t)
    → Writes (opens (length names)) o o₁ → Writes (chain names semiring s xs) o₁ o₂ → Writes (closes (length names)) o₂ o₃ → Writes (proof semiring s t xs) o o₃
unfolding proof
proof_put {names} s t xs e p q r =
    put_as (binders_text names (chain names semiring s xs) ∙ ap (λ ns. binders 0 ns (chain ns semiring s xs)) e) (then p (then q r))
