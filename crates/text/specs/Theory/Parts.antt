-- The blocks of an answer are its parts: the text is cut before each line that begins with `answer=`.
use Rattle.std.specs.Prelude.{ℕ, ◌≡◌, Bool, true, false, ◌&&◌, eqb}
use Prim.Native.String.{String}
use Rattle.std.proofs.Common.{arith, sym, ap, subst, ◌∙◌, ⊎_elim}
use Rattle.std.proofs.Math.Path.{refl}
use Rattle.std.proofs.lemmas.Bool.{false≢true}
use Rattle.std.proofs.Math.Option.{Option, none, some}
use mathlib.Core.List.{List, [], ◌∷◌, ◌++◌, map, flat_map, flatten, filter_map, filter_map-cons-none, filter_map-cons-some, append_assoc, append-nil, cons-ne-nil}
use Rattle.terms.specs.Lists.{◌∈◌, here, there, in_left, not-in-nil, cons-cases}
use Rattle.terms.specs.Theory.Reflects.{Reflects, eqb_reflects}
use Rattle.search.specs.Law.{Law, semiring}
use Rattle.search.specs.Search.{Outcome, proved, unproved}
use Rattle.search.specs.Cut.{cut}
use Rattle.text.specs.Bytes.{ascii, number, after, longer, pieces}
use Rattle.text.specs.Answer.{refused, field, printed, values, found, parts, yes_no}
use Rattle.text.specs.Job.{Job}
use Rattle.text.specs.Proof.{proof}
use Rattle.text.specs.Find.{outcome_lines, outcome_text, block}
use Rattle.text.specs.Claims.{Block, answers, refuses}
use Rattle.text.specs.Theory.AtLeast.{tested, free}
use Rattle.text.specs.Theory.Pieces.{pieces_break, pieces_byte, pieces_some}

-- the pieces of a text: a first one and others
record Pieces (bs : List ℕ) : Type 0 where
  first : List ℕ
  others : List (List ℕ)
  are : pieces 10 bs ≡ first ∷ others

pieces_of : (bs : List ℕ) → Pieces bs
pieces_of bs = go (pieces 10 bs) refl
  where
    go : (ps : List (List ℕ)) → pieces 10 bs ≡ ps → Pieces bs
    go [] e = absurd (pieces_some 10 bs e)
    go (p ∷ ps) e = record { first = p; others = ps; are = e }

-- a byte in front: it ends a first piece, or is in front of it
data InFront (b : ℕ) (bs : List ℕ) (t : Bool) : Type 0 where
  ends : b ≡ 10 → t ≡ true → pieces 10 (b ∷ bs) ≡ [] ∷ pieces 10 bs → InFront b bs t
  leads : (b ≡ 10 → ⊥) → t ≡ false → (p : Pieces bs) → pieces 10 (b ∷ bs) ≡ (b ∷ p.first) ∷ p.others → InFront b bs t

in_front : (b : ℕ) (bs : List ℕ) → InFront b bs (eqb b 10)
in_front b bs = go (eqb b 10) (eqb_reflects b 10)
  where
    go : (t : Bool) → Reflects (b ≡ 10) t → InFront b bs t
    go true h = ends h refl (ap (λ c. pieces 10 (c ∷ bs)) h ∙ pieces_break 10 bs)
    go false h = let p = pieces_of bs in leads h refl p (pieces_byte 10 b bs p.first p.others (λ e. h (sym e)) p.are)

-- whether a text begins with a key is seen from its first piece
found_first : (ks m rest : List ℕ) → (10 ∈ ks → ⊥) → {p : List ℕ} {ps : List (List ℕ)} → pieces 10 m ≡ p ∷ ps
    → found (after ks (m ++ (10 ∷ rest))) ≡ found (after ks p)
unfolding after pieces
found_first [] m rest clear e = refl
found_first (k ∷ ks) [] rest clear {p} e = no_key (eqb k 10) (eqb_reflects k 10)
  where
    first : [] ≡ p
    first = cc

    no_key : (t : Bool) → Reflects (k ≡ 10) t → found (elim t [ true ↦ after ks rest | false ↦ none ]) ≡ found (after (k ∷ ks) p)
    no_key true h = absurd (clear (here (sym h)))
    no_key false h = rw (← first)
found_first (k ∷ ks) (b ∷ m) rest clear {p} e = go (eqb b 10) (in_front b m) (λ n. found_first ks m rest (λ i. clear (there i)) n.are)
  where
    no_key : (t : Bool) → Reflects (k ≡ b) t → b ≡ 10 → [] ≡ p → found (elim t [ true ↦ after ks (m ++ (10 ∷ rest)) | false ↦ none ]) ≡ found (after (k ∷ ks) p)
    no_key true i h first = absurd (clear (here (sym (i ∙ h))))
    no_key false i h first = rw (← first)

    same : (q : List ℕ) → found (after ks (m ++ (10 ∷ rest))) ≡ found (after ks q) → (t : Bool)
        → found (elim t [ true ↦ after ks (m ++ (10 ∷ rest)) | false ↦ none ]) ≡ found (elim t [ true ↦ after ks q | false ↦ none ])
    same q h true = h
    same q h false = refl

    go : (t : Bool) → InFront b m t → ((n : Pieces m) → found (after ks (m ++ (10 ∷ rest))) ≡ found (after ks n.first))
        → found (elim (eqb k b) [ true ↦ after ks (m ++ (10 ∷ rest)) | false ↦ none ]) ≡ found (after (k ∷ ks) p)
    go t (ends h _ q) on = no_key (eqb k b) (eqb_reflects k b) h (let z : [] ∷ pieces 10 m ≡ p ∷ _ = sym q ∙ e in cc)
    go t (leads _ _ n q) on =
        let first : b ∷ n.first ≡ p = (let z : (b ∷ n.first) ∷ n.others ≡ p ∷ _ = sym q ∙ e in cc) in
        rw (← first) (same n.first (on n) (eqb k b))

abbrev key : List ℕ
key = ascii "answer="

clear_key : 10 ∈ key → ⊥
unfolding ascii
clear_key = free {k = 32} (omega arith) (tested _ key tt)

-- none of the lines begins with the key
abbrev Quiet : List (List ℕ) → Type 0
Quiet ps = (p : List ℕ) → p ∈ ps → found (after key p) ≡ false

-- the text is at its end, or at a line with the key
data AtCut (bs : List ℕ) : Type 0 where
  over : bs ≡ [] → AtCut bs
  next : found (after key bs) ≡ true → AtCut bs

-- a text that ends with byte 10, of which no line but the first may begin with the key
one_part : (m rest : List ℕ) → {p : List ℕ} {ps : List (List ℕ)} → pieces 10 m ≡ p ∷ ps → Quiet ps → AtCut rest
    → parts "answer=" (m ++ (10 ∷ rest)) ≡ (m ++ (10 ∷ [])) ∷ parts "answer=" rest
unfolding parts
one_part [] rest e quiet (over h) = subst (λ l. parts "answer=" (10 ∷ l) ≡ (10 ∷ []) ∷ parts "answer=" l) (sym h) refl
one_part [] rest e quiet (next h) = rw h
one_part (b ∷ m) rest {p} {ps} e quiet cut = go (eqb b 10) (in_front b m) (λ n calm. one_part m rest n.are calm cut)
  where
    more : List (List ℕ)
    more = parts "answer=" (m ++ (10 ∷ rest))

    go : (t : Bool) → InFront b m t → ((n : Pieces m) → Quiet n.others → more ≡ (m ++ (10 ∷ [])) ∷ parts "answer=" rest)
        → elim (t && found (after key (m ++ (10 ∷ rest)))) [ true ↦ (b ∷ []) ∷ more | false ↦ longer b more ] ≡ (b ∷ (m ++ (10 ∷ []))) ∷ parts "answer=" rest
    go t (ends h s q) on =
        let n = pieces_of m in
        let others : ps ≡ n.first ∷ n.others = (let z : [] ∷ pieces 10 m ≡ p ∷ ps = sym q ∙ e in let o : ps ≡ pieces 10 m = cc in o ∙ n.are) in
        let calm : Quiet (n.first ∷ n.others) = (λ p i. quiet p (rw others i)) in
        rw (s, found_first key m rest clear_key n.are, calm n.first (here refl), on n (λ p i. calm p (there i)))
    go t (leads h s n q) on =
        let others : n.others ≡ ps = (let z : (b ∷ n.first) ∷ n.others ≡ p ∷ ps = sym q ∙ e in cc) in
        rw (s, on n (λ p i. quiet p (rw (← others) i)))

-- what is asked of a text to be one part
record Part (t : List ℕ) : Type 0 where
  body : List ℕ
  ended : t ≡ body ++ (10 ∷ [])
  starts : (rest : List ℕ) → found (after key (t ++ rest)) ≡ true
  value : List ℕ
  once : values "answer=" t ≡ value ∷ []

-- behind the last byte 10 there is an empty piece
pieces_end : (m : List ℕ) → pieces 10 (m ++ (10 ∷ [])) ≡ pieces 10 m ++ ([] ∷ [])
unfolding pieces
pieces_end [] = refl
pieces_end (b ∷ m) = go (eqb b 10) (pieces_of m) (pieces_end m)
  where
    go : (t : Bool) → Pieces m → pieces 10 (m ++ (10 ∷ [])) ≡ pieces 10 m ++ ([] ∷ []) → elim t [ true ↦ [] ∷ pieces 10 (m ++ (10 ∷ [])) | false ↦ longer b (pieces 10 (m ++ (10 ∷ []))) ]
        ≡ ◌++◌ {A = List ℕ} (elim t [ true ↦ [] ∷ pieces 10 m | false ↦ longer b (pieces 10 m) ]) ([] ∷ [])
    go true n h = rw h
    go false n h = rw (h, n.are)

all_quiet : (ps : List (List ℕ)) → filter_map (after key) ps ≡ [] → Quiet ps
all_quiet [] e p i = absurd (not-in-nil i)
all_quiet (q ∷ ps) e p i = go (after key q) refl (λ h. all_quiet ps h p)
  where
    go : (o : Option (List ℕ)) → after key q ≡ o → (filter_map (after key) ps ≡ [] → p ∈ ps → found (after key p) ≡ false) → found (after key p) ≡ false
    go none h on = ⊎_elim (λ (k : p ≡ q). rw (k, h)) (on (sym (filter_map-cons-none (after key) q ps h) ∙ e)) (cons-cases i)
    go (some v) h on = absurd (let z = sym (filter_map-cons-some (after key) q ps h) ∙ e in cons-ne-nil _ _ z)

-- behind the one line with the key the lines are quiet
rest_quiet : (p : List ℕ) (ps : List (List ℕ)) (v : List ℕ) → found (after key p) ≡ true → filter_map (after key) (p ∷ ps) ≡ v ∷ [] → Quiet ps
rest_quiet p ps v h e = go (after key p) refl h
  where
    go : (o : Option (List ℕ)) → after key p ≡ o → found o ≡ true → Quiet ps
    go none q h = absurd (false≢true h)
    go (some w) q h =
        let z = sym (filter_map-cons-some (after key) p ps q) ∙ e in
        let f : filter_map (after key) ps ≡ [] = cc in
        all_quiet ps f

part_first : (t rest : List ℕ) → Part t → AtCut rest → parts "answer=" (t ++ rest) ≡ t ∷ parts "answer=" rest
unfolding values
part_first t rest a cut =
    let m = a.body in
    let n = pieces_of m in
    let whole : pieces 10 t ≡ n.first ∷ (n.others ++ ([] ∷ [])) = ap (pieces 10) a.ended ∙ pieces_end m ∙ ap (λ ps. ps ++ ([] ∷ [])) n.are in
    let start : found (after key n.first) ≡ true =
    sym (found_first key m [] clear_key n.are) ∙ ap (λ l. found (after key l)) (sym a.ended ∙ sym (append-nil t)) ∙ a.starts [] in
    let quiet = rest_quiet n.first (n.others ++ ([] ∷ [])) a.value start (ap (filter_map (after key)) (sym whole) ∙ a.once) in
    let cut-here = one_part m rest n.are (λ p i. quiet p (in_left ([] ∷ []) i)) cut in
    ap (parts "answer=") (ap (λ l. l ++ rest) a.ended ∙ append_assoc m (10 ∷ []) rest) ∙ cut-here ∙ ap (λ l. l ∷ parts "answer=" rest) (sym a.ended)

-- the text's last byte is 10
abbrev Ended : List ℕ → Type 0
Ended t = (m : List ℕ) × (t ≡ m ++ (10 ∷ []))

ended_behind : (a : List ℕ) {t : List ℕ} → Ended t → Ended (a ++ t)
ended_behind a (m, e) = (a ++ m, ap (λ l. a ++ l) e ∙ sym (append_assoc a m (10 ∷ [])))

field_ended : (k : String) (v : List ℕ) → Ended (field k v)
unfolding field
field_ended k v = ended_behind (ascii k) (v, refl)

-- so is that of several texts
abbrev LastEnded : List (List ℕ) → Type 0
LastEnded [] = ⊥
LastEnded (t ∷ []) = Ended t
LastEnded (t ∷ u ∷ us) = LastEnded (u ∷ us)

flatten_ended : (ts : List (List ℕ)) → LastEnded ts → Ended (flatten ts)
unfolding flatten
flatten_ended [] h = absurd h
flatten_ended (t ∷ []) h = rw append-nil h
flatten_ended (t ∷ u ∷ us) h = ended_behind t (flatten_ended (u ∷ us) h)

module _ (ws : List Law) (j : Job) where
  outcome_ended : (o : Outcome) → Ended (outcome_text ws j o)
  unfolding outcome_text outcome_lines
  outcome_ended (proved xs e n) = flatten_ended (outcome_lines ws j (proved xs e n)) (field_ended "proof=" (proof ws j.left j.right xs))
  outcome_ended (unproved e n) = flatten_ended (outcome_lines ws j (unproved e n)) (field_ended "cut=" (yes_no (cut ws j.limits j.left)))

  outcome_starts : (o : Outcome) (rest : List ℕ) → found (after key (outcome_text ws j o ++ rest)) ≡ true
  unfolding outcome_text outcome_lines flatten field ascii after
  outcome_starts (proved xs e n) rest = refl
  outcome_starts (unproved e n) rest = refl

refusal_part : Part (printed (refused 7))
unfolding printed field ascii after values number pieces filter_map
refusal_part =
    let (m, e) = ended_behind (field "answer=" (ascii "refused")) (field_ended "number=" (number 7)) in
    record { body = m; ended = e; starts = λ rest. refl; value = ascii "refused"; once = refl }

block_part : {slots : ℕ} {j : Job} {t : List ℕ} → Block slots j t → Part t
block_part {j = j} (answers a) =
    let (m, e) = outcome_ended semiring j a.outcome in
    record {
      body = m;
      ended = a.printed ∙ e;
      starts = λ rest. rw a.printed (outcome_starts semiring j a.outcome rest);
      value = _;
      once = a.verdict;
    }
block_part (refuses few e) = rw e refusal_part

-- the parts of several blocks
pub blocks_parts : (slots : ℕ) (js : List Job) → ((j : Job) → j ∈ js → Block slots j (block slots j))
    → parts "answer=" (flat_map (block slots) js) ≡ map (block slots) js
unfolding flat_map parts
blocks_parts slots [] each = refl
blocks_parts slots (j ∷ js) each =
    part_first (block slots j) (flat_map (block slots) js) (block_part (each j (here refl))) (at_cut js (λ k i. each k (there i)))
    ∙ ap (λ ts. block slots j ∷ ts) (blocks_parts slots js (λ k i. each k (there i)))
  where
    at_cut : (js : List Job) → ((j : Job) → j ∈ js → Block slots j (block slots j)) → AtCut (flat_map (block slots) js)
    at_cut [] each = over refl
    at_cut (j ∷ js) each = next ((block_part (each j (here refl))).starts (flat_map (block slots) js))
