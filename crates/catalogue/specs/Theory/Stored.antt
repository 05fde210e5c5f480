-- The catalogue in numbers: zeros are an empty one, two entries are of one kind exactly when their keys and lists of numbers are, and a
-- buffer tells its catalogue.
use Rattle.std.specs.Prelude.{◌≡◌, ℕ, ◌+◌, ◌*◌, true, ◌↔◌, List, [], take, drop, ◌≢◌, slice_index_or, refl}
use Rattle.std.proofs.Common.{arith, sym, ap, ap₂, subst, ◌∙◌, inl, inr, ext_get_or}
use Rattle.std.proofs.Math.Option.{Option, none, some}
use Rattle.std.proofs.lemmas.List.{get_or-replicate, length-replicate}
use Rattle.terms.specs.Term.{Term}
use Rattle.terms.specs.Held.{IsRun}
use Rattle.terms.specs.Numbers.{read_run}
use Rattle.terms.specs.Run.{run}
use Rattle.terms.specs.Theory.Reflects.{reflects_true}
use Rattle.terms.specs.Theory.ReadRun.{run_read}
use Rattle.words.specs.Spelled.{spelled}
use Rattle.words.specs.Theory.Spelled.{spelled_equal}
use Rattle.text.specs.Rename.{term_lines, word_lines}
use Rattle.text.specs.Words.{word_list}
use Rattle.text.specs.Theory.Printed.{term_lines_apart, word_lines_apart, dash_lines_apart}
use Rattle.catalogue.specs.Catalogue.{PLACES, Entry, Catalogue, empty}
use Rattle.catalogue.specs.Texts.{Key, raw, worded, Kind, same_kind}
use Rattle.catalogue.specs.Stored.{PLACE, COUNT, key_number, RawLines, DifferentLines, Lines, KindAt, Stored, At, Holds}
use Rattle.catalogue.specs.Claims.{Zeros}
use Rattle.catalogue.specs.Theory.Texts.{kinds_told}

-- zeros are an empty catalogue
pub zeros_hold : {cat : List ℕ} → Zeros cat → Holds cat empty
unfolding empty
zeros_hold z =
    record {
      size = z.size;
      count = length-replicate {A = Option (Entry Kind)} PLACES none;
      places = λ k h. rw (get_or-replicate {A = Option (Entry Kind)} PLACES k none none h) (z.zero (PLACE * k));
      spare = λ k h i low high. z.zero (PLACE * k + i);
      kept = z.zero COUNT;
    }

-- the numbers of a kind tell its lines, and the lines tell the numbers

run_apart : {xs ys : List ℕ} {s t : Term} → IsRun xs s → IsRun ys t → xs ≡ ys → s ≡ t
run_apart p q e = let r = sym (run_read p) ∙ ap read_run e ∙ run_read q in cc

runs_same : {xs ys : List ℕ} {s t : Term} → IsRun xs s → IsRun ys t → s ≡ t → xs ≡ ys
runs_same p q e = p.whole ∙ ap run e ∙ sym q.whole

-- lists that are not both empty are not spelled by no numbers
not_both : {l r bs : List ℕ} → DifferentLines l r bs → l ≡ [] → r ≢ []
unfolding spelled
not_both D p q = D.some ((spelled_equal D.first []).0 (sym D.left_spelled ∙ p)) ((spelled_equal D.second []).0 (sym D.right_spelled ∙ q))

module _ {l r bs l' r' bs' : List ℕ} where
  raw_apart : RawLines l r bs → RawLines l' r' bs' → (bs ≡ bs') ↔ ((l ≡ l') × (r ≡ r'))
  raw_apart L M = (
    λ e.
        let (p, q) = term_lines_apart L.equation M.equation L.left_readable L.right_readable M.left_readable M.right_readable (sym L.is ∙ e ∙ M.is) in
        (runs_same L.left_run M.left_run p, runs_same L.right_run M.right_run q),
    λ (p, q).
        let d : L.equation.left ≡ M.equation.left = run_apart L.left_run M.left_run p in
        let e : L.equation.right ≡ M.equation.right = run_apart L.right_run M.right_run q in
        L.is ∙ ap term_lines (λ i. record { left = d i; right = e i }) ∙ sym M.is,
  )

  words_apart : Lines worded l r bs → Lines worded l' r' bs' → (bs ≡ bs') ↔ ((l ≡ l') × (r ≡ r'))
  words_apart (inl A) (inl B) =
      (λ e. (A.left_none ∙ sym B.left_none, A.right_none ∙ sym B.right_none), λ h. A.is ∙ sym B.is)
  words_apart (inl A) (inr D) = (
    λ e. absurd (dash_lines_apart D.first D.second (sym D.is ∙ sym e ∙ A.is)),
    λ (p, q). absurd (not_both D (sym p ∙ A.left_none) (sym q ∙ A.right_none)),
  )
  words_apart (inr D) (inl A) = (
    λ e. absurd (dash_lines_apart D.first D.second (sym D.is ∙ e ∙ A.is)),
    λ (p, q). absurd (not_both D (p ∙ A.left_none) (q ∙ A.right_none)),
  )
  words_apart (inr D) (inr E) = (
    λ e.
        let (p, q) = word_lines_apart D.first D.second E.first E.second (sym D.is ∙ e ∙ E.is) in
        (D.left_spelled ∙ ap spelled p ∙ sym E.left_spelled, D.right_spelled ∙ ap spelled q ∙ sym E.right_spelled),
    λ (p, q).
        let d = (spelled_equal D.first E.first).0 (sym D.left_spelled ∙ p ∙ E.left_spelled) in
        let e = (spelled_equal D.second E.second).0 (sym D.right_spelled ∙ q ∙ E.right_spelled) in
        D.is ∙ ap₂ (λ u v. word_lines (word_list u) (word_list v)) d e ∙ sym E.is,
  )

  -- under one key, lines agree exactly where both lists of numbers do
  pub lines_apart : (k : Key) → Lines k l r bs → Lines k l' r' bs' → (bs ≡ bs') ↔ ((l ≡ l') × (r ≡ r'))
  lines_apart raw L M = raw_apart L M
  lines_apart worded L M = words_apart L M

-- a place tells its kind

key_told : (k l : Key) → key_number k ≡ key_number l → k ≡ l
key_told raw raw e = refl
key_told raw worded e = absurd (omega arith)
key_told worded raw e = absurd (omega arith)
key_told worded worded e = refl

module _ (cat : List ℕ) (j : ℕ) where
  kind_once : {m n : ℕ} {l r l' r' : List ℕ} → KindAt cat j m l r → KindAt cat j n l' r' → (m ≡ n) × (l ≡ l') × (r ≡ r')
  kind_once K M = (
    sym K.key ∙ M.key,
    sym K.left_numbers ∙ ap (λ n. take n (drop (PLACE * j + 8) cat)) (sym K.left_size ∙ M.left_size) ∙ M.left_numbers,
    sym K.right_numbers ∙ ap (λ n. take n (drop (PLACE * j + 2708) cat)) (sym K.right_size ∙ M.right_size) ∙ M.right_numbers,
  )

  -- two lists that stand for lines are the place's exactly when the entry there is of that kind
  pub kind_told : {e : Entry Kind} → Stored cat j e → (k : Kind) {l r : List ℕ} → Lines k.key l r k.lines → (k ≡ e.kind) ↔ KindAt cat j (key_number k.key) l r
  kind_told {e} S k {l} {r} L = (
    λ p.
        let M = subst (λ m. Lines m.key S.left S.right m.lines) (sym p) S.lines in
        let (q, s) = (lines_apart k.key L M).0 refl in
        rw (p, q, s) S.kind,
    λ K.
        let (n, q, s) = kind_once K S.kind in
        let key : k.key ≡ e.kind.key = key_told k.key e.kind.key n in
        let M = subst (λ key. Lines key S.left S.right e.kind.lines) (sym key) S.lines in
        let lines : k.lines ≡ e.kind.lines = (lines_apart k.key L M).1 (q, s) in
        λ i. record { key = key i; lines = lines i },
  )

  -- and by the test of kinds
  pub kind_tested : {e : Entry Kind} → Stored cat j e → (k : Kind) {l r : List ℕ} → Lines k.key l r k.lines
      → (same_kind k e.kind ≡ true) ↔ KindAt cat j (key_number k.key) l r
  kind_tested {e} S k L =
      let (from, to) = reflects_true (k ≡ e.kind) (same_kind k e.kind) (kinds_told.test k e.kind) in
      let (have, told) = kind_told S k L in
      (λ t. have (from t), λ K. to (told K))

-- a buffer tells its catalogue

module _ (cat : List ℕ) (k : ℕ) where
  stored_once : {e f : Entry Kind} → Stored cat k e → Stored cat k f → e ≡ f
  stored_once {e} {f} S R =
      let number : e.number ≡ f.number = sym S.number ∙ R.number in
      let kind : e.kind ≡ f.kind = (kind_told cat k R e.kind S.lines).1 S.kind in
      λ i. record { number = number i; kind = kind i }

  place_once : (p q : Option (Entry Kind)) → At cat k p → At cat k q → p ≡ q
  place_once none none A B = refl
  place_once none (some f) A R = absurd (omega (arith, A, R.number, R.listed))
  place_once (some e) none S B = absurd (omega (arith, B, S.number, S.listed))
  place_once (some e) (some f) S R = ap some (stored_once S R)

pub holds_once : {cat : List ℕ} {c d : Catalogue Kind} → Holds cat c → Holds cat d → c ≡ d
holds_once {cat} {c} {d} H G =
    let places : c.places ≡ d.places =
    ext_get_or none c.places d.places (H.count ∙ sym G.count)
    (λ k l. place_once cat k (slice_index_or c.places k none) (slice_index_or d.places k none) (H.places k (omega (arith, H.count))) (G.places k (omega (arith, H.count)))) in
    let kept : c.kept ≡ d.kept = sym H.kept ∙ G.kept in
    λ i. record { places = places i; kept = kept i }
