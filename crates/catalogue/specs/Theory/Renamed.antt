-- Two entries are of one kind exactly when key and RENAME's printed lines agree.
use Rattle.std.specs.Prelude.{◌≡◌, ℕ, ◌≤◌, ◌↔◌, List, [], ◌∷◌, ◌++◌, length, refl}
use Prim.Native.String.{String}
use Rattle.std.proofs.Common.{sym, ap, ap₂, subst, ◌∙◌}
use Rattle.std.proofs.lemmas.List.{append_cancel_left}
use Rattle.words.specs.Words.{words}
use Rattle.text.specs.Bytes.{number}
use Rattle.text.specs.Answer.{accepted, field}
use Rattle.text.specs.Job.{Job}
use Rattle.text.specs.Rename.{term_lines, word_lines, rename_text}
use Rattle.text.specs.Theory.AtLeast.{Printable}
use Rattle.text.specs.Theory.Printed.{fields_apart}
use Rattle.text.specs.Theory.Accepted.{fitting_room, fitting_only}
use Rattle.text.specs.Theory.RenameText.{rename_prints, words_lines, left_value, right_value, wleft_value, wright_value, printable_values, text_lines}
use Rattle.catalogue.specs.Catalogue.{Entry}
use Rattle.catalogue.specs.Texts.{Key, raw, worded, key_name, Kind, lines_by, read_put}
use Rattle.catalogue.specs.Claims.{lines_under, PutOf, OneKind}
use Rattle.catalogue.specs.Theory.Written.{put_read}

-- the keys of the two lines
first_key : Key → String
first_key raw = "left="
first_key worded = "wleft="

second_key : Key → String
second_key raw = "right="
second_key worded = "wright="

-- the two lines that a key goes by, in the kind and in RENAME's answer
record Shown (k : Key) (j : Job) : Type 0 where
  first : List ℕ
  second : List ℕ
  first_printable : Printable first
  second_printable : Printable second
  lines : lines_by k j ≡ field (first_key k) first ++ field (second_key k) second
  under : lines_under k (rename_text j.left j.right) ≡ first ∷ second ∷ []

shown : (k : Key) (j : Job) → Shown k j
unfolding lines_by term_lines word_lines first_key second_key
shown raw j =
    let P = printable_values j.left j.right in
    let L = text_lines j.left j.right in
    record {
      first = left_value j.left j.right;
      second = right_value j.left j.right;
      first_printable = P.first;
      second_printable = P.second;
      lines = refl;
      under = ap₂ ◌++◌ L.left L.right;
    }
shown worded j =
    let P = printable_values j.left j.right in
    let L = text_lines j.left j.right in
    record {
      first = wleft_value j.left j.right;
      second = wright_value j.left j.right;
      first_printable = P.third;
      second_printable = P.fourth;
      lines = words_lines (words j.left) (words j.right);
      under = ap₂ ◌++◌ L.wleft L.wright;
    }

-- the kinds of two jobs have the same lines exactly where RENAME's answers do
abbrev Agree : (j i : Job) (k l : Key) → Type 0
Agree j i k l = (lines_by k j ≡ lines_by l i) ↔ (lines_under k (rename_text j.left j.right) ≡ lines_under l (rename_text i.left i.right))

same_lines : (k : Key) (j i : Job) → Agree j i k k
same_lines k j i = (
  λ e.
      let (p, q) = fields_apart (first_key k) (second_key k) (record {
        first = S.first_printable;
        second = S.second_printable;
        third = R.first_printable;
        fourth = R.second_printable;
      }) (sym S.lines ∙ e ∙ R.lines) in
      S.under ∙ ap₂ (λ u v. u ∷ v ∷ []) p q ∙ sym R.under,
  λ e.
      let f = sym S.under ∙ e ∙ R.under in
      let p : S.first ≡ R.first = cc in
      let q : S.second ≡ R.second = cc in
      S.lines ∙ ap₂ (λ u v. field (first_key k) u ++ field (second_key k) v) p q ∙ sym R.lines,
)
  where
    S : Shown k j
    S = shown k j

    R : Shown k i
    R = shown k i

-- of a put, its job and what RENAME answers to it
record Answered (e : Entry Kind) (t : List ℕ) : Type 0 where
  job : Job
  lines : e.kind.lines ≡ lines_by e.kind.key job
  text : t ≡ rename_text job.left job.right

put_answered : {bs : List ℕ} {e : Entry Kind} {t : List ℕ} → PutOf bs e t → Answered e t
put_answered {bs} {e} {t} P =
    let R = put_read P.read in
    let same : R.job ≡ P.job =
    append_cancel_left (field "key=" (key_name e.kind.key)) R.job P.job
    (append_cancel_left (field "number=" (number e.number)) _ _ (sym R.text ∙ P.text)) in
    record {
      job = R.equation;
      lines = R.lines;
      text = sym (fitting_only P.room (rename_text R.equation.left R.equation.right) (sym (rename_prints P.job P.room (rw same at R.accepted)) ∙ P.renamed));
    }

pub one_kind : OneKind
one_kind bs cs e f t u P Q = (
  λ p. let k = ap (λ m. m.key) p in (k, rw (A.text, B.text) ((agree e.kind.key f.kind.key k).0 (sym A.lines ∙ ap (λ m. m.lines) p ∙ B.lines))),
  λ (k, q).
      let l : e.kind.lines ≡ f.kind.lines = A.lines ∙ (agree e.kind.key f.kind.key k).1 (rw (A.text, B.text) at q) ∙ sym B.lines in
      λ i. record { key = k i; lines = l i },
)
  where
    A : Answered e t
    A = put_answered P

    B : Answered f u
    B = put_answered Q

    agree : (k l : Key) → k ≡ l → Agree A.job B.job k l
    agree k l p = subst (Agree A.job B.job k) p (same_lines k A.job B.job)

-- every put that is read is one of them, with RENAME's answer in any room that is large enough
pub put_of : {bs : List ℕ} {e : Entry Kind} → read_put bs ≡ accepted e → (t : List ℕ) × ((room : ℕ) → length t ≤ room → (P : PutOf bs e t) × (P.room ≡ room))
put_of f =
    let R = put_read f in (
      rename_text R.equation.left R.equation.right,
      λ room fits. (
        record {
          job = R.job;
          text = R.text;
          read = f;
          room = room;
          renamed = rename_prints R.job room R.accepted ∙ fitting_room room (rename_text R.equation.left R.equation.right) fits;
        },
        refl,
      ),
    )
