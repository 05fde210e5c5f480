-- A job passes 1 to 6 exactly if it is the text of an equation that passes 2 to 4 and 6, with limits that pass 5: read is just what is
-- written. What is known of an accepted job.
use Rattle.std.specs.Prelude.{ℕ, ◌+◌, ◌≤◌, ◌≡◌, refl, ◌↔◌, not, ◌&&◌, List, [], ◌++◌, length, leb}
use Prim.Native.String.{String}
use Rattle.std.proofs.Common.{arith, sym, ◌∙◌, ap, ap₂, append-nil, length-append, leb→le, le-leb}
use Rattle.std.proofs.Math.Option.{some, bind}
use Rattle.terms.specs.Term.{Term, size, same}
use Rattle.terms.specs.Letters.{letters, rising, variables}
use Rattle.terms.specs.Theory.Reflects.{both}
use Rattle.terms.specs.Theory.TermOrder.{told_apart, apart}
use Rattle.search.specs.Line.{Limits}
use Rattle.text.specs.Bytes.{ascii, number, read_number, end}
use Rattle.text.specs.TermText.{write_term, read_term}
use Rattle.text.specs.Answer.{accepted, ◌>>=◌, require, or_refuse, field}
use Rattle.text.specs.Layout.{keyed, Stated, limit_line, limit_lines, Layout, layout}
use Rattle.text.specs.Job.{Job, in_range, few, oriented, accept, read_one, read_job, In_range, Fit, Accepted}
use Rattle.text.specs.JobText.{limits_text, job_lines, job_text, Passes}
use Rattle.text.specs.Theory.AtLeast.{Printable, higher}
use Rattle.text.specs.Theory.Numbers.{number_least, read_number_number, read_number_only}
use Rattle.text.specs.Theory.TermText.{write_term_least, read_write}
use Rattle.text.specs.Theory.Lengths.{number_digits, term_length}
use Rattle.text.specs.Theory.Readable.{Writes, read_writes}
use Rattle.text.specs.Theory.Keyed.{some_then, end_only, keyed_parts, keyed_field}
use Rattle.text.specs.Theory.Printed.{term_apart}
use Rattle.text.specs.Theory.Accepted.{If_accepted, if_accepted_map, required_then, found_then}
use Rattle.text.specs.Theory.Jobs.{in_range_true, oriented_accepted}

-- a line with a number was so written
pub limit_parts : (key : String) (bs : List ℕ) {n : Stated} → limit_line key bs ≡ some n → bs ≡ field key (number n.number) ++ n.rest
unfolding limit_line bind
limit_parts key bs {n} e =
    some_then (keyed key bs) _ e λ c read e.
    some_then (read_number c.front) _ e λ m digits e.
    let whole : ◌≡◌ {A = Stated} (record { number = m; rest = c.rest }) n = cc in
    rw (← whole) ((keyed_parts key bs read).parts ∙ ap (λ v. field key v ++ c.rest) (read_number_only c.front digits))

-- and is read so
pub limit_field : (key : String) (n : ℕ) (bs : List ℕ) → limit_line key (field key (number n) ++ bs) ≡ some (record { number = n; rest = bs })
unfolding limit_line bind
limit_field key n bs = rw (keyed_field key (number n) bs (higher (omega arith) (number_least n)), read_number_number n)

-- and so is one that nothing follows
pub limit_last : (key : String) (n : ℕ) → limit_line key (field key (number n)) ≡ some (record { number = n; rest = [] })
limit_last key n = ap (limit_line key) (sym (append-nil (field key (number n)))) ∙ limit_field key n []

-- the limits' lines

limits_only : (bs : List ℕ) {m : Limits} → limit_lines bs ≡ some m → bs ≡ limits_text m
unfolding limit_lines limits_text bind
limits_only bs e =
    some_then (limit_line "steps=" bs) _ e λ s steps e.
    some_then (limit_line "size=" s.rest) _ e λ z size e.
    some_then (limit_line "depth=" z.rest) _ e λ d depth e.
    some_then (limit_line "nodes=" d.rest) _ e λ n nodes e.
    let (nil, same) = end_only _ n.rest e in
    rw (← same)
    (limit_parts "steps=" bs steps
    ∙ ap (λ l. field "steps=" (number s.number) ++ l) (limit_parts "size=" s.rest size
    ∙ ap (λ l. field "size=" (number z.number) ++ l) (limit_parts "depth=" z.rest depth
    ∙ ap (λ l. field "depth=" (number d.number) ++ l) (limit_parts "nodes=" d.rest nodes ∙ rw nil (append-nil (field "nodes=" (number n.number)))))))

limits_read : (m : Limits) → limit_lines (limits_text m) ≡ some m
unfolding limit_lines limits_text bind end
limits_read m =
    rw (limit_field "steps=" m.steps, limit_field "size=" m.size, limit_field "depth=" m.depth, limit_last "nodes=" m.nodes)

-- all six lines

layout_only : (bs : List ℕ) {w : Layout} → layout bs ≡ some w → bs ≡ job_lines w.left w.right w.limits
unfolding layout job_lines bind
layout_only bs {w} e =
    some_then (keyed "left=" bs) _ e λ l left e.
    some_then (keyed "right=" l.rest) _ e λ r right e.
    some_then (limit_lines r.rest) _ e λ m limits e.
    let whole : ◌≡◌ {A = Layout} (record { left = l.front; right = r.front; limits = m }) w = cc in
    rw (← whole)
    ((keyed_parts "left=" bs left).parts
    ∙ ap (λ k. field "left=" l.front ++ k) ((keyed_parts "right=" l.rest right).parts ∙ ap (λ k. field "right=" r.front ++ k) (limits_only r.rest limits)))

layout_read : (left right : List ℕ) (m : Limits) → Printable left → Printable right
    → layout (job_lines left right m) ≡ some (record { left = left; right = right; limits = m })
unfolding layout job_lines bind
layout_read left right m h k =
    rw (keyed_field "left=" left (field "right=" right ++ limits_text m) h, keyed_field "right=" right (limits_text m) k, limits_read m)

layout_text : (s t : Term) (m : Limits) → layout (job_text s t m) ≡ some (record { left = write_term s; right = write_term t; limits = m })
unfolding job_text
layout_text s t m = layout_read (write_term s) (write_term t) m (write_term_least s) (write_term_least t)

-- it is not too long

field_length : (key : String) (v bs : List ℕ) → length (field key v ++ bs) ≡ length (ascii key) + length v + 1 + length bs
unfolding field
field_length key v bs = simp length-append (omega arith)

last_length : (key : String) (v : List ℕ) → length (field key v) ≡ length (ascii key) + length v + 1
unfolding field
last_length key v = simp length-append (omega arith)

job_short : (s t : Term) (m : Limits) → Fit s t → In_range m → length (job_text s t m) ≤ 1024
unfolding job_text job_lines limits_text ascii
job_short s t m fit range =
    simp (field_length, last_length)
    (omega (
      arith,
      term_length s fit.readable_left,
      term_length t fit.readable_right,
      fit.small_left,
      fit.small_right,
      number_digits 3 m.steps (omega (arith, range.steps)),
      number_digits 3 m.size (omega (arith, range.size)),
      number_digits 3 m.depth (omega (arith, range.depth)),
      number_digits 3 m.nodes (omega (arith, range.nodes)),
    ))

-- no refusal applies
text_read : (s t : Term) (m : Limits) → Fit s t → In_range m → (s ≡ t → ⊥) → read_job (job_text s t m) ≡ accepted (oriented s t m)
unfolding read_job read_one accept in_range ◌>>=◌ require or_refuse
text_read s t m fit range differ =
    rw (
      le-leb (length (job_text s t m)) 1024 (job_short s t m fit range),
      layout_text s t m,
      read_write s fit.readable_left,
      read_write t fit.readable_right,
      le-leb (size s) 31 fit.small_left,
      le-leb (size t) 31 fit.small_right,
      le-leb (length (rising (variables (letters s ++ letters t)))) 6 fit.few,
      le-leb m.steps 16 range.steps,
      le-leb m.size 31 range.size,
      le-leb m.depth 15 range.depth,
      le-leb m.nodes 4096 range.nodes,
      told_apart s t differ,
    )

-- the equation that an accepted job states
abbrev pub Says : List ℕ → Job → Type 0
Says bs j = (s : Term) × (t : Term) × (m : Limits) × Passes bs s t m × (j ≡ oriented s t m)

written : (bs : List ℕ) {t : Term} → read_term bs ≡ some t → Writes bs t
written bs e = rw e at (read_writes bs)

job_says : (bs : List ℕ) → If_accepted (Says bs) (read_job bs)
unfolding read_job read_one accept job_text
job_says bs =
    required_then (Says bs) 1 (leb (length bs) 1024) _ λ _.
    found_then (Says bs) 1 (layout bs) _ λ w laid.
    found_then (Says bs) 2 (read_term w.left) _ λ s left.
    found_then (Says bs) 2 (read_term w.right) _ λ t right.
    required_then (Says bs) 3 (leb (size s) 31 && leb (size t) 31) _ λ small.
    required_then (Says bs) 4 (few (letters s ++ letters t)) _ λ lettered.
    required_then (Says bs) 5 (in_range w.limits) _ λ limits.
    required_then (Says bs) 6 (not (same s t)) _ λ differ.
    let (readable-s, text-s) = written w.left left in
    let (readable-t, text-t) = written w.right right in
    let (small-s, small-t) = both (leb (size s) 31) (leb (size t) 31) small in (
      s,
      t,
      w.limits,
      record {
        text = layout_only bs laid ∙ ap₂ (λ l r. job_lines l r w.limits) text-s text-t;
        sides = record {
          small_left = leb→le (size s) 31 small-s;
          small_right = leb→le (size t) 31 small-t;
          few = leb→le _ 6 lettered;
          readable_left = readable-s;
          readable_right = readable-t;
        };
        limits = in_range_true w.limits limits;
        differ = apart differ;
      },
      refl,
    )

-- accepted are exactly the texts of equations that pass, with their sides in order
pub job_exact : (bs : List ℕ) (j : Job) → (read_job bs ≡ accepted j) ↔ Says bs j
job_exact bs j = (
  λ e. rw e at (job_says bs),
  λ (s, t, m, p, e). ap read_job p.text ∙ text_read s t m p.sides p.limits p.differ ∙ ap accepted (sym e),
)

-- a job states one equation, with one set of limits
pub passes_once : {bs : List ℕ} {s t u v : Term} {m n : Limits} → Passes bs s t m → Passes bs u v n → (s ≡ u) × (t ≡ v) × (m ≡ n)
passes_once {bs} {s} {t} {u} {v} {m} {n} p q =
    let e = sym (ap layout p.text ∙ layout_text s t m) ∙ ap layout q.text ∙ layout_text u v n in
    let same : ◌≡◌ {A = Layout} (record { left = write_term s; right = write_term t; limits = m }) (record { left = write_term u; right = write_term v; limits = n }) = cc in (
      term_apart p.sides.readable_left q.sides.readable_left (ap (λ w. w.left) same),
      term_apart p.sides.readable_right q.sides.readable_right (ap (λ w. w.right) same),
      ap (λ w. w.limits) same,
    )

pub passes_read : {bs : List ℕ} {s t : Term} {m : Limits} → Passes bs s t m → read_job bs ≡ accepted (oriented s t m)
passes_read {bs} {s} {t} {m} p = (job_exact bs (oriented s t m)).1 (s, t, m, p, refl)

pub job_accepted : (bs : List ℕ) → If_accepted Accepted (read_job bs)
job_accepted bs =
    if_accepted_map (read_job bs) (λ j (s, t, m, p, e). rw e (oriented_accepted s t m p.sides p.limits p.differ)) (job_says bs)
