-- Each block is FIND's answer to a text with its right side alone: the left line, that right line and the limits' lines.
use Rattle.std.specs.Prelude.{ℕ, suc, ◌≤◌, ◌≡◌, Bool, true, false, not, T, leb}
use Prim.Native.String.{String}
use Rattle.std.proofs.Common.{arith, ◌∙◌, ⊎_elim, leb→le, le-leb}
use Rattle.std.proofs.Math.Path.{refl, sym, ap}
use Rattle.std.proofs.Math.Option.{Option, none, some, bind as ◌then◌}
use mathlib.Core.List.{List, [], ◌∷◌, ◌++◌, map, flat_map, append_assoc}
use Rattle.std.proofs.Math.ListN.{length, length-append}
use Rattle.terms.specs.Lists.{◌∈◌, here, there, not-in-nil, cons-cases}
use Rattle.terms.specs.Term.{Term, size, same}
use Rattle.terms.specs.Letters.{letters}
use Rattle.search.specs.Line.{Limits}
use Rattle.text.specs.Bytes.{ascii, after, up_to, line, Split}
use Rattle.text.specs.Layout.{keyed, limit_lines, layout}
use Rattle.text.specs.TermText.{read_term}
use Rattle.text.specs.Answer.{Answer, refused, accepted, ◌>>=◌, require, or_refuse, fitting, field, printed}
use Rattle.text.specs.Job.{Job, in_range, few, oriented}
use Rattle.text.specs.FindJob.{Repeated, repeated, Layouts, layouts, alone_text, alone_texts, read_terms, every, several, in_place, accept_each, read_find}
use Rattle.text.specs.Find.{alone, block, together, find}
use Rattle.text.specs.Theory.Accepted.{If_accepted, accepted_then, required_then, or_refuse_some}
use Rattle.text.specs.Theory.Keyed.{some_then, Read, KeyedParts, keyed_parts}
use Rattle.text.specs.Theory.OneRight.{layout_layouts}
use Rattle.text.specs.Theory.FindJobs.{Passed, accept_each_then}

-- the lines with one key

record RepeatedParts (key : String) (bs : List ℕ) (r : Repeated) : Type 0 where
  parts : bs ≡ flat_map (field key) r.values ++ r.rest
  again : (v : List ℕ) → v ∈ r.values → Read key v

repeated_parts : (key : String) (k : ℕ) (bs : List ℕ) → RepeatedParts key bs (repeated key k bs)
unfolding repeated flat_map
repeated_parts key ℕ.zero bs = record { parts = refl; again = λ v m. absurd (not-in-nil m) }
repeated_parts key (suc k) bs = go (keyed key bs) refl (λ c. repeated_parts key k c.rest)
  where
    read : Option Split → Repeated
    read o = elim o [ none ↦ record { values = []; rest = bs } | some c ↦ let r = repeated key k c.rest in record { values = c.front ∷ r.values; rest = r.rest } ]

    go : (o : Option Split) → keyed key bs ≡ o → ((c : Split) → RepeatedParts key c.rest (repeated key k c.rest)) → RepeatedParts key bs (read o)
    go none q h = record { parts = refl; again = λ v m. absurd (not-in-nil m) }
    go (some c) q h =
        let p = keyed_parts key bs q in
        let r = h c in
        let more = repeated key k c.rest in
        record {
          parts = p.parts ∙ ap (λ l. field key c.front ++ l) r.parts ∙ sym (append_assoc (field key c.front) (flat_map (field key) more.values) more.rest);
          again = λ v m. ⊎_elim (λ (e : v ≡ c.front). rw e p.again) (r.again v) (cons-cases m);
        }

-- as many lines as the text has bytes are enough: no line with the key is left
keyed_empty : (key : String) → keyed key [] ≡ none
unfolding keyed ◌then◌ after line up_to
keyed_empty key = go (ascii key)
  where
    go : (ks : List ℕ) → ◌then◌ (after ks []) line ≡ none
    go [] = refl
    go (k ∷ ks) = refl

-- a line has a byte at least
field_some : (key : String) (v : List ℕ) → 1 ≤ length (field key v)
unfolding field
field_some key v = omega (arith, length-append (ascii key) (v ++ (10 ∷ [])), length-append v (10 ∷ []))

pub repeated_all : (key : String) (k : ℕ) (bs : List ℕ) → length bs ≤ k → keyed key (repeated key k bs).rest ≡ none
unfolding repeated
repeated_all key ℕ.zero [] h = keyed_empty key
repeated_all key ℕ.zero (b ∷ bs) h = absurd (omega arith)
repeated_all key (suc k) bs h = go (keyed key bs) refl (λ c l. repeated_all key k c.rest l)
  where
    read : Option Split → Repeated
    read o = elim o [ none ↦ record { values = []; rest = bs } | some c ↦ let r = repeated key k c.rest in record { values = c.front ∷ r.values; rest = r.rest } ]

    go : (o : Option Split) → keyed key bs ≡ o → ((c : Split) → length c.rest ≤ k → keyed key (repeated key k c.rest).rest ≡ none) → keyed key (read o).rest ≡ none
    go none q on = q
    go (some c) q on =
        on c (omega (arith, ap length (keyed_parts key bs q).parts, length-append (field key c.front) c.rest, field_some key c.front))

-- one of many parts is no longer than all of them
part_shorter : {A B : Type 0} (f : A → List B) (xs : List A) (x : A) → x ∈ xs → length (f x) ≤ length (flat_map f xs)
unfolding flat_map
part_shorter f [] x m = absurd (not-in-nil m)
part_shorter f (y ∷ ys) x m =
    ⊎_elim
    (λ (e : x ≡ y). rw e (omega (arith, length-append (f y) (flat_map f ys))))
    (λ n. omega (arith, length-append (f y) (flat_map f ys), part_shorter f ys x n))
    (cons-cases m)

-- the lines of a job, and those of the jobs with one of its right sides
pub record LayoutParts (bs : List ℕ) (j : Layouts) : Type 0 where
  -- the limits' lines as they are written
  pub limits : List ℕ
  pub parts : bs ≡ field "left=" j.left ++ (flat_map (field "right=") j.rights ++ limits)
  pub alone : (right : List ℕ) → right ∈ j.rights
      → layouts (alone_text j.left right limits) ≡ some (record { left = j.left; rights = right ∷ []; limits = j.limits })
  pub shorter : (right : List ℕ) → right ∈ j.rights → length (alone_text j.left right limits) ≤ length bs

-- one line read after another
layout_alone : (left right limits : List ℕ) (m : Limits) → Read "left=" left → Read "right=" right → limit_lines limits ≡ some m
    → layout (alone_text left right limits) ≡ some (record { left = left; right = right; limits = m })
unfolding layout ◌then◌
layout_alone left right limits m h k e = rw (h (field "right=" right ++ limits), k limits, e)

module _ (bs : List ℕ) (a r : Split) (p : KeyedParts "left=" bs a) (q : KeyedParts "right=" a.rest r) (more : Repeated) (s : RepeatedParts "right=" r.rest more) where
  abbrev rights : List (List ℕ)
  rights = r.front ∷ more.values

  all_lines : bs ≡ field "left=" a.front ++ (flat_map (field "right=") rights ++ more.rest)
  unfolding flat_map
  all_lines =
      p.parts
      ∙ ap (λ l. field "left=" a.front ++ l)
      (q.parts ∙ ap (λ l. field "right=" r.front ++ l) s.parts ∙ sym (append_assoc (field "right=" r.front) (flat_map (field "right=") more.values) more.rest))

  read_right : (v : List ℕ) → v ∈ rights → Read "right=" v
  read_right v m = ⊎_elim (λ (e : v ≡ r.front). rw e q.again) (s.again v) (cons-cases m)

  alone_shorter : (v : List ℕ) → v ∈ rights → length (alone_text a.front v more.rest) ≤ length bs
  alone_shorter v m =
      omega (
        arith,
        ap length all_lines,
        length-append (field "left=" a.front) (field "right=" v ++ more.rest),
        length-append (field "right=" v) more.rest,
        length-append (field "left=" a.front) (flat_map (field "right=") rights ++ more.rest),
        length-append (flat_map (field "right=") rights) more.rest,
        part_shorter (field "right=") rights v m,
      )

  layout_parts : (m : Limits) → limit_lines more.rest ≡ some m → LayoutParts bs (record { left = a.front; rights = rights; limits = m })
  layout_parts m e =
      record {
        limits = more.rest;
        parts = all_lines;
        alone = λ v i.
            layout_layouts (alone_text a.front v more.rest) (record { left = a.front; right = v; limits = m })
            (layout_alone a.front v more.rest m p.again (read_right v i) e);
        shorter = alone_shorter;
      }

pub layouts_parts : (bs : List ℕ) (j : Layouts) → layouts bs ≡ some j → LayoutParts bs j
unfolding layouts ◌then◌
layouts_parts bs j e =
    some_then (keyed "left=" bs) _ e λ a read_left e.
    some_then (keyed "right=" a.rest) _ e λ r read_right e.
    let more = repeated "right=" (length r.rest) r.rest in
    some_then (limit_lines more.rest) _ e λ m limits e.
    let whole : ◌≡◌ {A = Layouts} (record { left = a.front; rights = r.front ∷ more.values; limits = m }) j = cc in
    rw whole at
    (layout_parts bs a r (keyed_parts "left=" bs read_left) (keyed_parts "right=" a.rest read_right) more (repeated_parts "right=" (length r.rest) r.rest) m limits)

-- to each right side the term that was read from it
read_each : (text : List ℕ → List ℕ) (job : Term → Job) (bs : List (List ℕ)) (ts : List Term) → read_terms bs ≡ some ts
    → ((b : List ℕ) (t : Term) → b ∈ bs → t ∈ ts → read_term b ≡ some t → read_find (text b) ≡ accepted (job t ∷ []))
    → map read_find (map text bs) ≡ map (λ j. accepted (j ∷ [])) (map job ts)
unfolding read_terms ◌then◌
read_each text job [] ts e same =
    let q : ◌≡◌ {A = List Term} [] ts = cc in
    rw (← q)
read_each text job (b ∷ bs) ts e same =
    some_then (read_term b) _ e λ u read_first e.
    some_then (read_terms bs) _ e λ us read-rest e.
    let q : u ∷ us ≡ ts = cc in
    rw (
      ← q,
      same b u (here refl) (rw (← q) (here refl)) read_first,
      read_each text job bs us read-rest (λ c t i k. same c t (there i) (rw (← q) (there k))),
    )

passed : (b : Bool) → T b → b ≡ true
passed true h = refl
passed false h = absurd h

-- an equation that passes refusals 3 to 6 does so alone
accept_alone : (s t : Term) (m : Limits) → Passed s t m → accept_each s (t ∷ []) m ≡ accepted (oriented s t m ∷ [])
unfolding accept_each every in_place several ◌>>=◌ require
accept_alone s t m p =
    rw (
      passed (leb (size s) 31) p.small_left,
      passed (leb (size t) 31) p.small_right,
      passed (few (letters s ++ letters t)) p.few,
      passed (in_range m) p.limits,
      passed (not (same s t)) p.differ,
    )

read_alone : (bs : List ℕ) (left right : List ℕ) (s t : Term) (m : Limits) → length bs ≤ 4096
    → layouts bs ≡ some (record { left = left; rights = right ∷ []; limits = m }) → read_term left ≡ some s → read_term right ≡ some t
    → read_find bs ≡ accept_each s (t ∷ []) m
unfolding read_find read_terms ◌>>=◌ require or_refuse ◌then◌
read_alone bs left right s t m short laid read-s read-t = rw (le-leb (length bs) 4096 short, laid, read-s, read-t)

-- each of the jobs is that of the text with its right line alone
pub record ReadAlone (bs : List ℕ) (js : List Job) : Type 0 where
  pub written : Layouts
  pub laid : layouts bs ≡ some written
  pub lines : LayoutParts bs written
  pub read : map read_find (alone_texts written lines.limits) ≡ map (λ j. accepted (j ∷ [])) js

pub jobs_alone : (bs : List ℕ) → If_accepted (ReadAlone bs) (read_find bs)
unfolding read_find
jobs_alone bs =
    required_then (ReadAlone bs) 1 (leb (length bs) 4096) _ λ short.
    accepted_then (ReadAlone bs) (or_refuse 1 (layouts bs)) _ λ l read-l.
    required_then (ReadAlone bs) 9 (leb (length l.rights) 16) _ λ _.
    accepted_then (ReadAlone bs) (or_refuse 2 (read_term l.left)) _ λ s read-s.
    accepted_then (ReadAlone bs) (or_refuse 2 (read_terms l.rights)) _ λ ts read-ts.
    accept_each_then s l.limits (ReadAlone bs) ts λ each _.
    let laid = or_refuse_some 1 (layouts bs) l read-l in
    let parts = layouts_parts bs l laid in
    let text : List ℕ → List ℕ = λ r. alone_text l.left r parts.limits in
    record {
      written = l;
      laid = laid;
      lines = parts;
      read = read_each text (λ t. oriented s t l.limits) l.rights ts (or_refuse_some 2 (read_terms l.rights) ts read-ts) λ r t k i read-t.
          read_alone (text r) l.left r s t l.limits (omega (arith, parts.shorter r k, leb→le (length bs) 4096 short))
          (parts.alone r k) (or_refuse_some 2 (read_term l.left) s read-s) read-t
          ∙ accept_alone s t l.limits (each t i);
    }

module _ (slots room : ℕ) where
  printed_fitting : (a : Answer (List ℕ)) → length (printed a) ≤ room → printed (◌>>=◌ a (fitting room)) ≡ printed a
  unfolding printed ◌>>=◌ fitting require
  printed_fitting (refused n) h = refl
  printed_fitting (accepted t) h = rw (le-leb (length t) room h)

  -- the block of a job is what FIND prints to a text that is read as this job, where there is room for it
  pub block_alone : (bs : List ℕ) (j : Job) → read_find bs ≡ accepted (j ∷ []) → length (block slots j) ≤ room → printed (find bs slots room) ≡ block slots j
  unfolding find together ◌>>=◌ block
  block_alone bs j e h = rw e (printed_fitting (alone slots j) h)

  -- likewise of several texts
  pub blocks_alone : (texts : List (List ℕ)) (js : List Job) → map read_find texts ≡ map (λ j. accepted (j ∷ [])) js
      → length (flat_map (block slots) js) ≤ room → map (λ text. printed (find text slots room)) texts ≡ map (block slots) js
  unfolding flat_map
  blocks_alone [] [] e h = refl
  blocks_alone [] (j ∷ js) e h = absurd (let z = ap length e in omega arith)
  blocks_alone (t ∷ ts) [] e h = absurd (let z = ap length e in omega arith)
  blocks_alone (t ∷ ts) (j ∷ js) e h =
      let first : read_find t ≡ accepted (j ∷ []) = cc in
      let rest : map read_find ts ≡ map (λ j. accepted (j ∷ [])) js = cc in
      let both = length-append (block slots j) (flat_map (block slots) js) in
      rw (block_alone t j first (omega (arith, both)), blocks_alone ts js rest (omega (arith, both)))
