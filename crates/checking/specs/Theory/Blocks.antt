-- The three kinds of line from every proved answer and every proved block of FIND are good.
use Rattle.std.specs.Prelude.{ℕ, ◌≤◌, ◌≡◌, refl, length}
use Prim.Native.String.{String}
use Rattle.std.proofs.Common.{arith, sym, ◌∙◌, ⊎_elim}
use Rattle.std.proofs.Math.Path.{ap}
use mathlib.Core.List.{List, [], ◌∷◌, ◌++◌, map, flat_map, filter_map, append-nil}
use Rattle.terms.specs.Lists.{◌∈◌, in_left, in_right}
use Rattle.terms.specs.Term.{Term, size}
use Rattle.terms.specs.Letters.{letters, rising, FIXED, variables}
use Rattle.terms.specs.Theory.Letters.{below_fewer}
use Rattle.terms.specs.Theory.Order.{irreflexive}
use Rattle.terms.specs.Theory.TermOrder.{term_order}
use Rattle.words.specs.Theory.Permutations.{of_flatMap}
use Rattle.search.specs.Law.{semiring}
use Rattle.search.specs.Line.{Line}
use Rattle.search.specs.Search.{Outcome, proved, unproved, search}
use Rattle.search.specs.Theory.Claims.{proved_short, proved_letters, proved_small}
use Rattle.text.specs.Bytes.{ascii, number, after, pieces}
use Rattle.text.specs.TermText.{Readable, write_term}
use Rattle.text.specs.Answer.{refused, accepted, field, printed, values}
use Rattle.text.specs.StepText.{step_value}
use Rattle.text.specs.Job.{Job, Accepted}
use Rattle.text.specs.Find.{step, outcome_text, block, find}
use Rattle.text.specs.Claims.{verdict, Answered, Block, answers, refuses}
use Rattle.checking.specs.Check.{Derivation, terms_of, good, check, derivation_text, Derives, lines_with, three_kinds}
use Rattle.text.specs.Theory.StepText.{semiring_told}
use Rattle.text.specs.Theory.StepLines.{proved_left, proved_right, proved_path}
use Rattle.text.specs.Theory.FindJobs.{jobs_accepted}
use Rattle.text.specs.Theory.Blocks.{answered}
use Rattle.text.specs.Theory.Answers.{path_named, result_readable}
use Rattle.checking.specs.Theory.Lengths.{derivation_short}
use Rattle.checking.specs.Theory.Read.{each_term}
use Rattle.checking.specs.Theory.Check.{checked_exact}

-- the derivation of a proved answer
abbrev derivation : Job → List Line → Derivation
derivation j xs = record { left = j.left; right = j.right; path = xs }

steps_lines : (xs : List Line) → flat_map (field "step=") (map step_value xs) ≡ flat_map step xs
unfolding flat_map step
steps_lines [] = refl
steps_lines (x ∷ xs) = ap (λ l. field "step=" (step_value x) ++ l) (steps_lines xs)

lines_text : (key : String) (t : List ℕ) (vs : List (List ℕ)) → values key t ≡ vs → lines_with key t ≡ flat_map (field key) vs
unfolding lines_with
lines_text key t vs e = ap (flat_map (field key)) e

one_line : (key : String) (t v : List ℕ) → values key t ≡ v ∷ [] → lines_with key t ≡ field key v
unfolding flat_map
one_line key t v e = lines_text key t (v ∷ []) e ∙ append-nil (field key v)

module _ {j : Job} {slots : ℕ} {t : List ℕ} (known : Accepted j) (a : Answered j slots t) (xs : List Line) (e n : ℕ) (p : a.outcome ≡ proved xs e n) where
  abbrev d : Derivation
  d = derivation j xs

  found : search semiring j.limits j.left j.right ≡ proved xs e n
  found = sym a.searched ∙ p

  differ : j.left ≡ j.right → ⊥
  differ = irreflexive term_order known.before

  all_readable : (u : Term) → u ∈ terms_of d → Readable u
  all_readable = each_term d Readable known.sides.readable_left known.sides.readable_right (result_readable j known xs e n found)

  each_small : (u : Term) → u ∈ terms_of d → size u ≤ 31
  each_small =
      each_term d (λ u. size u ≤ 31) known.sides.small_left known.sides.small_right λ x i.
      ⊎_elim (λ h. omega (arith, known.limits.size)) (λ (h : x.result ≡ j.right). rw h known.sides.small_right)
      (proved_small semiring j.limits j.left j.right differ xs e n found x i)

  -- no line brings in a letter
  no_other : (m : ℕ) → (u : Term) → u ∈ terms_of d → m ∈ letters u → m ∈ letters j.left ++ letters j.right
  no_other m =
      each_term d (λ u. m ∈ letters u → m ∈ letters j.left ++ letters j.right) (in_left (letters j.right)) (in_right (letters j.left)) λ x i k.
      ⊎_elim (λ covers. in_left (letters j.right) (covers m k)) (λ (h : x.result ≡ j.right). in_right (letters j.left) (rw h at k))
      (proved_letters semiring j.limits j.left j.right differ xs e n found x i)

  few_variables : length (rising (variables (flat_map letters (terms_of d)))) ≤ 6
  few_variables =
      omega (
        arith,
        known.sides.few,
        below_fewer FIXED (flat_map letters (terms_of d)) (letters j.left ++ letters j.right)
            (λ m i. let (u, h, k) = of_flatMap letters (terms_of d) i in no_other m u h k),
      )

  derives : Derives semiring (derivation_text d) d
  derives =
      let path = (a.claims.path xs e n found).0 in
      record {
        written = refl;
        short =
            derivation_short d path (omega (arith, proved_short semiring j.limits j.left j.right differ xs e n found, known.limits.steps))
            all_readable each_small;
        named = path_named path;
        readable = all_readable;
        small = each_small;
        few = few_variables;
      }

  kinds : three_kinds t ≡ derivation_text d
  unfolding three_kinds derivation_text
  kinds =
      let named = path_named (a.claims.path xs e n found).0 in
      let text = outcome_text semiring j (proved xs e n) in
      let left = one_line "left=" text (write_term j.left) (proved_left semiring semiring_told j xs e n named) in
      let right = one_line "right=" text (write_term j.right) (proved_right semiring semiring_told j xs e n named) in
      let steps = lines_text "step=" text (map step_value xs) (proved_path semiring semiring_told j xs e n named) ∙ steps_lines xs in
      ap three_kinds (a.printed ∙ ap (outcome_text semiring j) p)
      ∙ ap (λ l. l ++ (lines_with "right=" text ++ lines_with "step=" text)) left
      ∙ ap (λ l. field "left=" (write_term j.left) ++ (l ++ lines_with "step=" text)) right
      ∙ ap (λ l. field "left=" (write_term j.left) ++ (field "right=" (write_term j.right) ++ l)) steps

  pub answered_good : (space : ℕ) → length good ≤ space → check (three_kinds t) space ≡ accepted good
  answered_good space fits =
      let (path, positive, same_words) = a.claims.path xs e n found in
      rw kinds ((checked_exact (derivation_text d) space good).1 (record {
        derivation = d;
        derives = derives;
        chains = record { any = positive; path = path };
        fits = fits;
        answer = refl;
      }))

refused_says : values "answer=" (printed (refused 7)) ≡ ascii "refused" ∷ []
unfolding values printed field ascii number pieces after filter_map
refused_says = refl

-- a block that says proved
pub block_good : (j : Job) (slots : ℕ) → Accepted j → (t : List ℕ) → Block slots j t → values "answer=" t ≡ ascii "proved" ∷ []
    → (space : ℕ) → 12 ≤ space → check (three_kinds t) space ≡ accepted good
unfolding ascii good field
block_good j slots known t (answers a) says space fits = go a.outcome refl
  where
    go : (o : Outcome) → a.outcome ≡ o → check (three_kinds t) space ≡ accepted good
    go (proved xs k n) p = answered_good known a xs k n p space (omega arith)
    go (unproved k n) p =
        let both : verdict (unproved k n) ∷ [] ≡ ascii "proved" ∷ [] = rw p at (sym a.verdict) ∙ says in
        let z : ◌≡◌ {A = ℕ} 0 1 = cc in
        absurd (omega arith)
block_good j slots known t (refuses h e) says space fits =
    let both : ascii "refused" ∷ [] ≡ ascii "proved" ∷ [] = sym refused_says ∙ ap (values "answer=") (sym e) ∙ says in
    let z : ◌≡◌ {A = ℕ} 0 1 = cc in
    absurd (omega arith)

-- for every job, slots and room: every block of an answer of FIND that says proved; an answer to one right side is its block
pub find_good : (job : List ℕ) (slots room : ℕ) (t : List ℕ) (e : find job slots room ≡ accepted t)
    → (j : Job) → j ∈ (answered job slots room t e).jobs → values "answer=" (block slots j) ≡ ascii "proved" ∷ []
    → (space : ℕ) → 12 ≤ space → check (three_kinds (block slots j)) space ≡ accepted good
find_good job slots room t e j i says space fits =
    let a = answered job slots room t e in
    block_good j slots ((rw a.accepted at (jobs_accepted job)) j i) (block slots j) (a.each j i) says space fits
