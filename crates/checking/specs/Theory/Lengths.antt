-- How long texts are at most.
use Rattle.std.specs.Prelude.{ℕ, suc, ◌+◌, ◌*◌, ◌≤◌, ◌<◌, ◌≡◌, refl, length}
use Rattle.std.proofs.Common.{arith, ap, ⊎_elim, length-append}
use Rattle.std.proofs.Math.Option.{some, none-ne-some}
use mathlib.Core.List.{List, [], ◌∷◌, ◌++◌, flat_map}
use Rattle.terms.specs.Lists.{◌∈◌, here, there, not-in-nil, cons-cases, in_map}
use Rattle.terms.specs.Term as term
use Rattle.terms.specs.Term.{Term, letter, one, add, mul, size}
use Rattle.search.specs.Law as law
use Rattle.search.specs.Law.{Law, Name}
use Rattle.search.specs.Line.{Line, Direction, forward, back, Side, l, r}
use Rattle.search.specs.Path.{subterm, IsLine, Path, end, step}
use Rattle.text.specs.Bytes.{ascii, parted}
use Rattle.text.specs.TermText.{Readable, write_term}
use Rattle.text.specs.Answer.{field}
use Rattle.text.specs.StepText.{law_name, direction, sides, place, step_value}
use Rattle.text.specs.Find as find
use Rattle.text.specs.Theory.Lengths.{term_length}
use Rattle.checking.specs.Check.{Derivation, terms_of, derivation_text}

name_length : (n : Name) → length (law_name n) ≤ 14
unfolding law_name ascii
name_length law.add_assoc = omega arith
name_length law.add_comm = omega arith
name_length law.add_zero_right = omega arith
name_length law.mul_assoc = omega arith
name_length law.mul_one_left = omega arith
name_length law.mul_one_right = omega arith
name_length law.left_distrib = omega arith
name_length law.right_distrib = omega arith
name_length law.zero_mul = omega arith
name_length law.mul_zero = omega arith

direction_length : (d : Direction) → length (direction d) ≤ 7
unfolding direction ascii
direction_length forward = omega arith
direction_length back = omega arith

sides_length : (p : List Side) → length (sides p) ≡ length p
unfolding sides ascii
sides_length [] = refl
sides_length (l ∷ p) = ap suc (sides_length p)
sides_length (r ∷ p) = ap suc (sides_length p)

place_length : (p : List Side) → length (place p) ≤ suc (length p)
unfolding place ascii
place_length [] = omega arith
place_length (d ∷ p) = omega (arith, sides_length (d ∷ p))

-- a place of a term has fewer sides than the term has nodes
pub place_size : (p : List Side) (s : Term) {a : Term} → subterm p s ≡ some a → length p < size s
unfolding subterm size
place_size [] (letter n) e = omega arith
place_size [] term.zero e = omega arith
place_size [] one e = omega arith
place_size [] (add s t) e = omega arith
place_size [] (mul s t) e = omega arith
place_size (l ∷ p) (letter n) e = absurd (none-ne-some _ e)
place_size (l ∷ p) term.zero e = absurd (none-ne-some _ e)
place_size (l ∷ p) one e = absurd (none-ne-some _ e)
place_size (l ∷ p) (add s t) e = omega (arith, place_size p s e)
place_size (l ∷ p) (mul s t) e = omega (arith, place_size p s e)
place_size (r ∷ p) (letter n) e = absurd (none-ne-some _ e)
place_size (r ∷ p) term.zero e = absurd (none-ne-some _ e)
place_size (r ∷ p) one e = absurd (none-ne-some _ e)
place_size (r ∷ p) (add s t) e = omega (arith, place_size p t e)
place_size (r ∷ p) (mul s t) e = omega (arith, place_size p t e)

-- so has the place of each line of a path between terms of at most n nodes
path_places : {ws : List Law} {s t : Term} {xs : List Line} (n : ℕ) → Path (IsLine ws) s xs t → size s ≤ n → ((x : Line) → x ∈ xs → size x.result ≤ n)
    → (x : Line) → x ∈ xs → length x.place < n
path_places n end small results x i = absurd (not-in-nil i)
path_places n (step {s = s} y h path) small results x i =
    ⊎_elim (λ (e : x ≡ y). rw e (omega (arith, place_size y.place s h.replaced))) (path_places n path (results y (here refl)) (λ z j. results z (there j)) x) (cons-cases i)

-- a step line with a place of at most 30 sides and a result of at most 31 nodes
step_length : (x : Line) → length x.place < 31 → Readable x.result → size x.result ≤ 31 → length (find.step x) ≤ 222
unfolding find.step field step_value parted ascii
step_length x short readable small =
    let law = law_name x.law in
    let way = direction x.direction in
    let at = ascii "at=" ++ place x.place in
    let to = ascii "to=" ++ write_term x.result in
    let value = law ++ (32 ∷ (way ++ (32 ∷ (at ++ (32 ∷ to))))) in
    omega (
      arith,
      length-append value (10 ∷ []),
      length-append law (32 ∷ (way ++ (32 ∷ (at ++ (32 ∷ to))))),
      length-append way (32 ∷ (at ++ (32 ∷ to))),
      length-append at (32 ∷ to),
      name_length x.law,
      direction_length x.direction,
      place_length x.place,
      term_length x.result readable,
    )

steps_length : (xs : List Line) → ((x : Line) → x ∈ xs → length (find.step x) ≤ 222) → length (flat_map find.step xs) ≤ 222 * length xs
unfolding flat_map
steps_length [] h = omega arith
steps_length (x ∷ xs) h = omega (arith, length-append (find.step x) (flat_map find.step xs), h x (here refl), steps_length xs (λ y i. h y (there i)))

side_length : (key : List ℕ) (t : Term) → Readable t → size t ≤ 31 → length (key ++ (write_term t ++ (10 ∷ []))) ≤ length key + 156
side_length key t readable small = omega (arith, length-append key (write_term t ++ (10 ∷ [])), length-append (write_term t) (10 ∷ []), term_length t readable)

-- a derivation of at most 16 lines, all terms of at most 31 nodes, is far below 8,192 bytes
pub derivation_short : {ws : List Law} (d : Derivation) → Path (IsLine ws) d.left d.path d.right → length d.path ≤ 16
    → ((t : Term) → t ∈ terms_of d → Readable t) → ((t : Term) → t ∈ terms_of d → size t ≤ 31) → length (derivation_text d) ≤ 8192
unfolding derivation_text field ascii
derivation_short d path few readable small =
    let first = ascii "left=" ++ (write_term d.left ++ (10 ∷ [])) in
    let second = ascii "right=" ++ (write_term d.right ++ (10 ∷ [])) in
    let result : (x : Line) → x ∈ d.path → x.result ∈ terms_of d = λ x i. there {x = d.left} (there {x = d.right} (in_map (λ (x : Line). x.result) i)) in
    let places = path_places 31 path (small d.left (here refl)) (λ x i. small x.result (result x i)) in
    let steps = steps_length d.path (λ x i. step_length x (places x i) (readable x.result (result x i)) (small x.result (result x i))) in
    omega (
      arith,
      length-append first (second ++ flat_map find.step d.path),
      length-append second (flat_map find.step d.path),
      side_length (ascii "left=") d.left (readable d.left (here refl)) (small d.left (here refl)),
      side_length (ascii "right=") d.right (readable d.right (there (here refl))) (small d.right (there (here refl))),
      steps,
    )
