-- A step line reads back as it is printed.
use Rattle.std.specs.Prelude.{ℕ, ◌≡◌, refl, true, List, [], ◌∷◌, ◌++◌, map}
use Prim.Native.Char.{code}
use Rattle.std.proofs.Common.{arith, sym, ◌∙◌, ⊎_elim}
use Rattle.std.proofs.Math.Path.{ap}
use Rattle.std.proofs.Math.Option.{some, bind}
use Rattle.terms.specs.Lists.{◌∈◌, not-in-nil, cons-cases}
use Rattle.terms.specs.Build.{read}
use Rattle.terms.specs.Theory.Build.{read_written}
use Rattle.search.specs.Law.{Law, Name, semiring}
use Rattle.search.specs.Line.{Line, Direction, forward, back, Side, l, r}
use Rattle.text.specs.Bytes.{ascii, parted, pieces}
use Rattle.text.specs.TermText.{Readable, items, write_term, token}
use Rattle.text.specs.StepText.{law_name, direction, sides, place, step_value, which, names}
use Rattle.text.specs.StepText.{read_law, read_direction, read_sides, read_place, read_pieces, read_step}
use Rattle.text.specs.Theory.AtLeast.{AtLeast, Printable, at_least, tested, higher, free, cons_least, append_least}
use Rattle.text.specs.Theory.Pieces.{pieces_behind, pieces_more}
use Rattle.text.specs.Theory.TermText.{written, items_first, pieces_items, write_term_least}

-- what holds of every item of a list, by evaluation of all of it
listed : {A B : Type 0} (f g : A → B) (xs : List A) → map f xs ≡ map g xs → (x : A) → x ∈ xs → f x ≡ g x
listed f g [] e x i = absurd (not-in-nil i)
listed f g (y ∷ ys) e x i =
    let first : f y ≡ g y = cc in
    let rest : map f ys ≡ map g ys = cc in
    ⊎_elim (λ (h : x ≡ y). rw h first) (listed f g ys rest x) (cons-cases i)

-- the names of these laws are read back, and no byte of them is below `*`
pub record Told (ws : List Law) : Type 0 where
  pub read : (n : Name) → n ∈ names ws → read_law ws (law_name n) ≡ some n
  pub plain : (n : Name) → n ∈ names ws → at_least (code "*") (law_name n) ≡ true

pub semiring_told : Told semiring
unfolding semiring read_law law_name which
semiring_told = record { read = listed _ _ (names semiring) refl; plain = listed _ _ (names semiring) refl }

read_direction_text : (d : Direction) → read_direction (direction d) ≡ some d
unfolding read_direction direction
read_direction_text forward = refl
read_direction_text back = refl

direction_least : (d : Direction) → AtLeast (code "*") (direction d)
unfolding direction
direction_least forward = tested _ _ tt
direction_least back = tested _ _ tt

read_sides_text : (p : List Side) → read_sides (sides p) ≡ some p
unfolding read_sides sides bind
read_sides_text [] = refl
read_sides_text (l ∷ p) = rw (read_sides_text p)
read_sides_text (r ∷ p) = rw (read_sides_text p)

sides_least : (p : List Side) → AtLeast (code "*") (sides p)
unfolding sides
sides_least [] = tested _ _ tt
sides_least (l ∷ p) = append_least _ (ascii "l") (tested _ _ tt) (sides_least p)
sides_least (r ∷ p) = append_least _ (ascii "r") (tested _ _ tt) (sides_least p)

read_place_text : (p : List Side) → read_place (place p) ≡ some p
unfolding read_place place sides
read_place_text [] = refl
read_place_text (l ∷ p) = read_sides_text (l ∷ p)
read_place_text (r ∷ p) = read_sides_text (r ∷ p)

place_least : (p : List Side) → AtLeast (code "*") (place p)
unfolding place
place_least [] = tested _ _ tt
place_least (d ∷ p) = sides_least (d ∷ p)

pub name_least : (ws : List Law) → Told ws → (n : Name) → n ∈ names ws → AtLeast (code "*") (law_name n)
name_least ws told n i = tested _ _ (rw (told.plain n i) tt)

module _ (ws : List Law) (told : Told ws) (x : Line) (named : x.law ∈ names ws) where
  law_least : AtLeast (code "*") (law_name x.law)
  law_least = name_least ws told x.law named

  at_least_place : AtLeast (code "*") (ascii "at=" ++ place x.place)
  unfolding ascii
  at_least_place = append_least _ (ascii "at=") (tested _ _ tt) (place_least x.place)

  pub step_value_printable : Printable (step_value x)
  unfolding step_value parted
  step_value_printable =
      append_least _ (law_name x.law) (higher (omega arith) law_least)
      (cons_least _ (omega arith)
      (append_least _ (direction x.direction) (higher (omega arith) (direction_least x.direction))
      (cons_least _ (omega arith)
      (append_least _ (ascii "at=" ++ place x.place) (higher (omega arith) at_least_place)
      (cons_least _ (omega arith) (append_least _ (ascii "to=") (tested _ _ tt) (write_term_least x.result)))))))

  value_pieces : (p : List ℕ) (ps : List (List ℕ)) → items x.result ≡ p ∷ ps
      → pieces (code " ") (step_value x) ≡ law_name x.law ∷ direction x.direction ∷ (ascii "at=" ++ place x.place) ∷ (ascii "to=" ++ p) ∷ ps
  unfolding step_value parted
  value_pieces p ps e =
      pieces_more (code " ") (law_name x.law) _ (free (omega arith) law_least)
      ∙ ap (λ qs. law_name x.law ∷ qs)
      (pieces_more (code " ") (direction x.direction) _ (free (omega arith) (direction_least x.direction))
      ∙ ap (λ qs. direction x.direction ∷ qs)
      (pieces_more (code " ") (ascii "at=" ++ place x.place) _ (free (omega arith) at_least_place)
      ∙ ap (λ qs. (ascii "at=" ++ place x.place) ∷ qs)
      (pieces_behind (code " ") (ascii "to=") (write_term x.result) p ps (free (omega arith) (tested (code "*") _ tt))
      (pieces_items x.result ∙ e))))

  pub read_step_value : Readable x.result → read_step ws (step_value x) ≡ some x
  unfolding read_step read_pieces bind
  read_step_value readable =
      let (p, ps, e) = items_first x.result in
      let result : read token (p ∷ ps) ≡ some x.result = ap (read token) (sym e) ∙ read_written written x.result readable in
      rw (value_pieces p ps e, told.read x.law named, read_direction_text x.direction, read_place_text x.place, result)
