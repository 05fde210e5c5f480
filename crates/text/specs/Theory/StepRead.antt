-- A step line that is read was written as it is printed.
use Rattle.std.specs.Prelude.{ℕ, ◌≡◌, refl, Bool, true, false, eqb}
use Prim.Native.Char.{code}
use Rattle.std.proofs.Common.{sym, ◌∙◌, ap}
use Rattle.std.proofs.Math.Option.{Option, none, some, or_else, bind, bind-eq-some_iff, none-ne-some}
use mathlib.Core.List.{List, [], ◌∷◌, ◌++◌, cons-ne-nil, append-nil}
use Rattle.terms.specs.Build.{read}
use Rattle.terms.specs.Theory.Reflects.{Reflects, eqb_reflects}
use Rattle.search.specs.Law.{Law, Name}
use Rattle.search.specs.Line.{Line, Direction, forward, back, Side, l, r}
use Rattle.text.specs.Bytes.{ascii, after, end, parted, pieces}
use Rattle.text.specs.TermText.{items, write_term, token}
use Rattle.text.specs.StepText.{law_name, direction, sides, place, step_value, which, names}
use Rattle.text.specs.StepText.{read_law, read_direction, read_side, read_sides, read_place, read_pieces, read_step}
use Rattle.text.specs.Theory.Pieces.{parted_behind, parted_pieces}
use Rattle.text.specs.Theory.Readable.{read_spells}
use Rattle.text.specs.Theory.Keyed.{some_then, after_only, end_only}

pub which_only : {A : Type 0} (text : A → List ℕ) (xs : List A) (bs : List ℕ) {x : A} → which text xs bs ≡ some x → bs ≡ text x
unfolding which
which_only text [] bs e = absurd (none-ne-some _ e)
which_only {A} text (y ∷ ys) bs {x} e = go (bind (after (text y) bs) (end y)) refl e (which_only text ys bs)
  where
    go : (o : Option A) → bind (after (text y) bs) (end y) ≡ o → or_else o (which text ys bs) ≡ some x → (which text ys bs ≡ some x → bs ≡ text x) → bs ≡ text x
    go none d e rest = rest e
    go (some z) d e rest =
        let (v, f, g) = (bind-eq-some_iff (after (text y) bs) (end y)).0 d in
        let (nil, same) = end_only y v g in
        let found : y ≡ x = cc in
        after_only (text y) bs f ∙ rw (nil, found) (append-nil (text x))

pub law_only : (ws : List Law) (bs : List ℕ) {n : Name} → read_law ws bs ≡ some n → bs ≡ law_name n
unfolding read_law
law_only ws bs e = which_only law_name (names ws) bs e

pub direction_only : (bs : List ℕ) {d : Direction} → read_direction bs ≡ some d → bs ≡ direction d
unfolding read_direction
direction_only bs e = which_only direction (forward ∷ back ∷ []) bs e

side_only : (b : ℕ) {d : Side} → read_side b ≡ some d → (p : List Side) → sides (d ∷ p) ≡ b ∷ sides p
unfolding read_side sides
side_only b {d} e p = go (eqb b (code "l")) (eqb_reflects b (code "l")) (eqb b (code "r")) (eqb_reflects b (code "r")) e
  where
    go : (s : Bool) → Reflects (b ≡ code "l") s → (t : Bool) → Reflects (b ≡ code "r") t
        → elim s [ true ↦ some l | false ↦ elim t [ true ↦ some r | false ↦ none ] ] ≡ some d → sides (d ∷ p) ≡ b ∷ sides p
    go true h t k e = let found : d ≡ l = cc in rw (found, h)
    go false h true k e = let found : d ≡ r = cc in rw (found, k)
    go false h false k e = absurd (none-ne-some _ e)

sides_only : (bs : List ℕ) {p : List Side} → read_sides bs ≡ some p → bs ≡ sides p
unfolding read_sides sides
sides_only [] {p} e = let whole : p ≡ [] = cc in rw whole
sides_only (b ∷ bs) {p} e =
    let (d, f, g) = (bind-eq-some_iff (read_side b) _).0 e in
    let (q, h, i) = (bind-eq-some_iff (read_sides bs) _).0 g in
    let whole : p ≡ d ∷ q = cc in
    rw whole (ap (λ l. b ∷ l) (sides_only bs h) ∙ sym (side_only b f q))

pub place_only : (bs : List ℕ) {p : List Side} → read_place bs ≡ some p → bs ≡ place p
unfolding read_place place sides
place_only [] e = absurd (none-ne-some _ e)
place_only (b ∷ bs) {p} e = go (eqb b (code ".")) (eqb_reflects b (code ".")) e
  where
    some_side : (p : List Side) → b ∷ bs ≡ sides p → b ∷ bs ≡ place p
    some_side [] e = absurd (cons-ne-nil b bs e)
    some_side (d ∷ p) e = e

    go : (t : Bool) → Reflects (b ≡ code ".") t → elim t [ true ↦ end [] bs | false ↦ read_sides (b ∷ bs) ] ≡ some p → b ∷ bs ≡ place p
    go true h e = let (nil, whole) = end_only [] bs e in rw (← whole, nil, h)
    go false h e = some_side p (sides_only (b ∷ bs) e)

-- pieces that are written as those of a line are its text
line_text : (n d p to : List ℕ) (ts : List (List ℕ)) (x : Line) → n ≡ law_name x.law → d ≡ direction x.direction → p ≡ place x.place
    → to ∷ ts ≡ items x.result → parted (code " ") (n ∷ d ∷ (ascii "at=" ++ p) ∷ (ascii "to=" ++ to) ∷ ts) ≡ step_value x
unfolding step_value parted write_term
line_text n d p to ts x law way at result =
    rw (law, way, at)
    (ap (λ l. law_name x.law ++ (code " " ∷ (direction x.direction ++ (code " " ∷ ((ascii "at=" ++ place x.place) ++ (code " " ∷ l))))))
    (parted_behind (code " ") (ascii "to=") to ts ∙ ap (λ l. ascii "to=" ++ parted (code " ") l) result))

pieces_only : (ws : List Law) (ps : List (List ℕ)) {x : Line} → read_pieces ws ps ≡ some x → parted (code " ") ps ≡ step_value x
unfolding read_pieces
pieces_only ws [] e = absurd (none-ne-some _ e)
pieces_only ws (n ∷ []) e = absurd (none-ne-some _ e)
pieces_only ws (n ∷ d ∷ []) e = absurd (none-ne-some _ e)
pieces_only ws (n ∷ d ∷ p ∷ []) e = absurd (none-ne-some _ e)
pieces_only ws (n ∷ d ∷ p ∷ t ∷ ts) {x} e =
    some_then (read_law ws n) _ e λ law named e.
    some_then (read_direction d) _ e λ way turned e.
    some_then (after (ascii "at=") p) _ e λ at behind-at e.
    some_then (read_place at) _ e λ sides placed e.
    some_then (after (ascii "to=") t) _ e λ to behind-to e.
    some_then (read token (to ∷ ts)) _ e λ result spelled e.
    let line : Line = record { law = law; direction = way; place = sides; result = result } in
    let whole : x ≡ line = cc in
    rw (whole, after_only (ascii "at=") p behind-at, after_only (ascii "to=") t behind-to)
    (line_text n d at to ts line (law_only ws n named) (direction_only d turned) (place_only at placed) (rw spelled at (read_spells (to ∷ ts))).1)

pub read_step_only : (ws : List Law) (bs : List ℕ) {x : Line} → read_step ws bs ≡ some x → bs ≡ step_value x
unfolding read_step
read_step_only ws bs e = sym (parted_pieces (code " ") bs) ∙ pieces_only ws (pieces (code " ") bs) e
