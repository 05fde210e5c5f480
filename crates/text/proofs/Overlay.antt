-- Texts put one after the other.
use mathlib.Core.Path.{◌≡◌, refl, sym, ap, subst, ◌∙◌}
use mathlib.Core.List.{List, [], ◌∷◌, ◌++◌, append_assoc}
use Prim.Native.Nat.{ℕ, suc, ◌+◌, ◌-◌, ◌≤◌, ◌<◌, min}
use native.Mathlib.Nat.{add-zero, add-suc, suc-add}
use native.Mathlib.Omega.{arith}
use mathlib.Core.Logic.{⊎_elim}
use borrow.Rule.Slice.PartMut.{put_mid}
use lib.ListN.{length, set, take, drop, length-set, length-append, drop_of_length-le}
use lib.Seq.{sets, sets-eq, set_out, length-take-le}
use Rattle.std.proofs.lemmas.List.{take-append-drop, drop-drop}
use Rattle.terms.specs.Theory.Order.{below?}
use Rattle.text.specs.Put.{overlay, Put, top}

-- one byte is a store, also past the end
overlay_one : (xs : List ℕ) (at b : ℕ) → overlay xs at (b ∷ []) ≡ set xs at b
unfolding overlay
overlay_one xs at b = refl

overlay_none : (xs : List ℕ) (at : ℕ) → overlay xs at [] ≡ xs
unfolding overlay
overlay_none xs at = refl

pub length_overlay : (xs : List ℕ) (at : ℕ) (ys : List ℕ) → length (overlay xs at ys) ≡ length xs
unfolding overlay
length_overlay xs at [] = refl
length_overlay xs at (y ∷ ys) = length_overlay (set xs at y) (suc at) ys ∙ length-set xs at y

-- one text after the other is one text
overlay_append : (xs : List ℕ) (a : ℕ) (ys zs : List ℕ) → overlay (overlay xs a ys) (a + length ys) zs ≡ overlay xs a (ys ++ zs)
unfolding overlay
overlay_append xs a [] zs = ap (λ (n : ℕ). overlay xs n zs) (add-zero a)
overlay_append xs a (y ∷ ys) zs =
    ap (λ (n : ℕ). overlay (overlay (set xs a y) (suc a) ys) n zs) (add-suc a (length ys) ∙ sym (suc-add a (length ys)))
    ∙ overlay_append (set xs a y) (suc a) ys zs

-- a text that fits is a front, the text and the rest
overlay_sets : (xs : List ℕ) (a : ℕ) (ys : List ℕ) → overlay xs a ys ≡ sets xs a ys
unfolding overlay
overlay_sets xs a [] = refl
overlay_sets xs a (y ∷ ys) = overlay_sets (set xs a y) (suc a) ys

pub overlay_fits : (xs : List ℕ) (a : ℕ) (ys : List ℕ) → a + length ys ≤ length xs → overlay xs a ys ≡ take a xs ++ ys ++ drop (a + length ys) xs
overlay_fits xs a ys h = overlay_sets xs a ys ∙ sets-eq ys xs a h

-- an output of no bytes stays as it is
pub overlay_empty : (a : ℕ) (ys : List ℕ) → overlay [] a ys ≡ []
unfolding overlay
overlay_empty a [] = refl
overlay_empty a (y ∷ ys) = overlay_empty (suc a) ys

-- past the end nothing changes
overlay_past : (xs : List ℕ) (a : ℕ) (ys : List ℕ) → length xs ≤ a → overlay xs a ys ≡ xs
unfolding overlay
overlay_past xs a [] h = refl
overlay_past xs a (y ∷ ys) h = ap (λ (l : List ℕ). overlay l (suc a) ys) (set_out xs a y h) ∙ overlay_past xs (suc a) ys (omega arith)

-- a position may stop at the top, where nothing is put
overlay_top : (xs : List ℕ) (a : ℕ) (ys : List ℕ) → length xs < top → overlay xs (min top a) ys ≡ overlay xs a ys
overlay_top xs a ys h =
    ⊎_elim
    (λ low. let e : min top a ≡ a = omega arith in ap (λ (n : ℕ). overlay xs n ys) e)
    (λ high. overlay_past xs (min top a) ys (omega arith) ∙ sym (overlay_past xs a ys (omega arith)))
    (below? a top)

-- ---- puts

-- two puts in a row are one
pub then : {ys zs o o₁ o₂ : List ℕ} {a b c : ℕ} → Put ys o a b o₁ → Put zs o₁ b c o₂ → Put (ys ++ zs) o a c o₂
then {ys} {zs} {o} {o₁} {o₂} {a} {b} {c} p q =
    record {
      next = omega (arith, p.next, q.next, length-append ys zs);
      bytes =
          q.bytes
          ∙ ap (λ (n : ℕ). overlay o₁ n zs) p.next
          ∙ overlay_top o₁ (a + length ys) zs q.room
          ∙ ap (λ (l : List ℕ). overlay l (a + length ys) zs) p.bytes
          ∙ overlay_append o a ys zs;
      room = p.room;
    }

-- nothing put
pub put_none : (o : List ℕ) (a : ℕ) → length o < top → a ≤ top → Put [] o a a o
put_none o a h k = record { next = omega arith; bytes = sym (overlay_none o a); room = h }

-- the same text, said another way
pub put_as : {ys zs o o' : List ℕ} {a r : ℕ} → ys ≡ zs → Put ys o a r o' → Put zs o a r o'
put_as {o = o} {o'} {a} {r} e p = subst (λ t. Put t o a r o') e p

-- a part of a text, as far as the output goes, is all of it that can be stored
pub overlay_part : (xs : List ℕ) (a : ℕ) (ys zs : List ℕ) (n : ℕ) → a < length xs → n ≡ min (length ys) (length xs - a) → zs ≡ take n ys
    → put_mid a (a + n - a) xs zs ≡ overlay xs a ys
overlay_part xs a ys zs n h e is = placed ∙ sym (overlay_fits xs a (take n ys) fits) ∙ sym rest_out ∙ whole
  where
    count : length (take n ys) ≡ n
    count = length-take-le n ys (omega arith)

    fits : a + length (take n ys) ≤ length xs
    fits = omega (arith, count)

    placed : put_mid a (a + n - a) xs zs ≡ take a xs ++ take n ys ++ drop (a + length (take n ys)) xs
    placed =
        let m : a + n - a ≡ n = omega arith in
        rw (is, m, drop-drop n a xs, count) (sym (append_assoc (take a xs) (take n ys) (drop (a + n) xs)))

    -- what is left of the text is nothing, or past the end
    rest_out : overlay (overlay xs a (take n ys)) (a + length (take n ys)) (drop n ys) ≡ overlay xs a (take n ys)
    rest_out =
        ⊎_elim
        (λ more. overlay_past (overlay xs a (take n ys)) (a + length (take n ys)) (drop n ys) (omega (arith, length_overlay xs a (take n ys), count)))
        (λ all. rw (drop_of_length-le ys {i = n} all) (overlay_none (overlay xs a (take n ys)) (a + length (take n ys))))
        (below? n (length ys))

    whole : overlay (overlay xs a (take n ys)) (a + length (take n ys)) (drop n ys) ≡ overlay xs a ys
    whole = overlay_append xs a (take n ys) (drop n ys) ∙ ap (overlay xs a) (take-append-drop n ys)

-- nothing is stored past the end
pub overlay_out : (xs : List ℕ) (a : ℕ) (ys : List ℕ) → length xs ≤ a → xs ≡ overlay xs a ys
overlay_out xs a ys h = sym (overlay_past xs a ys h)

-- one byte, and three
pub overlay_byte : (xs : List ℕ) (a b : ℕ) → set xs a b ≡ overlay xs a (b ∷ [])
overlay_byte xs a b = sym (overlay_one xs a b)

pub overlay_three : (xs : List ℕ) (a x y z : ℕ) → set (set (set xs a x) (a + 1) y) (a + 2) z ≡ overlay xs a (x ∷ y ∷ z ∷ [])
unfolding overlay
overlay_three xs a x y z =
    let e : a + 1 ≡ suc a = omega arith in
    let f : a + 2 ≡ suc (suc a) = omega arith in
    rw (e, f)
