-- The text that a program prints stands at the front of its output: a call's answer, or the lines of its refusal.
use Prim.Native.Nat.{ℕ, ◌+◌, ◌-◌, ◌/◌, ◌%◌, ◌≤◌, ◌<◌}
use mathlib.Core.Path.{◌≡◌, refl, sym, ap, ◌∙◌}
use mathlib.Core.Logic.{⊎_elim}
use mathlib.Core.List.{List, [], ◌∷◌}
use native.Mathlib.Omega.{arith}
use lib.ListN.{length, take, drop, length-append, length-take}
use lib.Seq.{take_at}
use Rattle.terms.specs.Theory.Order.{below?}
use Rattle.text.specs.Bytes.{ascii, number}
use Rattle.text.specs.Answer.{Answer, refused, field, printed}
use Rattle.text.specs.Entry.{returned}
use Rattle.text.specs.Claims.{CallClaims}
use Rattle.text.specs.Put.{Put}
use Rattle.text.specs.Prints.{Prints, PrintsReturned}
use Rattle.text.proofs.Decimal.{number_small, number_more}
use Rattle.text.proofs.Overlay.{overlay_fits}

-- a text put at the start of an output that has room for it
put_in_front : (t out out' : List ℕ) (r : ℕ) → Put t out 0 r out' → length t ≤ length out → Prints t out' r
put_in_front t out out' r p h =
    let e : r ≡ length t = omega (arith, p.next, p.room) in
    let rest = drop (0 + length t) out in
    rw (e, p.bytes, overlay_fits out 0 t (omega arith)) (record { fits = omega (arith, length-append t rest); front = take_at t rest (length t) refl })

short_number : (n : ℕ) → n < 100 → length (number n) ≤ 2
short_number n h =
    ⊎_elim
    (λ small. rw (number_small n small) (omega arith))
    (λ large.
    rw (number_more n large, length-append (number (n / 10)) ((48 + n % 10) ∷ []), number_small (n / 10) (omega arith)) (omega arith))
    (below? n 10)

-- a refusal's two lines
refusal_short : (n : ℕ) → n < 100 → length (printed (refused n)) ≤ 25
unfolding printed field ascii
refusal_short n h = omega (arith, length-append (number n) (10 ∷ []), short_number n h)

module _ {ns : List ℕ} {a : Answer (List ℕ)} {out : List ℕ} {r : ℕ} {out' : List ℕ} (claims : CallClaims ns a out r out') where
  -- from 100 on the number is an answer's, whose text is printed as it stands
  answer_prints : r ≡ returned a → 100 ≤ r → Prints (printed a) out' (r - 100)
  unfolding printed
  answer_prints number h =
      let length_told : r ≡ 100 + length (take (r - 100) out') = number ∙ ap returned (claims.text h) in
      record {
        fits = omega (arith, length_told, length-take (r - 100) out');
        front = sym (ap printed (claims.text h));
      }

  -- below 100 it is a refusal's
  refusal_prints : r < 100 → 25 ≤ length out → {m : ℕ} {out'' : List ℕ} → Put (printed (refused r)) out' 0 m out'' → Prints (printed a) out'' m
  refusal_prints h room {m} {out''} p =
      rw (claims.refusal.0 h)
      (put_in_front (printed (refused r)) out' out'' m p (omega (arith, refusal_short r h, ap length (claims.untouched h))))

  -- so that what is printed by the number is what is due
  pub call_prints : r ≡ returned a → 25 ≤ length out → {m : ℕ} {out'' : List ℕ} → PrintsReturned r out' m out'' → Prints (printed a) out'' m
  call_prints number room p =
      ⊎_elim
      (λ small. refusal_prints small room (p.refusal small))
      (λ large. let (length, same) = p.answer large in rw (length, same) (answer_prints number large))
      (below? r 100)
