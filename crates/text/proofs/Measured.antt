-- A text measured on an output of no bytes, and then written where it fits.
use Prim.Native.Nat.{ℕ, ◌≤◌, ◌<◌}
use mathlib.Core.Path.{◌≡◌, refl, sym, ap, subst, ◌∙◌}
use mathlib.Core.List.{List, [], ◌++◌}
use native.Mathlib.Nat.{zero-add}
use native.Mathlib.Omega.{arith}
use lib.ListN.{length, drop}
use Rattle.text.specs.Theory.Accepted.{fitting_room, fitting_short}
use Rattle.text.specs.Answer.{refused, fitting}
use Rattle.std.specs.Prelude.{Ok, Err}
use Rattle.text.specs.Entry.{Call, Gives}
use Rattle.text.specs.declared.refusal.Refusal.TheVariants.{ShortOutput}
use Rattle.text.specs.Put.{Put}
use Rattle.text.proofs.Overlay.{overlay_empty, overlay_fits}

-- a call that refuses by number
pub refuses : (n : ℕ) (out : List ℕ) → Call (refused n) out n out
refuses n out = record { number = refl; output = refl }

module _ {text o : List ℕ} {n : ℕ} (out : List ℕ) (measured : Put text [] 0 n o) where
  -- the output's front of no bytes, in front of the rest, is the output
  stays : o ++ out ≡ out
  stays = ap (λ (l : List ℕ). l ++ out) (measured.bytes ∙ overlay_empty 0 text)

  fits : {m : ℕ} {out' : List ℕ} → n ≤ length out → Put text out 0 m out' → Gives (fitting (length out) text) out (Ok n) out'
  fits {m} {out'} h p =
      let s : n ≡ length text = omega (arith, measured.next, p.room) in
      let f : length text ≤ length out = omega arith in
      (text, fitting_room (length out) text f, s, p.bytes ∙ overlay_fits out 0 text (omega arith) ∙ ap (λ k. text ++ drop k out) (zero-add (length text)))

  lacks : length out < n → Gives (fitting (length out) text) out (Err ShortOutput) out
  lacks h =
      let f : length out < length text = omega (arith, measured.next) in
      (fitting_short (length out) text f, refl)

  -- the same, where the output is still written as its front of no bytes and the rest
  pub fits_behind : {m : ℕ} {out' : List ℕ} → n ≤ length (o ++ out) → Put text (o ++ out) 0 m out' → Gives (fitting (length out) text) out (Ok n) out'
  fits_behind {m} {out'} h p = fits (omega (arith, ap length stays)) (subst (λ (l : List ℕ). Put text l 0 m out') stays p)

  pub lacks_behind : length (o ++ out) < n → Gives (fitting (length out) text) out (Err ShortOutput) (o ++ out)
  lacks_behind h = subst (λ (l : List ℕ). Gives (fitting (length out) text) out (Err ShortOutput) l) (sym stays) (lacks (omega (arith, ap length stays)))
