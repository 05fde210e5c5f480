-- The candidates of two runs: what a renaming makes of them, and the least over all renamings.
use Rattle.std.proofs.Common.{◌≡◌, ℕ, ◌-◌, ◌≤◌, List, length, take, sym, ap, ◌∙◌, ap₂, arith}
use lib.ListN.{length-map}
use lib.Seq.{sets}
use Rattle.terms.specs.Compare.{order_numbers}
use Rattle.terms.specs.Equation.{orient}
use Rattle.words.specs.Rename.{by_renaming, least}
use Rattle.words.specs.Decoded.{factorial, least_to}
use Rattle.words.specs.RenameRun.{rename_number, rename_run}
use Rattle.words.specs.Candidate.{Room, candidate}
use Rattle.words.proofs.Decoded.{least_numbered}
use Rattle.words.proofs.Parts.{front_stored}
use Rattle.words.proofs.Visited.{Made}

-- a run renamed at the front of a buffer of n numbers
module _ (f : ℕ → ℕ) (xs buffer : List ℕ) {x u : List ℕ} {n : ℕ} (b : length buffer ≡ n)
    (e : x ≡ sets buffer 0 (rename_run f xs)) (d : u ≡ take (length xs) x) (h : length xs ≤ n) where
  pub renamed_front : u ≡ rename_run f xs
  renamed_front =
      d ∙ rw (e, ← length-map xs (rename_number f)) (front_stored buffer (rename_run f xs) (omega (arith, length-map xs (rename_number f))))

  renamed_short : length u ≤ n
  renamed_short = omega (arith, ap length renamed_front, length-map xs (rename_number f))

-- both sides
pub terms_made : (new : ℕ → ℕ) (xs ys bx by : List ℕ) {x y u v : List ℕ} {room : ℕ} → length bx ≡ 31 → length by ≡ 31
    → x ≡ sets bx 0 (rename_run new xs) → y ≡ sets by 0 (rename_run new ys)
    → u ≡ take (length xs) x → v ≡ take (length ys) y → Room 31 xs ys room → Made 31 (orient order_numbers (rename_run new xs) (rename_run new ys)) u v room
terms_made new xs ys bx by p q e e' d d' h =
    record {
      room =
          record {
            first = renamed_short new xs bx p e d h.first;
            second = renamed_short new ys by q e' d' h.second;
            sides = h.sides;
          };
      equation = ap₂ (orient order_numbers) (renamed_front new xs bx p e d h.first) (renamed_front new ys by q e' d' h.second);
    }

pub least_candidate : (names xs ys : List ℕ)
    → least_to order_numbers (candidate names xs ys) (factorial (length names) - 1) ≡ least order_numbers rename_run names xs ys
unfolding by_renaming
least_candidate names xs ys = sym (least_numbered order_numbers rename_run names xs ys)
