-- A permutation made from one of the numbers after the first: the first number is put in at its place.
use Rattle.std.proofs.Common.{◌≡◌, ℕ, zero, suc, ◌+◌, ◌-◌, ◌/◌, ◌%◌, ◌≤◌, List, ◌++◌, length, get_or, take, drop, refl, ap, ◌∙◌, mod-lt, add-one, arith, length-take-le, take-suc, take_at}
use Rattle.terms.specs.Numbers.{put_in}
use Rattle.terms.proofs.Inserted.{put_in_room}
use Rattle.words.specs.Decoded.{place_in, decoded}
use Rattle.words.proofs.Decoded.{decoded_length}

pub none_permuted : (k i c : ℕ) (out : List ℕ) → k ≡ 0 → take k out ≡ decoded k i c
unfolding decoded
none_permuted k i c out e = rw e

pub one_more_permuted : (k i c : ℕ) (out s : List ℕ) → (k ≡ 0 → ⊥) → k ≤ length out
    → take (k - 1) out ≡ decoded (k - 1) (i + 1) (c / k) → s ≡ put_in (c % k) i (take k out)
    → take k (s ++ drop k out) ≡ decoded k i c
unfolding decoded place_in
one_more_permuted zero i c out s h l e p = absurd (h refl)
one_more_permuted (suc k) i c out s h l e p =
    take_at s (drop (suc k) out) (suc k) (ap length made ∙ decoded_length (suc k) i c) ∙ made
  where
    before : take k out ≡ decoded k (suc i) (c / suc k)
    before = let d : suc k - 1 ≡ k = omega arith in rw (d, add-one) at e

    made : s ≡ decoded (suc k) i c
    made =
        let h : c % suc k ≤ length (take k out) = omega (arith, mod-lt c {m = suc k} (omega arith), length-take-le k out (omega arith)) in
        p ∙ rw (take-suc out k 0 l, put_in_room i (take k out) (get_or out k 0) (c % suc k) h) (rw before)
